-- A code for frames and for descriptions with their names, by which a proof tells them apart.
use Rattle.std.specs.Prelude.{ℕ, List, refl}
use Rattle.std.proofs.Common.{sym, ap, ◌∙◌}
use Rattle.std.specs.Coded.{Coded, code_by, coded×, coded_ℕ, coded_list}
use Rattle.sky_base.specs.Val.{Val, Pairs, Desc}
use Rattle.sky_base.specs.Code.{val_code, pairs_code, desc_code, desc_back, desc_same}
use Rattle.sky_base.specs.Read.{Todo, Frame}
use Rattle.sky_base.specs.ScriptCode.{text_code}

abbrev pub todo_code : Coded Todo
todo_code =
    code_by (ℕ × ℕ) (coded× coded_ℕ coded_ℕ) (λ t. (t.node, t.step)) (λ p. record { node = p.0; step = p.1 }) (λ _. refl)

abbrev pub todos_code : Coded (List Todo)
todos_code = coded_list todo_code

abbrev pub stack_code : Coded (List (Val (List ℕ)))
stack_code = coded_list val_code

abbrev pub frame_code : Coded (Frame (List ℕ))
frame_code =
    code_by (List ℕ × (Pairs (List ℕ) × (List (Val (List ℕ)) × List Todo))) (coded× text_code (coded× pairs_code (coded× stack_code todos_code)))
    (λ f. (f.fun, (f.vars, (f.stack, f.todo)))) (λ p. record { fun = p.0; vars = p.1.0; stack = p.1.1.0; todo = p.1.1.1 }) (λ _. refl)

abbrev pub frames_code : Coded (List (Frame (List ℕ)))
frames_code = coded_list frame_code

abbrev pub one_code : Coded (Desc (List ℕ))
one_code = record { code = desc_code; inj = λ x y e. sym (desc_same x) ∙ ap desc_back e ∙ desc_same y }

abbrev pub spawned_code : Coded (List (List ℕ × Desc (List ℕ)))
spawned_code = coded_list (coded× text_code one_code)
