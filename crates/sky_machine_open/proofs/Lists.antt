-- Lists of values and of names, one more at a time.
use Rattle.std.proofs.Common.{◌≡◌, ℕ, List, [], ◌∷◌, ◌++◌, Option, Some, None, refl, sym, ap, ◌∙◌, append_assoc}
use Rattle.std.specs.Option.{option_map}
use Rattle.sky_base.specs.Val.{Val, Vals, Desc, no_vals, val, known, add_val}
use Rattle.sky_base.specs.View.{view}
use Rattle.sky_base.specs.Names.{known_of}
use Rattle.sky_base.specs.declared.value.Value.{Value}
use Rattle.sky_base.proofs.Gathers.{known_of-push}
use Rattle.sky_base_scope.specs.Plain.{items}
use Rattle.sky_state.specs.StandView.{stack_view}

pub items_push : (vs : Vals (List ℕ)) (v : Val (List ℕ)) → items (add_val vs v) ≡ items vs ++ v ∷ []
items_push no_vals v = refl
items_push (val u vs) v = ap (λ xs. u ∷ xs) (items_push vs v)

pub stack_push : (vs : List Value) (v : Value) → stack_view (vs ++ v ∷ []) ≡ stack_view vs ++ view v ∷ []
stack_push [] v = refl
stack_push (u ∷ vs) v = ap (λ xs. view u ∷ xs) (stack_push vs v)

pub refs_step : (ns : List (List ℕ)) (n : List ℕ) (o : Option (List (Desc (List ℕ))))
    → option_map (λ ds. known_of ns ++ ds) (option_map (λ ds. known n ∷ ds) o) ≡ option_map (λ ds. known_of (ns ++ n ∷ []) ++ ds) o
refs_step ns n None = refl
refs_step ns n (Some ds) = ap Some (sym (append_assoc (known_of ns) (known n ∷ []) ds) ∙ ap (λ xs. xs ++ ds) (sym (known_of-push ns n)))
