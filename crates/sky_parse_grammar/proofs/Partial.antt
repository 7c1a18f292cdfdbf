-- A partial tree spells the fronts of what the tree spells.
use Rattle.std.proofs.Common.{◌≡◌, inl, inr, List, [], ◌∷◌, ◌++◌, refl, sym, ap}
use Rattle.sky_base.specs.Tree.{Place, Form, Junction, SignAt}
use Rattle.sky_text.specs.declared.token.Sign.{Sign}
use Rattle.sky_text.specs.declared.token.Word.{Word}
use Rattle.sky_text.specs.declared.token.TokenKind.{TokenKind}
use Rattle.sky_parse_grammar.specs.Grammar.{Mark, Fun, sign, sign_at, word, word_at, name_at, lit_kind, oper_sign, junction_sign, prefix_sign, started}
use Rattle.sky_parse_grammar.specs.Grammar.{spell, spell_signs, spell_exps, spell_others, spell_pairs, spell_value, spell_other_pairs, spell_links}
use Rattle.sky_parse_grammar.specs.Grammar.{spell_ands, spell_steps, spell_stm, spell_stms, spell_arms, spell_other_arms, spell_else, spell_block}
use Rattle.sky_parse_grammar.specs.Grammar.{spell_other_params, spell_params, spell_fun}
use Rattle.sky_parse_grammar.specs.Source.{Param}
use Rattle.sky_parse_grammar.specs.Tops.{Top, spell_top, spell_tops}
use Rattle.sky_parse_grammar.specs.Partial.{tok, begun, cut, cut_signs, cut_exps, cut_others, cut_pairs, cut_value, cut_other_pairs, cut_links, cut_ands}
use Rattle.sky_parse_grammar.specs.Partial.{cut_steps, cut_stm, cut_stms, cut_arms, cut_other_arms, cut_else, cut_block, cut_other_params, cut_params}
use Rattle.sky_parse_grammar.specs.Partial.{cut_fun, cut_top, cut_tops, IsPartial}
use Rattle.sky_parse_grammar.specs.Source.{Exp, Exps, Links, Ands, Steps, Stm, Stms, Arms, Else}

abbrev pub IsFront : List Mark → List Mark → Type 0
IsFront ms all = (rest : List Mark) × (all ≡ ms ++ rest)

abbrev Fronts : (List Mark → Type 0) → List Mark → Type 0
Fronts K all = (ms : List Mark) → K ms → IsFront ms all

abbrev Covers : (List Mark → Type 0) → List Mark → Type 0
Covers K all = (ms : List Mark) → IsFront ms all → K ms

tok_front : (m : Mark) (K : List Mark → Type 0) (more : List Mark) → Fronts K more → Fronts (tok m K) (m ∷ more)
tok_front m K more h ms (inl e) = (m ∷ more, rw e refl)
tok_front m K more h ms (inr x) = let y = h x.0 x.2 in (y.0, rw x.1 (ap (λ (l : List Mark). m ∷ l) y.1))

tok_back : (m : Mark) (K : List Mark → Type 0) (more : List Mark) → Covers K more → Covers (tok m K) (m ∷ more)
tok_back m K more h [] f = inl refl
tok_back m K more h (x ∷ ms) f = let same : m ≡ x = cc (f.1) in let rest : more ≡ ms ++ f.0 = cc (f.1) in
    inr (ms, ap (λ (y : Mark). y ∷ ms) (sym same), h ms (f.0, rest))

begun_front : (p : Place) (K : List Mark → Type 0) (more : List Mark) → Fronts K more → Fronts (begun p K) (started p more)
begun_front p K [] h [] k = ([], refl)
begun_front p K (a ∷ more) h [] k = (Mark.also p a ∷ more, refl)
begun_front p K [] h (Mark.also q m ∷ ms) k = let y = h (m ∷ ms) k.1 in absurd (cc (y.1))
begun_front p K (a ∷ more) h (Mark.also q m ∷ ms) k = let y = h (m ∷ ms) k.1 in let e : a ≡ m = cc (y.1) in let r : more ≡ ms ++ y.0 =
    cc (y.1) in (y.0, cc (e, r, k.0))
begun_front p K more h (Mark.placed k q ∷ ms) f = absurd f
begun_front p K more h (Mark.plain k ∷ ms) f = absurd f

begun_back : (p : Place) (K : List Mark → Type 0) (more : List Mark) → Covers K more → Covers (begun p K) (started p more)
begun_back p K more h [] f = h [] (more, refl)
begun_back p K [] h (Mark.also q m ∷ ms) f = absurd (cc (f.1))
begun_back p K (a ∷ more) h (Mark.also q m ∷ ms) f = let q2 : q ≡ p = cc (f.1) in let e : a ≡ m = cc (f.1) in let r : more ≡ ms ++ f.0 =
    cc (f.1) in (q2, h (m ∷ ms) (f.0, cc (e, r)))
begun_back p K [] h (Mark.placed k q ∷ ms) f = absurd (cc (f.1))
begun_back p K (a ∷ more) h (Mark.placed k q ∷ ms) f = let e : Mark.also p a ≡ Mark.placed k q = cc (f.1) in absurd cc
begun_back p K [] h (Mark.plain k ∷ ms) f = absurd (cc (f.1))
begun_back p K (a ∷ more) h (Mark.plain k ∷ ms) f = let e : Mark.also p a ≡ Mark.plain k = cc (f.1) in absurd cc

cut_signs_front : (x : List SignAt) (K : List Mark → Type 0) (more : List Mark) → Fronts K more → Fronts (cut_signs x K) (spell_signs x more)
cut_signs_front [] K more h = h
cut_signs_front (s ∷ ss) K more h = tok_front (sign_at (prefix_sign s.sign) s.place) _ _ (cut_signs_front ss _ _ h)

cut_other_params_front : (x : List Param) (K : List Mark → Type 0) (more : List Mark) → Fronts K more
    → Fronts (cut_other_params x K) (spell_other_params x more)
cut_other_params_front [] K more h = h
cut_other_params_front (x ∷ xs) K more h = tok_front (sign Sign.Comma) _ _ (tok_front (name_at x.name x.place) _ _ (cut_other_params_front xs _ _ h))

cut_params_front : (x : List Param) (K : List Mark → Type 0) (more : List Mark) → Fronts K more → Fronts (cut_params x K) (spell_params x more)
cut_params_front [] K more h = h
cut_params_front (x ∷ xs) K more h = tok_front (name_at x.name x.place) _ _ (cut_other_params_front xs _ _ h)

mutual
  cut_front : (x : Exp) (K : List Mark → Type 0) (more : List Mark) → Fronts K more → Fronts (cut x K) (spell x more)
  cut_front (Exp.literal v p) K more h = tok_front (Mark.placed (lit_kind v) p) _ _ h
  cut_front (Exp.name x p) K more h = tok_front (name_at x p) _ _ h
  cut_front (Exp.func p xs b) K more h = tok_front (word_at Word.Function p) _ _
      (tok_front (sign Sign.OpenRound) _ _ (cut_params_front xs _ _
      (tok_front (sign Sign.CloseRound) _ _ (tok_front (sign Sign.OpenCurly) _ _
      (cut_stms_front b _ _ (tok_front (sign Sign.CloseCurly) _ _ h))))))
  cut_front (Exp.parens e) K more h = tok_front (sign Sign.OpenRound) _ _ (cut_front e _ _ (tok_front (sign Sign.CloseRound) _ _ h))
  cut_front (Exp.parts Form.list p es) K more h =
      tok_front (sign_at Sign.OpenSquare p) _ _ (cut_exps_front es _ _ (tok_front (sign Sign.CloseSquare) _ _ h))
  cut_front (Exp.parts Form.dict p es) K more h =
      tok_front (sign_at Sign.OpenCurly p) _ _ (cut_pairs_front es _ _ (tok_front (sign Sign.CloseCurly) _ _ h))
  cut_front (Exp.parts Form.spawn p es) K more h =
      tok_front (word_at Word.Spawn p) _ _ (tok_front (sign Sign.OpenRound) _ _ (cut_exps_front es _ _ (tok_front (sign Sign.CloseRound) _ _ h)))
  cut_front (Exp.parts Form.spawn_exec p es) K more h =
      tok_front (word_at Word.SpawnExec p) _ _ (tok_front (sign Sign.OpenRound) _ _
      (cut_exps_front es _ _ (tok_front (sign Sign.CloseRound) _ _ h)))
  cut_front (Exp.parts Form.exec p es) K more h =
      tok_front (word_at Word.Exec p) _ _ (tok_front (sign Sign.OpenRound) _ _ (cut_exps_front es _ _ (tok_front (sign Sign.CloseRound) _ _ h)))
  cut_front (Exp.parts Form.ref p es) K more h =
      tok_front (word_at Word.Ref p) _ _ (tok_front (sign Sign.OpenRound) _ _ (cut_exps_front es _ _ (tok_front (sign Sign.CloseRound) _ _ h)))
  cut_front (Exp.parts Form.len p es) K more h =
      tok_front (word_at Word.Len p) _ _ (tok_front (sign Sign.OpenRound) _ _ (cut_exps_front es _ _ (tok_front (sign Sign.CloseRound) _ _ h)))
  cut_front (Exp.parts Form.keys p es) K more h =
      tok_front (word_at Word.Keys p) _ _ (tok_front (sign Sign.OpenRound) _ _ (cut_exps_front es _ _ (tok_front (sign Sign.CloseRound) _ _ h)))
  cut_front (Exp.parts Form.has p es) K more h =
      tok_front (word_at Word.Has p) _ _ (tok_front (sign Sign.OpenRound) _ _ (cut_exps_front es _ _ (tok_front (sign Sign.CloseRound) _ _ h)))
  cut_front (Exp.parts Form.range p es) K more h =
      tok_front (word_at Word.Range p) _ _ (tok_front (sign Sign.OpenRound) _ _ (cut_exps_front es _ _ (tok_front (sign Sign.CloseRound) _ _ h)))
  cut_front (Exp.chain e ls) K more h = cut_front e _ _ (cut_links_front ls _ _ h)
  cut_front (Exp.logic j e ls) K more h = cut_front e _ _ (cut_ands_front j ls _ _ h)
  cut_front (Exp.prefix ss e) K more h = cut_signs_front ss _ _ (cut_front e _ _ h)
  cut_front (Exp.postfix e ss) K more h = cut_front e _ _ (cut_steps_front ss _ _ h)

  cut_exps_front : (x : Exps) (K : List Mark → Type 0) (more : List Mark) → Fronts K more → Fronts (cut_exps x K) (spell_exps x more)
  cut_exps_front Exps.no_exps K more h = h
  cut_exps_front (Exps.exp e es) K more h = cut_front e _ _ (cut_others_front es _ _ h)

  cut_others_front : (x : Exps) (K : List Mark → Type 0) (more : List Mark) → Fronts K more → Fronts (cut_others x K) (spell_others x more)
  cut_others_front Exps.no_exps K more h = h
  cut_others_front (Exps.exp e es) K more h = tok_front (sign Sign.Comma) _ _ (cut_front e _ _ (cut_others_front es _ _ h))

  cut_pairs_front : (x : Exps) (K : List Mark → Type 0) (more : List Mark) → Fronts K more → Fronts (cut_pairs x K) (spell_pairs x more)
  cut_pairs_front Exps.no_exps K more h = h
  cut_pairs_front (Exps.exp k es) K more h = cut_front k _ _ (cut_value_front es _ _ h)

  cut_value_front : (x : Exps) (K : List Mark → Type 0) (more : List Mark) → Fronts K more → Fronts (cut_value x K) (spell_value x more)
  cut_value_front Exps.no_exps K more h = h
  cut_value_front (Exps.exp v es) K more h = tok_front (sign Sign.Colon) _ _ (cut_front v _ _ (cut_other_pairs_front es _ _ h))

  cut_other_pairs_front : (x : Exps) (K : List Mark → Type 0) (more : List Mark) → Fronts K more
      → Fronts (cut_other_pairs x K) (spell_other_pairs x more)
  cut_other_pairs_front Exps.no_exps K more h = h
  cut_other_pairs_front (Exps.exp k es) K more h = tok_front (sign Sign.Comma) _ _ (cut_front k _ _ (cut_value_front es _ _ h))

  cut_links_front : (x : Links) (K : List Mark → Type 0) (more : List Mark) → Fronts K more → Fronts (cut_links x K) (spell_links x more)
  cut_links_front Links.no_links K more h = h
  cut_links_front (Links.link o p e ls) K more h = tok_front (sign_at (oper_sign o) p) _ _ (cut_front e _ _ (cut_links_front ls _ _ h))

  cut_ands_front : (j : Junction) (x : Ands) (K : List Mark → Type 0) (more : List Mark) → Fronts K more
      → Fronts (cut_ands j x K) (spell_ands j x more)
  cut_ands_front j Ands.no_ands K more h = h
  cut_ands_front j (Ands.and p e ls) K more h = tok_front (sign_at (junction_sign j) p) _ _ (cut_front e _ _ (cut_ands_front j ls _ _ h))

  cut_steps_front : (x : Steps) (K : List Mark → Type 0) (more : List Mark) → Fronts K more → Fronts (cut_steps x K) (spell_steps x more)
  cut_steps_front Steps.no_steps K more h = h
  cut_steps_front (Steps.index e p ss) K more h =
      tok_front (sign_at Sign.OpenSquare p) _ _ (cut_front e _ _ (tok_front (sign Sign.CloseSquare) _ _ (cut_steps_front ss _ _ h)))
  cut_steps_front (Steps.call es p ss) K more h =
      tok_front (sign_at Sign.OpenRound p) _ _ (cut_exps_front es _ _ (tok_front (sign Sign.CloseRound) _ _ (cut_steps_front ss _ _ h)))

  cut_stm_front : (x : Stm) (K : List Mark → Type 0) (more : List Mark) → Fronts K more → Fronts (cut_stm x K) (spell_stm x more)
  cut_stm_front (Stm.set x p e) K more h = tok_front (name_at x p) _ _
      (tok_front (sign Sign.Assign) _ _ (cut_front e _ _ (tok_front (sign Sign.Semicolon) _ _ h)))
  cut_stm_front (Stm.add x q p e) K more h = tok_front (name_at x q) _ _
      (tok_front (sign_at Sign.AddAssign p) _ _ (cut_front e _ _ (tok_front (sign Sign.Semicolon) _ _ h)))
  cut_stm_front (Stm.put x q p i e) K more h =
      tok_front (name_at x q) _ _ (tok_front (sign_at Sign.OpenSquare p) _ _
      (cut_front i _ _ (tok_front (sign Sign.CloseSquare) _ _
      (tok_front (sign Sign.Assign) _ _ (cut_front e _ _ (tok_front (sign Sign.Semicolon) _ _ h))))))
  cut_stm_front (Stm.return p e) K more h = tok_front (word_at Word.Return p) _ _ (cut_front e _ _ (tok_front (sign Sign.Semicolon) _ _ h))
  cut_stm_front (Stm.leave p) K more h = tok_front (word_at Word.Return p) _ _ (tok_front (sign Sign.Semicolon) _ _ h)
  cut_stm_front (Stm.cases p arms els) K more h = begun_front p _ _ (cut_arms_front arms _ _ (cut_else_front els _ _ h))
  cut_stm_front (Stm.while p e b) K more h = tok_front (word_at Word.While p) _ _
      (tok_front (sign Sign.OpenRound) _ _ (cut_front e _ _
      (tok_front (sign Sign.CloseRound) _ _ (tok_front (sign Sign.OpenCurly) _ _
      (cut_stms_front b _ _ (tok_front (sign Sign.CloseCurly) _ _ h))))))
  cut_stm_front (Stm.repeat p b e) K more h =
      tok_front (word_at Word.Do p) _ _ (tok_front (sign Sign.OpenCurly) _ _
      (cut_stms_front b _ _ (tok_front (sign Sign.CloseCurly) _ _
      (tok_front (word Word.While) _ _ (tok_front (sign Sign.OpenRound) _ _
      (cut_front e _ _ (tok_front (sign Sign.CloseRound) _ _ (tok_front (sign Sign.Semicolon) _ _ h))))))))
  cut_stm_front (Stm.for p x e b) K more h = tok_front (word_at Word.For p) _ _
      (tok_front (sign Sign.OpenRound) _ _ (tok_front (Mark.plain (TokenKind.Name x)) _ _
      (tok_front (word Word.In) _ _ (cut_front e _ _
      (tok_front (sign Sign.CloseRound) _ _ (tok_front (sign Sign.OpenCurly) _ _
      (cut_stms_front b _ _ (tok_front (sign Sign.CloseCurly) _ _ h))))))))
  cut_stm_front (Stm.just p e) K more h = begun_front p _ _ (cut_front e _ _ (tok_front (sign Sign.Semicolon) _ _ h))

  cut_stms_front : (x : Stms) (K : List Mark → Type 0) (more : List Mark) → Fronts K more → Fronts (cut_stms x K) (spell_stms x more)
  cut_stms_front Stms.no_stms K more h = h
  cut_stms_front (Stms.stm s ss) K more h = cut_stm_front s _ _ (cut_stms_front ss _ _ h)

  cut_arms_front : (x : Arms) (K : List Mark → Type 0) (more : List Mark) → Fronts K more → Fronts (cut_arms x K) (spell_arms x more)
  cut_arms_front Arms.no_arms K more h = h
  cut_arms_front (Arms.arm p e b arms) K more h =
      tok_front (word_at Word.If p) _ _ (tok_front (sign Sign.OpenRound) _ _
      (cut_front e _ _ (tok_front (sign Sign.CloseRound) _ _
      (tok_front (sign Sign.OpenCurly) _ _ (cut_stms_front b _ _ (tok_front (sign Sign.CloseCurly) _ _ (cut_other_arms_front arms _ _ h)))))))

  cut_other_arms_front : (x : Arms) (K : List Mark → Type 0) (more : List Mark) → Fronts K more
      → Fronts (cut_other_arms x K) (spell_other_arms x more)
  cut_other_arms_front Arms.no_arms K more h = h
  cut_other_arms_front (Arms.arm p e b arms) K more h =
      tok_front (word Word.Else) _ _ (tok_front (word_at Word.If p) _ _
      (tok_front (sign Sign.OpenRound) _ _ (cut_front e _ _
      (tok_front (sign Sign.CloseRound) _ _ (tok_front (sign Sign.OpenCurly) _ _
      (cut_stms_front b _ _ (tok_front (sign Sign.CloseCurly) _ _ (cut_other_arms_front arms _ _ h))))))))

  cut_else_front : (x : Else) (K : List Mark → Type 0) (more : List Mark) → Fronts K more → Fronts (cut_else x K) (spell_else x more)
  cut_else_front Else.no_else K more h = h
  cut_else_front (Else.otherwise b) K more h =
      tok_front (word Word.Else) _ _ (tok_front (sign Sign.OpenCurly) _ _ (cut_stms_front b _ _ (tok_front (sign Sign.CloseCurly) _ _ h)))

cut_block_front : (x : Stms) (K : List Mark → Type 0) (more : List Mark) → Fronts K more → Fronts (cut_block x K) (spell_block x more)
cut_block_front b K more h = tok_front (sign Sign.OpenCurly) _ _ (cut_stms_front b _ _ (tok_front (sign Sign.CloseCurly) _ _ h))

cut_fun_front : (x : Fun) (K : List Mark → Type 0) (more : List Mark) → Fronts K more → Fronts (cut_fun x K) (spell_fun x more)
cut_fun_front f K more h = tok_front (word Word.Function) _ _
    (tok_front (name_at f.name f.place) _ _ (tok_front (sign Sign.OpenRound) _ _
    (cut_params_front f.params _ _ (tok_front (sign Sign.CloseRound) _ _ (cut_block_front f.body _ _ h)))))

cut_top_front : (x : Top) (K : List Mark → Type 0) (more : List Mark) → Fronts K more → Fronts (cut_top x K) (spell_top x more)
cut_top_front (Top.fun f) K more h = cut_fun_front f _ _ h
cut_top_front (Top.stmt s) K more h = cut_stm_front s _ _ h

cut_tops_front : (x : List Top) (K : List Mark → Type 0) (more : List Mark) → Fronts K more → Fronts (cut_tops x K) (spell_tops x more)
cut_tops_front [] K more h = h
cut_tops_front (t ∷ ts) K more h = cut_top_front t _ _ (cut_tops_front ts _ _ h)

cut_signs_back : (x : List SignAt) (K : List Mark → Type 0) (more : List Mark) → Covers K more → Covers (cut_signs x K) (spell_signs x more)
cut_signs_back [] K more h = h
cut_signs_back (s ∷ ss) K more h = tok_back (sign_at (prefix_sign s.sign) s.place) _ _ (cut_signs_back ss _ _ h)

cut_other_params_back : (x : List Param) (K : List Mark → Type 0) (more : List Mark) → Covers K more
    → Covers (cut_other_params x K) (spell_other_params x more)
cut_other_params_back [] K more h = h
cut_other_params_back (x ∷ xs) K more h = tok_back (sign Sign.Comma) _ _ (tok_back (name_at x.name x.place) _ _ (cut_other_params_back xs _ _ h))

cut_params_back : (x : List Param) (K : List Mark → Type 0) (more : List Mark) → Covers K more → Covers (cut_params x K) (spell_params x more)
cut_params_back [] K more h = h
cut_params_back (x ∷ xs) K more h = tok_back (name_at x.name x.place) _ _ (cut_other_params_back xs _ _ h)

mutual
  cut_back : (x : Exp) (K : List Mark → Type 0) (more : List Mark) → Covers K more → Covers (cut x K) (spell x more)
  cut_back (Exp.literal v p) K more h = tok_back (Mark.placed (lit_kind v) p) _ _ h
  cut_back (Exp.name x p) K more h = tok_back (name_at x p) _ _ h
  cut_back (Exp.func p xs b) K more h = tok_back (word_at Word.Function p) _ _
      (tok_back (sign Sign.OpenRound) _ _ (cut_params_back xs _ _
      (tok_back (sign Sign.CloseRound) _ _ (tok_back (sign Sign.OpenCurly) _ _ (cut_stms_back b _ _ (tok_back (sign Sign.CloseCurly) _ _ h))))))
  cut_back (Exp.parens e) K more h = tok_back (sign Sign.OpenRound) _ _ (cut_back e _ _ (tok_back (sign Sign.CloseRound) _ _ h))
  cut_back (Exp.parts Form.list p es) K more h =
      tok_back (sign_at Sign.OpenSquare p) _ _ (cut_exps_back es _ _ (tok_back (sign Sign.CloseSquare) _ _ h))
  cut_back (Exp.parts Form.dict p es) K more h =
      tok_back (sign_at Sign.OpenCurly p) _ _ (cut_pairs_back es _ _ (tok_back (sign Sign.CloseCurly) _ _ h))
  cut_back (Exp.parts Form.spawn p es) K more h =
      tok_back (word_at Word.Spawn p) _ _ (tok_back (sign Sign.OpenRound) _ _ (cut_exps_back es _ _ (tok_back (sign Sign.CloseRound) _ _ h)))
  cut_back (Exp.parts Form.spawn_exec p es) K more h =
      tok_back (word_at Word.SpawnExec p) _ _ (tok_back (sign Sign.OpenRound) _ _ (cut_exps_back es _ _ (tok_back (sign Sign.CloseRound) _ _ h)))
  cut_back (Exp.parts Form.exec p es) K more h =
      tok_back (word_at Word.Exec p) _ _ (tok_back (sign Sign.OpenRound) _ _ (cut_exps_back es _ _ (tok_back (sign Sign.CloseRound) _ _ h)))
  cut_back (Exp.parts Form.ref p es) K more h =
      tok_back (word_at Word.Ref p) _ _ (tok_back (sign Sign.OpenRound) _ _ (cut_exps_back es _ _ (tok_back (sign Sign.CloseRound) _ _ h)))
  cut_back (Exp.parts Form.len p es) K more h =
      tok_back (word_at Word.Len p) _ _ (tok_back (sign Sign.OpenRound) _ _ (cut_exps_back es _ _ (tok_back (sign Sign.CloseRound) _ _ h)))
  cut_back (Exp.parts Form.keys p es) K more h =
      tok_back (word_at Word.Keys p) _ _ (tok_back (sign Sign.OpenRound) _ _ (cut_exps_back es _ _ (tok_back (sign Sign.CloseRound) _ _ h)))
  cut_back (Exp.parts Form.has p es) K more h =
      tok_back (word_at Word.Has p) _ _ (tok_back (sign Sign.OpenRound) _ _ (cut_exps_back es _ _ (tok_back (sign Sign.CloseRound) _ _ h)))
  cut_back (Exp.parts Form.range p es) K more h =
      tok_back (word_at Word.Range p) _ _ (tok_back (sign Sign.OpenRound) _ _ (cut_exps_back es _ _ (tok_back (sign Sign.CloseRound) _ _ h)))
  cut_back (Exp.chain e ls) K more h = cut_back e _ _ (cut_links_back ls _ _ h)
  cut_back (Exp.logic j e ls) K more h = cut_back e _ _ (cut_ands_back j ls _ _ h)
  cut_back (Exp.prefix ss e) K more h = cut_signs_back ss _ _ (cut_back e _ _ h)
  cut_back (Exp.postfix e ss) K more h = cut_back e _ _ (cut_steps_back ss _ _ h)

  cut_exps_back : (x : Exps) (K : List Mark → Type 0) (more : List Mark) → Covers K more → Covers (cut_exps x K) (spell_exps x more)
  cut_exps_back Exps.no_exps K more h = h
  cut_exps_back (Exps.exp e es) K more h = cut_back e _ _ (cut_others_back es _ _ h)

  cut_others_back : (x : Exps) (K : List Mark → Type 0) (more : List Mark) → Covers K more → Covers (cut_others x K) (spell_others x more)
  cut_others_back Exps.no_exps K more h = h
  cut_others_back (Exps.exp e es) K more h = tok_back (sign Sign.Comma) _ _ (cut_back e _ _ (cut_others_back es _ _ h))

  cut_pairs_back : (x : Exps) (K : List Mark → Type 0) (more : List Mark) → Covers K more → Covers (cut_pairs x K) (spell_pairs x more)
  cut_pairs_back Exps.no_exps K more h = h
  cut_pairs_back (Exps.exp k es) K more h = cut_back k _ _ (cut_value_back es _ _ h)

  cut_value_back : (x : Exps) (K : List Mark → Type 0) (more : List Mark) → Covers K more → Covers (cut_value x K) (spell_value x more)
  cut_value_back Exps.no_exps K more h = h
  cut_value_back (Exps.exp v es) K more h = tok_back (sign Sign.Colon) _ _ (cut_back v _ _ (cut_other_pairs_back es _ _ h))

  cut_other_pairs_back : (x : Exps) (K : List Mark → Type 0) (more : List Mark) → Covers K more
      → Covers (cut_other_pairs x K) (spell_other_pairs x more)
  cut_other_pairs_back Exps.no_exps K more h = h
  cut_other_pairs_back (Exps.exp k es) K more h = tok_back (sign Sign.Comma) _ _ (cut_back k _ _ (cut_value_back es _ _ h))

  cut_links_back : (x : Links) (K : List Mark → Type 0) (more : List Mark) → Covers K more → Covers (cut_links x K) (spell_links x more)
  cut_links_back Links.no_links K more h = h
  cut_links_back (Links.link o p e ls) K more h = tok_back (sign_at (oper_sign o) p) _ _ (cut_back e _ _ (cut_links_back ls _ _ h))

  cut_ands_back : (j : Junction) (x : Ands) (K : List Mark → Type 0) (more : List Mark) → Covers K more
      → Covers (cut_ands j x K) (spell_ands j x more)
  cut_ands_back j Ands.no_ands K more h = h
  cut_ands_back j (Ands.and p e ls) K more h = tok_back (sign_at (junction_sign j) p) _ _ (cut_back e _ _ (cut_ands_back j ls _ _ h))

  cut_steps_back : (x : Steps) (K : List Mark → Type 0) (more : List Mark) → Covers K more → Covers (cut_steps x K) (spell_steps x more)
  cut_steps_back Steps.no_steps K more h = h
  cut_steps_back (Steps.index e p ss) K more h =
      tok_back (sign_at Sign.OpenSquare p) _ _ (cut_back e _ _ (tok_back (sign Sign.CloseSquare) _ _ (cut_steps_back ss _ _ h)))
  cut_steps_back (Steps.call es p ss) K more h =
      tok_back (sign_at Sign.OpenRound p) _ _ (cut_exps_back es _ _ (tok_back (sign Sign.CloseRound) _ _ (cut_steps_back ss _ _ h)))

  cut_stm_back : (x : Stm) (K : List Mark → Type 0) (more : List Mark) → Covers K more → Covers (cut_stm x K) (spell_stm x more)
  cut_stm_back (Stm.set x p e) K more h = tok_back (name_at x p) _ _
      (tok_back (sign Sign.Assign) _ _ (cut_back e _ _ (tok_back (sign Sign.Semicolon) _ _ h)))
  cut_stm_back (Stm.add x q p e) K more h = tok_back (name_at x q) _ _
      (tok_back (sign_at Sign.AddAssign p) _ _ (cut_back e _ _ (tok_back (sign Sign.Semicolon) _ _ h)))
  cut_stm_back (Stm.put x q p i e) K more h =
      tok_back (name_at x q) _ _ (tok_back (sign_at Sign.OpenSquare p) _ _
      (cut_back i _ _ (tok_back (sign Sign.CloseSquare) _ _
      (tok_back (sign Sign.Assign) _ _ (cut_back e _ _ (tok_back (sign Sign.Semicolon) _ _ h))))))
  cut_stm_back (Stm.return p e) K more h = tok_back (word_at Word.Return p) _ _ (cut_back e _ _ (tok_back (sign Sign.Semicolon) _ _ h))
  cut_stm_back (Stm.leave p) K more h = tok_back (word_at Word.Return p) _ _ (tok_back (sign Sign.Semicolon) _ _ h)
  cut_stm_back (Stm.cases p arms els) K more h = begun_back p _ _ (cut_arms_back arms _ _ (cut_else_back els _ _ h))
  cut_stm_back (Stm.while p e b) K more h = tok_back (word_at Word.While p) _ _
      (tok_back (sign Sign.OpenRound) _ _ (cut_back e _ _
      (tok_back (sign Sign.CloseRound) _ _ (tok_back (sign Sign.OpenCurly) _ _ (cut_stms_back b _ _ (tok_back (sign Sign.CloseCurly) _ _ h))))))
  cut_stm_back (Stm.repeat p b e) K more h = tok_back (word_at Word.Do p) _ _
      (tok_back (sign Sign.OpenCurly) _ _ (cut_stms_back b _ _
      (tok_back (sign Sign.CloseCurly) _ _ (tok_back (word Word.While) _ _
      (tok_back (sign Sign.OpenRound) _ _ (cut_back e _ _ (tok_back (sign Sign.CloseRound) _ _ (tok_back (sign Sign.Semicolon) _ _ h))))))))
  cut_stm_back (Stm.for p x e b) K more h = tok_back (word_at Word.For p) _ _
      (tok_back (sign Sign.OpenRound) _ _ (tok_back (Mark.plain (TokenKind.Name x)) _ _
      (tok_back (word Word.In) _ _ (cut_back e _ _
      (tok_back (sign Sign.CloseRound) _ _ (tok_back (sign Sign.OpenCurly) _ _
      (cut_stms_back b _ _ (tok_back (sign Sign.CloseCurly) _ _ h))))))))
  cut_stm_back (Stm.just p e) K more h = begun_back p _ _ (cut_back e _ _ (tok_back (sign Sign.Semicolon) _ _ h))

  cut_stms_back : (x : Stms) (K : List Mark → Type 0) (more : List Mark) → Covers K more → Covers (cut_stms x K) (spell_stms x more)
  cut_stms_back Stms.no_stms K more h = h
  cut_stms_back (Stms.stm s ss) K more h = cut_stm_back s _ _ (cut_stms_back ss _ _ h)

  cut_arms_back : (x : Arms) (K : List Mark → Type 0) (more : List Mark) → Covers K more → Covers (cut_arms x K) (spell_arms x more)
  cut_arms_back Arms.no_arms K more h = h
  cut_arms_back (Arms.arm p e b arms) K more h =
      tok_back (word_at Word.If p) _ _ (tok_back (sign Sign.OpenRound) _ _
      (cut_back e _ _ (tok_back (sign Sign.CloseRound) _ _
      (tok_back (sign Sign.OpenCurly) _ _ (cut_stms_back b _ _ (tok_back (sign Sign.CloseCurly) _ _ (cut_other_arms_back arms _ _ h)))))))

  cut_other_arms_back : (x : Arms) (K : List Mark → Type 0) (more : List Mark) → Covers K more → Covers (cut_other_arms x K) (spell_other_arms x more)
  cut_other_arms_back Arms.no_arms K more h = h
  cut_other_arms_back (Arms.arm p e b arms) K more h =
      tok_back (word Word.Else) _ _ (tok_back (word_at Word.If p) _ _
      (tok_back (sign Sign.OpenRound) _ _ (cut_back e _ _
      (tok_back (sign Sign.CloseRound) _ _ (tok_back (sign Sign.OpenCurly) _ _
      (cut_stms_back b _ _ (tok_back (sign Sign.CloseCurly) _ _ (cut_other_arms_back arms _ _ h))))))))

  cut_else_back : (x : Else) (K : List Mark → Type 0) (more : List Mark) → Covers K more → Covers (cut_else x K) (spell_else x more)
  cut_else_back Else.no_else K more h = h
  cut_else_back (Else.otherwise b) K more h =
      tok_back (word Word.Else) _ _ (tok_back (sign Sign.OpenCurly) _ _ (cut_stms_back b _ _ (tok_back (sign Sign.CloseCurly) _ _ h)))

cut_block_back : (x : Stms) (K : List Mark → Type 0) (more : List Mark) → Covers K more → Covers (cut_block x K) (spell_block x more)
cut_block_back b K more h = tok_back (sign Sign.OpenCurly) _ _ (cut_stms_back b _ _ (tok_back (sign Sign.CloseCurly) _ _ h))

cut_fun_back : (x : Fun) (K : List Mark → Type 0) (more : List Mark) → Covers K more → Covers (cut_fun x K) (spell_fun x more)
cut_fun_back f K more h = tok_back (word Word.Function) _ _
    (tok_back (name_at f.name f.place) _ _ (tok_back (sign Sign.OpenRound) _ _
    (cut_params_back f.params _ _ (tok_back (sign Sign.CloseRound) _ _ (cut_block_back f.body _ _ h)))))

cut_top_back : (x : Top) (K : List Mark → Type 0) (more : List Mark) → Covers K more → Covers (cut_top x K) (spell_top x more)
cut_top_back (Top.fun f) K more h = cut_fun_back f _ _ h
cut_top_back (Top.stmt s) K more h = cut_stm_back s _ _ h

cut_tops_back : (x : List Top) (K : List Mark → Type 0) (more : List Mark) → Covers K more → Covers (cut_tops x K) (spell_tops x more)
cut_tops_back [] K more h = h
cut_tops_back (t ∷ ts) K more h = cut_top_back t _ _ (cut_tops_back ts _ _ h)

no_more : Covers (λ r. r ≡ []) []
no_more [] f = refl
no_more (x ∷ ms) f = absurd (cc (f.1))

pub partial_front : (tops : List Top) (ms : List Mark) → IsPartial tops ms → IsFront ms (spell_tops tops [])
partial_front tops ms p = cut_tops_front tops (λ r. r ≡ []) [] (λ r e. ([], rw e refl)) ms p

pub front_partial : (tops : List Top) (ms : List Mark) → IsFront ms (spell_tops tops []) → IsPartial tops ms
front_partial tops ms f = cut_tops_back tops (λ r. r ≡ []) [] no_more ms f
