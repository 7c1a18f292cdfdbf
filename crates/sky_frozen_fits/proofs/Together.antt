-- The entries of a frame fit one after the other exactly where the definition says so of all together.
use Rattle.std.proofs.Common.{◌≡◌, ◌+◌, ◌-◌, ℕ, suc, List, [], ◌∷◌, length, drop, Some, None, slice_get, refl, sym, ap, ◌∙◌, subst, arith}
use Rattle.std.proofs.lemmas.List.{length-drop}
use Rattle.sky_base.specs.Val.{Val}
use Rattle.sky_base.specs.Tree.{Script}
use Rattle.sky_base.specs.Read.{Todo}
use Rattle.sky_base_law.proofs.Lists.{some_is, none_some}
use Rattle.sky_state.specs.Table.{Row, keeps}
use Rattle.sky_state.specs.Fits.{row_of, Parts, kept_in_all, Last}
use Rattle.sky_state.specs.StandView.{todo_view, todos_view}
use Rattle.sky_state.specs.declared.frame.Todo as code
use Rattle.sky_state.proofs.StackLaw.{kept_more}
use Rattle.sky_frozen_fits.specs.Entered.{NextIn, Entered, FitTogether, last_row}

abbrev Values : Type 0
Values = List (Val (List ℕ))

no_values : (vs : Values) → length vs ≡ 0 → vs ≡ []
no_values [] e = refl
no_values (v ∷ vs) e = absurd (omega (arith, e))

module _ (sc : Script) where
  next_parts : (t : Todo) (ts : List Todo) → NextIn sc (row_of sc t) ts → Parts sc ts → Parts sc (t ∷ ts)
  next_parts t [] h p = tt
  next_parts t (u ∷ us) h p = (h, p)

  parts_next : (t : Todo) (ts : List Todo) → Parts sc (t ∷ ts) → NextIn sc (row_of sc t) ts × Parts sc ts
  parts_next t [] h = (tt, tt)
  parts_next t (u ∷ us) h = (h.0, h.1)

  pub together : (ts : List Todo) (vs : Values) → Entered sc ts vs → FitTogether sc ts vs
  together [] vs e = record { steps = tt; parts = tt; as_many = ap length e; kinds = tt; taken = tt }
  together (t ∷ ts) vs h =
      let n = keeps (row_of sc t) in
      let up = together ts (drop n vs) h.1 in
      record {
        steps = (h.0.step, up.steps);
        parts = next_parts t ts h.0.next up.parts;
        as_many = omega (arith, up.as_many, length-drop n vs, h.0.enough, kept_more sc t ts);
        kinds = (h.0.kinds, up.kinds);
        taken = (h.0.taken, up.taken);
      }

  pub one_by_one : (ts : List Todo) (vs : Values) → FitTogether sc ts vs → Entered sc ts vs
  one_by_one [] vs h = no_values vs h.as_many
  one_by_one (t ∷ ts) vs h =
      let n = keeps (row_of sc t) in
      let next = parts_next t ts h.parts in
      let more : kept_in_all sc (t ∷ ts) ≡ n + kept_in_all sc ts = kept_more sc t ts in (
        record { step = h.steps.0; next = next.0; enough = omega (arith, h.as_many, more); kinds = h.kinds.0; taken = h.taken.0 },
        one_by_one ts (drop n vs) (record {
          steps = h.steps.1;
          parts = next.1;
          as_many = omega (arith, length-drop n vs, h.as_many, more);
          kinds = h.kinds.1;
          taken = h.taken.1;
        }),
      )

  -- ---- the last entry

  pub last_yes : (P : Row → Type 0) (ts : List Todo) (r : Row) → last_row sc ts ≡ Some r → P r → Last (λ t. P (row_of sc t)) ts
  last_yes P [] r e h = absurd (none_some r e)
  last_yes P (t ∷ []) r e h = subst P (sym (some_is (row_of sc t) r e)) h
  last_yes P (t ∷ u ∷ us) r e h = last_yes P (u ∷ us) r e h

  pub last_no : (P : Row → Type 0) (ts : List Todo) (r : Row) → last_row sc ts ≡ Some r → Last (λ t. P (row_of sc t)) ts → P r
  last_no P [] r e h = absurd h
  last_no P (t ∷ []) r e h = subst P (some_is (row_of sc t) r e) h
  last_no P (t ∷ u ∷ us) r e h = last_no P (u ∷ us) r e h

  pub last_none : (P : Row → Type 0) (ts : List Todo) → last_row sc ts ≡ None → Last (λ t. P (row_of sc t)) ts → ⊥
  last_none P [] e h = h
  last_none P (t ∷ []) e h = none_some (row_of sc t) (sym e)
  last_none P (t ∷ u ∷ us) e h = last_none P (u ∷ us) e h

  pub last_at : (ts : List code.Todo) (t : code.Todo) → Some t ≡ slice_get ts (length ts - 1) → last_row sc (todos_view ts)
      ≡ Some (row_of sc (todo_view t))
  last_at [] t e = absurd cc
  last_at (u ∷ []) t e = let g : t ≡ u = cc in ap (λ (x : code.Todo). Some (row_of sc (todo_view x))) (sym g)
  last_at (u ∷ v ∷ us) t e = let z : length (u ∷ v ∷ us) - 1 ≡ suc (length (v ∷ us) - 1) = omega arith in
      last_at (v ∷ us) t (e ∙ ap (λ n. slice_get (u ∷ v ∷ us) n) z)

  pub last_of_none : (ts : List code.Todo) → None ≡ slice_get ts (length ts - 1) → last_row sc (todos_view ts) ≡ None
  last_of_none [] e = refl
  last_of_none (u ∷ []) e = absurd cc
  last_of_none (u ∷ v ∷ us) e = let z : length (u ∷ v ∷ us) - 1 ≡ suc (length (v ∷ us) - 1) = omega arith in
      last_of_none (v ∷ us) (e ∙ ap (λ n. slice_get (u ∷ v ∷ us) n) z)
