-- `while (true) { }` ends with TooLong: a row of a million visits, by induction.
use Rattle.std.proofs.Common.{◌≡◌, ℕ, zero, suc, ◌+◌, ◌<◌, ◌≤◌, [], ◌∷◌, Bool, true, false, Some, nat_lt, refl, ap, arith, ltb-true, ltb-false}
use Rattle.sky_base.specs.Val.{truth, no_vals, no_pairs}
use Rattle.sky_base.specs.Tree.{Place, Lit, Exp, Stm, Stms}
use Rattle.sky_base.specs.Res.{visits, others, Object, End, St, while_test, while_body, block_at, Res, Fin, fault_at, then_do, on_got, on_goes, gives}
use Rattle.sky_base.specs.Res.{counted, visited}
use Rattle.sky_base.specs.Eval.{World, decide, turns, eval, eval_stms, body_at}
use Rattle.sky_base.specs.Read.{outcome}
use Rattle.sky_base.specs.See.{Job, world_of, object_of, run_of, see, main_call, start_st}
use Rattle.sky_base.specs.declared.fault.FaultKind.{FaultKind}
use Rattle.sky_base_law.proofs.Rows.{plain, at, b, block, main_of}

some_visits : 0 < visits
unfolding visits
some_visits = omega arith

module _ {N : Type 0} (w : World N) (d n m : ℕ) (p q : Place) where
  abbrev test : Exp
  test = Exp.literal (Lit.truth true) q

  -- where no visit is left
  abbrev over : St N → Res N
  over st = Fin (End.failed (fault_at FaultKind.TooLong q)) (record { vars = st.vars; count = visits })

  abbrev loop : ℕ → St N → Res N
  loop f st = turns f n m p test Stms.no_stms (eval w (body_at w d) test (n + 1)) (eval_stms w (body_at w d) Stms.no_stms m 0 (m + 1)) st

  endless : (f : ℕ) (st : St N) → st.count ≤ visits → visits < f + st.count → loop f st ≡ over st
  endless zero st h hf = absurd (omega arith)
  endless (suc f) st h hf = go (nat_lt st.count visits) refl (λ lt. endless f (counted st) (omega arith) (omega arith))
    where
      go : (x : Bool) → nat_lt st.count visits ≡ x → (st.count < visits → loop f (counted st) ≡ over st)
          → then_do (visited x q st (λ s. gives (truth true) s)) (while_test n m p test Stms.no_stms)
          (on_got (λ v s. decide v p s (λ t. then_do (eval_stms w (body_at w d) Stms.no_stms m 0 (m + 1) t) (while_body n m p test Stms.no_stms)
          (on_goes (loop f))) (λ t. Fin End.goes t))) ≡ over st
      go true e rest = rest (ltb-true st.count visits e)
      go false e rest =
          let le : visits ≤ st.count = ltb-false st.count visits e in
          let is : st.count ≡ visits = omega arith in
          ap (λ c. Fin (End.failed (fault_at FaultKind.TooLong q)) (record { vars = st.vars; count = c })) is

abbrev endless_loop_row : Job
endless_loop_row = main_of (Stm.while (at 1) (b true 8) (block []) ∷ [])

endless_loop_row_run : run_of endless_loop_row plain [] no_pairs no_vals
    ≡ Fin (End.failed (fault_at FaultKind.TooLong (at 8))) (record { vars = no_pairs; count = visits })
endless_loop_row_run = go (nat_lt 0 visits) refl
  where
    go : (x : Bool) → nat_lt 0 visits ≡ x → then_do
        (visited x (at 1) start_st (λ s. loop (world_of endless_loop_row.script plain) others 1 3 (at 1) (at 8) (suc visits) s))
        (block_at 0 1 4 Stms.no_stms) (on_goes (λ s. Fin End.goes s))
        ≡ Fin (End.failed (fault_at FaultKind.TooLong (at 8))) (record { vars = no_pairs; count = visits })
    go true e = ap (λ r. then_do r (block_at 0 1 4 Stms.no_stms) (on_goes (λ s. Fin End.goes s)))
        (endless (world_of endless_loop_row.script plain) others 1 3 (at 1) (at 8) (suc visits) (counted start_st) (omega (arith, some_visits))
        (omega arith))
    go false e = let le : visits ≤ 0 = ltb-false 0 visits e in absurd (omega (arith, some_visits))

endless_loop_row_see : see endless_loop_row plain 1 main_call ≡ Some (Object.fault (fault_at FaultKind.TooLong (at 8)))
unfolding see
endless_loop_row_see = ap (λ r. object_of (outcome (λ d. see endless_loop_row plain 0 d) r)) endless_loop_row_run
