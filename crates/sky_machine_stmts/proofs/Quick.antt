-- Statements and turns that are gone through at once.
use Rattle.std.proofs.Common.{◌≡◌, ◌≤◌, ◌+◌, ℕ, List, true, false, refl, sym, ap, ◌∙◌, subst}
use Rattle.sky_base.specs.Val.{Val, Vals, truth}
use Rattle.sky_base.specs.Tree.{Place, Exp, Stm, Stms, stm_nodes}
use Rattle.sky_base.specs.Res as logic
use Rattle.sky_base.specs.Res.{visits, Fin, Entry, while_test, while_body, block_at, then_do, on_goes}
use Rattle.sky_base.specs.Eval.{World, eval, eval_stm, eval_stms, eval_block, go_while, after, body_at}
use Rattle.sky_base_scope.specs.Plain.{Pairs, Vars}
use Rattle.sky_machine_entries.specs.Config.{Run}
use Rattle.sky_machine_entries.specs.Entries.{end_of}
use Rattle.sky_machine_entries.specs.declared.control.End.{End}
use Rattle.sky_machine_stmts.proofs.Turns.{while_turn}

-- an end that is no plain one ends the block and the loop too
pub not_goes : (k : Vars → Run) (e : End) (st : Vars) → (e ≡ End.Goes → ⊥) → on_goes k (end_of e) st ≡ Fin (end_of e) st
not_goes k End.Goes st other = absurd (other refl)
not_goes k (End.Got v) st other = refl
not_goes k (End.Returned v) st other = refl
not_goes k (End.Failed f) st other = refl

module _ (w : World (List ℕ)) (body : List ℕ → Pairs → Vals (List ℕ) → Place → Vars → Run) where
  -- a part that has ended so
  pub part_ended : (e e' : Exp) (m : ℕ) (st t : Vars) (x : logic.End (List ℕ)) (en : Entry (List ℕ)) (k : logic.End (List ℕ) → Vars → Run) → e'
      ≡ e → eval w body e' m st ≡ Fin x t → then_do (eval w body e m st) en k ≡ k x t
  part_ended e e' m st t x en k same is =
      ap (λ r. then_do r en k) (subst (λ (y : Exp). eval w body y m st ≡ Fin x t) same is)

  pub stms_next : (a : Stm) (more xs : Stms) (n k m next : ℕ) (st t : Vars) → next ≡ m + stm_nodes a → xs ≡ Stms.stm a more
      → eval_stm w body a m st ≡ Fin logic.End.goes t → eval_stms w body xs n k m st ≡ eval_stms w body more n (k + 1) next t
  stms_next a more xs n k m next st t f g is =
      ap (λ ys. eval_stms w body ys n k m st) g
      ∙ ap (λ r. then_do r (block_at n (k + 1) (m + stm_nodes a) more) (on_goes (λ s. eval_stms w body more n (k + 1) (m + stm_nodes a) s)))
      is ∙ ap (λ j. eval_stms w body more n (k + 1) j t) (sym f)

  pub stms_else : (a : Stm) (more xs : Stms) (n k m : ℕ) (e : End) (st t : Vars) → xs ≡ Stms.stm a more → eval_stm w body a m st
      ≡ Fin (end_of e) t → (e ≡ End.Goes → ⊥) → eval_stms w body xs n k m st ≡ Fin (end_of e) t
  stms_else a more xs n k m e st t g is other =
      ap (λ ys. eval_stms w body ys n k m st) g
      ∙ ap (λ r. then_do r (block_at n (k + 1) (m + stm_nodes a) more) (on_goes (λ s. eval_stms w body more n (k + 1) (m + stm_nodes a) s)))
      is ∙ not_goes (λ s. eval_stms w body more n (k + 1) (m + stm_nodes a) s) e t other

module _ (w : World (List ℕ)) (d n m : ℕ) (p : Place) (e : Exp) (b : Stms) where
  -- a loop whose test has ended so
  pub test_ended : (e' : Exp) (x : logic.End (List ℕ)) (st t : Vars) → st.count ≤ visits → e' ≡ e → eval w (body_at w d) e' (n + 1) st ≡ Fin x t
      → go_while w (body_at w d) n m p e b st ≡ after w (body_at w d) (while_test n m p e b) x t
  test_ended e' x st t h same is =
      sym (while_turn w d n m p e b st h) ∙ part_ended w (body_at w d) e e' (n + 1) st t x (while_test n m p e b)
      (after w (body_at w d) (while_test n m p e b)) same is

  pub test_off : (v : Val (List ℕ)) (st : Vars) → v ≡ truth false → after w (body_at w d) (while_test n m p e b) (logic.End.got v) st
      ≡ Fin logic.End.goes st
  test_off v st is = rw is refl

  pub test_on : (v : Val (List ℕ)) (st : Vars) → v ≡ truth true → after w (body_at w d) (while_test n m p e b) (logic.End.got v) st
      ≡ then_do (eval_block w (body_at w d) b m st) (while_body n m p e b) (after w (body_at w d) (while_body n m p e b))
  test_on v st is = rw is refl

  -- the block has come to this
  pub block_left : (r : Run) (st : Vars) → eval_block w (body_at w d) b m st ≡ r
      → then_do (eval_block w (body_at w d) b m st) (while_body n m p e b) (after w (body_at w d) (while_body n m p e b))
      ≡ then_do r (while_body n m p e b) (after w (body_at w d) (while_body n m p e b))
  block_left r st is = ap (λ x. then_do x (while_body n m p e b) (after w (body_at w d) (while_body n m p e b))) is
