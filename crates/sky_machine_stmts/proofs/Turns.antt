-- A loop is its first turn, and then the loop: its bound is never met, so each turn may begin with all of it.
use Rattle.std.proofs.Common.{◌≡◌, ℕ, zero, suc, ◌+◌, ◌<◌, ◌≤◌, List, arith}
use Rattle.sky_base.specs.Tree.{Place, Exp, Stms}
use Rattle.sky_base.specs.Res.{visits, while_test, while_body, repeat_body, repeat_test, then_do}
use Rattle.sky_base.specs.Eval.{World, turns, repeats, eval, eval_block, body_at, go_while, go_repeat, after}
use Rattle.sky_base_law.proofs.FormsLaw.{alike, got_alike, goes_alike, decide_alike, good_eval, good_call, good_block}
use Rattle.sky_base_scope.specs.Plain.{Vars}

module _ (w : World (List ℕ)) (d n m : ℕ) (p : Place) (e : Exp) (b : Stms) where
  turns_same : (f g : ℕ) (st : Vars) → st.count ≤ visits → visits < f + st.count → visits < g + st.count
      → turns f n m p e b (eval w (body_at w d) e (n + 1)) (eval_block w (body_at w d) b m) st
      ≡ turns g n m p e b (eval w (body_at w d) e (n + 1)) (eval_block w (body_at w d) b m) st
  turns_same zero g st h hf hg = absurd (omega arith)
  turns_same (suc f) zero st h hf hg = absurd (omega arith)
  turns_same (suc f) (suc g) st h hf hg =
      alike w (eval w (body_at w d) e (n + 1) st) d (st.count + 1) (while_test n m p e b) _ _
      (got_alike w (st.count + 1) _ _ (λ v s i. decide_alike w v p s _ _ _
      (alike w (eval_block w (body_at w d) b m s) d s.count (while_body n m p e b) _ _
      (goes_alike w s.count _ _ (λ z x. turns_same f g z (omega arith) (omega arith) (omega arith))) (good_block w d b m s (omega arith)))))
      (good_eval w d (good_call w d) e (n + 1) st)

  pub while_turn : (st : Vars) → st.count ≤ visits
      → then_do (eval w (body_at w d) e (n + 1) st) (while_test n m p e b) (after w (body_at w d) (while_test n m p e b))
      ≡ go_while w (body_at w d) n m p e b st
  while_turn st h =
      alike w (eval w (body_at w d) e (n + 1) st) d (st.count + 1) (while_test n m p e b) _ _
      (got_alike w (st.count + 1) _ _ (λ v s i. decide_alike w v p s _ _ _
      (alike w (eval_block w (body_at w d) b m s) d s.count (while_body n m p e b) _ _
      (goes_alike w s.count _ _ (λ z x. turns_same (suc visits) visits z (omega arith) (omega arith) (omega arith)))
      (good_block w d b m s (omega arith))))) (good_eval w d (good_call w d) e (n + 1) st)

  repeats_same : (f g : ℕ) (st : Vars) → st.count ≤ visits → visits < f + st.count → visits < g + st.count
      → repeats f n m p b e (eval_block w (body_at w d) b (n + 1)) (eval w (body_at w d) e m) st
      ≡ repeats g n m p b e (eval_block w (body_at w d) b (n + 1)) (eval w (body_at w d) e m) st
  repeats_same zero g st h hf hg = absurd (omega arith)
  repeats_same (suc f) zero st h hf hg = absurd (omega arith)
  repeats_same (suc f) (suc g) st h hf hg =
      alike w (eval_block w (body_at w d) b (n + 1) st) d st.count (repeat_body n m p b e) _ _
      (goes_alike w st.count _ _ (λ s i. alike w (eval w (body_at w d) e m s) d (s.count + 1) (repeat_test n m p b e) _ _
      (got_alike w (s.count + 1) _ _ (λ v z x. decide_alike w v p z _ _ _ (repeats_same f g z (omega arith) (omega arith) (omega arith))))
      (good_eval w d (good_call w d) e m s))) (good_block w d b (n + 1) st h)

  pub repeat_turn : (st : Vars) → st.count ≤ visits
      → then_do (eval_block w (body_at w d) b (n + 1) st) (repeat_body n m p b e) (after w (body_at w d) (repeat_body n m p b e))
      ≡ go_repeat w (body_at w d) n m p b e st
  repeat_turn st h =
      alike w (eval_block w (body_at w d) b (n + 1) st) d st.count (repeat_body n m p b e) _ _
      (goes_alike w st.count _ _ (λ s i. alike w (eval w (body_at w d) e m s) d (s.count + 1) (repeat_test n m p b e) _ _
      (got_alike w (s.count + 1) _ _ (λ v z x. decide_alike w v p z _ _ _
      (repeats_same (suc visits) visits z (omega arith) (omega arith) (omega arith)))) (good_eval w d (good_call w d) e m s)))
      (good_block w d b (n + 1) st h)
