-- A walk over the statements of a block, by their numbers.
use Rattle.std.proofs.Common.{◌≡◌, ◌<◌, ◌≤◌, ◌+◌, ◌-◌, ℕ, zero, suc, List, [], ◌∷◌, length, take, drop, get_or, refl, sym, ap, ◌∙◌, arith}
use Rattle.std.proofs.lemmas.List.{take_rest}
use Rattle.sky_base.specs.Tree.{Stms, stm_nodes, stms_nodes, block_nodes}
use Rattle.sky_base.specs.StmtView.{stm_view, stms_view}
use Rattle.sky_base.specs.declared.stmt.Stmt.{Stmt}
use Rattle.sky_base_law.specs.Opened.{next_stm, times}
use Rattle.sky_machine_code.specs.Parts.{begins_from}
use Rattle.sky_machine_code.proofs.BlockParts.{begins_length}
use Rattle.sky_machine_open.proofs.Walks.{times_stay}

-- one step, then the others
times_first : {A : Type 0} (f : A → A) (k : ℕ) (x : A) → times f (suc k) x ≡ times f k (f x)
times_first f zero x = refl
times_first f (suc k) x = ap f (times_first f k x)

walked : (ss : List Stmt) (k m x : ℕ) → k < length ss → x ≡ get_or (begins_from (stms_view ss) m) k x
    → times next_stm k (m, stms_view ss) ≡ (x, stms_view (drop k ss))
walked [] k m x h e = absurd (omega (arith, h))
walked (s ∷ ss) zero m x h e = ap (λ n. (n, stms_view (s ∷ ss))) (sym e)
walked (s ∷ ss) (suc k) m x h e =
    times_first next_stm k (m, stms_view (s ∷ ss)) ∙ walked ss k (m + stm_nodes (stm_view s)) x (omega (arith, h)) e

walked_past : (ss : List Stmt) (k m e : ℕ) → length ss ≤ k → e ≡ m + stms_nodes (stms_view ss)
    → times next_stm k (m, stms_view ss) ≡ (e, Stms.no_stms)
walked_past [] k m e h to =
    let q : m ≡ e = omega (arith, to) in
    times_stay next_stm (m, Stms.no_stms) (e, Stms.no_stms) 0 k (ap (λ n. (n, Stms.no_stms)) q) refl (omega arith)
walked_past (s ∷ ss) zero m e h to = absurd (omega (arith, h))
walked_past (s ∷ ss) (suc k) m e h to =
    times_first next_stm k (m, stms_view (s ∷ ss)) ∙ walked_past ss k (m + stm_nodes (stm_view s)) e (omega (arith, h)) (omega (arith, to))

-- the statements of the block at a node, and their numbers
module _ (ss : List Stmt) (b : Stms) (is : stms_view ss ≡ b) (n : ℕ) (xs : List ℕ) (are : xs ≡ begins_from b (n + 1)) (k : ℕ) where
  numbers : xs ≡ begins_from (stms_view ss) (n + 1)
  numbers = are ∙ ap (λ x. begins_from x (n + 1)) (sym is)

  as_many : length xs ≡ length ss
  as_many = ap length numbers ∙ begins_length ss (n + 1)

  start : times next_stm k (n + 1, b) ≡ times next_stm k (n + 1, stms_view ss)
  start = ap (λ x. times next_stm k (n + 1, x)) (sym is)

  pub within : k < length xs → k ≤ length ss
  within h = omega (arith, h, as_many)

  -- the statement with this number comes next
  pub next_at : (x : ℕ) → k < length xs → x ≡ get_or xs k x
      → times next_stm k (n + 1, b) ≡ (x, stms_view (take (length ss - k) (drop k ss)))
  next_at x h e =
      start ∙ walked ss k (n + 1) x (omega (arith, h, as_many)) (e ∙ ap (λ ys. get_or ys k x) numbers)
      ∙ sym (ap (λ ys. (x, stms_view ys)) (take_rest ss k))

  -- all have begun
  pub all_begun : (e : ℕ) → length xs ≤ k → e ≡ n + block_nodes b → times next_stm k (n + 1, b) ≡ (e, Stms.no_stms)
  all_begun e h to = start ∙ walked_past ss k (n + 1) e (omega (arith, h, as_many)) (omega (arith, to, ap stms_nodes is))
