-- The statement of a block that holds a number.
use Rattle.std.proofs.Common.{◌≡◌, ◌<◌, ◌≤◌, ◌-◌, ℕ, zero, suc, ◌+◌, List, [], ◌∷◌, length, Option, Some, get_or, slice_get, slice_index, sym, ap, ◌∙◌, subst, arith}
use Rattle.sky_base.specs.Tree.{Stms, stm_nodes, stms_nodes, block_nodes}
use Rattle.sky_base.specs.StmtView.{stm_view, stms_view}
use Rattle.sky_base.specs.declared.stmt.Stmt.{Stmt}
use Rattle.sky_base_law.specs.Opened.{Node, HasStm, HasStms}
use Rattle.sky_machine_code.specs.Parts.{begins_from}
use Rattle.sky_machine_code.proofs.BlockParts.{begins_length, one_begun, stm_holds}

pub get_is : (ss : List Stmt) (k : ℕ) (s : Stmt) → k < length ss → s ≡ get_or ss k s → slice_get ss k ≡ Some s
get_is [] k s h e = absurd (omega (arith, h))
get_is (g ∷ ss) zero s h e = ap Some (sym e)
get_is (g ∷ ss) (suc k) s h e = get_is ss k s (omega (arith, h)) e

-- so many statements begin at most at i, and the others after it
module _ (at : ℕ → Option Node) (ss : List Stmt) (b : Stms) (is : stms_view ss ≡ b) (n i r : ℕ) (xs : List ℕ) (are : xs ≡ begins_from b (n + 1))
    (lo : n < i) (hi : i < n + block_nodes b) (most : r ≤ length xs) (others : (k : ℕ) → r ≤ k → k < length xs → i < slice_index xs k) where
  pub numbers : xs ≡ begins_from (stms_view ss) (n + 1)
  numbers = are ∙ ap (λ x. begins_from x (n + 1)) (sym is)

  after : (k : ℕ) → r ≤ k → k < length (begins_from (stms_view ss) (n + 1)) → i < slice_index (begins_from (stms_view ss) (n + 1)) k
  after = subst (λ ys. (k : ℕ) → r ≤ k → k < length ys → i < slice_index ys k) numbers others

  pub one : 1 ≤ r
  one = one_begun ss (n + 1) i r (omega (arith, lo)) (omega (arith, hi, ap stms_nodes is)) after

  pub within : r - 1 < length ss
  within = omega (arith, one, most, ap length numbers, begins_length ss (n + 1))

  pub held : HasStms at b (n + 1) → ((k : ℕ) → k < r → slice_index xs k ≤ i) → (s : Stmt) → slice_get ss (r - 1) ≡ Some s
      → HasStm at (stm_view s) (slice_index xs (r - 1)) × (slice_index xs (r - 1) ≤ i) × (i < slice_index xs (r - 1) + stm_nodes (stm_view s))
      × (stm_nodes (stm_view s) < block_nodes b)
  held has first s e =
      let k = r - 1 in
      let low : slice_index xs k ≤ i = first k (omega (arith, one)) in
      let got = stm_holds at ss (n + 1) i k s (subst (λ x. HasStms at x (n + 1)) (sym is) has) e
      (subst (λ ys. slice_index ys k ≤ i) numbers low)
      (λ l. after (k + 1) (omega arith) (omega (arith, l, begins_length ss (n + 1)))) (omega (arith, hi, ap stms_nodes is)) in
      let same : slice_index xs k ≡ slice_index (begins_from (stms_view ss) (n + 1)) k = ap (λ ys. slice_index ys k) numbers in
      (subst (λ m. HasStm at (stm_view s) m) (sym same) got.0, low, omega (arith, same, got.1), omega (arith, got.2, ap stms_nodes is))
