-- The numbers of a block's statements.
use Rattle.std.proofs.Common.{◌≡◌, ◌<◌, ◌≤◌, ℕ, zero, suc, ◌+◌, List, [], ◌∷◌, ◌++◌, length, Option, Some, slice_get, slice_index, slice_index_or}
use Rattle.std.proofs.Common.{take, drop, length-append, refl, sym, ap, ◌∙◌, subst, arith}
use Rattle.std.specs.List.Sorted.{IsNonDecreasing}
use Rattle.std.proofs.lemmas.List.Sorted.{IsNonDecreasingBy-from_all_adjacent}
use Rattle.std.proofs.Math.Seq.{drop-append_seam, take-append_seam}
use Rattle.sky_base.specs.Tree.{Script, Stms, stm_nodes, stms_nodes, block_nodes}
use Rattle.sky_base.specs.StmtView.{stm_view, stms_view}
use Rattle.sky_base.specs.declared.stmt.Stmt.{Stmt}
use Rattle.sky_base_law.specs.Opened.{Node, stm_node, block_node, HasStm, HasStms}
use Rattle.sky_base_law.specs.Nodes.{node_at}
use Rattle.sky_machine_code.specs.Numbers.{node_size, ends_of}
use Rattle.sky_machine_code.specs.Parts.{Chain, Stand, PartsAt, begins_from}
use Rattle.sky_machine_code.proofs.Bodies.{own_stm, stm_nodes_pos, end_at}

-- the parts of a block are its statements
module _ (ends : List ℕ) (at : ℕ → Option Node) (end : (n : ℕ) (t : Node) → at n ≡ Some t → slice_index ends n ≡ n + node_size t) where
  pub chain_is : (b : Stms) (c e : ℕ) (xs : List ℕ) → HasStms at b c → c + stms_nodes b ≡ e → Chain ends c e xs → xs ≡ begins_from b c
  chain_is Stms.no_stms c e [] has to h = refl
  chain_is Stms.no_stms c e (x ∷ xs) has to h = absurd (omega (arith, h.1, to))
  chain_is (Stms.stm a more) c e [] has to h =
      absurd (omega (arith, h (omega (arith, to, stm_nodes_pos a)), stm_nodes_pos a, end c (stm_node a) (own_stm at a c has.0)))
  chain_is (Stms.stm a more) c e (x ∷ xs) has to h =
      let next : slice_index ends c ≡ c + stm_nodes a = end c (stm_node a) (own_stm at a c has.0) in
      let rest = chain_is more (c + stm_nodes a) e xs has.1 (omega (arith, to)) (subst (λ m. Chain ends m e xs) next h.2) in
      ap (λ y. y ∷ xs) h.0 ∙ ap (λ ys. c ∷ ys) rest

-- what stands at a place, cut out
pub cut : (all : List ℕ) (at : ℕ) (xs : List ℕ) → Stand all at xs → take (length xs) (drop at all) ≡ xs
cut all at xs h =
    let from : drop at all ≡ xs ++ h.after =
    ap (λ ys. drop at ys) h.whole ∙ ap (λ k. drop k (h.before ++ (xs ++ h.after))) (sym h.place) ∙ drop-append_seam h.before (xs ++ h.after) in
    ap (λ ys. take (length xs) ys) from ∙ take-append_seam xs h.after

pub begins_length : (ss : List Stmt) (n : ℕ) → length (begins_from (stms_view ss) n) ≡ length ss
begins_length [] n = refl
begins_length (s ∷ ss) n = ap suc (begins_length ss (n + stm_nodes (stm_view s)))

-- the statements of the block at a node, whose parts stand from this place on
module _ (sc : Script) (ends parts : List ℕ) (are : ends ≡ ends_of sc) (n p : ℕ) (ss : List Stmt) (b : Stms) (is : stms_view ss ≡ b)
    (here : node_at sc n ≡ Some (block_node b)) (has : HasStms (λ i. node_at sc i) b (n + 1)) (h : PartsAt ends parts p n) where
  end : (m : ℕ) (t : Node) → node_at sc m ≡ Some t → slice_index ends m ≡ m + node_size t
  end m t e = ap (λ xs. slice_index xs m) are ∙ end_at sc m t e

  numbers_are : h.numbers ≡ begins_from b (n + 1)
  numbers_are =
      chain_is ends (λ i. node_at sc i) end b (n + 1) (slice_index ends n) h.numbers has (omega (arith, end n (block_node b) here)) h.chain

  many : length h.numbers ≡ length ss
  many = ap length numbers_are ∙ ap (λ x. length (begins_from x (n + 1))) (sym is) ∙ begins_length ss (n + 1)

  pub begins_at : take (length ss) (drop p parts) ≡ begins_from b (n + 1)
  begins_at = ap (λ k. take k (drop p parts)) (sym many) ∙ cut parts p h.numbers h.stand ∙ numbers_are

  pub fits_in : p + length ss ≤ length parts
  fits_in =
      let s = h.stand in
      omega (arith, s.place, many, ap length s.whole, length-append s.before (h.numbers ++ s.after), length-append h.numbers s.after)

begins_rise : (b : Stms) (n k d : ℕ) → k + 1 < length (begins_from b n) → slice_index_or (begins_from b n) k d ≤ slice_index_or (begins_from b n) (k + 1) d
begins_rise Stms.no_stms n k d h = absurd (omega (arith, h))
begins_rise (Stms.stm a Stms.no_stms) n k d h = absurd (omega (arith, h))
begins_rise (Stms.stm a (Stms.stm a' b)) n zero d h = omega arith
begins_rise (Stms.stm a (Stms.stm a' b)) n (suc k) d h =
    let e : suc k + 1 ≡ suc (k + 1) = omega arith in
    rw e (begins_rise (Stms.stm a' b) (n + stm_nodes a) k d (omega (arith, h)))

pub begins_sorted : (b : Stms) (n : ℕ) → IsNonDecreasing (begins_from b n)
begins_sorted b n = IsNonDecreasingBy-from_all_adjacent (λ x. x) (begins_from b n) (begins_rise b n)

-- between the number of a statement and the next one
module _ (at : ℕ → Option Node) where
  pub stm_holds : (ss : List Stmt) (n i k : ℕ) (s : Stmt) → HasStms at (stms_view ss) n → slice_get ss k ≡ Some s
      → slice_index (begins_from (stms_view ss) n) k ≤ i
      → (k + 1 < length ss → i < slice_index (begins_from (stms_view ss) n) (k + 1)) → i < n + stms_nodes (stms_view ss)
      → HasStm at (stm_view s) (slice_index (begins_from (stms_view ss) n) k)
      × (i < slice_index (begins_from (stms_view ss) n) k + stm_nodes (stm_view s)) × (stm_nodes (stm_view s) ≤ stms_nodes (stms_view ss))
  stm_holds [] n i k s h e low high last = absurd cc
  stm_holds (g ∷ []) n i zero s h e low high last =
      let q : g ≡ s = cc in
      rw (← q) (h.0, omega (arith, last), omega arith)
  stm_holds (g ∷ g' ∷ ss) n i zero s h e low high last =
      let q : g ≡ s = cc in
      rw (← q) (h.0, high (omega arith), omega arith)
  stm_holds (g ∷ ss) n i (suc k) s h e low high last =
      let one : suc k + 1 ≡ suc (k + 1) = omega arith in
      let more = stm_holds ss (n + stm_nodes (stm_view g)) i k s h.1 e low
      (λ l. subst (λ m. i < slice_index (begins_from (stms_view (g ∷ ss)) n) m) one (high (omega (arith, l)))) (omega (arith, last)) in
      (more.0, more.1, omega (arith, more.2))

-- so many of the numbers are at most i, and the others are greater: there is one at least
pub one_begun : (ss : List Stmt) (n i r : ℕ) → n ≤ i → i < n + stms_nodes (stms_view ss)
    → ((k : ℕ) → r ≤ k → k < length (begins_from (stms_view ss) n) → i < slice_index (begins_from (stms_view ss) n) k) → 1 ≤ r
one_begun [] n i r from to h = absurd (omega (arith, from, to))
one_begun (s ∷ ss) n i r from to h = either r refl
  where
    either : (m : ℕ) → m ≡ r → 1 ≤ r
    either zero e = absurd (omega (arith, from, h 0 (omega (arith, e)) (omega arith)))
    either (suc m) e = omega (arith, e)
