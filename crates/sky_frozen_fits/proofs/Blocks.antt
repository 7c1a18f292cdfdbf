-- The nodes of the arms' blocks, one after the other.
use Rattle.std.proofs.Common.{◌≡◌, ◌≢◌, ◌+◌, ◌⊎◌, inl, inr, ℕ, ◌∷◌, ◌++◌, sym, ap, ◌∙◌, arith}
use Rattle.sky_base.specs.Tree.{Place, Exp, Stms, Arms, Else, nodes, block_nodes, arms_nodes}
use Rattle.sky_state.specs.Table.{arm_blocks, else_block}

pub arms_one : (m blk next : ℕ) (p : Place) (e : Exp) (b : Stms) (xs more : Arms) (els : Else) → xs ≡ Arms.arm p e b more → blk ≡ m + nodes e
    → next ≡ blk + block_nodes b → arm_blocks m xs ++ else_block (m + arms_nodes xs) els ≡ blk
    ∷ (arm_blocks next more ++ else_block (next + arms_nodes more) els)
arms_one m blk next p e b xs more els g h k =
    let f : m + nodes e ≡ blk = sym h in
    let i : m + nodes e + block_nodes b ≡ next = omega (arith, h, k) in
    let j : m + arms_nodes (Arms.arm p e b more) ≡ next + arms_nodes more = omega (arith, h, k) in
    ap (λ ys. arm_blocks m ys ++ else_block (m + arms_nodes ys) els) g ∙ (λ t. f t ∷ (arm_blocks (i t) more ++ else_block (j t) els))

pub not_first : {X : Type 0} (b n : ℕ) → b ≢ n → (n ≡ b) ⊎ X → X
not_first b n h (inl e) = absurd (h (sym e))
not_first b n h (inr x) = x
