-- Where the body of a function is found.
use Rattle.std.proofs.Common.{◌≡◌, ℕ, ◌+◌, List, ◌∷◌, Some, true, false, ap}
use Rattle.sky_base.specs.Val.{same_text}
use Rattle.sky_base.specs.Tree.{FunDef, block_nodes}
use Rattle.sky_base.specs.Eval.{find_body, find_body_if}

pub find_body-here : (x : List ℕ) (f : FunDef) (fs : List FunDef) (i : ℕ) → same_text x f.name ≡ true → find_body x (f ∷ fs) i
    ≡ Some (record { params = f.params; block = f.body; node = i })
find_body-here x f fs i e = ap (λ b. find_body_if b f i (find_body x fs (i + block_nodes f.body))) e

pub find_body-later : (x : List ℕ) (f : FunDef) (fs : List FunDef) (i : ℕ) → same_text x f.name ≡ false → find_body x (f ∷ fs) i
    ≡ find_body x fs (i + block_nodes f.body)
find_body-later x f fs i e = ap (λ b. find_body_if b f i (find_body x fs (i + block_nodes f.body))) e

pub ruleset bodies = (find_body-here, find_body-later)
