-- What a value refers to, and data that refers to nothing.
use Rattle.std.specs.Prelude.{◌≡◌, ℕ, List, [], Ok}
use Rattle.sky_base.specs.Val.{Val, Vals, Pairs, Desc, null, truth, num, text, list, dict, fun, ref, no_vals, val, no_pairs, pair, refs}
use Rattle.sky_base.specs.See as see

-- D holds of each description that a value refers to, also through what a function captured
module _ {N : Type 0} (D : Desc N → Type 0) where
  abbrev mutual
    pub Refers : Val N → Type 0
    Refers null = Unit {0}
    Refers (truth b) = Unit {0}
    Refers (num z) = Unit {0}
    Refers (text t) = Unit {0}
    Refers (list vs) = ValsRefer vs
    Refers (dict ps) = PairsRefer ps
    Refers (fun f c) = PairsRefer c
    Refers (ref d) = D d

    pub ValsRefer : Vals N → Type 0
    ValsRefer no_vals = Unit {0}
    ValsRefer (val v vs) = Refers v × ValsRefer vs

    pub PairsRefer : Pairs N → Type 0
    PairsRefer no_pairs = Unit {0}
    PairsRefer (pair k v ps) = Refers v × PairsRefer ps

-- what is read as data refers to nothing
abbrev pub PlainReads : see.Around → Type 0
PlainReads around = (b : List ℕ) (a : see.Val) → around.reads b ≡ Ok a → refs a ≡ []
