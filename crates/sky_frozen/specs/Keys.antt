-- Dictionaries whose keys are names: those that a function uses, or its parameters.
use Rattle.std.specs.Prelude.{◌≡◌, ℕ, List, [], ◌∷◌, true, ◌⊎◌, is_some, Option, Some, None}
use Rattle.sky_base.specs.Val.{Pairs, no_pairs, pair}
use Rattle.sky_base.specs.Op.{find}
use Rattle.sky_base.specs.Tree.{FunDef}
use Rattle.sky_base.specs.Eval.{is_one_of}

-- exactly these names have a value
abbrev pub KeysAre : Pairs (List ℕ) → List (List ℕ) → Type 0
KeysAre keys names = (k : List ℕ) → is_some (find k keys) ≡ is_one_of k names

-- there is a function, and the keys are the names that it uses
abbrev pub UsesAre : Pairs (List ℕ) → Option FunDef → Type 0
UsesAre keys None = ⊥
UsesAre keys (Some f) = KeysAre keys f.uses

-- for each function there is a dictionary whose keys are the names that it uses
abbrev pub AreUses : List (Pairs (List ℕ)) → List FunDef → Type 0
AreUses [] [] = Unit {0}
AreUses [] (f ∷ fs) = ⊥
AreUses (keys ∷ index) [] = ⊥
AreUses (keys ∷ index) (f ∷ fs) = KeysAre keys f.uses × AreUses index fs

abbrev pub HasValue : Pairs (List ℕ) → List ℕ → Type 0
HasValue keys k = is_some (find k keys) ≡ true

-- each key of these pairs has a value among the keys
abbrev pub AllIn : Pairs (List ℕ) → Pairs (List ℕ) → Type 0
AllIn keys no_pairs = Unit {0}
AllIn keys (pair k v ps) = HasValue keys k × AllIn keys ps

-- each has one here or there
abbrev pub AllInEither : Pairs (List ℕ) → Pairs (List ℕ) → Pairs (List ℕ) → Type 0
AllInEither own uses no_pairs = Unit {0}
AllInEither own uses (pair k v ps) = (HasValue own k ⊎ HasValue uses k) × AllInEither own uses ps

-- each name is the key of some pair
abbrev pub AllFound : Pairs (List ℕ) → List (List ℕ) → Type 0
AllFound ps [] = Unit {0}
AllFound ps (x ∷ xs) = HasValue ps x × AllFound ps xs
