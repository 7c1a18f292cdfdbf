-- Things that are spelled one behind the other.
use Rattle.std.proofs.Common.{◌≡◌, ◌<◌, ℕ, List, ◌++◌, ◌+◌, get_or, length, take, ap, append_assoc, ◌∙◌, sym}
use Rattle.std.proofs.lemmas.List.{flat_map_more, take_more}
use Rattle.std.specs.List.{flat_map}

-- one more
pub more : {A : Type 0} (f : A → List ℕ) (xs : List A) (i : ℕ) (d : A) → i < length xs → (out : List ℕ)
    → (out ++ flat_map f (take i xs)) ++ f (get_or xs i d) ≡ out ++ flat_map f (take (i + 1) xs)
more f xs i d h out =
    flat_map_more f out (take i xs) (get_or xs i d) ∙ ap (λ ys. out ++ flat_map f ys) (sym (take_more xs i d h))

pub ruleset spelled = (more, more)

-- three pieces behind what was written
pub three : (out a b c : List ℕ) → ((out ++ a) ++ b) ++ c ≡ out ++ (a ++ (b ++ c))
three out a b c = append_assoc (out ++ a) b c ∙ append_assoc out a (b ++ c)

-- and one more behind three
pub inside : (a b c d : List ℕ) → (a ++ (b ++ c)) ++ d ≡ a ++ (b ++ (c ++ d))
inside a b c d = append_assoc a (b ++ c) d ∙ ap (λ y. a ++ y) (append_assoc b c d)
