-- A key that is compared with bytes that come piece by piece.
use Rattle.std.specs.Prelude.{ℕ, List, [], ◌∷◌}
use Rattle.std.specs.Ordering.{nat_cmp}
use Rattle.std.specs.declared.cmp.Ordering.{Ordering}

-- what of the key is left where all bytes so far stood in front of it, or how they differ from it
pub record AgainstSeen : Type 0 where
  pub rest : List ℕ
  pub found : Ordering

abbrev pub after_byte : ℕ → List ℕ → Ordering → AgainstSeen
after_byte b ks Ordering.Less = record { rest = []; found = Ordering.Less }
after_byte b ks Ordering.Equal = record { rest = ks; found = Ordering.Equal }
after_byte b ks Ordering.Greater = record { rest = []; found = Ordering.Greater }

-- one more byte, where all so far stood in front
abbrev pub one_more : ℕ → List ℕ → AgainstSeen
one_more b [] = record { rest = []; found = Ordering.Greater }
one_more b (k ∷ ks) = after_byte b ks (nat_cmp b k)

abbrev pub one_if : ℕ → List ℕ → Ordering → AgainstSeen
one_if b ks Ordering.Less = record { rest = ks; found = Ordering.Less }
one_if b ks Ordering.Equal = one_more b ks
one_if b ks Ordering.Greater = record { rest = ks; found = Ordering.Greater }

unfoldable pub taken : AgainstSeen → List ℕ → AgainstSeen
taken s [] = s
taken s (b ∷ bs) = taken (one_if b s.rest s.found) bs

-- how all bytes compare with the key: where they stood in front of it and more of it is left, they are less
abbrev pub at_end : List ℕ → Ordering → Ordering
at_end [] Ordering.Equal = Ordering.Equal
at_end (k ∷ ks) Ordering.Equal = Ordering.Less
at_end ks Ordering.Less = Ordering.Less
at_end ks Ordering.Greater = Ordering.Greater

abbrev pub order_of : AgainstSeen → Ordering
order_of s = at_end s.rest s.found
