-- What is reached backward from a root, through what isn't live.
use Rattle.std.specs.Prelude.{◌≡◌, ℕ, List, [], ◌∷◌, ◌++◌, Bool, true, cond, not, filter, nat_eq, Option, Some, None, length}
use Rattle.std.specs.List.{list_any, IsDistinct}

abbrev pub Among : ℕ → List ℕ → Type 0
Among e xs = list_any (nat_eq e) xs ≡ true

module _ (needs : Option ℕ → List ℕ) (live : ℕ → Bool) where
  -- what a name, or the root, waits for and isn't live
  abbrev pub unmet : Option ℕ → List ℕ
  unmet from = filter (λ e. not (live e)) (needs from)

  -- the smallest set with what the root waits for and isn't live, and all that its members wait for and isn't live
  pub data LedTo : ℕ → Type 0 where
    first : (e : ℕ) → Among e (unmet None) → LedTo e
    further : (d e : ℕ) → LedTo d → Among e (unmet (Some d)) → LedTo e

  -- all of it stands in a list of this length
  abbrev pub IsWithin : ℕ → Type 0
  IsWithin bound = (book : List ℕ) × (length book ≡ bound) × ((e : ℕ) → LedTo e → Among e book)

  -- the root, or what is reached
  abbrev pub IsReached : Option ℕ → Type 0
  IsReached from = (e : ℕ) → from ≡ Some e → LedTo e

  -- each waits for the next one, and the last for the first
  abbrev pub Links : ℕ → ℕ → List ℕ → Type 0
  Links front d [] = Among front (unmet (Some d))
  Links front d (e ∷ es) = Among e (unmet (Some d)) × Links front e es

  -- a circle of waits
  abbrev pub IsCircle : List ℕ → Type 0
  IsCircle [] = ⊥
  IsCircle (d ∷ ds) = LedTo d × Links d d ds × IsDistinct nat_eq (d ∷ ds)

  -- the root, or a reached name, waits for nothing that isn't live
  pub record SomeMet : Type 0 where
    pub from : Option ℕ
    pub reached : IsReached from
    pub met : unmet from ≡ []

-- those of found that aren't in seen, each once
abbrev pub news : List ℕ → List ℕ → List ℕ
news seen [] = []
news seen (e ∷ es) = cond (list_any (nat_eq e) seen) (news seen es) (e ∷ news (seen ++ e ∷ []) es)
