-- The nodes that stand directly in each node, in order: a list of their numbers, node after node.
use Rattle.std.specs.Prelude.{◌≡◌, ◌≤◌, ◌<◌, ℕ, ◌+◌, List, [], ◌∷◌, ◌++◌, length, slice_index}
use Rattle.sky_base.specs.Tree.{Stms, stm_nodes}

-- the numbers from c up to e, each of them where the node before it ends
abbrev pub Chain : List ℕ → (c e : ℕ) → List ℕ → Type 0
Chain ends c e [] = c < e → slice_index ends c ≤ c
Chain ends c e (x ∷ xs) = (x ≡ c) × (c < e) × Chain ends (slice_index ends c) e xs

-- these stand in the list from this place on
pub record Stand (all : List ℕ) (at : ℕ) (xs : List ℕ) : Type 0 where
  pub before : List ℕ
  pub after : List ℕ
  pub whole : all ≡ before ++ (xs ++ after)
  pub place : length before ≡ at

-- the parts of the node n stand in the list from this place on
pub record PartsAt (ends parts : List ℕ) (at n : ℕ) : Type 0 where
  pub numbers : List ℕ
  pub stand : Stand parts at numbers
  pub chain : Chain ends (n + 1) (slice_index ends n) numbers

-- for each node the place where its parts begin
abbrev pub Parted : (ends firsts parts : List ℕ) → Type 0
Parted ends firsts parts = (n : ℕ) → n < length ends → PartsAt ends parts (slice_index firsts n) n

-- the numbers of statements, the first of which has this number
abbrev pub begins_from : Stms → ℕ → List ℕ
begins_from Stms.no_stms n = []
begins_from (Stms.stm a more) n = n ∷ begins_from more (n + stm_nodes a)
