-- Which states the bytes can spell: numbers of 32 bits, names that are texts, values that can be written and read again.
use Rattle.std.specs.Prelude.{◌≡◌, ℕ, List, ◌∷◌, ◌++◌}
use Rattle.sky_base.specs.Name.{big_endian, bytes}
use Rattle.sky_base.specs.Val.{Val, Pairs, no_pairs, pair, pair_count, Rising}
use Rattle.sky_base.specs.Kept.{Kept}
use Rattle.sky_base.specs.Read.{Todo, Frame, Run}
use Rattle.ciel_name.specs.Spelled.{IsText, IsData, PairsSpelled}
use Rattle.sky_state.specs.Stand.{Stand}
use Rattle.sky_frozen_bytes.specs.Bytes.{counted, todo_bytes, run_bytes, frozen_bytes}
use Rattle.sky_frozen_bytes.specs.Codes.{ReadAs, Fits32, Counted}
use Rattle.sky_frozen_bytes.specs.declared.refusal.ReadFrozen.{ReadFrozen}

abbrev pub TodoSpelled : Todo → Type 0
TodoSpelled t = Fits32 t.node × Fits32 t.step

abbrev pub EachKept : Pairs (List ℕ) → Type 0
EachKept no_pairs = Unit {0}
EachKept (pair k v ps) = Kept v × EachKept ps

-- variables: their names rise, and each value keeps the limits
abbrev pub VarsSpelled : Pairs (List ℕ) → Type 0
VarsSpelled ps = PairsSpelled ps × Rising ps × Fits32 (pair_count ps) × EachKept ps

-- the values and the forms under way of a frame
abbrev pub lists_bytes : List (Val (List ℕ)) × List Todo → List ℕ
lists_bytes p = counted bytes p.0 ++ counted todo_bytes p.1

abbrev pub ListsSpelled : List (Val (List ℕ)) × List Todo → Type 0
ListsSpelled p = Counted IsData p.0 × Counted TodoSpelled p.1

abbrev pub FrameSpelled : Frame (List ℕ) → Type 0
FrameSpelled f = IsText f.fun × (VarsSpelled f.vars × (Counted IsData f.stack × Counted TodoSpelled f.todo))

abbrev pub RunSpelled : Run (List ℕ) → Type 0
RunSpelled r = Fits32 r.count × (Fits32 r.waits × Counted FrameSpelled r.frames)

abbrev pub show_bytes : ℕ × Val (List ℕ) → List ℕ
show_bytes p = big_endian 4 p.0 ++ bytes p.1

abbrev pub ShowSpelled : ℕ × Val (List ℕ) → Type 0
ShowSpelled p = Fits32 p.0 × IsData p.1

abbrev pub StandSpelled : Stand (List ℕ) → Type 0
StandSpelled (Stand.run r) = RunSpelled r
StandSpelled (Stand.show_at v w) = ShowSpelled (w, v)

-- the third byte, and what stands behind it
abbrev pub kind_of : Stand (List ℕ) → ℕ
kind_of (Stand.run r) = 0
kind_of (Stand.show_at v w) = 1

abbrev pub rest_bytes : Stand (List ℕ) → List ℕ
rest_bytes (Stand.run r) = run_bytes r
rest_bytes (Stand.show_at v w) = show_bytes (w, v)

-- a state of this kind stands in front, behind its first three bytes
abbrev pub KindRead : ℕ → List ℕ → Stand (List ℕ) → List ℕ → Type 0
KindRead k old s new = (kind_of s ≡ k) × ReadAs rest_bytes StandSpelled old s new

-- no such state does
abbrev pub NoKind : ℕ → List ℕ → Type 0
NoKind k old = (s : Stand (List ℕ)) (rest : List ℕ) → kind_of s ≡ k → StandSpelled s → old ≡ rest_bytes s ++ rest → ⊥

-- these bytes don't begin as a state's do
abbrev pub NoHead : List ℕ → Type 0
NoHead old = (k : ℕ) (rest : List ℕ) → old ≡ 75 ∷ 1 ∷ k ∷ rest → ⊥

-- no such state has these bytes
abbrev pub NoStand : List ℕ → Type 0
NoStand bs = (s : Stand (List ℕ)) → StandSpelled s → frozen_bytes s ≡ bs → ⊥

-- two such states have the same bytes only where they are equal
abbrev pub OneSpelling : Type 0
OneSpelling = (s u : Stand (List ℕ)) → StandSpelled s → StandSpelled u → frozen_bytes s ≡ frozen_bytes u → s ≡ u

-- what a refusal says that isn't want of memory
abbrev pub IfBad : ReadFrozen → Type 0 → Type 0
IfBad ReadFrozen.Memory P = Unit {0}
IfBad ReadFrozen.BadFrozen P = P
