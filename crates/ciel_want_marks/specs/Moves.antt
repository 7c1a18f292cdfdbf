-- What the calls change.
use Rattle.std.specs.Prelude.{◌≡◌, ◌<◌, ◌≤◌, ◌⊎◌, ℕ, zero, suc, ◌+◌, ◌*◌, Bool, true, false, cond, Option, Some, None, IfSome, MatchOption}
use Rattle.std.specs.Prelude.{List, [], ◌∷◌, ◌++◌, length, slice_get, slice_set}
use Rattle.ciel_journal.specs.Job.{In}
use Rattle.ciel_want_marks.specs.Lists.{HasAlso, HasBut, Settled, at, entry, flag}
use Rattle.ciel_want_marks.specs.Marks.{Active, Counted, Least, MarksSeen, Needs, Right, Stands, is_live}

-- how many flags aren't set
abbrev pub unset : List Bool → ℕ
unset [] = 0
unset (true ∷ fs) = unset fs
unset (false ∷ fs) = suc (unset fs)

-- how much of a search is left at most
abbrev pub left_of : MarksSeen → ℕ
left_of m = 2 * unset m.wanted + length m.todo

-- the graph is the same
pub record SameGraph (m n : MarksSeen) : Type 0 where
  pub live : n.live ≡ m.live
  pub makers : n.makers ≡ m.makers
  pub out : n.out ≡ m.out

-- of what a node waits for, these rows have each that isn't live
pub record AreDead (needs : Needs) (m : MarksSeen) (u : ℕ) (rows : List ℕ) : Type 0 where
  pub all : (d : Option ℕ) → In d (needs u) → (is_live m.live d ≡ true) ⊎ ((r : ℕ) × (d ≡ Some r) × In r rows)
  pub only : (r : ℕ) → In r rows → In (Some r) (needs u) × (r < length m.live) × (flag m.live r ≡ false)

-- the same before and after another row, for what is wanted and not out
abbrev pub SameNeeds : MarksSeen → Needs → Needs → Type 0
SameNeeds m before after = (u : ℕ) → Active m u → after u ≡ before u

-- a node of so many rows, which isn't the root
abbrev pub IsNode : ℕ → Option ℕ → Type 0
IsNode rows o = IfSome o (λ u. (0 < u) × (u ≤ rows))

-- one row more, of which nothing is known
abbrev pub grown : MarksSeen → MarksSeen
grown m =
    record m {
      live = m.live ++ false ∷ [];
      makers = m.makers ++ None ∷ [];
      watchers = m.watchers ++ [] ∷ [];
      wanted = m.wanted ++ false ∷ [];
      out = m.out ++ false ∷ [];
      touched = m.touched ++ false ∷ [];
      makes = m.makes ++ [] ∷ [];
      lacks = m.lacks ++ [] ∷ [];
    }

-- a row is made by a node, or by none
abbrev pub filed_under : ℕ → Option ℕ → MarksSeen → MarksSeen
filed_under r None m = record m { orphans = true }
filed_under r (Some u) m = record m { makes = slice_set m.makes u (at m.makes u ++ r ∷ []) }

-- a row is live or not, and made by a node, or by none
abbrev pub filed : ℕ → Bool → Option ℕ → MarksSeen → MarksSeen
filed r is by m =
    filed_under r by (record m { live = slice_set m.live r is; makers = slice_set m.makers r by })

-- a node is wanted, and if it wasn't, its needs are to be looked at
abbrev pub wants : ℕ → MarksSeen → MarksSeen
wants u m =
    cond (flag m.wanted u) m (record m { wanted = slice_set m.wanted u true; todo = m.todo ++ u ∷ [] })

abbrev pub wants_some : Option ℕ → MarksSeen → MarksSeen
wants_some None m = m
wants_some (Some u) m = wants u m

-- the maker of a row is wanted
abbrev pub wants_maker : ℕ → MarksSeen → MarksSeen
wants_maker r m = wants_some (entry m.makers r) m

-- the makers of rows are wanted, that of the last first
abbrev pub wants_makers : List ℕ → MarksSeen → MarksSeen
wants_makers [] m = m
wants_makers (r ∷ rs) m = wants_maker r (wants_makers rs m)

-- of what is put into the list, if there is something
abbrev pub HasSome : Option ℕ → List ℕ → List ℕ → Type 0
HasSome None old new = new ≡ old
HasSome (Some r) old new = HasAlso r old new

-- a node lacks these rows
abbrev pub lacking : MarksSeen → ℕ → List ℕ → MarksSeen
lacking m u rows = record m { lacks = slice_set m.lacks u rows }

-- what a node lacks is settled
abbrev pub SettledAt : MarksSeen → MarksSeen → ℕ → Option ℕ → Type 0
SettledAt m n u top =
    (left : List ℕ) × (n ≡ lacking m u left) × Settled m.live (at m.lacks u) left top

-- the least row of a node, if it has one, is in the list
abbrev pub ListedAt : MarksSeen → MarksSeen → ℕ → Type 0
ListedAt m n u =
    (list : List ℕ) × (n ≡ record m { list = list }) × HasSome (slice_get (at m.makes u) 0) m.list list

-- of what is taken out of the list, if there is something
abbrev pub HasNot : Option ℕ → List ℕ → List ℕ → Type 0
HasNot None old new = new ≡ old
HasNot (Some r) old new = HasBut r old new

-- the least row of a node, if it has one, isn't in the list
abbrev pub UnlistedAt : MarksSeen → MarksSeen → ℕ → Type 0
UnlistedAt m n u =
    (list : List ℕ) × (n ≡ record m { list = list }) × HasNot (slice_get (at m.makes u) 0) m.list list

-- a node waits for a row
abbrev pub watched : ℕ → ℕ → MarksSeen → MarksSeen
watched r u m = record m { watchers = slice_set m.watchers r (at m.watchers r ++ u ∷ []) }

-- a row became live, and a row that its maker makes did
abbrev pub made_live : ℕ → ℕ → MarksSeen → MarksSeen
made_live r v m =
    record m { live = slice_set m.live r true; touched = slice_set m.touched v true; watchers = slice_set m.watchers r [] }

-- the graph where a row became live
pub record Placed (r : ℕ) (m n : MarksSeen) : Type 0 where
  pub live : n.live ≡ slice_set m.live r true
  pub makers : n.makers ≡ m.makers
  pub out : n.out ≡ m.out

-- the graph with one row more, where each row before is made by some node
pub record Added (is : Bool) (by : Option ℕ) (m n : MarksSeen) : Type 0 where
  pub known : m.orphans ≡ false
  pub live : n.live ≡ m.live ++ is ∷ []
  pub makers : n.makers ≡ m.makers ++ by ∷ []
  pub out : n.out ≡ m.out ++ false ∷ []

abbrev pub is_none : List ℕ → Bool
is_none [] = true
is_none (x ∷ xs) = false

-- the root lacks nothing, or the least row of another node is in the list
abbrev pub CanRun : MarksSeen → ℕ → Type 0
CanRun m zero = at m.lacks 0 ≡ []
CanRun m (suc e) = (r : ℕ) × Least m.makes (suc e) r × In r m.list

-- the marks of a graph where nothing is filed, and only the root is wanted
pub record Unfiled (live : List Bool) (makers : List (Option ℕ)) (out : List Bool) (m : MarksSeen) : Type 0 where
  pub live_is : m.live ≡ live
  pub makers_is : m.makers ≡ makers
  pub out_is : m.out ≡ out
  pub watchers : length m.watchers ≡ length live
  pub wanted : length m.wanted ≡ suc (length live)
  pub root : flag m.wanted 0 ≡ true
  pub others : (u : ℕ) → flag m.wanted u ≡ true → u ≡ 0
  pub touched : length m.touched ≡ suc (length live)
  pub makes : length m.makes ≡ suc (length live)
  pub none : (u : ℕ) → at m.makes u ≡ []
  pub lacks : length m.lacks ≡ suc (length live)
  pub list : m.list ≡ []
  pub todo : m.todo ≡ 0 ∷ []
  pub orphans : m.orphans ≡ false

-- a graph's lists fit each other: makers are nodes other than the root
pub record IsGraph (live : List Bool) (makers : List (Option ℕ)) (out : List Bool) : Type 0 where
  pub makers_long : length makers ≡ length live
  pub out_long : length out ≡ suc (length live)
  pub nodes : (r u : ℕ) → entry makers r ≡ Some u → (0 < u) × (u ≤ length live)

-- the graph of these lists
pub record HasGraph (live : List Bool) (makers : List (Option ℕ)) (out : List Bool) (m : MarksSeen) : Type 0 where
  pub live_is : m.live ≡ live
  pub makers_is : m.makers ≡ makers
  pub out_is : m.out ≡ out

-- some row is made by no node, and isn't live
abbrev pub IsUnmade : List Bool → List (Option ℕ) → Type 0
IsUnmade live makers = (r : ℕ) × (r < length live) × (entry makers r ≡ None) × (flag live r ≡ false)

-- ---- why calls answer false

-- a row is made by no node, or by one that is wanted and not out
abbrev pub NotPlaced : ℕ → MarksSeen → Type 0
NotPlaced r m = (entry m.makers r ≡ None) ⊎ ((u : ℕ) × (entry m.makers r ≡ Some u) × Active m u)

-- a node isn't out, and can run as far as it is kept
abbrev pub CanGoOut : ℕ → MarksSeen → Type 0
CanGoOut u m = (flag m.out u ≡ false) × CanRun m u

-- a node makes a row that isn't live
abbrev pub MakesDead : ℕ → MarksSeen → Type 0
MakesDead u m = (r : ℕ) × In r (at m.makes u) × (flag m.live r ≡ false)

-- a node other than the root is wanted, and some row that it makes became live meanwhile, but another one isn't
abbrev pub EndsPartly : ℕ → MarksSeen → Type 0
EndsPartly u m = (flag m.wanted u ≡ true) × (u ≡ 0 → ⊥) × (flag m.touched u ≡ true) × MakesDead u m

-- some row is made by no node, or the new one is and isn't live
abbrev pub NotAdded : Bool → Option ℕ → MarksSeen → Type 0
NotAdded is by m = (m.orphans ≡ true) ⊎ ((is ≡ false) × (by ≡ None))

-- ---- what calls promise, whatever the needs are

abbrev pub KeepsRight : MarksSeen → MarksSeen → Type 0
KeepsRight m n = (needs : Needs) → Right m needs → Right n needs

-- a node that was counted isn't late any more
abbrev pub GoesOn : ℕ → MarksSeen → MarksSeen → Type 0
GoesOn u m n =
    (needs : Needs) (fresh late : List ℕ) → (Active m u → Counted m needs (u ∷ late) u) → Stands m needs fresh (u ∷ late) → Stands n needs fresh late

-- the needs of a node were looked at, of which these are the rows that aren't live
abbrev pub LooksAt : ℕ → List ℕ → MarksSeen → MarksSeen → Type 0
LooksAt u rows m n =
    (needs : Needs) → Active m u → AreDead needs m u rows → Stands m needs (u ∷ []) [] → Stands n needs [] [] × (left_of n ≤ left_of m)

-- a node comes whose needs are to be looked at; where none comes the marks are right
abbrev pub Opens : Option ℕ → MarksSeen → MarksSeen → Type 0
Opens next m n =
    (needs : Needs) → Stands m needs [] [] → MatchOption next (Right n needs) (λ u. Stands n needs (u ∷ []) [])

-- a row that wasn't live became so
abbrev pub PlacesRight : ℕ → MarksSeen → MarksSeen → Type 0
PlacesRight r m n = (needs : Needs) → flag m.live r ≡ false → Right m needs → Right n needs

-- a node that was out isn't any more
abbrev pub ClosesRight : ℕ → MarksSeen → MarksSeen → Type 0
ClosesRight u m n =
    (needs : Needs) → flag m.out u ≡ true → Right m needs → Stands n needs [] []

-- one row more, for which nobody waits yet
abbrev pub AddsRight : Bool → Option ℕ → MarksSeen → MarksSeen → Type 0
AddsRight is by m n =
    (before after : Needs) → IsNode (suc (length m.live)) by → SameNeeds m before after → Right m before → Added is by m n × Right n after
