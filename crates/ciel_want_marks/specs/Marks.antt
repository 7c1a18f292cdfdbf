-- What is kept of a graph of tasks by numbers, so that those that can run are known after each change. A task is known by a
-- node: 0 is the root task, and each other one is the node after the row of its name. What a task waits for is known by rows.
use Rattle.std.specs.Prelude.{◌≡◌, ◌≤◌, ◌<◌, ℕ, zero, suc, List, [], Bool, true, false, Option, Some, None, length, slice_get, ◌⊎◌}
use Rattle.ciel_journal.specs.Graph.{Graph, Led}
use Rattle.ciel_journal.specs.Job.{In}
use Rattle.ciel_want_marks.specs.Lists.{at, entry, flag}

-- what each node waits for: the row of each name, if one has it
abbrev pub Needs : Type 0
Needs = ℕ → List (Option ℕ)

pub record MarksSeen : Type 0 where
  -- of each row: whether it is live, the node of the task that makes it, and nodes that wait for it
  pub live : List Bool
  pub makers : List (Option ℕ)
  pub watchers : List (List ℕ)
  -- of each node: whether it is wanted; whether it is out; whether a row that it makes became live meanwhile; the rows that it
  -- makes, rising; and of the rows that it waits for at least those that aren't live
  pub wanted : List Bool
  pub out : List Bool
  pub touched : List Bool
  pub makes : List (List ℕ)
  pub lacks : List (List ℕ)
  -- the least rows of the nodes that can run, and the nodes whose needs are still to be looked at
  pub list : List ℕ
  pub todo : List ℕ
  -- some row is made by no node
  pub orphans : Bool

abbrev pub is_live : List Bool → Option ℕ → Bool
is_live live None = false
is_live live (Some r) = flag live r

abbrev pub maker : List (Option ℕ) → Option ℕ → Option ℕ
maker makers None = None
maker makers (Some r) = entry makers r

-- the graph
abbrev pub net : Needs → List Bool → List (Option ℕ) → List Bool → Graph ℕ (Option ℕ)
net needs live makers out =
    record { root = 0; needs = needs; live = is_live live; maker = maker makers; out = flag out }

-- the least row that a node makes
abbrev pub Least : List (List ℕ) → ℕ → ℕ → Type 0
Least makes u r = slice_get (at makes u) 0 ≡ Some r

-- the rows before one, by the nodes that make them; a row that no node makes is live
pub record Filed (before : ℕ) (live : List Bool) (makers : List (Option ℕ)) (makes : List (List ℕ)) (orphans : Bool) : Type 0 where
  pub makes_it : (r u : ℕ) → r < before → entry makers r ≡ Some u → In r (at makes u)
  pub made : (r u : ℕ) → In r (at makes u) → (r < before) × (entry makers r ≡ Some u)
  pub least : (r s u : ℕ) → Least makes u r → In s (at makes u) → r ≤ s
  pub orphan : (r : ℕ) → r < before → entry makers r ≡ None → (flag live r ≡ true) × (orphans ≡ true)

module _ (m : MarksSeen) where
  -- how long the lists are, and that makers are nodes other than the root
  pub record Shape : Type 0 where
    pub makers : length m.makers ≡ length m.live
    pub watchers : length m.watchers ≡ length m.live
    pub wanted : length m.wanted ≡ suc (length m.live)
    pub out : length m.out ≡ suc (length m.live)
    pub touched : length m.touched ≡ suc (length m.live)
    pub makes : length m.makes ≡ suc (length m.live)
    pub lacks : length m.lacks ≡ suc (length m.live)
    pub nodes : (r u : ℕ) → entry m.makers r ≡ Some u → (0 < u) × (u ≤ length m.live)

  -- wanted and not out
  abbrev pub Active : ℕ → Type 0
  Active u = (flag m.wanted u ≡ true) × (flag m.out u ≡ false)

  -- its least row is in the list; that the root can run isn't listed
  abbrev pub Listed : ℕ → Type 0
  Listed zero = Unit {0}
  Listed (suc e) = (r : ℕ) × Least m.makes (suc e) r × In r m.list

  -- it is among those that wait for one of its rows that isn't live
  abbrev pub Watches : ℕ → Type 0
  Watches u = (r : ℕ) × In r (at m.lacks u) × (flag m.live r ≡ false) × In u (at m.watchers r)

  -- the row of a name, which is kept as not live, and whose maker is wanted
  abbrev pub LacksIt : ℕ → Option ℕ → Type 0
  LacksIt u d = (r v : ℕ) × (d ≡ Some r) × In r (at m.lacks u) × (entry m.makers r ≡ Some v) × (flag m.wanted v ≡ true)

  module _ (needs : Needs) where
    -- its needs were looked at: each is live, or kept and its maker wanted; and it is listed, or waits for one of them, or is one of
    -- those that are late
    pub record Counted (late : List ℕ) (u : ℕ) : Type 0 where
      pub known : (d : Option ℕ) → In d (needs u) → (is_live m.live d ≡ true) ⊎ LacksIt u d
      pub lacked : (r : ℕ) → In r (at m.lacks u) → In (Some r) (needs u)
      pub next : ((at m.lacks u ≡ []) × Listed u) ⊎ (Watches u ⊎ In u late)

    -- reached; or else out, and a row that it makes became live meanwhile
    abbrev pub Justified : ℕ → Type 0
    Justified u = Led (net needs m.live m.makers m.out) u ⊎ ((flag m.out u ≡ true) × (flag m.touched u ≡ true))

    -- the least row of a node that can run
    abbrev pub Ready : ℕ → Type 0
    Ready r = (u : ℕ) × Active u × Least m.makes u r × ((d : Option ℕ) → In d (needs u) → is_live m.live d ≡ true)

    -- these marks are right, but that the needs of some nodes are still to be looked at, and some nodes are late
    pub record Stands (fresh late : List ℕ) : Type 0 where
      pub shape : Shape
      pub filed : Filed (length m.live) m.live m.makers m.makes m.orphans
      pub root : flag m.wanted 0 ≡ true
      pub justified : (u : ℕ) → flag m.wanted u ≡ true → Justified u
      pub counted : (u : ℕ) → Active u → Counted late u ⊎ (In u m.todo ⊎ In u fresh)
      pub ready : (r : ℕ) → In r m.list → Ready r

    -- these marks are right
    abbrev pub Right : Type 0
    Right = Stands [] [] × (m.todo ≡ [])
