-- The master's whole state, by names alone.
use Rattle.std.specs.Prelude.{ℕ, List, [], ◌∷◌, ◌++◌, Bool, cond, Option, Some, None, nat_eq, nat_lt}
use Rattle.std.specs.Option.{option_map, option_map_or, option_and_then}
use Rattle.sky_base.specs.Val.{distinct, pairs_refs, same_text, vals_refs}
use Rattle.sky_base.specs.declared.object.Desc1.{Desc1}
use Rattle.sky_base.specs.declared.object.TaskId.{TaskId}
use Rattle.ciel_journal.specs.Entries.{Entry}
use Rattle.ciel_journal.specs.Graph.{Graph}
use Rattle.ciel_journal.specs.History.{Plan}
use Rattle.ciel_journal.specs.Job.{Digest, Task, of, show}
use Rattle.ciel_journal.specs.Turns.{idle_workers}
use Rattle.ciel_table.specs.Named.{place_of}
use Rattle.ciel_table.specs.Seen.{TableSeen, last_wait, row_named}
use Rattle.ciel_table.specs.declared.row.Row.{Row}
use Rattle.ciel_table.specs.declared.wait.Wait.{Wait}
use Rattle.ciel_want.specs.Followers.{FollowerIs}
use Rattle.ciel_want.specs.Waited.{first_refs, graph, names_of}

-- where an object is fetched from: a place, or the job's input of this number
pub data Spot (P : Type 0) : Type 0 where
  shelf : P → Spot P
  input : ℕ → Spot P

-- a name that an order brings along, with where its object is
pub record Brought (P : Type 0) : Type 0 where
  pub name : Digest
  pub spot : Spot P

-- An order that is out: its number, the worker and the task, and the wait from which the task goes on
pub record OrderOut : Type 0 where
  pub number : ℕ
  pub worker : ℕ
  pub task : TaskId
  pub from : ℕ

-- What a worker is given of it: besides, the main call's name, what the task goes by, the place of the stack of that wait, and
-- what the order brings along
pub record Order (P : Type 0) : Type 0 where
  pub out : OrderOut
  pub main : Digest
  pub desc : Option Desc1
  pub stack : Option P
  pub inputs : List (Brought P)

-- The plan; the keys of the job's inputs; the name of the main call; the table, with the lost workers; the orders that are out; how many orders there
-- were, and how many reports were taken; the journal; and whether the run has stopped, after which only the journal is asked
pub record Board (P : Type 0) : Type 0 where
  pub plan : Plan
  pub keys : List (List ℕ)
  pub main : Digest
  pub table : TableSeen P
  pub orders : List OrderOut
  pub starts : ℕ
  pub closes : ℕ
  pub journal : List Entry
  pub stopped : Bool

-- a task as the journal writes it
abbrev pub task_key : TaskId → Task Digest
task_key TaskId.Show = show
task_key (TaskId.Of n) = of n

-- the names that stand inside a description, each once: what a call holds at its start, and an executor waits for
abbrev pub start_refs : Desc1 → List Digest
start_refs (Desc1.Call f c vs) = names_of (distinct same_text (pairs_refs c ++ vals_refs vs))
start_refs (Desc1.Exec x v n i) = first_refs (Desc1.Exec x v n i)
start_refs (Desc1.Input k) = []

-- the number of a key
abbrev pub key_number : List (List ℕ) → List ℕ → Option ℕ
key_number keys k = place_of (λ (n : List ℕ). n) k keys

-- ---- orders that are out

-- the one of this number
abbrev pub find_order : ℕ → List OrderOut → Option OrderOut
find_order k [] = None
find_order k (x ∷ xs) = cond (nat_eq k x.number) (Some x) (find_order k xs)

abbrev pub tasks_out : List OrderOut → List TaskId
tasks_out [] = []
tasks_out (x ∷ xs) = x.task ∷ tasks_out xs

abbrev pub workers_out : List OrderOut → List ℕ
workers_out [] = []
workers_out (x ∷ xs) = x.worker ∷ workers_out xs

module _ {P : Type 0} where
  -- of the plan's workers those that are neither lost nor have an order, rising
  abbrev pub idle_of : Board P → List ℕ
  idle_of b = idle_workers b.plan.workers b.table.gone (workers_out b.orders)

  -- what its tasks wait for
  abbrev pub board_graph : Board P → Graph TaskId Digest
  board_graph b = graph b.main b.table (tasks_out b.orders)

  -- the executor's task that follows another one, if one does, by its first output
  abbrev pub FollowerOf : Board P → TaskId → Option Desc1 → Type 0
  FollowerOf b task o = FollowerIs b.main b.table (tasks_out b.orders) task o

  -- ---- where a task goes on

  -- its last saved wait, else its start
  abbrev pub wait_number : Option (Wait P) → ℕ
  wait_number None = 0
  wait_number (Some w) = w.j

  abbrev pub stack_at : Option (Wait P) → Option P
  stack_at None = None
  stack_at (Some w) = Some w.place

  module _ (main : Digest) (t : TableSeen P) where
    -- what a task holds at its start
    abbrev pub first_held : TaskId → List Digest
    first_held TaskId.Show = main ∷ []
    first_held (TaskId.Of n) = option_map_or (λ (r : Row P). start_refs r.desc) (row_named n t) []

    -- the description that a task goes by
    abbrev pub task_desc : TaskId → Option Desc1
    task_desc TaskId.Show = None
    task_desc (TaskId.Of n) = option_map (λ (r : Row P). r.desc) (row_named n t)

    abbrev pub held_at : Option (Wait P) → TaskId → List Digest
    held_at None task = first_held task
    held_at (Some w) task = w.holds

    -- what it holds where it goes on
    abbrev pub held : TaskId → List Digest
    held task = held_at (last_wait task t) task

  abbrev pub brought_names : List (Brought P) → List Digest
  brought_names [] = []
  brought_names (x ∷ xs) = x.name ∷ brought_names xs

  -- where a list of what an order brings along has a name
  abbrev pub spot_of : Digest → List (Brought P) → Option (Spot P)
  spot_of n [] = None
  spot_of n (x ∷ xs) = cond (same_text n x.name) (Some x.spot) (spot_of n xs)

module _ {P : Type 0} (at : P → ℕ) where
  -- ---- which place an order takes

  -- the first place at this worker
  abbrev pub place_at : ℕ → List P → Option P
  place_at w [] = None
  place_at w (p ∷ ps) = cond (nat_eq w (at p)) (Some p) (place_at w ps)

  abbrev pub lesser : P → Option P → Option P
  lesser p None = Some p
  lesser p (Some q) = cond (nat_lt (at q) (at p)) (Some q) (Some p)

  -- a place at the least worker
  abbrev pub least_place : List P → Option P
  least_place [] = None
  least_place (p ∷ ps) = lesser p (least_place ps)

  abbrev pub or_least : Option P → List P → Option P
  or_least None ps = least_place ps
  or_least (Some p) ps = Some p

  -- one at the worker itself, if there is one, else one at the least worker
  abbrev pub place_for : ℕ → List P → Option P
  place_for w ps = or_least (place_at w ps) ps

  module _ (keys : List (List ℕ)) where
    -- an input has the number of its key; what is made is at a place, if it is live
    abbrev pub spot_in : ℕ → Desc1 → List P → Option (Spot P)
    spot_in w (Desc1.Call f c vs) ps = option_map Spot.shelf (place_for w ps)
    spot_in w (Desc1.Exec x v n i) ps = option_map Spot.shelf (place_for w ps)
    spot_in w (Desc1.Input k) ps = option_map Spot.input (key_number keys k)

    abbrev pub spot_for : ℕ → TableSeen P → Digest → Option (Spot P)
    spot_for w t n = option_and_then (λ (r : Row P). spot_in w r.desc r.places) (row_named n t)

  abbrev pub with_spot : Digest → Option (Spot P) → List (Brought P) → List (Brought P)
  with_spot n None rest = rest
  with_spot n (Some s) rest = record { name = n; spot = s } ∷ rest

  -- of these names those that are live, each with where its object is for this worker
  abbrev pub brought : List (List ℕ) → ℕ → TableSeen P → List Digest → List (Brought P)
  brought keys w t [] = []
  brought keys w t (n ∷ ns) = with_spot n (spot_for keys w t n) (brought keys w t ns)
