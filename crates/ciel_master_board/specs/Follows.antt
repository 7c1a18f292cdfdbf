-- How the master's state stands to a history.
use Rattle.std.specs.Prelude.{◌≡◌, ℕ, List, [], ◌∷◌, false, cond, filter, map, Option, Some, None, nat_eq}
use Rattle.std.specs.List.{AllByRecursion, list_any}
use Rattle.std.specs.Option.{option_map}
use Rattle.sky_base.specs.Val.{input}
use Rattle.sky_base.specs.declared.object.Desc1.{Desc1}
use Rattle.ciel_journal.specs.Entries.{journal_of}
use Rattle.ciel_journal.specs.History.{Event, OpenStart, Save, Standing, same_task, standing}
use Rattle.ciel_journal.specs.Job.{Digest, In, Job, Task, of, show}
use Rattle.ciel_journal.specs.Lawful.{HeldAt, Lawful, least, own_name}
use Rattle.ciel_table.specs.Seen.{waits_of}
use Rattle.ciel_table.specs.declared.row.Row.{Row}
use Rattle.ciel_table.specs.declared.wait.Wait.{Wait}
use Rattle.ciel_want.specs.History.{task_id}
use Rattle.ciel_master_board.specs.Board.{Board, Order, OrderOut, Spot, brought_names, key_number, shelf, spot_of}
use Rattle.ciel_master_board.specs.Setting.{HasObject, HasState, Setting, Spells}

-- the lists go together, one by one
abbrev pub OneByOne : {A C : Type 0} → (A → C → Type 0) → List A → List C → Type 0
OneByOne R [] [] = Unit {0}
OneByOne R [] (y ∷ ys) = ⊥
OneByOne R (x ∷ xs) [] = ⊥
OneByOne R (x ∷ xs) (y ∷ ys) = R x y × OneByOne R xs ys

module _ {D : Type 0} where
  -- of the saved waits of one task those that have no later one at their worker. The task never goes on from another, since what lies
  -- at a worker is lost together
  abbrev pub standing_saves : List (Save D) → List (Save D)
  standing_saves [] = []
  standing_saves (q ∷ qs) = cond (list_any (λ (r : Save D). nat_eq q.worker r.worker) qs) (standing_saves qs) (q ∷ standing_saves qs)

module _ {D : Type 0} (job : Job D) where
  -- the saved waits of a task
  abbrev pub saves_of : Task D → List (Save D) → List (Save D)
  saves_of u ss = filter (λ (s : Save D). same_task job u s.task) ss

  -- which worker an order takes what these have from: its own, else the least
  abbrev pub worker_for : ℕ → List ℕ → Option ℕ
  worker_for w ws = cond (list_any (nat_eq w) ws) (Some w) (least job ws)

module _ {D P B : Type 0} (s : Setting D P B) where
  -- the row of d: its description by names, with a place for each worker that has it, where its object lies
  pub record RowIs (had : D → List ℕ) (d : D) (r : Row P) : Type 0 where
    pub spells : Spells s r.desc d
    pub places : map s.at r.places ≡ had d
    pub objects : AllByRecursion (λ p. HasObject s p d) r.places

  -- a saved wait by names, and the state lies at its place
  pub record WaitIs (q : Save D) (w : Wait P) : Type 0 where
    pub j : w.j ≡ q.j
    pub worker : s.at w.place ≡ q.worker
    pub refs : w.refs ≡ map s.job.name q.refs
    pub holds : w.holds ≡ map s.job.name q.holds
    pub state : HasState s w.place q.task q.j

  -- nobody has the object, or it lies at a place of this worker
  abbrev pub FetchedAt : D → Option ℕ → Option (Spot P) → Type 0
  FetchedAt d None found = found ≡ None
  FetchedAt d (Some w) found = (p : P) × (found ≡ Some (shelf p)) × (s.at p ≡ w) × HasObject s p d

  -- what stands for d among what an order brings along: an input by the number of its key, and what is made where the order fetches it
  abbrev pub BroughtFor : OpenStart D → D → Option (Task D) → Option (Spot P) → Type 0
  BroughtFor o d None found =
      (k : List ℕ) × (i : ℕ) × (s.lower d ≡ input k) × (key_number s.keys k ≡ Some i) × (found ≡ Some (Spot.input i))
  BroughtFor o d (Some u) found = FetchedAt d (worker_for s.job o.worker (o.had d)) found

  -- an order that is out, of an open Start
  pub record OutIs (o : OpenStart D) (x : OrderOut) : Type 0 where
    pub number : x.number ≡ o.number
    pub worker : x.worker ≡ o.worker
    pub task : x.task ≡ task_id s.job o.task
    pub from : x.from ≡ o.from

  -- the description that the task goes by; none for the root task
  abbrev pub GoesBy : Task D → Option Desc1 → Type 0
  GoesBy show None = Unit {0}
  GoesBy show (Some e) = ⊥
  GoesBy (of d) None = ⊥
  GoesBy (of d) (Some e) = Spells s e d

  -- what a worker is given of it: the stack of its wait, and what its task holds there and was live
  pub record OrderIs (o : OpenStart D) (x : Order P) : Type 0 where
    pub out : OutIs o x.out
    pub main : x.main ≡ s.job.name s.job.main
    pub desc : GoesBy o.task x.desc
    pub stack : option_map s.at x.stack ≡ o.stack
    pub state : (p : P) → x.stack ≡ Some p → HasState s p o.task o.from
    pub inputs : (d : D) → HeldAt s.job o.task o.from d → BroughtFor o d (s.job.task_of d) (spot_of (s.job.name d) x.inputs)
    pub only : (n : Digest) → In n (brought_names x.inputs) → (d : D) × HeldAt s.job o.task o.from d × (n ≡ s.job.name d)

  -- What stands, by names: the rows are the book; a task that goes by a name of the book has its last saved wait at each worker;
  -- each open Start has its order
  pub record StandsFor (v : Standing D) (b : Board P) : Type 0 where
    pub keys : b.keys ≡ s.keys
    pub main : b.main ≡ s.job.name s.job.main
    pub rows : OneByOne (RowIs v.places) v.book b.table.rows
    pub waits : (u : Task D) → In (own_name s.job u) v.book
        → OneByOne WaitIs (standing_saves (saves_of s.job u v.saves)) (waits_of (task_id s.job u) b.table)
    pub orders : OneByOne OutIs v.orders b.orders
    pub gone : b.table.gone ≡ v.gone
    pub starts : b.starts ≡ v.starts
    pub closes : b.closes ≡ v.closes
    pub going : b.stopped ≡ false → v.over ≡ false

  -- a lawful history with this journal, after which that stands
  pub record Follows (h : List (Event D)) (b : Board P) : Type 0 where
    pub lawful : Lawful s.job b.plan h
    pub journal : b.journal ≡ journal_of s.job h
    pub stands : StandsFor (standing s.job h) b
