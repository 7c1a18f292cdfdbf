-- What happened in a run, and what stands after it.
use Rattle.std.specs.Prelude.{ℕ, ◌+◌, List, [], ◌∷◌, ◌++◌, Bool, true, false, cond, not, Option, Some, None, nat_eq, nat_lt, filter}
use Rattle.std.specs.List.{list_any}
use Rattle.ciel_journal.specs.Job.{Digest, Task, show, of, Job}

-- An entry of the journal with all that it stands for, over descriptions. A history is a list of them.
pub data Event (D : Type 0) : Type 0 where
  start : (number worker : ℕ) → Task D → (from : ℕ) → Event D
  done : (number : ℕ) → (made : List (D × Digest)) → (copied spawned : List D) → Event D
  saved : (number j : ℕ) → (mark : Digest) → (refs holds spawned : List D) → Event D
  missed : (number : ℕ) → D → (loss : ℕ) → Event D
  lost : (worker after : ℕ) → Event D

-- A Start that is open, with what stood when it was made: the workers that had each description, the workers that were
-- lost, and the worker that had the saved stack
pub record OpenStart (D : Type 0) : Type 0 where
  pub number : ℕ
  pub worker : ℕ
  pub task : Task D
  pub from : ℕ
  pub had : D → List ℕ
  pub gone : List ℕ
  pub stack : Option ℕ

-- a saved wait: the task, the number of the wait, the worker that has the stack, what is waited for and what is held
pub record Save (D : Type 0) : Type 0 where
  pub task : Task D
  pub j : ℕ
  pub worker : ℕ
  pub refs : List D
  pub holds : List D

-- What stands after a history: how many Starts there were, which are open, the lost workers, the workers that have each
-- description, the saved waits whose worker isn't lost, how many entries closed a Start, the descriptions known so far in
-- the order of learning, and whether the root task is done
pub record Standing (D : Type 0) : Type 0 where
  pub starts : ℕ
  pub orders : List (OpenStart D)
  pub gone : List ℕ
  pub places : D → List ℕ
  pub saves : List (Save D)
  pub closes : ℕ
  pub book : List D
  pub over : Bool

-- The plan of a run: how many workers there are, the seed number, the losses, each a count of closes and a worker, and
-- how many descriptions may be known
pub record Plan : Type 0 where
  pub workers : ℕ
  pub seed : ℕ
  pub losses : List (ℕ × ℕ)
  pub limit : ℕ

module _ {D : Type 0} where
  abbrev pub names_of : List (D × Digest) → List D
  names_of [] = []
  names_of (m ∷ ms) = m.0 ∷ names_of ms

module _ {D : Type 0} (job : Job D) where
  abbrev pub same_task : Task D → Task D → Bool
  same_task show show = true
  same_task show (of e) = false
  same_task (of d) show = false
  same_task (of d) (of e) = job.same d e

  -- ---- what stands

  abbrev pub live_if : Option (Task D) → List ℕ → Bool
  live_if None ws = true
  live_if (Some t) [] = false
  live_if (Some t) (w ∷ ws) = true

  -- an input, or what some worker has
  abbrev pub live_in : (D → List ℕ) → D → Bool
  live_in f d = live_if (job.task_of d) (f d)

  abbrev pub live : Standing D → D → Bool
  live v d = live_in v.places d

  abbrev pub better : Save D → Option (Save D) → Option (Save D)
  better s None = Some s
  better s (Some r) = cond (nat_lt r.j s.j) (Some s) (Some r)

  -- the saved wait of a task with the greatest number
  abbrev pub last_save : Task D → List (Save D) → Option (Save D)
  last_save t [] = None
  last_save t (s ∷ ss) = cond (same_task t s.task) (better s (last_save t ss)) (last_save t ss)

  abbrev pub wait_number : Option (Save D) → ℕ
  wait_number None = 0
  wait_number (Some s) = s.j

  abbrev pub needs_of : Task D → Option (Save D) → List D
  needs_of t None = job.first t
  needs_of t (Some s) = s.refs

  abbrev pub stack_of : Option (Save D) → Option ℕ
  stack_of None = None
  stack_of (Some s) = Some s.worker

  -- the number of the last live saved wait of a task, else 0
  abbrev pub last : Standing D → Task D → ℕ
  last v t = wait_number (last_save t v.saves)

  -- what a task waits for there
  abbrev pub needs : Standing D → Task D → List D
  needs v t = needs_of t (last_save t v.saves)

  abbrev pub is_out : Standing D → Task D → Bool
  is_out v t = list_any (λ (o : OpenStart D). same_task t o.task) v.orders

  abbrev pub find_open : ℕ → List (OpenStart D) → Option (OpenStart D)
  find_open k [] = None
  find_open k (o ∷ os) = cond (nat_eq k o.number) (Some o) (find_open k os)

  -- ---- what an event changes

  -- each description at its first place only
  abbrev pub learned : List D → List D → List D
  learned book [] = book
  learned book (d ∷ ds) = learned (cond (list_any (job.same d) book) book (book ++ d ∷ [])) ds

  -- with these descriptions at that worker
  abbrev pub placed : List D → ℕ → (D → List ℕ) → D → List ℕ
  placed [] w f = f
  placed (e ∷ es) w f = placed es w (λ d. cond (job.same e d) (f d ++ w ∷ []) (f d))

  abbrev pub ends_show : Task D → Bool
  ends_show show = true
  ends_show (of d) = false

  abbrev pub closed : Standing D → ℕ → Standing D
  closed v k =
      record v { orders = filter (λ (o : OpenStart D). not (nat_eq k o.number)) v.orders; closes = v.closes + 1 }

  abbrev pub close_with : (OpenStart D → Standing D → Standing D) → Standing D → ℕ → Option (OpenStart D) → Standing D
  close_with f v k None = closed v k
  close_with f v k (Some o) = f o (closed v k)

  abbrev pub done_with : List (D × Digest) → List D → List D → OpenStart D → Standing D → Standing D
  done_with made copied spawned o u =
      record u {
        book = learned u.book spawned;
        places = placed copied o.worker (placed (names_of made) o.worker u.places);
        over = ends_show o.task;
      }

  abbrev pub saved_with : ℕ → List D → List D → List D → OpenStart D → Standing D → Standing D
  saved_with j refs holds spawned o u =
      record u {
        book = learned u.book spawned;
        saves = u.saves ++ record { task = o.task; j = j; worker = o.worker; refs = refs; holds = holds } ∷ [];
      }

  abbrev pub missed_with : OpenStart D → Standing D → Standing D
  missed_with o u = u

  abbrev pub order_of : Standing D → ℕ → ℕ → Task D → ℕ → OpenStart D
  order_of v k w t from =
      record { number = k; worker = w; task = t; from = from; had = v.places; gone = v.gone; stack = stack_of (last_save t v.saves) }

  abbrev pub after : Standing D → Event D → Standing D
  after v (start k w t from) =
      record v { starts = v.starts + 1; orders = v.orders ++ order_of v k w t from ∷ [] }
  after v (done k made copied spawned) = close_with (done_with made copied spawned) v k (find_open k v.orders)
  after v (saved k j mark refs holds spawned) =
      close_with (saved_with j refs holds spawned) v k (find_open k v.orders)
  after v (missed k d loss) = close_with missed_with v k (find_open k v.orders)
  after v (lost w closes) =
      record v {
        orders = filter (λ (o : OpenStart D). not (nat_eq w o.worker)) v.orders;
        gone = v.gone ++ w ∷ [];
        places = λ d. filter (λ u. not (nat_eq w u)) (v.places d);
        saves = filter (λ (s : Save D). not (nat_eq w s.worker)) v.saves;
      }

  -- before anything happened the main call alone is known
  abbrev pub before_all : Standing D
  before_all =
      record { starts = 0; orders = []; gone = []; places = λ d. []; saves = []; closes = 0; book = job.main ∷ []; over = false }

  abbrev pub after_all : Standing D → List (Event D) → Standing D
  after_all v [] = v
  after_all v (e ∷ es) = after_all (after v e) es

  -- what stands after a history
  abbrev pub standing : List (Event D) → Standing D
  standing h = after_all before_all h

  -- the tasks that a worker was given, in order
  abbrev pub entered : ℕ → List (Event D) → List (Task D)
  entered w [] = []
  entered w (start k u t from ∷ es) = cond (nat_eq w u) (t ∷ entered w es) (entered w es)
  entered w (done k made copied spawned ∷ es) = entered w es
  entered w (saved k j mark refs holds spawned ∷ es) = entered w es
  entered w (missed k d loss ∷ es) = entered w es
  entered w (lost u closes ∷ es) = entered w es
