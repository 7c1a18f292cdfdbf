-- What each call makes of the master's state.
use Rattle.std.specs.Prelude.{ℕ, ◌+◌, List, [], ◌∷◌, ◌++◌, Bool, true, false, not, filter, nat_eq}
use Rattle.sky_base.specs.declared.object.Named.{Named}
use Rattle.sky_base.specs.declared.object.TaskId.{TaskId}
use Rattle.ciel_journal.specs.Entries.{Entry}
use Rattle.ciel_journal.specs.History.{Plan}
use Rattle.ciel_journal.specs.Job.{Digest}
use Rattle.ciel_master_board.specs.Board.{Board, Order, OrderOut, brought, held, stack_at, task_desc, task_key, wait_number}
use Rattle.ciel_master_board.specs.Reports.{Copy, End, Output, Stack, copy_names, learned_all, made, made_keys, missing, saved}
use Rattle.ciel_table.specs.Changes as c
use Rattle.ciel_table.specs.Learning as l
use Rattle.ciel_table.specs.Seen.{TableSeen, last_wait}
use Rattle.ciel_table.specs.declared.wait.Wait.{Wait}

abbrev pub is_root : TaskId → Bool
is_root TaskId.Show = true
is_root (TaskId.Of n) = false

abbrev pub without : ℕ → List OrderOut → List OrderOut
without k xs = filter (λ (x : OrderOut). not (nat_eq k x.number)) xs

module _ {P : Type 0} where
  -- the table of so many rows that has none
  abbrev pub empty : ℕ → TableSeen P
  empty limit = record { limit = limit; rows = []; shown = []; saved = []; gone = [] }

  -- the beginning: the main call is known
  abbrev pub opened : (List ℕ → List ℕ) → Plan → List (List ℕ) → Named → Board P
  opened digest plan keys main =
      record {
        plan = plan;
        keys = keys;
        main = main.name;
        table = l.learned digest main (empty plan.limit);
        orders = [];
        starts = 0;
        closes = 0;
        journal = [];
        stopped = false;
      }

  -- ---- a start

  -- a task goes on at a worker from its last saved wait, with what it holds there and is live
  abbrev pub order_for : (P → ℕ) → Board P → TaskId → ℕ → Order P
  order_for at b task w =
      record {
        out = record { number = b.starts; worker = w; task = task; from = wait_number (last_wait task b.table) };
        main = b.main;
        desc = task_desc b.main b.table task;
        stack = stack_at (last_wait task b.table);
        inputs = brought at b.keys w b.table (held b.main b.table task);
      }

  abbrev pub started : (P → ℕ) → Board P → TaskId → ℕ → Board P
  started at b task w =
      record b {
        orders = b.orders ++ (order_for at b task w).out ∷ [];
        starts = b.starts + 1;
        journal = b.journal ++ Entry.Start b.starts w (task_key task) (wait_number (last_wait task b.table)) ∷ [];
      }

  -- ---- a report

  abbrev pub with_outputs : List (Output P) → TableSeen P → TableSeen P
  with_outputs [] t = t
  with_outputs (m ∷ ms) t = with_outputs ms (c.placed m.name m.place t)

  abbrev pub with_copies : List (Copy P) → TableSeen P → TableSeen P
  with_copies [] t = t
  with_copies (x ∷ xs) t = with_copies xs (c.placed x.name x.place t)

  abbrev pub wait_of : Stack P → Wait P
  wait_of s = record { j = s.j; place = s.place; refs = s.refs; holds = s.holds }

  -- the order is closed, and this is written
  abbrev pub closed : Board P → OrderOut → TableSeen P → Entry → Board P
  closed b x t e =
      record b { table = t; orders = without x.number b.orders; closes = b.closes + 1; journal = b.journal ++ e ∷ [] }

  module _ (digest : List ℕ → List ℕ) where
    -- the task came to its end: what was spawned is learned, then what was made and copied is placed. The root task's end
    -- ends the run
    abbrev pub done_at : Board P → OrderOut → List Named → List (Output P) → List (Copy P) → Board P
    done_at b x spawned ms cs =
        let t = with_copies cs (with_outputs ms (learned_all digest spawned b.table)) in
        record (closed b x t (Entry.Done x.number (made_keys ms) (copy_names cs))) { stopped = is_root x.task }

    -- something that the order brings along was missing
    abbrev pub missed_at : Board P → OrderOut → Digest → ℕ → Board P
    missed_at b x name loss = closed b x b.table (Entry.Missed x.number name loss)

    module _ (at : P → ℕ) where
      -- it waits, and its stack is saved; of its earlier ones that at the same worker goes
      abbrev pub saved_at : Board P → OrderOut → List Named → Stack P → Board P
      saved_at b x spawned s =
          closed b x (c.saved at x.task (wait_of s) (learned_all digest spawned b.table)) (Entry.Saved x.number s.j s.mark)

      -- by how the run ended
      abbrev pub accepted : Board P → OrderOut → List Named → End P → Board P
      accepted b x spawned (made ms cs) = done_at b x spawned ms cs
      accepted b x spawned (saved s) = saved_at b x spawned s
      accepted b x spawned (missing name loss) = missed_at b x name loss

  -- ---- a loss

  -- the worker's places and saved waits are dropped, and its order is closed with nothing made
  abbrev pub lost_at : (P → ℕ) → ℕ → Board P → Board P
  lost_at at w b =
      record b {
        table = c.dropped at w b.table;
        orders = filter (λ (x : OrderOut). not (nat_eq w x.worker)) b.orders;
        journal = b.journal ++ Entry.Lost w b.closes ∷ [];
      }
