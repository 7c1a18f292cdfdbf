-- What comes of the end of a report that is taken.
use Rattle.std.specs.Prelude.{ℕ, List, Bool, false}
use Rattle.sky_base.specs.declared.object.Named.{Named}
use Rattle.sky_base.specs.declared.object.TaskId.{TaskId}
use Rattle.ciel_master_board.specs.Moves.{is_root, with_copies, with_outputs, wait_of}
use Rattle.ciel_master_board.specs.Reports as r
use Rattle.ciel_master_board.specs.Reports.{AllLearned, Copy, copy_names, learned_all, made_keys}
use Rattle.ciel_journal.specs.Entries as j
use Rattle.ciel_journal.specs.Job.{Each}
use Rattle.ciel_table.specs.Changes.{saved}
use Rattle.ciel_table.specs.Seen.{Known, TableSeen, waits_of}
use Rattle.ciel_table.specs.Sound.{Here, IsAbove}
use Rattle.ciel_task_order.specs.Views.{P, copies_view}
use Rattle.ciel_task_order.specs.declared.block.Held.{Held}
use Rattle.ciel_task_order.specs.declared.report.End.{End}
use Rattle.ciel_task_order.specs.declared.report.Made.{Made}
use Rattle.sky_state.specs.declared.shown.Shown.{Shown}
use Rattle.ciel_master_bring.specs.Brings.{worker_of}
use Rattle.ciel_master.specs.declared.stop.Now.{Now}

-- the table after it
abbrev pub table_after : TaskId → r.End P → TableSeen P → TableSeen P
table_after task (r.made ms cs) t = with_copies cs (with_outputs ms t)
table_after task (r.saved s) t = saved worker_of task (wait_of s) t
table_after task (r.missing name loss) t = t

-- what the journal has of it
abbrev pub entry_for : ℕ → r.End P → j.Entry
entry_for k (r.made ms cs) = j.Entry.Done k (made_keys ms) (copy_names cs)
entry_for k (r.saved s) = j.Entry.Saved k s.j s.mark
entry_for k (r.missing name loss) = j.Entry.Missed k name loss

-- the run ends with it
abbrev pub is_last : TaskId → r.End P → Bool
is_last task (r.made ms cs) = is_root task
is_last task (r.saved s) = false
is_last task (r.missing name loss) = false

-- what comes of it
abbrev pub now_of : End → Now
now_of (End.Shown (Shown.Text text)) = Now.Answer text
now_of (End.Shown (Shown.Fault fault)) = Now.Fault fault
now_of (End.Made ms) = Now.Goes
now_of (End.Saved p k refs holds mark) = Now.Goes
now_of (End.Missing name loss seen) = Now.Goes

-- the table after what is spawned is learned; where something is missing nothing is
abbrev pub learned_for : (List ℕ → List ℕ) → End → List Named → TableSeen P → TableSeen P
learned_for digest (End.Made ms) ns t = learned_all digest ns t
learned_for digest (End.Saved p k refs holds mark) ns t = learned_all digest ns t
learned_for digest (End.Shown s) ns t = learned_all digest ns t
learned_for digest (End.Missing name loss seen) ns t = t

abbrev pub LearnedFor : (List ℕ → List ℕ) → End → List Named → TableSeen P → Type 0
LearnedFor digest (End.Made ms) ns t = AllLearned digest ns t
LearnedFor digest (End.Saved p k refs holds mark) ns t = AllLearned digest ns t
LearnedFor digest (End.Shown s) ns t = AllLearned digest ns t
LearnedFor digest (End.Missing name loss seen) ns t = Unit {0}

abbrev pub OutputsPlace : TableSeen P → List Made → Type 0
OutputsPlace t ms = Each (λ (m : Made). Known t m.name × Here t.gone (worker_of m.place)) ms

abbrev pub CopiesPlace : TableSeen P → List Held → Type 0
CopiesPlace t copied = Each (λ (c : Copy P). Known t c.name × Here t.gone (worker_of c.place)) (copies_view copied)

-- what it places has rows, at a worker that isn't lost, and the wait that it saves is the task's last
abbrev pub CanTake : TaskId → TableSeen P → List Held → End → Type 0
CanTake task t copied (End.Made ms) = OutputsPlace t ms.items × CopiesPlace t copied
CanTake task t copied (End.Saved p k refs holds mark) = IsAbove k (waits_of task t) × Here t.gone (worker_of p)
CanTake task t copied (End.Shown s) = CopiesPlace t copied
CanTake task t copied (End.Missing name loss seen) = Unit {0}
