-- The Starts that are open behind a journal's entries: none of them has closed these, and their workers have no Lost since.
use Rattle.std.specs.Prelude.{ℕ, List, [], ◌∷◌, ◌++◌, filter, not, nat_eq}
use Rattle.ciel_journal.specs.Entries.{Entry}
use Rattle.ciel_journal.specs.Job.{Digest, Task}
use Rattle.ciel_master_board.specs.Board.{task_key}
use Rattle.ciel_task_order.specs.declared.order.Order.{Order}

-- the number, the worker and the task of a Start
abbrev pub Begun : Type 0
Begun = ℕ × ℕ × Task Digest

-- all but that of this number
abbrev pub unclosed : ℕ → List Begun → List Begun
unclosed k os = filter (λ (o : Begun). not (nat_eq k o.0)) os

-- what is open behind an entry
abbrev pub open_with : List Begun → Entry → List Begun
open_with os (Entry.Start k w t from) = os ++ (k, w, t) ∷ []
open_with os (Entry.Done k made copied) = unclosed k os
open_with os (Entry.Saved k j mark) = unclosed k os
open_with os (Entry.Missed k name loss) = unclosed k os
open_with os (Entry.Lost w closes) = filter (λ (o : Begun). not (nat_eq w o.1)) os

abbrev pub open_behind : List Begun → List Entry → List Begun
open_behind os [] = os
open_behind os (e ∷ es) = open_behind (open_with os e) es

abbrev pub open_in : List Entry → List Begun
open_in es = open_behind [] es

-- the Start of an order
abbrev pub begun_of : Order → Begun
begun_of o = (o.number, o.worker, task_key o.task)
