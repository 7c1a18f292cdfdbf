-- What the master's data stand for.
use Rattle.ciel_master_board.specs.Board as b
use Rattle.ciel_journal.specs.Entries as j
use Rattle.ciel_master.specs.declared.entry.Entry.{Entry}
use Rattle.ciel_master.specs.declared.orders.OrderOut.{OrderOut}

abbrev pub kept_view : OrderOut → b.OrderOut
kept_view x = record { number = x.number; worker = x.worker; task = x.task; from = x.from }

abbrev pub entry_view : Entry → j.Entry
entry_view (Entry.Start number worker task from) = j.Entry.Start number worker (b.task_key task) from
entry_view (Entry.Done number made copied) = j.Entry.Done number made.items copied
entry_view (Entry.Saved number k mark) = j.Entry.Saved number k mark
entry_view (Entry.Missed number name lost) = j.Entry.Missed number name lost
entry_view (Entry.Lost worker after) = j.Entry.Lost worker after
