use Rattle.std.proofs.Common.{◌≡◌, ◌+◌, ◌-◌, ◌*◌, length, Some}
use Rattle.ciel_want.proofs.SearchInvariants.{Searching}
use Rattle.ciel_want.specs.Board.{can_run_test, leads, never, task_at}
use Rattle.ciel_want.specs.Marked.{Marked}
use Rattle.ciel_want.proofs.ReadyFlags.{Readied}
use Rattle.ciel_want.proofs.search.reached.Given as goal

abbrev pub invariant-search : goal.invariant-search
invariant-search g l =
    record {
      searching : Searching (leads l.table l.main l.out.tasks.now) never (length l.table.rows) l.seen.items l.todo.items;
      marked : Marked l.flags.items l.seen.items;
      long : length l.flags.items ≡ length l.table.rows;
      readied : Readied (λ e. can_run_test l.main l.table l.out.tasks.now (task_at l.table (Some e))) l.ready.items l.seen.items l.todo.items;
      ready_long : length l.ready.items ≡ length l.table.rows;
    }

abbrev pub decreases-search : goal.decreases-search
decreases-search g l = 2 * (length l.table.rows - length l.seen.items) + length l.todo.items
