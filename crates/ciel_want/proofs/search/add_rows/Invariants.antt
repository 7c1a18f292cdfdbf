use Rattle.std.proofs.Common.{◌≡◌, ◌++◌, drop, length}
use Rattle.ciel_want.specs.Search.{news}
use Rattle.ciel_want.specs.Marked.{AllBelow, Marked}
use Rattle.ciel_want.proofs.search.add_rows.Given as goal

abbrev pub invariant-loop-i : goal.invariant-loop-i
invariant-loop-i l =
    record {
      seen : l.seen.items ++ news l.seen.items (drop l.i l.found) ≡ l.fn.seen.items ++ news l.fn.seen.items l.found;
      todo : l.todo.items ++ news l.seen.items (drop l.i l.found) ≡ l.fn.todo.items ++ news l.fn.seen.items l.found;
      marked : Marked l.flags.items l.seen.items;
      below : AllBelow (length l.flags.items) (drop l.i l.found);
      long : length l.flags.items ≡ length l.fn.flags.items;
    }
