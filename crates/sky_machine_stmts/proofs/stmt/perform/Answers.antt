use Rattle.std.proofs.Common.{◌≡◌, rules}
use Rattle.sky_base.specs.StmtView.{else_view}
use Rattle.sky_machine_entries.specs.Entries.{last_block}
use Rattle.sky_machine_stmts.proofs.stmt.perform.Goals as goal

pub begin_put-requires-clause-has : goal.begin_put-requires-clause-has
begin_put-requires-clause-has c = rw c.in-Put.is at c.requires.has

pub begin_if-requires-clause-has : goal.begin_if-requires-clause-has
begin_if-requires-clause-has c =
    let e : last_block c.as_ref-in-If.result ≡ else_view c.in-If.otherwise = search rules in rw e (rw c.in-If.is at c.requires.has)

pub begin_while-requires-clause-has : goal.begin_while-requires-clause-has
begin_while-requires-clause-has c = rw c.in-While.is at c.requires.has

pub begin_do-requires-clause-has : goal.begin_do-requires-clause-has
begin_do-requires-clause-has c = rw c.in-Do.is at c.requires.has

pub begin_for-requires-clause-has : goal.begin_for-requires-clause-has
begin_for-requires-clause-has c = rw c.in-For.is at c.requires.has

pub returns-in-Put-clause-same : goal.returns-in-Put-clause-same
returns-in-Put-clause-same c = rw c.in-Put.is c.begin_put.ensures.same

pub returns-in-While-clause-same : goal.returns-in-While-clause-same
returns-in-While-clause-same c = rw c.in-While.is c.begin_while.ensures.same

pub returns-in-Do-clause-same : goal.returns-in-Do-clause-same
returns-in-Do-clause-same c = rw c.in-Do.is c.begin_do.ensures.same
