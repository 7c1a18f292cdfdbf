use Rattle.sky_state.specs.Table.{IsWaiting}
use Rattle.sky_state.specs.StandView.{todos_view}
use Rattle.sky_frozen_fits.specs.Rows.{row_view}
use Rattle.sky_frozen_fits.proofs.Together.{last_yes, last_no, last_none}
use Rattle.sky_frozen_fits.proofs.frames.ends_in_wait.Goals as goal

pub returns-in-None-clause-no : goal.returns-in-None-clause-no
returns-in-None-clause-no c = λ f h. last_none c.args.code.now IsWaiting (todos_view c.args.todos.now) c.in-None.ensures h

pub returns-in-Some-clause-yes : goal.returns-in-Some-clause-yes
returns-in-Some-clause-yes c = λ f.
    last_yes c.args.code.now IsWaiting (todos_view c.args.todos.now) (row_view c.in-Some.row) c.in-Some.ensures (c.is_waiting.ensures.yes f)

pub returns-in-Some-clause-no : goal.returns-in-Some-clause-no
returns-in-Some-clause-no c = λ f h.
    c.is_waiting.ensures.no f (last_no c.args.code.now IsWaiting (todos_view c.args.todos.now) (row_view c.in-Some.row) c.in-Some.ensures h)
