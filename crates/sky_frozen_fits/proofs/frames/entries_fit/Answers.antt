use Rattle.sky_state.specs.StandView.{todos_view, stack_view}
use Rattle.sky_frozen_fits.proofs.Together.{together, one_by_one}
use Rattle.sky_frozen_fits.proofs.frames.entries_fit.Goals as goal

pub returns-clause-yes : goal.returns-clause-yes
returns-clause-yes c = λ h. together c.args.code.now (todos_view c.args.todos.now) (stack_view c.args.values.now) (c.entered.ensures.yes h)

pub returns-clause-no : goal.returns-clause-no
returns-clause-no c = λ h g. c.entered.ensures.no h (one_by_one c.args.code.now (todos_view c.args.todos.now) (stack_view c.args.values.now) g)
