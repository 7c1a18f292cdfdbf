-- No origins of no starts.
use Rattle.ciel_look_tasks.proofs.AgainSteps.{origins_none}
use Rattle.ciel_look_tasks.proofs.CutSteps.{kept_none}
use Rattle.ciel_look_tasks.proofs.StackSteps.{have_none}
use Rattle.ciel_look_tasks.proofs.make.Maker.new.Goals as goal

pub returns-clause-origins : goal.returns-clause-origins
returns-clause-origins c = origins_none _ _ c.new-4.ensures.none c.new-3.ensures.starts

pub returns-clause-kept : goal.returns-clause-kept
returns-clause-kept c = kept_none _ _ c.new-6.ensures.items

pub returns-clause-have : goal.returns-clause-have
returns-clause-have c = have_none _ _ c.new-6.ensures.items
