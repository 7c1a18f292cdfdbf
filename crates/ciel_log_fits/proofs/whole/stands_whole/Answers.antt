use Rattle.ciel_log_fits.proofs.Circles.{next, whole}
use Rattle.ciel_log_fits.proofs.whole.stands_whole.Goals as goal

pub returns-clause-yes : goal.returns-clause-yes
returns-clause-yes c = λ t.
    whole c.in_ok-outputs.outputs c.args.spawned.now c.in_ok-outputs.ensures c.requires.spelled (c.in_ok-whole.ensures.yes t)

pub returns-clause-no : goal.returns-clause-no
returns-clause-no c = λ t h. c.in_ok-whole.ensures.no t (next c.in_ok-outputs.outputs c.args.spawned.now c.in_ok-outputs.ensures h)
