use Rattle.ciel_master.proofs.MarkedLosses.{seen_is}
use Rattle.ciel_master.proofs.marks.confirm_seen.Goals as goal

pub returns-in-Some-clause-marked : goal.returns-in-Some-clause-marked
returns-in-Some-clause-marked c l h =
    seen_is c.args.seen c.in-Some.seen c.in-Some.is c.confirm.new.marker.losses c.confirm.ensures.confirmed l h
