use Rattle.std.proofs.Common.{sym, subst}
use Rattle.ciel_want_ready.specs.Seen.{CanRunMany}
use Rattle.ciel_want_ready.proofs.RunnableList.{runs_many}
use Rattle.ciel_want_ready.proofs.ready.Ready.count.Goals as goal

pub returns-clause-count : goal.returns-clause-count
returns-clause-count g c =
    let r = c.args.self.now in
    subst (CanRunMany r) (sym c.many-count.ensures.many)
    (runs_many r.main r.table r.out c.in_ok-marks.marks c.in_ok-marks.ensures.fits c.many-count.ensures.rising)
