use Rattle.std.proofs.Common.{subst, sym, true}
use Rattle.ciel_log_file.specs.Sending.{nobody}
use Rattle.ciel_run_drive.specs.Working.{Working}
use Rattle.ciel_log_file_tests.proofs.made.replayed_with.Goals as goal

pub replay-came-requires-clause-working : goal.replay-came-requires-clause-working
replay-came-requires-clause-working g c =
    let m = c.in_ok-opened.opened.master in
    subst (λ s. Working g.K.Kit.gives g.N.Namer.digest s true m (nobody m.board.plan.workers)) (sym c.deref.ensures) c.in_ok-opened.ensures.working
