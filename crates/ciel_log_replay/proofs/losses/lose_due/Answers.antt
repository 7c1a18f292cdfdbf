use Rattle.std.proofs.Common.{[], true, sym, subst}
use Rattle.ciel_log_replay.specs.Between.{job_of}
use Rattle.ciel_log_replay.specs.Steps.{stays}
use Rattle.ciel_log_replay.proofs.Listed.{all_stay, left_kept}
use Rattle.ciel_log_replay.proofs.LostLemmas.{none_must}
use Rattle.ciel_log_replay.proofs.Stays.{losses_between}
use Rattle.ciel_run_drive.specs.Kept.{Kept}
use Rattle.ciel_log_replay.proofs.losses.lose_due.Goals as goal

pub returns-in_default-clause-lost : goal.returns-in_default-clause-lost
returns-in_default-clause-lost g c = ([], stays)

pub returns-in_default-clause-out : goal.returns-in_default-clause-out
returns-in_default-clause-out g c = sym (all_stay c.args.master.now.board c.args.out.now c.requires.between.all_out)

pub returns-in_default-clause-must : goal.returns-in_default-clause-must
returns-in_default-clause-must g c k es e =
    none_must (job_of g.K.Kit.gives g.N.Namer.digest c.args.shop.now) c.args.master.now.board.plan c.args.master.now.board.journal es e

pub returns-clause-between : goal.returns-clause-between
returns-clause-between g c =
    let n = c.lose_all.ensures in
    losses_between c.requires.between n.lost.0 n.lost.1 n.working c.drop_closed.new.out c.drop_closed.ensures.out

pub returns-clause-model : goal.returns-clause-model
returns-clause-model g c k =
    subst (λ z. Kept g.K.Kit.gives g.N.Namer.digest c.args.shop.now true c.lose_all.new.master z c.args.state) (sym c.drop_closed.ensures.out)
    (left_kept (c.lose_all.ensures.model k))
