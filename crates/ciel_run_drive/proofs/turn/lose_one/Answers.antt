use Rattle.std.proofs.Common.{ap}
use Rattle.ciel_master.specs.Seen.{MasterSeen}
use Rattle.ciel_run_drive.proofs.Names as names
use Rattle.ciel_run_drive.proofs.Turns.{lost_kept}
use Rattle.ciel_run_drive.proofs.MovedLemmas.{does_lost}
use Rattle.ciel_run_drive.proofs.turn.lose_one.Goals as goal

pub returns-clause-working : goal.returns-clause-working
returns-clause-working g c =
    let due = c.requires.due in
    names.lost_kept c.requires.working due.1 (c.lose.ensures.lost due.0 due.1) c.turns_come_to_an_end.ensures.loss c.rows_stay.ensures
    c.tasks_stay.ensures

pub returns-clause-model : goal.returns-clause-model
returns-clause-model g c k =
    let due = c.requires.due in
    lost_kept c.requires.working k due.1 (c.lose.ensures.lost due.0 due.1)

pub returns-clause-less : goal.returns-clause-less
returns-clause-less g c =
    let due = c.requires.due in
    names.lost_less c.requires.working due.1 (c.lose.ensures.lost due.0 due.1) c.turns_come_to_an_end.ensures.loss

pub returns-clause-plan : goal.returns-clause-plan
returns-clause-plan g c =
    let due = c.requires.due in
    names.lost_plan c.requires.working due.1 (c.lose.ensures.lost due.0 due.1) c.turns_come_to_an_end.ensures.loss

pub returns-clause-told : goal.returns-clause-told
returns-clause-told g c =
    let due = c.requires.due in
    names.lost_told c.requires.working due.1 (c.lose.ensures.lost due.0 due.1) c.turns_come_to_an_end.ensures.loss (g.C.Crew.told c.args.crew.now)

pub returns-clause-does : goal.returns-clause-does
returns-clause-does g c =
    let due = c.requires.due in
    does_lost g.K.Kit.gives g.N.Namer.digest (g.C.Crew.shop c.args.crew.now) _ g.C.Crew.goes (g.C.Crew.record_of c.args.crew.now)
    c.args.master.now.board due.0 c.lose.new.self.board (ap (λ (m : MasterSeen _). m.board) (c.lose.ensures.lost due.0 due.1))
