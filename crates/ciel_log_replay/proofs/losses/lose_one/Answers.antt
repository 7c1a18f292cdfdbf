use Rattle.ciel_run_drive.proofs.Names as names
use Rattle.ciel_run_drive.proofs.Turns.{lost_kept}
use Rattle.ciel_log_replay.proofs.Stays.{loss_only}
use Rattle.ciel_log_replay.proofs.losses.lose_one.Goals as goal

pub returns-clause-working : goal.returns-clause-working
returns-clause-working g c =
    let due = c.requires.due in
    names.lost_kept c.requires.working due.1 (c.lose.ensures.lost due.0 due.1) c.turns_come_to_an_end.ensures.loss c.rows_stay.ensures
    c.tasks_stay.ensures

pub returns-clause-less : goal.returns-clause-less
returns-clause-less g c =
    let due = c.requires.due in
    names.lost_less c.requires.working due.1 (c.lose.ensures.lost due.0 due.1) c.turns_come_to_an_end.ensures.loss

pub returns-clause-lost : goal.returns-clause-lost
returns-clause-lost g c =
    let due = c.requires.due in (due.0, due.1, c.lose.ensures.lost due.0 due.1)

pub returns-clause-model : goal.returns-clause-model
returns-clause-model g c k =
    let due = c.requires.due in
    lost_kept c.requires.working k due.1 (c.lose.ensures.lost due.0 due.1)

pub returns-clause-must : goal.returns-clause-must
returns-clause-must g c k e more =
    let due = c.requires.due in
    loss_only c.requires.working k due.1 (c.lose.ensures.lost due.0 due.1) e more
