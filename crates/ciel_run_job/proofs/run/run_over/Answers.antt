-- What gates tell of a run that began with an empty journal.
use Rattle.std.proofs.Common.{◌≡◌, refl}
use Rattle.ciel_run_job.proofs.Lent.{told_after}
use Rattle.ciel_run_job.proofs.run.run_over.Goals as goal

pub returns-clause-told : goal.returns-clause-told
returns-clause-told g c = λ ends.
    told_after c.args.master.board.journal c.drive-end.new.master.board.journal _ (g.C.Crew.told c.args.crew) (g.C.Crew.told c.args.crew)
    (g.C.Crew.told c.drive-end.new.crew) _ c.requires.first refl c.into_journal-journal.ensures (c.drive-end.ensures.told ends)
    (c.close-gates.ensures.told (c.drive-end.ensures.sound ends))
