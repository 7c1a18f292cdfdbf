-- The worker is that of the first loss that is due.
use Rattle.std.proofs.Common.{ℕ, subst}
use Rattle.ciel_journal.specs.Turns.{FirstDue}
use Rattle.ciel_look_story.proofs.Stands.{due_next}
use Rattle.ciel_look_story.proofs.teller.Teller.next_loss.Goals as goal

pub returns-in-Some : goal.returns-in-Some
returns-in-Some c =
    let t = c.args.self.now in
    due_next c.args.losses.now t.closes t.gone.items t.over c.in-Some.place c.worker_at.result c.if-self.false c.worker_at.ensures
    (subst (λ gone. (w : ℕ) × FirstDue c.args.losses.now t.closes gone c.in-Some.place w) c.as_slice.ensures.value c.in-Some.ensures.first)
