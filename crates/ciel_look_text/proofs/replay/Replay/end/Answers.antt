-- What it took along, what it made, and its wait.
use Rattle.std.proofs.Common.{ap, refl, sym, ◌∙◌}
use Rattle.ciel_look_text.specs.Replays.{listed_at, orders_at, saves_at}
use Rattle.ciel_look_text.proofs.Replaying.{saves_more, saves_same, stand_ended}
use Rattle.ciel_look_text.proofs.replay.Replay.end.Goals as goal

pub returns-then-is_saved : goal.returns-then-is_saved
returns-then-is_saved c =
    let rs = c.args.scene.now.runs.items in
    let m = c.args.self.now in
    let n = c.save.new.self in
    let run = c.args.run.now in
    record {
      end = λ e. stand_ended rs m.places c.put_took.new.places n.places m.others n.others m.show.items n.show.items m.gone.items n.gone.items run
          c.in_ok-put_took.ensures.put (λ k. ap (λ p. listed_at p k) c.save.ensures.places ∙ c.in_ok-put_made.ensures.put k)
          (λ t. saves_more rs c.args.place run t (saves_at m.show.items m.others t) (saves_at n.show.items n.others t)
          (sym c.is_saved.ensures.saved ∙ c.if-is_saved.true) e (c.in_ok-save.ensures.saved t)) (ap (λ g. g.items) c.save.ensures.gone);
    }

pub returns : goal.returns
returns c =
    let rs = c.args.scene.now.runs.items in
    let m = c.args.self.now in
    let run = c.args.run.now in
    record {
      end = λ e. stand_ended rs m.places c.put_took.new.places c.put_made.new.places m.others m.others m.show.items m.show.items m.gone.items m.gone.items run
          c.in_ok-put_took.ensures.put c.in_ok-put_made.ensures.put
          (λ t. saves_same rs run t (saves_at m.show.items m.others t) (sym c.is_saved.ensures.saved ∙ c.if-is_saved.false)) refl;
    }
