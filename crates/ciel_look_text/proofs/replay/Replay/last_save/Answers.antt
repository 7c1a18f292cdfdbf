-- Of the root task, or of another.
use Rattle.std.proofs.Common.{None, ap, sym, ◌∙◌}
use Rattle.sky_base.specs.declared.object.TaskId.{TaskId}
use Rattle.ciel_look_text.specs.Now.{latest}
use Rattle.ciel_look_text.specs.Replays.{listed, orders_at, saves_at}
use Rattle.ciel_look_text.proofs.replay.Replay.last_save.Goals as goal

pub returns-in-Show : goal.returns-in-Show
returns-in-Show c =
    let r = c.args.self.now in
    let rs = c.args.scene.now.runs.items in
    record {
      last = c.last_of.ensures.last ∙ ap (λ g. latest g None (orders_at rs c.as_slice-in-Show.result.now)) c.as_slice.ensures.value
          ∙ ap (λ ps. latest r.gone.items None (orders_at rs ps)) c.as_slice-in-Show.ensures.value
          ∙ ap (λ t. latest r.gone.items None (orders_at rs (saves_at r.show.items r.others t))) (sym c.in-Show.is);
    }

pub returns-in-Some : goal.returns-in-Some
returns-in-Some c =
    let r = c.args.self.now in
    let rs = c.args.scene.now.runs.items in
    record {
      last = c.last_of-in-Some.ensures.last ∙ ap (λ g. latest g None (orders_at rs c.as_slice-in-Some-2.result.now)) c.as_slice-in-Some.ensures.value
          ∙ ap (λ ps. latest r.gone.items None (orders_at rs ps)) (c.as_slice-in-Some-2.ensures.value ∙ ap listed c.in-Some.ensures.value)
          ∙ ap (λ t. latest r.gone.items None (orders_at rs (saves_at r.show.items r.others t))) (sym c.in-Of.is);
    }

pub returns-in-None : goal.returns-in-None
returns-in-None c =
    let r = c.args.self.now in
    let rs = c.args.scene.now.runs.items in
    record {
      last = ap (λ o. latest r.gone.items None (orders_at rs (listed o))) c.in-None.ensures.value
          ∙ ap (λ t. latest r.gone.items None (orders_at rs (saves_at r.show.items r.others t))) (sym c.in-Of.is);
    }
