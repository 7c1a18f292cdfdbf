-- One after another.
use Rattle.std.proofs.Common.{◌≡◌, ◌+◌, None, arith, ap, drop, get_or, option_map, refl, sym, ◌∙◌}
use Rattle.ciel_look_tasks.specs.SceneView.{order_view}
use Rattle.ciel_look_words.proofs.ManyWords.{dropped, dropped_all}
use Rattle.ciel_look_text.specs.Now.{latest}
use Rattle.ciel_look_text.specs.Replays.{orders_at}
use Rattle.ciel_look_text.proofs.Sums.{element_is}
use Rattle.ciel_look_text.proofs.Telling.{latest_next}
use Rattle.ciel_look_text.proofs.replay.last_of.Goals as goal

pub loop-place-init : goal.loop-place-init
loop-place-init c = refl

pub loop-place-preserved : goal.loop-place-preserved
loop-place-preserved c =
    let l = c.loop-place in
    let rs = c.args.scene.now.runs.items in
    let last = option_map (λ r. order_view r.now) l.last in
    sym (latest_next rs c.args.gone.now last (option_map (λ r. order_view r.now) c.later-last.result) (get_or c.args.places.now l.place-index 0) (drop (l.place-index + 1) c.args.places.now) c.later-last.ensures.later)
    ∙ sym (ap (λ ps. latest c.args.gone.now last (orders_at rs ps)) (dropped c.args.places.now l.place-index (get_or c.args.places.now l.place-index 0)
    (omega arith) (element_is c.args.places.now l.place-index (omega arith))))
    ∙ l.invariant

pub returns : goal.returns
returns c =
    let l = c.loop-place in
    let rs = c.args.scene.now.runs.items in
    let last = option_map (λ r. order_view r.now) l.last in
    record {
      last = sym (ap (λ ps. latest c.args.gone.now last (orders_at rs ps)) (dropped_all c.args.places.now l.place-index (omega arith))) ∙ l.invariant;
    }
