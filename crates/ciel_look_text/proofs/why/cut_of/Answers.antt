-- One place after another.
use Rattle.std.proofs.Common.{Some, None, arith, drop, get_or, map, refl, sym, ◌+◌, ◌∙◌}
use Rattle.ciel_look_tasks.specs.SceneView.{picked}
use Rattle.ciel_look_tasks.specs.View.{start_view}
use Rattle.ciel_look_text.specs.Why.{cut_start}
use Rattle.ciel_look_text.proofs.Going.{same_end, same_here, same_next}
use Rattle.ciel_look_text.proofs.Sums.{element_is}
use Rattle.ciel_look_text.proofs.Telling.{cut_here, cut_none}
use Rattle.ciel_look_text.proofs.why.cut_of.Goals as goal

pub loop-place-init : goal.loop-place-init
loop-place-init c = refl

pub loop-place-preserved : goal.loop-place-preserved
loop-place-preserved c =
    let l = c.loop-place in
    let rs = c.args.scene.now.runs.items in
    same_next (λ ps. cut_start c.args.id.now (map start_view (picked rs ps))) c.args.places.now l.place-index (get_or c.args.places.now l.place-index 0)
    (omega arith) (element_is c.args.places.now l.place-index (omega arith))
    (cut_none c.args.id.now rs (get_or c.args.places.now l.place-index 0) (drop (l.place-index + 1) c.args.places.now) c.in_default.ensures.run) l.invariant

pub returns-in-Some : goal.returns-in-Some
returns-in-Some c =
    let l = c.loop-place in
    let rs = c.args.scene.now.runs.items in
    record {
      cut = sym (same_here (λ ps. cut_start c.args.id.now (map start_view (picked rs ps))) c.args.places.now l.place-index (get_or c.args.places.now l.place-index 0)
          (omega arith) (element_is c.args.places.now l.place-index (omega arith)) l.invariant
          ∙ cut_here c.args.id.now rs (get_or c.args.places.now l.place-index 0) (drop (l.place-index + 1) c.args.places.now) (start_view c.in-Some.run'.now) c.in-Some.ensures.run);
    }

pub returns : goal.returns
returns c =
    let l = c.loop-place in
    let rs = c.args.scene.now.runs.items in
    record {
      cut = sym (same_end (λ ps. cut_start c.args.id.now (map start_view (picked rs ps))) c.args.places.now l.place-index (omega arith) l.invariant);
    }
