-- One loss more is told.
use Rattle.std.proofs.Common.{◌<◌, [], ℕ, List, ap, map, refl, sym, ◌∙◌, subst}
use Rattle.ciel_look_story.specs.Inside.{Goes, left, stand_of}
use Rattle.ciel_look_story.specs.Story.{Stand, lose}
use Rattle.ciel_look_told.specs.Told as seen
use Rattle.ciel_look_told.specs.View.{told_view}
use Rattle.ciel_look_story.proofs.Tellings.{goes_loss, goes_none, left_less}
use Rattle.ciel_look_story.proofs.story.tell_losses.Goals as goal

pub loop-worker-init : goal.loop-worker-init
loop-worker-init c = (goes_none c.args.losses.now (stand_of c.args.teller.now) (map told_view c.args.told.now.items), refl)

pub loop-worker-preserved : goal.loop-worker-preserved
loop-worker-preserved c =
    let planned : List (ℕ × ℕ) = c.args.losses.now in
    let l = c.loop-worker in
    let d = c.in-Some.ensures in
    let v : Stand = stand_of c.args.teller.now in
    let before : List seen.Told = map told_view c.args.told.now.items in
    let g = goes_loss planned l.invariant.0 d.0 c.in-Some.worker d.1.0 d.1.1 in
    let stand = c.in_ok-lose.ensures.stand in (
      subst (Goes planned v [] before (map told_view c.put.new.told.items)) (sym stand)
          (subst (λ ts. Goes planned v [] before ts (lose (stand_of l.teller) c.in-Some.worker)) (sym c.in_ok-put.ensures) g),
      ap (λ (s : Stand). s.closes) stand ∙ l.invariant.1,
    )

pub loop-worker-smaller : goal.loop-worker-smaller
loop-worker-smaller c =
    let planned : List (ℕ × ℕ) = c.args.losses.now in
    let l = c.loop-worker in
    let d = c.in-Some.ensures in
    subst (λ gone. left planned gone < left planned l.teller.gone.items) (sym (ap (λ (s : Stand). s.gone) c.in_ok-lose.ensures.stand))
    (left_less planned l.teller.gone.items d.0 d.1.1.count c.in-Some.worker d.1.1.due.planned d.1.1.due.here)
