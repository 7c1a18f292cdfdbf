use Rattle.std.proofs.Common.{◌≡◌, ◌+◌, ◌∷◌, drop, map, sym, ap, ◌∙◌, subst}
use Rattle.std.proofs.lemmas.List.{drop_more}
use Rattle.ciel_master_board.specs.Moves.{with_outputs}
use Rattle.ciel_journal.specs.Job.{Each}
use Rattle.ciel_want_ready.specs.Seen.{ReadySeen, with_table}
use Rattle.ciel_table.specs.Changes.{placed}
use Rattle.ciel_task_order.specs.Views.{P, output_view}
use Rattle.ciel_task_order.specs.declared.report.Made.{Made}
use Rattle.ciel_master.proofs.Steps.{CanPlace, can_still}
use Rattle.ciel_master.proofs.placing.place_outputs.Goals as goal

pub loop-i-preserved : goal.loop-i-preserved
loop-i-preserved c =
    let l = c.loop-i in
    let ms = c.args.made.now in
    let m = c.index-made-i.result in
    let rest = drop (l.i + 1) ms in
    let here : drop l.i ms ≡ m ∷ rest = drop_more ms l.i m c.loop-i-test.true ∙ ap (λ y. y ∷ rest) (sym c.index-made-i.is) in
    let is : c.add_place.new.self ≡ with_table l.ready (placed m.name m.place l.ready.table) = c.in_ok-add_place.ensures.placed
    ∙ ap (λ p. with_table l.ready (placed m.name p l.ready.table)) c.share.ensures.same in
    let Can = CanPlace (λ (x : Made). x.name) (λ (x : Made). x.place) in
    record {
      placed = ap (λ (r : ReadySeen P). with_table r (with_outputs (map output_view rest) r.table)) is
          ∙ (ap (λ xs. with_table l.ready (with_outputs (map output_view xs) l.ready.table)) (sym here) ∙ l.invariant.placed);
      known = subst (λ (r : ReadySeen P). Each (Can r.table) rest) (sym is)
          (can_still (λ (x : Made). x.name) (λ (x : Made). x.place) m.name m.place l.ready.table rest
          (subst (Each (Can l.ready.table)) here l.invariant.known).1);
    }
