use Rattle.std.proofs.Common.{◌≡◌, ◌+◌, ◌∷◌, [], drop, sym, ap, ◌∙◌, subst}
use Rattle.std.proofs.lemmas.List.{drop_more}
use Rattle.ciel_master_board.specs.Moves.{with_copies}
use Rattle.ciel_master_board.specs.Reports.{Copy}
use Rattle.ciel_journal.specs.Job.{Each}
use Rattle.ciel_want_ready.specs.Seen.{ReadySeen, with_table}
use Rattle.ciel_task_order.specs.Views.{P, copies_view}
use Rattle.ciel_master.proofs.Steps.{CanPlace, after_copy, can_after, first_copy, later_copies}
use Rattle.ciel_master.proofs.placing.place_copies.Goals as goal

pub place_copy-requires : goal.place_copy-requires
place_copy-requires c =
    let l = c.loop-i in
    let hs = c.args.copied.now in
    let h = c.index-copied-i.result in
    let rest = drop (l.i + 1) hs in
    let here : drop l.i hs ≡ h ∷ rest = drop_more hs l.i h c.loop-i-test.true ∙ ap (λ y. y ∷ rest) (sym c.index-copied-i.is) in
    let Can = CanPlace (λ (x : Copy P). x.name) (λ (x : Copy P). x.place) in
    record { known = first_copy h rest (Can l.ready.table) (subst (λ xs. Each (Can l.ready.table) (copies_view xs)) here l.invariant.known) }

pub loop-i-preserved : goal.loop-i-preserved
loop-i-preserved c =
    let l = c.loop-i in
    let hs = c.args.copied.now in
    let h = c.index-copied-i.result in
    let rest = drop (l.i + 1) hs in
    let here : drop l.i hs ≡ h ∷ rest = drop_more hs l.i h c.loop-i-test.true ∙ ap (λ y. y ∷ rest) (sym c.index-copied-i.is) in
    let Can = CanPlace (λ (x : Copy P). x.name) (λ (x : Copy P). x.place) in
    let is = c.in_ok-place_copy.ensures.placed in
    record {
      placed = ap (λ (r : ReadySeen P). with_table r (with_copies (copies_view rest) r.table)) is
          ∙ (ap (with_table l.ready) (after_copy h rest l.ready.table)
          ∙ (ap (λ xs. with_table l.ready (with_copies (copies_view xs) l.ready.table)) (sym here) ∙ l.invariant.placed));
      known = subst (λ (r : ReadySeen P). Each (Can r.table) (copies_view rest)) (sym is)
          (can_after (λ (x : Copy P). x.name) (λ (x : Copy P). x.place) (copies_view (h ∷ [])) l.ready.table (copies_view rest)
          (later_copies h rest (Can l.ready.table) (subst (λ xs. Each (Can l.ready.table) (copies_view xs)) here l.invariant.known)));
    }
