use Rattle.std.proofs.Common.{◌≡◌, Some, ap, false, nat_eq, true, arith, length, ltb-false, ltb-true, refl, slice_get, subst, sym, ◌∙◌}
use Rattle.std.proofs.lemmas.Option.{slice_get-get_or, slice_get_past}
use Rattle.std.specs.List.{list_any}
use Rattle.ciel_journal.specs.History.{Plan}
use Rattle.ciel_log_report.proofs.Parts.{missed_is}
use Rattle.ciel_log_report.proofs.Refused.{missed_worker, none_planned}
use Rattle.ciel_log_fits.specs.Given.{IsGivenAt}
use Rattle.ciel_log_report.proofs.ends.missing.Goals as goal

pub returns-then-spawned-gt0-clause-refused : goal.returns-then-spawned-gt0-clause-refused
returns-then-spawned-gt0-clause-refused g c p = let l = p.nothing in absurd (omega arith)

pub returns-then-not-has_none-clause-refused : goal.returns-then-not-has_none-clause-refused
returns-then-not-has_none-clause-refused g c p = c.has_none.ensures.some c.if-not-has_none.true p.none

pub returns-in_default-clause-refused : goal.returns-in_default-clause-refused
returns-in_default-clause-refused g c p =
    let xs = c.as_slice.result.now in
    let past = ltb-false c.args.number (length xs) (sym c.in_default.ensures.lookup.0) in
    none_planned xs c.args.master.now.board.plan.losses c.args.number p.loss (slice_get_past xs c.args.number past)
    (c.as_slice.ensures.losses ∙ ap (λ (p : Plan). p.losses) c.plan.ensures) p.is_loss p.planned

pub returns-then-not-is_lost-clause-refused : goal.returns-then-not-is_lost-clause-refused
returns-then-not-is_lost-clause-refused g c p =
    let xs = c.as_slice.result.now in
    let one = c.in-Some.planned.now in
    let looked = c.in-Some.ensures.lookup in
    let there : slice_get xs c.args.number ≡ Some one =
    slice_get-get_or xs c.args.number one (ltb-true c.args.number (length xs) (sym looked.0)) ∙ ap Some (sym looked.1) in
    let worker = missed_worker xs c.args.master.now.board.plan.losses c.args.number one p.loss there
    (c.as_slice.ensures.losses ∙ ap (λ (p : Plan). p.losses) c.plan.ensures) p.is_loss p.planned in
    let lost = subst (λ w. list_any (nat_eq w) c.args.master.now.board.table.gone ≡ true) worker p.lost in
    let bad : true ≡ false = sym lost ∙ (sym c.is_lost.ensures ∙ c.if-not-is_lost.true) in
    cc

pub returns-then-not-given-clause-refused : goal.returns-then-not-given-clause-refused
returns-then-not-given-clause-refused g c p =
    let xs = c.as_slice.result.now in
    let one = c.in-Some.planned.now in
    let looked = c.in-Some.ensures.lookup in
    let there : slice_get xs c.args.number ≡ Some one =
    slice_get-get_or xs c.args.number one (ltb-true c.args.number (length xs) (sym looked.0)) ∙ ap Some (sym looked.1) in
    let worker = missed_worker xs c.args.master.now.board.plan.losses c.args.number one p.loss there
    (c.as_slice.ensures.losses ∙ ap (λ (p : Plan). p.losses) c.plan.ensures) p.is_loss p.planned in
    let digest = g.N.Namer.digest c.args.master.now.namer in
    c.in_ok-given.ensures.no c.if-not-given.true digest (subst (IsGivenAt digest c.args.order.now c.args.name.now) worker p.given)

pub returns-clause-missed : goal.returns-clause-missed
returns-clause-missed g c =
    let xs = c.as_slice.result.now in
    let one = c.in-Some.planned.now in
    let looked = c.in-Some.ensures.lookup in
    let there : slice_get xs c.args.number ≡ Some one =
    slice_get-get_or xs c.args.number one (ltb-true c.args.number (length xs) (sym looked.0)) ∙ ap Some (sym looked.1) in
    missed_is c.args.order.now (g.N.Namer.digest c.args.master.now.namer) c.args.master.now.board c.args.name.now c.args.number one.1 xs
    one c.args.copied.now c.new.result.items c.args.spawned (omega arith) (c.has_none.ensures.none c.if-not-has_none.false) c.new.ensures.items
    (c.in_ok-given.ensures.yes c.if-not-given.false (g.N.Namer.digest c.args.master.now.namer)) there
    (c.as_slice.ensures.losses ∙ ap (λ (p : Plan). p.losses) c.plan.ensures) refl (sym c.is_lost.ensures ∙ c.if-not-is_lost.false)
