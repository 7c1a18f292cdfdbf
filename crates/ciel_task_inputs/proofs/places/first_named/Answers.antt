use Rattle.std.proofs.Common.{◌≡◌, false, true, sym, ◌∙◌}
use Rattle.std.specs.Cmp.Lexicographic.{texts_ties}
use Rattle.sky_base.specs.Val.{same_text}
use Rattle.ciel_task_inputs.specs.Lies.{held_name}
use Rattle.ciel_task_inputs.proofs.NamedEntries.{found_next, none_next}
use Rattle.ciel_task_inputs.proofs.places.first_named.Goals as goal

pub loop-place-preserved : goal.loop-place-preserved
loop-place-preserved c =
    let one = c.index-held-place.result in
    let other : same_text c.args.name.now one.name ≡ false = sym (texts_ties c.args.name.now one.name) ∙ (sym c.eq.ensures ∙ c.if-eq.false) in
    none_next held_name c.args.name.now c.args.held.now c.loop-place.place one c.loop-place-test.true c.index-held-place.is c.loop-place.invariant
    other

pub returns-then-eq : goal.returns-then-eq
returns-then-eq c =
    let one = c.index-held-place.result in
    let same : same_text c.args.name.now one.name ≡ true = sym (texts_ties c.args.name.now one.name) ∙ (sym c.eq.ensures ∙ c.if-eq.true) in
    found_next held_name c.args.name.now c.args.held.now c.loop-place.place one c.loop-place-test.true c.index-held-place.is c.loop-place.invariant
    same
