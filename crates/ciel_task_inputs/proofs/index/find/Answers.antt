use Rattle.std.proofs.Common.{◌≡◌, Some, length, ltb-false, sym, ap, ◌∙◌, arith}
use Rattle.ciel_table.specs.Named.{place_of}
use Rattle.ciel_table.proofs.ByName.{found_at, found_none, place_within}
use Rattle.ciel_task_inputs.specs.Lies.{held_name}
use Rattle.ciel_task_inputs.proofs.index.find.Goals as goal

pub returns-in-Some-get : goal.returns-in-Some-get
returns-in-Some-get c =
    let n = c.args.name.now in
    let xs = c.args.held.now in
    let k = c.in-Some.place.now in
    let e : place_of held_name n xs ≡ Some k = sym (c.requires n) ∙ sym c.in-Some.ensures.value in
    record { found = (found_at held_name n xs k c.in-Some-get.one.now e).1 ∙ ap Some (sym c.in-Some-get.ensures.lookup.1) }

pub returns-in-None-get : goal.returns-in-None-get
returns-in-None-get c =
    let n = c.args.name.now in
    let xs = c.args.held.now in
    let k = c.in-Some.place.now in
    let e : place_of held_name n xs ≡ Some k = sym (c.requires n) ∙ sym c.in-Some.ensures.value in
    absurd (omega (arith, ltb-false k (length xs) (sym c.in-None-get.ensures.lookup.0), place_within held_name n xs k e))

pub returns-in-None : goal.returns-in-None
returns-in-None c =
    record { found = found_none held_name c.args.name.now c.args.held.now (sym (c.requires c.args.name.now) ∙ sym c.in-None.ensures.value) }
