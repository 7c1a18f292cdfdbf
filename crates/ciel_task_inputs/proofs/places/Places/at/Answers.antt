use Rattle.std.proofs.Common.{◌≡◌, true, Some, length, ltb-true, slice_get, sym, ap, subst, ◌∙◌}
use Rattle.std.proofs.lemmas.Option.{slice_get-get_or}
use Rattle.std.specs.Cmp.Lexicographic.{texts_ties}
use Rattle.sky_base.proofs.Exact.{exact_text}
use Rattle.sky_base.specs.Val.{same_text}
use Rattle.ciel_table.specs.Named.{found}
use Rattle.ciel_want.proofs.Rows.{own_found}
use Rattle.ciel_task_inputs.specs.Lies.{held_name}
use Rattle.ciel_task_inputs.proofs.places.Places.at.Goals as goal

pub returns-then-eq : goal.returns-then-eq
returns-then-eq c =
    let one = c.in-Some.one.now in
    let n = c.args.name.now in
    let xs = c.self.inside.held.now in
    let looked = c.in-Some.ensures.lookup in
    let there : slice_get xs c.args.place ≡ Some one =
    slice_get-get_or xs c.args.place one (ltb-true c.args.place (length xs) (sym looked.0)) ∙ ap Some (sym looked.1) in
    let same : same_text n one.name ≡ true = sym (texts_ties n one.name) ∙ (sym c.eq.ensures ∙ c.if-eq.true) in
    subst (λ ys. found held_name n ys ≡ Some one) c.self.view_is
    (ap (λ m. found held_name m xs) (exact_text n one.name same) ∙ own_found held_name xs c.args.place one c.self.invariant there)
