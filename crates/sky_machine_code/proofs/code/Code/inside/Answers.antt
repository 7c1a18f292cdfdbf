use Rattle.std.proofs.Common.{◌+◌, slice_index, ap, ◌∙◌, arith}
use Rattle.sky_machine_code.specs.Numbers.{ends_of}
use Rattle.sky_machine_code.proofs.Bodies.{end_at, size_pos}
use Rattle.sky_machine_code.proofs.code.Code.inside.Goals as goal

pub returns-clause-here : goal.returns-clause-here
returns-clause-here c = λ t e.
    let h = c.number_at-here.ensures ∙ ap (λ xs. slice_index xs c.args.node) (c.self.invariant.0 ∙ ap ends_of c.self.view_is)
    ∙ end_at c.args.self.now c.args.node t e in
    omega (arith, h, size_pos t, c.number_at-here.type_inv, c.saturating_add.ensures)

pub returns-clause-some : goal.returns-clause-some
returns-clause-some c = λ t e.
    let h = c.number_at-end.ensures ∙ ap (λ xs. slice_index xs (c.args.node + 1)) (c.self.invariant.0 ∙ ap ends_of c.self.view_is)
    ∙ end_at c.args.self.now (c.args.node + 1) t e in
    omega (arith, h, c.number_at-end.type_inv, c.saturating_add.ensures)
