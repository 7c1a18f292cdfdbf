use Rattle.std.proofs.Common.{slice_index, ap, ◌∙◌}
use Rattle.sky_machine_code.specs.Numbers.{ends_of}
use Rattle.sky_machine_code.proofs.Bodies.{end_at}
use Rattle.sky_machine_code.proofs.code.Code.after.Goals as goal

pub returns : goal.returns
returns c = λ t e.
    c.number_at.ensures ∙ ap (λ xs. slice_index xs c.args.node) (c.self.invariant.0 ∙ ap ends_of c.self.view_is)
    ∙ end_at c.args.self.now c.args.node t e
