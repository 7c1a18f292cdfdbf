use Rattle.std.proofs.Common.{ap, ◌∙◌}
use Rattle.sky_base.specs.Val.{list}
use Rattle.sky_base.specs.Op.{limited}
use Rattle.sky_base.specs.TreeView.{at}
use Rattle.sky_base.specs.Res.{answer, gives}
use Rattle.sky_machine_parts.proofs.Items.{items_vals}
use Rattle.sky_machine_parts.proofs.formed.list_of.Goals as goal

pub returns-clause-same : goal.returns-clause-same
returns-clause-same c = λ w n st.
    ap (λ vs. answer (limited (list vs)) (at c.args.line c.args.col) st gives) (items_vals c.args.values)
    ∙ c.given_exact.ensures.same (limited (list c.args.values)) c.limited.ensures.answer st
