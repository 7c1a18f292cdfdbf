use Rattle.std.proofs.Common.{sym, subst}
use Rattle.sky_base.specs.Tree.{Exp}
use Rattle.sky_base.specs.TreeView.{at}
use Rattle.sky_base_law.specs.Nodes.{node_at}
use Rattle.sky_base_law.specs.Opened.{exp_node, HasExps}
use Rattle.sky_machine_code.specs.Shapes.{form_view, rest_view}
use Rattle.sky_frozen_fits.proofs.exprs.parts_row.Goals as goal

pub parts_after-requires : goal.parts_after-requires
parts_after-requires c =
    let here = c.inside.ensures.here (exp_node (Exp.parts (form_view c.args.form) (at c.args.line c.args.col) (rest_view c.args.parts)))
    c.requires.0 in
    subst (HasExps (λ i. node_at c.args.code.now i) (rest_view c.args.parts)) (sym here) c.requires.1
