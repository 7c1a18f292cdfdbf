use Rattle.sky_base.specs.TreeView.{exp_view}
use Rattle.sky_base_law.specs.Opened.{exp_node}
use Rattle.sky_base_law.specs.Nodes.{node_at}
use Rattle.sky_machine_code.proofs.Bodies.{own_exp}
use Rattle.sky_machine_code.proofs.code.Code.after_exp.Goals as goal

pub returns : goal.returns
returns c = let e = exp_view c.args.e.now in
    c.after.ensures (exp_node e) (own_exp (λ i. node_at c.args.self.now i) e c.args.node c.requires)
