use Rattle.sky_base.specs.StmtView.{stm_view}
use Rattle.sky_base_law.specs.Opened.{stm_node}
use Rattle.sky_base_law.specs.Nodes.{node_at}
use Rattle.sky_machine_code.proofs.Bodies.{own_stm}
use Rattle.sky_machine_code.proofs.code.Code.after_stmt.Goals as goal

pub returns : goal.returns
returns c = let a = stm_view c.args.s.now in
    c.after.ensures (stm_node a) (own_stm (λ i. node_at c.args.self.now i) a c.args.node c.requires)
