-- One box more.
use Rattle.std.proofs.Common.{[], arith, subst}
use Rattle.ciel_look_sheet.specs.Drawn.{Draws}
use Rattle.ciel_look_sheet.proofs.Drawing.{draws_none}
use Rattle.ciel_look_lanes.proofs.Bars.{boxes_all, boxes_next}
use Rattle.ciel_look_picture.proofs.NodeTitles.{title_of, titles_seen}
use Rattle.ciel_look_picture.proofs.graph.draw_nodes.Goals as goal

pub loop-node-init : goal.loop-node-init
loop-node-init c = draws_none c.args.sheet.now.marks

pub loop-node-preserved : goal.loop-node-preserved
loop-node-preserved c =
    let l = c.loop-node in
    boxes_next title_of c.args.nodes.now c.args.sheet.now.marks l.node-index c.node-item.result _ _ (omega arith) c.node-item.is l.invariant
    c.in_ok-draw_node.ensures.drawn

pub returns : goal.returns
returns c =
    let l = c.loop-node in
    record {
      drawn = subst (λ bs. Draws bs [] 0 c.args.sheet.now.marks l.sheet.marks) (titles_seen c.args.nodes.now)
          (boxes_all title_of c.args.nodes.now c.args.sheet.now.marks l.node-index _ (omega arith) l.invariant);
    }
