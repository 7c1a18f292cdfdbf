-- A head, the edges and the nodes.
use Rattle.ciel_look_picture.specs.Titles.{titles}
use Rattle.ciel_look_picture.proofs.Drawing.{draws_graph}
use Rattle.ciel_look_picture.proofs.graph.draw_all.Goals as goal

pub returns : goal.returns
returns c =
    let edges = c.in_ok-draw_edges.ensures.drawn in
    record {
      drawn = (edges.0, draws_graph (titles c.args.nodes.now) edges.0 _ _ _ _ c.in_ok-text.ensures.drawn edges.1 c.in_ok-draw_nodes.ensures.drawn);
    }
