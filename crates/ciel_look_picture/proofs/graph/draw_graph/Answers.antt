-- The nodes of the run, in order.
use Rattle.std.proofs.Common.{ap, subst, ◌∙◌}
use Rattle.ciel_look_sheet.specs.Drawn.{Draws}
use Rattle.ciel_look_picture.specs.Titles.{titles}
use Rattle.ciel_look_picture.proofs.graph.draw_graph.Goals as goal

pub returns : goal.returns
returns c =
    let d = c.in_ok-draw_all.ensures.drawn in
    record {
      few = λ h. (
        d.0,
        subst (λ bs. Draws bs d.0 0 c.args.sheet.now.marks c.draw_all.new.sheet.marks)
            (ap titles c.as_slice.ensures.value ∙ c.in_ok-nodes.ensures.titles h) d.1,
      );
      many = (titles c.as_slice.result.now, d.0, d.1);
    }
