-- A node, where it is of an input.
use Rattle.std.proofs.Common.{sym, ◌∙◌}
use Rattle.ciel_look_tasks.specs.Known.{known_view}
use Rattle.ciel_look_picture.specs.Titles.{titles}
use Rattle.ciel_look_picture.proofs.NodeTitles.{input_is, input_is_none}
use Rattle.ciel_look_picture.proofs.nodes.Nodes.add_input.Goals as goal

pub returns-then-is_input : goal.returns-then-is_input
returns-then-is_input c =
    record {
      titles = input_is (known_view c.args.known.now) (titles c.args.self.now.all.items) _ (sym c.is_input.ensures ∙ c.if-is_input.true)
          c.in_ok-put_input.ensures.titles;
    }

pub returns : goal.returns
returns c =
    record {
      titles = input_is_none (known_view c.args.known.now) (titles c.args.self.now.all.items) (sym c.is_input.ensures ∙ c.if-is_input.false);
    }
