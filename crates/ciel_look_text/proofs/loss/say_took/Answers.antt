-- Nothing, or the parts.
use Rattle.ciel_look_tasks.specs.Known.{knowns}
use Rattle.ciel_look_tasks.specs.SceneView.{taken_view}
use Rattle.ciel_look_text.specs.Text.{took_parts}
use Rattle.ciel_look_text.proofs.Parts.{said_none, said_parts}
use Rattle.ciel_look_text.proofs.loss.say_took.Goals as goal

pub returns-then-none : goal.returns-then-none
returns-then-none c =
    record {
      said = said_none c.in_ok-none.none c.args.line.now _ _ (took_parts (knowns c.args.scene.now.known.all.items) (taken_view c.args.scene.now c.args.loss.now))
          c.in_ok-none.ensures.said c.if-none.true c.in_ok-say.ensures.said;
    }

pub returns : goal.returns
returns c =
    record {
      said = said_parts c.in_ok-none.none c.args.line.now _ (took_parts (knowns c.args.scene.now.known.all.items) (taken_view c.args.scene.now c.args.loss.now))
          c.in_ok-none.ensures.said c.if-none.false;
    }
