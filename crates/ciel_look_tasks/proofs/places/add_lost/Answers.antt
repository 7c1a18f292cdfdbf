-- The name is put, or nothing.
use Rattle.std.proofs.Common.{append-nil, sym, ◌∙◌}
use Rattle.ciel_look_tasks.specs.Objects.{takes_from}
use Rattle.ciel_look_tasks.proofs.ObjectSteps.{names_put, takes_placed}
use Rattle.ciel_look_tasks.proofs.places.add_lost.Goals as goal

pub returns-then-is_lost : goal.returns-then-is_lost
returns-then-is_lost c =
    record {
      added = names_put (takes_from c.args.worker c.args.gone.now) c.args.places.now c.args.name.now _ c.args.names.now.items _
          (sym c.if-is_lost.true ∙ c.is_lost.ensures ∙ takes_placed c.args.worker c.args.gone.now c.args.places.now) c.in_ok-push.ensures.pushed;
    }

pub returns : goal.returns
returns c =
    record {
      added = names_put (takes_from c.args.worker c.args.gone.now) c.args.places.now c.args.name.now _ c.args.names.now.items _
          (sym c.if-is_lost.false ∙ c.is_lost.ensures ∙ takes_placed c.args.worker c.args.gone.now c.args.places.now) (sym (append-nil c.args.names.now.items));
    }
