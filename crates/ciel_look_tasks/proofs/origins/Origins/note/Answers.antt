-- Of the root task, or of another.
use Rattle.std.proofs.Common.{ap, sym, ◌∙◌}
use Rattle.ciel_look_tasks.specs.Origins.{has_origin}
use Rattle.ciel_look_tasks.proofs.AgainSteps.{noted_other, noted_show}
use Rattle.ciel_look_tasks.proofs.origins.Origins.note.Goals as goal

pub returns-in_ok-was-in-Show : goal.returns-in_ok-was-in-Show
returns-in_ok-was-in-Show c =
    let o = c.args.self.now in
    record {
      was = c.in_ok-was-in-Show.ensures.was ∙ ap (λ t. has_origin o t c.args.wait) (sym c.in-Show.is);
      noted = noted_show o.show _ o.others c.args.id.now c.args.wait c.in-Show.is c.in_ok-was-in-Show.ensures.put;
    }

pub returns-in_ok-was-in-Of : goal.returns-in_ok-was-in-Of
returns-in_ok-was-in-Of c =
    let o = c.args.self.now in
    record {
      was = c.in_ok-was-in-Of.ensures.was ∙ ap (λ t. has_origin o t c.args.wait) (sym c.in-Of.is);
      noted = noted_other o.show o.others _ c.args.id.now c.in-Of.name c.args.wait c.in-Of.is c.in_ok-was-in-Of.ensures.put;
    }
