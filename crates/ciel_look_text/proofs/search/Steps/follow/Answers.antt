-- Where the name leads.
use Rattle.std.proofs.Common.{ap, sym, ◌∙◌}
use Rattle.ciel_look_text.specs.Steps.{with_target}
use Rattle.ciel_look_text.proofs.search.Steps.follow.Goals as goal

pub returns-in_ok-reach-in-Some : goal.returns-in_ok-reach-in-Some
returns-in_ok-reach-in-Some c =
    record {
      steps = c.in_ok-reach-in-Some.ensures.steps ∙ ap (with_target c.args.from c.args.name.now c.args.self.now.all.items) c.in-Some.ensures;
    }

pub returns-in-None : goal.returns-in-None
returns-in-None c = record { steps = ap (with_target c.args.from c.args.name.now c.args.self.now.all.items) c.in-None.ensures }
