-- A name that is known stays with its description.
use Rattle.std.proofs.Common.{sym, ◌∙◌}
use Rattle.ciel_look_tasks.proofs.KnownSteps.{known_new, known_there}
use Rattle.ciel_look_tasks.proofs.register.Register.learn.Goals as goal

pub returns-in-Some : goal.returns-in-Some
returns-in-Some c =
    record {
      known = sym (known_there c.args.self.now.all.items c.args.one c.in-Some.field-0 c.in-Some.ensures.place);
      made = λ b e h. h;
    }

pub returns-in_ok-add-in-None : goal.returns-in_ok-add-in-None
returns-in_ok-add-in-None c =
    record {
      known = c.in_ok-add-in-None.ensures.known ∙ sym (known_new c.args.self.now.all.items c.args.one c.in-None.ensures.place);
      made = c.in_ok-add-in-None.ensures.made;
    }
