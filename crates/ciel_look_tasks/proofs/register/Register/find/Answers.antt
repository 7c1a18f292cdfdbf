-- What stands at the place of the name.
use Rattle.std.proofs.Common.{slice_get, ap, ◌∙◌}
use Rattle.ciel_look_tasks.proofs.KnownSteps.{found_nowhere, found_there, get_is, maker_nowhere, maker_there}
use Rattle.ciel_look_tasks.proofs.register.Register.find.Goals as goal

pub returns-in-Some : goal.returns-in-Some
returns-in-Some c =
    let ks = c.args.self.now.all.items in
    let there = get_is c.deref.result.now c.in-Some.place c.get.result c.get.ensures.lookup
    ∙ ap (λ xs. slice_get xs c.in-Some.place) c.deref.ensures.value in
    record {
      found = found_there c.args.name.now ks c.in-Some.place c.get.result c.in-Some.ensures.place there;
      maker = maker_there c.args.name.now ks c.in-Some.place c.get.result c.in-Some.ensures.place there;
    }

pub returns-in-None : goal.returns-in-None
returns-in-None c =
    let ks = c.args.self.now.all.items in
    record {
      found = found_nowhere c.args.name.now ks c.in-None.ensures.place;
      maker = maker_nowhere c.args.name.now ks c.in-None.ensures.place;
    }
