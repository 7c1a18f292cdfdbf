use Rattle.std.proofs.Common.{sym, ◌∙◌}
use Rattle.sky_machine_show.proofs.Places.{added, stands_there}
use Rattle.sky_machine_show.proofs.given.add.Goals as goal

pub returns-then-contains_key : goal.returns-then-contains_key
returns-then-contains_key c = λ x.
    stands_there c.args.places.now c.args.name.now x c.args.place (sym c.contains_key.ensures ∙ c.if-contains_key.true)

pub returns-in-Ok : goal.returns-in-Ok
returns-in-Ok c = λ x.
    added c.args.places.now c.insert.new.self c.args.name.now x c.args.place c.in-Ok.ensures.updates
    (sym c.contains_key.ensures ∙ c.if-contains_key.false)
