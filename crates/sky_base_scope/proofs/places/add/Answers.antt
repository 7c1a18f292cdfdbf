use Rattle.std.proofs.Common.{is_some, sym, ap, ◌∙◌}
use Rattle.sky_base.specs.Val.{same_text}
use Rattle.sky_base_scope.specs.FunPlace.{or_here, place_at}
use Rattle.sky_base_scope.proofs.FunPlaces.{added, stands_there}
use Rattle.sky_base_scope.proofs.places.add.Goals as goal

pub returns-then-contains_key : goal.returns-then-contains_key
returns-then-contains_key c = λ x.
    stands_there c.args.map.now.entries c.args.name.now x c.args.place (sym c.contains_key.ensures ∙ c.if-contains_key.true)

pub returns : goal.returns
returns c = λ x.
    let same = c.in_ok-name.ensures in
    added c.args.map.now c.insert.new.self c.in_ok-name.name x c.args.place c.in-Ok.ensures.updates
    (ap (λ n. is_some (place_at c.args.map.now.entries n)) same ∙ sym c.contains_key.ensures ∙ c.if-contains_key.false)
    ∙ ap (λ n. or_here (place_at c.args.map.now.entries x) (same_text x n) c.args.place) same
