use Rattle.std.proofs.Common.{sym, ◌∙◌}
use Rattle.std.specs.Cmp.Lexicographic.{same_text, other_text}
use Rattle.sky_base.proofs.Placed.{walks_from, walks_next, walked_less, walked_all, stands_at}
use Rattle.sky_base.proofs.found.Places.find.Goals as goal

pub loop-from-init : goal.loop-from-init
loop-from-init c =
    let p = c.args.self.now in
    walks_from p.turn p.latest.items p.earlier.items c.args.names.now c.args.name.now c.requires c.last-from.result
    c.last-from.ensures.none c.last-from.ensures.some c.last-from.ensures.bound

pub returns-then-eq : goal.returns-then-eq
returns-then-eq c =
    let p = c.args.self.now in
    stands_at p.turn p.latest.items p.earlier.items c.args.names.now c.args.name.now c.requires c.loop-from.from c.loop-from.invariant
    c.loop-from-test.true c.index-names-place.result c.index-names-place.is
    (same_text c.index-names-place.result c.args.name.now (sym c.if-eq.true ∙ c.eq.ensures))

pub loop-from-smaller : goal.loop-from-smaller
loop-from-smaller c =
    let p = c.args.self.now in
    walked_less p.turn p.latest.items p.earlier.items c.args.names.now c.args.name.now c.requires c.loop-from.from c.loop-from.invariant
    c.loop-from-test.true c.index-from.result.now c.index-from.ensures

pub loop-from-preserved : goal.loop-from-preserved
loop-from-preserved c =
    let p = c.args.self.now in
    walks_next p.turn p.latest.items p.earlier.items c.args.names.now c.args.name.now c.requires c.loop-from.from c.loop-from.invariant
    c.loop-from-test.true c.index-from.result.now c.index-from.ensures c.index-names-place.result c.index-names-place.is
    (other_text c.index-names-place.result c.args.name.now (sym c.if-eq.false ∙ c.eq.ensures))

pub returns : goal.returns
returns c =
    let p = c.args.self.now in
    walked_all p.turn p.latest.items c.args.names.now c.args.name.now c.loop-from.from c.loop-from.invariant c.loop-from-test.false
