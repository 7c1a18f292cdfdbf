use Rattle.std.proofs.Common.{sym, subst, [], IfNone, IfSome}
use Rattle.ciel_want_marks.specs.Marks.{Needs, Stands}
use Rattle.ciel_want_marks.specs.Moves.{IsGraph, IsUnmade}
use Rattle.ciel_want_ready.specs.Fits.{lives, makers, needs_by}
use Rattle.ciel_want_ready.proofs.SearchLookups.{is_graph, not_unmade}
use Rattle.ciel_want_ready.proofs.anew.anew.Goals as goal

pub begin-requires-clause-graph : goal.begin-requires-clause-graph
begin-requires-clause-graph g c =
    let t = c.args.table.now in
    let out = c.args.tasks.now in
    subst (λ fs. IsGraph fs c.in_ok-makers.makers.items c.in_ok-out.out.items) (sym c.in_ok-live.ensures.lives)
    (subst (λ ms. IsGraph (lives t) ms c.in_ok-out.out.items) (sym c.in_ok-makers.ensures)
    (subst (λ os. IsGraph (lives t) (makers t) os) (sym c.in_ok-out.ensures) (is_graph t out)))

pub unreachable-requires : goal.unreachable-requires
unreachable-requires g c =
    let t = c.args.table.now in
    let none = subst (λ o. IfNone o (IsUnmade c.in_ok-live.live.items c.in_ok-makers.makers.items)) c.in_default.is c.in_ok-begun.ensures.none in
    not_unmade t c.args.main.now c.requires.whole
    (subst (λ fs. IsUnmade fs (makers t)) c.in_ok-live.ensures.lives
    (subst (λ ms. IsUnmade c.in_ok-live.live.items ms) c.in_ok-makers.ensures none))

pub search-requires-clause-stands : goal.search-requires-clause-stands
search-requires-clause-stands g c =
    subst (λ o. IfSome o (λ m. (needs : Needs) → Stands m needs [] [])) c.in-Some.is c.in_ok-begun.ensures.stands
    (needs_by c.args.main.now c.args.table.now)
