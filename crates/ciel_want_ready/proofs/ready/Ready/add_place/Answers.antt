use Rattle.std.proofs.Common.{sym, subst, IfSome}
use Rattle.ciel_table.specs.Seen.{Known}
use Rattle.ciel_want_ready.specs.Fits.{FitsOut}
use Rattle.ciel_want_ready.specs.Seen.{ReadySeen}
use Rattle.ciel_want_ready.proofs.FitsAfterCall.{placed_fits}
use Rattle.ciel_want_ready.proofs.ready.Ready.add_place.Goals as goal

pub invariant_of-self : goal.invariant_of-self
invariant_of-self g c =
    let main = c.self.inside.main in
    let t = c.self.inside.table in
    let out = c.self.inside.out.items in
    let res = c.placed.result in
    let known = subst (λ (x : ReadySeen g.row.P.Denot). Known x.table c.args.name.now) (sym c.self.view_is) c.requires.known in
    subst (λ x. IfSome res (λ m. FitsOut main x out m)) (sym c.in-Ok.ensures.placed)
    (placed_fits main t out c.self.inside.marks c.self.invariant c.take-marks.result c.take-marks.ensures.value res c.args.name.now
    c.args.place c.find_live-row.result.1 c.find_live-row.result.0 known c.find_live-row.ensures.live c.find_live-row.ensures.row
    c.placed.ensures)
