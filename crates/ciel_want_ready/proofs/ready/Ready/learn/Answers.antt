use Rattle.std.proofs.Common.{◌≡◌, sym, subst, IfSome, Some}
use Rattle.ciel_table.specs.Seen.{find, row_name}
use Rattle.ciel_table.proofs.ByName.{place_within}
use Rattle.ciel_want_ready.specs.Changed.{LearnedFrom}
use Rattle.ciel_want_ready.specs.Fits.{FitsOut}
use Rattle.ciel_want_ready.proofs.FitsAfterCall.{learned_fits}
use Rattle.ciel_want_ready.proofs.ready.Ready.learn.Goals as goal

pub learned-requires : goal.learned-requires
learned-requires g c =
    record { held = place_within row_name c.args.named.now.name c.learn.new.self.rows c.in-Ok.row c.in-Ok.ensures.found }

pub invariant_of-self : goal.invariant_of-self
invariant_of-self g c =
    let main = c.self.inside.main in
    let t = c.self.inside.table in
    let out = c.self.inside.out.items in
    let new = c.learn.new.self in
    let digest = g.N.Namer.digest c.args.namer.now in
    let d = c.args.named.now in
    let eq = c.in-Ok.ensures.learned in
    let res = c.learned.result in
    let from = subst (λ o. IfSome res (λ k. LearnedFrom new o c.take-marks.result c.len-held.result c.in-Ok.row k)) c.as_slice.ensures.value
    c.learned.ensures in
    subst (λ x. IfSome res (λ m. FitsOut main x out m)) (sym eq)
    (learned_fits main t out c.self.inside.marks c.self.invariant c.take-marks.result c.take-marks.ensures.value digest d res
    c.len-held.result c.in-Ok.row c.len-held.ensures.sound.once c.len-held.ensures.number
    (subst (λ x. find d.name x ≡ Some c.in-Ok.row) eq c.in-Ok.ensures.found)
    (subst (λ x. IfSome res (λ k. LearnedFrom x out c.take-marks.result c.len-held.result c.in-Ok.row k)) eq from))
