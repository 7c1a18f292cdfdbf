use Rattle.std.proofs.Common.{sym, subst, IfSome}
use Rattle.ciel_want_ready.specs.Fits.{FitsOut}
use Rattle.ciel_want_ready.proofs.FitsAfterCall.{saved_fits}
use Rattle.ciel_want_ready.proofs.ready.Ready.save_wait.Goals as goal

pub invariant_of-self : goal.invariant_of-self
invariant_of-self g c =
    let main = c.self.inside.main in
    let t = c.self.inside.table in
    let out = c.self.inside.out.items in
    let res = c.saved.result in
    subst (λ x. IfSome res (λ m. FitsOut main x out m)) (sym c.in-Ok.ensures.saved)
    (saved_fits main t out c.self.inside.marks c.self.invariant c.take-marks.result c.take-marks.ensures.value g.P.At.at res c.args.task.now
    c.args.wait c.node_for-node.result c.node_for-node.ensures.sound.once c.node_for-node.ensures.node c.saved.ensures)
