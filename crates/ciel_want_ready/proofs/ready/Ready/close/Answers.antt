use Rattle.std.proofs.Common.{sym, subst, IfSome}
use Rattle.ciel_want_ready.specs.Fits.{FitsOut}
use Rattle.ciel_want_ready.proofs.FitsAfterCall.{closed_fits, keeps_fits}
use Rattle.ciel_want_ready.proofs.ready.Ready.close.Goals as goal

pub closed-requires : goal.closed-requires
closed-requires g c =
    record {
      fits = keeps_fits c.self.inside.main c.self.inside.table c.self.inside.out.items c.self.inside.marks c.self.invariant c.take-marks.result
          c.take-marks.ensures.value;
    }

pub invariant_of-self : goal.invariant_of-self
invariant_of-self g c =
    let main = c.self.inside.main in
    let t = c.self.inside.table in
    let out = c.self.inside.out.items in
    let res = c.closed.result in
    subst (λ xs. IfSome res (λ m. FitsOut main t xs m)) (sym c.take_off.ensures)
    (closed_fits main t out c.self.inside.marks c.self.invariant c.take-marks.result c.take-marks.ensures.value res c.args.task.now
    c.node_for-node.result c.node_for-node.ensures.sound.once c.node_for-node.ensures.node c.closed.ensures)
