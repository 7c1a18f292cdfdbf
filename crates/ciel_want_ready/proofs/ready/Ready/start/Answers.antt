use Rattle.std.proofs.Common.{◌∙◌, ◌++◌, ◌∷◌, [], ap, sym, subst, IfSome}
use Rattle.ciel_want_ready.specs.Fits.{FitsOut}
use Rattle.ciel_want_ready.proofs.FitsAfterCall.{started_fits}
use Rattle.ciel_want_ready.proofs.ready.Ready.start.Goals as goal

pub invariant_of-self-2 : goal.invariant_of-self-2
invariant_of-self-2 g c =
    let main = c.self.inside.main in
    let t = c.self.inside.table in
    let out = c.self.inside.out.items in
    let res = c.started.result in
    let grew = c.push_reserved.ensures.items ∙ ap (λ xs. xs ++ c.args.task.now ∷ []) c.reserve.ensures.items in
    subst (λ xs. IfSome res (λ m. FitsOut main t xs m)) (sym grew)
    (started_fits main t out c.self.inside.marks c.self.invariant c.take-marks.result c.take-marks.ensures.value res c.args.task.now
    c.node_for-node.result c.node_for-node.ensures.sound.once c.node_for-node.ensures.node c.started.ensures)
