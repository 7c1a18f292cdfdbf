use Rattle.std.proofs.Common.{◌∙◌, ◌∷◌, [], length-append, arith}
use Rattle.sky_base.specs.View.{view}
use Rattle.sky_base.specs.TreeView.{at}
use Rattle.sky_base_forms.proofs.FormLaw.{outputs_are, outputs_step, outputs_full_in}
use Rattle.sky_base_forms.proofs.forms.outputs.Goals as goal

pub returns-in-Err-clause-answer : goal.returns-in-Err-clause-answer
returns-in-Err-clause-answer c = λ ne k.
    let l = c.loop-index in
    let h = rw (c.in_ok-share.ensures, c.in_ok-copy.ensures) at (c.in-Err.ensures ne) in
    rw (c.in-Text.is, h.0) (outputs_are c.in-Text.executor (view c.args.args.now) (view c.args.outputs.now) (at c.args.line c.args.col)
    c.args.rows.now k c.in_ok-n.n c.in_ok-n.ensures.0 c.in_ok-n.ensures.1 ∙ l.invariant.same k
    ∙ outputs_full_in c.in-Text.executor (view c.args.args.now) c.in_ok-n.n l.index l.rows l.names k c.learn.new.rows c.loop-index-test.true
    h.1 h.2)

pub loop-index-preserved : goal.loop-index-preserved
loop-index-preserved c =
    let l = c.loop-index in
    let h = rw (c.in_ok-share.ensures, c.in_ok-copy.ensures) at c.in-Ok.ensures in
    rw c.in_ok-push.ensures.ok (record {
      count = omega (arith, length-append l.names (c.in-Ok.name ∷ []), l.invariant.count);
      same = λ k. l.invariant.same k ∙ outputs_step c.in-Text.executor (view c.args.args.now) c.in_ok-n.n l.index l.rows l.names k
          c.learn.new.rows c.in-Ok.name c.loop-index-test.true h.0 h.1;
    })
