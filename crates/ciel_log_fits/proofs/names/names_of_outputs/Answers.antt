use Rattle.std.proofs.Common.{◌∙◌}
use Rattle.sky_base.specs.Name.{digested}
use Rattle.sky_base.specs.View.{view}
use Rattle.sky_base.specs.Val.{out}
use Rattle.ciel_log_fits.proofs.Outputs.{outputs_step}
use Rattle.ciel_log_fits.proofs.names.names_of_outputs.Goals as goal

pub loop-index-preserved : goal.loop-index-preserved
loop-index-preserved g c =
    let digest = g.N.Namer.digest c.args.namer.now in
    let named = c.in_ok-name_of.ensures ∙ (λ i. digested digest (out (c.in_ok-share.ensures i) (view (c.in_ok-copy.ensures i)) c.args.outputs c.loop-index.index)) in
    outputs_step digest c.args.executor.now (view c.args.args.now) c.args.outputs c.loop-index.index c.loop-index.names c.push.new.self
    c.in_ok-name_of.field-0 _ c.loop-index-test.true named c.in_ok-push.ensures.ok c.loop-index.invariant
