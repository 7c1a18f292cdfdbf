-- A call that is refused gives the fault that it is refused for; another is led as the source says.
use Rattle.std.proofs.Common.{ap, sym, subst, ◌∙◌, Err}
use Rattle.sky_base.specs.KitView.{RunsSo}
use Rattle.sky_base.specs.View.{view}
use Rattle.line_flow.proofs.Results.{on_ok}
use Rattle.line_flow.proofs.StandsLaw.{refused_gives}
use Rattle.ciel_flow_pieces.proofs.AtHand.{call_gives, call_of, call_stands}
use Rattle.ciel_flow_pieces.proofs.lead.lead.Goals as goal

pub lead_flow-requires-clause-call : goal.lead_flow-requires-clause-call
lead_flow-requires-clause-call g c =
    call_of c.args.producer.now.source c.args.executor.now (view c.args.args.now) c.args.outputs c.args.index c.args.inputs.now c.requires.call
    _ c.in-Ok.ensures.right

pub lead_flow-requires-clause-flow : goal.lead_flow-requires-clause-flow
lead_flow-requires-clause-flow g c =
    call_stands c.args.producer.now.source c.args.executor.now (view c.args.args.now) c.args.outputs c.args.index c.args.inputs.now c.requires.call
    c.in-Ok.flow _ c.in-Ok.ensures.opened

pub returns-in-Ok-clause-made : goal.returns-in-Ok-clause-made
returns-in-Ok-clause-made g c =
    on_ok c.lead_flow.result
    (λ r made. subst (RunsSo r)
    (call_gives c.args.producer.now.source c.args.executor.now (view c.args.args.now) c.args.outputs c.args.index c.args.inputs.now c.requires.call)
    made) c.lead_flow.ensures.made

pub returns-in-Err-Refused-clause-made : goal.returns-in-Err-Refused-clause-made
returns-in-Err-Refused-clause-made g c =
    refused_gives c.args.executor.now _ c.args.inputs.now c.args.outputs _
    (c.open.ensures.refused _ (c.in-Err-Refused.is ∙ ap Err c.in-Err-Refused.field-0-is))
    ∙ ap Err (sym c.in-Err-Refused.kind-is)
