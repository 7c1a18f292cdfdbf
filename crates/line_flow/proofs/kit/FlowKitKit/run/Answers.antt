use Rattle.std.proofs.Common.{◌≡◌, Some, rules}
use Rattle.sky_base.specs.View.{view}
use Rattle.line_flow.specs.Refused.{refusal}
use Rattle.line_flow.proofs.StandsLaw.{refused_gives}
use Rattle.line_flow.proofs.kit.FlowKitKit.run.Goals as goal

pub returns-in-Err-Refused : goal.returns-in-Err-Refused
returns-in-Err-Refused c =
    let refused : refusal c.args.executor.now (view c.args.args.now) c.args.outputs ≡ Some c.in-Err-Refused.kind = search rules in
    refused_gives c.args.executor.now (view c.args.args.now) c.args.inputs.now c.args.outputs c.in-Err-Refused.kind refused
