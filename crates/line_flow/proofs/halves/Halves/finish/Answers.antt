use Rattle.std.proofs.Common.{ap}
use Rattle.line_kit.specs.Numbers.{signed_number}
use Rattle.line_kit.specs.Gives.{halved}
use Rattle.line_flow.specs.Kept.{WritesHalves}
use Rattle.line_flow.proofs.Results.{when_true}
use Rattle.line_flow.proofs.ReadLaw.{unread_all}
use Rattle.line_flow.proofs.halves.Halves.finish.Goals as goal

pub returns-then-self : goal.returns-then-self
returns-then-self c ls h = ap halved (unread_all signed_number ls (when_true (WritesHalves c.args.self ls) c.args.self.bad c.if-self.true h))
