use Rattle.std.proofs.Common.{length, map, arith}
use Rattle.std.specs.Arc.{arc_value}
use Rattle.ciel_crew_inline.proofs.KeptReports.{opened_as}
use Rattle.ciel_crew_inline.proofs.inline.Inline.open.Goals as goal

pub returns-in-Ok-clause-opened : goal.returns-in-Ok-clause-opened
returns-in-Ok-clause-opened g c =
    let gates = c.args.gates.items in
    opened_as (arc_value c.args.shop) (map g.G.Gate.entered gates) c.in-Ok.kept.items c.len.result (length gates) c.in-Ok.ensures
    (omega (arith, c.len.ensures, c.args.gates.ok.0))
