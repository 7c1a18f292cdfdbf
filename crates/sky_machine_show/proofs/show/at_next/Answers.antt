use Rattle.std.proofs.Common.{◌∙◌, arith}
use Rattle.sky_base.specs.Val.{refs}
use Rattle.sky_base.specs.View.{view}
use Rattle.sky_base_waves.proofs.Turns.{some_refs}
use Rattle.sky_machine_show.proofs.Nexts.{waits_so}
use Rattle.sky_machine_show.proofs.show.at_next.Goals as goal

pub returns : goal.returns
returns c =
    waits_so c.args.wave (view c.args.next) (some_refs c.in_ok-refs.field-0 (refs (view c.args.next)) c.in_ok-refs.ensures
    (λ q. c.if-len-eq0.false (c.len-else-wave-ge100.ensures ∙ q))) (omega (arith, c.if-wave-ge100.false))
