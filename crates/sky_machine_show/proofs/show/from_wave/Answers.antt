use Rattle.std.proofs.Common.{map, ap, subst, ◌∙◌}
use Rattle.sky_base.specs.Names.{known_of}
use Rattle.sky_base.specs.ObjectView.{object_view}
use Rattle.sky_base.specs.See.{Answered}
use Rattle.sky_base.specs.View.{view}
use Rattle.sky_base_waves.specs.Wave.{Turned}
use Rattle.sky_base_waves.specs.WaveView.{TurnsSo}
use Rattle.sky_machine_show.proofs.Nexts.{next_turned, turn_over}
use Rattle.sky_machine_show.proofs.show.from_wave.Goals as goal

pub returns-in-Fault : goal.returns-in-Fault
returns-in-Fault c =
    let g = c.in_ok-given.given in
    let v = view c.args.value.now in
    next_turned g c.as_slice.result.now (map object_view c.args.answers.now) v c.args.wave (Turned.ends (Answered.fault c.in-Fault.fault))
    c.in_ok-given.ensures (ap known_of c.as_slice.ensures ∙ c.in_ok-names.ensures)
    (subst (λ t. TurnsSo t (turn_over g.0 g.1 v)) c.in-Fault.is c.in_ok-bytes.ensures)

pub returns : goal.returns
returns c =
    let g = c.in_ok-given.given in
    let v = view c.args.value.now in
    next_turned g c.as_slice.result.now (map object_view c.args.answers.now) v c.args.wave (Turned.next (view c.in-Next.next))
    c.in_ok-given.ensures (ap known_of c.as_slice.ensures ∙ c.in_ok-names.ensures)
    (subst (λ t. TurnsSo t (turn_over g.0 g.1 v)) c.in-Next.is c.in_ok-bytes.ensures) ∙ c.in_ok-came-in-Next.ensures
