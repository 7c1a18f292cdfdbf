use Rattle.std.proofs.Common.{List, ℕ, sym, ap, ◌∙◌}
use Rattle.sky_base.specs.Val.{refs}
use Rattle.sky_base.specs.View.{view}
use Rattle.sky_base.specs.See.{Answered}
use Rattle.sky_base_known.specs.Text.{text_of as writes}
use Rattle.sky_base_waves.proofs.Turns.{last_some, some_refs}
use Rattle.sky_base_waves.proofs.wave.last_turn.Goals as goal

pub returns : goal.returns
returns c =
    last_some (refs (view c.args.value.now)) (writes {N = List ℕ} (view c.args.value.now))
    (some_refs c.in_ok-refs.field-0 (refs (view c.args.value.now)) c.in_ok-refs.ensures (λ q. c.if-len-eq0.false (c.len-2.ensures ∙ q)))
    ∙ ap Answered.fault (sym c.no_place.ensures)
