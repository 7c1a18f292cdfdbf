use Rattle.std.proofs.Common.{List, ℕ, sym, subst, ◌∙◌}
use Rattle.std.specs.Result.{IfOk}
use Rattle.sky_base.specs.Val.{refs}
use Rattle.sky_base.specs.View.{view}
use Rattle.sky_base_known.specs.Read.{reads}
use Rattle.sky_base_known.specs.Text.{text_of as writes}
use Rattle.sky_base_waves.specs.WaveView.{TurnsSo}
use Rattle.sky_base_waves.proofs.Turns.{other_turn, some_refs}
use Rattle.sky_base_waves.proofs.wave.turn.Goals as goal

pub returns-in_default : goal.returns-in_default
returns-in_default g c =
    subst (λ x. IfOk c.turn_all-in_default.result (λ t. TurnsSo t x))
    (sym (other_turn (reads {N = List ℕ}) (writes {N = List ℕ}) (g.K.Known.knows c.args.objects.now) c.args.value.now c.in_default.not-Ref
    (some_refs c.in_ok-refs.field-0 (refs (view c.args.value.now)) c.in_ok-refs.ensures (λ q. c.if-len-eq0.false (c.len-2.ensures ∙ q)))))
    c.turn_all-in_default.ensures
