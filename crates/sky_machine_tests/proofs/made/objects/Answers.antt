use Rattle.std.proofs.Common.{[], ◌∷◌, sym, subst}
use Rattle.sky_machine_tests.specs.Rows.{SoundAnywhere}
use Rattle.sky_machine_tests.proofs.Sound.{sound_both}
use Rattle.sky_machine_tests.proofs.made.objects.Goals as goal

pub loop-one-preserved : goal.loop-one-preserved
loop-one-preserved c =
    subst SoundAnywhere (sym c.in_ok-push.ensures.items)
    (sound_both c.loop-one.objects.items (c.in_ok-object.object ∷ []) c.loop-one.invariant c.in_ok-object.ensures)
