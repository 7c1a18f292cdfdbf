use Rattle.std.proofs.Common.{[], ◌∷◌, sym, subst}
use Rattle.sky_base.specs.ObjectView.{object_view}
use Rattle.sky_base_law.specs.Tasks.{Each}
use Rattle.sky_base_law.proofs.Lists.{each_both}
use Rattle.sky_base_known.specs.Known.{KeptObject}
use Rattle.sky_machine_show_tests.proofs.made.objects.Goals as goal

pub loop-one-preserved : goal.loop-one-preserved
loop-one-preserved c =
    subst (Each (λ o. KeptObject (object_view o))) (sym c.in_ok-push.ensures.items)
    (each_both (λ o. KeptObject (object_view o)) c.loop-one.objects.items (c.in_ok-object.object ∷ []) c.loop-one.invariant
    (c.in_ok-object.ensures, tt))
