use Rattle.std.proofs.Common.{[], ◌∷◌, map, sym, subst}
use Rattle.std.proofs.lemmas.List.{map-append}
use Rattle.sky_base.specs.ObjectView.{object_view}
use Rattle.sky_base_law.specs.Sound.{SoundObject}
use Rattle.sky_base_law.specs.Tasks.{Each}
use Rattle.sky_base_law.proofs.Lists.{each_both}
use Rattle.sky_machine.specs.Onward.{AnswersSound}
use Rattle.sky_frozen_thaw_tests.proofs.calls.objects.Goals as goal

pub loop-name-preserved : goal.loop-name-preserved
loop-name-preserved c = λ sc.
    let P = SoundObject sc in
    let os = c.loop-name.objects.items in
    let o = c.in_ok-object.field-0 in
    let both = each_both P (map object_view os) (object_view o ∷ []) (c.loop-name.invariant sc) (c.in_ok-object.ensures sc, tt) in
    subst (AnswersSound sc) (sym c.in_ok-push.ensures.items) (subst (Each P) (sym (map-append object_view os (o ∷ []))) both)
