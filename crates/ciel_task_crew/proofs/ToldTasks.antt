-- What crews tell: where a gate has entered a task, and where no call has failed.
use Rattle.std.proofs.Common.{List, Option, Some, None, true, inl, inr, refl, sym, ap, ◌∙◌}
use Rattle.sky_base.specs.declared.object.TaskId.{TaskId}
use Rattle.ciel_gate.specs.Entered.{IsEntered}
use Rattle.ciel_master_safe.specs.Order.{Order}
use Rattle.ciel_master_safe.specs.Shop.{Shop}
use Rattle.ciel_task_crew.specs.Crews.{Fades, extended}
use Rattle.ciel_task_crew.specs.Seen.{CrewSeen}

-- a list with one task more, where it is still told
pub fades_one : (task : TaskId) (before after : Option (List TaskId)) → IsEntered before task after → Fades (extended before task) after
fades_one task before None e = inl refl
fades_one task before (Some ts) (was, b, a) =
    inr (ap Some a ∙ sym (ap (λ x. extended x task) b))

-- no call has failed
abbrev pub seen_as : {K N : Type 0} → Shop K N → List (Option (List TaskId)) → List (Option Order) → CrewSeen K N
seen_as shop told out = record { shop = shop; out = out; told = told; sound = true }
