-- What stands at the place of the name.
use Rattle.std.proofs.Common.{◌≡◌, Bor, Option, Some, None, MatchOption, ap, slice_get, sym, ◌∙◌}
use Rattle.ciel_look_tasks.proofs.KnownSteps.{get_is}
use Rattle.ciel_look_lanes.proofs.Bars.{row_found, row_nowhere}
use Rattle.ciel_look_lanes.proofs.lanes.task_of.Goals as goal

pub returns-in-Some : goal.returns-in-Some
returns-in-Some c =
    let s = c.args.scene.now in
    record {
      row = row_found s c.args.id.now s.roll.tasks.items c.in-Some.place c.get.result c.in-Some.ensures.place
          (get_is c.deref.result.now c.in-Some.place c.get.result c.get.ensures.lookup
          ∙ ap (λ ts. slice_get ts c.in-Some.place) c.deref.ensures.value);
    }

pub returns-in-None : goal.returns-in-None
returns-in-None c = let s = c.args.scene.now in record { row = row_nowhere s c.args.id.now s.roll.tasks.items c.in-None.ensures.place }
