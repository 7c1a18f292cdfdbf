-- The lines were put, or a first part of them; or nothing was, where no task has such a name.
use Rattle.std.proofs.Common.{sym, subst}
use Rattle.ciel_look_shown.specs.Lines.{IsLines}
use Rattle.ciel_look_run.specs.Ends.{IsOf}
use Rattle.ciel_look_run.specs.Line as seen
use Rattle.ciel_look_tasks.specs.SceneView.{scene_view}
use Rattle.ciel_look_tasks.specs.View.{ids}
use Rattle.ciel_look_run.proofs.EndLemmas.{no_task_ends, no_task_unwritten, put_ends, put_wrote, unwritten}
use Rattle.ciel_look_run.proofs.look.write_why.Goals as goal

pub returns-in-Some-clause-ends : goal.returns-in-Some-clause-ends
returns-in-Some-clause-ends g c =
    put_ends _ _ _ _ (ids c.args.scene.now.roll.tasks.items) (seen.why c.args.digits.now) c.as_slice.result.now
    (sym (rw c.in-Some.is at c.in-Ok.ensures.found)) c.put.result c.put.ensures.put

pub returns-in-Some-clause-wrote : goal.returns-in-Some-clause-wrote
returns-in-Some-clause-wrote g c =
    put_wrote _ _ _ _ (seen.why c.args.digits.now) (IsOf (seen.why c.args.digits.now) (scene_view c.args.scene.now)) c.as_slice.result.now
    (subst IsLines (sym c.as_slice.ensures.value) c.as_slice.ensures.lines)
    (subst (IsOf (seen.why c.args.digits.now) (scene_view c.args.scene.now)) (sym c.as_slice.ensures.value) (rw c.in-Some.is at c.in-Ok.ensures.why))
    c.put.result c.put.ensures.put

pub returns-in-None-clause-ends : goal.returns-in-None-clause-ends
returns-in-None-clause-ends g c =
    no_task_ends (ids c.args.scene.now.roll.tasks.items) c.args.digits.now (sym (rw c.in-None.is at c.in-Ok.ensures.found)) c.no_task.result
    c.no_task.ensures

pub returns-in-None-clause-wrote : goal.returns-in-None-clause-wrote
returns-in-None-clause-wrote g c =
    unwritten _ _ _ (seen.why c.args.digits.now) c.no_task.result (no_task_unwritten c.args.digits.now c.no_task.result c.no_task.ensures)
