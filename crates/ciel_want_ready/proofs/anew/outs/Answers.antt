use Rattle.std.proofs.Common.{◌∙◌, ◌++◌, ◌∷◌, [], ap, map}
use Rattle.sky_base.specs.declared.object.TaskId.{TaskId}
use Rattle.ciel_table.specs.declared.row.Row.{Row}
use Rattle.ciel_want.specs.Waited.{is_in}
use Rattle.ciel_want_ready.specs.Fits.{outs}
use Rattle.ciel_want_ready.proofs.Alike.{map_step}
use Rattle.ciel_want_ready.proofs.anew.outs.Goals as goal

pub loop-row-preserved : goal.loop-row-preserved
loop-row-preserved g c =
    let t = c.args.table.now in
    let tasks = c.args.tasks.now in
    let old = c.loop-row.flags.items in
    map_step (λ (r : Row g.row.P.Denot). is_in tasks (TaskId.Of r.name)) t.rows c.loop-row.row c.row.result.now old
    c.push-in-loop-row.new.items.items (outs t tasks) c.row.ensures.row c.loop-row.invariant
    (c.in_ok-push-2.ensures ∙ ap (λ x. old ++ x ∷ []) c.has-in-loop-row.ensures)
