-- The name is put.
use Rattle.std.proofs.Common.{◌&&◌, Some, ap, cond, nat_eq, sym, ◌∙◌}
use Rattle.sky_base.specs.declared.object.TaskId.{TaskId}
use Rattle.ciel_look_tasks.specs.ReportView.{output_in}
use Rattle.ciel_look_tasks.specs.Tasks.{same_task}
use Rattle.ciel_look_tasks.proofs.OutputSteps.{output_put}
use Rattle.ciel_look_tasks.proofs.book.put_output.Goals as goal

pub returns-in-Ok : goal.returns-in-Ok
returns-in-Ok c =
    let k = c.args.one.now in
    record {
      put = λ n i. output_put c.args.names.now c.insert.new.self c.in-Of.task k.name c.args.index c.in-Ok.ensures.updates n i
          ∙ ap (λ t. cond (same_task (TaskId.Of n) t && nat_eq c.args.index i) (Some k.name) (output_in c.args.names.now n i)) (sym c.in-Of.is);
    }
