-- A name is compared byte by byte.
use Rattle.std.proofs.Common.{ap, sym, ◌∙◌}
use Rattle.std.specs.Cmp.Lexicographic.{texts_ties}
use Rattle.sky_base.specs.declared.object.TaskId.{TaskId}
use Rattle.ciel_look_tasks.specs.Tasks.{same_task}
use Rattle.ciel_look_tasks.proofs.scene.is_own.Goals as goal

pub returns-in-Of : goal.returns-in-Of
returns-in-Of c =
    c.eq.ensures ∙ texts_ties c.in-Of.own c.args.name.now ∙ ap (λ t. same_task t (TaskId.Of c.args.name.now)) (sym c.in-Of.is)
