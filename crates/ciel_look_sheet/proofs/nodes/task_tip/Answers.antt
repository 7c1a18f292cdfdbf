-- By its description, if there is one.
use Rattle.std.proofs.Common.{ap, sym, ◌∙◌}
use Rattle.ciel_look_shown.specs.Plain.{shown}
use Rattle.ciel_look_tasks.specs.Heads.{own_desc}
use Rattle.ciel_look_sheet.specs.Titles.{task_title}
use Rattle.ciel_look_sheet.proofs.nodes.task_tip.Goals as goal

pub returns-in_ok-tip-in-Some : goal.returns-in_ok-tip-in-Some
returns-in_ok-tip-in-Some c =
    let t = c.args.task.now.id in
    record { title = c.in_ok-tip-in-Some.ensures.title ∙ ap (λ o. shown (task_title (own_desc t o) t)) (sym c.in-Some.ensures.known) }

pub returns-in_ok-name-in-None : goal.returns-in_ok-name-in-None
returns-in_ok-name-in-None c =
    let t = c.args.task.now.id in
    record { title = c.in_ok-name-in-None.ensures.name ∙ ap (λ o. shown (task_title (own_desc t o) t)) (sym c.in-None.ensures.known) }
