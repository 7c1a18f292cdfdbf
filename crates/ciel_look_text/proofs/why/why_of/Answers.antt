-- The first that is asked for.
use Rattle.std.proofs.Common.{ap, sym, ◌∙◌}
use Rattle.ciel_look_tasks.specs.View.{ids}
use Rattle.ciel_look_text.specs.Asked.{first_asked}
use Rattle.ciel_look_text.proofs.FoundTasks.{asked_some, rows_asked}
use Rattle.ciel_look_text.proofs.why.why_of.Goals as goal

pub returns-in_ok-lines-in-Some : goal.returns-in_ok-lines-in-Some
returns-in_ok-lines-in-Some c =
    let s = c.args.scene.now in
    let found = sym c.in-Some.is ∙ c.in_ok-id.ensures.found ∙ ap (λ ts. first_asked c.args.digits.now (ids ts)) c.as_slice.ensures.value in
    record {
      found = asked_some c.args.digits.now (ids s.roll.tasks.items) _ found;
      why = (c.in-Some.id, rows_asked s c.args.digits.now _ found, c.in_ok-lines-in-Some.ensures.why);
    }

pub returns-in-None : goal.returns-in-None
returns-in-None c =
    let s = c.args.scene.now in
    let found = sym c.in-None.is ∙ c.in_ok-id.ensures.found ∙ ap (λ ts. first_asked c.args.digits.now (ids ts)) c.as_slice.ensures.value in
    record { found = asked_some c.args.digits.now (ids s.roll.tasks.items) _ found; why = tt }
