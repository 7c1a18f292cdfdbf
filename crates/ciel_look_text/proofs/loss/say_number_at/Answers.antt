-- One, or none.
use Rattle.std.proofs.Common.{Some, None, ap, codes, false, map, slice_get, subst, ◌∙◌}
use Rattle.ciel_look_tasks.specs.SceneView.{one_of}
use Rattle.ciel_look_tasks.proofs.KnownSteps.{get_is}
use Rattle.ciel_look_text.specs.Runs.{number_said}
use Rattle.ciel_look_text.specs.Says.{SaysSome}
use Rattle.ciel_look_text.proofs.Parts.{some_none, some_one}
use Rattle.ciel_look_text.proofs.loss.say_number_at.Goals as goal

pub returns-in_ok-say_number-in-Some : goal.returns-in_ok-say_number-in-Some
returns-in_ok-say_number-in-Some c =
    let there = get_is c.deref.result.now c.args.place (Some c.in-Some.run') c.in-Some.ensures.lookup
    ∙ ap (λ rs. slice_get rs c.args.place) c.deref.ensures.value in
    record {
      said = subst (λ o. SaysSome (codes "start ") (codes ", start ") c.args.first c.args.line.now (map number_said (one_of o)) c.say_number.new.line false) there
          (some_one (codes "start ") (codes ", start ") c.args.first c.args.line.now c.say_lead.new.line c.say_number.new.line _
          c.in_ok-say_lead-in-Some.ensures.said c.in_ok-say_number-in-Some.ensures.said);
    }

pub returns-in-None : goal.returns-in-None
returns-in-None c =
    let there = get_is c.deref.result.now c.args.place None c.in-None.ensures.lookup ∙ ap (λ rs. slice_get rs c.args.place) c.deref.ensures.value in
    record {
      said = subst (λ o. SaysSome (codes "start ") (codes ", start ") c.args.first c.args.line.now (map number_said (one_of o)) c.args.line.now c.args.first) there
          (some_none (codes "start ") (codes ", start ") c.args.first c.args.line.now);
    }
