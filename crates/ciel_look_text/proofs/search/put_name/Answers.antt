-- The name of the step, if there is one.
use Rattle.std.proofs.Common.{◌≡◌, ◌++◌, Some, None, ap, slice_get, subst, suc, sym, ◌∙◌}
use Rattle.ciel_look_tasks.proofs.KnownSteps.{get_is}
use Rattle.ciel_look_text.specs.Steps.{named_from}
use Rattle.ciel_look_text.proofs.Stepping.{put_none, put_past, put_step}
use Rattle.ciel_look_text.proofs.search.put_name.Goals as goal

pub returns-in_default : goal.returns-in_default
returns-in_default c =
    let xs = c.args.steps.now in
    let names = c.args.names.now.items in
    record {
      put = λ most. subst (λ o. names ++ named_from most xs None ≡ names ++ named_from (suc most) xs o) (sym c.in_default.is) (put_none most xs names);
    }

pub returns-in_ok-push-in-Some-get : goal.returns-in_ok-push-in-Some-get
returns-in_ok-push-in-Some-get c =
    let xs = c.args.steps.now in
    let names = c.args.names.now.items in
    let there = get_is xs c.in-Some.place (Some c.in-Some-get.step) c.in-Some-get.ensures.lookup in
    record {
      put = λ most. subst (λ o. c.push.new.list.items ++ named_from most xs c.in-Some-get.step.now.from ≡ names ++ named_from (suc most) xs o)
          (sym c.in-Some.is) (put_step most c.in-Some.place xs c.in-Some-get.step.now names c.push.new.list.items (sym there)
          c.in_ok-push-in-Some-get.ensures.pushed);
    }

pub returns-in-None : goal.returns-in-None
returns-in-None c =
    let xs = c.args.steps.now in
    let names = c.args.names.now.items in
    let there = get_is xs c.in-Some.place None c.in-None.ensures.lookup in
    record {
      put = λ most. subst (λ o. names ++ named_from most xs None ≡ names ++ named_from (suc most) xs o) (sym c.in-Some.is)
          (put_past most c.in-Some.place xs names (sym there));
    }
