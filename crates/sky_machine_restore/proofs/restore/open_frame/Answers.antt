use Rattle.std.proofs.Common.{◌≡◌, ◌++◌, [], ◌∷◌, Some, IsSome, sym, ap, ◌∙◌, subst}
use Rattle.std.specs.Option.{option_map}
use Rattle.sky_base_law.specs.Tasks.{Each}
use Rattle.sky_machine_entries.specs.Entries.{forms}
use Rattle.sky_state.specs.Table.{IsStep}
use Rattle.sky_state.specs.Fits.{row_of, kept_in_all}
use Rattle.sky_state.specs.StandView.{todo_view, todos_view, stack_view, frames_view}
use Rattle.sky_machine_restore.specs.Restoring.{call_above, call_last, form_at, own, others, todo_forms, after_these}
use Rattle.sky_machine_restore.proofs.Walk.{vars_kept, both_some, one_more, enough, others_kept}
use Rattle.sky_machine_restore.proofs.restore.open_frame.Goals as goal

pub open_todo-requires-clause-caller : goal.open_todo-requires-clause-caller
open_todo-requires-clause-caller c = c.caller-call.ensures.kept (vars_kept c.args.code.now c.args.frame.now.vars c.requires.fits.vars)

pub loop-todo-preserved : goal.loop-todo-preserved
loop-todo-preserved c =
    let l = c.loop-todo in
    let sc = c.args.code.now in
    let up = call_above c.args.frame.now.vars (frames_view c.args.above.now) in
    let t = todo_view c.in-Some.todo.now in
    let ts = todos_view c.in-Some.further.now in
    let vs = stack_view l.values.now in
    let us = stack_view c.in_ok-others.others.now in
    let is : todos_view l.rest.now ≡ t ∷ ts = ap todos_view c.in-Some.ensures.cases.0 in
    let steps = subst (Each (λ u. IsStep (row_of sc u))) is l.invariant.steps in
    let many = l.invariant.as_many ∙ ap (kept_in_all sc) is in
    let some = subst (λ x. IsSome (todo_forms sc up x vs (Some []))) is l.invariant.opens in
    let both = both_some (form_at sc t (own sc t vs) (call_last up ts)) (todo_forms sc up ts (others sc t vs) (Some [])) some in
    let rest = c.in_ok-others.ensures.rest in
    record {
      steps = steps.1;
      as_many = (enough sc t ts l.values.now c.in_ok-others.others.now many rest).1;
      kept = others_kept sc t vs us rest l.invariant.kept;
      opens = subst (λ x. IsSome (todo_forms sc up ts x (Some []))) (sym rest) both.1;
      same = λ more. l.invariant.same more ∙ ap (λ x. after_these (forms l.entries.items) (todo_forms sc up x vs more)) is
          ∙ one_more (forms l.entries.items) (forms c.open_todo.new.entries.items) (form_at sc t (own sc t vs) (call_last up ts))
          (todo_forms sc up ts (others sc t vs) more)
          (ap (λ x. option_map (λ en. forms l.entries.items ++ en ∷ []) (form_at sc t (own sc t vs) x)) (sym c.caller-call.ensures.call)
          ∙ c.in_ok-others.ensures.form) ∙ ap (λ x. after_these (forms c.open_todo.new.entries.items) (todo_forms sc up ts x more)) (sym rest);
      ready = c.in_ok-others.ensures.ready;
    }
