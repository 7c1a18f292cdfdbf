use Rattle.std.proofs.Common.{List, Result, ap, length, subst, sym, ◌∙◌, ℕ}
use Rattle.ciel_json.specs.Text.{text_of as writes}
use Rattle.sky_base.specs.JobView.{job_view}
use Rattle.sky_base.specs.Val.{refs}
use Rattle.sky_base.specs.declared.fault.Fault.{Fault}
use Rattle.sky_base.specs.declared.value.Value.{Value}
use Rattle.sky_base.specs.View.{view}
use Rattle.sky_base_exec.specs.Perform.{all_bytes, listed, made_of}
use Rattle.line_kit.specs.Gives.{gives}
use Rattle.ciel_flow_pieces.specs.declared.piece.Source.{Source}
use Rattle.ciel_task_exec.proofs.OrderTask.{args_kept}
use Rattle.ciel_task_exec.specs.Runs.{CopiedOf, FoundSo, LostOf}
use Rattle.ciel_task_inputs.specs.Brought.{lies_known}
use Rattle.ciel_flow_work.proofs.OrderAhead.{few_found, order_ahead}
use Rattle.ciel_flow_work.proofs.order.run_leading.Goals as goal

abbrev output_with : List ℕ → Value → ℕ → ℕ → Result (List (List ℕ)) Fault → Source
output_with x a n i r = record { executor = x; args = a; outputs = n; index = i; inputs = r }

pub make_leading-requires-clause-source : goal.make_leading-requires-clause-source
make_leading-requires-clause-source g c =
    let ins = (job_view c.args.shop.now.job).inputs in
    let x = c.args.executor.now in
    let a = c.args.args.now in
    let n = c.args.outputs in
    let i = c.args.index in
    c.requires.led.source ∙ ap (output_with x a n i) (sym (subst (FoundSo ins c.args.order.now.inputs.items (view a)) c.in-All.is c.in_ok-found.ensures.found))

pub make_leading-requires-clause-few : goal.make_leading-requires-clause-few
make_leading-requires-clause-few g c =
    let job = job_view c.args.shop.now.job in
    let order = c.args.order.now in
    let a = view c.args.args.now in
    few_found (lies_known job.inputs order.inputs.items) a (listed c.in-All.inputs)
    (args_kept (g.N.Namer.digest c.args.shop.now.namer) c.args.shop.now.shelves job.script (length job.inputs) order c.requires.takes
    c.args.executor.now c.args.args.now c.args.outputs c.requires.desc)
    (subst (FoundSo job.inputs order.inputs.items a) c.in-All.is c.in_ok-found.ensures.found)

pub tell-requires-clause-made : goal.tell-requires-clause-made
tell-requires-clause-made g c =
    let ins = (job_view c.args.shop.now.job).inputs in
    let held = c.args.order.now.inputs.items in
    let x = c.args.executor.now in
    let a = view c.args.args.now in
    let n = c.args.outputs in
    c.in_ok-so-in-All.ensures.made ∙ ap (made_of gives x a n) (subst (FoundSo ins held a) c.in-All.is c.in_ok-found.ensures.found)
    ∙ ap (λ given. made_of given x a n (all_bytes writes (lies_known ins held) (refs a))) (sym c.requires.flow)

pub tell-requires-clause-copied : goal.tell-requires-clause-copied
tell-requires-clause-copied g c =
    subst (CopiedOf c.args.shop.now.shelves (job_view c.args.shop.now.job).inputs c.args.order.now (view c.args.args.now)) c.in-All.is
    c.in_ok-found.ensures.copied

pub tell_loss-report-requires-clause-found : goal.tell_loss-report-requires-clause-found
tell_loss-report-requires-clause-found g c =
    subst (FoundSo (job_view c.args.shop.now.job).inputs c.args.order.now.inputs.items (view c.args.args.now)) c.in-Lost.is c.in_ok-found.ensures.found

pub tell_loss-report-requires-clause-lost : goal.tell_loss-report-requires-clause-lost
tell_loss-report-requires-clause-lost g c = subst (λ r. LostOf r c.find_order.new.eye) c.in-Lost.is c.in_ok-found.ensures.lost

pub returns-in_ok-report-in-All-clause-ahead : goal.returns-in_ok-report-in-All-clause-ahead
returns-in_ok-report-in-All-clause-ahead g c so =
    let ins = (job_view c.args.shop.now.job).inputs in
    let order = c.args.order.now in
    order_ahead ins order c.args.executor.now c.args.args.now c.args.outputs (listed c.in-All.inputs) c.args.ahead c.requires.desc
    (subst (FoundSo ins order.inputs.items (view c.args.args.now)) c.in-All.is c.in_ok-found.ensures.found) (c.in_ok-so-in-All.ensures.ahead so)
