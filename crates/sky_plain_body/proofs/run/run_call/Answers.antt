use Rattle.std.proofs.Common.{◌∙◌, Ok, Err, ap}
use Rattle.sky_base.specs.View.{view}
use Rattle.sky_base_known.specs.Data.{data_of}
use Rattle.sky_base_scope.specs.declared.cut.Cut.{Cut}
use Rattle.sky_plain_body.proofs.RunEnds.{went, gave, was_cut, run_goes, run_returned, run_fault, run_waits, run_full, begins_goes, begins_returned}
use Rattle.sky_plain_body.proofs.RunEnds.{begins_fault, begins_waits, begins_full}
use Rattle.sky_base_scope.proofs.Vars.{kept_parts, kept_pairs}
use Rattle.sky_plain_body.proofs.run.run_call.Goals as goal

pub body-flow-requires-clause-caught : goal.body-flow-requires-clause-caught
body-flow-requires-clause-caught c = kept_pairs c.args.caught.now c.requires.caught

pub body-flow-requires-clause-args : goal.body-flow-requires-clause-args
body-flow-requires-clause-args c = kept_parts c.args.args.now c.requires.args

pub returns-in-Ok-Goes-clause-grows : goal.returns-in-Ok-Goes-clause-grows
returns-in-Ok-Goes-clause-grows c =
    let e = went c.args.script.now data_of c.args.objects.now c.args.rows.now c.args.fun.now c.args.caught.now c.args.args.now c.body-flow.result
    c.body-flow.new.rows c.body-flow.new.state c.new-state.result.count (ap (λ s. s.count) c.new-state.ensures) c.body-flow.ensures.answer
    (c.in-Ok-Goes.is ∙ ap Ok c.in-Ok-Goes.field-0-is) in
    begins_goes c.args.script.now data_of c.args.objects.now c.args.rows.now c.args.fun.now c.args.caught.now c.args.args.now
    c.body-flow.new.rows c.body-flow.new.state e c.len-held.ensures.apart

pub returns-in-Ok-Goes-clause-runs : goal.returns-in-Ok-Goes-clause-runs
returns-in-Ok-Goes-clause-runs c =
    let e = went c.args.script.now data_of c.args.objects.now c.args.rows.now c.args.fun.now c.args.caught.now c.args.args.now c.body-flow.result
    c.body-flow.new.rows c.body-flow.new.state c.new-state.result.count (ap (λ s. s.count) c.new-state.ensures) c.body-flow.ensures.answer
    (c.in-Ok-Goes.is ∙ ap Ok c.in-Ok-Goes.field-0-is) in
    run_goes c.args.script.now data_of c.args.objects.now c.args.rows.now c.args.fun.now c.args.caught.now c.args.args.now c.body-flow.new.rows
    c.body-flow.new.state e

pub returns-in-Ok-Returned-clause-grows : goal.returns-in-Ok-Returned-clause-grows
returns-in-Ok-Returned-clause-grows c =
    let e = gave c.args.script.now data_of c.args.objects.now c.args.rows.now c.args.fun.now c.args.caught.now c.args.args.now c.body-flow.result
    c.body-flow.new.rows c.body-flow.new.state c.new-state.result.count c.in-Ok-Returned.v (ap (λ s. s.count) c.new-state.ensures)
    c.body-flow.ensures.answer (c.in-Ok-Returned.is ∙ ap Ok c.in-Ok-Returned.field-0-is) in
    begins_returned c.args.script.now data_of c.args.objects.now c.args.rows.now c.args.fun.now c.args.caught.now c.args.args.now
    c.body-flow.new.rows c.body-flow.new.state (view c.in-Ok-Returned.v) e c.len-held.ensures.apart

pub returns-in-Ok-Returned-clause-runs : goal.returns-in-Ok-Returned-clause-runs
returns-in-Ok-Returned-clause-runs c =
    let e = gave c.args.script.now data_of c.args.objects.now c.args.rows.now c.args.fun.now c.args.caught.now c.args.args.now c.body-flow.result
    c.body-flow.new.rows c.body-flow.new.state c.new-state.result.count c.in-Ok-Returned.v (ap (λ s. s.count) c.new-state.ensures)
    c.body-flow.ensures.answer (c.in-Ok-Returned.is ∙ ap Ok c.in-Ok-Returned.field-0-is) in
    run_returned c.args.script.now data_of c.args.objects.now c.args.rows.now c.args.fun.now c.args.caught.now c.args.args.now
    c.body-flow.new.rows c.body-flow.new.state (view c.in-Ok-Returned.v) e

pub returns-in-Fault-clause-grows : goal.returns-in-Fault-clause-grows
returns-in-Fault-clause-grows c =
    let e = was_cut c.args.script.now data_of c.args.objects.now c.args.rows.now c.args.fun.now c.args.caught.now c.args.args.now
    c.body-flow.result c.body-flow.new.rows c.body-flow.new.state c.new-state.result.count (Cut.Fault c.in-Fault.fault) (λ e. absurd cc)
    (ap (λ s. s.count) c.new-state.ensures) c.body-flow.ensures.answer (c.in-Err.is ∙ ap Err c.in-Fault.is) in
    begins_fault c.args.script.now data_of c.args.objects.now c.args.rows.now c.args.fun.now c.args.caught.now c.args.args.now
    c.body-flow.new.rows c.in-Fault.fault e c.len-held.ensures.apart

pub returns-in-Fault-clause-runs : goal.returns-in-Fault-clause-runs
returns-in-Fault-clause-runs c =
    let e = was_cut c.args.script.now data_of c.args.objects.now c.args.rows.now c.args.fun.now c.args.caught.now c.args.args.now
    c.body-flow.result c.body-flow.new.rows c.body-flow.new.state c.new-state.result.count (Cut.Fault c.in-Fault.fault) (λ e. absurd cc)
    (ap (λ s. s.count) c.new-state.ensures) c.body-flow.ensures.answer (c.in-Err.is ∙ ap Err c.in-Fault.is) in
    run_fault c.args.script.now data_of c.args.objects.now c.args.rows.now c.args.fun.now c.args.caught.now c.args.args.now c.body-flow.new.rows
    c.in-Fault.fault e

pub returns-in-Waits-clause-grows : goal.returns-in-Waits-clause-grows
returns-in-Waits-clause-grows c =
    let e = was_cut c.args.script.now data_of c.args.objects.now c.args.rows.now c.args.fun.now c.args.caught.now c.args.args.now
    c.body-flow.result c.body-flow.new.rows c.body-flow.new.state c.new-state.result.count (Cut.Waits c.in-Waits.name) (λ e. absurd cc)
    (ap (λ s. s.count) c.new-state.ensures) c.body-flow.ensures.answer (c.in-Err.is ∙ ap Err c.in-Waits.is) in
    begins_waits c.args.script.now data_of c.args.objects.now c.args.rows.now c.args.fun.now c.args.caught.now c.args.args.now
    c.body-flow.new.rows c.in-Waits.name e c.len-held.ensures.apart

pub returns-in-Waits-clause-runs : goal.returns-in-Waits-clause-runs
returns-in-Waits-clause-runs c =
    let e = was_cut c.args.script.now data_of c.args.objects.now c.args.rows.now c.args.fun.now c.args.caught.now c.args.args.now
    c.body-flow.result c.body-flow.new.rows c.body-flow.new.state c.new-state.result.count (Cut.Waits c.in-Waits.name) (λ e. absurd cc)
    (ap (λ s. s.count) c.new-state.ensures) c.body-flow.ensures.answer (c.in-Err.is ∙ ap Err c.in-Waits.is) in
    run_waits c.args.script.now data_of c.args.objects.now c.args.rows.now c.args.fun.now c.args.caught.now c.args.args.now c.body-flow.new.rows
    c.in-Waits.name e

pub returns-in-Full-clause-grows : goal.returns-in-Full-clause-grows
returns-in-Full-clause-grows c =
    let e = was_cut c.args.script.now data_of c.args.objects.now c.args.rows.now c.args.fun.now c.args.caught.now c.args.args.now
    c.body-flow.result c.body-flow.new.rows c.body-flow.new.state c.new-state.result.count Cut.Full (λ e. absurd cc)
    (ap (λ s. s.count) c.new-state.ensures) c.body-flow.ensures.answer (c.in-Err.is ∙ ap Err c.in-Full.is) in
    begins_full c.args.script.now data_of c.args.objects.now c.args.rows.now c.args.fun.now c.args.caught.now c.args.args.now
    c.body-flow.new.rows e c.len-held.ensures.apart

pub returns-in-Full-clause-runs : goal.returns-in-Full-clause-runs
returns-in-Full-clause-runs c =
    let e = was_cut c.args.script.now data_of c.args.objects.now c.args.rows.now c.args.fun.now c.args.caught.now c.args.args.now
    c.body-flow.result c.body-flow.new.rows c.body-flow.new.state c.new-state.result.count Cut.Full (λ e. absurd cc)
    (ap (λ s. s.count) c.new-state.ensures) c.body-flow.ensures.answer (c.in-Err.is ∙ ap Err c.in-Full.is) in
    run_full c.args.script.now data_of c.args.objects.now c.args.rows.now c.args.fun.now c.args.caught.now c.args.args.now c.body-flow.new.rows e
