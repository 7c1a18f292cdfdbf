use Rattle.std.proofs.Common.{subst, sym}
use Rattle.sky_state.specs.StateView.{stand_of, spawned_of}
use Rattle.ciel_table.specs.Named.{IsOnce}
use Rattle.ciel_task_inputs.specs.Lies.{held_name}
use Rattle.ciel_task_call.specs.Runs.{went}
use Rattle.ciel_task_call.proofs.RunOutcome.{ran_lost, went_of}
use Rattle.ciel_task_call.proofs.task.go_on.Goals as goal

pub new-held-requires : goal.new-held-requires
new-held-requires g c = record { once = subst (IsOnce held_name) (sym c.as_slice.ensures.value) c.requires.sound.distinct }

pub returns-in_ok-report-in-Ok-clause-ran : goal.returns-in_ok-report-in-Ok-clause-ran
returns-in_ok-report-in-Ok-clause-ran g c =
    let came = rw c.in-Ok.is at c.in_ok-went.ensures.went in
    went (stand_of c.args.state) c.requires.begins
    (went_of (g.N.Namer.digest c.args.shop.now.namer) c.args.shop.now.shelves c.args.shop.now.job.script c.args.shop.now.job.inputs
    c.args.order.now (stand_of c.args.state) (stand_of c.through.new.state) c.in_ok-report-in-Ok.report c.in-Ok.step
    (spawned_of c.through.new.state) c.through.new.copied.items.items came c.in_ok-report-in-Ok.ensures)

pub returns-in-Err-clause-ran : goal.returns-in-Err-clause-ran
returns-in-Err-clause-ran g c =
    let lost = rw c.in-Err.is at c.in_ok-went.ensures.went in
    ran_lost (g.N.Namer.digest c.args.shop.now.namer) c.args.shop.now.shelves c.args.shop.now.job.script c.args.shop.now.job.inputs
    c.args.order.now c.missing.result c.in-Err.lost.loss c.through.new.eye c.missing.new.eye c.missing.ensures.same (stand_of c.args.state)
    c.requires.begins c.in-Err.lost.name lost c.missing.ensures.report
