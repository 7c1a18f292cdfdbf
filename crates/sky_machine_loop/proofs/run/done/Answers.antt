use Rattle.std.proofs.Common.{length, sym, ap}
use Rattle.sky_base.specs.StmtView.{stm_view}
use Rattle.sky_base_law.specs.Nodes.{pre_script}
use Rattle.sky_machine_entries.specs.Config.{body_in, rest_in}
use Rattle.sky_machine_entries.specs.Entries.{forms}
use Rattle.sky_machine_entries.specs.declared.control.Control.{Control}
use Rattle.sky_machine_exprs.proofs.Leaves.{end_in}
use Rattle.sky_machine_loop.proofs.Steps.{stm_within}
use Rattle.sky_machine_loop.proofs.Work.{begun}
use Rattle.sky_machine_loop.proofs.run.done.Goals as goal

pub returns-in-Some-clause-same : goal.returns-in-Some-clause-same
returns-in-Some-clause-same c = λ w h.
    let old = c.args.entries.now.items in
    ap (rest_in w old) (sym ((rw c.in-Some.is at c.in_ok-end.ensures.same) w (body_in w (forms old)) h))

pub returns-in-Some-clause-falls : goal.returns-in-Some-clause-falls
returns-in-Some-clause-falls c =
    let sc = c.args.code.now in
    let n = c.args.node in
    let old = c.args.state.now.count in
    let new = c.stmt_end.new.state.count in
    let es = c.args.entries.now.items in
    let e = c.in-Some.end in
    let in_so = end_in n old new es e (rw c.in-Some.is at c.in_ok-end.ensures.visited) c.in_ok-end.ensures.within in
    begun (length (pre_script sc)) n old new es es (Control.End e) (stm_within sc (stm_view c.args.stmt.now) n c.requires.goes) in_so

pub returns-in_ok-next-in-None-clause-falls : goal.returns-in_ok-next-in-None-clause-falls
returns-in_ok-next-in-None-clause-falls c =
    let sc = c.args.code.now in
    let n = c.args.node in
    let still = rw c.in-None.is at c.in_ok-end.ensures.still in
    rw (← still) (begun (length (pre_script sc)) n _ _ _ _ _ (stm_within sc (stm_view c.args.stmt.now) n c.requires.goes)
    c.in_ok-next-in-None.ensures.falls)
