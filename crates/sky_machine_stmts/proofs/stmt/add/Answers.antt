use Rattle.std.proofs.Common.{◌≢◌, [], sym, ap, ◌∙◌, rules}
use Rattle.sky_base.specs.View.{view}
use Rattle.sky_base.specs.TreeView.{at}
use Rattle.sky_base.specs.Op.{find}
use Rattle.sky_base.specs.Res.{End, Fin}
use Rattle.sky_base_scope.specs.Plain.{Vars}
use Rattle.sky_base_scope.specs.declared.cut.Cut.{Cut}
use Rattle.sky_machine_stmts.proofs.Changes.{add_goes, add_stops, add_counts}
use Rattle.sky_machine_stmts.proofs.stmt.add.Goals as goal

pub returns-in-Ok-clause-same : goal.returns-in-Ok-clause-same
returns-in-Ok-clause-same c = λ w body.
    add_goes (find c.args.add.name.now c.args.state.now.vars) c.args.add.name.now (at c.args.add.name_line c.args.add.name_col)
    (at c.args.add.line c.args.add.col) (view c.args.v) c.args.state.now c.grow.new.self (c.in-Ok.ensures.changes [])

pub returns-in-Ok-clause-count : goal.returns-in-Ok-clause-count
returns-in-Ok-clause-count c =
    add_counts (find c.args.add.name.now c.args.state.now.vars) c.args.add.name.now (at c.args.add.name_line c.args.add.name_col)
    (at c.args.add.line c.args.add.col) (view c.args.v) c.args.state.now c.grow.new.self (c.in-Ok.ensures.changes [])

pub returns-in-Err-Fault-clause-same : goal.returns-in-Err-Fault-clause-same
returns-in-Err-Fault-clause-same c = λ w body.
    let h = rw c.in-Err-Fault.field-0-is at c.in-Err-Fault.ensures in
    let ne : Cut.Fault c.in-Err-Fault.fault ≢ Cut.Memory = search rules in
    add_stops (find c.args.add.name.now c.args.state.now.vars) c.args.add.name.now (at c.args.add.name_line c.args.add.name_col)
    (at c.args.add.line c.args.add.col) (view c.args.v) c.args.state.now c.in-Err-Fault.fault (h.changes [] ne)
    ∙ ap (Fin (End.failed c.in-Err-Fault.fault)) (sym (h.still ne))

pub returns-in-Err-Fault-clause-count : goal.returns-in-Err-Fault-clause-count
returns-in-Err-Fault-clause-count c =
    let h = rw c.in-Err-Fault.field-0-is at c.in-Err-Fault.ensures in
    let ne : Cut.Fault c.in-Err-Fault.fault ≢ Cut.Memory = search rules in
    ap (λ (s : Vars). s.count) (h.still ne)
