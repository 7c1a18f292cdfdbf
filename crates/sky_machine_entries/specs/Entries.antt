-- What the forms under way, the ends and the waits of the code stand for.
use Rattle.std.specs.Prelude.{ℕ, ◌+◌, List, map, reverse, Option, Some, None}
use Rattle.std.specs.Borrow.{Bor}
use Rattle.sky_base.specs.Val.{known}
use Rattle.sky_base.specs.View.{view}
use Rattle.sky_base.specs.Tree.{Stms, Else, block_nodes, arms_nodes}
use Rattle.sky_base.specs.TreeView.{at, exp_view, exps_view, ands_view, signs_view, steps_view}
use Rattle.sky_base.specs.StmtView.{stms_view, arms_view}
use Rattle.sky_base.specs.Names.{known_of}
use Rattle.sky_base.specs.Res as logic
use Rattle.sky_machine_code.specs.Plain.{items}
use Rattle.sky_machine_code.specs.Shapes.{form_view, op_view, rest_view, operands_view, stops_at}
use Rattle.sky_machine_entries.specs.declared.entry.InForm.{InForm}
use Rattle.sky_machine_entries.specs.declared.entry.InPostfix.{InPostfix}
use Rattle.sky_machine_entries.specs.declared.entry.InStmt.{InStmt}
use Rattle.sky_machine_entries.specs.declared.entry.InBlock.{InBlock}
use Rattle.sky_machine_entries.specs.declared.entry.Entry.{Entry}
use Rattle.sky_machine_entries.specs.declared.control.End.{End}
use Rattle.sky_machine_entries.specs.declared.control.Wait.{Wait}

abbrev pub Form : Type 0
Form = logic.Entry (List ℕ)

abbrev pub last_block : Option (Bor Stms) → Else
last_block None = Else.no_else
last_block (Some b) = Else.otherwise b.now

abbrev pub form_of : InForm → Form
form_of (InForm.Parens p) = logic.parens_in p.node
form_of (InForm.Part p) =
    logic.part_at p.node p.step p.next (form_view p.form) (at p.line p.col) (items p.values) (rest_view p.rest)
form_of (InForm.ChainFirst p) = logic.chain_first p.node p.next (operands_view p.rest)
form_of (InForm.ChainMore p) =
    logic.chain_more p.node p.step p.next (op_view p.op) (at p.line p.col) (view p.value) (operands_view p.rest)
form_of (InForm.Logic p) =
    logic.logic_at p.node p.step p.next (stops_at p.stop) (at p.line p.col) (ands_view p.rest.now)
form_of (InForm.Prefix p) = logic.prefix_part p.node (reverse (signs_view p.signs.now))
form_of (InForm.Star p) = logic.star_wait p.node p.step (known p.name) (reverse (signs_view p.signs.now))
form_of (InForm.ExecWait p) = logic.exec_wait p.node (known_of p.names)

abbrev pub postfix_of : InPostfix → Form
postfix_of (InPostfix.First p) = logic.postfix_first p.node p.next (steps_view p.rest.now)
postfix_of (InPostfix.Index p) =
    logic.index_at p.node p.step p.next (at p.line p.col) (view p.value) (steps_view p.rest.now)
postfix_of (InPostfix.Arg p) =
    logic.arg_at p.node p.step p.next (at p.line p.col) (view p.fun) (items p.args) (exps_view p.more.now) (steps_view p.rest.now)
postfix_of (InPostfix.Open p) =
    logic.call_open p.node p.step p.next p.fun p.caller.vars (steps_view p.rest.now)

abbrev pub stmt_of : InStmt → Form
stmt_of (InStmt.Set p) = logic.set_part p.node p.name.now
stmt_of (InStmt.Add p) = logic.add_part p.node p.name.now (at p.name_line p.name_col) (at p.line p.col)
stmt_of (InStmt.PutIndex p) =
    logic.put_index p.node p.next p.name.now (at p.name_line p.name_col) (at p.line p.col) (exp_view p.value.now)
stmt_of (InStmt.PutValue p) =
    logic.put_value p.node p.name.now (at p.name_line p.name_col) (at p.line p.col) (view p.at)
stmt_of (InStmt.Return p) = logic.return_part p.node
stmt_of (InStmt.Just p) = logic.just_part p.node

abbrev pub block_of : InBlock → Form
block_of (InBlock.Arm p) =
    logic.arm_test p.node p.step p.block (p.block + block_nodes p.body.now + arms_nodes (arms_view p.arms.now)) (at p.line p.col) p.body.now
    (arms_view p.arms.now) (last_block p.otherwise)
block_of (InBlock.WhileTest p) = logic.while_test p.node p.block (at p.line p.col) (exp_view p.test.now) p.body.now
block_of (InBlock.WhileBody p) = logic.while_body p.node p.block (at p.line p.col) (exp_view p.test.now) p.body.now
block_of (InBlock.RepeatBody p) = logic.repeat_body p.node p.test_at (at p.line p.col) p.body.now (exp_view p.test.now)
block_of (InBlock.RepeatTest p) = logic.repeat_test p.node p.test_at (at p.line p.col) p.body.now (exp_view p.test.now)
block_of (InBlock.ForList p) = logic.for_list p.node p.block (at p.line p.col) p.name.now p.body.now
block_of (InBlock.ForBody p) = logic.for_body p.node p.block p.taken (at p.line p.col) p.name.now p.list p.body.now
block_of (InBlock.Block p) = logic.block_at p.node p.step p.next (stms_view p.rest.now)

abbrev pub entry_of : Entry → Form
entry_of (Entry.Form e) = form_of e
entry_of (Entry.Postfix e) = postfix_of e
entry_of (Entry.Stmt e) = stmt_of e
entry_of (Entry.Block e) = block_of e

-- the forms under way, the outermost first
abbrev pub forms : List Entry → List Form
forms es = map entry_of es

abbrev pub end_of : End → logic.End (List ℕ)
end_of End.Goes = logic.End.goes
end_of (End.Got v) = logic.End.got (view v)
end_of (End.Returned v) = logic.End.returned (view v)
end_of (End.Failed f) = logic.End.failed f

abbrev pub wait_of : Wait → logic.Wait (List ℕ)
wait_of (Wait.One l c n) = logic.one_of (at l c) (known n)
wait_of (Wait.All ns) = logic.all_of (known_of ns)
