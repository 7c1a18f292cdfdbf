-- What is left of a block that was gone through as long as its statements end at once.
use Rattle.std.specs.Prelude.{ℕ, ◌≤◌, List, Option}
use Rattle.sky_base.specs.Val.{Vals}
use Rattle.sky_base.specs.Tree.{Place}
use Rattle.sky_base.specs.StmtView.{stms_view}
use Rattle.sky_base.specs.Res.{Fin}
use Rattle.sky_base.specs.Eval.{World, eval_stms}
use Rattle.sky_base_law.specs.Opened.{Node, HasStms}
use Rattle.sky_base_scope.specs.Plain.{Pairs, Vars}
use Rattle.sky_machine_entries.specs.Config.{Run}
use Rattle.sky_machine_entries.specs.Entries.{end_of}
use Rattle.sky_machine_entries.specs.Ready.{EndReady}
use Rattle.sky_machine_stmts.specs.declared.at_once.Stmts.{Stmts}

-- what comes of the block from there
abbrev pub left_of : World (List ℕ) → (List ℕ → Pairs → Vals (List ℕ) → Place → Vars → Run) → Stmts → Vars → Run
left_of w body (Stmts.Ended e) st = Fin (end_of e) st
left_of w body (Stmts.Stands b) st = eval_stms w body (stms_view b.rest.now) b.node b.step b.next st

-- the nodes that are still to come stand at their numbers
abbrev pub StandsAt : (ℕ → Option Node) → Stmts → Type 0
StandsAt at (Stmts.Ended e) = EndReady e
StandsAt at (Stmts.Stands b) = (b.step ≤ b.next) × HasStms at (stms_view b.rest.now) b.next
