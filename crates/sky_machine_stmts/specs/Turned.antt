-- What is left of a loop whose turns were gone through as long as they end at once.
use Rattle.std.specs.Prelude.{ℕ, ◌<◌, ◌≤◌, List, Option}
use Rattle.sky_base.specs.Val.{Vals}
use Rattle.sky_base.specs.Tree.{Place}
use Rattle.sky_base.specs.TreeView.{at, exp_view}
use Rattle.sky_base.specs.StmtView.{stms_view}
use Rattle.sky_base.specs.Res.{Fin, while_body, then_do}
use Rattle.sky_base.specs.Eval.{World, eval_stms, go_while, after}
use Rattle.sky_base_law.specs.Opened.{Node}
use Rattle.sky_base_scope.specs.Plain.{Pairs, Vars}
use Rattle.sky_machine_entries.specs.Config.{Run}
use Rattle.sky_machine_entries.specs.Entries.{Form, end_of}
use Rattle.sky_machine_entries.specs.declared.entry.While.{While}
use Rattle.sky_machine_stmts.specs.AtOnce.{StandsAt}
use Rattle.sky_machine_stmts.specs.declared.at_once.Stmts.{Stmts}
use Rattle.sky_machine_stmts.specs.declared.rounds.Turned.{Turned}

-- the loop while its block runs
abbrev pub running : While → Form
running p = while_body p.node p.block (at p.line p.col) (exp_view p.test.now) p.body.now

module _ (w : World (List ℕ)) (body : List ℕ → Pairs → Vals (List ℕ) → Place → Vars → Run) (p : While) where
  -- the loop has ended so, or its block goes on from there
  abbrev pub stopped : Stmts → Vars → Run
  stopped (Stmts.Ended e) st = Fin (end_of e) st
  stopped (Stmts.Stands b) st = then_do (eval_stms w body (stms_view b.rest.now) b.node b.step b.next st) (running p) (after w body (running p))

  -- after a turn: the loop from its test, or what it stopped at
  abbrev pub turned : Turned → Vars → Run
  turned Turned.Again st = go_while w body p.node p.block (at p.line p.col) (exp_view p.test.now) p.body.now st
  turned (Turned.Stops s) st = stopped s st

-- a block that stands comes after the test, which is a visit at least; an end may be a fault with none
abbrev pub HasStopped : (old new : ℕ) → Stmts → Type 0
HasStopped old new (Stmts.Ended e) = old ≤ new
HasStopped old new (Stmts.Stands b) = old < new

abbrev pub HasTurned : (old new : ℕ) → Turned → Type 0
HasTurned old new Turned.Again = old < new
HasTurned old new (Turned.Stops s) = HasStopped old new s

abbrev pub TurnStandsAt : (ℕ → Option Node) → Turned → Type 0
TurnStandsAt at Turned.Again = Unit {0}
TurnStandsAt at (Turned.Stops s) = StandsAt at s
