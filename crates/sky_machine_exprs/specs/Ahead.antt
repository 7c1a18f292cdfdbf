-- What is left of a chain that was gone through as far as its operands are literals and names.
use Rattle.std.specs.Prelude.{ℕ, ◌<◌, ◌≤◌, ◌+◌, List, Option}
use Rattle.sky_base.specs.Kept.{Kept}
use Rattle.sky_base.specs.Val.{Val, Vals}
use Rattle.sky_base.specs.View.{view}
use Rattle.sky_base.specs.Tree.{Place, Oper, Exp, Links, nodes}
use Rattle.sky_base.specs.Res.{Fin}
use Rattle.sky_base.specs.Eval.{World, eval_links}
use Rattle.sky_base_law.specs.Opened.{Node, HasLinks}
use Rattle.sky_base_scope.specs.Plain.{Pairs, Vars}
use Rattle.sky_machine_code.specs.Shapes.{operands_view}
use Rattle.sky_machine_entries.specs.Config.{Run}
use Rattle.sky_machine_entries.specs.Entries.{end_of}
use Rattle.sky_machine_entries.specs.Ready.{EndReady}
use Rattle.sky_machine_exprs.specs.AtOnce.{Visited}
use Rattle.sky_machine_exprs.specs.declared.ahead.Ahead.{Ahead}
use Rattle.sky_machine_exprs.specs.declared.ahead.Linked.{Linked}

module _ (w : World (List ℕ)) (body : List ℕ → Pairs → Vals (List ℕ) → Place → Vars → Run) where
  -- what comes of the chain from there
  abbrev pub left_of : Ahead → Vars → Run
  left_of (Ahead.Ended e) st = Fin (end_of e) st
  left_of (Ahead.Stands c) st = eval_links w body (operands_view c.rest) c.node c.step c.next (view c.value) st

  -- what comes of a chain after its next operator with these, as far as that was gone through, with these operators left
  abbrev pub linked : Oper → Place → Exp → Links → (node step next : ℕ) → Val (List ℕ) → Linked → Vars → Run
  linked o p e ls n k m v Linked.Waits st = eval_links w body (Links.link o p e ls) n k m v st
  linked o p e ls n k m v (Linked.Ended x) st = Fin (end_of x) st
  linked o p e ls n k m v (Linked.Made y) st = eval_links w body ls n (k + 1) (m + nodes e) (view y) st

-- the value so far keeps the limits
abbrev pub LinkReady : Linked → Type 0
LinkReady Linked.Waits = Unit {0}
LinkReady (Linked.Ended e) = EndReady e
LinkReady (Linked.Made v) = Kept (view v)

-- the nodes that are still to come stand at their numbers, and values keep the limits
abbrev pub IsReady : (ℕ → Option Node) → Ahead → Type 0
IsReady at (Ahead.Ended e) = EndReady e
IsReady at (Ahead.Stands c) = (c.step ≤ c.next) × HasLinks at (operands_view c.rest) c.next × Kept (view c.value)

-- what was done is a visit at least
abbrev pub HasVisited : (old new : ℕ) → Ahead → Type 0
HasVisited old new (Ahead.Ended e) = Visited old new e
HasVisited old new (Ahead.Stands c) = old < new
