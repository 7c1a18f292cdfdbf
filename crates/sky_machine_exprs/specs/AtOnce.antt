-- Expressions that end at once.
use Rattle.std.specs.Prelude.{ℕ, ◌<◌, ◌≤◌}
use Rattle.sky_base.specs.Tree.{Exp, Links}
use Rattle.sky_base.specs.TreeView.{at, lit_view}
use Rattle.sky_machine_code.specs.Shapes.{op_view}
use Rattle.sky_machine_entries.specs.declared.control.End.{End}
use Rattle.sky_machine_exprs.specs.declared.at_once.Leaf.{Leaf}
use Rattle.sky_machine_exprs.specs.declared.at_once.Simple.{Simple}

abbrev pub leaf_view : Leaf → Exp
leaf_view (Leaf.Literal v l c) = Exp.literal (lit_view v.now) (at l c)
leaf_view (Leaf.Name x l c) = Exp.name x.now (at l c)

abbrev pub simple_view : Simple → Exp
simple_view (Simple.Leaf a) = leaf_view a
simple_view (Simple.Two a o l c b) = Exp.chain (leaf_view a) (Links.link (op_view o) (at l c) (leaf_view b) Links.no_links)

-- An expression that ended visited a node; a fault may come with no visit. First the number of the visits before.
abbrev pub Visited : (old new : ℕ) → End → Type 0
Visited old new End.Goes = old < new
Visited old new (End.Got v) = old < new
Visited old new (End.Returned v) = old < new
Visited old new (End.Failed f) = old ≤ new
