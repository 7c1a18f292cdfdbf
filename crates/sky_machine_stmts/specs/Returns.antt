-- `return` with an expression, or without.
use Rattle.std.specs.Prelude.{Option, Some, None}
use Rattle.std.specs.Borrow.{Bor}
use Rattle.sky_base.specs.Tree.{Place, Stm}
use Rattle.sky_base.specs.TreeView.{exp_view}
use Rattle.sky_base.specs.declared.tree.Expr.{Expr}

abbrev pub returned : Option (Bor Expr) → Place → Stm
returned None p = Stm.leave p
returned (Some e) p = Stm.return p (exp_view e.now)
