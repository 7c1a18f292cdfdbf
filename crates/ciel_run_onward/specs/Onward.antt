-- Where a run goes on from: the orders that workers have, and the end of the log, where it has one.
use Rattle.std.specs.Prelude.{ℕ, List, Option, Some, None, true}
use Rattle.sky_base.specs.KitView.{Gives}
use Rattle.ciel_log_law.specs.Ended.{Ended}
use Rattle.ciel_log_law.specs.Kept.{Kept}
use Rattle.ciel_log_law.specs.RunEnd.{RunEnd}
use Rattle.ciel_log_law.specs.Seen.{MasterSeen}
use Rattle.ciel_log_law.specs.Working.{Working}
use Rattle.ciel_task_order.specs.declared.order.Order.{Order}
use Rattle.ciel_task_order.specs.declared.shop.Shop.{Shop}

-- for each kit what it gives, and for each namer its digest: of a master of this shop, the orders that workers have, and the end of the log
module _ {K N : Type 0} (gives : K → Gives) (digest : N → List ℕ → List ℕ) (shop : Shop K N) (m : MasterSeen N) (out : List (Option Order)) where
  -- where the log has no end the master is at work with them
  abbrev pub WorksOn : Option RunEnd → Type 0
  WorksOn None = Working gives digest shop true m out
  WorksOn (Some end) = Unit {0}

  -- where it has none they follow a history of the job; and an end has its cause
  abbrev pub Stood : Option RunEnd → (draws : ℕ) → Type 0
  Stood None draws = Kept gives digest shop true m out draws
  Stood (Some end) draws = Ended gives digest shop m.board.plan m.board.journal end
