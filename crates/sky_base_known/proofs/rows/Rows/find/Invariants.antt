use Rattle.std.proofs.Common.{suc}
use Rattle.std.specs.Option.{option_map_or}
use Rattle.sky_base.specs.ObjectView.{desc_view}
use Rattle.sky_base_known.specs.HeldView.{rows_of}
use Rattle.sky_base_known.proofs.Found.{Leads}
use Rattle.sky_base_known.proofs.rows.Rows.find.Given as goal

abbrev pub invariant-loop-next : goal.invariant-loop-next
invariant-loop-next l = Leads (rows_of l.self-inside.items.items) (desc_view l.desc) l.next

abbrev pub decreases-loop-next : goal.decreases-loop-next
decreases-loop-next l = option_map_or suc l.next 0
