-- All are told where those that are left are.
use Rattle.std.proofs.Common.{drop}
use Rattle.sky_base.specs.Val.{known}
use Rattle.sky_base_law.specs.Tasks.{Each}
use Rattle.ciel_name.specs.Spelled.{IsName}
use Rattle.ciel_task_order.specs.declared.block.Held.{Held}
use Rattle.ciel_log.proofs.reading.read_names.Given as goal

abbrev pub invariant-loop-held : goal.invariant-loop-held
invariant-loop-held l = Each (λ (h : Held). IsName (known h.name)) (drop l.held-index l.copies) → Each (λ (h : Held). IsName (known h.name)) l.copies
