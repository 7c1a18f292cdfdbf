use Rattle.std.proofs.Common.{ap, sym, subst}
use Rattle.std.specs.BTreeMap.{is_at}
use Rattle.std.specs.Map.{lookup}
use Rattle.sky_base.specs.NameOrder.{name_cmp}
use Rattle.ciel_table.specs.Inside.{Stands, seen_of}
use Rattle.ciel_table.proofs.Keeps.{empty_stands}
use Rattle.ciel_table.proofs.table.Table.open.Goals as goal

pub invariant_of-result : goal.invariant_of-result
invariant_of-result g c =
    subst (λ s. Stands g.P.At.at s c.new-2.result c.new-5.result)
    (λ i. seen_of c.args.limit (sym c.new.ensures.items i) (sym c.new-3.ensures i) (sym c.new-4.ensures.items i) (sym c.new-6.ensures i))
    (empty_stands g.P.At.at c.args.limit c.new-2.result c.new-5.result (λ n. ap (lookup (is_at (name_cmp n))) c.new-2.ensures.empty)
    (λ n. ap (lookup (is_at (name_cmp n))) c.new-5.ensures.empty))
