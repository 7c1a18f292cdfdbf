use Rattle.std.proofs.Common.{refl, ◌++◌, ◌∷◌, []}
use Rattle.atomic_table.specs.Table.{keeps}
use Rattle.ciel_steal_ready.proofs.log.Log.add.Goals as goal

pub compare_exchange_with-requires : goal.compare_exchange_with-requires
compare_exchange_with-requires g c =
    (c.self.invariant.0, c.self.invariant.1, λ s h len at small. (c.self.inside.seat.me.0 ++ c.args.item.now ∷ [], keeps, tt, tt, refl))
