use Rattle.ciel_steal_ready.proofs.Finding.{finds_few}
use Rattle.ciel_steal_ready.proofs.ends.steal.Goals as goal

pub steal_as-requires-clause-takes : goal.steal_as-requires-clause-takes
steal_as-requires-clause-takes g c = c.requires.takes _ _ 1

pub steal_as-requires-clause-empty : goal.steal_as-requires-clause-empty
steal_as-requires-clause-empty g c = finds_few g.P.Protocol.holds _ _ _ _ c.requires.fifo (c.requires.finds _ _)
