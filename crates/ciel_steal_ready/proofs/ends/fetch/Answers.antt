use Rattle.ciel_steal_ready.proofs.ends.fetch.Goals as goal

pub steal_batch_and_pop_as-requires-clause-takes : goal.steal_batch_and_pop_as-requires-clause-takes
steal_batch_and_pop_as-requires-clause-takes g c = (c.requires.takes _ _ 8, c.requires.admits, c.requires.finds _ _)
