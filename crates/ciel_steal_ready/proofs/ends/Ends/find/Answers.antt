use Rattle.ciel_steal_ready.proofs.ends.Ends.find.Goals as goal

pub pop_as-requires-clause-fifo : goal.pop_as-requires-clause-fifo
pop_as-requires-clause-fifo g c flavor = c.requires.takes _ _ 1
