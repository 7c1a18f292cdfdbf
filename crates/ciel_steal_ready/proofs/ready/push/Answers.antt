use Rattle.ciel_steal_ready.proofs.ready.push.Goals as goal

pub push_as-requires-clause-rule : goal.push_as-requires-clause-rule
push_as-requires-clause-rule g c = g.met.P.Keeps.pushes _ _ _
