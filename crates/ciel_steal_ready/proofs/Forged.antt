-- That a queue was empty once, as far as its rule tells, can be said of whatever a pass knows: the rest of the views can be made up.
use Rattle.std.proofs.Common.{◌≡◌, ℕ, ◌+◌, List, [], ◌∷◌, refl, arith}
use Rattle.ciel_steal_ready.specs.declared.rule.Hand.{Hand}
use Rattle.ciel_steal_ready.specs.Balance.{hand, weigh, WasEmpty}

pub made_up : {T : Type 0} (v : Hand T) → WasEmpty v
made_up v = (0, v ∷ hand v.taken v.put ∷ [], (λ h. omega arith), refl)
