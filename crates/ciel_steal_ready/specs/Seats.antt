-- What a seat has taken, and what it knows.
use Rattle.std.specs.Prelude.{◌≡◌, ℕ, ◌+◌, List, [], All}
use Rattle.ciel_steal_ready.specs.declared.rule.Hand.{Hand}
use Rattle.ciel_steal_ready.specs.Balance.{weigh, total}
use Rattle.ciel_steal_ready.specs.Found.{EndsSeen}

pub record SeatSeen (T : Type 0) : Type 0 where
  pub taken : List T
  pub knows : EndsSeen (Hand T)

-- what a seat has taken, with what it laid into its own queue, is what it has taken off all queues. It puts nothing elsewhere
pub record Tallies {T : Type 0} (e : EndsSeen (Hand T)) (taken : List T) : Type 0 where
  pub adds : (h : T → ℕ)
      → weigh h taken + weigh h e.own.put ≡ weigh h e.own.taken + weigh h e.shared.taken + total (λ v. weigh h v.taken) e.others
  pub shared : e.shared.put ≡ []
  pub others : All (λ v. v.put ≡ []) e.others
