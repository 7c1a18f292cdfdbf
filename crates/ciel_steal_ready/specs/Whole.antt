-- All queues and all seats together, at a moment at which no call is under way.
use Rattle.std.specs.Prelude.{◌≡◌, ℕ, ◌+◌, List, [], ◌∷◌, map, ⊤}
use Rattle.ciel_steal_ready.specs.declared.rule.Hand.{Hand}
use Rattle.ciel_steal_ready.specs.Balance.{weigh, total, Balanced}
use Rattle.ciel_steal_ready.specs.Found.{EndsSeen}
use Rattle.ciel_steal_ready.specs.Seats.{Tallies}

-- a seat with what it has taken and knows, and its own queue with what it holds and what the passes of the other seats know of it
pub record Bench (T : Type 0) : Type 0 where
  pub taken : List T
  pub ends : EndsSeen (Hand T)
  pub items : List T
  pub thieves : List (Hand T)

module _ {T : Type 0} where
  abbrev pub sum_of : (Bench T → ℕ) → List (Bench T) → ℕ
  sum_of f [] = 0
  sum_of f (b ∷ bs) = f b + sum_of f bs

  -- what its calls keep: the rule of its queue, and what it has taken off the queues
  pub record BenchKept (b : Bench T) : Type 0 where
    pub rule : Balanced b.items (b.ends.own ∷ b.thieves)
    pub tallies : Tallies b.ends b.taken

  -- the passes of the other seats at all queues are those that the seats have
  abbrev pub SamePasses : List (Bench T) → Type 0
  SamePasses bs = (f : Hand T → ℕ) → sum_of (λ b. total f b.thieves) bs ≡ sum_of (λ b. total f b.ends.others) bs

  -- what was put is what all seats have taken, with what the queues hold, each job as often
  abbrev pub IsKept : List T → List T → List (Bench T) → Type 0
  IsKept put items bs = (h : T → ℕ) → weigh h put ≡ sum_of (λ b. weigh h b.taken) bs + (weigh h items + sum_of (λ b. weigh h b.items) bs)

  abbrev pub EachKept : List (Bench T) → Type 0
  EachKept [] = ⊤
  EachKept (b ∷ bs) = BenchKept b × EachKept bs

-- so it is at each such moment
abbrev pub JobsAreKept : (T : Type 0) → Type 0
JobsAreKept T =
    (master : Hand T) (items : List T) (bs : List (Bench T)) → master.taken ≡ [] → Balanced items (master ∷ map (λ b. b.ends.shared) bs) → EachKept bs
    → SamePasses bs → IsKept master.put items bs
