-- What is lawful and driven of the small histories, and what isn't.
use Rattle.std.specs.Prelude.{List, [], ◌∷◌, ◌++◌}
use Rattle.ciel_journal.specs.Job.{Job}
use Rattle.ciel_journal.specs.History.{Event, Plan}
use Rattle.ciel_journal.specs.Lawful.{Lawful}
use Rattle.ciel_journal.specs.Turns.{Driven}
use Rattle.ciel_journal.specs.Fixed.{Piece, squares}

-- before is lawful for this plan, and not with what the whole adds
pub record BreaksLawOf (job : Job Piece) (p : Plan) (before whole : List (Event Piece)) : Type 0 where
  pub lawful : Lawful job p before
  pub broken : Lawful job p whole → ⊥

abbrev pub BreaksLaw : Plan → List (Event Piece) → List (Event Piece) → Type 0
BreaksLaw p before whole = BreaksLawOf squares p before whole

-- before is driven with the one event; with the other one in its place it is lawful too, but not in its turns
pub record BreaksTurns (job : Job Piece) (p : Plan) (before : List (Event Piece)) (turn other : Event Piece) : Type 0 where
  pub driven : Driven job p (before ++ turn ∷ [])
  pub lawful : Lawful job p (before ++ other ∷ [])
  pub broken : Driven job p (before ++ other ∷ []) → ⊥
