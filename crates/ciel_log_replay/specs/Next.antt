-- What can come next in a journal: with which entries driven journals go on from it.
use Rattle.std.specs.Prelude.{◌≡◌, List, [], ◌∷◌, ◌++◌}
use Rattle.ciel_journal.specs.Entries.{Entry}
use Rattle.ciel_journal.specs.History.{Plan}
use Rattle.ciel_journal.specs.Job.{Job}
use Rattle.ciel_journal.specs.Journals.{DrivenJournal}

-- it closes a Start, of a worker that isn't lost
abbrev pub IsClose : Entry → Type 0
IsClose (Entry.Start number worker task from) = ⊥
IsClose (Entry.Done number made copied) = Unit {0}
IsClose (Entry.Saved number j mark) = Unit {0}
IsClose (Entry.Missed number name loss) = Unit {0}
IsClose (Entry.Lost worker closes) = ⊥

module _ {D : Type 0} (job : Job D) (p : Plan) where
  -- a driven journal begins with this one and goes on with this entry
  abbrev pub CanBeNext : List Entry → Entry → Type 0
  CanBeNext J e = (rest : List Entry) × DrivenJournal job p (J ++ e ∷ rest)

  -- none goes on with another one
  abbrev pub OnlyNext : List Entry → Entry → Type 0
  OnlyNext J e = (x : Entry) → CanBeNext J x → x ≡ e

  -- each goes on with these, in order, as far as it goes on
  abbrev pub MustGoOn : List Entry → List Entry → Type 0
  MustGoOn J [] = Unit {0}
  MustGoOn J (e ∷ es) = OnlyNext J e × MustGoOn (J ++ e ∷ []) es
