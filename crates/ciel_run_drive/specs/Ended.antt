-- How a run ends, and why.
use Rattle.std.specs.Prelude.{◌≡◌, ℕ, ◌<◌, List, Some, slice_get}
use Rattle.std.specs.List.{IsDistinct}
use Rattle.sky_base.specs.JobView.{job_view}
use Rattle.sky_base.specs.KitView.{Gives}
use Rattle.sky_base.specs.See as s
use Rattle.sky_base.specs.Val.{same_text}
use Rattle.sky_base.specs.declared.object.Named.{Named}
use Rattle.ciel_journal.specs.Entries.{Entry, journal_of}
use Rattle.ciel_journal.specs.History.{Event, Plan}
use Rattle.ciel_journal.specs.Journals.{CircleOf, DrivenJournal}
use Rattle.ciel_journal.specs.Laws.{ShowDone}
use Rattle.ciel_journal.specs.Turns.{Driven}
use Rattle.ciel_json.specs.Around.{json_around}
use Rattle.ciel_master_law.specs.Ends.{IsModest, IsOrderly}
use Rattle.ciel_master.specs.declared.stop.RunEnd.{RunEnd}
use Rattle.ciel_task_order.specs.Performs.{the_shop}
use Rattle.ciel_task_order.specs.declared.shop.Shop.{Shop}
use Rattle.ciel_master_board.specs.Ends.{AllAreLost, ClashOf, OverflowOf}

module _ (digest : List ℕ → List ℕ) (job : s.Job) (gives : Gives) (p : Plan) (J : List Entry) where
  -- a driven history has this journal, and ends with the Done of the root task
  pub record Shows : Type 0 where
    pub history : List (Event s.Desc)
    pub driven : Driven (the_shop digest job gives).job p history
    pub journal : journal_of (the_shop digest job gives).job history ≡ J
    pub done : ShowDone (the_shop digest job gives).job history

  -- why it ends so, but for want of memory
  abbrev pub Because : RunEnd → Type 0
  Because (RunEnd.Answer text) = s.Means job (json_around gives) (s.Answered.bytes text) × Shows
  Because (RunEnd.Fault fault) = s.Means job (json_around gives) (s.Answered.fault fault) × Shows
  Because (RunEnd.Endless names) =
      CircleOf (the_shop digest job gives).job p J names × s.Never job (json_around gives) × IsDistinct same_text names
  Because (RunEnd.TooMany held given) = (n : Named) × (given ≡ n.desc) × OverflowOf (the_shop digest job gives) p J held n
  Because RunEnd.AllLost = AllAreLost p J
  Because (RunEnd.NameClash kept given) = ClashOf (the_shop digest job gives) p J kept given
  Because RunEnd.Memory = Unit {0}

  -- the journal is that of a driven history, whatever the end is
  pub record EndsSo (end : RunEnd) : Type 0 where
    pub driven : DrivenJournal (the_shop digest job gives).job p J
    pub cause : Because end

-- of a shop, for each kit what it gives, and for each namer its digest
abbrev pub Ended : {K N : Type 0} → (K → Gives) → (N → List ℕ → List ℕ) → Shop K N → Plan → List Entry → RunEnd → Type 0
Ended gives digest shop p J end = EndsSo (digest shop.namer) (job_view shop.job) (gives shop.kit) p J end

-- ---- runs that come to their answer

-- the run came to an answer or a fault, or there was no memory
abbrev pub HasAnswer : RunEnd → Type 0
HasAnswer (RunEnd.Answer text) = Unit {0}
HasAnswer (RunEnd.Fault fault) = Unit {0}
HasAnswer (RunEnd.Endless names) = ⊥
HasAnswer (RunEnd.TooMany held given) = ⊥
HasAnswer RunEnd.AllLost = ⊥
HasAnswer (RunEnd.NameClash kept given) = ⊥
HasAnswer RunEnd.Memory = Unit {0}

-- some worker is in no loss of the plan
abbrev pub SomeStays : Plan → Type 0
SomeStays p = (w : ℕ) × (w < p.workers) × ((loss count : ℕ) → slice_get p.losses loss ≡ Some (count, w) → ⊥)

-- where the job means an answer, its needed tasks make no more descriptions than there is room for, no two of which share a name, and
-- some worker is in no loss, each run of it comes to its answer
abbrev pub ModestRunsAnswer : Type 0
ModestRunsAnswer =
    (digest : List ℕ → List ℕ) (job : s.Job) (gives : Gives) → IsOrderly digest job gives → (p : Plan)
    → IsModest digest job gives p.limit → SomeStays p → (J : List Entry) (end : RunEnd) → EndsSo digest job gives p J end → HasAnswer end
