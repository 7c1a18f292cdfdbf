-- How runs end, said of their journals; and the jobs whose runs end in an answer.
use Rattle.std.specs.Prelude.{◌≡◌, ◌≢◌, ℕ, ◌≤◌, ◌<◌, List, [], length}
use Rattle.sky_base.specs.declared.object.Named.{Named}
use Rattle.sky_base.specs.declared.object.TaskId.{TaskId}
use Rattle.ciel_journal.specs.Entries.{Entry, journal_of}
use Rattle.ciel_journal.specs.History.{Event, Plan, learned, standing}
use Rattle.ciel_journal.specs.Job.{Digest, Ends, In, Once, show}
use Rattle.ciel_journal.specs.Journals.{CircleOf, DrivenJournal, WorkerLost}
use Rattle.ciel_journal.specs.Lawful.{NoClash}
use Rattle.ciel_journal.specs.Turns.{Driven}
use Rattle.ciel_table.specs.declared.refusal.Learn.{Learn}
use Rattle.ciel_master_board.specs.Board.{Board, Order}
use Rattle.ciel_master_board.specs.Driving.{RestsNow, Runs}
use Rattle.ciel_master_board.specs.Laws.{ClashIs, OverflowIs}
use Rattle.ciel_master_board.specs.Moves.{accepted}
use Rattle.ciel_master_board.specs.Reports.{AllLearned, Copy, End, FirstRefused, made}
use Rattle.ciel_master_board.specs.Setting.{IsMade, IsSetting, Setting}
use Rattle.ciel_master_board.specs.Handed.{IsLost}
use Rattle.ciel_master_board.specs.TurnsLaws.{IsOut, OfRun, Promised, RunEnded}

module _ {D P B : Type 0} (s : Setting D P B) where
  -- A driven history has this journal. These are canonical bytes that differ and have one digest: the first of a description
  -- that is known, or that an open Start has made since, and the second of one that it makes next
  pub record ClashOf (p : Plan) (J : List Entry) (kept given : List ℕ) : Type 0 where
    pub history : List (Event D)
    pub driven : Driven s.job p history
    pub journal : journal_of s.job history ≡ J
    pub clash : ClashIs s history kept given
    pub differ : kept ≢ given
    pub digest : s.digest kept ≡ s.digest given

  -- A driven history has this journal. As many distinct descriptions as there is room for are known, or an open Start has made
  -- them since, and what it makes next isn't among them
  pub record OverflowOf (p : Plan) (J : List Entry) (held : ℕ) (given : Named) : Type 0 where
    pub history : List (Event D)
    pub driven : Driven s.job p history
    pub journal : journal_of s.job history ≡ J
    pub overflow : OverflowIs s history held given
    pub full : held ≡ p.limit
    pub once : Once [] (learned s.job (standing s.job history).book overflow.overflows.before)

  -- the job means an answer, and its needed tasks make no more descriptions than so many, the main call among them, no two of which
  -- share a name
  pub record Modest (limit : ℕ) : Type 0 where
    pub ends : Ends s.job show
    pub all : List D
    pub made : (d : D) → IsMade s d → In d all
    pub few : length all ≤ limit
    pub apart : NoClash s.job all

-- each worker of the plan has a Lost
abbrev pub AllAreLost : Plan → List Entry → Type 0
AllAreLost p J = (w : ℕ) → w < p.workers → WorkerLost J w

module _ (D P B : Type 0) where
  -- ---- ends

  -- the end of the root task
  abbrev pub ShownEnds : Type 0
  ShownEnds =
      OfRun D P B (λ s h b. RestsNow b → (x : Order P) → IsOut s h b x → x.out.task ≡ TaskId.Show
      → (spawned : List Named) (cs : List (Copy P)) → Promised s h b x spawned (made [] cs)
      → AllLearned s.digest spawned b.table → RunEnded s h x spawned (made [] cs) (accepted s.digest s.at b x.out spawned (made [] cs)))

  -- a description that is refused for its name
  abbrev pub ClashEnds : Type 0
  ClashEnds =
      OfRun D P B (λ s h b. (x : Order P) → IsOut s h b x → (spawned : List Named) (end : End P) → Promised s h b x spawned end
      → (n : Named) (kept given : List ℕ) → FirstRefused s.digest spawned b.table n (Learn.Clash kept given)
      → ClashOf s b.plan b.journal kept given)

  -- and one for which there is no room
  abbrev pub OverflowEnds : Type 0
  OverflowEnds =
      OfRun D P B (λ s h b. (x : Order P) → IsOut s h b x → (spawned : List Named) (end : End P) → Promised s h b x spawned end
      → (n : Named) (held : ℕ) → FirstRefused s.digest spawned b.table n (Learn.Full held)
      → OverflowOf s b.plan b.journal held n)

  -- where each worker is lost
  abbrev pub LostEnds : Type 0
  LostEnds =
      (s : Setting D P B) → IsSetting s → (h : List (Event D)) (b : Board P) → Runs s h b
      → ((w : ℕ) → w < b.plan.workers → IsLost b.table.gone w) → AllAreLost b.plan b.journal

  -- the journal of a run is driven
  abbrev pub JournalIsDriven : Type 0
  JournalIsDriven =
      (s : Setting D P B) (h : List (Event D)) (b : Board P) → Runs s h b → DrivenJournal s.job b.plan b.journal

  -- ---- jobs whose runs end in an answer

  -- said of each job that means an answer and makes few descriptions of different names
  abbrev OfModest : ((s : Setting D P B) → Plan → List Entry → Type 0) → Type 0
  OfModest Q = (s : Setting D P B) → IsSetting s → (p : Plan) (J : List Entry) → Modest s p.limit → Q s p J

  -- no run of it ends otherwise, but with the loss of each worker
  abbrev pub NoneClashes : Type 0
  NoneClashes = OfModest (λ s p J. (kept given : List ℕ) → ClashOf s p J kept given → ⊥)

  abbrev pub NoneOverflows : Type 0
  NoneOverflows = OfModest (λ s p J. (held : ℕ) (given : Named) → OverflowOf s p J held given → ⊥)

  abbrev pub NoneCircles : Type 0
  NoneCircles = OfModest (λ s p J. (names : List Digest) → CircleOf s.job p J names → ⊥)
