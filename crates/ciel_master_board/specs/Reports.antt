-- A report by names, with the places that it gives, and what learning its spawned list comes to.
use Rattle.std.specs.Prelude.{◌≡◌, ℕ, List, [], ◌∷◌, ◌++◌, map, Ok, Err}
use Rattle.sky_base.specs.Name.{digested}
use Rattle.sky_base.specs.ObjectView.{desc_view}
use Rattle.sky_base.specs.Val.{Desc}
use Rattle.sky_base.specs.declared.object.Named.{Named}
use Rattle.ciel_journal.specs.Job.{Digest}
use Rattle.ciel_name.specs.Laws.{SpelledDesc}
use Rattle.ciel_journal_job.specs.Report as r
use Rattle.ciel_table.specs.Learning.{learn_answer, learned}
use Rattle.ciel_table.specs.Seen.{TableSeen}
use Rattle.ciel_table.specs.declared.refusal.Learn.{Learn}

-- an output of the task: its name, where its object is, and the mark of that
pub record Output (P : Type 0) : Type 0 where
  pub name : Digest
  pub place : P
  pub mark : Digest

-- what was copied to the report's worker, and where it is there
pub record Copy (P : Type 0) : Type 0 where
  pub name : Digest
  pub place : P

-- the stack of a task at a wait: where it is, the number of the wait, the mark, what is waited for and what the stack holds
pub record Stack (P : Type 0) : Type 0 where
  pub place : P
  pub j : ℕ
  pub mark : Digest
  pub refs : List Digest
  pub holds : List Digest

-- How a run ended. The root task's end has no outputs
pub data End (P : Type 0) : Type 0 where
  made : List (Output P) → List (Copy P) → End P
  saved : Stack P → End P
  missing : (name : Digest) → (loss : ℕ) → End P

module _ {P : Type 0} where
  abbrev pub made_names : List (Output P) → List Digest
  made_names [] = []
  made_names (m ∷ ms) = m.name ∷ made_names ms

  -- as the journal writes them
  abbrev pub made_keys : List (Output P) → List (Digest × Digest)
  made_keys [] = []
  made_keys (m ∷ ms) = (m.name, m.mark) ∷ made_keys ms

  abbrev pub copy_names : List (Copy P) → List Digest
  copy_names [] = []
  copy_names (c ∷ cs) = c.name ∷ copy_names cs

  -- what it tells by names alone
  abbrev pub end_view : End P → r.End
  end_view (made ms cs) = r.made (made_keys ms) (copy_names cs)
  end_view (saved s) = r.stopped s.j s.mark s.refs s.holds
  end_view (missing name loss) = r.missing name loss

abbrev pub named_view : Named → Desc (List ℕ)
named_view n = desc_view n.desc

abbrev pub report_view : {P : Type 0} → ℕ → List Named → End P → r.Report (Desc (List ℕ))
report_view k spawned end = record { number = k; spawned = map named_view spawned; end = end_view end }

-- ---- learning

module _ {P : Type 0} (digest : List ℕ → List ℕ) where
  -- the table after these, in order
  abbrev pub learned_all : List Named → TableSeen P → TableSeen P
  learned_all [] t = t
  learned_all (n ∷ ns) t = learned_all ns (learned digest n t)

  -- each of them is learned, one after another
  abbrev pub AllLearned : List Named → TableSeen P → Type 0
  AllLearned [] t = Unit {0}
  AllLearned (n ∷ ns) t = ((id : ℕ) × (learn_answer n t ≡ Ok id)) × AllLearned ns (learned digest n t)

  -- this one is the first that is refused, and why
  pub record FirstRefused (spawned : List Named) (t : TableSeen P) (given : Named) (why : Learn) : Type 0 where
    pub before : List Named
    pub after : List Named
    pub split : spawned ≡ before ++ given ∷ after
    pub learned : AllLearned before t
    pub refused : learn_answer given (learned_all before t) ≡ Err why

-- it has the name that its description has by this digest, and its canonical bytes spell it
pub record IsNamed (digest : List ℕ → List ℕ) (n : Named) : Type 0 where
  pub name : n.name ≡ digested digest (named_view n)
  pub spelled : SpelledDesc (named_view n)
