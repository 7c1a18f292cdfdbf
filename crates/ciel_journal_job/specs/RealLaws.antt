-- What is said of the real job: it is a job, and its functions are the meaning's.
use Rattle.std.specs.Prelude.{◌≡◌, ℕ, ◌-◌, List, Some, ◌⊎◌, ◌↔◌}
use Rattle.sky_base.specs.Val as v
use Rattle.sky_base.specs.Needed as n
use Rattle.sky_base.specs.See as s
use Rattle.sky_base_law.specs.Tasks as t
use Rattle.sky_base_law.specs.Sound.{SoundReads}
use Rattle.ciel_journal.specs.Job.{Digest, Held, Job, IsJob, WaitOf, Ends, Never, Needed, ObjectOf, StateOf, made_before, made_in, after_wait}
use Rattle.ciel_journal.specs.Work.{Work}
use Rattle.ciel_journal.specs.Known.{Knows}
use Rattle.ciel_journal_job.specs.Inner.{real_inner}
use Rattle.sky_base_law.specs.Refers.{PlainReads}
use Rattle.ciel_journal_job.specs.Real.{forth, real_job}

module _ (job : s.Job) (around : s.Around) (name : s.Desc → Digest) (mark : s.Obj → Digest) (frozen : n.State → Digest) where
  abbrev pub the : Job s.Desc
  the = real_job job around name mark frozen

  -- the root task, or a task that makes something
  abbrev pub IsTask : n.Task → Type 0
  IsTask u = (u ≡ n.Task.show) ⊎ ((d : s.Desc) × (t.maker d ≡ Some u))

  -- at each of its waits a task waits for what it does in the meaning
  abbrev pub WaitsAlike : Type 0
  WaitsAlike =
      (u : n.Task) → IsTask u → (j : ℕ) (ds : List s.Desc) → WaitOf the (forth u) j ds ↔ n.WaitOf job around u j ds

  -- a task makes what it does in the meaning, in that order
  abbrev pub OutputsAlike : Type 0
  OutputsAlike = (u : n.Task) → the.outputs (forth u) ≡ t.outputs_of u

  -- a task ends where it does in the meaning
  abbrev pub EndsAlike : Type 0
  EndsAlike = (u : n.Task) → Ends the (forth u) ↔ t.Ends job around u

  -- the job has no answer where it means none
  abbrev pub NeverAlike : Type 0
  NeverAlike = Never the ↔ s.Never job around

  -- the root task ends where the job means an answer
  abbrev pub AnswerAlike : Type 0
  AnswerAlike = Ends the (forth n.Task.show) ↔ ((a : s.Answered) × s.Means job around a)

  -- an object is seen where it is in the meaning, with its mark
  abbrev pub ObjectsAlike : Type 0
  ObjectsAlike =
      (d : s.Desc) (m : Digest) → ObjectOf the d m ↔ ((o : s.Obj) × ((k : ℕ) × (s.see job around k d ≡ Some o)) × (m ≡ mark o))

  -- the root task and calls have states
  abbrev pub HasStates : n.Task → Type 0
  HasStates n.Task.show = Unit {0}
  HasStates (n.Task.of (v.call f c vs)) = Unit {0}
  HasStates (n.Task.of _) = ⊥

  -- a task that has states is at a wait in the one in which it is in the meaning: with what that holds, and its mark
  abbrev pub StatesAlike : Type 0
  StatesAlike =
      (u : n.Task) → HasStates u → (j : ℕ) (a : Held s.Desc)
      → StateOf the (forth u) j a ↔ ((x : n.State) × n.StandsAt job around u j x × (a ≡ record { names = t.held x; mark = frozen x }))

  -- what is made between two waits, and after one
  pub record MadeAlike : Type 0 where
    pub between : (k : ℕ) (u : n.Task) (j i : ℕ) → made_before (i - j) (after_wait j (the.acts k (forth u))) ≡ t.made_between job around k u j i
    pub after : (k : ℕ) (u : n.Task) (j : ℕ) → made_in (after_wait j (the.acts k (forth u))) ≡ t.made_after job around k u j

  -- a task is needed where it is in the meaning
  abbrev pub NeededAlike : Type 0
  NeededAlike = SoundReads job.script around → (u : n.Task) → Needed the (forth u) ↔ n.Needed job around u

  -- where what is read refers to nothing, the job tells where all comes from that its tasks wait for and hold
  abbrev pub AllIsTold : Type 0
  AllIsTold = PlainReads around → Knows the (real_inner job around)

  -- a job that means an answer has a finite amount of work
  abbrev pub WorkIsFinite : Type 0
  WorkIsFinite = SoundReads job.script around → (a : s.Answered) → s.Means job around a → (m : ℕ) × Work the m

-- this holds of the job that a script means, whatever names and marks are
abbrev pub OfReal : ((job : s.Job) (around : s.Around) (name : s.Desc → Digest) (mark : s.Obj → Digest) (frozen : n.State → Digest) → Type 0) → Type 0
OfReal P =
    (job : s.Job) (around : s.Around) (name : s.Desc → Digest) (mark : s.Obj → Digest) (frozen : n.State → Digest) → P job around name mark frozen

-- it has the laws of a job
abbrev pub RealIsJob : Type 0
RealIsJob = OfReal (λ job around name mark frozen. IsJob (real_job job around name mark frozen))
