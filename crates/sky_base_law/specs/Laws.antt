-- The laws of what jobs mean, each said of every job.
use Rattle.std.specs.Prelude.{◌≡◌, ◌≢◌, ℕ, suc, ◌≤◌, List, [], ◌++◌, true, Option, Some, None}
use Rattle.sky_base.specs.Res.{Object, Res, others}
use Rattle.sky_base.specs.Read.{Act, Halt, refs_of, see_all, outcome, halt, segment, segment_from, first_halt, rest_of}
use Rattle.sky_base.specs.See.{Val, Vals, Pairs, Desc, Obj, Job, Around, Answered, Means, Never, see, wave, job_answer, run_of, world_of}
use Rattle.sky_base.specs.Needed.{Task, State, WaitOf, StandsAt, Needed, Work}
use Rattle.sky_base_law.specs.Tasks.{Apart, Batched, In, Each, Chain, HeldAt, acts_of, ended, made_in}
use Rattle.sky_base_law.specs.Sound.{Sound, SoundDesc, SoundObject, SoundReads, SoundState, SoundTask}
use Rattle.sky_base_law.specs.Typed.{Typed, TypedDesc, TypedJob, TypedObject, TypedState, TypedTask}

-- ---- one answer

-- a job means at most one answer
abbrev pub OneAnswer : Type 0
OneAnswer = (job : Job) (around : Around) (a b : Answered) → Means job around a → Means job around b → a ≡ b

-- at each of its waits a task waits for one list of descriptions
abbrev pub OneWait : Type 0
OneWait =
    (job : Job) (around : Around) (t : Task) (j : ℕ) (ds es : List Desc) → WaitOf job around t j ds → WaitOf job around t j es → ds ≡ es

-- at each of its waits a task is in one state
abbrev pub OneState : Type 0
OneState =
    (job : Job) (around : Around) (t : Task) (j : ℕ) (s u : State) → StandsAt job around t j s → StandsAt job around t j u → s ≡ u

-- at each of its waits a task holds one list of descriptions
abbrev pub OneHeld : Type 0
OneHeld =
    (job : Job) (around : Around) (t : Task) (j : ℕ) (ds es : List Desc) → HeldAt job around t j ds → HeldAt job around t j es → ds ≡ es

-- ---- more fuel

-- what is seen of a description is seen with more fuel too
abbrev pub SeenStays : Type 0
SeenStays =
    (job : Job) (around : Around) (n m : ℕ) (d : Desc) (o : Obj) → n ≤ m → see job around n d ≡ Some o → see job around m d ≡ Some o

-- an answer is the answer with more fuel too
abbrev pub AnswerStays : Type 0
AnswerStays =
    (job : Job) (around : Around) (n m : ℕ) (a : Answered) → n ≤ m → job_answer job around n ≡ a → a ≢ Answered.not_yet → job_answer job around m ≡ a

-- with more fuel a task makes and waits for what it did, and then perhaps for more
abbrev pub ActsGrow : Type 0
ActsGrow =
    (job : Job) (around : Around) (n m : ℕ) (t : Task) → n ≤ m → (more : List (Act ⊥)) × (acts_of job around m t ≡ acts_of job around n t ++ more)

-- a task that has ended does nothing more
abbrev pub EndedStays : Type 0
EndedStays =
    (job : Job) (around : Around) (n m : ℕ) (t : Task) → n ≤ m → ended job around n t ≡ true → (ended job around m t ≡ true)
    × (acts_of job around m t ≡ acts_of job around n t)

-- ---- what is made

-- the outputs of an executor's task are made one after another, all of them, with no wait between
abbrev pub MadeTogether : Type 0
MadeTogether = (job : Job) (around : Around) (n : ℕ) (t : Task) → Batched [] (acts_of job around n t)

-- ---- waits

-- a task that has ended has seen all that it waited for
abbrev pub WaitedIsSeen : Type 0
WaitedIsSeen =
    (job : Job) (around : Around) (n : ℕ) (t : Task) (j : ℕ) (ds : List Desc) → ended job around n t ≡ true → WaitOf job around t j ds
    → Each (λ d. see job around n d ≢ None) ds

-- no wait of a task is for a description twice
abbrev pub WaitsApart : Type 0
WaitsApart = (job : Job) (around : Around) (t : Task) (j : ℕ) (ds : List Desc) → WaitOf job around t j ds → Apart ds

-- where needed tasks wait for each other in a circle, the job has no answer
abbrev pub CircleNever : Type 0
CircleNever =
    (job : Job) (around : Around) (t : Task) → Needed job around t → Chain job around t t → Never job around

-- a job that means an answer has a finite amount of work
abbrev pub WorkIsFinite : Type 0
WorkIsFinite =
    (job : Job) (around : Around) (a : Answered) → Means job around a → (m : ℕ) × Work job around m

-- ---- a run goes on from its wait

-- what comes after the j-th wait of a run is what this rest comes to
pub record GoesOn (seen : Desc → Option (Object ⊥)) (run : Res ⊥) (j : ℕ) (rest : Res ⊥) : Type 0 where
  pub ends : outcome seen run ≡ outcome seen rest
  pub makes : segment_from seen (suc j) run ≡ segment rest
  pub waits : halt seen (suc j) run ≡ first_halt rest

-- the forms under way at a wait of a call, run on with the objects waited for, are what comes after it
abbrev pub RunsOn : Type 0
RunsOn =
    (job : Job) (around : Around) (seen : Desc → Option (Object ⊥)) (f : List ℕ) (c : Pairs) (vs : Vals) (j : ℕ) (h : Halt ⊥) (os : List (Object ⊥))
    → halt seen j (run_of job around f c vs) ≡ Some h → see_all seen (refs_of h.wait) ≡ Some os
    → GoesOn seen (run_of job around f c vs) j (rest_of (world_of job.script around) others h os)

-- ---- limits, where what is read as data keeps them

-- what is seen of a sound description is sound
abbrev pub SeenIsSound : Type 0
SeenIsSound =
    (job : Job) (around : Around) → SoundReads job.script around → (n : ℕ) (d : Desc) (o : Obj) → SoundDesc job.script d → see job around n d
    ≡ Some o → SoundObject job.script o

-- every task that is needed is sound
abbrev pub NeededIsSound : Type 0
NeededIsSound =
    (job : Job) (around : Around) → SoundReads job.script around → (t : Task) → Needed job around t → SoundTask job.script t

-- what a needed task makes is sound
abbrev pub MadeIsSound : Type 0
MadeIsSound =
    (job : Job) (around : Around) → SoundReads job.script around → (n : ℕ) (t : Task) (d : Desc) → Needed job around t
    → In d (made_in (acts_of job around n t)) → SoundDesc job.script d

-- what a needed task waits for is sound
abbrev pub WaitedIsSound : Type 0
WaitedIsSound =
    (job : Job) (around : Around) → SoundReads job.script around → (t : Task) (j : ℕ) (ds : List Desc) → Needed job around t
    → WaitOf job around t j ds → Each (SoundDesc job.script) ds

-- the values of a needed task at its waits are sound
abbrev pub StateIsSound : Type 0
StateIsSound =
    (job : Job) (around : Around) → SoundReads job.script around → (t : Task) (j : ℕ) (s : State) → Needed job around t
    → StandsAt job around t j s → SoundState job.script s

-- the value of the result at each wave is sound
abbrev pub WaveIsSound : Type 0
WaveIsSound =
    (job : Job) (around : Around) → SoundReads job.script around → (n j : ℕ) (v : Val) → wave job around n j ≡ Some v → Sound job.script v

-- ---- types, where the script and what is read as data have them

-- what is seen of a sound and typed description is typed
abbrev pub SeenIsTyped : Type 0
SeenIsTyped =
    (job : Job) (around : Around) → TypedJob job around → (n : ℕ) (d : Desc) (o : Obj) → SoundDesc job.script d → TypedDesc d
    → see job around n d ≡ Some o → TypedObject o

-- every task that is needed is typed
abbrev pub NeededIsTyped : Type 0
NeededIsTyped = (job : Job) (around : Around) → TypedJob job around → (t : Task) → Needed job around t → TypedTask t

-- what a needed task makes is typed
abbrev pub MadeIsTyped : Type 0
MadeIsTyped =
    (job : Job) (around : Around) → TypedJob job around → (n : ℕ) (t : Task) (d : Desc) → Needed job around t
    → In d (made_in (acts_of job around n t)) → TypedDesc d

-- what a needed task waits for is typed
abbrev pub WaitedIsTyped : Type 0
WaitedIsTyped =
    (job : Job) (around : Around) → TypedJob job around → (t : Task) (j : ℕ) (ds : List Desc) → Needed job around t → WaitOf job around t j ds
    → Each TypedDesc ds

-- the values of a needed task at its waits are typed
abbrev pub StateIsTyped : Type 0
StateIsTyped =
    (job : Job) (around : Around) → TypedJob job around → (t : Task) (j : ℕ) (s : State) → Needed job around t → StandsAt job around t j s
    → TypedState s

-- the value of the result at each wave is typed
abbrev pub WaveIsTyped : Type 0
WaveIsTyped = (job : Job) (around : Around) → TypedJob job around → (n j : ℕ) (v : Val) → wave job around n j ≡ Some v → Typed v
