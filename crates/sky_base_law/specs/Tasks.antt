-- The tasks of a job as a journal judges them: which task makes a description, what a task waits for, what it does,
-- whether it has ended and what it holds at a wait, each as far as n tells.
use Rattle.sky_base.specs.Val as v
use Rattle.std.specs.Prelude.{◌≡◌, ℕ, zero, suc, ◌-◌, ◌<◌, List, [], ◌∷◌, ◌++◌, Bool, true, false, Option, Some, None, is_some, nat_lt, ◌⊎◌}
use Rattle.std.specs.Option.{option_map}
use Rattle.sky_base.specs.Val.{call, out, input, known, refs, pairs_refs, same_desc, distinct}
use Rattle.sky_base.specs.Eval.{outputs}
use Rattle.sky_base.specs.Read.{Act, made, waited, Frame, acts}
use Rattle.sky_base.specs.See.{Val, Desc, Job, Around, Answered, main_call, most_waves, run_of, see, wave, job_answer}
use Rattle.sky_base.specs.Needed.{Task, task_of, distinct_refs, wave_refs, only_if, State, wait_at, WaitOf, stands_at}

module _ {A : Type 0} where
  abbrev pub In : A → List A → Type 0
  In d [] = ⊥
  In d (e ∷ es) = (d ≡ e) ⊎ In d es

  abbrev pub Each : (A → Type 0) → List A → Type 0
  Each P [] = Unit {0}
  Each P (d ∷ ds) = P d × Each P ds

  -- no two of them are equal
  abbrev pub Apart : List A → Type 0
  Apart [] = Unit {0}
  Apart (d ∷ ds) = (In d ds → ⊥) × Apart ds

-- whether two descriptions are equal
abbrev pub same : Desc → Desc → Bool
same d e = same_desc (λ a b. true) d e

-- ---- tasks and their outputs

-- the task that makes what a description refers to; an output whose index isn't below the number of outputs is of no task
abbrev pub maker : Desc → Option Task
maker (call f c vs) = Some (Task.of (call f c vs))
maker (out x v n i) = only_if (nat_lt i n) (Some (Task.of (out x v n 0)))
maker (input k) = None
maker (known b) = absurd b

-- what a task makes, in order
abbrev pub outputs_of : Task → List Desc
outputs_of Task.show = []
outputs_of (Task.of (call f c vs)) = call f c vs ∷ []
outputs_of (Task.of (out x v n zero)) = outputs x v n 0 n
outputs_of (Task.of (out x v n (suc i))) = []
outputs_of (Task.of (input k)) = []
outputs_of (Task.of (known b)) = absurd b

-- what a task waits for before it starts
abbrev pub first_of : Task → List Desc
first_of Task.show = main_call ∷ []
first_of (Task.of (call f c vs)) = []
first_of (Task.of (out x v n i)) = distinct_refs v
first_of (Task.of (input k)) = []
first_of (Task.of (known b)) = absurd b

-- ---- what is done and made

module _ {N : Type 0} where
  -- the waits, in order
  abbrev pub waits_in : List (Act N) → List (List (v.Desc N))
  waits_in [] = []
  waits_in (made d ∷ rest) = waits_in rest
  waits_in (waited ds ∷ rest) = ds ∷ waits_in rest

  -- what is done after the wait of this number, from 1; at 0, all
  abbrev pub after_wait : ℕ → List (Act N) → List (Act N)
  after_wait zero done = done
  after_wait (suc j) [] = []
  after_wait (suc j) (made d ∷ rest) = after_wait (suc j) rest
  after_wait (suc j) (waited ds ∷ rest) = after_wait j rest

  -- what is made before the wait of this number, from 1
  abbrev pub made_before : ℕ → List (Act N) → List (v.Desc N)
  made_before zero done = []
  made_before (suc j) [] = []
  made_before (suc j) (made d ∷ rest) = d ∷ made_before (suc j) rest
  made_before (suc j) (waited ds ∷ rest) = made_before j rest

  -- all that is made
  abbrev pub made_in : List (Act N) → List (v.Desc N)
  made_in [] = []
  made_in (made d ∷ rest) = d ∷ made_in rest
  made_in (waited ds ∷ rest) = made_in rest

-- ---- in which order it is made

module _ {N : Type 0} where
  -- what is made by itself: a call, an input
  abbrev pub Lone : v.Desc N → Type 0
  Lone (call f c vs) = Unit {0}
  Lone (out x a n i) = ⊥
  Lone (input k) = Unit {0}
  Lone (known b) = ⊥

  -- what is made at once: one such description, or all outputs of an executor's task in order
  abbrev pub IsBatch : List (v.Desc N) → Type 0
  IsBatch ds =
      ((d : v.Desc N) × Lone d × (ds ≡ d ∷ [])) ⊎ ((x : List ℕ) × (a : v.Val N) × (n : ℕ) × (ds ≡ outputs x a n 0 n))

  -- first the rest of a batch, then what is made in batches, with no wait inside one
  abbrev pub Batched : List (v.Desc N) → List (Act N) → Type 0
  Batched [] [] = Unit {0}
  Batched (x ∷ xs) [] = ⊥
  Batched [] (made d ∷ rest) = (xs : List (v.Desc N)) × IsBatch (d ∷ xs) × Batched xs rest
  Batched (x ∷ xs) (made d ∷ rest) = (d ≡ x) × Batched xs rest
  Batched [] (waited ds ∷ rest) = Batched [] rest
  Batched (x ∷ xs) (waited ds ∷ rest) = ⊥

-- ---- what a state holds

abbrev pub vals_held : List Val → List Desc
vals_held [] = []
vals_held (v ∷ vs) = refs v ++ vals_held vs

abbrev pub frames_held : List (Frame ⊥) → List Desc
frames_held [] = []
frames_held (f ∷ fs) = pairs_refs f.vars ++ (vals_held f.stack ++ frames_held fs)

-- each description that occurs in the values of a state, once
abbrev pub held : State → List Desc
held (State.run r) = distinct (λ a b. true) (frames_held r.frames)
held (State.show_at v j) = distinct_refs v

-- ---- as far as n tells

abbrev pub is_answer : Answered → Bool
is_answer Answered.not_yet = false
is_answer (Answered.bytes b) = true
is_answer (Answered.fault f) = true

abbrev pub wait_then : Option (List Desc) → List (Act ⊥) → List (Act ⊥)
wait_then None rest = []
wait_then (Some ds) rest = waited ds ∷ rest

module _ (job : Job) (around : Around) where
  -- the waits of the result at so many waves, from this one on: one wait a wave, up to the first that has none
  unfoldable pub waves_from : ℕ → (waves wave : ℕ) → List (Act ⊥)
  waves_from n zero j = []
  waves_from n (suc k) j = wait_then (wave_refs (wave job around n j)) (waves_from n k (suc j))

  -- what a task makes and waits for after its start, in order
  abbrev pub acts_of : ℕ → Task → List (Act ⊥)
  acts_of n Task.show = waves_from n most_waves 1
  acts_of n (Task.of (call f c vs)) = acts (see job around n) (run_of job around f c vs)
  acts_of n (Task.of (out x v m i)) = []
  acts_of n (Task.of (input k)) = []
  acts_of n (Task.of (known b)) = absurd b

  -- whether a task has come to its end
  abbrev pub ended : ℕ → Task → Bool
  ended n Task.show = is_answer (job_answer job around n)
  ended n (Task.of d) = is_some (see job around (suc n) d)

  -- what a task holds at its j-th wait, at 0 at its start: what its state holds, or the references of an executor's arguments
  abbrev pub held_at : ℕ → Task → ℕ → Option (List Desc)
  held_at n Task.show j = option_map held (stands_at job around n Task.show j)
  held_at n (Task.of (call f c vs)) j = option_map held (stands_at job around n (Task.of (call f c vs)) j)
  held_at n (Task.of (out x v m i)) zero = Some (distinct_refs v)
  held_at n (Task.of (out x v m i)) (suc j) = None
  held_at n (Task.of (input k)) j = None
  held_at n (Task.of (known b)) j = absurd b

  -- what a task makes after its wait j, at 0 from its start, and before its wait i
  abbrev pub made_between : ℕ → Task → (j i : ℕ) → List Desc
  made_between n t j i = made_before (i - j) (after_wait j (acts_of n t))

  -- what a task makes after its wait j
  abbrev pub made_after : ℕ → Task → ℕ → List Desc
  made_after n t j = made_in (after_wait j (acts_of n t))

  -- ---- at some n

  abbrev pub Ends : Task → Type 0
  Ends t = (n : ℕ) × (ended n t ≡ true)

  abbrev pub HeldAt : Task → ℕ → List Desc → Type 0
  HeldAt t j ds = (n : ℕ) × (held_at n t j ≡ Some ds)

  -- it comes to its wait i, and makes these after its wait j and before that one
  abbrev pub MadeBetween : Task → (j i : ℕ) → List Desc → Type 0
  MadeBetween t j i ds = (n : ℕ) × ((es : List Desc) × (wait_at job around n t i ≡ Some es)) × (made_between n t j i ≡ ds)

  -- it comes to its end, and makes these after its wait j
  abbrev pub MadeAfter : Task → ℕ → List Desc → Type 0
  MadeAfter t j ds = (n : ℕ) × (ended n t ≡ true) × (made_after n t j ≡ ds)

  module _ (S : Desc → Type 0) where
    -- each wait after j and before i is for descriptions of S alone
    abbrev pub Passes : Task → (j i : ℕ) → Type 0
    Passes t j i = (k : ℕ) (es : List Desc) → j < k → k < i → WaitOf job around t k es → Each S es

    -- the first wait after j that is for some description outside S
    pub record NextWait (t : Task) (j i : ℕ) : Type 0 where
      pub above : j < i
      pub passes : Passes t j i
      pub waits : List Desc
      pub waited : WaitOf job around t i waits
      pub missing : Desc
      pub is_waited : In missing waits
      pub is_missing : S missing → ⊥

    -- there is no such wait
    abbrev pub NextEnd : Task → ℕ → Type 0
    NextEnd t j = (i : ℕ) → Passes t j i

  -- ---- circles

  -- at one of its waits t waits for something that u makes
  pub record WaitsFor (t u : Task) : Type 0 where
    pub wait : ℕ
    pub waits : List Desc
    pub waited : WaitOf job around t wait waits
    pub what : Desc
    pub is_waited : In what waits
    pub is_made : task_of what ≡ Some u

  -- from t on, each task waits for the next one, up to u
  pub data Chain : Task → Task → Type 0 where
    last : {t u : Task} → WaitsFor t u → Chain t u
    link : {t s u : Task} → WaitsFor t s → Chain s u → Chain t u
