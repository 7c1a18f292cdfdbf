-- Which tasks a job needs, what each waits for, how each stands at a wait, and how much work that is.
use Rattle.std.specs.Prelude.{◌≡◌, ℕ, zero, suc, ◌+◌, ◌≤◌, ◌<◌, List, [], ◌∷◌, Bool, true, false, Option, Some, None, ◌↔◌, nat_le, sum_by, Contains}
use Rattle.std.specs.Prelude.{slice_get}
use Rattle.sky_base.specs.Val.{call, out, input, known, refs, distinct}
use Rattle.sky_base.specs.Eval.{Body, bind, body_of}
use Rattle.sky_base.specs.Read.{Halt, Run, halt, refs_of, run_of_halt, segment_from}
use Rattle.sky_base.specs.See.{Val, Vals, Pairs, Desc, Job, Around, see, run_of, wave, main_call, most_waves}

pub data Task : Type 0 where
  show : Task
  of : Desc → Task

-- the task that makes what a description refers to
abbrev pub task_of : Desc → Option Task
task_of (call f c vs) = Some (Task.of (call f c vs))
task_of (out x v n i) = Some (Task.of (out x v n 0))
task_of (input k) = None
task_of (known b) = absurd b

-- what no two of them name twice
abbrev pub distinct_refs : Val → List Desc
distinct_refs v = distinct (λ a b. true) (refs v)

abbrev pub unless_none : List Desc → Option (List Desc)
unless_none [] = None
unless_none (d ∷ ds) = Some (d ∷ ds)

abbrev pub wave_refs : Option Val → Option (List Desc)
wave_refs None = None
wave_refs (Some v) = unless_none (distinct_refs v)

abbrev pub only_if : {A : Type 0} → Bool → Option A → Option A
only_if true o = o
only_if false o = None

abbrev pub halt_refs : Option (Halt ⊥) → Option (List Desc)
halt_refs None = None
halt_refs (Some h) = Some (refs_of h.wait)

-- how a task stands: the stack of a call, or the value of the result at its wave
pub data State : Type 0 where
  run : Run ⊥ → State
  show_at : Val → ℕ → State

abbrev pub start_frame : List ℕ → Pairs → Vals → Option Body → Option State
start_frame f c vs None = None
start_frame f c vs (Some b) =
    Some (State.run (record {
      frames = record { fun = f; vars = bind b.params vs c; stack = []; todo = record { node = b.node; step = 0 } ∷ [] }
          ∷ [];
      count = 0;
      waits = 0;
    }))

abbrev pub halt_state : List ℕ → ℕ → Option (Halt ⊥) → Option State
halt_state f j None = None
halt_state f j (Some h) = Some (State.run (run_of_halt f j h))

abbrev pub wave_state : ℕ → Option Val → Option State
wave_state j None = None
wave_state j (Some v) = Some (State.show_at v j)

module _ (job : Job) (around : Around) where
  -- what a task waits for at its j-th wait, as far as n tells
  abbrev pub wait_at : ℕ → Task → ℕ → Option (List Desc)
  wait_at n Task.show zero = Some (main_call ∷ [])
  wait_at n Task.show (suc j) = only_if (nat_le (suc j) most_waves) (wave_refs (wave job around n (suc j)))
  wait_at n (Task.of (call f c vs)) zero = Some []
  wait_at n (Task.of (call f c vs)) (suc j) = halt_refs (halt (see job around n) j (run_of job around f c vs))
  wait_at n (Task.of (out x v m i)) zero = Some (distinct_refs v)
  wait_at n (Task.of (out x v m i)) (suc j) = None
  wait_at n (Task.of (input k)) j = None
  wait_at n (Task.of (known b)) j = absurd b

  -- it waits for these at some n
  abbrev pub WaitOf : Task → ℕ → List Desc → Type 0
  WaitOf t j ds = (n : ℕ) × (wait_at n t j ≡ Some ds)

  -- how a task stands at its j-th wait, as far as n tells; at 0, at its start
  abbrev pub stands_at : ℕ → Task → ℕ → Option State
  stands_at n Task.show j = wave_state j (wave job around n j)
  stands_at n (Task.of (call f c vs)) zero = start_frame f c vs (body_of f job.script)
  stands_at n (Task.of (call f c vs)) (suc j) =
      halt_state f (suc j) (halt (see job around n) j (run_of job around f c vs))
  stands_at n (Task.of (out x v m i)) j = None
  stands_at n (Task.of (input k)) j = None
  stands_at n (Task.of (known b)) j = absurd b

  abbrev pub StandsAt : Task → ℕ → State → Type 0
  StandsAt t j s = (n : ℕ) × (stands_at n t j ≡ Some s)

  -- what a call makes after its wait j and before the next one, as far as n tells
  abbrev pub made_from : ℕ → List ℕ → Pairs → Vals → ℕ → List Desc
  made_from n f c vs j = segment_from (see job around n) j (run_of job around f c vs)

  pub data Needed : Task → Type 0 where
    root : Needed Task.show
    waited : {t u : Task} → Needed t → (j : ℕ) (ds : List Desc) (d : Desc) → WaitOf t j ds → Contains ds d → task_of d ≡ Some u → Needed u

  -- a task has so many waits
  pub record Waits (t : Task) (k : ℕ) : Type 0 where
    pub each : (j : ℕ) → 0 < j → (j ≤ k) ↔ ((ds : List Desc) × WaitOf t j ds)

  -- the needed tasks with their waits, and the starts that they take
  pub record Work (m : ℕ) : Type 0 where
    pub tasks : List (Task × ℕ)
    pub apart : (i j : ℕ) (t : Task) (a b : ℕ) → slice_get tasks i ≡ Some (t, a) → slice_get tasks j ≡ Some (t, b) → i ≡ j
    pub needed : (t : Task) → Needed t ↔ ((k : ℕ) × Contains tasks (t, k))
    pub waits : (t : Task) (k : ℕ) → Contains tasks (t, k) → Waits t k
    pub total : sum_by (λ p. 1 + p.1) tasks ≡ m
