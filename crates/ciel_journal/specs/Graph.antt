-- What waits for what: which tasks are reached backward from the root task, which can run, and circles. It is said once of
-- tasks of any kind and of names of any kind, so that it serves a table and what stands after a history.
use Rattle.std.specs.Prelude.{◌≡◌, List, [], ◌∷◌, Bool, true, false, map, Option, Some, ◌⊎◌}
use Rattle.std.specs.Option.{option_map}
use Rattle.ciel_journal.specs.Job.{Task, show, Job, In, Each}
use Rattle.ciel_journal.specs.History.{Standing, is_out, live, needs}

-- The root task, what each task waits for, what is live, the task that makes a name, and which tasks aren't searched through
pub record Graph (T N : Type 0) : Type 0 where
  pub root : T
  pub needs : T → List N
  pub live : N → Bool
  pub maker : N → Option T
  pub out : T → Bool

module _ {T N : Type 0} (g : Graph T N) where
  -- the root task, and each task that makes what a reached task waits for and isn't live
  pub data Led : T → Type 0 where
    root : Led g.root
    through : {t u : T} → Led t → g.out t ≡ false → (d : N) → In d (g.needs t) → g.live d ≡ false → g.maker d ≡ Some u → Led u

  -- reached, not out, and all that it waits for is live
  pub record Runnable (t : T) : Type 0 where
    pub reached : Led t
    pub not_out : g.out t ≡ false
    pub met : Each (λ d. g.live d ≡ true) (g.needs t)

  -- d isn't live, its task is reached and waits for e
  abbrev pub WaitsOn : N → N → Type 0
  WaitsOn d e = (t : T) × (g.maker d ≡ Some t) × Led t × (g.live d ≡ false) × In e (g.needs t)

  -- each waits for the next one, and the last for the first
  abbrev pub Chain : N → N → List N → Type 0
  Chain first d [] = WaitsOn d first
  Chain first d (e ∷ es) = WaitsOn d e × Chain first e es

  -- a circle of waits
  abbrev pub Circle : List N → Type 0
  Circle [] = ⊥
  Circle (d ∷ ds) = Chain d d ds

-- ts lists those of xs of which P holds, in order
abbrev pub Picks : {A : Type 0} → (A → Type 0) → List A → List A → Type 0
Picks P [] ts = ts ≡ []
Picks {A} P (x ∷ xs) ts = (P x × ((rest : List A) × (ts ≡ x ∷ rest) × Picks P xs rest)) ⊎ ((P x → ⊥) × Picks P xs ts)

-- A graph seen as another: each task and each name has one there. It is asked of the tasks that are reached, and of the
-- names that these wait for
module _ {T N U M : Type 0} (g : Graph T N) (h : Graph U M) (task : T → U) (name : N → M) where
  pub record SeenAs : Type 0 where
    pub root : task g.root ≡ h.root
    pub out : (t : T) → Led g t → h.out (task t) ≡ g.out t
    pub needs : (t : T) → Led g t → h.needs (task t) ≡ map name (g.needs t)
    pub live : (t : T) (d : N) → Led g t → In d (g.needs t) → h.live (name d) ≡ g.live d
    pub maker : (t : T) (d : N) → Led g t → In d (g.needs t) → g.live d ≡ false → h.maker (name d) ≡ option_map task (g.maker d)

-- what stands after a history, as a graph
abbrev pub standing_graph : {D : Type 0} (job : Job D) → Standing D → Graph (Task D) D
standing_graph job v =
    record { root = show; needs = needs job v; live = live job v; maker = job.task_of; out = is_out job v }
