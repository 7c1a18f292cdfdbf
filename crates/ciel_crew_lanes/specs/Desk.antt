-- The rule of a desk.
use Rattle.std.specs.Prelude.{◌≡◌, ℕ, ◌+◌, List, [], ◌∷◌, ◌++◌, length, Option, Some, None, ◌⊎◌}
use Rattle.ciel_crew_lanes.specs.declared.notes.Knows.{Knows}
use Rattle.ciel_crew_lanes.specs.declared.notes.Role.TheVariants.{Alone, Master, Worker}
use Rattle.ciel_crew_lanes.specs.declared.notes.Note.{Note}
use Rattle.ciel_crew_lanes.specs.declared.notes.Note.TheVariants.{Job, Output}

module _ {I : Type 0} where
  abbrev pub alone : Knows I
  alone = record { role = Alone; put = []; taken = 0; last = None; given = 0; back = 0 }

  abbrev pub master : List I → ℕ → ℕ → Knows I
  master put taken back = record { role = Master; put = put; taken = taken; last = None; given = 0; back = back }

  abbrev pub worker : Option I → ℕ → ℕ → ℕ → Knows I
  worker last taken given back = record { role = Worker; put = []; taken = taken; last = last; given = given; back = back }

  abbrev pub fresh_master : Knows I
  fresh_master = master [] 0 0

  abbrev pub fresh_worker : Knows I
  fresh_worker = worker None 0 0 0

module _ {I O : Type 0} where
  -- nothing is out
  pub record Idle (items : List (Note I O)) (m w : Knows I) : Type 0 where
    pub empty : items ≡ []
    pub outs : m.taken ≡ length m.put
    pub took : w.taken ≡ length m.put
    pub gave : w.given ≡ length m.put

  module _ (good : I → Type 0) (ties : I → O → Type 0) where
    -- the last job put lies on the desk
    pub record Waits (items : List (Note I O)) (m w : Knows I) : Type 0 where
      pub before : List I
      pub job : I
      pub put : m.put ≡ before ++ job ∷ []
      pub lies : items ≡ Job job ∷ []
      pub takes : good job
      pub outs : m.taken ≡ length before
      pub took : w.taken ≡ length before
      pub gave : w.given ≡ length before

    -- the worker has the last job put
    pub record Works (items : List (Note I O)) (m w : Knows I) : Type 0 where
      pub before : List I
      pub job : I
      pub put : m.put ≡ before ++ job ∷ []
      pub empty : items ≡ []
      pub last : w.last ≡ Some job
      pub outs : m.taken ≡ length before
      pub took : w.taken ≡ length before + 1
      pub gave : w.given ≡ length before

    -- an output that fits the last job put lies on the desk
    pub record Done (items : List (Note I O)) (m w : Knows I) : Type 0 where
      pub before : List I
      pub job : I
      pub output : O
      pub put : m.put ≡ before ++ job ∷ []
      pub lies : items ≡ Output output ∷ []
      pub fits : ties job output
      pub last : w.last ≡ Some job
      pub outs : m.taken ≡ length before
      pub took : w.taken ≡ length before + 1
      pub gave : w.given ≡ length before + 1

    pub data Case (items : List (Note I O)) (m w : Knows I) : Type 0 where
      idle : Idle items m w → Case items m w
      waits : Waits items m w → Case items m w
      works : Works items m w → Case items m w
      done : Done items m w → Case items m w

    pub record Both (items : List (Note I O)) (views : List (Knows I)) : Type 0 where
      pub m : Knows I
      pub w : Knows I
      pub views_are : views ≡ m ∷ w ∷ []
      pub master : m.role ≡ Master
      pub worker : w.role ≡ Worker
      pub case : Case items m w

    pub data Stands (items : List (Note I O)) (views : List (Knows I)) : Type 0 where
      opened : items ≡ [] → views ≡ alone ∷ [] → Stands items views
      both : Both items views → Stands items views

    -- what a receive tells: the master an output that fits the job that was out, or its own job; the worker a job, or its own output
    pub record TakesOutput (v : Knows I) (o : O) (v' : Knows I) : Type 0 where
      pub before : List I
      pub job : I
      pub put : v.put ≡ before ++ job ∷ []
      pub fits : ties job o
      pub after : v' ≡ record v { taken = v.taken + 1 }

    pub record TakesJobBack (v : Knows I) (j : I) (v' : Knows I) : Type 0 where
      pub before : List I
      pub put : v.put ≡ before ++ j ∷ []
      pub takes : good j
      pub after : v' ≡ record v { put = before; back = v.back + 1 }

    pub record TakesJob (v : Knows I) (j : I) (v' : Knows I) : Type 0 where
      pub takes : good j
      pub after : v' ≡ record v { taken = v.taken + 1; last = Some j }

    pub record TakesOutputBack (v : Knows I) (o : O) (v' : Knows I) : Type 0 where
      pub job : I
      pub given : ℕ
      pub last : v.last ≡ Some job
      pub fits : ties job o
      pub gave : v.given ≡ given + 1
      pub after : v' ≡ record v { given = given; back = v.back + 1 }

    abbrev pub HasTaken : Knows I → Note I O → Knows I → Type 0
    HasTaken v (Job j) v' = (v.role ≡ Master → TakesJobBack v j v') × (v.role ≡ Worker → TakesJob v j v')
    HasTaken v (Output o) v' = (v.role ≡ Master → TakesOutput v o v') × (v.role ≡ Worker → TakesOutputBack v o v')

  abbrev pub HasPut : Knows I → Note I O → Knows I → Type 0
  HasPut v (Job j) v' = v' ≡ record v { put = v.put ++ j ∷ [] }
  HasPut v (Output o) v' = v' ≡ record v { given = v.given + 1 }

module _ {I O : Type 0} (good : I → Type 0) (ties : I → O → Type 0) where
  -- what a pass may put: the master a job where none is out, the worker an output that fits the job that it took
  abbrev pub MayPut : Knows I → Note I O → Type 0
  MayPut v (Job j) = (v.role ≡ Master) × (v.taken ≡ length v.put) × good j
  MayPut v (Output o) = (v.role ≡ Worker) × ((j : I) × (v.last ≡ Some j) × (v.taken ≡ v.given + 1) × ties j o)

-- the master may take where a job is out, and the worker where it has none
abbrev pub MayTake : {I : Type 0} → Knows I → Type 0
MayTake v = ((v.role ≡ Master) × (v.taken + 1 ≡ length v.put)) ⊎ ((v.role ≡ Worker) × (v.taken ≡ v.given))
