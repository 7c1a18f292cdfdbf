-- A job with what the master knows of it: descriptions by names, and what lies at places.
use Rattle.std.specs.Prelude.{◌≡◌, ℕ, List, [], ◌∷◌, map, false, Option, Some, None, ◌⊎◌}
use Rattle.sky_base.specs.Name.{digested}
use Rattle.sky_base.specs.ObjectView.{desc_view}
use Rattle.sky_base.specs.Val.{Desc}
use Rattle.sky_base.specs.declared.object.Desc1.{Desc1}
use Rattle.ciel_journal.specs.Job.{Digest, Held, In, IsJob, Job, Needed, Task, made_in, of, show}
use Rattle.ciel_journal.specs.Known.{Inner, Knows}
use Rattle.ciel_journal.specs.Lawful.{NoClash}
use Rattle.ciel_name.specs.Names.{first_output}
use Rattle.ciel_journal_job.specs.Report.{Exact}
use Rattle.ciel_table.specs.Seen.{is_input}
use Rattle.ciel_want.specs.Waited.{first_refs}
use Rattle.ciel_master_board.specs.Board.{key_number, start_refs}

-- The job; the keys of its inputs; what stands inside its descriptions; each description by names; the digest that gives the
-- names; the worker of a place and the block that lies there; and the block of the object of a description, and of the state of a task at a wait, as
-- far as so much fuel tells
pub record Setting (D P B : Type 0) : Type 0 where
  pub job : Job D
  pub keys : List (List ℕ)
  pub inner : Inner D
  pub lower : D → Desc (List ℕ)
  pub digest : List ℕ → List ℕ
  pub at : P → ℕ
  pub block : P → B
  pub object : ℕ → D → Option B
  pub state : ℕ → Task D → ℕ → Option B

-- which of the inputs with these keys it is
abbrev pub input_number : List (List ℕ) → Desc1 → Option ℕ
input_number keys (Desc1.Call f c vs) = None
input_number keys (Desc1.Exec x v n i) = None
input_number keys (Desc1.Input k) = key_number keys k

module _ {D P B : Type 0} (s : Setting D P B) where
  -- the main call, or made by a needed task
  abbrev pub IsMade : D → Type 0
  IsMade d = (d ≡ s.job.main) ⊎ ((t : Task D) × Needed s.job t × (n : ℕ) × In d (made_in (s.job.acts n t)))

  -- x is d by names
  abbrev pub Spells : Desc1 → D → Type 0
  Spells x d = desc_view x ≡ s.lower d

  -- these are the names of those, in whatever order
  pub record AreNames (ns : List Digest) (ds : List D) : Type 0 where
    pub there : (d : D) → In d ds → In (s.job.name d) ns
    pub only : (n : Digest) → In n ns → (d : D) × In d ds × (n ≡ s.job.name d)

  -- ---- what a description by names tells

  -- an input's has one of the keys
  abbrev pub TellsInput : Type 0
  TellsInput =
      (x : Desc1) (d : D) → Spells x d → IsMade d → s.job.task_of d ≡ None → (i : ℕ) × (input_number s.keys x ≡ Some i)

  -- what a task makes says that it is none, and by which description its task goes
  abbrev pub TellsTask : Type 0
  TellsTask =
      (x : Desc1) (d e : D) → Spells x d → s.job.task_of d ≡ Some (of e)
      → (is_input x ≡ false) × (first_output (s.lower d) ≡ s.lower e)

  -- where no two names inside clash, what its task waits for at first
  abbrev pub TellsFirst : Type 0
  TellsFirst =
      (x : Desc1) (d : D) → Spells x d → s.job.task_of d ≡ Some (of d) → NoClash s.job (s.inner.inside d)
      → first_refs x ≡ map s.job.name (s.job.first (of d))

  -- and what a needed task holds at its start
  abbrev pub TellsHeld : Type 0
  TellsHeld =
      (x : Desc1) (d : D) (n : ℕ) (a : Held D) → Spells x d → Needed s.job (of d) → s.job.at n (of d) 0 ≡ Some a
      → NoClash s.job (s.inner.inside d) → AreNames (start_refs x) a.names

  -- the root task holds the main call at its start
  abbrev pub RootHoldsMain : Type 0
  RootHoldsMain = (n : ℕ) (a : Held D) → s.job.at n show 0 ≡ Some a → AreNames (s.job.name s.job.main ∷ []) a.names

  -- each needed task stands somehow at its start
  abbrev pub AllStart : Type 0
  AllStart = (t : Task D) → Needed s.job t → (n : ℕ) × (a : Held D) × (s.job.at n t 0 ≡ Some a)

  pub record TellsByNames : Type 0 where
    pub input : TellsInput
    pub made : TellsTask
    pub first : TellsFirst
    pub held : TellsHeld
    pub root : RootHoldsMain
    pub starts : AllStart

  -- what is asked of a setting: it has the laws of a job, all comes from somewhere, and names tell
  pub record IsSetting : Type 0 where
    pub laws : IsJob s.job
    pub knows : Knows s.job s.inner
    pub exact : Exact s.job s.inner s.lower (digested s.digest)
    pub tells : TellsByNames

  -- the object of d lies there
  abbrev pub HasObject : P → D → Type 0
  HasObject p d = (n : ℕ) × (s.object n d ≡ Some (s.block p))

  -- the state of a task at a wait lies there
  abbrev pub HasState : P → Task D → ℕ → Type 0
  HasState p t j = (n : ℕ) × (s.state n t j ≡ Some (s.block p))
