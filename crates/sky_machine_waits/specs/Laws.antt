-- At each wait of a task its forms under way say what it waits for.
use Rattle.std.specs.Prelude.{◌≡◌, ℕ, List, Option, Some}
use Rattle.sky_base.specs.Res.{Object}
use Rattle.sky_base.specs.Read.{Halt, halt}
use Rattle.sky_base.specs.See.{Vals, Pairs, Desc, Job, Around, run_of}
use Rattle.sky_base_law.specs.Lower.{low_halt}
use Rattle.sky_base_law.specs.NamesLaws.{Tag, no_name}
use Rattle.sky_machine_waits.specs.Waits.{wait_in}

module _ (job : Job) (around : Around) (see : Desc → Option (Object ⊥)) where
  -- for whole descriptions, whatever is seen
  abbrev pub WaitIsFound : Type 0
  WaitIsFound =
      (f : List ℕ) (c : Pairs) (vs : Vals) (j : ℕ) (h : Halt ⊥) → halt see j (run_of job around f c vs) ≡ Some h → wait_in job.script h.forms
      ≡ Some h.wait

  -- and over names, whatever gives them
  abbrev pub NamedWaitIsFound : Tag → Type 0
  NamedWaitIsFound tag =
      (f : List ℕ) (c : Pairs) (vs : Vals) (j : ℕ) (h : Halt ⊥) → halt see j (run_of job around f c vs) ≡ Some h
      → wait_in job.script (low_halt no_name tag h).forms ≡ Some (low_halt no_name tag h).wait

abbrev pub WaitsAreFound : Type 0
WaitsAreFound = (job : Job) (around : Around) (see : Desc → Option (Object ⊥)) → WaitIsFound job around see

abbrev pub NamedWaitsAreFound : Type 0
NamedWaitsAreFound = (tag : Tag) (job : Job) (around : Around) (see : Desc → Option (Object ⊥)) → NamedWaitIsFound job around see tag
