-- What going on means for the call whose stack it was.
use Rattle.std.specs.Prelude.{◌≡◌, ℕ, suc, List, ◌++◌, map, Some, true}
use Rattle.sky_base.specs.Val as v
use Rattle.sky_base.specs.Val.{call, distinct}
use Rattle.sky_base.specs.Name.{digested, low_desc}
use Rattle.sky_base.specs.Tree.{Script}
use Rattle.sky_base.specs.Res.{Object}
use Rattle.sky_base.specs.Read.{Run, see_all}
use Rattle.sky_base.specs.See.{Vals, Pairs, Desc, Obj, Job, Around, see}
use Rattle.sky_base.specs.Needed.{Task, wait_at}
use Rattle.sky_base.specs.ObjectView.{object_view}
use Rattle.sky_base.specs.declared.object.Object as rust
use Rattle.sky_base_law.specs.Lower.{low_obj}
use Rattle.sky_base_law.specs.NamesLaws.{no_name, ReadsAlike}
use Rattle.sky_base_law.specs.Tasks.{made_between}
use Rattle.sky_base_known.specs.Data.{data_of}
use Rattle.sky_state.specs.Stand.{Stand}
use Rattle.sky_state.specs.Stands.{Stands}
use Rattle.sky_state_law.specs.Moves.{SeenAs, WaitsNoMore}
use Rattle.sky_machine_resume.specs.Comes.{with_name}
use Rattle.sky_machine_resume.specs.declared.on.Came.{Came}

module _ (digest : List ℕ → List ℕ) where
  -- these are the objects of what the task waits for at its wait j, of each description once, as far as n tells, with each description
  -- replaced by its name
  abbrev pub AnsweredBy : Job → Around → (n : ℕ) → Task → (j : ℕ) → List (Object (List ℕ)) → Type 0
  AnsweredBy job around n t j given =
      (ds : List Desc) × (os : List Obj) × (wait_at job around n t j ≡ Some ds)
      × (see_all (see job around n) (distinct (λ a b. true) ds) ≡ Some os) × (given ≡ map (low_obj no_name (digested digest)) os)

  -- the call ended, with no wait after this one, with the object that it is seen as, or the stack stands for it at its next wait
  abbrev pub StandsOn : Job → Around → Desc → (j : ℕ) → Came → Run (List ℕ) → Type 0
  StandsOn job around d j (Came.Ended o) new =
      SeenAs (digested digest) job around d (object_view o) × WaitsNoMore (digested digest) job around (Task.of d) j
  StandsOn job around d j Came.Waits new = Stands job around (digested digest) (Stand.run new) (Task.of d) (suc j)

  -- whatever call of whatever job the stack stood for at this wait, 0 being its start, where the objects are those of what the call
  -- waits for there
  abbrev pub GoesOnAs : (j : ℕ) → Script → Run (List ℕ) → List rust.Object → Came → Run (List ℕ) → Type 0
  GoesOnAs j sc old answers came new =
      (job : Job) (around : Around) (f : List ℕ) (c : Pairs) (vs : Vals) (n : ℕ)
      → job.script ≡ sc → ReadsAlike (digested digest) around data_of
      → Stands job around (digested digest) (Stand.run old) (Task.of (call f c vs)) j
      → AnsweredBy job around n (Task.of (call f c vs)) j (map object_view answers)
      → StandsOn job around (call f c vs) j came new

  -- and then what was spawned grew by what the call makes from that wait up to the next one, each with its name
  abbrev pub MakesAs : (j : ℕ) → Script → Run (List ℕ) → List rust.Object → (old new : List (List ℕ × v.Desc (List ℕ))) → Type 0
  MakesAs j sc stack answers old new =
      (job : Job) (around : Around) (f : List ℕ) (c : Pairs) (vs : Vals) (n : ℕ)
      → job.script ≡ sc → ReadsAlike (digested digest) around data_of
      → Stands job around (digested digest) (Stand.run stack) (Task.of (call f c vs)) j
      → AnsweredBy job around n (Task.of (call f c vs)) j (map object_view answers)
      → new ≡ old ++ map (with_name digest) (map (low_desc no_name (digested digest)) (made_between job around n (Task.of (call f c vs)) j (suc j)))
