-- What a run has come to.
use Rattle.std.specs.Prelude.{◌≡◌, ℕ, List, ◌++◌, map, Some}
use Rattle.sky_base.specs.Name.{digested}
use Rattle.sky_base.specs.Read.{segment, first_end, first_halt}
use Rattle.sky_base.specs.declared.object.Named.{Named}
use Rattle.sky_base_scope.specs.Plain.{Vars}
use Rattle.sky_machine_entries.specs.Config.{Run}
use Rattle.sky_machine_entries.specs.Ready.{EndReady}
use Rattle.sky_machine_entries.specs.Entries.{Form, end_of, wait_of}
use Rattle.sky_machine_parts.specs.Made.{descs, names}
use Rattle.sky_machine_loop.specs.declared.run.Stop.{Stop}

-- the run ends so with these variables, or it first waits so, with these forms under way
abbrev pub Reaches : Run → Stop → List Form → Vars → Type 0
Reaches r (Stop.Ended e) fr st = first_end r ≡ Some (end_of e, st)
Reaches r (Stop.Waits q) fr st = first_halt r ≡ Some (record { wait = wait_of q; forms = fr; st = st })

-- what was made grew by what the run makes up to its next wait or its end, each with its name
pub record Grew (digest : List ℕ → List ℕ) (old new : List Named) (r : Run) : Type 0 where
  pub descs : descs new ≡ descs old ++ segment r
  pub names : names new ≡ names old ++ map (digested digest) (segment r)

-- the value of an end keeps the limits
abbrev pub StopReady : Stop → Type 0
StopReady (Stop.Ended e) = EndReady e
StopReady (Stop.Waits q) = Unit {0}
