-- What going on means for the root task of a job.
use Rattle.std.specs.Prelude.{◌≡◌, ◌≢◌, ℕ, suc, List, map, Some, None}
use Rattle.sky_base.specs.Val.{Val}
use Rattle.sky_base.specs.Tree.{Script}
use Rattle.sky_base.specs.Read.{see_all}
use Rattle.sky_base.specs.See.{Desc, Obj, Job, Around, Answered, job_answer, see}
use Rattle.sky_base.specs.Needed.{Task, wait_at}
use Rattle.sky_base.specs.Res.{Object}
use Rattle.sky_base.specs.View.{view}
use Rattle.sky_base_law.specs.Lower.{low_obj}
use Rattle.sky_base_law.specs.NamesLaws.{Tag, no_name, NoClash, ReadsAlike}
use Rattle.sky_base_law.specs.Sound.{SoundObject}
use Rattle.sky_base_law.specs.Tasks.{Each}
use Rattle.sky_base_known.specs.Data.{data_of}
use Rattle.sky_state.specs.Fits.{FitsShow}
use Rattle.sky_state.specs.Stand.{Stand}
use Rattle.sky_state.specs.Stands.{Stands}
use Rattle.sky_base_waves.specs.Seen.{WritesAlike}
use Rattle.sky_machine_show.specs.Shows.{shown_view}
use Rattle.sky_machine_show.specs.declared.show.Came.{Came}

module _ (tag : Tag) (job : Job) (around : Around) (n j : ℕ) where
  -- the job's answer is what is shown, and after its wait j the root task waits for nothing more; or the value stands for it at its next
  -- wait, which there is
  abbrev pub ShownOrStands : (w : ℕ) → Came → Type 0
  ShownOrStands w (Came.Shown s) =
      (job_answer job around n ≡ shown_view s) × (shown_view s ≢ Answered.not_yet) × (wait_at job around n Task.show (suc j) ≡ None)
  ShownOrStands w (Came.Next u) =
      Stands job around tag (Stand.show_at (view u) (suc w)) Task.show (suc j) × (ds : List Desc) × (wait_at job around n Task.show (suc j) ≡ Some ds)

-- whatever job's root task the value stood for at wave w: where data is read and written as JSON, and these are the objects of all that the
-- task waits for there, with each description replaced by its name, no two of which are the same
abbrev pub GoesOnShown : Val (List ℕ) → ℕ → List (Object (List ℕ)) → Came → Type 0
GoesOnShown v w given came =
    (tag : Tag) (job : Job) (around : Around) (n j : ℕ) (ds : List Desc) (os : List Obj) → ReadsAlike tag around data_of → WritesAlike tag around
    → Stands job around tag (Stand.show_at v w) Task.show j → wait_at job around n Task.show j ≡ Some ds → see_all (see job around n) ds
    ≡ Some os → given ≡ map (low_obj no_name tag) os → NoClash tag ds → ShownOrStands tag job around n j w came

-- where the value fitted a script at wave w, and the objects are sound, the next value fits the script at the wave after
abbrev pub FitsOn : Val (List ℕ) → ℕ → List (Object (List ℕ)) → Came → Type 0
FitsOn v w given (Came.Shown s) = Unit {0}
FitsOn v w given (Came.Next u) =
    (sc : Script) → FitsShow sc v w → Each (SoundObject sc) given → FitsShow sc (view u) (suc w)
