-- What the code keeps of reports.
use Rattle.std.specs.Prelude.{◌≡◌, ℕ, suc, List, [], ◌∷◌, ◌++◌, Bool, cond, map, nat_eq, Option}
use Rattle.std.specs.BTreeMap.{BTreeMap, get}
use Rattle.sky_base.specs.Val.{Desc}
use Rattle.sky_base.specs.declared.object.TaskId.{TaskId}
use Rattle.ciel_look_told.specs.Told as told
use Rattle.ciel_look_told.specs.Told.{Told}
use Rattle.ciel_look_tasks.specs.Origins.{origin_cmp}
use Rattle.ciel_look_tasks.specs.Reports.{Report, output_name}
use Rattle.ciel_look_tasks.specs.SceneView.{made_at, took_at}
use Rattle.ciel_look_tasks.specs.Tasks.{Start}
use Rattle.ciel_look_tasks.specs.declared.scene.Run.{Run}

-- what each order took along, and what it made
abbrev pub run_took : Run → List (List ℕ)
run_took r = took_at r.end

abbrev pub takes_view : List Run → List (List (List ℕ))
takes_view rs = map run_took rs

abbrev pub run_made : Run → List (List ℕ)
run_made r = made_at r.end

abbrev pub makes_view : List Run → List (List (List ℕ))
makes_view rs = map run_made rs

-- names more at a place, the first list at this one
abbrev pub added : (place : ℕ) → List (List ℕ) → (at : ℕ) → List (List (List ℕ)) → List (List (List ℕ))
added p ns at [] = []
added p ns at (x ∷ xs) = (x ++ cond (nat_eq at p) ns []) ∷ added p ns (suc at) xs

module _ (said : Report → List (List ℕ)) where
  -- with what these reports say
  abbrev pub said_more : List Report → List (List (List ℕ)) → List (List (List ℕ))
  said_more [] xs = xs
  said_more (r ∷ rs) xs = said_more rs (added r.order (said r) 0 xs)

  -- behind an entry with these reports; of an order that begins nothing is said
  abbrev pub said_after : Told → List Report → List (List (List ℕ)) → List (List (List ℕ))
  said_after (told.started number worker from task) rs xs = xs ++ [] ∷ []
  said_after (told.ended number spawned copied how) rs xs = said_more rs xs
  said_after (told.lost worker after) rs xs = xs
  said_after (told.late number) rs xs = xs

-- ---- outputs

-- the name of an output of the task of a name
abbrev pub output_in : BTreeMap (List ℕ × ℕ) (List ℕ) → (task : List ℕ) → (index : ℕ) → Option (List ℕ)
output_in m n i = get origin_cmp m (n, i)

-- they are those by these descriptions
abbrev pub TellsOutputs : Bool → BTreeMap (List ℕ × ℕ) (List ℕ) → List (Desc (List ℕ)) → Type 0
TellsOutputs s m ds = (n : List ℕ) (i : ℕ) → output_in m n i ≡ output_name s ds n i

-- whose an order is: at which worker, of which task
abbrev pub whose : Start → ℕ × TaskId
whose s = (s.1.0, s.1.1.1)
