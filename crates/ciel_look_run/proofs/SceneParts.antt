-- What is seen of a scene is what is told.
use Rattle.std.proofs.Common.{◌≡◌, ℕ, List, [], ◌∷◌, length, map, refl, ap, subst, sym, ◌∙◌}
use Rattle.std.proofs.lemmas.Simd.{map-map}
use Rattle.sky_base.specs.declared.object.TaskId.{TaskId}
use Rattle.ciel_look_told.specs.Head.{Head, short}
use Rattle.ciel_look_told.specs.Told.{Told}
use Rattle.ciel_look_tasks.specs.Again.{agains}
use Rattle.ciel_look_tasks.specs.CutPlaces.{cut_view, cuts_view}
use Rattle.ciel_look_tasks.specs.Cuts.{cuts}
use Rattle.ciel_look_tasks.specs.Happened.{happened}
use Rattle.ciel_look_tasks.specs.Heads.{AreDescribed}
use Rattle.ciel_look_tasks.specs.Known.{knowns}
use Rattle.ciel_look_tasks.specs.Learned.{AreMade, known}
use Rattle.ciel_look_tasks.specs.ObjectPlaces.{objects_view}
use Rattle.ciel_look_tasks.specs.Objects.{AreTaken}
use Rattle.ciel_look_tasks.specs.Orders.{orders}
use Rattle.ciel_look_tasks.specs.ReportView.{makes_view, takes_view}
use Rattle.ciel_look_tasks.specs.Reports.{made, took}
use Rattle.ciel_look_tasks.specs.Rows.{AreFiled}
use Rattle.ciel_look_tasks.specs.Seen.{IsSeenOf, order_again, order_ended, order_made, order_start, order_took, row_task, taken_cut, taken_loss}
use Rattle.ciel_look_tasks.specs.Seen.{taken_objects, taken_stacked, taken_stacks}
use Rattle.ciel_look_tasks.specs.StackPlaces.{stack_counts, stacks_of, stacks_view}
use Rattle.ciel_look_tasks.specs.Stacks.{stacked}
use Rattle.ciel_look_tasks.specs.Tasks.{losses, starts, tasks}
use Rattle.ciel_look_tasks.specs.SceneView.{order_view, row_view, scene_view, taken_view}
use Rattle.ciel_look_tasks.specs.View.{agains_view, happened_view, headings, ids, losses_view, numbers, order_ends, orders_view, rows, run_number, start_view, starts_view}
use Rattle.ciel_look_tasks.specs.declared.scene.Loss.{Loss}
use Rattle.ciel_look_tasks.specs.declared.scene.Run.{Run}
use Rattle.ciel_look_tasks.specs.declared.scene.Scene.{Scene}
use Rattle.ciel_look_tasks.specs.declared.scene.Task.{Task}
use Rattle.ciel_look_tasks.proofs.CutSteps.{picked_map}
use Rattle.ciel_look_tasks.proofs.SceneRows.{ending_seen, scene_descs, scene_rows}

pub rows_ids : (s : Scene) → map row_task (map (row_view s) s.roll.tasks.items) ≡ ids s.roll.tasks.items
rows_ids s = map-map row_task (row_view s) s.roll.tasks.items

orders_seen : (rs : List Run) → map order_ended (map order_view rs) ≡ orders_view rs
orders_seen [] = refl
orders_seen (r ∷ rs) =
    ap (λ e. (start_view r, e) ∷ map order_ended (map order_view rs)) (ending_seen r.end) ∙ ap (λ os. order_ends r ∷ os) (orders_seen rs)

abbrev task_id : Task → TaskId
task_id t = t.id

cuts_seen : (s : Scene) (ls : List Loss) → map taken_cut (map (taken_view s) ls) ≡ cuts_view (numbers s.runs.items) ls
cuts_seen s [] = refl
cuts_seen s (l ∷ ls) =
    ap (λ c. c ∷ map taken_cut (map (taken_view s) ls)) (picked_map run_number s.runs.items l.runs.items)
    ∙ ap (λ cs. cut_view (numbers s.runs.items) l ∷ cs) (cuts_seen s ls)

stacked_seen : (s : Scene) (ls : List Loss) → map taken_stacked (map (taken_view s) ls) ≡ stacks_view (ids s.roll.tasks.items) ls
stacked_seen s [] = refl
stacked_seen s (l ∷ ls) =
    ap (λ c. c ∷ map taken_stacked (map (taken_view s) ls)) (picked_map task_id s.roll.tasks.items l.stacks.items)
    ∙ ap (λ cs. stacks_of (ids s.roll.tasks.items) l ∷ cs) (stacked_seen s ls)

pub scene_told : (s : Scene) (head : Head) (ts : List Told) → ids s.roll.tasks.items ≡ tasks ts
    → AreDescribed head ts (knowns s.known.all.items) (headings s.roll.tasks.items)
    → AreFiled (rows s.roll.tasks.items) (starts_view s.runs.items) → starts_view s.runs.items ≡ starts ts → agains_view s.runs.items ≡ agains ts
    → orders_view s.runs.items ≡ orders ts → takes_view s.runs.items ≡ took head ts → makes_view s.runs.items ≡ made head ts
    → losses_view s.losses.items ≡ losses ts → cuts_view (numbers s.runs.items) s.losses.items ≡ cuts ts
    → stacks_view (ids s.roll.tasks.items) s.losses.items ≡ stacked ts → stack_counts s.losses.items ≡ map length (stacked ts)
    → AreTaken head ts (objects_view s.losses.items) → knowns s.known.all.items ≡ known head ts
    → AreMade (short head) s.known.all.items → happened_view s.happened.items ≡ happened ts → IsSeenOf head ts (scene_view s)
scene_told s head ts a p r b g o t u c k x n j d m w =
    record {
      tasks = rows_ids s ∙ a;
      descs = scene_descs s head ts p;
      rows = scene_rows s r;
      starts = map-map order_start order_view s.runs.items ∙ b;
      again = map-map order_again order_view s.runs.items ∙ g;
      orders = orders_seen s.runs.items ∙ o;
      took = map-map order_took order_view s.runs.items ∙ t;
      made = map-map order_made order_view s.runs.items ∙ u;
      losses = map-map taken_loss (taken_view s) s.losses.items ∙ c;
      cuts = cuts_seen s s.losses.items ∙ k;
      stacked = stacked_seen s s.losses.items ∙ x;
      stacks = map-map taken_stacks (taken_view s) s.losses.items ∙ n;
      objects = subst (AreTaken head ts) (sym (map-map taken_objects (taken_view s) s.losses.items)) j;
      known = d;
      makers = m;
      happened = w;
    }

-- the tasks alone
pub ids_told : (s : Scene) (head : Head) (ts : List Told) → IsSeenOf head ts (scene_view s) → ids s.roll.tasks.items ≡ tasks ts
ids_told s head ts h = sym (rows_ids s) ∙ h.tasks
