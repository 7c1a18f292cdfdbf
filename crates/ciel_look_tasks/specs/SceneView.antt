-- What is seen of the code's scenes.
use Rattle.std.specs.Prelude.{ℕ, ◌-◌, List, [], ◌∷◌, flat_map, length, map, slice_get, take, Option, Some, None}
use Rattle.ciel_look_told.specs.View.{outcome_view}
use Rattle.ciel_look_told.specs.declared.told.Outcome.{Outcome}
use Rattle.ciel_look_tasks.specs.Heads.{own_desc}
use Rattle.ciel_look_tasks.specs.Known.{knowns, makers, named_at}
use Rattle.ciel_look_tasks.specs.Seen.{Close, Order, Row, Seen, Taken, lost, out, told}
use Rattle.ciel_look_tasks.specs.View.{happened_view, ids, loss_view, run_number, start_view}
use Rattle.ciel_look_tasks.specs.declared.scene.End.{End}
use Rattle.ciel_look_tasks.specs.declared.scene.How.{How}
use Rattle.ciel_look_tasks.specs.declared.scene.Loss.{Loss}
use Rattle.ciel_look_tasks.specs.declared.scene.Run.{Run}
use Rattle.ciel_look_tasks.specs.declared.scene.Scene.{Scene}
use Rattle.ciel_look_tasks.specs.declared.scene.Task.{Task}

-- the names that a saved stack waits for
abbrev pub waits_of : Outcome → List (List ℕ)
waits_of (Outcome.Made weights) = []
waits_of (Outcome.Saved j weight waits) = waits
waits_of (Outcome.Answer weight) = []
waits_of (Outcome.Fault fault) = []
waits_of (Outcome.Missing name loss) = []

abbrev pub how_view : How → Close
how_view (How.Told outcome made) = told (outcome_view outcome) (waits_of outcome)
how_view (How.Lost loss) = lost

abbrev pub end_view : Option End → Close
end_view None = out
end_view (Some end) = how_view end.how

-- the objects that an order took along, and those that it made
abbrev pub took_at : Option End → List (List ℕ)
took_at None = []
took_at (Some end) = end.took.items

abbrev pub made_how : How → List (List ℕ)
made_how (How.Told outcome made) = made.items
made_how (How.Lost loss) = []

abbrev pub made_at : Option End → List (List ℕ)
made_at None = []
made_at (Some end) = made_how end.how

abbrev pub order_view : Run → Order
order_view r = record { start = start_view r; again = r.again; close = end_view r.end; took = took_at r.end; made = made_at r.end }

-- one, or none
abbrev pub one_of : {A : Type 0} → Option A → List A
one_of None = []
one_of (Some x) = x ∷ []

-- those of a list that stand at these places
abbrev pub picked : {A : Type 0} → List A → List ℕ → List A
picked xs places = flat_map (λ i. one_of (slice_get xs i)) places

abbrev pub row_view : Scene → Task → Row
row_view s t =
    record {
      task = t.id;
      desc = own_desc t.id (named_at s.known.all.items t.known);
      orders = map order_view (picked s.runs.items (take 8 t.runs.items));
      others = length t.runs.items - 8;
    }

abbrev pub taken_view : Scene → Loss → Taken
taken_view s l =
    record {
      loss = loss_view l;
      objects = l.objects.items;
      stacks = length l.stacks.items;
      stacked = ids (picked s.roll.tasks.items l.stacks.items);
      cut = map run_number (picked s.runs.items l.runs.items);
      cut_starts = map start_view (picked s.runs.items l.runs.items);
    }

abbrev pub scene_view : Scene → Seen
scene_view s =
    record {
      known = knowns s.known.all.items;
      makers = makers s.known.all.items;
      rows = map (row_view s) s.roll.tasks.items;
      orders = map order_view s.runs.items;
      losses = map (taken_view s) s.losses.items;
      copies = length s.copies.items;
      happened = happened_view s.happened.items;
    }
