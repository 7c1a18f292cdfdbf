-- What a master's table has rows for it keeps rows for, with the same descriptions, and so for what is out.
use Rattle.std.proofs.Common.{◌≡◌, ℕ, List, [], ◌∷◌, map, Option, Some, None, ◌⊎◌, inl, inr, refl, ap, sym, ◌∙◌, subst}
use Rattle.std.specs.List.{AllByRecursion}
use Rattle.sky_base.specs.declared.object.Desc1.{Desc1}
use Rattle.sky_base.specs.declared.object.Named.{Named}
use Rattle.sky_base.specs.declared.object.TaskId.{TaskId}
use Rattle.sky_base_law.specs.Tasks as tasks
use Rattle.ciel_master_board.specs.Board.{Board, OrderOut}
use Rattle.ciel_master_board.specs.Moves.{accepted, lost_at, wait_of, with_copies, with_outputs}
use Rattle.ciel_master_board.specs.Reports as rep
use Rattle.ciel_master_board.specs.Reports.{Copy, End, Output, learned_all}
use Rattle.ciel_master_board.proofs.SoundLemmas.{same_names}
use Rattle.ciel_table.specs.Changes as c
use Rattle.ciel_table.specs.Named.{changed, found}
use Rattle.ciel_table.specs.Seen.{Known, TableSeen, row_name, row_named}
use Rattle.ciel_table.specs.declared.row.Row.{Row}
use Rattle.ciel_table.proofs.ByName.{names_changed, names_mapped}
use Rattle.ciel_task_order.specs.Performs.{HasRows, InsideKnown, OutputsKnown, SpotKnown, StackKnown}
use Rattle.ciel_task_order.specs.Views.{P}
use Rattle.ciel_task_order.specs.declared.block.Held.{Held}
use Rattle.ciel_task_order.specs.declared.block.Spot as given
use Rattle.ciel_task_order.specs.declared.order.Order.{Order}
use Rattle.ciel_master_safe.specs.Laws.{GrowsTo}
use Rattle.ciel_master_safe.specs.Safe.{GoesBy, W}
use Rattle.ciel_master_safe.proofs.TableGrowth.{Grows, all_grow, found_changed, found_mapped, grows_join, grows_self}

pub placed_grows : (n : List ℕ) (p : P) (t : TableSeen P) → Grows t (c.placed n p t)
placed_grows n p t =
    record {
      known = same_names t (c.placed n p t) (names_changed row_name (c.row_with p) (λ r. refl) n t.rows);
      found = λ m r e. pick m r (found_changed row_name (c.row_with p) (λ r. refl) n m t.rows r e);
    }
  where
    pick : (m : List ℕ) (r : Row P) → (found row_name m (changed row_name (c.row_with p) n t.rows) ≡ Some r)
        ⊎ (found row_name m (changed row_name (c.row_with p) n t.rows) ≡ Some (c.row_with p r)) → (q : Row P)
        × (row_named m (c.placed n p t) ≡ Some q) × (q.desc ≡ r.desc)
    pick m r (inl e) = (r, e, refl)
    pick m r (inr e) = (c.row_with p r, e, refl)

pub with_outputs_grows : (ms : List (Output P)) (t : TableSeen P) → Grows t (with_outputs ms t)
with_outputs_grows [] t = grows_self t
with_outputs_grows (m ∷ ms) t =
    grows_join t (c.placed m.name m.place t) (with_outputs (m ∷ ms) t) (placed_grows m.name m.place t) (with_outputs_grows ms (c.placed m.name m.place t))

pub with_copies_grows : (ms : List (Copy P)) (t : TableSeen P) → Grows t (with_copies ms t)
with_copies_grows [] t = grows_self t
with_copies_grows (m ∷ ms) t =
    grows_join t (c.placed m.name m.place t) (with_copies (m ∷ ms) t) (placed_grows m.name m.place t) (with_copies_grows ms (c.placed m.name m.place t))

rows_grow : (t u : TableSeen P) → u.rows ≡ t.rows → Grows t u
rows_grow t u e =
    record {
      known = same_names t u (ap (map row_name) e);
      found = λ n r f. (r, subst (λ rs. found row_name n rs ≡ Some r) (sym e) f, refl);
    }

pub dropped_grows : (w : ℕ) (t : TableSeen P) → Grows t (c.dropped W w t)
dropped_grows w t =
    record {
      known = same_names t (c.dropped W w t) (names_mapped row_name (c.row_without W w) (λ r. refl) t.rows);
      found = λ n r e. (c.row_without W w r, found_mapped row_name (c.row_without W w) (λ r. refl) n t.rows r e, refl);
    }

accepted_grows : (digest : List ℕ → List ℕ) (b : Board P) (x : OrderOut) (spawned : List Named) (end : End P)
    → Grows b.table (accepted digest W b x spawned end).table
accepted_grows digest b x spawned (rep.made ms cs) =
    let t = learned_all digest spawned b.table in
    grows_join b.table (with_outputs ms t) (with_copies cs (with_outputs ms t))
    (grows_join b.table t (with_outputs ms t) (all_grow digest spawned b.table) (with_outputs_grows ms t)) (with_copies_grows cs (with_outputs ms t))
accepted_grows digest b x spawned (rep.saved q) =
    let t = learned_all digest spawned b.table in
    grows_join b.table t (c.saved W x.task (wait_of q) t) (all_grow digest spawned b.table) (rows_grow t (c.saved W x.task (wait_of q) t) refl)
accepted_grows digest b x spawned (rep.missing name loss) = grows_self b.table

pub accepted_rows : (digest : List ℕ → List ℕ) (b : Board P) (x : OrderOut) (spawned : List Named) (end : End P)
    → GrowsTo b.table (accepted digest W b x spawned end).table
accepted_rows digest b x spawned end = (accepted_grows digest b x spawned end).known

pub lost_rows : (b : Board P) (w : ℕ) → GrowsTo b.table (lost_at W w b).table
lost_rows b w = (dropped_grows w b.table).known

-- ---- what an order goes by

goes_grow : (t u : TableSeen P) → Grows t u → (task : TaskId) (d : Option Desc1) → GoesBy t task d → GoesBy u task d
goes_grow t u g TaskId.Show None h = tt
goes_grow t u g TaskId.Show (Some d) h = h
goes_grow t u g (TaskId.Of n) None h = h
goes_grow t u g (TaskId.Of n) (Some d) h = let q = g.found n h.0 h.1 in (q.0, q.1, q.2 ∙ h.2)

pub goes_accepted : (digest : List ℕ → List ℕ) (b : Board P) (x : OrderOut) (spawned : List Named) (end : End P) (task : TaskId) (d : Option Desc1)
    → GoesBy b.table task d → GoesBy (accepted digest W b x spawned end).table task d
goes_accepted digest b x spawned end task d h =
    goes_grow b.table (accepted digest W b x spawned end).table (accepted_grows digest b x spawned end) task d h

pub goes_lost : (b : Board P) (w : ℕ) (task : TaskId) (d : Option Desc1) → GoesBy b.table task d → GoesBy (lost_at W w b).table task d
goes_lost b w task d h = goes_grow b.table (c.dropped W w b.table) (dropped_grows w b.table) task d h

-- ---- what an order brings along

module _ (tb u : TableSeen P) (g : GrowsTo tb u) where
  all_known : (ns : List (List ℕ)) → AllByRecursion (Known tb) ns → AllByRecursion (Known u) ns
  all_known [] a = tt
  all_known (n ∷ ns) a = (g n a.0, all_known ns a.1)

  spot : (s : given.Spot) → SpotKnown tb s → SpotKnown u s
  spot (given.Spot.Shelf p) k = all_known _ k
  spot (given.Spot.Input i) k = tt

  spots : (hs : List Held) → tasks.Each (λ (h : Held). SpotKnown tb h.at) hs → tasks.Each (λ (h : Held). SpotKnown u h.at) hs
  spots [] e = tt
  spots (h ∷ hs) e = (spot h.at e.0, spots hs e.1)

  stack : (o : Option P) → StackKnown tb o → StackKnown u o
  stack None k = tt
  stack (Some p) k = all_known _ k

  inside : (o : Option Desc1) → InsideKnown tb o → InsideKnown u o
  inside None k = tt
  inside (Some d) k = all_known _ k

  outputs : (digest : List ℕ → List ℕ) (o : Option Desc1) → OutputsKnown digest tb o → OutputsKnown digest u o
  outputs digest None k = tt
  outputs digest (Some (Desc1.Call f y vs)) k = g _ k
  outputs digest (Some (Desc1.Exec x v m i)) k = λ j lt. g _ (k j lt)
  outputs digest (Some (Desc1.Input y)) k = tt

pub order_grows : (digest : List ℕ → List ℕ) (tb u : TableSeen P) (order : Order) → GrowsTo tb u → HasRows digest tb order → HasRows digest u order
order_grows digest tb u order g h =
    record {
      brought = all_known tb u g _ h.brought;
      carried = spots tb u g order.inputs.items h.carried;
      stack = stack tb u g order.saved h.stack;
      inside = inside tb u g order.desc h.inside;
      outputs = outputs tb u g digest order.desc h.outputs;
    }
