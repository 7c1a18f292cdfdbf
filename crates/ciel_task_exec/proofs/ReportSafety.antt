-- The report of an executor's order is safe in each state of a master in which the order is out.
use Rattle.std.proofs.Common.{◌≡◌, ℕ, zero, suc, ◌+◌, List, [], ◌∷◌, map, length, Bool, true, Option, Some, None, Ok, Err, Result, Vec, Global, refl, sym, ap, ap₂}
use Rattle.std.proofs.Common.{subst, ◌∙◌, arith}
use Rattle.sky_base.specs.Name.{digested, held_name}
use Rattle.sky_base.specs.ObjectView.{object_view}
use Rattle.sky_base.specs.Res.{Object, object_refs}
use Rattle.sky_base.specs.Tree.{Script}
use Rattle.sky_base.specs.Val.{Desc, Val, out}
use Rattle.sky_base.specs.View.{view}
use Rattle.sky_base.specs.declared.fault.Fault.{Fault}
use Rattle.sky_base.specs.declared.object.Desc1.{Desc1}
use Rattle.sky_base.specs.declared.value.Value.{Value}
use Rattle.sky_base_law.specs.Tasks.{Each, In}
use Rattle.sky_base_law.proofs.Lists.{none_some, some_is}
use Rattle.sky_base_exec.specs.Perform.{output_at, output_of}
use Rattle.ciel_master_board.specs.Board.{Board, task_desc}
use Rattle.ciel_master_board.specs.Reports as rep
use Rattle.ciel_master_board.specs.Reports.{Copy, Output, made_names}
use Rattle.ciel_task_inputs.proofs.CopiedObjects.{copies_sound, sound_there}
use Rattle.ciel_task_inputs.specs.Copies.{Copies, IsCopy}
use Rattle.ciel_task_inputs.proofs.GatheredInputs.{each_found}
use Rattle.ciel_task_inputs.specs.Lies.{held_name as name_of_held, is_elsewhere, lies_at, object_in}
use Rattle.ciel_journal.specs.Job as j
use Rattle.ciel_store.specs.Seen.{ShelvesSeen}
use Rattle.ciel_task_order.specs.Orders.{OrderSound}
use Rattle.ciel_task_order.specs.Orders as orders
use Rattle.ciel_task_order.specs.Performs.{BlockKnown, HasRows, SpotKnown, block_refs}
use Rattle.ciel_task_order.specs.Places.{CopyAt}
use Rattle.ciel_task_order.specs.Views.{P, copies_view, copy_at, how_view, out_view, output_view, report_end}
use Rattle.ciel_task_order.specs.declared.block.Block.{Block}
use Rattle.ciel_task_order.specs.declared.block.Held.{Held}
use Rattle.ciel_task_order.specs.declared.block.Spot.{Spot}
use Rattle.ciel_task_order.specs.declared.order.Order.{Order}
use Rattle.ciel_task_order.specs.declared.report.End as rust
use Rattle.ciel_task_order.specs.declared.report.Made.{Made}
use Rattle.ciel_task_order.specs.declared.report.Report.{Report}
use Rattle.ciel_want.specs.Waited.{AllKnown}
use Rattle.ciel_master_safe.specs.Reports.{EndSafe, ReportSafe, names_from, outputs_of}
use Rattle.ciel_master_safe.specs.Safe.{ObjectLies}
use Rattle.ciel_task_exec.specs.Outputs.{AreOutputs, OutputsFrom}
use Rattle.ciel_task_exec.proofs.ReportPromise.{output_sound}

no_refs : (r : Result (List (List ℕ)) Fault) (i : ℕ) → object_refs (output_of r i) ≡ []
no_refs (Err f) i = refl
no_refs (Ok bs) i = at bs i
  where
    at : (bs : List (List ℕ)) (i : ℕ) → object_refs {N = List ℕ} (output_at bs i) ≡ []
    at [] i = refl
    at (b ∷ bs) zero = refl
    at (b ∷ bs) (suc i) = at bs i

module _ (digest : List ℕ → List ℕ) (shelves : ShelvesSeen) (sc : Script) (inputs : List (List ℕ × List ℕ)) (order : Order)
    (sound : OrderSound digest shelves sc (length inputs) order) (x : List ℕ) (args : Value) (n : ℕ)
    (by : order.desc ≡ Some (Desc1.Exec x args n 0)) (made : Result (List (List ℕ)) Fault) (ms : Vec Made Global) (cs : Vec Held Global)
    (are : AreOutputs digest shelves order.worker x (view args) n made ms.items) (copies : Copies shelves order.worker inputs order.inputs.items cs.items)
    (r : Report) (spawned : r.spawned.items ≡ []) (copied : r.copied ≡ cs) (is_end : r.end ≡ rust.End.Made ms) (b : Board P)
    (rows : HasRows digest b.table order) (desc : order.desc ≡ task_desc b.main b.table order.task) where
  names_are : (i : ℕ) (ms : List Made) → OutputsFrom digest shelves order.worker x (view args) n made i ms
      → made_names (map output_view ms) ≡ names_from digest x (view args) n i (length ms)
  names_are i [] h = refl
  names_are i (m ∷ ms) h = ap₂ (λ y ys. y ∷ ys) h.0.name (names_are (suc i) ms h.1)

  names : made_names (map output_view ms.items) ≡ outputs_of digest (task_desc b.main b.table order.task)
  names =
      names_are 0 ms.items are.1 ∙ (ap (names_from digest x (view args) n 0) are.0 ∙ ap (outputs_of digest) (sym by ∙ desc))

  lie : (i : ℕ) (ms : List Made) → OutputsFrom digest shelves order.worker x (view args) n made i ms
      → j.Each (λ (m : Output P). ObjectLies digest shelves sc b.table m.place) (map output_view ms)
  lie i [] h = tt
  lie i (m ∷ ms) h = (
    record {
      place = h.0.place;
      object = sound_there sc m.place.at.value (output_of made i) h.0.object (output_sound sc made i);
      known = known m.place.at.value h.0.object (sound_there sc m.place.at.value (output_of made i) h.0.object (output_sound sc made i));
    },
    lie (suc i) ms h.1,
  )
    where
      known : (v : Block) → object_in v ≡ Some (output_of made i) → orders.HasObject sc v → AllKnown b.table (map held_name (block_refs v))
      known (Block.Frozen z) q k = absurd k
      known (Block.Object y) q k =
          subst (λ ds. AllKnown b.table (map held_name ds)) (sym (ap object_refs (some_is (object_view y) (output_of made i) q) ∙ no_refs made i)) tt

  copy_known : (c : Held) → IsCopy shelves order.worker inputs order.inputs.items c → (p : P) → c.at ≡ Spot.Shelf p → BlockKnown b.table p
  copy_known c k p e = go k.from.at refl k.elsewhere (each_found name_of_held (λ (g : Held). SpotKnown b.table g.at) c.name order.inputs.items k.from
      rows.carried k.found)
    where
      place : k.place ≡ p
      place = let q : Spot.Shelf k.place ≡ Spot.Shelf p = sym k.at ∙ e in cc

      same_refs : (u v : Block) → object_in u ≡ object_in v → AllKnown b.table (map held_name (block_refs v)) → orders.HasObject sc u
          → AllKnown b.table (map held_name (block_refs u))
      same_refs (Block.Frozen z) v q a h = absurd h
      same_refs (Block.Object y) (Block.Frozen z) q a h = absurd (none_some (object_view y) (sym q))
      same_refs (Block.Object y) (Block.Object z) q a h =
          let s : object_view y ≡ object_view z = some_is (object_view y) (object_view z) q in
          subst (λ o. AllKnown b.table (map held_name (object_refs o))) (sym s) a

      at : CopyAt shelves order.worker sc c.at
      at = (copies_sound shelves order.worker inputs order.inputs.items sc (length inputs) sound.spots (c ∷ []) (k, tt)).0

      go : (s : Spot) → k.from.at ≡ s → is_elsewhere order.worker k.from.at ≡ true → SpotKnown b.table k.from.at → BlockKnown b.table p
      go (Spot.Input i) q l a =
          let bad : is_elsewhere order.worker (Spot.Input i) ≡ true = subst (λ z. is_elsewhere order.worker z ≡ true) q l in cc
      go (Spot.Shelf u) q l a =
          same_refs p.at.value u.at.value (ap (λ (z : P). object_in z.at.value) (sym place) ∙ (k.same ∙ ap (lies_at inputs) q))
          (subst (SpotKnown b.table) q a) (subst (CopyAt shelves order.worker sc) e at).object

  copies_lie : (cs : List Held) → Each (IsCopy shelves order.worker inputs order.inputs.items) cs
      → j.Each (λ (c : Copy P). ObjectLies digest shelves sc b.table c.place) (copies_view cs)
  copies_lie [] h = tt
  copies_lie (c ∷ cs) h = go c.at refl (copies_lie cs h.1)
    where
      at : CopyAt shelves order.worker sc c.at
      at = (copies_sound shelves order.worker inputs order.inputs.items sc (length inputs) sound.spots (c ∷ []) (h.0, tt)).0

      go : (s : Spot) → c.at ≡ s → j.Each (λ (c : Copy P). ObjectLies digest shelves sc b.table c.place) (copies_view cs)
          → j.Each (λ (c : Copy P). ObjectLies digest shelves sc b.table c.place) (copy_at c.name s (copies_view cs))
      go (Spot.Shelf p) e rest =
          let a = subst (CopyAt shelves order.worker sc) e at in
          (record { place = a.here; object = a.object; known = copy_known c h.0 p e }, rest)
      go (Spot.Input i) e rest = rest

  abbrev the_end : rep.End P
  the_end = rep.made (map output_view ms.items) (copies_view cs.items)

  end_is : report_end r ≡ the_end
  end_is = ap₂ (λ (c : Vec Held Global) e. how_view c.items e) copied is_end

  here : ReportSafe digest shelves sc b (out_view order) [] (rep.made (map output_view ms.items) (copies_view cs.items))
  here = record { serves = tt; whole = tt; end = (names, lie 0 ms.items are.1, copies_lie cs.items copies.0) }

  pub made_safe : ReportSafe digest shelves sc b (out_view order) r.spawned.items (report_end r)
  made_safe =
      subst (ReportSafe digest shelves sc b (out_view order) r.spawned.items) (sym end_is)
      (subst (λ ns. ReportSafe digest shelves sc b (out_view order) ns (rep.made (map output_view ms.items) (copies_view cs.items))) (sym spawned)
      here)
