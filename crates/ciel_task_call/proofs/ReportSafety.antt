-- The report of a run is safe in each state of a master in which its order is out.
use Rattle.std.proofs.Common.{◌≡◌, ◌<◌, ℕ, suc, List, [], ◌∷◌, ◌++◌, map, length, Bool, true, false, cond, ◌||◌, Option, Some, None, ◌⊎◌, inl, inr, refl, sym, ap}
use Rattle.std.proofs.Common.{subst, ◌∙◌, arith}
use Rattle.std.specs.Option.{option_map}
use Rattle.sky_base.specs.Kept.{Kept}
use Rattle.sky_base.specs.Name.{digested, held_name}
use Rattle.sky_base.specs.ObjectView.{desc_view, object_view}
use Rattle.sky_base.specs.Res.{Object, object_refs}
use Rattle.sky_base.specs.Names.{known_of}
use Rattle.sky_base.specs.Tree.{Script}
use Rattle.sky_base.specs.Val.{Desc, Pairs, Val, Vals, call, dict, fun, input, known, list, no_pairs, no_vals, out, pair, same_text, val}
use Rattle.sky_base.specs.Eval.{is_one_of}
use Rattle.sky_base.specs.View.{view}
use Rattle.sky_base.specs.declared.object.Desc1.{Desc1}
use Rattle.sky_base.specs.declared.object.Named.{Named}
use Rattle.sky_base.specs.declared.object.TaskId.{TaskId}
use Rattle.sky_base_law.specs.Sound.{PairsSound, SoundDesc, SoundObject, SoundVars, ValsSound}
use Rattle.sky_base_law.specs.Tasks.{Each, In}
use Rattle.sky_base_law.proofs.Lists.{none_some, some_is}
use Rattle.sky_base_law.proofs.SoundOps.{caught_kept}
use Rattle.sky_base_law.proofs.TaskOutputs.{in_each}
use Rattle.sky_state.specs.Fits.{Fits}
use Rattle.sky_state.specs.Pending.{held_in, pending_in, stand_wait}
use Rattle.sky_state.specs.Stand.{Stand}
use Rattle.sky_state.specs.Start.{CanStart, SoundVals}
use Rattle.ciel_master_board.specs.Board.{Board, key_number, task_desc}
use Rattle.ciel_master_board.specs.Reports as rep
use Rattle.ciel_master_board.specs.Reports.{Copy, Output, learned_all, made_names, named_view}
use Rattle.ciel_task_inputs.proofs.CopiedObjects.{copies_sound}
use Rattle.ciel_task_inputs.specs.Copies.{IsCopy}
use Rattle.ciel_task_inputs.proofs.GatheredInputs.{each_found}
use Rattle.ciel_task_inputs.specs.Lies.{held_name as name_of_held, is_elsewhere, lies_at, object_in}
use Rattle.ciel_journal.specs.Job as j
use Rattle.ciel_name.specs.Names.{first_output}
use Rattle.ciel_store.specs.Seen.{ShelvesSeen}
use Rattle.ciel_table.specs.Seen.{TableSeen}
use Rattle.ciel_table.specs.Named.{found}
use Rattle.ciel_task_order.specs.Orders.{Describes, HasStack, OfKind, OrderSound, names_in}
use Rattle.ciel_task_order.specs.Orders as orders
use Rattle.ciel_task_order.specs.Performs.{BlockKnown, HasRows, IsMissing, SpotKnown, block_refs}
use Rattle.ciel_task_order.specs.Places.{CopyAt}
use Rattle.ciel_task_order.specs.Views.{P, copies_view, copy_at, how_view, out_view, output_view, report_end}
use Rattle.ciel_task_order.specs.declared.block.Block.{Block}
use Rattle.ciel_task_order.specs.declared.block.Held.{Held}
use Rattle.ciel_task_order.specs.declared.block.Spot.{Spot}
use Rattle.ciel_task_order.specs.declared.order.Order.{Order}
use Rattle.ciel_task_order.specs.declared.report.End as rust_end
use Rattle.ciel_task_order.specs.declared.report.Made.{Made}
use Rattle.ciel_task_order.specs.declared.report.Report as rust
use Rattle.ciel_task_call.specs.Exactly.{FitsAfter}
use Rattle.ciel_task_call.specs.Found.{CameFrom, SameKind}
use Rattle.ciel_task_call.specs.Knows.{Known as Knows, LeavesKnown}
use Rattle.ciel_task_call.specs.Step.{Step}
use Rattle.ciel_want.specs.Waited.{AllKnown}
use Rattle.ciel_master_safe.specs.Reports.{CanWait, EndSafe, ReportSafe, StandsWhole, outputs_of}
use Rattle.ciel_master_safe.specs.Safe.{IsCall, IsStackOf, ObjectLies, Serves}
use Rattle.ciel_task_call.specs.Begins.{BeginsAt, HasState}
use Rattle.ciel_task_call.specs.Ends.{EndIs}
use Rattle.ciel_task_call.specs.Runs.{Ran, Went, brings, lost, stack, went}
use Rattle.ciel_master_safe.specs.Performs.{PerformsSafely}
use Rattle.ciel_store.specs.Seen.{SeatSeen}
use Rattle.ciel_task_call.proofs.ReportFit as fitting
use Rattle.ciel_task_call.proofs.SpawnedNames.{same_made}
use Rattle.ciel_task_call.proofs.OrderPerformed.{kept_kind}

-- ---- what is sound can be served

module _ {N : Type 0} (sc : Script) where
  pairs_vars : (ps : Pairs N) → Kept (dict ps) → PairsSound sc ps → SoundVars sc ps
  pairs_vars no_pairs k h = tt
  pairs_vars (pair x u ps) k h = (
    (record { deep = omega (arith, k.deep); large = omega (arith, k.large) }, h.0),
    pairs_vars ps (record { deep = omega (arith, k.deep); large = omega (arith, k.large) }) h.1,
  )

  vals_each : (vs : Vals N) → Kept (list vs) → ValsSound sc vs → SoundVals sc vs
  vals_each no_vals k h = tt
  vals_each (val u vs) k h = (
    (record { deep = omega (arith, k.deep); large = omega (arith, k.large) }, h.0),
    vals_each vs (record { deep = omega (arith, k.deep); large = omega (arith, k.large) }) h.1,
  )

key_there : (keys : List (List ℕ)) (k : List ℕ) → is_one_of k keys ≡ true → (i : ℕ) × (key_number keys k ≡ Some i)
key_there [] k e = cc
key_there (x ∷ xs) k e = go (same_text k x) e (key_there xs k)
  where
    go : (b : Bool) → b || is_one_of k xs ≡ true → (is_one_of k xs ≡ true → (i : ℕ) × (key_number xs k ≡ Some i)) → (i : ℕ)
        × (cond b (Some 0) (option_map suc (key_number xs k)) ≡ Some i)
    go true h r = (0, refl)
    go false h r = let q = r h in (suc q.0, ap (option_map suc) q.1)

serves_of : (sc : Script) (d : Desc1) → SoundDesc sc (desc_view d) → Serves sc sc.keys d
serves_of sc (Desc1.Call f c vs) h =
    record { call = h.4; caught = pairs_vars sc c (caught_kept f c h.1) h.3; args = vals_each sc vs h.0 h.2 }
serves_of sc (Desc1.Exec x a n i) h = h.1
serves_of sc (Desc1.Input k) h = key_there sc.keys k h.1

to_journal : {A : Type 0} (Q : A → Type 0) (xs : List A) → ((x : A) → In x xs → Q x) → j.Each Q xs
to_journal Q [] h = tt
to_journal Q (x ∷ xs) h = (h x (inl refl), to_journal Q xs (λ y i. h y (inr i)))

in_journal : {A : Type 0} (x : A) (xs : List A) → In x xs → j.In x xs
in_journal x [] i = i
in_journal x (y ∷ ys) (inl e) = inl e
in_journal x (y ∷ ys) (inr i) = inr (in_journal x ys i)

viewed : (n : Named) (ns : List Named) → In n ns → In (named_view n) (map named_view ns)
viewed n [] i = absurd i
viewed n (m ∷ ns) (inl e) = inl (ap named_view e)
viewed n (m ∷ ns) (inr i) = inr (viewed n ns i)

module _ (digest : List ℕ → List ℕ) (shelves : ShelvesSeen) (sc : Script) (inputs : List (List ℕ × List ℕ)) (order : Order) (x : Stand (List ℕ))
    (begins : BeginsAt sc order x) (sound : OrderSound digest shelves sc (length inputs) order) (state : HasState order.desc) (r : rust.Report)
    (w : Went digest shelves sc inputs order x r) (b : Board P) (keys : b.keys ≡ sc.keys)
    (rows : HasRows digest b.table order) (desc : order.desc ≡ task_desc b.main b.table order.task) where
  abbrev items : List Named
  items = r.spawned.items

  abbrev t : TableSeen P
  t = learned_all digest items b.table

  made_sound : (n : Named) → In n items → SoundDesc sc (named_view n)
  made_sound n i =
      in_each (SoundDesc sc) (map named_view items) (named_view n)
      (subst (Each (SoundDesc sc)) (sym (same_made digest items w.sound.made w.sound.grew)) w.sound.sound) (viewed n items i)

  whole_of : (d : Desc (List ℕ)) → In d (map named_view items) → SoundDesc sc d → StandsWhole (map named_view items) d
  whole_of (call f c vs) i s = tt
  whole_of (out y z m k) i s =
      let same : map named_view items ≡ w.whole.made = same_made digest items w.whole.made w.whole.grew in (
        s.3,
        λ l lt. in_journal (out y z m l) (map named_view items) (subst (In (out y z m l)) (sym same)
            (w.whole.whole y z m k (subst (In (out y z m k)) same i) l lt)),
      )
  whole_of (input k) i s = tt
  whole_of (known n) i s = tt

  -- what is known by its name has a row then
  leaves : (o : List (Desc (List ℕ))) → Each (Knows digest (CameFrom (brings digest shelves sc inputs order) x) w.knows.made) o
      → AllKnown t (map held_name o)
  leaves [] h = tt
  leaves (d ∷ ds) h = (
    fitting.knows_known digest shelves sc inputs order x begins sound state r w b.table rows w.knows.made
        (fitting.made_views digest shelves sc inputs order x begins sound state r w b.table rows) d h.0,
    leaves ds h.1,
  )

  -- ---- the outputs

  task_outputs : (m : List ℕ) → order.task ≡ TaskId.Of m → m ∷ [] ≡ outputs_of digest (task_desc b.main b.table order.task)
  task_outputs m e = go order.task order.desc e state sound.describes ∙ ap (outputs_of digest) desc
    where
      go : (z : TaskId) (o : Option Desc1) → z ≡ TaskId.Of m → HasState o → Describes digest sc (names_in order.inputs.items) z o
          → m ∷ [] ≡ outputs_of digest o
      go TaskId.Show o q h k = cc
      go (TaskId.Of n) None q h k = absurd k
      go (TaskId.Of n) (Some (Desc1.Call f c vs)) q h k = let s : n ≡ m = cc in ap (λ z. z ∷ []) (sym s ∙ k.0)
      go (TaskId.Of n) (Some (Desc1.Exec y z i l)) q h k = absurd h
      go (TaskId.Of n) (Some (Desc1.Input l)) q h k = absurd h

  show_outputs : order.task ≡ TaskId.Show → [] ≡ outputs_of digest (task_desc b.main b.table order.task)
  show_outputs e = sym (ap (λ z. outputs_of digest (task_desc b.main b.table z)) e)

  can_wait : CanWait order.task (task_desc b.main b.table order.task)
  can_wait = subst (CanWait order.task) desc (go order.task order.desc state sound.describes)
    where
      go : (z : TaskId) (o : Option Desc1) → HasState o → Describes digest sc (names_in order.inputs.items) z o → CanWait z o
      go TaskId.Show o h k = tt
      go (TaskId.Of n) None h k = absurd k
      go (TaskId.Of n) (Some (Desc1.Call f c vs)) h k = tt
      go (TaskId.Of n) (Some (Desc1.Exec y z i l)) h k = absurd h
      go (TaskId.Of n) (Some (Desc1.Input l)) h k = absurd h

  -- ---- what was copied

  copy_known : (c : Held) → IsCopy shelves order.worker inputs order.inputs.items c → (p : P) → c.at ≡ Spot.Shelf p → BlockKnown t p
  copy_known c k p e = go k.from.at refl k.elsewhere (each_found name_of_held (λ (g : Held). SpotKnown b.table g.at) c.name order.inputs.items k.from
      rows.carried k.found)
    where
      place : k.place ≡ p
      place = let q : Spot.Shelf k.place ≡ Spot.Shelf p = sym k.at ∙ e in cc

      same_refs : (u v : Block) → object_in u ≡ object_in v → AllKnown b.table (map held_name (block_refs v)) → orders.HasObject sc u
          → AllKnown t (map held_name (block_refs u))
      same_refs (Block.Frozen z) v q a h = absurd h
      same_refs (Block.Object y) (Block.Frozen z) q a h = absurd (none_some (object_view y) (sym q))
      same_refs (Block.Object y) (Block.Object z) q a h =
          let s : object_view y ≡ object_view z = some_is (object_view y) (object_view z) q in
          subst (λ o. AllKnown t (map held_name (object_refs o))) (sym s)
          (fitting.grown_known digest items b.table (map held_name (object_refs (object_view z))) a)

      copied : CopyAt shelves order.worker sc c.at
      copied = (copies_sound shelves order.worker inputs order.inputs.items sc (length inputs) sound.spots (c ∷ []) (k, tt)).0

      object : orders.HasObject sc p.at.value
      object = (subst (CopyAt shelves order.worker sc) e copied).object

      go : (s : Spot) → k.from.at ≡ s → is_elsewhere order.worker k.from.at ≡ true → SpotKnown b.table k.from.at → BlockKnown t p
      go (Spot.Input i) q l a = let bad : is_elsewhere order.worker (Spot.Input i) ≡ true = subst (λ z. is_elsewhere order.worker z ≡ true) q l in cc
      go (Spot.Shelf u) q l a =
          same_refs p.at.value u.at.value (ap (λ (z : P). object_in z.at.value) (sym place) ∙ (k.same ∙ ap (lies_at inputs) q))
          (subst (SpotKnown b.table) q a) object

  copies_lie : (cs : List Held) → Each (IsCopy shelves order.worker inputs order.inputs.items) cs
      → j.Each (λ (c : Copy P). ObjectLies digest shelves sc t c.place) (copies_view cs)
  copies_lie [] h = tt
  copies_lie (c ∷ cs) h = go c.at refl (copies_lie cs h.1)
    where
      at : CopyAt shelves order.worker sc c.at
      at = (copies_sound shelves order.worker inputs order.inputs.items sc (length inputs) sound.spots (c ∷ []) (h.0, tt)).0

      go : (s : Spot) → c.at ≡ s → j.Each (λ (c : Copy P). ObjectLies digest shelves sc t c.place) (copies_view cs)
          → j.Each (λ (c : Copy P). ObjectLies digest shelves sc t c.place) (copy_at c.name s (copies_view cs))
      go (Spot.Shelf p) e rest =
          let a = subst (CopyAt shelves order.worker sc) e at in
          (record { place = a.here; object = a.object; known = copy_known c h.0 p e }, rest)
      go (Spot.Input i) e rest = rest

  -- ---- the end

  end_safe : (step : Step) (new : Stand (List ℕ)) (end : rust_end.End) → EndIs shelves order.worker order.task step new end
      → LeavesKnown digest (CameFrom (brings digest shelves sc inputs order) x) w.knows.made step new → FitsAfter sc new step → SameKind x step new
      → EndSafe digest shelves sc b (out_view order) t (how_view r.copied.items end)
  end_safe (Step.Ended o) new (rust_end.End.Made ms) (m, one, k) l f sk = (
    subst (λ xs. made_names (map output_view xs) ≡ outputs_of digest (task_desc b.main b.table order.task)) (sym one) (task_outputs m.name k.name),
    subst (λ xs. j.Each (λ (m : Output P). ObjectLies digest shelves sc t m.place) (map output_view xs)) (sym one) (
      record {
        place = k.lies.here;
        object = subst (orders.HasObject sc) (sym k.lies.block) f;
        known = subst (λ z. AllKnown t (map held_name (block_refs z))) (sym k.lies.block) (leaves (object_refs (object_view o)) l);
      },
      tt,
    ),
    copies_lie r.copied.items w.copies.0,
  )
  end_safe (Step.Ended o) new (rust_end.End.Saved p i waited kept mk) k l f sk = absurd k
  end_safe (Step.Ended o) new (rust_end.End.Shown a) k l f sk = absurd k
  end_safe (Step.Ended o) new (rust_end.End.Missing nm loss seen) k l f sk = absurd k
  end_safe Step.Waits new (rust_end.End.Made ms) k l f sk = absurd k
  end_safe Step.Waits new (rust_end.End.Saved p i waited kept mk) k l f sk = (
    can_wait,
    k.lies.here,
    subst (HasStack (IsStackOf sc order.task i waited kept)) (sym k.lies.block)
        (f, kept_kind order.task x new begins.kind sk, sym k.wait, k.waits, k.keeps),
  )
  end_safe Step.Waits new (rust_end.End.Shown a) k l f sk = absurd k
  end_safe Step.Waits new (rust_end.End.Missing nm loss seen) k l f sk = absurd k
  end_safe (Step.Shown a) new (rust_end.End.Made ms) k l f sk = absurd k
  end_safe (Step.Shown a) new (rust_end.End.Saved p i waited kept mk) k l f sk = absurd k
  end_safe (Step.Shown a) new (rust_end.End.Shown c) k l f sk =
      (show_outputs (root order.task x begins.kind sk), tt, copies_lie r.copied.items w.copies.0)
    where
      root : (z : TaskId) (y : Stand (List ℕ)) → OfKind z y → SameKind y (Step.Shown a) new → z ≡ TaskId.Show
      root TaskId.Show y h s = refl
      root (TaskId.Of m) (Stand.run q) h s = absurd s
      root (TaskId.Of m) (Stand.show_at u i) h s = absurd h
  end_safe (Step.Shown a) new (rust_end.End.Missing nm loss seen) k l f sk = absurd k

  pub went_safe : ReportSafe digest shelves sc b (out_view order) r.spawned.items (report_end r)
  went_safe =
      record {
        serves = to_journal (λ (n : Named). Serves sc b.keys n.desc) items
            (λ n i. subst (λ ks. Serves sc ks n.desc) (sym keys) (serves_of sc n.desc (made_sound n i)));
        whole = to_journal (λ (n : Named). StandsWhole (map named_view items) (named_view n)) items
            (λ n i. whole_of (named_view n) (viewed n items i) (made_sound n i));
        end = end_safe w.step w.new r.end w.end w.knows.leaves w.fits w.kind;
      }

-- what it spawned is sound: what its run made, or nothing
ran_sound : (digest : List ℕ → List ℕ) (shelves : ShelvesSeen) (sc : Script) (inputs : List (List ℕ × List ℕ)) (order : Order)
    → (r : rust.Report) (eye : SeatSeen) → Ran digest shelves sc inputs order eye r → Each (SoundDesc sc) (map named_view r.spawned.items)
ran_sound digest shelves sc inputs order r eye (went x b w) =
    subst (Each (SoundDesc sc)) (sym (same_made digest r.spawned.items w.sound.made w.sound.grew)) w.sound.sound
ran_sound digest shelves sc inputs order r eye (lost x b nm loss l told) =
    subst (λ (ns : List Named). Each (SoundDesc sc) (map named_view ns)) (sym told.spawned) tt
ran_sound digest shelves sc inputs order r eye (stack loss l told) =
    subst (λ (ns : List Named). Each (SoundDesc sc) (map named_view ns)) (sym told.spawned) tt

-- whatever its run came to
pub ran_safe : (digest : List ℕ → List ℕ) (shelves : ShelvesSeen) (sc : Script) (inputs : List (List ℕ × List ℕ)) (order : Order)
    → OrderSound digest shelves sc (length inputs) order → HasState order.desc → (r : rust.Report) (eye : SeatSeen)
    → Ran digest shelves sc inputs order eye r → PerformsSafely digest shelves sc order r
ran_safe digest shelves sc inputs order sound state r eye ran = (ran_sound digest shelves sc inputs order r eye ran, go ran)
  where
    go : Ran digest shelves sc inputs order eye r → (b : Board P) → b.keys ≡ sc.keys → HasRows digest b.table order
        → order.desc ≡ task_desc b.main b.table order.task → (IsMissing (r.end) → ⊥)
        → ReportSafe digest shelves sc b (out_view order) r.spawned.items (report_end r)
    go (went x b w) s keys rows desc none = went_safe digest shelves sc inputs order x b sound state r w s keys rows desc
    go (lost x b nm loss l told) s keys rows desc none = absurd (none (subst IsMissing (sym told.end) tt))
    go (stack loss l told) s keys rows desc none = absurd (none (subst IsMissing (sym told.end) tt))
