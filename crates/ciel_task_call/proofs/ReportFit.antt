-- The report of a run fits its order, in each state of a master whose table has rows for the names of the order.
use Rattle.std.proofs.Common.{◌≡◌, ◌<◌, ℕ, suc, List, [], ◌∷◌, ◌++◌, map, append_assoc, length, Bool, true, false, cond, Option, Some, None, IsSome}
use Rattle.std.proofs.Common.{◌⊎◌, inl, inr, refl, sym, ap, subst, ◌∙◌, slice_get, arith}
use Rattle.std.specs.List.{IsDistinct}
use Rattle.std.specs.Option.{option_map}
use Rattle.std.proofs.lemmas.List.{append-nil, map-append}
use Rattle.sky_base.specs.Eval.{Body, bind, body_of}
use Rattle.sky_base.specs.Name.{digested, held_name}
use Rattle.sky_base.specs.ObjectView.{desc_view, object_view}
use Rattle.sky_base.specs.Res.{Object, object_refs}
use Rattle.sky_base.specs.Tree.{Script}
use Rattle.sky_base.specs.Read.{Frame}
use Rattle.sky_base.specs.Val.{Desc, Pairs, Val, Vals, call, distinct, input, known, out, pairs_refs, refs, same_text, vals_refs}
use Rattle.sky_base.specs.View.{view}
use Rattle.sky_base.specs.declared.object.Desc1.{Desc1}
use Rattle.sky_base.specs.declared.object.Named.{Named}
use Rattle.sky_base.specs.declared.object.TaskId.{TaskId}
use Rattle.sky_base.proofs.Exact.{exact_text, self_text}
use Rattle.sky_base_law.specs.Sound.{SoundDesc}
use Rattle.sky_base_law.specs.Tasks.{Each, In}
use Rattle.sky_base_law.proofs.Lists.{some_is}
use Rattle.sky_base_law.proofs.TaskOutputs.{distinct_in, in_distinct, in_each}
use Rattle.ciel_task_call.specs.Exactly.{gone_of}
use Rattle.ciel_task_call.specs.Knows.{Known as Knows, LeavesKnown, inside_refs}
use Rattle.ciel_task_call.specs.Onward.{IsRead}
use Rattle.ciel_task_call.specs.Step.{Step}
use Rattle.sky_state.specs.Pending.{all_refs, frames_refs, held_in, last_refs, pending_in, stack_refs, stand_wait, top_refs, waited_refs}
use Rattle.sky_state.specs.Stand.{Stand}
use Rattle.sky_state.specs.Start.{StartsIn}
use Rattle.ciel_task_call.specs.Found.{CameFrom, Further, HasAllOutputs}
use Rattle.ciel_master_board.specs.Board.{start_refs}
use Rattle.ciel_master_board.specs.Reports.{IsNamed, copy_names, learned_all, named_view}
use Rattle.ciel_master_board.specs.Sound.{CopyFits, EndFits, FitsIn, OutputFits}
use Rattle.ciel_master_board.proofs.LearnedNames as learn
use Rattle.ciel_master_board.proofs.SoundLemmas.{all_keeps}
use Rattle.ciel_journal.specs.Job as j
use Rattle.ciel_name.specs.Names.{first_output}
use Rattle.ciel_name_law.specs.Typed.{NamedUseNothing}
use Rattle.ciel_name_law.proofs.Bare.{sound_spelled}
use Rattle.ciel_name_law.proofs.Made.{script_uses}
use Rattle.ciel_name_law.specs.Told.{DescTold}
use Rattle.ciel_store.specs.Seen.{ShelvesSeen}
use Rattle.ciel_table.specs.Learning.{learned, new_row}
use Rattle.ciel_table.specs.Named.{found, place_of}
use Rattle.ciel_table.proofs.Lists.{all_more}
use Rattle.ciel_table.specs.Seen.{Known, TableSeen, find, row_name}
use Rattle.ciel_table.specs.declared.row.Row.{Row}
use Rattle.ciel_want.specs.Waited.{AllKnown, names_of}
use Rattle.ciel_task_inputs.specs.Gathers.{lies_of}
use Rattle.ciel_task_inputs.specs.Lies.{held_name as name_of_held, lies_at, object_in}
use Rattle.ciel_task_inputs.proofs.GatheredInputs.{each_found}
use Rattle.ciel_task_order.specs.Orders.{Describes, OrderSound, Saved, ShowsMain, names_in}
use Rattle.ciel_task_order.specs.Performs.{HasRows, InsideKnown, OutputsKnown, SpotKnown, StackKnown, block_refs}
use Rattle.ciel_task_order.specs.Views.{P, copies_view, how_view, order_view, output_view}
use Rattle.ciel_task_order.specs.declared.block.Block.{Block}
use Rattle.ciel_task_order.specs.declared.block.Held.{Held}
use Rattle.ciel_task_order.specs.declared.block.Spot.{Spot}
use Rattle.ciel_task_order.specs.declared.order.Order.{Order}
use Rattle.ciel_task_order.specs.declared.report.End as rust_end
use Rattle.ciel_task_order.specs.declared.report.Report as rust
use Rattle.ciel_task_inputs.specs.Brought.{lies_known}
use Rattle.ciel_task_inputs.proofs.CopiedObjects.{copies_fit, copies_named}
use Rattle.ciel_task_call.proofs.FoundInputs.{lies_found, lies_none}
use Rattle.ciel_task_call.specs.Begins.{BeginsAt, HasState, IsFrom, IsStartOf}
use Rattle.ciel_task_call.specs.Ends.{EndIs}
use Rattle.ciel_task_call.specs.Runs.{Went, brings}
use Rattle.ciel_task_call.proofs.CallVariables.{behind, bound_from, in_front}
use Rattle.ciel_task_call.proofs.SpawnedNames.{names_are, same_made}

none_not : {A : Type 0} {a : A} → None ≡ Some a → ⊥
none_not e = cc

-- ---- tables

module _ (t : TableSeen P) where
  -- names of descriptions that are known one by one
  pub all_known : (ds : List (Desc (List ℕ))) → ((d : Desc (List ℕ)) → In d ds → Known t (held_name d)) → AllKnown t (names_of ds)
  all_known [] f = tt
  all_known (d ∷ ds) f = (f d (inl refl), all_known ds (λ e i. f e (inr i)))

  pub once_known : (ds : List (Desc (List ℕ))) → ((d : Desc (List ℕ)) → In d ds → Known t (held_name d))
      → AllKnown t (names_of (distinct same_text ds))
  once_known ds f = all_known (distinct same_text ds) (λ d i. f d (distinct_in same_text exact_text self_text ds d i))

  pub known_in : (ds : List (Desc (List ℕ))) (d : Desc (List ℕ)) → AllKnown t (map held_name ds) → In d ds → Known t (held_name d)
  known_in [] d a i = absurd i
  known_in (e ∷ ds) d a (inl q) = subst (λ x. Known t (held_name x)) (sym q) a.0
  known_in (e ∷ ds) d a (inr i) = known_in ds d a.1 i

  pub known_of : (ns : List (List ℕ)) (n : List ℕ) → AllKnown t ns → In n ns → Known t n
  known_of [] n a i = absurd i
  known_of (m ∷ ns) n a (inl q) = subst (Known t) (sym q) a.0
  known_of (m ∷ ns) n a (inr i) = known_of ns n a.1 i

  pub map_known : (ds : List (Desc (List ℕ))) → ((d : Desc (List ℕ)) → In d ds → Known t (held_name d)) → AllKnown t (map held_name ds)
  map_known [] f = tt
  map_known (d ∷ ds) f = (f d (inl refl), map_known ds (λ e i. f e (inr i)))

pub grown_known : (digest : List ℕ → List ℕ) (ns : List Named) (t : TableSeen P) (ms : List (List ℕ)) → AllKnown t ms → AllKnown (learned_all digest ns t) ms
grown_known digest ns t ms a = all_more (Known t) (Known (learned_all digest ns t)) (all_keeps digest ns t) ms a

-- one that is learned has a row then
last_place : (rs : List (Row P)) (r : Row P) → IsSome (place_of row_name r.name (rs ++ r ∷ []))
last_place [] r = go (same_text r.name r.name) (self_text r.name)
  where
    go : (b : Bool) → b ≡ true → IsSome (cond b (Some 0) (option_map suc None))
    go true e = refl
    go false e = cc
last_place (x ∷ rs) r = go (same_text r.name x.name) (place_of row_name r.name (rs ++ r ∷ [])) refl (last_place rs r)
  where
    go : (b : Bool) (o : Option ℕ) → place_of row_name r.name (rs ++ r ∷ []) ≡ o → IsSome (place_of row_name r.name (rs ++ r ∷ []))
        → IsSome (cond b (Some 0) (option_map suc o))
    go true o e h = refl
    go false (Some i) e h = refl
    go false None e h = subst IsSome e h

one_learned : (digest : List ℕ → List ℕ) (n : Named) (t : TableSeen P) → Known (learned digest n t) n.name
one_learned digest n t = go (learn.comes digest n t)
  where
    is_some : (o : Option ℕ) → (o ≡ None → ⊥) → IsSome o
    is_some None h = absurd (h refl)
    is_some (Some i) h = refl

    go : learn.Comes digest n t → Known (learned digest n t) n.name
    go (learn.there e r i q some f) = subst (λ rs. IsSome (place_of row_name n.name rs)) (sym e) (is_some (find n.name t) some)
    go (learn.new e none) = subst (λ rs. IsSome (place_of row_name n.name rs)) (sym e) (last_place t.rows (new_row digest n))

all_learned : (digest : List ℕ → List ℕ) (ns : List Named) (t : TableSeen P) → Each (λ (n : Named). Known (learned_all digest ns t) n.name) ns
all_learned digest [] t = tt
all_learned digest (n ∷ ns) t =
    (all_keeps digest ns (learned digest n t) n.name (one_learned digest n t), all_learned digest ns (learned digest n t))

-- ---- the order

module _ (digest : List ℕ → List ℕ) (shelves : ShelvesSeen) (sc : Script) (inputs : List (List ℕ × List ℕ)) (order : Order) (x : Stand (List ℕ))
    (b : BeginsAt sc order x) (sound : OrderSound digest shelves sc (length inputs) order) (state : HasState order.desc) (r : rust.Report)
    (w : Went digest shelves sc inputs order x r) (t0 : TableSeen P) (rows : HasRows digest t0 order) where
  abbrev items : List Named
  items = r.spawned.items

  abbrev views : List (Desc (List ℕ))
  views = map named_view items

  abbrev t : TableSeen P
  t = learned_all digest items t0

  more : (n : List ℕ) → Known t0 n → Known t n
  more n k = all_keeps digest items t0 n k

  -- ---- what is known from the beginning

  main_known : (task : TaskId) (desc : Option Desc1) → Describes digest sc (names_in order.inputs.items) task desc → desc ≡ None
      → ShowsMain order task → Known t0 order.main
  main_known TaskId.Show desc h e main = known_of t0 (names_in order.inputs.items) order.main rows.brought main
  main_known (TaskId.Of n) None h e main = absurd h
  main_known (TaskId.Of n) (Some d) h e main = absurd (none_not (sym e))

  saved_main : (p : Option P) → order.saved ≡ p → p ≡ None → Saved shelves sc order p → ShowsMain order order.task
  saved_main None e q h = h.1
  saved_main (Some p) e q h = absurd (none_not (sym q))

  call_known : (f : List ℕ) (c : Pairs (List ℕ)) (vs : Vals (List ℕ)) (o : Option Body) → StartsIn o f c vs x
      → AllKnown t0 (names_of (distinct same_text (pairs_refs c ++ vals_refs vs))) → (d : Desc (List ℕ)) → In d (all_refs x)
      → Known t0 (held_name d)
  call_known f c vs None s a d i = absurd s
  call_known f c vs (Some y) s a d i = arg (bound_from y.params vs c d (first (pairs_refs (bind y.params vs c)) (subst (λ z. In d (all_refs z)) s i)))
    where
      first : (ds : List (Desc (List ℕ))) → In d ((ds ++ []) ++ []) → In d ds
      first ds i = subst (In d) (append-nil ds) (subst (In d) (append-nil (ds ++ [])) i)

      one_known : (ds : List (Desc (List ℕ))) → AllKnown t0 (names_of (distinct same_text ds)) → In d ds → Known t0 (held_name d)
      one_known ds a i = among (distinct same_text ds) a (in_distinct same_text exact_text self_text ds d i)
        where
          among : (es : List (Desc (List ℕ))) → AllKnown t0 (names_of es) → In d es → Known t0 (held_name d)
          among [] a i = absurd i
          among (e ∷ es) a (inl q) = subst (λ z. Known t0 (held_name z)) (sym q) a.0
          among (e ∷ es) a (inr i) = among es a.1 i

      arg : In d (vals_refs vs) ⊎ In d (pairs_refs c) → Known t0 (held_name d)
      arg (inl k) = one_known (pairs_refs c ++ vals_refs vs) a (behind d (pairs_refs c) (vals_refs vs) k)
      arg (inr k) = one_known (pairs_refs c ++ vals_refs vs) a (in_front d (pairs_refs c) (vals_refs vs) k)

  start_known : (desc : Option Desc1) → order.desc ≡ desc → order.saved ≡ None → IsStartOf sc order.main desc x → (d : Desc (List ℕ))
      → In d (all_refs x) → Known t0 (held_name d)
  start_known None e q s d i = go (subst (λ z. In d (all_refs z)) s.0 i)
    where
      go : In d (known order.main ∷ []) → Known t0 (held_name d)
      go (inl same) = subst (λ z. Known t0 (held_name z)) (sym same)
          (main_known order.task order.desc sound.describes e (saved_main order.saved refl q sound.saved))
      go (inr i) = absurd i
  start_known (Some (Desc1.Call f c vs)) e q s d i = call_known f c vs (body_of f sc) s.0 (subst (InsideKnown t0) e rows.inside) d i
  start_known (Some (Desc1.Exec y z m k)) e q s d i = absurd s
  start_known (Some (Desc1.Input k)) e q s d i = absurd s

  -- what the state there refers to has rows
  state_known : (d : Desc (List ℕ)) → In d (all_refs x) → Known t0 (held_name d)
  state_known d i = go order.saved refl b.from rows.stack
    where
      go : (p : Option P) → order.saved ≡ p → IsFrom sc order p x → StackKnown t0 p → Known t0 (held_name d)
      go None e h k = start_known order.desc refl e h d i
      go (Some p) e h k = known_in t0 (all_refs x) d (subst (λ z. AllKnown t0 (map held_name (block_refs z))) h k) i

  -- and so has what an object refers to that is brought along
  object_known : (n : List ℕ) (o : Object (List ℕ)) → lies_of inputs order.inputs.items n ≡ Some o → (d : Desc (List ℕ)) → In d (object_refs o)
      → Known t0 (held_name d)
  object_known n o e d i = go (found name_of_held n order.inputs.items) refl
    where
      of_block : (z : Block) → object_in z ≡ Some o → AllKnown t0 (map held_name (block_refs z)) → Known t0 (held_name d)
      of_block (Block.Object y) q a = known_in t0 (object_refs (object_view y)) d a
          (subst (λ z. In d (object_refs z)) (sym (some_is (object_view y) o q)) i)
      of_block (Block.Frozen s) q a = absurd (none_not q)

      of_input : (y : Option (List ℕ × List ℕ)) → option_map (λ (z : List ℕ × List ℕ). Object.bytes z.1) y ≡ Some o → Known t0 (held_name d)
      of_input None q = absurd (none_not q)
      of_input (Some z) q = absurd (subst (λ u. In d (object_refs u)) (sym (some_is (Object.bytes z.1) o q)) i)

      of_spot : (sp : Spot) → lies_at inputs sp ≡ Some o → SpotKnown t0 sp → Known t0 (held_name d)
      of_spot (Spot.Shelf p) q k = of_block p.at.value q k
      of_spot (Spot.Input m) q k = of_input (slice_get inputs m) q

      go : (y : Option Held) → found name_of_held n order.inputs.items ≡ y → Known t0 (held_name d)
      go None f = absurd (none_not (sym (lies_none shelves sc inputs order.inputs.items n f) ∙ e))
      go (Some h) f = of_spot h.at (sym (lies_found shelves sc inputs order.inputs.items n h f) ∙ e)
          (each_found name_of_held (λ (g : Held). SpotKnown t0 g.at) n order.inputs.items h rows.carried f)

  base_known : (d : Desc (List ℕ)) → CameFrom (brings digest shelves sc inputs order) x d → Known t0 (held_name d)
  base_known d (inl i) = state_known d i
  base_known d (inr (e, o, found, i)) = go e found
    where
      go : (e : Desc (List ℕ)) → lies_known inputs order.inputs.items e ≡ Some o → Known t0 (held_name d)
      go (call f c vs) q = absurd (none_not q)
      go (out y z m k) q = absurd (none_not q)
      go (input k) q = absurd (none_not q)
      go (known n) q = object_known n o q d i

  -- ---- what was spawned

  in_views : (d : Desc (List ℕ)) (ns : List Named) → In d (map named_view ns) → (n : Named) × In n ns × (d ≡ named_view n)
  in_views d [] i = absurd i
  in_views d (n ∷ ns) (inl e) = (n, inl refl, e)
  in_views d (n ∷ ns) (inr i) = let q = in_views d ns i in (q.0, inr q.1, q.2)

  named : Each (λ (n : Named). n.name ≡ digested digest (named_view n)) items
  named = names_are digest items w.knows.made w.knows.grew

  -- each has a row under its name
  spawned_known : (d : Desc (List ℕ)) → In d views → Known t (digested digest d)
  spawned_known d i =
      let n = in_views d items i in
      let name : n.0.name ≡ digested digest (named_view n.0) = in_each (λ (n : Named). n.name ≡ digested digest (named_view n)) items n.0 named n.1 in
      subst (Known t) (name ∙ ap (digested digest) (sym n.2)) (in_each (λ (n : Named). Known t n.name) items n.0 (all_learned digest items t0) n.1)

  known_made : views ≡ w.knows.made
  known_made = same_made digest items w.knows.made w.knows.grew

  -- what is known by its name has a row
  pub knows_known : (earlier : List (Desc (List ℕ))) → ((m : Desc (List ℕ)) → In m earlier → In m views) → (d : Desc (List ℕ))
      → Knows digest (CameFrom (brings digest shelves sc inputs order) x) earlier d → Known t (held_name d)
  knows_known earlier sub d (inl h) = more (held_name d) (base_known d h)
  knows_known earlier sub d (inr i) = go earlier sub i
    where
      go : (ms : List (Desc (List ℕ))) → ((m : Desc (List ℕ)) → In m ms → In m views) → In d (map (λ m. known (digested digest m)) ms)
          → Known t (held_name d)
      go [] sub i = absurd i
      go (m ∷ ms) sub (inl e) = subst (λ z. Known t (held_name z)) (sym e) (spawned_known m (sub m (inl refl)))
      go (m ∷ ms) sub (inr i) = go ms (λ y k. sub y (inr k)) i

  -- what stands inside it has rows
  refs_start : (d : Desc1) → ((e : Desc (List ℕ)) → In e (inside_refs (desc_view d)) → Known t (held_name e)) → AllKnown t (start_refs d)
  refs_start (Desc1.Call f c vs) h = once_known t (pairs_refs c ++ vals_refs vs) h
  refs_start (Desc1.Exec y z m k) h = once_known t (refs (view z)) h
  refs_start (Desc1.Input k) h = tt

  inside_from : (before after : List Named) → items ≡ before ++ after → Each (λ (n : Named). AllKnown t (start_refs n.desc)) after
  inside_from before [] e = tt
  inside_from before (n ∷ after) e = (
    refs_start n.desc (λ d i. knows_known (map named_view before) sub d
        (in_each (Knows digest (CameFrom (brings digest shelves sc inputs order) x) (map named_view before)) (inside_refs (named_view n)) d
        (w.knows.within (map named_view before) (map named_view after) (named_view n) split) i)),
    inside_from (before ++ n ∷ []) after (e ∙ sym (append_assoc before (n ∷ []) after)),
  )
    where
      all_views : views ≡ map named_view before ++ named_view n ∷ map named_view after
      all_views = ap (map named_view) e ∙ map-append named_view before (n ∷ after)

      split : w.knows.made ≡ map named_view before ++ named_view n ∷ map named_view after
      split = sym known_made ∙ all_views

      sub : (m : Desc (List ℕ)) → In m (map named_view before) → In m views
      sub m i = subst (In m) (sym all_views) (in_front m (map named_view before) (named_view n ∷ map named_view after) i)

  -- and its task has one
  first_known : (d : Desc (List ℕ)) → In d views → SoundDesc sc d → Known t (digested digest (first_output d))
  first_known (call f c vs) i s = spawned_known (call f c vs) i
  first_known (out y z m k) i s =
      let all : HasAllOutputs w.whole.made = w.whole.whole in
      let same : views ≡ w.whole.made = same_made digest items w.whole.made w.whole.grew in
      let lt = s.3 in
      spawned_known (out y z m 0) (subst (In (out y z m 0)) (sym same) (all y z m k (subst (In (out y z m k)) same i) 0 (omega (arith, lt))))
  first_known (input k) i s = spawned_known (input k) i
  first_known (known n) i s = spawned_known (known n) i

  sound_made : Each (SoundDesc sc) views
  sound_made = subst (Each (SoundDesc sc)) (sym (same_made digest items w.sound.made w.sound.grew)) w.sound.sound

  tasks_from : (ns : List Named) → ((n : Named) → In n ns → In (named_view n) views)
      → Each (λ (n : Named). Known t (digested digest (first_output (desc_view n.desc)))) ns
  tasks_from [] f = tt
  tasks_from (n ∷ ns) f = (
    first_known (named_view n) (f n (inl refl)) (in_each (SoundDesc sc) views (named_view n) sound_made (f n (inl refl))),
    tasks_from ns (λ m i. f m (inr i)),
  )

  viewed : (n : Named) (ns : List Named) → In n ns → In (named_view n) (map named_view ns)
  viewed n [] i = absurd i
  viewed n (m ∷ ns) (inl e) = inl (ap named_view e)
  viewed n (m ∷ ns) (inr i) = inr (viewed n ns i)

  -- ---- the end

  to_journal : (Q : Named → Type 0) (ns : List Named) → Each Q ns → j.Each Q ns
  to_journal Q [] h = tt
  to_journal Q (n ∷ ns) h = (h.0, to_journal Q ns h.1)

  -- the task of a call has a row
  task_known : (n : List ℕ) → order.task ≡ TaskId.Of n → Known t0 n
  task_known n e = go order.task order.desc e state sound.describes rows.outputs
    where
      same : (m : List ℕ) → TaskId.Of m ≡ TaskId.Of n → m ≡ n
      same m e = cc

      no_root : TaskId.Show ≡ TaskId.Of n → ⊥
      no_root e = cc

      go : (task : TaskId) (desc : Option Desc1) → task ≡ TaskId.Of n → HasState desc
          → Describes digest sc (names_in order.inputs.items) task desc → OutputsKnown digest t0 desc → Known t0 n
      go TaskId.Show desc e st h k = absurd (no_root e)
      go (TaskId.Of m) None e st h k = absurd h
      go (TaskId.Of m) (Some (Desc1.Call f c vs)) e st h k = subst (Known t0) (sym h.0 ∙ same m e) k
      go (TaskId.Of m) (Some (Desc1.Exec y z i l)) e st h k = absurd st
      go (TaskId.Of m) (Some (Desc1.Input l)) e st h k = absurd st

  -- what is waited for is held
  last_all : (d : Desc (List ℕ)) (vs : List (Val (List ℕ))) → In d (last_refs vs) → In d (stack_refs vs)
  last_all d [] i = i
  last_all d (y ∷ []) i = in_front d (refs y) [] i
  last_all d (y ∷ z ∷ vs) i = behind d (refs y) (stack_refs (z ∷ vs)) (last_all d (z ∷ vs) i)

  top_all : (d : Desc (List ℕ)) (fs : List (Frame (List ℕ))) → In d (top_refs fs) → In d (frames_refs fs)
  top_all d [] i = i
  top_all d (f ∷ []) i = in_front d (pairs_refs f.vars ++ stack_refs f.stack) []
      (behind d (pairs_refs f.vars) (stack_refs f.stack) (last_all d f.stack i))
  top_all d (f ∷ g ∷ fs) i = behind d (pairs_refs f.vars ++ stack_refs f.stack) (frames_refs (g ∷ fs)) (top_all d (g ∷ fs) i)

  waited_all : (d : Desc (List ℕ)) (s : Stand (List ℕ)) → In d (waited_refs s) → In d (all_refs s)
  waited_all d (Stand.run q) i = top_all d q.frames i
  waited_all d (Stand.show_at u k) i = i

  pending_all : (d : Desc (List ℕ)) (s : Stand (List ℕ)) → In d (pending_in same_text s) → In d (all_refs s)
  pending_all d s i = waited_all d s (distinct_in same_text exact_text self_text (waited_refs s) d i)

  held_all : (d : Desc (List ℕ)) (s : Stand (List ℕ)) → In d (held_in same_text s) → In d (all_refs s)
  held_all d s i = distinct_in same_text exact_text self_text (all_refs s) d i

  pub made_views : (m : Desc (List ℕ)) → In m w.knows.made → In m views
  made_views m i = subst (In m) (sym known_made) i

  -- what the state after it refers to has rows
  left_known : (new : Stand (List ℕ)) → Each (Knows digest (CameFrom (brings digest shelves sc inputs order) x) w.knows.made) (all_refs new)
      → (d : Desc (List ℕ)) → In d (all_refs new) → Known t (held_name d)
  left_known new h d i = knows_known w.knows.made made_views d
      (in_each (Knows digest (CameFrom (brings digest shelves sc inputs order) x) w.knows.made) (all_refs new) d h i)

  abbrev W : P → ℕ
  W p = p.worker

  brought_known : AllKnown t (names_in order.inputs.items)
  brought_known = all_more (Known t0) (Known t) more (names_in order.inputs.items) rows.brought

  copied_fit : j.Each (CopyFits digest W t (order_view order)) (copies_view r.copied.items)
      × IsDistinct same_text (copy_names (copies_view r.copied.items))
  copied_fit = (
    copies_fit digest shelves inputs order t r.copied.items w.copies.0 brought_known,
    subst (IsDistinct same_text) (sym (copies_named digest shelves inputs order r.copied.items w.copies.0)) w.copies.1,
  )

  gone_wait : (s : Stand (List ℕ)) → gone_of s ≡ stand_wait s
  gone_wait (Stand.run q) = refl
  gone_wait (Stand.show_at u i) = refl

  further_on : (step : Step) (new : Stand (List ℕ)) → step ≡ Step.Waits → Further x step new → order.from < stand_wait new
  further_on Step.Waits new e f = let from : stand_wait x ≡ order.from = b.wait in
      let old = gone_wait x in
      let now = gone_wait new in
      omega (arith, f, from, old, now)
  further_on (Step.Ended o) new e f = absurd (no e)
    where
      no : Step.Ended o ≡ Step.Waits → ⊥
      no q = cc
  further_on (Step.Shown a) new e f = absurd (no e)
    where
      no : Step.Shown a ≡ Step.Waits → ⊥
      no q = cc

  end_fits : (step : Step) (new : Stand (List ℕ)) (end : rust_end.End) → EndIs shelves order.worker order.task step new end
      → LeavesKnown digest (CameFrom (brings digest shelves sc inputs order) x) w.knows.made step new → Further x step new
      → EndFits digest W (order_view order) t (how_view r.copied.items end)
  end_fits (Step.Ended obj) new (rust_end.End.Made ms) (m, one, k) leaves f = (
    subst (λ xs. j.Each (OutputFits digest W t (order_view order)) (map output_view xs)) (sym one)
        (record { known = more m.name (task_known m.name k.name); here = k.lies.worker }, tt),
    copied_fit.0,
    copied_fit.1,
  )
  end_fits (Step.Ended obj) new (rust_end.End.Saved p i waited kept mk) k leaves f = absurd k
  end_fits (Step.Ended obj) new (rust_end.End.Shown a) k leaves f = absurd k
  end_fits (Step.Ended obj) new (rust_end.End.Missing nm loss seen) k leaves f = absurd k
  end_fits Step.Waits new (rust_end.End.Made ms) k leaves f = absurd k
  end_fits Step.Waits new (rust_end.End.Saved p i waited kept mk) k leaves f =
      record {
        later = subst (λ z. order.from < z) (sym k.wait) (further_on Step.Waits new refl f);
        here = k.lies.worker;
        refs = subst (AllKnown t) (sym k.refs) (map_known t (pending_in same_text new) (λ d i. left_known new leaves d (pending_all d new i)));
        holds = subst (AllKnown t) (sym k.holds) (map_known t (held_in same_text new) (λ d i. left_known new leaves d (held_all d new i)));
      }
  end_fits Step.Waits new (rust_end.End.Shown a) k leaves f = absurd k
  end_fits Step.Waits new (rust_end.End.Missing nm loss seen) k leaves f = absurd k
  end_fits (Step.Shown a) new (rust_end.End.Made ms) k leaves f = absurd k
  end_fits (Step.Shown a) new (rust_end.End.Saved p i waited kept mk) k leaves f = absurd k
  end_fits (Step.Shown a) new (rust_end.End.Shown c) k leaves f = (tt, copied_fit.0, copied_fit.1)
  end_fits (Step.Shown a) new (rust_end.End.Missing nm loss seen) k leaves f = absurd k

  -- the report fits in the table after it is learned
  pub fits_in : FitsIn digest W (order_view order) t items (how_view r.copied.items r.end)
  fits_in = record {
    inside = to_journal (λ (n : Named). AllKnown t (start_refs n.desc)) items (inside_from [] items refl);
    tasks = to_journal (λ (n : Named). Known t (digested digest (first_output (desc_view n.desc)))) items
        (tasks_from items (λ n i. viewed n items i));
    end = end_fits w.step w.new r.end w.end w.knows.leaves w.further;
  }

  -- each that is spawned has its name, and can be spelled
  spelled_of : NamedUseNothing sc.funs → (ns : List Named) → ((n : Named) → In n ns → In (named_view n) views)
      → Each (λ (n : Named). n.name ≡ digested digest (named_view n)) ns → Each (λ (n : Named). DescTold (named_view n)) ns
      → j.Each (IsNamed digest) ns
  spelled_of bare [] f names typed = tt
  spelled_of bare (n ∷ ns) f names typed = (
    record {
      name = names.0;
      spelled = sound_spelled sc bare (named_view n) typed.0.0 typed.0.1
          (in_each (SoundDesc sc) views (named_view n) sound_made (f n (inl refl)));
    },
    spelled_of bare ns (λ m i. f m (inr i)) names.1 typed.1,
  )

  bare_script : IsRead sc → NamedUseNothing sc.funs
  bare_script (source, keys, is, few) = subst (λ (z : Script). NamedUseNothing z.funs) (sym is.4) (script_uses keys is.1)

  pub are_named : IsRead sc → j.Each (IsNamed digest) items
  are_named read = spelled_of (bare_script read) items (λ n i. viewed n items i) named w.typed
