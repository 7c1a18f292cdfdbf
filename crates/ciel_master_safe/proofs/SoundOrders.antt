-- An order of a state that is safe is sound for the shop.
use Rattle.std.proofs.Common.{◌≡◌, ℕ, suc, ◌<◌, List, [], ◌∷◌, length, map, Bool, true, false, cond, ◌||◌, nat_eq, nat_lt, Option, Some}
use Rattle.std.proofs.Common.{None, inl, inr, refl, ap, sym, ◌∙◌, subst, arith, IsSome}
use Rattle.std.specs.List.{AllByRecursion, IsDistinct}
use Rattle.std.specs.Option.{option_and_then, option_map, option_map_or}
use Rattle.sky_base.specs.Name.{digested, held_name}
use Rattle.sky_base.specs.ObjectView.{desc_view}
use Rattle.sky_base.specs.Tree.{Script}
use Rattle.sky_base.specs.Val.{Desc, call, distinct, input, known, out, refs, same_text}
use Rattle.sky_base.specs.View.{view}
use Rattle.sky_base.specs.declared.object.Desc1.{Desc1}
use Rattle.sky_base.specs.declared.object.TaskId.{TaskId}
use Rattle.sky_base.specs.declared.value.Value.{Value}
use Rattle.sky_base_law.specs.Tasks as t
use Rattle.sky_base_law.proofs.Lists.{none_some, some_is}
use Rattle.sky_state.specs.Fits.{Fits}
use Rattle.sky_state.specs.Pending.{all_refs, pending_in, stand_wait}
use Rattle.sky_state.specs.Stand.{Stand}
use Rattle.ciel_master_board.specs.Board.{Board, Brought, Spot, board_graph, brought, brought_names, first_held, held, held_at, idle_of, key_number, least_place}
use Rattle.ciel_master_board.specs.Board.{lesser, or_least, place_at, place_for, shelf, spot_for, spot_in, stack_at, start_refs, wait_number, with_spot}
use Rattle.ciel_master_board.specs.Board.{workers_out}
use Rattle.ciel_master_board.specs.Board as board
use Rattle.ciel_master_board.specs.Moves.{order_for}
use Rattle.ciel_master_board.specs.Sound.{RowSound, SavesSound, WaitSound}
use Rattle.ciel_master_board.proofs.OrderPlaces.{brought_in}
use Rattle.ciel_master_board.proofs.LearnedNames.{found_in, found_named}
use Rattle.ciel_master_board.proofs.SoundLemmas.{idle_in}
use Rattle.ciel_journal.specs.Graph.{Led, Runnable, root, through}
use Rattle.ciel_journal.specs.Job.{Digest, Each, In}
use Rattle.ciel_journal.proofs.Members.{each_of}
use Rattle.ciel_name.specs.Laws.{SpelledDesc}
use Rattle.ciel_name.specs.Names.{first_output}
use Rattle.ciel_store.specs.Seen.{ShelvesSeen}
use Rattle.ciel_table.specs.Named.{found, place_of}
use Rattle.ciel_table.specs.Seen.{Known, TableSeen, has_place, is_input, is_live, is_live_row, last_wait, later, latest, row_name, row_named, saves_name}
use Rattle.ciel_table.specs.declared.row.Row.{Row}
use Rattle.ciel_table.specs.declared.wait.Saves.{Saves}
use Rattle.ciel_table.specs.declared.wait.Wait.{Wait}
use Rattle.ciel_table.proofs.ByName.{found_none}
use Rattle.ciel_task_order.specs.Orders as orders
use Rattle.ciel_task_order.specs.Orders.{CanBegin, Describes, HasStack, OfKind, OrderSound, ShowsMain, SpotSound, names_in}
use Rattle.ciel_task_order.specs.Performs.{HasRows, InsideKnown, OutputsKnown, SpotKnown, StackKnown, block_refs}
use Rattle.ciel_task_order.specs.Views.{P, brought_view, order_view, spot_view}
use Rattle.ciel_task_order.specs.declared.block.Block as rust
use Rattle.ciel_task_order.specs.declared.block.Held.{Held as HeldOf}
use Rattle.ciel_task_order.specs.declared.block.Spot as given
use Rattle.ciel_task_order.specs.declared.order.Order.{Order}
use Rattle.ciel_master_board.specs.Waited.{AllKnown, first_needs, first_refs, made_by, needs, needs_at}
use Rattle.ciel_master_safe.specs.Laws.{OrderIsGood}
use Rattle.ciel_master_safe.specs.Safe.{GoesBy, HasDesc, HasOutputs, IsCall, IsStackOf, ObjectSafe, RowSafe, Safe, SavesSafe, Serves, W, WaitSafe}
use Rattle.ciel_master_safe.proofs.InnerNames.{Once, exec_named, held_named, names_once, once_distinct, start_once, waited_held, waited_named}

pub all_in : {A : Type 0} (Q : A → Type 0) (xs : List A) (x : A) → AllByRecursion Q xs → In x xs → Q x
all_in Q [] x a i = absurd i
all_in Q (y ∷ ys) x a (inl e) = subst Q (sym e) a.0
all_in Q (y ∷ ys) x a (inr i) = all_in Q ys x a.1 i

in_from : (n : Digest) (ns : List Digest) → In n ns → t.In n ns
in_from n [] i = i
in_from n (m ∷ ns) (inl e) = inl e
in_from n (m ∷ ns) (inr i) = inr (in_from n ns i)

-- a key's number is below their number
number_below : (keys : List (List ℕ)) (k : List ℕ) (i : ℕ) → key_number keys k ≡ Some i → i < length keys
number_below [] k i e = absurd (none_some i e)
number_below (x ∷ xs) k i e = go (same_text k x) (key_number xs k) refl e (λ j q. number_below xs k j q)
  where
    go : (b : Bool) (o : Option ℕ) → key_number xs k ≡ o → cond b (Some 0) (option_map suc o) ≡ Some i
        → ((j : ℕ) → key_number xs k ≡ Some j → j < length xs) → i < suc (length xs)
    go true o q g rest = let z : 0 ≡ i = some_is 0 i g in omega (arith, z)
    go false None q g rest = absurd (none_some i g)
    go false (Some j) q g rest =
        let below : j < length xs = rest j q in
        let z : suc j ≡ i = some_is (suc j) i g in
        omega (arith, z, below)

-- ---- places

module _ (Q : P → Type 0) where
  place_has : (w : ℕ) (ps : List P) (p : P) → AllByRecursion Q ps → place_at W w ps ≡ Some p → Q p
  place_has w [] p a e = absurd (none_some p e)
  place_has w (q ∷ qs) p a e = go (nat_eq w q.worker) e (place_has w qs p a.1)
    where
      go : (b : Bool) → cond b (Some q) (place_at W w qs) ≡ Some p → (place_at W w qs ≡ Some p → Q p) → Q p
      go true g rest = subst Q (some_is q p g) a.0
      go false g rest = rest g

  least_has : (ps : List P) (p : P) → AllByRecursion Q ps → least_place W ps ≡ Some p → Q p
  least_has [] p a e = absurd (none_some p e)
  least_has (q ∷ qs) p a e = go (least_place W qs) refl e (λ r g. least_has qs r a.1 g)
    where
      pick : (r : P) → Q r → (b : Bool) → cond b (Some r) (Some q) ≡ Some p → Q p
      pick r h true k = subst Q (some_is r p k) h
      pick r h false k = subst Q (some_is q p k) a.0

      go : (o : Option P) → least_place W qs ≡ o → lesser W q o ≡ Some p → ((r : P) → least_place W qs ≡ Some r → Q r) → Q p
      go None g h rest = subst Q (some_is q p h) a.0
      go (Some r) g h rest = pick r (rest r g) (nat_lt r.worker q.worker) h

  for_has : (w : ℕ) (ps : List P) (p : P) → AllByRecursion Q ps → place_for W w ps ≡ Some p → Q p
  for_has w ps p a e = go (place_at W w ps) refl e
    where
      go : (o : Option P) → place_at W w ps ≡ o → or_least W o ps ≡ Some p → Q p
      go None g h = least_has ps p a h
      go (Some q) g h = subst Q (some_is q p h) (place_has w ps q a g)

-- where there is one, one is taken
least_some : (p : P) (ps : List P) → (q : P) × (least_place W (p ∷ ps) ≡ Some q)
least_some p ps = go (least_place W ps)
  where
    pick : (r : P) (b : Bool) → (q : P) × (cond b (Some r) (Some p) ≡ Some q)
    pick r true = (r, refl)
    pick r false = (p, refl)

    go : (o : Option P) → (q : P) × (lesser W p o ≡ Some q)
    go None = (p, refl)
    go (Some r) = pick r (nat_lt r.worker p.worker)

for_some : (w : ℕ) (ps : List P) → has_place ps ≡ true → (q : P) × (place_for W w ps ≡ Some q)
for_some w [] e = cc
for_some w (p ∷ ps) e = go (place_at W w (p ∷ ps))
  where
    go : (o : Option P) → (q : P) × (or_least W o (p ∷ ps) ≡ Some q)
    go None = least_some p ps
    go (Some q) = (q, refl)

-- ---- what is brought along

module _ (keys : List (List ℕ)) (w : ℕ) (tb : TableSeen P) where
  -- a name of the list that has a spot is brought along
  brings : (n : Digest) (u : Spot P) → spot_for W keys w tb n ≡ Some u → (ns : List Digest) → In n ns → In n (brought_names (brought W keys w tb ns))
  brings n u e [] i = absurd i
  brings n u e (m ∷ ms) i = pick (spot_for W keys w tb m) refl i (brings n u e ms)
    where
      pick : (o : Option (Spot P)) → spot_for W keys w tb m ≡ o → In n (m ∷ ms) → (In n ms → In n (brought_names (brought W keys w tb ms)))
          → In n (brought_names (with_spot W m o (brought W keys w tb ms)))
      pick None f (inl q) rest = let bad : None ≡ Some u = sym f ∙ (ap (spot_for W keys w tb) (sym q) ∙ e) in cc
      pick None f (inr j) rest = rest j
      pick (Some v) f (inl q) rest = inl q
      pick (Some v) f (inr j) rest = inr (rest j)

  -- each one's spot is the one that is found for its name
  abbrev pub IsFor : Brought P → Type 0
  IsFor x = spot_for W keys w tb x.name ≡ Some x.spot

  pub brought_for : (ns : List Digest) → t.Each IsFor (brought W keys w tb ns)
  brought_for [] = tt
  brought_for (m ∷ ms) = pick (spot_for W keys w tb m) refl (brought_for ms)
    where
      pick : (o : Option (Spot P)) → spot_for W keys w tb m ≡ o → t.Each IsFor (brought W keys w tb ms)
          → t.Each IsFor (with_spot W m o (brought W keys w tb ms))
      pick None f rest = rest
      pick (Some u) f rest = (f, rest)

  brought_once : (ns : List Digest) → Once ns → Once (brought_names (brought W keys w tb ns))
  brought_once [] o = tt
  brought_once (n ∷ ns) o = go (spot_for W keys w tb n) (brought_once ns o.1)
    where
      go : (s : Option (Spot P)) → Once (brought_names (brought W keys w tb ns)) → Once (brought_names (with_spot W n s (brought W keys w tb ns)))
      go None rest = rest
      go (Some u) rest = (λ i. o.0 (brought_in W keys w tb n ns i), rest)

-- ---- the last saved wait

latest_in : (ws : List (Wait P)) (x : Wait P) → latest ws ≡ Some x → In x ws
latest_in [] x e = absurd (none_some x e)
latest_in (y ∷ ys) x e = go (latest ys) refl e (latest_in ys)
  where
    pick : (z : Wait P) → In z ys → (b : Bool) → cond b (Some y) (Some z) ≡ Some x → In x (y ∷ ys)
    pick z i true k = inl (sym (some_is y x k))
    pick z i false k = inr (subst (λ v. In v ys) (some_is z x k) i)

    go : (o : Option (Wait P)) → latest ys ≡ o → later y o ≡ Some x → ((z : Wait P) → latest ys ≡ Some z → In z ys) → In x (y ∷ ys)
    go None g h rest = inl (sym (some_is y x h))
    go (Some z) g h rest = pick z (rest z g) (nat_lt z.j y.j) h

abbrev index_of : Desc (List ℕ) → ℕ
index_of (call f c vs) = 0
index_of (out x a n i) = i
index_of (input k) = 0
index_of (known b) = 0

same_first : (d : Desc (List ℕ)) → first_output (first_output d) ≡ first_output d
same_first (call f c vs) = refl
same_first (out x a n i) = refl
same_first (input k) = refl
same_first (known b) = refl

view_names : (xs : List HeldOf) → brought_names (map brought_view xs) ≡ names_in xs
view_names [] = refl
view_names (x ∷ xs) = ap (λ ns. x.name ∷ ns) (view_names xs)

module _ (digest : List ℕ → List ℕ) (shelves : ShelvesSeen) (sc : Script) (inputs : ℕ) (b : Board P) (s : Safe digest shelves sc inputs b) where
  abbrev tb : TableSeen P
  tb = b.table

  abbrev OnRow : Row P → Type 0
  OnRow r = RowSafe digest shelves sc b.keys tb r

  pub row_in : (n : Digest) (r : Row P) → row_named n tb ≡ Some r → OnRow r × RowSound digest tb r
  row_in n r e =
      let i = found_in row_name n tb.rows r e in (all_in OnRow tb.rows r s.table.rows i, all_in (RowSound digest tb) tb.rows r s.sound.rows i)

  -- a name that has a row is known
  known_row : (n : Digest) (r : Row P) → row_named n tb ≡ Some r → Known tb n
  known_row n r e = go (place_of row_name n tb.rows) refl
    where
      go : (o : Option ℕ) → place_of row_name n tb.rows ≡ o → IsSome o
      go None q = let bad : None ≡ Some r = sym (found_none row_name n tb.rows q) ∙ e in cc
      go (Some i) q = refl

  -- ---- what is live has a spot

  live_spot : (w : ℕ) (n : Digest) → is_live n tb ≡ true → (u : Spot P) × (spot_for W b.keys w tb n ≡ Some u)
  live_spot w n live = go (row_named n tb) refl live
    where
      in_row : (d : Desc1) (ps : List P) → Serves sc b.keys d → is_input d || has_place ps ≡ true → (u : Spot P) × (spot_in W b.keys w d ps ≡ Some u)
      in_row (Desc1.Call f c vs) ps k e = let q = for_some w ps e in (shelf q.0, ap (option_map shelf) q.1)
      in_row (Desc1.Exec x a m i) ps k e = let q = for_some w ps e in (shelf q.0, ap (option_map shelf) q.1)
      in_row (Desc1.Input key) ps k e = (Spot.input k.0, ap (option_map Spot.input) k.1)

      go : (o : Option (Row P)) → row_named n tb ≡ o → option_map_or is_live_row o false ≡ true → (u : Spot P)
          × (option_and_then (λ (r : Row P). spot_in W b.keys w r.desc r.places) o ≡ Some u)
      go None e l = cc
      go (Some r) e l = in_row r.desc r.places (row_in n r e).0.serves l

  -- and what is there is safe
  abbrev pub SpotGood : Spot P → Type 0
  SpotGood (board.Spot.shelf p) = ObjectSafe digest shelves sc tb p
  SpotGood (board.Spot.input i) = i < inputs

  pub spot_good : (w : ℕ) (n : Digest) (u : Spot P) → spot_for W b.keys w tb n ≡ Some u → SpotGood u × Known tb n
  spot_good w n u e = go (row_named n tb) refl e
    where
      shelf_good : (o : Option P) (ps : List P) → AllByRecursion (ObjectSafe digest shelves sc tb) ps → place_for W w ps ≡ o
          → option_map shelf o ≡ Some u → SpotGood u
      shelf_good None ps a f g = absurd (none_some u g)
      shelf_good (Some p) ps a f g = subst SpotGood (some_is (shelf p) u g) (for_has (ObjectSafe digest shelves sc tb) w ps p a f)

      input_good : (k : List ℕ) (o : Option ℕ) → key_number b.keys k ≡ o → option_map Spot.input o ≡ Some u → SpotGood u
      input_good k None f g = absurd (none_some u g)
      input_good k (Some i) f g =
          subst SpotGood (some_is (Spot.input i) u g) (let lt = number_below b.keys k i f in let same : length b.keys ≡ inputs = ap length s.keys ∙ s.few in omega (arith, lt, same))

      in_row : (d : Desc1) (ps : List P) → AllByRecursion (ObjectSafe digest shelves sc tb) ps → spot_in W b.keys w d ps ≡ Some u → SpotGood u
      in_row (Desc1.Call f c vs) ps a g = shelf_good (place_for W w ps) ps a refl g
      in_row (Desc1.Exec x c m i) ps a g = shelf_good (place_for W w ps) ps a refl g
      in_row (Desc1.Input k) ps a g = input_good k (key_number b.keys k) refl g

      go : (o : Option (Row P)) → row_named n tb ≡ o → option_and_then (λ (r : Row P). spot_in W b.keys w r.desc r.places) o ≡ Some u
          → SpotGood u × Known tb n
      go None f g = absurd (none_some u g)
      go (Some r) f g = (in_row r.desc r.places (row_in n r f).0.places g, known_row n r f)

  -- ---- saved waits

  -- the saved waits of a task are such; those of another task than the root task are of a call
  pub wait_in : (task : TaskId) (x : Wait P) → last_wait task tb ≡ Some x → WaitSafe digest shelves sc tb task x × WaitSound tb x
  wait_in TaskId.Show x e =
      let i = latest_in tb.shown x e in
      (all_in (WaitSafe digest shelves sc tb TaskId.Show) tb.shown x s.table.shown i, all_in (WaitSound tb) tb.shown x s.sound.shown i)
  wait_in (TaskId.Of m) x e = go (found saves_name m tb.saved) refl e
    where
      go : (o : Option (Saves P)) → found saves_name m tb.saved ≡ o → latest (option_map_or (λ (z : Saves P). z.waits) o []) ≡ Some x
          → WaitSafe digest shelves sc tb (TaskId.Of m) x × WaitSound tb x
      go None g h = absurd (none_some x h)
      go (Some z) g h =
          let i = found_in saves_name m tb.saved z g in
          let a = all_in (SavesSafe digest shelves sc tb) tb.saved z s.table.saved i in
          let k = all_in (SavesSound tb) tb.saved z s.sound.saved i in
          let j = latest_in z.waits x h in (
            subst (λ n. WaitSafe digest shelves sc tb (TaskId.Of n) x) (found_named saves_name m tb.saved z g)
                (all_in (WaitSafe digest shelves sc tb (TaskId.Of z.name)) z.waits x a.waits j),
            all_in (WaitSound tb) z.waits x k.waits j,
          )

  wait_call : (m : Digest) (x : Wait P) → last_wait (TaskId.Of m) tb ≡ Some x → (r : Row P) → row_named m tb ≡ Some r → IsCall r.desc
  wait_call m x e r f = go (found saves_name m tb.saved) refl e
    where
      go : (o : Option (Saves P)) → found saves_name m tb.saved ≡ o → latest (option_map_or (λ (z : Saves P). z.waits) o []) ≡ Some x → IsCall r.desc
      go None g h = absurd (none_some x h)
      go (Some z) g h =
          let a = all_in (SavesSafe digest shelves sc tb) tb.saved z s.table.saved (found_in saves_name m tb.saved z g) in
          let e : Some a.row ≡ Some r = sym a.found ∙ (ap (λ n. row_named n tb) (found_named saves_name m tb.saved z g) ∙ f) in
          subst (λ (q : Row P). IsCall q.desc) (some_is a.row r e) a.call

  -- so a task of no call has none
  pub waits_of_calls : (m : Digest) (r : Row P) → row_named m tb ≡ Some r → (IsCall r.desc → ⊥) → last_wait (TaskId.Of m) tb ≡ None
  waits_of_calls m r f not_so = go (last_wait (TaskId.Of m) tb) refl
    where
      go : (o : Option (Wait P)) → last_wait (TaskId.Of m) tb ≡ o → last_wait (TaskId.Of m) tb ≡ None
      go None e = e
      go (Some x) e = absurd (not_so (wait_call m x e r f))

  stack_of : (Q : Stand (List ℕ) → Type 0) (x : rust.Block) → HasStack Q x → (a : Stand (List ℕ)) × (x ≡ rust.Block.Frozen a) × Q a
  stack_of Q (rust.Block.Object o) h = absurd h
  stack_of Q (rust.Block.Frozen a) h = (a, refl, h)

  -- ---- a task that can run

  module _ (task : TaskId) (w : ℕ) (run : Runnable (board_graph b) task) (idle : In w (idle_of b)) where
    abbrev X : board.Order P
    X = order_for W b task w

    abbrev given_names : List Digest
    given_names = brought_names X.inputs

    -- what it waits for is live
    need_live : (n : Digest) → In n (needs b.main tb task) → is_live n tb ≡ true
    need_live n i = each_of (λ d. is_live d tb ≡ true) n (needs b.main tb task) i run.met

    first_in : (d : Desc1) (n : Digest) → In n (first_refs d) → In n (start_refs d)
    first_in (Desc1.Call f c vs) n i = absurd i
    first_in (Desc1.Exec x v m k) n i = i
    first_in (Desc1.Input k) n i = absurd i

    first_need : (z : TaskId) (n : Digest) → In n (first_needs b.main tb z) → In n (first_held b.main tb z)
    first_need TaskId.Show n i = i
    first_need (TaskId.Of m) n i = go (row_named m tb) i
      where
        go : (o : Option (Row P)) → In n (option_map_or (λ (r : Row P). first_refs r.desc) o [])
            → In n (option_map_or (λ (r : Row P). start_refs r.desc) o [])
        go None j = j
        go (Some r) j = first_in r.desc n j

    -- and is held
    need_held : (n : Digest) → In n (needs b.main tb task) → In n (held b.main tb task)
    need_held n i = go (last_wait task tb) refl i
      where
        go : (o : Option (Wait P)) → last_wait task tb ≡ o → In n (needs_at b.main tb o task) → In n (held_at b.main tb o task)
        go None e j = first_need task n j
        go (Some x) e j =
            let q = stack_of (IsStackOf sc task x.j x.refs x.holds) x.place.at.value (wait_in task x e).0.stack in
            waited_held q.0 x.refs x.holds q.2.3 q.2.4 n j

    -- so it is brought along
    pub need_brought : (n : Digest) → In n (needs b.main tb task) → In n given_names
    need_brought n i =
        let q = live_spot w n (need_live n i) in brings b.keys w tb n q.0 q.1 (held b.main tb task) (need_held n i)

    held_once : Once (held b.main tb task)
    held_once = go (last_wait task tb) refl
      where
        first : (z : TaskId) → Once (first_held b.main tb z)
        first TaskId.Show = ((λ i. i), tt)
        first (TaskId.Of m) = row (row_named m tb) refl
          where
            row : (o : Option (Row P)) → row_named m tb ≡ o → Once (option_map_or (λ (r : Row P). start_refs r.desc) o [])
            row None e = tt
            row (Some r) e = start_once r.desc (row_in m r e).1.spelled

        go : (o : Option (Wait P)) → last_wait task tb ≡ o → Once (held_at b.main tb o task)
        go None e = first task
        go (Some x) e =
            let q = stack_of (IsStackOf sc task x.j x.refs x.holds) x.place.at.value (wait_in task x e).0.stack in
            names_once x.holds (all_refs q.0) q.2.4

    given_once : Once given_names
    given_once = brought_once b.keys w tb (held b.main tb task) held_once

    -- ---- its row

    -- a task that is reached, other than the root task, goes by a row that is of its first output
    pub record ItsRow (m : Digest) : Type 0 where
      pub row : Row P
      pub found : row_named m tb ≡ Some row
      pub first : first_output (desc_view row.desc) ≡ desc_view row.desc
      pub name : m ≡ digested digest (desc_view row.desc)
      pub made : is_input row.desc ≡ false

    led_row : (z : TaskId) → Led (board_graph b) z → (m : Digest) → z ≡ TaskId.Of m → ItsRow m
    led_row z root m e = cc
    led_row z (through l o d i dead makes) m e = go (row_named d tb) refl makes
      where
        of_row : (x : Desc1) → is_input x ≡ false → (q : Row P) → q.desc ≡ x → HasOutputs digest tb (desc_view x)
            → m ≡ digested digest (first_output (desc_view x)) → ItsRow m
        of_row (Desc1.Call f c vs) n q is h k =
            record {
              row = h.row;
              found = ap (λ j. row_named j tb) k ∙ h.found;
              first = ap first_output h.same ∙ sym h.same;
              name = k ∙ ap (digested digest) (sym h.same);
              made = not_input h.row.desc h.same;
            }
          where
            not_input : (y : Desc1) → desc_view y ≡ call f c vs → is_input y ≡ false
            not_input (Desc1.Call g e us) p = refl
            not_input (Desc1.Exec y a j l) p = refl
            not_input (Desc1.Input j) p = cc
        of_row (Desc1.Exec x a j l) n q is h k =
            let z = h.1 0 (let lt = h.0 in omega (arith, lt)) in
            record {
              row = z.row;
              found = ap (λ u. row_named u tb) k ∙ z.found;
              first = ap first_output z.same ∙ sym z.same;
              name = k ∙ ap (digested digest) (sym z.same);
              made = not_input z.row.desc z.same;
            }
          where
            not_input : (y : Desc1) → desc_view y ≡ out x (view a) j 0 → is_input y ≡ false
            not_input (Desc1.Call g e us) p = refl
            not_input (Desc1.Exec y u r v) p = refl
            not_input (Desc1.Input r) p = cc
        of_row (Desc1.Input j) n q is h k = cc

        turn : (r : Row P) → row_named d tb ≡ Some r → (c : Bool) → is_input r.desc ≡ c → cond c None (Some r.task) ≡ Some z → ItsRow m
        turn r f true n g = absurd (none_some z g)
        turn r f false n g =
            let k = row_in d r f in
            let q : r.task ≡ z = some_is r.task z g in
            let u : TaskId.Of (digested digest (first_output (desc_view r.desc))) ≡ TaskId.Of m = sym k.1.task ∙ (q ∙ e) in
            of_row r.desc n r refl k.0.outputs (same_name u)
          where
            same_name : {x y : Digest} → TaskId.Of x ≡ TaskId.Of y → y ≡ x
            same_name p = cc

        go : (o : Option (Row P)) → row_named d tb ≡ o → option_and_then (made_by tb) o ≡ Some z → ItsRow m
        go None f g = absurd (none_some z g)
        go (Some r) f g = turn r f (is_input r.desc) refl g

    its_row : (m : Digest) → task ≡ TaskId.Of m → ItsRow m
    its_row m e = led_row task run.reached m e

    -- ---- it can begin

    -- an executor's task has no saved wait, so it waits for what its arguments refer to
    exec_needs : (m : Digest) → task ≡ TaskId.Of m → (r : Row P) → row_named m tb ≡ Some r → (IsCall r.desc → ⊥) → (n : Digest)
        → In n (first_refs r.desc) → In n (needs b.main tb task)
    exec_needs m e r f none n i = go (last_wait task tb) refl
      where
        go : (o : Option (Wait P)) → last_wait task tb ≡ o → In n (needs_at b.main tb o task)
        go None q =
            subst (λ z. In n (first_needs b.main tb z)) (sym e)
            (subst (λ o. In n (option_map_or (λ (r : Row P). first_refs r.desc) o [])) (sym f) i)
        go (Some x) q = absurd (none (wait_call m x (ap (λ z. last_wait z tb) (sym e) ∙ q) r f))

    can_begin : (m : Digest) → task ≡ TaskId.Of m → (r : Row P) → row_named m tb ≡ Some r → first_output (desc_view r.desc) ≡ desc_view r.desc
        → is_input r.desc ≡ false → CanBegin sc given_names r.desc
    can_begin m e r f first made = go r.desc refl (row_in m r f).0.serves (row_in m r f).1.spelled
      where
        args : (x : List ℕ) (a : Value) (n i : ℕ) → r.desc ≡ Desc1.Exec x a n i → (d : Desc (List ℕ)) → t.In d (refs (view a))
            → t.In (held_name d) given_names
        args x a n i q d j =
            let k = subst (λ z. SpelledDesc (desc_view z)) q (row_in m r f).1.spelled in
            let y = exec_named (view a) k.1.0 d j in
            subst (λ z. t.In (held_name z) given_names) (sym y.1)
            (in_from y.0 given_names (need_brought y.0 (exec_needs m e r f (λ h. subst IsCall q h) y.0
            (subst (λ z. In y.0 (first_refs z)) (sym q) y.2))))

        each_arg : (ds : List (Desc (List ℕ))) → ((d : Desc (List ℕ)) → t.In d ds → t.In (held_name d) given_names)
            → t.Each (λ d. t.In (held_name d) given_names) ds
        each_arg [] h = tt
        each_arg (d ∷ ds) h = (h d (inl refl), each_arg ds (λ y i. h y (inr i)))

        go : (d : Desc1) → r.desc ≡ d → Serves sc b.keys d → SpelledDesc (desc_view d) → CanBegin sc given_names d
        go (Desc1.Call g c vs) q k sp = k
        go (Desc1.Exec x a n i) q k sp = (
          sym (ap index_of (subst (λ z. first_output (desc_view z) ≡ desc_view z) q first)),
          k,
          each_arg (refs (view a)) (args x a n i q),
        )
        go (Desc1.Input k) q h sp = let bad : is_input (Desc1.Input k) ≡ false = subst (λ z. is_input z ≡ false) q made in cc

    describes : (z : TaskId) → task ≡ z → Describes digest sc given_names z (board.task_desc b.main tb z)
    describes TaskId.Show e = tt
    describes (TaskId.Of m) e =
        let r = its_row m e in
        subst (λ o. Describes digest sc given_names (TaskId.Of m) (option_map (λ (x : Row P). x.desc) o)) (sym r.found)
        (r.name ∙ ap (digested digest) (sym r.first), can_begin m e r.row r.found r.first r.made)

    -- ---- the order

    module _ (y : Order) (e : order_view y ≡ X) where
      names_are : names_in y.inputs.items ≡ given_names
      names_are = sym (view_names y.inputs.items) ∙ ap (λ (z : board.Order P). brought_names z.inputs) e

      task_is : y.task ≡ task
      task_is = ap (λ (z : board.Order P). z.out.task) e

      from_is : y.from ≡ wait_number (last_wait task tb)
      from_is = ap (λ (z : board.Order P). z.out.from) e

      -- of each that is brought along
      spots_from : (Q : Spot P → Type 0) (R : given.Spot → Type 0) → ((u : given.Spot) → Q (spot_view u) → R u) → (hs : List HeldOf)
          → t.Each (λ (x : Brought P). Q x.spot) (map brought_view hs) → t.Each (λ (h : HeldOf). R h.at) hs
      spots_from Q R f [] a = tt
      spots_from Q R f (h ∷ hs) a = (f h.at a.0, spots_from Q R f hs a.1)

      each_map : {A : Type 0} (F G : A → Type 0) → ((x : A) → F x → G x) → (xs : List A) → t.Each F xs → t.Each G xs
      each_map F G f [] a = tt
      each_map F G f (x ∷ xs) a = (f x a.0, each_map F G f xs a.1)

      all_good : t.Each (λ (x : Brought P). SpotGood x.spot × Known tb x.name) (map brought_view y.inputs.items)
      all_good =
          subst (t.Each (λ (x : Brought P). SpotGood x.spot × Known tb x.name)) (sym (ap (λ (z : board.Order P). z.inputs) e))
          (each_map (IsFor b.keys w tb) (λ (x : Brought P). SpotGood x.spot × Known tb x.name) (λ x q. spot_good w x.name x.spot q) X.inputs
          (brought_for b.keys w tb (held b.main tb task)))

      goods : t.Each (λ (x : Brought P). SpotGood x.spot) (map brought_view y.inputs.items)
      goods = each_map _ (λ (x : Brought P). SpotGood x.spot) (λ x q. q.0) (map brought_view y.inputs.items) all_good

      spot_sound : (u : given.Spot) → SpotGood (spot_view u) → SpotSound shelves sc inputs u
      spot_sound (given.Spot.Shelf p) a = (a.lies.place, a.lies.object)
      spot_sound (given.Spot.Input i) a = a

      spot_known : (u : given.Spot) → SpotGood (spot_view u) → SpotKnown tb u
      spot_known (given.Spot.Shelf p) a = a.lies.known
      spot_known (given.Spot.Input i) a = tt

      pending : (z : Stand (List ℕ)) (x : Wait P) → last_wait task tb ≡ Some x → IsStackOf sc task x.j x.refs x.holds z
          → t.Each (λ d. t.In (held_name d) (names_in y.inputs.items)) (pending_in same_text z)
      pending z x q k =
          subst (λ ns. t.Each (λ d. t.In (held_name d) ns) (pending_in same_text z)) (sym names_are)
          (all (pending_in same_text z) (λ d i. i))
        where
          need : (n : Digest) → In n x.refs → In n (needs b.main tb task)
          need n i = subst (λ o. In n (needs_at b.main tb o task)) (sym q) i

          all : (ds : List (Desc (List ℕ))) → ((d : Desc (List ℕ)) → t.In d ds → t.In d (pending_in same_text z))
              → t.Each (λ d. t.In (held_name d) given_names) ds
          all [] h = tt
          all (d ∷ ds) h =
              let m = waited_named z x.refs k.3 d (h d (inl refl)) in (
                subst (λ c. t.In (held_name c) given_names) (sym m.1) (in_from m.0 given_names (need_brought m.0 (need m.0 m.2))),
                all ds (λ c i. h c (inr i)),
              )

      saved_sound : (o : Option (Wait P)) → last_wait task tb ≡ o → orders.Saved shelves sc y (stack_at o)
      saved_sound None q = (from_is ∙ ap wait_number q, main task refl)
        where
          main : (z : TaskId) → task ≡ z → ShowsMain y y.task
          main TaskId.Show k =
              subst (ShowsMain y) (sym (task_is ∙ k)) (subst (t.In y.main) (sym names_are)
              (subst (λ n. t.In n given_names) (sym (ap (λ (z : board.Order P). z.main) e)) (in_from b.main given_names (need_brought b.main
              (subst (λ o. In b.main (needs_at b.main tb o task)) (sym q) (subst (λ z. In b.main (first_needs b.main tb z)) (sym k) (inl refl)))))))
          main (TaskId.Of m) k = subst (ShowsMain y) (sym (task_is ∙ k)) tt
      saved_sound (Some x) q = (
        λ z. behind x.j y.from (wait_in task x q).0.later (from_is ∙ ap wait_number q) z,
        record { place = (wait_in task x q).0.place; stack = has x.place.at.value (wait_in task x q).0.stack },
      )
        where
          behind : (j k : ℕ) → 0 < j → k ≡ j → k ≡ 0 → ⊥
          behind j k l a c = omega (arith, l, a, c)

          has : (v : rust.Block) → HasStack (IsStackOf sc task x.j x.refs x.holds) v
              → HasStack (λ z. Fits sc z × OfKind y.task z × (stand_wait z ≡ y.from)
              × t.Each (λ d. t.In (held_name d) (names_in y.inputs.items)) (pending_in same_text z)) v
          has (rust.Block.Object o) h = absurd h
          has (rust.Block.Frozen z) h =
              (h.0, subst (λ k. OfKind k z) (sym task_is) h.1, h.2 ∙ sym (from_is ∙ ap wait_number q), pending z x q h)

      pub sent_sound : OrderSound digest shelves sc inputs y
      sent_sound =
          record {
            worker = let below = idle_in tb.gone (workers_out b.orders) 0 b.plan.workers w idle in
                let lt = below.0 in
                let same : y.worker ≡ w = ap (λ (z : board.Order P). z.out.worker) e in
                let wide = s.wide in omega (arith, lt, same, wide);
            describes = subst (λ ns. Describes digest sc ns y.task y.desc) (sym names_are)
                (subst (λ k. Describes digest sc given_names k y.desc) (sym task_is)
                (subst (Describes digest sc given_names task) (sym (ap (λ (z : board.Order P). z.desc) e)) (describes task refl)));
            saved = subst (orders.Saved shelves sc y) (sym (ap (λ (z : board.Order P). z.stack) e)) (saved_sound (last_wait task tb) refl);
            spots = spots_from SpotGood (SpotSound shelves sc inputs) spot_sound y.inputs.items goods;
            distinct = subst (IsDistinct same_text) (sym names_are) (once_distinct given_names given_once);
          }

      -- ---- what has rows

      named_all : (hs : List HeldOf) → t.Each (λ (x : Brought P). SpotGood x.spot × Known tb x.name) (map brought_view hs)
          → AllKnown tb (names_in hs)
      named_all [] a = tt
      named_all (h ∷ hs) a = (a.0.1, named_all hs a.1)

      stack_known : (o : Option (Wait P)) → last_wait task tb ≡ o → StackKnown tb (stack_at o)
      stack_known None q = tt
      stack_known (Some x) q =
          let k = wait_in task x q in
          let z = stack_of (IsStackOf sc task x.j x.refs x.holds) x.place.at.value k.0.stack in
          subst (λ v. AllKnown tb (map held_name (block_refs v))) (sym z.1) (all (all_refs z.0) (λ d i. held_named z.0 x.holds z.2.4 d i) k.1.holds)
        where
          known_at : (ns : List Digest) (n : Digest) → AllKnown tb ns → In n ns → Known tb n
          known_at ns n a i = all_in (Known tb) ns n a i

          all : (ds : List (Desc (List ℕ))) → ((d : Desc (List ℕ)) → t.In d ds → In (held_name d) x.holds) → AllKnown tb x.holds
              → AllKnown tb (map held_name ds)
          all [] h k = tt
          all (d ∷ ds) h k = (known_at x.holds (held_name d) k (h d (inl refl)), all ds (λ c i. h c (inr i)) k)

      has_known : (d : Desc (List ℕ)) → HasDesc digest tb d → Known tb (digested digest d)
      has_known d h = known_row (digested digest d) h.row h.found

      inside_known : (z : TaskId) → InsideKnown tb (board.task_desc b.main tb z)
      inside_known TaskId.Show = tt
      inside_known (TaskId.Of m) = go (row_named m tb) refl
        where
          go : (o : Option (Row P)) → row_named m tb ≡ o → InsideKnown tb (option_map (λ (x : Row P). x.desc) o)
          go None q = tt
          go (Some r) q = (row_in m r q).1.inside

      outputs_known : (z : TaskId) → OutputsKnown digest tb (board.task_desc b.main tb z)
      outputs_known TaskId.Show = tt
      outputs_known (TaskId.Of m) = go (row_named m tb) refl
        where
          of_desc : (d : Desc1) → HasOutputs digest tb (desc_view d) → OutputsKnown digest tb (Some d)
          of_desc (Desc1.Call f c vs) h = has_known (call f c vs) h
          of_desc (Desc1.Exec x a n i) h = λ k lt. has_known (out x (view a) n k) (h.1 k lt)
          of_desc (Desc1.Input k) h = tt

          go : (o : Option (Row P)) → row_named m tb ≡ o → OutputsKnown digest tb (option_map (λ (x : Row P). x.desc) o)
          go None q = tt
          go (Some r) q = of_desc r.desc (row_in m r q).0.outputs

      pub sent_rows : HasRows digest tb y
      sent_rows =
          record {
            brought = named_all y.inputs.items all_good;
            carried = spots_from SpotGood (SpotKnown tb) spot_known y.inputs.items goods;
            stack = subst (StackKnown tb) (sym (ap (λ (z : board.Order P). z.stack) e)) (stack_known (last_wait task tb) refl);
            inside = subst (InsideKnown tb) (sym (ap (λ (z : board.Order P). z.desc) e)) (inside_known task);
            outputs = subst (OutputsKnown digest tb) (sym (ap (λ (z : board.Order P). z.desc) e)) (outputs_known task);
          }

      goes_by : (z : TaskId) → task ≡ z → GoesBy tb z (board.task_desc b.main tb z)
      goes_by TaskId.Show q = tt
      goes_by (TaskId.Of m) q =
          let r = its_row m q in
          subst (λ o. GoesBy tb (TaskId.Of m) (option_map (λ (x : Row P). x.desc) o)) (sym r.found) (r.row, r.found, refl)

      sent_goes : GoesBy tb y.task y.desc
      sent_goes =
          subst (λ z. GoesBy tb z y.desc) (sym task_is)
          (subst (GoesBy tb task) (sym (ap (λ (z : board.Order P). z.desc) e)) (goes_by task refl))

      pub sent_good : OrderIsGood digest shelves sc inputs b y
      sent_good = record { sound = sent_sound; rows = sent_rows; goes = sent_goes }
