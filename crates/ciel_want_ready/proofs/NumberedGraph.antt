-- The table's graph by numbers is the table's.
use Rattle.std.proofs.Common.{◌≡◌, ℕ, zero, suc, ◌<◌, List, [], ◌∷◌, length, Bool, true, false, cond, ◌||◌, map, slice_get, refl, ap, sym, ◌∙◌, subst}
use Rattle.std.proofs.Common.{arith, ◌⊎◌, inl, inr, Option, Some, None}
use Rattle.std.specs.Option.{option_and_then, option_map, option_map_or}
use Rattle.sky_base.specs.declared.object.TaskId.{TaskId}
use Rattle.ciel_journal.specs.Graph.{Led, SeenAs, root, through}
use Rattle.ciel_want_marks.specs.Lists.{entry, flag}
use Rattle.ciel_want_marks.specs.Marks.{MarksSeen, is_live, maker, net}
use Rattle.ciel_want_marks.proofs.Slots.{not_both}
use Rattle.ciel_want_ready.specs.Fits.{Fits, maker_of, makers, needs_by, node_of, outs, row_of}
use Rattle.ciel_table.specs.Seen as s
use Rattle.ciel_table.specs.Seen.{TableSeen, find, has_place, is_input, is_live_row, row_name}
use Rattle.ciel_table.specs.declared.row.Row.{Row}
use Rattle.ciel_table.proofs.ByName.{found_none}
use Rattle.ciel_want.specs.Board.{task_at}
use Rattle.ciel_want.specs.Waited.{graph, is_in, made_by, maker as made, needs}
use Rattle.ciel_want.proofs.Rows.{item_at}

-- ---- lists that are made of rows

module _ {X : Type 0} where
  pub flag_map : (f : X → Bool) (xs : List X) (i : ℕ) → flag (map f xs) i ≡ option_map_or f (slice_get xs i) false
  flag_map f [] i = refl
  flag_map f (x ∷ xs) zero = refl
  flag_map f (x ∷ xs) (suc i) = flag_map f xs i

  pub entry_map : (f : X → Option ℕ) (xs : List X) (i : ℕ) (x : X) → slice_get xs i ≡ Some x → entry (map f xs) i ≡ f x
  entry_map f [] i x e = cc
  entry_map f (y ∷ ys) zero x e = let p : y ≡ x = cc in ap f p
  entry_map f (y ∷ ys) (suc i) x e = entry_map f ys i x e

  pub length_map : {Y : Type 0} (f : X → Y) (xs : List X) → length (map f xs) ≡ length xs
  length_map f [] = refl
  length_map f (x ∷ xs) = ap suc (length_map f xs)

or_false : (a b : Bool) → a || b ≡ false → a ≡ false
or_false true b e = cc
or_false false b e = refl

module _ {P : Type 0} (main : List ℕ) (t : TableSeen P) (m : MarksSeen) where
  -- a task by its node
  abbrev pub node : TaskId → ℕ
  node TaskId.Show = 0
  node (TaskId.Of n) = option_map_or suc (find n t) 0

  -- the root task, or one whose name has a row
  abbrev pub IsKnown : TaskId → Type 0
  IsKnown task = (task ≡ TaskId.Show) ⊎ ((n : List ℕ) × (e : ℕ) × (task ≡ TaskId.Of n) × (find n t ≡ Some e))

  module _ (f : Fits main t m) where
    live_row : (i : ℕ) (r : Row P) → slice_get t.rows i ≡ Some r → flag m.live i ≡ is_live_row r
    live_row i r e =
        ap (λ fs. flag fs i) f.live
        ∙ (flag_map is_live_row t.rows i ∙ ap (λ (o : Option (Row P)). option_map_or is_live_row o false) e)

    pub maker_row : (i : ℕ) (r : Row P) → slice_get t.rows i ≡ Some r → entry m.makers i ≡ node_of t r.task
    maker_row i r e = ap (λ es. entry es i) f.makers_are ∙ entry_map (maker_of t) t.rows i r e

    pub long : length m.live ≡ length t.rows
    long = ap length f.live ∙ length_map is_live_row t.rows

    -- a task with a node
    pub node_known : (task : TaskId) (u : ℕ) → node_of t task ≡ Some u → (n : List ℕ) × (e : ℕ) × (task ≡ TaskId.Of n) × (find n t ≡ Some e) × (suc e ≡ u)
    node_known TaskId.Show u e = cc
    node_known (TaskId.Of n) u e = turn (find n t) refl e
      where
        turn : (o : Option ℕ) → find n t ≡ o → option_map suc o ≡ Some u → (k : List ℕ) × (e : ℕ) × (TaskId.Of n ≡ TaskId.Of k)
            × (find k t ≡ Some e) × (suc e ≡ u)
        turn None q h = cc
        turn (Some e) q h = (n, e, refl, q, cc)

    pub node_is : (task : TaskId) (u : ℕ) → node_of t task ≡ Some u → node task ≡ u
    node_is TaskId.Show u e = cc
    node_is (TaskId.Of n) u e = turn (find n t) e
      where
        turn : (o : Option ℕ) → option_map suc o ≡ Some u → option_map_or suc o 0 ≡ u
        turn None h = cc
        turn (Some e) h = cc

    -- what makes a row that isn't live has a node
    pub dead_made : (i : ℕ) (r : Row P) → slice_get t.rows i ≡ Some r → i < length t.rows → is_live_row r ≡ false → (u : ℕ)
        × (node_of t r.task ≡ Some u)
    dead_made i r e l d = turn (entry m.makers i) refl
      where
        turn : (o : Option ℕ) → entry m.makers i ≡ o → (u : ℕ) × (node_of t r.task ≡ Some u)
        turn (Some u) q = (u, sym (maker_row i r e) ∙ q)
        turn None q =
            let z = long in
            not_both (flag m.live i) (f.right.0.filed.orphan i (omega (arith, l, z)) q).0 (live_row i r e ∙ d)

    -- the row of a name that isn't live, and its maker
    pub record Dead (d : List ℕ) (task : TaskId) : Type 0 where
      pub row : Row P
      pub place : ℕ
      pub at : find d t ≡ Some place
      pub there : slice_get t.rows place ≡ Some row
      pub dead : is_live_row row ≡ false
      pub is : row.task ≡ task
      pub u : ℕ
      pub made : node_of t row.task ≡ Some u

    pub dead_of : (d : List ℕ) (task : TaskId) → s.is_live d t ≡ false → made t d ≡ Some task → Dead d task
    dead_of d task v k = turn (find d t) refl
      where
        turn : (o : Option ℕ) → find d t ≡ o → Dead d task
        turn None q =
            let z : made t d ≡ None = ap (option_and_then (made_by t)) (found_none row_name d t.rows q) in
            let x : None ≡ Some task = sym z ∙ k in
            cc
        turn (Some i) q =
            let r = item_at row_name d t.rows i q in
            let dead : is_live_row r.item ≡ false = ap (λ (o : Option (Row P)). option_map_or is_live_row o false) (sym r.is_found) ∙ v in
            let input = or_false (is_input r.item.desc) (has_place r.item.places) dead in
            let x : Some r.item.task ≡ Some task = sym
            (ap (option_and_then (made_by t)) r.is_found ∙ ap (λ b. cond b None (Some r.item.task)) input) ∙ k in
            let w = dead_made i r.item r.there r.within dead in
            record {
              row = r.item;
              place = i;
              at = q;
              there = r.there;
              dead = dead;
              is = (let p : r.item.task ≡ task = cc in p);
              u = w.0;
              made = w.1;
            }

    pub led_known : (out : List TaskId) (task : TaskId) → Led (graph main t out) task → IsKnown task
    led_known out task (root) = inl refl
    led_known out task (through l o d i v k) =
        let q = dead_of d task v k in
        let n = node_known q.row.task q.u q.made in
        inr (n.0, n.1, sym q.is ∙ n.2, n.3)

    pub at_node : (task : TaskId) → IsKnown task → task_at t (row_of (node task)) ≡ task
    at_node task (inl e) = subst (λ x. task_at t (row_of (node x)) ≡ x) (sym e) refl
    at_node task (inr q) =
        let r = item_at row_name q.0 t.rows q.1 q.3 in
        let here : task_at t (Some q.1) ≡ TaskId.Of q.0 = ap (λ (o : Option (Row P)). TaskId.Of (option_map_or row_name o [])) r.there
        ∙ ap (λ k. TaskId.Of k) r.named in
        subst (λ x. task_at t (row_of (node x)) ≡ x) (sym q.2) (ap (λ o. task_at t (row_of (option_map_or suc o 0))) q.3 ∙ here)

    pub live_name : (d : List ℕ) → is_live m.live (find d t) ≡ s.is_live d t
    live_name d = turn (find d t) refl
      where
        turn : (o : Option ℕ) → find d t ≡ o → is_live m.live o ≡ s.is_live d t
        turn None q =
            sym (ap (λ (o : Option (Row P)). option_map_or is_live_row o false) (found_none row_name d t.rows q))
        turn (Some i) q =
            let r = item_at row_name d t.rows i q in
            live_row i r.item r.there
            ∙ sym (ap (λ (o : Option (Row P)). option_map_or is_live_row o false) r.is_found)

    maker_name : (d : List ℕ) → s.is_live d t ≡ false → maker m.makers (find d t) ≡ option_map node (made t d)
    maker_name d v = turn (made t d) refl
      where
        none : (o : Option ℕ) → find d t ≡ o → made t d ≡ None → maker m.makers o ≡ None
        none None q k = refl
        none (Some i) q k =
            let r = item_at row_name d t.rows i q in
            let dead : is_live_row r.item ≡ false = ap (λ (o : Option (Row P)). option_map_or is_live_row o false) (sym r.is_found) ∙ v in
            let input = or_false (is_input r.item.desc) (has_place r.item.places) dead in
            let x : Some r.item.task ≡ None = sym (ap (option_and_then (made_by t)) r.is_found ∙ ap (λ b. cond b None (Some r.item.task)) input)
            ∙ k in
            cc

        turn : (o : Option TaskId) → made t d ≡ o → maker m.makers (find d t) ≡ option_map node o
        turn None k = none (find d t) refl k
        turn (Some task) k =
            let q = dead_of d task v k in
            ap (maker m.makers) q.at
            ∙ (maker_row q.place q.row q.there
            ∙ (q.made
            ∙ ap (λ x. Some x) (sym (ap node (sym q.is) ∙ node_is q.row.task q.u q.made))))

    module _ (out : List TaskId) (o : m.out ≡ outs t out) where
      out_name : (task : TaskId) → IsKnown task → flag m.out (node task) ≡ is_in out task
      out_name task (inl e) = subst (λ x. flag m.out (node x) ≡ is_in out x) (sym e) (ap (λ fs. flag fs 0) o)
      out_name task (inr q) =
          let r = item_at row_name q.0 t.rows q.1 q.3 in
          let here : flag m.out (suc q.1) ≡ is_in out (TaskId.Of q.0) = ap (λ fs. flag fs (suc q.1)) o
          ∙ (flag_map (λ (x : Row P). is_in out (TaskId.Of x.name)) t.rows q.1
          ∙ (ap (λ (y : Option (Row P)). option_map_or (λ (x : Row P). is_in out (TaskId.Of x.name)) y false) r.there
          ∙ ap (λ n. is_in out (TaskId.Of n)) r.named)) in
          subst (λ x. flag m.out (node x) ≡ is_in out x) (sym q.2) (ap (λ z. flag m.out (option_map_or suc z 0)) q.3 ∙ here)

      -- the table's graph, seen by numbers
      pub seen : SeenAs (graph main t out) (net (needs_by main t) m.live m.makers m.out) node (λ n. find n t)
      seen =
          record {
            root = refl;
            out = λ x l. out_name x (led_known out x l);
            needs = λ x l. ap (λ y. map (λ n. find n t) (needs main t y)) (at_node x (led_known out x l));
            live = λ x d l i. live_name d;
            maker = λ x d l i v. maker_name d v;
          }
