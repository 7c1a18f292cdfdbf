-- A task that follows another one is among those that wait for what that makes, or among those that can run.
use Rattle.std.proofs.Common.{◌≡◌, ◌≤◌, ◌<◌, ℕ, zero, suc, List, [], ◌∷◌, Bool, true, false, cond, slice_get, refl, ap, sym, ◌∙◌, subst, arith, ◌⊎◌, inl, inr}
use Rattle.std.proofs.Common.{Option, Some, None, Result, Ok, Err, IfOk, IfSome, IsSome, length}
use Rattle.std.specs.Option.{option_and_then, option_map, option_map_or}
use Rattle.sky_base.specs.Name.{held_name}
use Rattle.sky_base.specs.Val.{Desc, distinct, refs, same_text}
use Rattle.sky_base.specs.View.{view}
use Rattle.sky_base.specs.declared.object.Desc1.{Desc1}
use Rattle.sky_base.specs.declared.object.TaskId.{TaskId}
use Rattle.ciel_journal.specs.Graph.{Graph, Led, root, through}
use Rattle.ciel_journal.specs.Job.{In}
use Rattle.ciel_journal.proofs.SeenAs.{led_here, led_there}
use Rattle.ciel_want_marks.specs.Lists.{at, entry, flag}
use Rattle.ciel_want_marks.specs.Marks.{Active, Counted, LacksIt, Least, Listed, MarksSeen, Stands, Watches, is_live, maker as maker_in, net}
use Rattle.ciel_want_marks.proofs.KeptMarks.{all_counted, least_in, led_wanted}
use Rattle.ciel_want_marks.proofs.Slots.{entry_within, not_both}
use Rattle.ciel_want_ready.specs.Fits.{Fits, FitsOut, needs_by, node_of, row_of, rows_of}
use Rattle.ciel_want_ready.specs.Following.{Behind, Better, ExecsAtStart, IsExec, LeastFollows, MayFollow, Near, NodeFollows, Runs, Waits, row_desc, task_desc}
use Rattle.ciel_want_ready.proofs.RunnableList.{led_of}
use Rattle.ciel_want_ready.proofs.NumberedGraph.{IsKnown, at_node, led_known, long, maker_row, node, node_is, node_known, seen}
use Rattle.ciel_want_ready.proofs.SearchLookups.{all_get}
use Rattle.ciel_table.specs.Seen.{TableSeen, find, is_input, last_wait, row_name, row_named}
use Rattle.ciel_table.specs.declared.row.Row.{Row}
use Rattle.ciel_table.specs.declared.wait.Wait.{Wait}
use Rattle.ciel_table.proofs.ByName.{found_none}
use Rattle.ciel_want.specs.Board.{maker_at, task_at}
use Rattle.ciel_want.specs.Followers.{FollowerIs, Follows, FollowsFirst, IsOneOf, ReadsOne}
use Rattle.ciel_want.specs.Waited.{RowWhole, TaskKnown, Whole, first_needs, first_refs, graph, is_in, made_by, maker, names_of, needs, needs_at}
use Rattle.ciel_want.proofs.FlaggedTasks.{held_at}
use Rattle.ciel_want.proofs.Rows.{item_at}

module _ {P : Type 0} (t : TableSeen P) (task : TaskId) where
  -- the one reference, and what a task waits for that reads it
  one_of : (ds : List (Desc (List ℕ))) → IsOneOf t task ds → (d : Desc (List ℕ)) × (ds ≡ d ∷ []) × (maker t (held_name d) ≡ Some task)
  one_of [] h = absurd h
  one_of (d ∷ []) h = (d, refl, h)
  one_of (d ∷ e ∷ ds) h = absurd h

  first_one : (d : Desc1) → ReadsOne t task d → (n : List ℕ) × (first_refs d ≡ n ∷ []) × (maker t n ≡ Some task) × IsExec d
  first_one (Desc1.Call f c vs) h = absurd h
  first_one (Desc1.Exec x a n i) h =
      let q = one_of (refs (view a)) h in
      (held_name q.0, ap (λ ds. names_of (distinct same_text ds)) q.1, q.2, tt)
  first_one (Desc1.Input k) h = absurd h

  -- the row of a name that the task makes
  record Made (n : List ℕ) : Type 0 where
    place : ℕ
    row : Row P
    found : find n t ≡ Some place
    there : slice_get t.rows place ≡ Some row
    within : place < length t.rows
    input : is_input row.desc ≡ false
    is : row.task ≡ task

  made_of : (n : List ℕ) → maker t n ≡ Some task → Made n
  made_of n h = turn (find n t) refl
    where
      test : (r : Row P) (b : Bool) → is_input r.desc ≡ b → cond b None (Some r.task) ≡ Some task → (is_input r.desc ≡ false) × (r.task ≡ task)
      test r true e k = cc
      test r false e k = (e, cc)

      turn : (o : Option ℕ) → find n t ≡ o → Made n
      turn None q =
          let z : None ≡ Some task = sym (ap (option_and_then (made_by t)) (found_none row_name n t.rows q)) ∙ h in
          cc
      turn (Some i) q =
          let r = item_at row_name n t.rows i q in
          let z = test r.item (is_input r.item.desc) refl (sym (ap (option_and_then (made_by t)) r.is_found) ∙ h) in
          record { place = i; row = r.item; found = q; there = r.there; within = r.within; input = z.0; is = z.1 }

  node_some : (x : TaskId) → TaskKnown t x → (u : ℕ) × (node_of t x ≡ Some u)
  node_some TaskId.Show h = absurd h
  node_some (TaskId.Of n) h = turn (find n t) h
    where
      turn : (o : Option ℕ) → IsSome o → (u : ℕ) × (option_map suc o ≡ Some u)
      turn None k = cc
      turn (Some e) k = (suc e, refl)

some_least : (us : List ℕ) (k : ℕ) → In k us → (z : ℕ) × (slice_get us 0 ≡ Some z)
some_least [] k h = absurd h
some_least (x ∷ xs) k h = (x, refl)

suc_of : (u e : ℕ) → row_of u ≡ Some e → u ≡ suc e
suc_of zero e h = cc
suc_of (suc k) e h = let p : k ≡ e = cc in ap suc p

module _ {P : Type 0} (main : List ℕ) (t : TableSeen P) (out : List TaskId) (m : MarksSeen) (ff : FitsOut main t out m) (w : Whole main t)
    (task : TaskId) where
  f : Fits main t m
  f = ff.fits

  st : Stands m (needs_by main t) [] []
  st = f.right.0

  abbrev Reached : TaskId → Type 0
  Reached = Led (graph main t out)

  -- ---- a node that follows stands for a task that does

  record Names (e : ℕ) (r : Row P) : Type 0 where
    reached : Reached (TaskId.Of r.name)
    waits : is_in out (TaskId.Of r.name) ≡ false
    found : row_named r.name t ≡ Some r

  names_of_node : (e : ℕ) (r : Row P) → Active m (suc e) → slice_get t.rows e ≡ Some r → Names e r
  names_of_node e r a there =
      let c = led_here (graph main t out) (net (needs_by main t) m.live m.makers m.out) (node main t m) (λ n. find n t)
      (seen main t m f out ff.outs_are) (suc e) (led_of main t out m ff (suc e) a) in
      turn c.0 c.1 c.2 (led_known main t m f out c.0 c.2)
    where
      turn : (x : TaskId) → node main t m x ≡ suc e → Reached x → IsKnown main t m x → Names e r
      turn x n l (inl z) =
          let q : 0 ≡ suc e = ap (node main t m) (sym z) ∙ n in
          absurd (omega (arith, q))
      turn x n l (inr k) =
          let q : suc k.1 ≡ suc e = sym (ap (node main t m) k.2 ∙ ap (λ o. option_map_or suc o 0) k.3) ∙ n in
          let i : k.1 ≡ e = omega (arith, q) in
          let v = item_at row_name k.0 t.rows k.1 k.3 in
          let same : Some v.item ≡ Some r = sym v.there ∙ (ap (slice_get t.rows) i ∙ there) in
          let item : v.item ≡ r = cc in
          let name : k.0 ≡ r.name = sym v.named ∙ ap row_name item in
          let is : x ≡ TaskId.Of r.name = k.2 ∙ ap (λ z. TaskId.Of z) name in
          record {
            reached = subst Reached is l;
            waits = subst (λ y. is_in out y ≡ false) is (sym ((seen main t m f out ff.outs_are).out x l) ∙ (ap (flag m.out) n ∙ a.1));
            found = ap (λ z. row_named z t) (sym name) ∙ (v.is_found ∙ ap (λ z. Some z) item);
          }

  follows_of : (e : ℕ) (r : Row P) → Active m (suc e) → slice_get t.rows e ≡ Some r → ReadsOne t task r.desc
      → Follows main t out task (TaskId.Of r.name) r.desc
  follows_of e r a there reads =
      let q = names_of_node e r a there in
      record { reached = q.reached; waits = q.waits; name = r.name; is = refl; row = r; found = q.found; desc = refl; reads = reads }

  -- ---- a task that follows has a node that does

  -- its node, and the row of its name
  record Placed (x : TaskId) (d : Desc1) : Type 0 where
    place : ℕ
    row : Row P
    there : slice_get t.rows place ≡ Some row
    is : x ≡ TaskId.Of row.name
    node_at : node_of t x ≡ Some (suc place)
    led : Led (net (needs_by main t) m.live m.makers m.out) (suc place)
    active : Active m (suc place)
    needed : needs_by main t (suc place) ≡ rows_of t (needs main t x)
    desc : row.desc ≡ d

  placed_of : (x : TaskId) (d : Desc1) → Follows main t out task x d → Placed x d
  placed_of x d h = turn (led_known main t m f out x h.reached)
    where
      turn : IsKnown main t m x → Placed x d
      turn (inl z) = let q : TaskId.Show ≡ TaskId.Of h.name = sym z ∙ h.is in cc
      turn (inr k) =
          let v = item_at row_name k.0 t.rows k.1 k.3 in
          let same : TaskId.Of k.0 ≡ TaskId.Of h.name = sym k.2 ∙ h.is in
          let name : k.0 ≡ h.name = cc in
          let rows : Some v.item ≡ Some h.row = sym v.is_found ∙ (ap (λ z. row_named z t) name ∙ h.found) in
          let row : v.item ≡ h.row = cc in
          let n : node main t m x ≡ suc k.1 = ap (node main t m) k.2 ∙ ap (λ o. option_map_or suc o 0) k.3 in
          let s = seen main t m f out ff.outs_are in
          let l = led_there (graph main t out) (net (needs_by main t) m.live m.makers m.out) (node main t m) (λ n. find n t) s x h.reached in
          let led = subst (Led (net (needs_by main t) m.live m.makers m.out)) n l in
          record {
            place = k.1;
            row = v.item;
            there = v.there;
            is = k.2 ∙ ap (λ z. TaskId.Of z) (sym v.named);
            node_at = ap (node_of t) k.2 ∙ ap (option_map suc) k.3;
            led = led;
            active = (led_wanted m (needs_by main t) f.right (suc k.1) led, ap (flag m.out) (sym n) ∙ (s.out x h.reached ∙ h.waits));
            needed = ap (needs_by main t) (sym n) ∙ s.needs x h.reached;
            desc = ap (λ (r : Row P). r.desc) row ∙ h.desc;
          }

  -- where it has no saved wait, it waits for what it reads alone
  needs_one : (x : TaskId) (d : Desc1) → Follows main t out task x d → last_wait x t ≡ None → (n : List ℕ) → first_refs d ≡ n ∷ []
      → needs main t x ≡ n ∷ []
  needs_one x d h fresh n e =
      ap (λ o. needs_at main t o x) fresh
      ∙ (ap (first_needs main t) h.is
      ∙ (ap (λ (o : Option (Row P)). option_map_or (λ (r : Row P). first_refs r.desc) o []) h.found ∙ (ap first_refs h.desc ∙ e)))

  -- the task's own node, which makes the row of that
  record Own (n : List ℕ) : Type 0 where
    made : Made t task n
    node : ℕ
    is : node_of t task ≡ Some node
    in_makes : In made.place (at m.makes node)

  own_of : (n : List ℕ) → maker t n ≡ Some task → Own n
  own_of n h =
      let q = made_of t task n h in
      let whole = subst (λ b. RowWhole main t b q.row) q.input
      (all_get (λ (r : Row P). RowWhole main t (is_input r.desc) r) t.rows q.place q.row w.rows q.there) in
      let u = node_some t task q.row.task whole.0 in
      let is : node_of t task ≡ Some u.0 = ap (node_of t) (sym q.is) ∙ u.1 in
      let l = q.within in
      let b = long main t m f in
      record {
        made = q;
        node = u.0;
        is = is;
        in_makes = st.filed.makes_it q.place u.0 (omega (arith, l, b)) (maker_row main t m f q.place q.row q.there ∙ u.1);
      }

  near_of : (e r u : ℕ) → Active m (suc e) → needs_by main t (suc e) ≡ Some r ∷ [] → In r (at m.makes u) → Near m u (suc e)
  near_of e r u a nd i = turn c.next
    where
      c : Counted m (needs_by main t) [] (suc e)
      c = all_counted m (needs_by main t) f.right (suc e) a

      live : at m.lacks (suc e) ≡ [] → flag m.live r ≡ true
      live z = turn (c.known (Some r) (subst (In (Some r)) (sym nd) (inl refl)))
        where
          turn : ((is_live m.live (Some r) ≡ true) ⊎ LacksIt m (suc e) (Some r)) → flag m.live r ≡ true
          turn (inl y) = y
          turn (inr q) = absurd (subst (In q.0) z q.3)

      only : (k : ℕ) → In (Some k) (Some r ∷ []) → k ≡ r
      only k (inl s) = cc
      only k (inr h) = absurd h

      turn : ((at m.lacks (suc e) ≡ []) × Listed m (suc e)) ⊎ (Watches m (suc e) ⊎ In (suc e) []) → Near m u (suc e)
      turn (inl q) =
          let y = q.1 in (
            r,
            i,
            inr (live q.0, (y.0, y.2, (st.filed.made y.0 (suc e) (least_in m (needs_by main t) (at m.makes (suc e)) y.0 y.1)).1)),
          )
      turn (inr (inl q)) =
          let s = only q.0 (subst (In (Some q.0)) nd (c.lacked q.0 q.1)) in (
            r,
            i,
            inl (subst (λ k. flag m.live k ≡ false) s q.2, subst (λ k. In (suc e) (at m.watchers k)) s q.3),
          )
      turn (inr (inr h)) = absurd h

  -- a reached node other than the root makes a row
  least_of : (e : ℕ) → Led (net (needs_by main t) m.live m.makers m.out) (suc e) → (z : ℕ) × Least m.makes (suc e) z
  least_of e (through {t = x} l o d i v q) = row d q
    where
      row : (d : Option ℕ) → maker_in m.makers d ≡ Some (suc e) → (z : ℕ) × Least m.makes (suc e) z
      row None q = cc
      row (Some r) q =
          let l = entry_within m.makers r (suc e) q in
          let b = st.shape.makers in
          some_least (at m.makes (suc e)) r (st.filed.makes_it r (suc e) (omega (arith, l, b)) q)

  -- ---- the least row of those that were looked at

  abbrev Found : Option ℕ → Type 0
  Found o = Better t task m (λ v. MayFollow t task m v) None o

  pub row_within : (o : Option ℕ) → Found o → IfSome o (λ e. e < length t.rows)
  row_within None b = tt
  row_within (Some y) b =
      let q = b.some tt in
      let l = (st.filed.made y q.0 (least_in m (needs_by main t) (at m.makes q.0) y q.2)).0 in
      let g = long main t m f in
      omega (arith, l, g)

  module _ (fresh : (x : TaskId) (d : Desc1) → Follows main t out task x d → last_wait x t ≡ None) where
    -- it is among those that are looked at
    record Looked (x : TaskId) (d : Desc1) : Type 0 where
      place : ℕ
      node_at : node_of t x ≡ Some (suc place)
      led : Led (net (needs_by main t) m.live m.makers m.out) (suc place)
      follows : NodeFollows t task m (suc place)
      may : MayFollow t task m (suc place)

    looked_of : (x : TaskId) (d : Desc1) → Follows main t out task x d → Looked x d
    looked_of x d h =
        let p = placed_of x d h in
        let one = first_one t task d h.reads in
        let own = own_of one.0 one.2 in
        let start = fresh x d h in
        let nd : needs_by main t (suc p.place) ≡ Some own.made.place ∷ [] = p.needed
        ∙ (ap (rows_of t) (needs_one x d h start one.0 one.1) ∙ ap (λ o. o ∷ []) own.made.found) in
        record {
          place = p.place;
          node_at = p.node_at;
          led = p.led;
          follows = record {
            active = p.active;
            place = p.place;
            is = refl;
            reads = record {
              row = p.row;
              there = p.there;
              reads = subst (ReadsOne t task) (sym p.desc) h.reads;
              start = ap (λ y. last_wait y t) (sym p.is) ∙ start;
            };
          };
          may = (own.node, own.is, near_of p.place own.made.place own.node p.active nd own.in_makes);
        }

    least_first : (o : Option ℕ) → Found o → (x : TaskId) (d : Desc1) → Follows main t out task x d → (k : ℕ) → entry m.makers k ≡ node_of t x
        → (k < length t.rows) → (z : ℕ) × (z ≤ k) × Behind o z
    least_first o b x d h k e l =
        let q = looked_of x d h in
        let z = least_of q.place q.led in
        let g = long main t m f in (
          z.0,
          st.filed.least z.0 k (suc q.place) z.1 (st.filed.makes_it k (suc q.place) (omega (arith, l, g)) (e ∙ q.node_at)),
          b.all (suc q.place) z.0 q.may q.follows z.1,
        )

    pub follower_is : (o : Option ℕ) → Found o → FollowerIs main t out task (row_desc t o)
    follower_is None b = λ x d h.
        let q = looked_of x d h in
        let z = least_of q.place q.led in
        b.all (suc q.place) z.0 q.may q.follows z.1
    follower_is (Some y) b =
        let q = b.some tt in
        let n = q.1 in
        let s = suc_of q.0 n.place n.is in
        let r = n.reads.row in
        let a = subst (Active m) s n.active in
        let i = row_within (Some y) b in
        let v = held_at t.rows y i in
        let made : entry m.makers y ≡ Some (suc n.place) =
        (st.filed.made y q.0 (least_in m (needs_by main t) (at m.makes q.0) y q.2)).1 ∙ ap (λ k. Some k) s in
        let c = node_known main t m f v.0.task (suc n.place) (sym (maker_row main t m f y v.0 v.1) ∙ made) in
        let p = c.4 in
        let same : c.1 ≡ n.place = omega (arith, p) in
        let item = item_at row_name c.0 t.rows c.1 c.3 in
        let rows : Some item.item ≡ Some r = sym item.there ∙ (ap (slice_get t.rows) same ∙ n.reads.there) in
        let row : item.item ≡ r = cc in
        let is : v.0.task ≡ TaskId.Of r.name = c.2 ∙ ap (λ z. TaskId.Of z) (sym item.named ∙ ap row_name row) in
        let found = (names_of_node n.place r a n.reads.there).found in
        let desc : row_desc t (Some y) ≡ Some r.desc = ap (λ (o : Option (Row P)). task_desc t (option_map_or (λ (x : Row P). x.task) o TaskId.Show)) v.1
        ∙ (ap (task_desc t) is ∙ ap (option_map (λ (x : Row P). x.desc)) found) in
        subst (FollowerIs main t out task) (sym desc) (
          y,
          record {
            row = v.0;
            there = v.1;
            follows = subst (λ x. Follows main t out task x r.desc) (sym is) (follows_of n.place r a n.reads.there n.reads.reads);
            least = λ k x d l there h. before k x d l there h i;
          },
        )
      where
        before : (k : ℕ) (x : Row P) (d : Desc1) → k < y → slice_get t.rows k ≡ Some x → Follows main t out task x.task d → y < length t.rows → ⊥
        before k x d l there h i =
            let z = least_first (Some y) b x.task d h k (maker_row main t m f k x there) (omega (arith, l, i)) in
            let a = z.1 in
            let c = z.2 in
            absurd (omega (arith, l, a, c))

  -- where no executor's task has a saved wait, none that follows has
  pub at_start : ExecsAtStart t → (x : TaskId) (d : Desc1) → Follows main t out task x d → last_wait x t ≡ None
  at_start s x d h =
      ap (λ y. last_wait y t) h.is ∙ s h.name h.row h.found (subst IsExec (sym h.desc) (first_one t task d h.reads).3)

  pub answered : {E : Type 0} (o : Option ℕ) (res : Result (Option Desc1) E) → Found o → IfOk res (λ d. d ≡ row_desc t o)
      → IfOk res (λ d. ExecsAtStart t → FollowerIs main t out task d)
  answered o (Err e) b h = tt
  answered o (Ok d) b h = λ s. subst (FollowerIs main t out task) (sym h) (follower_is (at_start s) o b)
