-- The list is that of the tasks that can run, each at its least row.
use Rattle.std.proofs.Common.{◌≡◌, ◌≤◌, ◌+◌, ℕ, zero, suc, ◌<◌, List, [], ◌∷◌, ◌++◌, length, length-append, drop, Bool, true, false, cond, not, ◌&&◌}
use Rattle.std.proofs.Common.{◌||◌, map, slice_get, refl, ap, sym, ◌∙◌, subst, arith, ◌⊎◌, inl, inr, Option, Some, None}
use Rattle.std.specs.Option.{option_map, option_map_or}
use Rattle.sky_base.specs.declared.object.TaskId.{TaskId}
use Rattle.ciel_journal.specs.Graph.{Led, Picks, Runnable, root}
use Rattle.ciel_journal.specs.Job.{Each, In}
use Rattle.ciel_journal.proofs.Members.{bool_cases, each_of}
use Rattle.ciel_journal.proofs.Picked.{picks_unique}
use Rattle.ciel_journal.proofs.SeenAs.{runs_here, runs_there}
use Rattle.ciel_want_marks.specs.Lists.{Rising, at, entry, flag}
use Rattle.ciel_want_marks.specs.Marks.{Active, Justified, LacksIt, Listed, MarksSeen, Ready, Stands, Watches, is_live, net}
use Rattle.ciel_want_marks.specs.Moves.{is_none}
use Rattle.ciel_want_marks.proofs.KeptMarks.{all_counted, least_in, led_wanted}
use Rattle.ciel_want_marks.proofs.Rises.{above}
use Rattle.ciel_want_marks.proofs.Slots.{entry_within, get_within, nat_cases, not_both}
use Rattle.sky_base.proofs.Exact.{self_text}
use Rattle.ciel_want_ready.specs.Fits.{Fits, FitsOut, many_of, needs_by, node_of, runs_at}
use Rattle.ciel_want_ready.specs.Seen.{CanRunAt, CanRunMany}
use Rattle.ciel_want_ready.proofs.NumberedGraph.{IsKnown, led_known, long, maker_row, node, node_is, seen}
use Rattle.ciel_table.specs.Seen.{TableSeen, find, row_name}
use Rattle.ciel_table.specs.declared.row.Row.{Row}
use Rattle.ciel_want.specs.Board.{maker_at}
use Rattle.ciel_want.specs.Waited.{graph, is_in, same_id, tasks_after, tasks_in_order, unless}
use Rattle.ciel_want.proofs.Listed.{same_exact}
use Rattle.ciel_want.proofs.FlaggedTasks.{held_at}
use Rattle.ciel_want.proofs.Rows.{item_at}

each_all : {A : Type 0} (Q : A → Type 0) (xs : List A) → ((x : A) → In x xs → Q x) → Each Q xs
each_all Q [] f = tt
each_all Q (x ∷ xs) f = (f x (inl refl), each_all Q xs (λ y i. f y (inr i)))

drop_more : {A : Type 0} (xs : List A) (i : ℕ) (y : A) (ys : List A) → drop i xs ≡ y ∷ ys → (slice_get xs i ≡ Some y) × (drop (suc i) xs ≡ ys)
drop_more [] zero y ys e = cc
drop_more [] (suc i) y ys e = cc
drop_more (x ∷ xs) zero y ys e =
    let p : x ≡ y = cc in
    let q : xs ≡ ys = cc in
    (ap (λ z. Some z) p, q)
drop_more (x ∷ xs) (suc i) y ys e = drop_more xs i y ys e

drop_long : {A : Type 0} (xs : List A) (i : ℕ) → drop i xs ≡ [] → length xs ≤ i
drop_long [] i e = omega arith
drop_long (x ∷ xs) zero e = cc
drop_long (x ∷ xs) (suc i) e = let l = drop_long xs i e in omega (arith, l)

-- the root task, if it can run
abbrev pub if_root : Bool → List TaskId
if_root true = TaskId.Show ∷ []
if_root false = []

module _ {P : Type 0} (main : List ℕ) (t : TableSeen P) (out : List TaskId) (m : MarksSeen) (ff : FitsOut main t out m) where
  f : Fits main t m
  f = ff.fits

  st : Stands m (needs_by main t) [] []
  st = f.right.0

  abbrev CanGo : TaskId → Type 0
  CanGo = Runnable (graph main t out)

  abbrev task_of : ℕ → TaskId
  task_of y = maker_at t (Some y)

  task_is : (y : ℕ) (r : Row P) → slice_get t.rows y ≡ Some r → task_of y ≡ r.task
  task_is y r e = ap (λ (o : Option (Row P)). option_map_or (λ (x : Row P). x.task) o TaskId.Show) e

  within : (y u : ℕ) → entry m.makers y ≡ Some u → y < length t.rows
  within y u e =
      let l = entry_within m.makers y u e in
      let a = st.shape.makers in
      let b = long main t m f in
      omega (arith, l, a, b)

  pub led_of : (u : ℕ) → Active m u → Led (net (needs_by main t) m.live m.makers m.out) u
  led_of u a = turn (st.justified u a.0)
    where
      turn : Justified m (needs_by main t) u → Led (net (needs_by main t) m.live m.makers m.out) u
      turn (inl l) = l
      turn (inr o) = not_both (flag m.out u) o.0 a.1

  -- two tasks of one node are one
  same_task : (x y : TaskId) (u : ℕ) → node_of t x ≡ Some u → IsKnown main t m y → node main t m y ≡ u → y ≡ x
  same_task TaskId.Show y u e k n = cc
  same_task (TaskId.Of a) y u e (inl z) n = turn (find a t) e
    where
      turn : (o : Option ℕ) → option_map suc o ≡ Some u → y ≡ TaskId.Of a
      turn None h = cc
      turn (Some x) h =
          let p : suc x ≡ u = cc in
          let q : 0 ≡ u = ap (node main t m) (sym z) ∙ n in
          absurd (omega (arith, p, q))
  same_task (TaskId.Of a) y u e (inr k) n = turn (find a t) refl e
    where
      turn : (o : Option ℕ) → find a t ≡ o → option_map suc o ≡ Some u → y ≡ TaskId.Of a
      turn None g h = cc
      turn (Some x) g h =
          let p : suc x ≡ u = cc in
          let q : suc k.1 ≡ u = sym (ap (node main t m) k.2 ∙ ap (λ o. option_map_or suc o 0) k.3) ∙ n in
          let i : x ≡ k.1 = omega (arith, p, q) in
          let r = item_at row_name a t.rows x g in
          let s = item_at row_name k.0 t.rows k.1 k.3 in
          let same : Some r.item ≡ Some s.item = sym r.there ∙ (ap (slice_get t.rows) i ∙ s.there) in
          let item : r.item ≡ s.item = cc in
          k.2 ∙ ap (λ z. TaskId.Of z) (sym s.named ∙ (ap row_name (sym item) ∙ r.named))

  -- ---- what is listed can run

  runs_of : (u : ℕ) → Active m u → ((d : Option ℕ) → In d (needs_by main t u) → is_live m.live d ≡ true) → (x : TaskId) × (node main t m x ≡ u)
      × CanGo x
  runs_of u a all =
      runs_here (graph main t out) (net (needs_by main t) m.live m.makers m.out) (node main t m) (λ n. find n t)
      (seen main t m f out ff.outs_are) u (record {
        reached = led_of u a;
        not_out = a.1;
        met = each_all (λ d. is_live m.live d ≡ true) (needs_by main t u) all;
      })

  pub listed_runs : (y : ℕ) → In y m.list → CanGo (task_of y)
  listed_runs y h =
      let q = st.ready y h in
      let x = runs_of q.0 q.1 q.3 in
      let e = (st.filed.made y q.0 (least_in m (needs_by main t) (at m.makes q.0) y q.2)).1 in
      let w = held_at t.rows y (within y q.0 e) in
      let z = same_task w.0.task x.0 q.0 (sym (maker_row main t m f y w.0 w.1) ∙ e) (led_known main t m f out x.0 x.2.reached) x.1 in
      subst CanGo (z ∙ sym (task_is y w.0 w.1)) x.2

  -- ---- what can run is listed

  -- its node, to which nothing is missing
  pub record Met (u : ℕ) : Type 0 where
    pub active : Active m u
    pub lacks : at m.lacks u ≡ []
    pub listed : Listed m u

  met_of : (x : TaskId) → CanGo x → Met (node main t m x)
  met_of x c = turn ((all_counted m (needs_by main t) f.right u a).next)
    where
      u : ℕ
      u = node main t m x

      r : Runnable (net (needs_by main t) m.live m.makers m.out) (node main t m x)
      r =
          runs_there (graph main t out) (net (needs_by main t) m.live m.makers m.out) (node main t m) (λ n. find n t)
          (seen main t m f out ff.outs_are) x c

      a : Active m (node main t m x)
      a = (led_wanted m (needs_by main t) f.right (node main t m x) r.reached, r.not_out)

      turn : ((at m.lacks (node main t m x) ≡ []) × Listed m (node main t m x)) ⊎ (Watches m (node main t m x) ⊎ In (node main t m x) [])
          → Met (node main t m x)
      turn (inl q) = record { active = a; lacks = q.0; listed = q.1 }
      turn (inr (inl q)) =
          let i = (all_counted m (needs_by main t) f.right (node main t m x) a).lacked q.0 q.1 in
          not_both (flag m.live q.0) (each_of (λ d. is_live m.live d ≡ true) (Some q.0) (needs_by main t (node main t m x)) i r.met) q.2
      turn (inr (inr h)) = absurd h

  -- the least row of the task of a row, if it can run
  runs_listed : (i : ℕ) (r : Row P) → slice_get t.rows i ≡ Some r → i < length t.rows → (r.task ≡ TaskId.Show → ⊥) → CanGo r.task → (y : ℕ)
      × In y m.list × (y ≤ i) × (entry m.makers y ≡ entry m.makers i)
  runs_listed i r e l g c = known (led_known main t m f out r.task c.reached)
    where
      known : IsKnown main t m r.task → (y : ℕ) × In y m.list × (y ≤ i) × (entry m.makers y ≡ entry m.makers i)
      known (inl z) = absurd (g z)
      known (inr k) =
          let n : node_of t r.task ≡ Some (suc k.1) = ap (node_of t) k.2 ∙ ap (option_map suc) k.3 in
          let made = maker_row main t m f i r e ∙ n in
          let q = subst Met (node_is main t m f r.task (suc k.1) n) (met_of r.task c) in
          let z = q.listed in
          let b = long main t m f in
          let here = st.filed.makes_it i (suc k.1) (omega (arith, l, b)) made in (
            z.0,
            z.2,
            st.filed.least z.0 i (suc k.1) z.1 here,
            (st.filed.made z.0 (suc k.1) (least_in m (needs_by main t) (at m.makes (suc k.1)) z.0 z.1)).1 ∙ sym made,
          )

  -- ---- the root task

  abbrev root_test : Bool
  root_test = not (flag m.out 0) && is_none (at m.lacks 0)

  none_of : (xs : List ℕ) → is_none xs ≡ true → xs ≡ []
  none_of [] e = refl
  none_of (x ∷ xs) e = cc

  root_goes : root_test ≡ true → CanGo TaskId.Show
  root_goes e = turn (flag m.out 0) refl e
    where
      go : flag m.out 0 ≡ false → at m.lacks 0 ≡ [] → CanGo TaskId.Show
      go o z =
          let a : Active m 0 = (st.root, o) in
          let x = runs_of 0 a (λ d i. met a d i) in
          known x.0 (led_known main t m f out x.0 x.2.reached) x.1 x.2
        where
          met : Active m 0 → (d : Option ℕ) → In d (needs_by main t 0) → is_live m.live d ≡ true
          met a d i = turn ((all_counted m (needs_by main t) f.right 0 a).known d i)
            where
              turn : ((is_live m.live d ≡ true) ⊎ LacksIt m 0 d) → is_live m.live d ≡ true
              turn (inl y) = y
              turn (inr q) = absurd (subst (In q.0) z q.3)

          known : (x : TaskId) → IsKnown main t m x → node main t m x ≡ 0 → CanGo x → CanGo TaskId.Show
          known x (inl e) n c = subst CanGo e c
          known x (inr k) n c =
              let q : suc k.1 ≡ 0 = sym (ap (node main t m) k.2 ∙ ap (λ o. option_map_or suc o 0) k.3) ∙ n in
              absurd (omega (arith, q))

      turn : (b : Bool) → flag m.out 0 ≡ b → not b && is_none (at m.lacks 0) ≡ true → CanGo TaskId.Show
      turn true o h = cc
      turn false o h = go o (none_of (at m.lacks 0) h)

  goes_root : CanGo TaskId.Show → root_test ≡ true
  goes_root c =
      let q = met_of TaskId.Show c in
      ap (λ b. not b && is_none (at m.lacks 0)) q.active.1 ∙ ap (λ xs. true && is_none xs) q.lacks

  -- ---- row by row

  -- the tasks of the rows before one, and the root task
  record Past (i : ℕ) (before : List TaskId) : Type 0 where
    shown : is_in before TaskId.Show ≡ true
    has : (j : ℕ) (r : Row P) → j < i → slice_get t.rows j ≡ Some r → is_in before r.task ≡ true
    of : (x : TaskId) → is_in before x ≡ true → (x ≡ TaskId.Show) ⊎ ((j : ℕ) × (r : Row P) × (j < i) × (slice_get t.rows j ≡ Some r) × (r.task ≡ x))

  same_self : (x : TaskId) → same_id x x ≡ true
  same_self TaskId.Show = refl
  same_self (TaskId.Of n) = self_text n

  last_or_before : (n i : ℕ) → i < suc n → (i < n) ⊎ (i ≡ n)
  last_or_before n i l = grind (arith, l)

  or_right : (b : Bool) → b || true ≡ true
  or_right true = refl
  or_right false = refl

  past_more : (i : ℕ) (r : Row P) (before : List TaskId) → slice_get t.rows i ≡ Some r → Past i before → Past (suc i) (r.task ∷ before)
  past_more i r before e p =
      record {
        shown = ap (λ b. same_id TaskId.Show r.task || b) p.shown ∙ or_right (same_id TaskId.Show r.task);
        has = λ j x l k. has j x (last_or_before i j l) k;
        of = λ x h. of x (bool_cases (same_id x r.task)) h;
      }
    where
      has : (j : ℕ) (x : Row P) → ((j < i) ⊎ (j ≡ i)) → slice_get t.rows j ≡ Some x → is_in (r.task ∷ before) x.task ≡ true
      has j x (inl l) k =
          ap (λ b. same_id x.task r.task || b) (p.has j x l k) ∙ or_right (same_id x.task r.task)
      has j x (inr s) k =
          let y : Some r ≡ Some x = sym e ∙ (ap (slice_get t.rows) (sym s) ∙ k) in
          let z : r ≡ x = cc in
          ap (λ (w : Row P). same_id x.task w.task || is_in before x.task) z
          ∙ ap (λ b. b || is_in before x.task) (same_self x.task)

      of : (x : TaskId) → ((same_id x r.task ≡ true) ⊎ (same_id x r.task ≡ false)) → is_in (r.task ∷ before) x ≡ true → (x ≡ TaskId.Show)
          ⊎ ((j : ℕ) × (y : Row P) × (j < suc i) × (slice_get t.rows j ≡ Some y) × (y.task ≡ x))
      of x (inl s) h = inr (i, r, omega arith, e, sym (same_exact x r.task s))
      of x (inr s) h = turn (p.of x (sym (ap (λ b. b || is_in before x) s) ∙ h))
        where
          turn : ((x ≡ TaskId.Show) ⊎ ((j : ℕ) × (y : Row P) × (j < i) × (slice_get t.rows j ≡ Some y) × (y.task ≡ x))) → (x ≡ TaskId.Show)
              ⊎ ((j : ℕ) × (y : Row P) × (j < suc i) × (slice_get t.rows j ≡ Some y) × (y.task ≡ x))
          turn (inl z) = inl z
          turn (inr q) = let l = q.2 in inr (q.0, q.1, omega (arith, l), q.3, q.4)

  -- the numbers from one on that are listed
  record From (i : ℕ) (ls : List ℕ) : Type 0 where
    rising : Rising ls
    low : (y : ℕ) → In y ls → i ≤ y
    inside : (y : ℕ) → In y ls → In y m.list
    all : (y : ℕ) → i ≤ y → In y m.list → In y ls

  from_next : (i : ℕ) (ls : List ℕ) → From i ls → (In i ls → ⊥) → From (suc i) ls
  from_next i ls w g =
      record {
        rising = w.rising;
        low = λ y h. low y h (nat_cases y i);
        inside = w.inside;
        all = λ y l h. w.all y (omega (arith, l)) h;
      }
    where
      low : (y : ℕ) → In y ls → ((y ≡ i) ⊎ (y ≡ i → ⊥)) → suc i ≤ y
      low y h (inl s) = absurd (g (subst (λ z. In z ls) s h))
      low y h (inr k) = let a = w.low y h in grind (arith, a, k)

  from_tail : (i : ℕ) (ls : List ℕ) → From i (i ∷ ls) → From (suc i) ls
  from_tail i ls w =
      record {
        rising = w.rising.1;
        low = λ y h. above i ls w.rising y h;
        inside = λ y h. w.inside y (inr h);
        all = λ y l h. tail y l (w.all y (omega (arith, l)) h);
      }
    where
      tail : (y : ℕ) → suc i ≤ y → In y (i ∷ ls) → In y ls
      tail y l (inl s) = absurd (omega (arith, l, s))
      tail y l (inr h) = h

  -- a listed row is the first of its task
  first_of : (i : ℕ) (r : Row P) (before : List TaskId) → slice_get t.rows i ≡ Some r → Past i before → is_in before r.task ≡ true → In i m.list → ⊥
  first_of i r before e p b h = turn (p.of r.task b)
    where
      q : Ready m (needs_by main t) i
      q = st.ready i h

      made : entry m.makers i ≡ Some q.0
      made = (st.filed.made i q.0 (least_in m (needs_by main t) (at m.makes q.0) i q.2)).1

      turn : ((r.task ≡ TaskId.Show) ⊎ ((j : ℕ) × (x : Row P) × (j < i) × (slice_get t.rows j ≡ Some x) × (x.task ≡ r.task))) → ⊥
      turn (inl z) =
          let y : None ≡ Some q.0 = ap (node_of t) (sym z) ∙ (sym (maker_row main t m f i r e) ∙ made) in
          none y
        where
          none : {u : ℕ} → None ≡ Some u → ⊥
          none y = cc
      turn (inr z) =
          let there : entry m.makers z.0 ≡ Some q.0 = maker_row main t m f z.0 z.1 z.3
          ∙ (ap (node_of t) z.4 ∙ (sym (maker_row main t m f i r e) ∙ made)) in
          let w = within z.0 q.0 there in
          let b = long main t m f in
          let l = st.filed.least i z.0 q.0 q.2 (st.filed.makes_it z.0 q.0 (omega (arith, w, b)) there) in
          let k = z.2 in
          absurd (omega (arith, l, k))

  picks_rows : (rs : List (Row P)) (i : ℕ) (before : List TaskId) (ls : List ℕ) (b : Bool) → drop i t.rows ≡ rs → Past i before → From i ls
      → root_test ≡ b → Picks CanGo (tasks_after before rs) (map task_of ls ++ if_root b)
  picks_rows [] i before [] true d p w e = inl (root_goes e, ([], refl, refl))
  picks_rows [] i before [] false d p w e = inr (λ c. not_both root_test (goes_root c) e, refl)
  picks_rows [] i before (y ∷ ls) b d p w e =
      let q = st.ready y (w.inside y (inl refl)) in
      let k = within y q.0 (st.filed.made y q.0 (least_in m (needs_by main t) (at m.makes q.0) y q.2)).1 in
      let l = drop_long t.rows i d in
      let z = w.low y (inl refl) in
      absurd (omega (arith, k, l, z))
  picks_rows (r ∷ rs) i before ls b d p w e =
      turn (bool_cases (is_in before r.task)) (picks_rows rs (suc i) (r.task ∷ before)) ls w
    where
      here : slice_get t.rows i ≡ Some r
      here = (drop_more t.rows i r rs d).0

      rest : drop (suc i) t.rows ≡ rs
      rest = (drop_more t.rows i r rs d).1

      more : Past (suc i) (r.task ∷ before)
      more = past_more i r before here p

      -- it isn't listed, and is new: it can't run
      stays : (ls : List ℕ) → From i ls → (In i ls → ⊥) → is_in before r.task ≡ false → CanGo r.task → ⊥
      stays ls w g n c = next (runs_listed i r here (get_within t.rows i r here) root_not c)
        where
          root_not : r.task ≡ TaskId.Show → ⊥
          root_not z = not_both (is_in before r.task) (ap (is_in before) z ∙ p.shown) n

          next : ((y : ℕ) × In y m.list × (y ≤ i) × (entry m.makers y ≡ entry m.makers i)) → ⊥
          next q = turn (nat_cases q.0 i)
            where
              lower : (q.0 ≡ i → ⊥) → ⊥
              lower k =
                  let a = q.2 in
                  let l : q.0 < i = grind (arith, a, k) in
                  let z = st.ready q.0 q.1 in
                  let made = (st.filed.made q.0 z.0 (least_in m (needs_by main t) (at m.makes z.0) q.0 z.2)).1 in
                  let x = held_at t.rows q.0 (within q.0 z.0 made) in
                  let u : node_of t r.task ≡ Some z.0 = sym (maker_row main t m f i r here) ∙ (sym q.3 ∙ made) in
                  let v : node_of t x.0.task ≡ Some z.0 = sym (maker_row main t m f q.0 x.0 x.1) ∙ made in
                  let same : r.task ≡ x.0.task = same_task x.0.task r.task z.0 v (led_known main t m f out r.task c.reached)
                  (node_is main t m f r.task z.0 u) in
                  not_both (is_in before r.task) (ap (is_in before) same ∙ p.has q.0 x.0 l x.1) n

              turn : ((q.0 ≡ i) ⊎ (q.0 ≡ i → ⊥)) → ⊥
              turn (inl k) = g (w.all i (omega arith) (subst (λ z. In z m.list) k q.1))
              turn (inr k) = lower k

      turn : ((is_in before r.task ≡ true) ⊎ (is_in before r.task ≡ false))
          → ((ls : List ℕ) (b : Bool) → drop (suc i) t.rows ≡ rs → Past (suc i) (r.task ∷ before) → From (suc i) ls → root_test ≡ b
          → Picks CanGo (tasks_after (r.task ∷ before) rs) (map task_of ls ++ if_root b)) → (ls : List ℕ) → From i ls
          → Picks CanGo (unless (is_in before r.task) r.task (tasks_after (r.task ∷ before) rs)) (map task_of ls ++ if_root b)
      turn (inl y) rec ls w =
          subst (λ c. Picks CanGo (unless c r.task (tasks_after (r.task ∷ before) rs)) (map task_of ls ++ if_root b)) (sym y)
          (rec ls b rest more (from_next i ls w (λ h. first_of i r before here p y (w.inside i h))) e)
      turn (inr n) rec [] w =
          subst (λ c. Picks CanGo (unless c r.task (tasks_after (r.task ∷ before) rs)) (map task_of [] ++ if_root b)) (sym n)
          (inr (stays [] w (λ h. h) n, rec [] b rest more (from_next i [] w (λ h. h)) e))
      turn (inr n) rec (y ∷ ls) w = pick (nat_cases y i)
        where
          task : task_of i ≡ r.task
          task = task_is i r here

          pick : ((y ≡ i) ⊎ (y ≡ i → ⊥)) → Picks CanGo (unless (is_in before r.task) r.task (tasks_after (r.task ∷ before) rs))
              (map task_of (y ∷ ls) ++ if_root b)
          pick (inl s) =
              let w2 = subst (λ z. From i (z ∷ ls)) s w in
              let c = subst CanGo task (listed_runs i (w2.inside i (inl refl))) in
              subst (λ c. Picks CanGo (unless c r.task (tasks_after (r.task ∷ before) rs)) (map task_of (y ∷ ls) ++ if_root b)) (sym n)
              (inl (
                c,
                (
                  map task_of ls ++ if_root b,
                  ap (λ z. z ∷ (map task_of ls ++ if_root b)) (ap task_of s ∙ task),
                  rec ls b rest more (from_tail i ls w2) e,
                ),
              ))
          pick (inr k) =
              let g = not_there k in
              subst (λ c. Picks CanGo (unless c r.task (tasks_after (r.task ∷ before) rs)) (map task_of (y ∷ ls) ++ if_root b)) (sym n)
              (inr (stays (y ∷ ls) w g n, rec (y ∷ ls) b rest more (from_next i (y ∷ ls) w g) e))
            where
              not_there : (y ≡ i → ⊥) → In i (y ∷ ls) → ⊥
              not_there k (inl s) = k (sym s)
              not_there k (inr h) =
                  let a = above y ls w.rising i h in
                  let b = w.low y (inl refl) in
                  absurd (omega (arith, a, b))

  -- all of them
  pub picks_list : Rising m.list → Picks CanGo (tasks_in_order t) (map task_of m.list ++ if_root root_test)
  picks_list r =
      picks_rows t.rows 0 (TaskId.Show ∷ []) m.list root_test refl (record {
        shown = refl;
        has = λ j x l. absurd (omega (arith, l));
        of = λ x h. of x h;
      }) (record {
        rising = r;
        low = λ y h. omega arith;
        inside = λ y h. h;
        all = λ y l h. h;
      }) refl
    where
      of : (x : TaskId) → is_in (TaskId.Show ∷ []) x ≡ true → (x ≡ TaskId.Show)
          ⊎ ((j : ℕ) × (y : Row P) × (j < 0) × (slice_get t.rows j ≡ Some y) × (y.task ≡ x))
      of TaskId.Show h = inl refl
      of (TaskId.Of n) h = cc

  length_root : (b : Bool) → length (if_root b) ≡ cond b 1 0
  length_root true = refl
  length_root false = refl

  length_task : (ls : List ℕ) → length (map task_of ls) ≡ length ls
  length_task [] = refl
  length_task (x ∷ xs) = ap suc (length_task xs)

  long_list : length (map task_of m.list ++ if_root root_test) ≡ many_of m
  long_list =
      length-append (map task_of m.list) (if_root root_test)
      ∙ (ap (λ n. n + length (if_root root_test)) (length_task m.list) ∙ ap (λ n. length m.list + n) (length_root root_test))

  pub runs_many : Rising m.list → CanRunMany (record { table = t; main = main; out = out }) (many_of m)
  runs_many r = (map task_of m.list ++ if_root root_test, picks_list r, long_list)

  -- the k-th of the list, or the root task behind it
  get_at : (ls : List ℕ) (b : Bool) (k : ℕ) → k < length ls + cond b 1 0 → slice_get (map task_of ls ++ if_root b) k
      ≡ Some (option_map_or task_of (slice_get ls k) TaskId.Show)
  get_at [] true zero l = refl
  get_at [] true (suc k) l = absurd (omega (arith, l))
  get_at [] false k l = absurd (omega (arith, l))
  get_at (y ∷ ys) b zero l = refl
  get_at (y ∷ ys) b (suc k) l = get_at ys b k (omega (arith, l))

  pub runs_kth : Rising m.list → (k : ℕ) → ((n : ℕ) × CanRunMany (record { table = t; main = main; out = out }) n × (k < n))
      → CanRunAt (record { table = t; main = main; out = out }) k (runs_at t m k)
  runs_kth r k q =
      let same = picks_unique CanGo (tasks_in_order t) q.1.0 (map task_of m.list ++ if_root root_test) q.1.1 (picks_list r) in
      let a = ap length same in
      let b = q.1.2 in
      let c = long_list in
      let d = q.2 in
      (map task_of m.list ++ if_root root_test, picks_list r, get_at m.list root_test k (omega (arith, a, b, c, d)))

  pub list_within : (k r : ℕ) → slice_get m.list k ≡ Some r → r < length t.rows
  list_within k r e =
      let q = st.ready r (got m.list k e) in
      within r q.0 (st.filed.made r q.0 (least_in m (needs_by main t) (at m.makes q.0) r q.2)).1
    where
      got : (xs : List ℕ) (k : ℕ) → slice_get xs k ≡ Some r → In r xs
      got [] k e = cc
      got (x ∷ xs) zero e = let p : x ≡ r = cc in inl (sym p)
      got (x ∷ xs) (suc k) e = inr (got xs k e)
