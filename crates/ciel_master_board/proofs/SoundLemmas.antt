-- Each call keeps what holds of the master's state by names.
use Rattle.std.proofs.Common.{◌≡◌, ℕ, zero, suc, ◌+◌, ◌≤◌, ◌<◌, List, [], ◌∷◌, ◌++◌, length, Bool, true, false, not, cond, ◌&&◌, map, filter, nat_eq}
use Rattle.std.proofs.Common.{nat_lt, eq-eqb, Option, Some, None, IsSome, ◌⊎◌, inl, inr, refl, ap, sym, ◌∙◌, subst, arith}
use Rattle.std.specs.List.{AllByRecursion, list_any}
use Rattle.std.specs.Option.{option_and_then, option_map}
use Rattle.std.proofs.lemmas.Bool.{ltb-true, ltb-false}
use Rattle.std.proofs.lemmas.List.{length-map}
use Rattle.sky_base.specs.Name.{digested}
use Rattle.sky_base.specs.ObjectView.{desc_view}
use Rattle.sky_base.specs.Val.{no_pairs, no_vals, same_text}
use Rattle.sky_base.specs.declared.object.Desc1.{Desc1}
use Rattle.sky_base.specs.declared.object.Named.{Named}
use Rattle.sky_base.specs.declared.object.TaskId.{TaskId}
use Rattle.sky_base.proofs.Exact.{self_text}
use Rattle.ciel_journal.specs.Entries.{Entry}
use Rattle.ciel_journal.specs.Graph.{Led, Runnable, root, through}
use Rattle.ciel_journal.specs.History.{Plan}
use Rattle.ciel_journal.specs.Job.{Digest, Each, In}
use Rattle.ciel_journal.specs.Turns.{idle_from, is_idle}
use Rattle.ciel_journal.proofs.Booked.{each_more}
use Rattle.ciel_journal.proofs.Good.{each_filter, each_join}
use Rattle.ciel_journal.proofs.Members.{bool_cases, each_of, in_any}
use Rattle.ciel_journal.proofs.Numbers.{in_filter, in_last, kept_test}
use Rattle.ciel_name.specs.Names.{first_output}
use Rattle.ciel_table.specs.Changes as c
use Rattle.ciel_table.specs.Changes.{row_with}
use Rattle.ciel_table.specs.Learning.{learned, new_row}
use Rattle.ciel_table.specs.Named.{found, place_of}
use Rattle.ciel_table.specs.Seen.{Known, TableSeen, is_input, later, latest, row_name, row_named, saves_name, waits_of}
use Rattle.ciel_table.specs.Sound.{Here}
use Rattle.ciel_table.specs.declared.row.Row.{Row}
use Rattle.ciel_table.specs.declared.wait.Saves.{Saves}
use Rattle.ciel_table.specs.declared.wait.Wait.{Wait}
use Rattle.ciel_table.proofs.ByName.{all_changed, length_changed, names_changed, names_mapped, place_same}
use Rattle.ciel_table.proofs.Lists.{all_filter, all_map, all_more, all_push, any_last, flip_nat}
use Rattle.ciel_want.specs.Waited.{AllKnown, RowNamed, TaskKnown, Whole, first_refs, is_in, made_by, same_id}
use Rattle.ciel_want.proofs.NamedWaits.{named_whole}
use Rattle.ciel_want.proofs.Rows.{all_found}
use Rattle.ciel_want.proofs.Listed.{same_exact}
use Rattle.ciel_master_board.specs.Board.{Board, Order, OrderOut, board_graph, find_order, idle_of, start_refs, tasks_out, wait_number, workers_out}
use Rattle.ciel_master_board.specs.Moves.{accepted, is_root, lost_at, opened, order_for, started, wait_of, with_copies, with_outputs, without}
use Rattle.ciel_master_board.specs.Reports as rep
use Rattle.ciel_master_board.specs.Reports.{AllLearned, Copy, End, IsNamed, Output, Stack, learned_all}
use Rattle.ciel_master_board.specs.Sound.{EndFits, Fits, IsTask, OrderSound, RowSound, SavesSound, Sound, StackFits, WaitSound}
use Rattle.ciel_master_board.proofs.EventsFollowed.{room_all}
use Rattle.ciel_master_board.proofs.LearnedNames.{Comes, comes, grown, new, there}
use Rattle.ciel_master_board.proofs.PlacedRows.{copies_same, outputs_same}
use Rattle.ciel_master_board.proofs.WaitsByName.{fewer_waits, more_waits, same_waits}

each_three : {A : Type 0} (F G H K : A → Type 0) → ((x : A) → F x → G x → H x → K x) → (xs : List A) → Each F xs → Each G xs → Each H xs → Each K xs
each_three F G H K f [] a e g = tt
each_three F G H K f (x ∷ xs) a e g = (f x a.0 e.0 g.0, each_three F G H K f xs a.1 e.1 g.1)

-- ---- what is known stays known

module _ {P : Type 0} where
  -- each name that has a row there has one here
  abbrev pub Keeps : TableSeen P → TableSeen P → Type 0
  Keeps t u = (n : List ℕ) → Known t n → Known u n

  known_all : (t u : TableSeen P) → Keeps t u → (ns : List Digest) → AllKnown t ns → AllKnown u ns
  known_all t u k ns a = all_more (Known t) (Known u) k ns a

  pub same_names : (t u : TableSeen P) → map row_name u.rows ≡ map row_name t.rows → Keeps t u
  same_names t u e n k = subst IsSome (sym (place_same row_name n t.rows u.rows e)) k

  -- a row at the end
  one_more : (rs : List (Row P)) (r : Row P) (n : List ℕ) → IsSome (place_of row_name n rs) → IsSome (place_of row_name n (rs ++ r ∷ []))
  one_more [] r n k = cc
  one_more (x ∷ xs) r n k = pick (same_text n x.name) (place_of row_name n xs) refl k (one_more xs r n)
    where
      some : (o : Option ℕ) → IsSome o → IsSome (option_map suc o)
      some None k = cc
      some (Some i) k = refl

      back : (o : Option ℕ) → IsSome (option_map suc o) → IsSome o
      back None k = cc
      back (Some i) k = refl

      pick : (b : Bool) (o : Option ℕ) → place_of row_name n xs ≡ o → IsSome (cond b (Some 0) (option_map suc (place_of row_name n xs)))
          → (IsSome (place_of row_name n xs) → IsSome (place_of row_name n (xs ++ r ∷ [])))
          → IsSome (cond b (Some 0) (option_map suc (place_of row_name n (xs ++ r ∷ []))))
      pick true o e k f = refl
      pick false o e k f = some (place_of row_name n (xs ++ r ∷ [])) (f (back (place_of row_name n xs) k))

  learned_keeps : (digest : List ℕ → List ℕ) (n : Named) (t : TableSeen P) → Keeps t (learned digest n t)
  learned_keeps digest n t m k = pick (comes digest n t)
    where
      pick : Comes digest n t → Known (learned digest n t) m
      pick (there e r i y some f) = subst (λ rs. IsSome (place_of row_name m rs)) (sym e) k
      pick (new e none) = subst (λ rs. IsSome (place_of row_name m rs)) (sym e) (one_more t.rows (new_row digest n) m k)

  pub all_keeps : (digest : List ℕ → List ℕ) (ns : List Named) (t : TableSeen P) → Keeps t (learned_all digest ns t)
  all_keeps digest [] t m k = k
  all_keeps digest (n ∷ ns) t m k = all_keeps digest ns (learned digest n t) m (learned_keeps digest n t m k)

  -- ---- what is sound stays sound

  row_kept : (digest : List ℕ → List ℕ) (t u : TableSeen P) → Keeps t u → (r : Row P) (ps : List P) → RowSound digest t r
      → RowSound digest u (record r { places = ps })
  row_kept digest t u k r ps a =
      record {
        name = a.name;
        task = a.task;
        spelled = a.spelled;
        inside = known_all t u k (start_refs r.desc) a.inside;
        own = k (digested digest (first_output (desc_view r.desc))) a.own;
      }

  rows_kept : (digest : List ℕ → List ℕ) (t u : TableSeen P) → Keeps t u → (rs : List (Row P)) → AllByRecursion (RowSound digest t) rs
      → AllByRecursion (RowSound digest u) rs
  rows_kept digest t u k rs a = all_more (RowSound digest t) (RowSound digest u) (λ r q. row_kept digest t u k r r.places q) rs a

  wait_kept : (t u : TableSeen P) → Keeps t u → (w : Wait P) → WaitSound t w → WaitSound u w
  wait_kept t u k w a = record { refs = known_all t u k w.refs a.refs; holds = known_all t u k w.holds a.holds }

  waits_kept : (t u : TableSeen P) → Keeps t u → (ws : List (Wait P)) → AllByRecursion (WaitSound t) ws → AllByRecursion (WaitSound u) ws
  waits_kept t u k ws a = all_more (WaitSound t) (WaitSound u) (wait_kept t u k) ws a

  saves_kept : (t u : TableSeen P) → Keeps t u → (q : Saves P) → SavesSound t q → SavesSound u q
  saves_kept t u k q a = record { task = k q.name a.task; waits = waits_kept t u k q.waits a.waits }

  saved_kept : (t u : TableSeen P) → Keeps t u → (qs : List (Saves P)) → AllByRecursion (SavesSound t) qs → AllByRecursion (SavesSound u) qs
  saved_kept t u k qs a = all_more (SavesSound t) (SavesSound u) (saves_kept t u k) qs a

  -- rows after learning, by what holds of the new ones
  learned_rows : (Q : Row P → Type 0) (digest : List ℕ → List ℕ) (ns : List Named) (t : TableSeen P) → AllByRecursion Q t.rows
      → Each (λ (n : Named). Q (new_row digest n)) ns → AllByRecursion Q (learned_all digest ns t).rows
  learned_rows Q digest [] t a e = a
  learned_rows Q digest (n ∷ ns) t a e = learned_rows Q digest ns (learned digest n t) (pick (comes digest n t)) e.1
    where
      pick : Comes digest n t → AllByRecursion Q (learned digest n t).rows
      pick (there g r i y some f) = subst (AllByRecursion Q) (sym g) a
      pick (new g none) = subst (AllByRecursion Q) (sym g) (all_push Q t.rows (new_row digest n) a e.0)

  -- the three that speak of rows and saved waits
  pub record Whole' (digest : List ℕ → List ℕ) (t : TableSeen P) : Type 0 where
    pub rows : AllByRecursion (RowSound digest t) t.rows
    pub shown : AllByRecursion (WaitSound t) t.shown
    pub saved : AllByRecursion (SavesSound t) t.saved

  pub learned_whole : (digest : List ℕ → List ℕ) (ns : List Named) (t : TableSeen P) → Whole' digest t → Each (IsNamed digest) ns
      → Each (λ (n : Named). AllKnown (learned_all digest ns t) (start_refs n.desc)) ns
      → Each (λ (n : Named). Known (learned_all digest ns t) (digested digest (first_output (desc_view n.desc)))) ns
      → Whole' digest (learned_all digest ns t)
  learned_whole digest ns t w named inside own =
      let u = learned_all digest ns t in
      let k = all_keeps digest ns t in
      let g = grown digest ns t in
      record {
        rows = learned_rows (RowSound digest u) digest ns t (rows_kept digest t u k t.rows w.rows)
            (each_three (IsNamed digest) (λ (n : Named). AllKnown u (start_refs n.desc))
            (λ (n : Named). Known u (digested digest (first_output (desc_view n.desc)))) (λ (n : Named). RowSound digest u (new_row digest n))
            (λ n a i o. record { name = a.name; task = refl; spelled = a.spelled; inside = i; own = o }) ns named inside own);
        shown = subst (AllByRecursion (WaitSound u)) (sym g.shown) (waits_kept t u k t.shown w.shown);
        saved = subst (AllByRecursion (SavesSound u)) (sym g.saved) (saved_kept t u k t.saved w.saved);
      }

  -- a place more
  placed_keeps : (n : List ℕ) (p : P) (t : TableSeen P) → Keeps t (c.placed n p t)
  placed_keeps n p t = same_names t (c.placed n p t) (names_changed row_name (row_with p) (λ r. refl) n t.rows)

  placed_whole : (digest : List ℕ → List ℕ) (n : List ℕ) (p : P) (t : TableSeen P) → Whole' digest t → Whole' digest (c.placed n p t)
  placed_whole digest n p t w =
      let u = c.placed n p t in
      let k = placed_keeps n p t in
      record {
        rows = all_changed row_name (RowSound digest u) (row_with p) n t.rows (λ r f a. row_kept digest u u (λ m j. j) r (r.places ++ p ∷ []) a)
            (rows_kept digest t u k t.rows w.rows);
        shown = waits_kept t u k t.shown w.shown;
        saved = saved_kept t u k t.saved w.saved;
      }

  pub outputs_whole : (digest : List ℕ → List ℕ) (ms : List (Output P)) (t : TableSeen P) → Whole' digest t → Whole' digest (with_outputs ms t)
      × Keeps t (with_outputs ms t) × (length (with_outputs ms t).rows ≡ length t.rows)
  outputs_whole digest [] t w = (w, λ n k. k, refl)
  outputs_whole digest (m ∷ ms) t w =
      let r = outputs_whole digest ms (c.placed m.name m.place t) (placed_whole digest m.name m.place t w) in
      (r.0, λ n k. r.1 n (placed_keeps m.name m.place t n k), r.2 ∙ length_changed row_name (row_with m.place) m.name t.rows)

  pub copies_whole : (digest : List ℕ → List ℕ) (xs : List (Copy P)) (t : TableSeen P) → Whole' digest t → Whole' digest (with_copies xs t)
      × Keeps t (with_copies xs t) × (length (with_copies xs t).rows ≡ length t.rows)
  copies_whole digest [] t w = (w, λ n k. k, refl)
  copies_whole digest (x ∷ xs) t w =
      let r = copies_whole digest xs (c.placed x.name x.place t) (placed_whole digest x.name x.place t w) in
      (r.0, λ n k. r.1 n (placed_keeps x.name x.place t n k), r.2 ∙ length_changed row_name (row_with x.place) x.name t.rows)

  module _ (at : P → ℕ) where
    -- a saved wait more
    all_with : (t : TableSeen P) (w : Wait P) (ws : List (Wait P)) → WaitSound t w → AllByRecursion (WaitSound t) ws
        → AllByRecursion (WaitSound t) (c.waits_with at w ws)
    all_with t w ws a all =
        all_push (WaitSound t) (c.waits_without at (at w.place) ws) w
        (all_filter (WaitSound t) (WaitSound t) (λ (x : Wait P). not (nat_eq (at w.place) (at x.place))) (λ x k e. k) ws all) a

    save_whole : (t : TableSeen P) (n : List ℕ) (w : Wait P) (qs : List (Saves P)) (o : Option (Saves P)) → found saves_name n qs ≡ o → Known t n
        → WaitSound t w → AllByRecursion (SavesSound t) qs → AllByRecursion (SavesSound t) (c.save_at at o n w qs)
    save_whole t n w qs None e k a all =
        all_push (SavesSound t) qs (record { name = n; waits = w ∷ [] }) all (record { task = k; waits = (a, tt) })
    save_whole t n w qs (Some q) e k a all =
        all_changed saves_name (SavesSound t) (c.saves_with at w) n qs
        (λ x f y. record { task = y.task; waits = all_with t w x.waits a y.waits }) all

    pub saved_whole : (digest : List ℕ → List ℕ) (z : TaskId) (w : Wait P) (t : TableSeen P) → IsTask t z → WaitSound t w → Whole' digest t
        → Whole' digest (c.saved at z w t)
    saved_whole digest TaskId.Show w t k a h =
        let u = c.saved at TaskId.Show w t in
        let j : Keeps t u = λ n i. i in
        record {
          rows = rows_kept digest t u j t.rows h.rows;
          shown = all_with u w t.shown (wait_kept t u j w a) (waits_kept t u j t.shown h.shown);
          saved = saved_kept t u j t.saved h.saved;
        }
    saved_whole digest (TaskId.Of n) w t k a h =
        let u = c.saved at (TaskId.Of n) w t in
        let j : Keeps t u = λ m i. i in
        record {
          rows = rows_kept digest t u j t.rows h.rows;
          shown = waits_kept t u j t.shown h.shown;
          saved = saved_kept t u j (c.save_at at (found saves_name n t.saved) n w t.saved)
              (save_whole t n w t.saved (found saves_name n t.saved) refl k a h.saved);
        }

-- ---- saved waits and numbers

module _ {P : Type 0} where
  -- none has a number above the last one's
  pub last_greatest : (ws : List (Wait P)) → AllByRecursion (λ (w : Wait P). w.j ≤ wait_number (latest ws)) ws
  last_greatest [] = tt
  last_greatest (w ∷ ws) = pick (latest ws) refl (last_greatest ws)
    where
      up : (a b : ℕ) → a ≤ b → (vs : List (Wait P)) → AllByRecursion (λ (v : Wait P). v.j ≤ a) vs → AllByRecursion (λ (v : Wait P). v.j ≤ b) vs
      up a b l vs h = all_more (λ (v : Wait P). v.j ≤ a) (λ (v : Wait P). v.j ≤ b) (λ v k. omega (arith, l, k)) vs h

      none : (vs : List (Wait P)) → latest vs ≡ None → vs ≡ []
      none [] e = refl
      none (v ∷ vs) e = turn (latest vs) e
        where
          turn : (o : Option (Wait P)) → later v o ≡ None → v ∷ vs ≡ []
          turn None k = cc
          turn (Some u) k = other (nat_lt u.j v.j) k
            where
              other : (b : Bool) → cond b (Some v) (Some u) ≡ None → v ∷ vs ≡ []
              other true m = cc
              other false m = cc

      pick : (o : Option (Wait P)) → latest ws ≡ o → AllByRecursion (λ (v : Wait P). v.j ≤ wait_number (latest ws)) ws
          → AllByRecursion (λ (v : Wait P). v.j ≤ wait_number (later w (latest ws))) (w ∷ ws)
      pick None e h =
          subst (λ o. AllByRecursion (λ (v : Wait P). v.j ≤ wait_number (later w o)) (w ∷ ws)) (sym e)
          (omega arith, subst (AllByRecursion (λ (v : Wait P). v.j ≤ w.j)) (sym (none ws e)) tt)
      pick (Some u) e h =
          subst (λ o. AllByRecursion (λ (v : Wait P). v.j ≤ wait_number (later w o)) (w ∷ ws)) (sym e)
          (turn (nat_lt u.j w.j) refl (subst (λ o. AllByRecursion (λ (v : Wait P). v.j ≤ wait_number o) ws) e h))
        where
          turn : (b : Bool) → nat_lt u.j w.j ≡ b → AllByRecursion (λ (v : Wait P). v.j ≤ u.j) ws
              → AllByRecursion (λ (v : Wait P). v.j ≤ wait_number (cond b (Some w) (Some u))) (w ∷ ws)
          turn true t k = let l = ltb-true u.j w.j t in (omega arith, up u.j w.j (omega (arith, l)) ws k)
          turn false t k = let l = ltb-false u.j w.j t in (omega (arith, l), k)

-- an idle worker is one of them, and neither lost nor busy
pub idle_in : (gone busy : List ℕ) (a n w : ℕ) → In w (idle_from gone busy a n) → (w < a + n) × (is_idle gone busy w ≡ true)
idle_in gone busy a zero w i = absurd i
idle_in gone busy a (suc n) w i = pick (is_idle gone busy a) refl i (idle_in gone busy (a + 1) n w)
  where
    later : (In w (idle_from gone busy (a + 1) n) → (w < (a + 1) + n) × (is_idle gone busy w ≡ true)) → In w (idle_from gone busy (a + 1) n)
        → (w < a + suc n) × (is_idle gone busy w ≡ true)
    later r j = let q = r j in let l = q.0 in (omega (arith, l), q.1)

    pick : (b : Bool) → is_idle gone busy a ≡ b → In w (cond b (a ∷ idle_from gone busy (a + 1) n) (idle_from gone busy (a + 1) n))
        → (In w (idle_from gone busy (a + 1) n) → (w < (a + 1) + n) × (is_idle gone busy w ≡ true)) → (w < a + suc n)
        × (is_idle gone busy w ≡ true)
    pick true e (inl s) r = (omega (arith, s), subst (λ x. is_idle gone busy x ≡ true) (sym s) e)
    pick true e (inr j) r = later r j
    pick false e j r = later r j

and_parts : (b c : Bool) → not b && not c ≡ true → (b ≡ false) × (c ≡ false)
and_parts true c h = cc
and_parts false true h = cc
and_parts false false h = (refl, refl)

-- its worker isn't busy, its task isn't out
worker_in : (xs : List OrderOut) (x : OrderOut) → In x xs → In x.worker (workers_out xs)
worker_in [] x i = absurd i
worker_in (y ∷ ys) x (inl s) = inl (ap (λ (z : OrderOut). z.worker) s)
worker_in (y ∷ ys) x (inr i) = inr (worker_in ys x i)

task_in : (xs : List OrderOut) (x : OrderOut) → In x xs → In x.task (tasks_out xs)
task_in [] x i = absurd i
task_in (y ∷ ys) x (inl s) = inl (ap (λ (z : OrderOut). z.task) s)
task_in (y ∷ ys) x (inr i) = inr (task_in ys x i)

pub order_in : (k : ℕ) (xs : List OrderOut) (x : OrderOut) → find_order k xs ≡ Some x → In x xs
order_in k [] x e = cc
order_in k (y ∷ ys) x e = pick (nat_eq k y.number) e (order_in k ys x)
  where
    pick : (b : Bool) → cond b (Some y) (find_order k ys) ≡ Some x → (find_order k ys ≡ Some x → In x ys) → In x (y ∷ ys)
    pick true h r = let q : y ≡ x = cc in inl (sym q)
    pick false h r = inr (r h)

pub same_self : (x : TaskId) → same_id x x ≡ true
same_self TaskId.Show = refl
same_self (TaskId.Of n) = self_text n

not_true : (b : Bool) → not b ≡ true → b ≡ false
not_true true h = cc
not_true false h = refl

each_kept : {A : Type 0} (F G : A → Type 0) (xs : List A) → ((x : A) → In x xs → F x → G x) → Each F xs → Each G xs
each_kept F G [] f e = tt
each_kept F G (x ∷ xs) f e = (f x (inl refl) e.0, each_kept F G xs (λ y i. f y (inr i)) e.1)

module _ {P : Type 0} (digest : List ℕ → List ℕ) (at : P → ℕ) where
  whole_of : (b : Board P) → Sound digest at b → Whole' digest b.table
  whole_of b s = record { rows = s.rows; shown = s.shown; saved = s.saved }

  -- a task that can run is the root task or has a row
  reached_task : (b : Board P) → Sound digest at b → (x : TaskId) → Led (board_graph b) x → IsTask b.table x
  reached_task b s x root = tt
  reached_task b s x (through {t = t} l o d i n m) = pick (row_named d b.table) refl m
    where
      known : (r : Row P) → RowSound digest b.table r → r.task ≡ x → IsTask b.table x
      known r k e = subst (IsTask b.table) (sym k.task ∙ e) k.own

      turn : (r : Row P) → row_named d b.table ≡ Some r → (c : Bool) → is_input r.desc ≡ c → cond c None (Some r.task) ≡ Some x → IsTask b.table x
      turn r f true g h = cc
      turn r f false g h =
          let e : r.task ≡ x = cc in known r (all_found row_name (RowSound digest b.table) d b.table.rows r s.rows f) e

      pick : (o : Option (Row P)) → row_named d b.table ≡ o → option_and_then (made_by b.table) o ≡ Some x → IsTask b.table x
      pick None f h = cc
      pick (Some r) f h = turn r f (is_input r.desc) refl h

  -- ---- a start

  pub started_sound : (b : Board P) → Sound digest at b → (x : TaskId) (w : ℕ) → Runnable (board_graph b) x → In w (idle_of b)
      → Sound digest at (started at b x w)
  started_sound b s x w r i =
      record {
        limit = s.limit;
        room = s.room;
        main = s.main;
        rows = s.rows;
        shown = s.shown;
        saved = s.saved;
        orders = each_join (OrderSound (started at b x w)) b.orders ((order_for at b x w).out ∷ [])
            (each_more (OrderSound b) (OrderSound (started at b x w)) older b.orders s.orders) (newest, tt);
        numbers = λ y z j k e. both (λ (q : OrderOut). q.number) s.numbers
            (λ q m f. let l = each_of (OrderSound b) q b.orders m s.orders in let n = l.number in omega (arith, n, f)) y z j k e;
        tasks = λ y z j k e. both (λ (q : OrderOut). q.task) s.tasks (λ q m f. not_out q m f) y z j k e;
        workers = λ y z j k e. both (λ (q : OrderOut). q.worker) s.workers (λ q m f. not_busy q m f) y z j k e;
      }
    where
      idle : (w < 0 + b.plan.workers) × (is_idle b.table.gone (workers_out b.orders) w ≡ true)
      idle = idle_in b.table.gone (workers_out b.orders) 0 b.plan.workers w i

      free : (list_any (nat_eq w) b.table.gone ≡ false) × (list_any (nat_eq w) (workers_out b.orders) ≡ false)
      free = and_parts (list_any (nat_eq w) b.table.gone) (list_any (nat_eq w) (workers_out b.orders)) idle.1

      older : (q : OrderOut) → OrderSound b q → OrderSound (started at b x w) q
      older q k =
          record {
            number = (let n = k.number in omega (arith, n));
            worker = k.worker;
            here = k.here;
            task = k.task;
            last = k.last;
          }

      newest : OrderSound (started at b x w) (order_for at b x w).out
      newest =
          record {
            number = omega arith;
            worker = (let l = idle.0 in omega (arith, l));
            here = free.0;
            task = reached_task b s x r.reached;
            last = last_greatest (waits_of x b.table);
          }

      not_out : (q : OrderOut) → In q b.orders → q.task ≡ x → ⊥
      not_out q m f =
          let t : is_in (tasks_out b.orders) x ≡ true =
          subst (λ z. is_in (tasks_out b.orders) z ≡ true) f (in_any same_id same_self q.task (tasks_out b.orders) (task_in b.orders q m)) in
          let bad : true ≡ false = sym t ∙ r.not_out in
          cc

      not_busy : (q : OrderOut) → In q b.orders → q.worker ≡ w → ⊥
      not_busy q m f =
          let t : list_any (nat_eq w) (workers_out b.orders) ≡ true =
          subst (λ z. list_any (nat_eq z) (workers_out b.orders) ≡ true) f
          (in_any nat_eq (λ a. eq-eqb a a refl) q.worker (workers_out b.orders) (worker_in b.orders q m)) in
          let bad : true ≡ false = sym t ∙ free.1 in
          cc

      both : {K : Type 0} (f : OrderOut → K) → ((y z : OrderOut) → In y b.orders → In z b.orders → f y ≡ f z → y ≡ z)
          → ((q : OrderOut) → In q b.orders → f q ≡ f (order_for at b x w).out → ⊥) → (y z : OrderOut)
          → In y (b.orders ++ (order_for at b x w).out ∷ []) → In z (b.orders ++ (order_for at b x w).out ∷ []) → f y ≡ f z → y ≡ z
      both f one none y z j k e = pick (in_last y b.orders (order_for at b x w).out j) (in_last z b.orders (order_for at b x w).out k)
        where
          pick : (In y b.orders ⊎ (y ≡ (order_for at b x w).out)) → (In z b.orders ⊎ (z ≡ (order_for at b x w).out)) → y ≡ z
          pick (inl u) (inl v) = one y z u v e
          pick (inl u) (inr v) = absurd (none y u (e ∙ ap f v))
          pick (inr u) (inl v) = absurd (none z v (sym e ∙ ap f u))
          pick (inr u) (inr v) = u ∙ sym v

  -- ---- a report

  -- orders that stay, where the table changes
  module _ (b : Board P) (s : Sound digest at b) (p : OrderOut → Bool) (u : TableSeen P) (journal : List Entry) (closes : ℕ) (stopped : Bool) where
    abbrev next : Board P
    next =
        record b { table = u; orders = filter p b.orders; closes = closes; journal = journal; stopped = stopped }

    pub closed_sound : Keeps b.table u → Whole' digest u → length u.rows ≤ u.limit → u.limit ≡ b.table.limit
        → ((y : OrderOut) → In y (filter p b.orders) → OrderSound b y → Here u.gone y.worker
        × AllByRecursion (λ (w : Wait P). w.j ≤ y.from) (waits_of y.task u)) → Sound digest at next
    closed_sound k w room limit here =
        record {
          limit = limit ∙ s.limit;
          room = room;
          main = k b.main s.main;
          rows = w.rows;
          shown = w.shown;
          saved = w.saved;
          orders = each_kept (OrderSound b) (OrderSound next) (filter p b.orders)
              (λ y i q. record {
                number = q.number;
                worker = q.worker;
                here = (here y i q).0;
                task = task_kept y.task q.task;
                last =
                    (here y i q).1;
              }) (each_filter (OrderSound b) p b.orders s.orders);
          numbers = λ y z i j e. s.numbers y z (in_filter p y b.orders i) (in_filter p z b.orders j) e;
          tasks = λ y z i j e. s.tasks y z (in_filter p y b.orders i) (in_filter p z b.orders j) e;
          workers = λ y z i j e. s.workers y z (in_filter p y b.orders i) (in_filter p z b.orders j) e;
        }
      where
        task_kept : (x : TaskId) → IsTask b.table x → IsTask u x
        task_kept TaskId.Show t = tt
        task_kept (TaskId.Of n) t = k n t

  module _ (b : Board P) (s : Sound digest at b) (x : Order P) (k : ℕ) (out : find_order k b.orders ≡ Some x.out) (spawned : List Named)
      (end : End P) (fits : Fits digest at b x spawned end) (all : AllLearned digest spawned b.table) where
    abbrev then : TableSeen P
    then = learned_all digest spawned b.table

    then_whole : Whole' digest then
    then_whole =
        let f = fits.learned all in learned_whole digest spawned b.table (whole_of b s) fits.named f.inside f.tasks

    then_room : length then.rows ≤ then.limit
    then_room =
        subst (λ n. length then.rows ≤ n) (sym (grown digest spawned b.table).limit) (room_all digest spawned b.table all s.room)

    -- another order's task is another one
    other_task : (y : OrderOut) → In y (without x.out.number b.orders) → y.task ≡ x.out.task → ⊥
    other_task y i e =
        let j = in_filter (λ (q : OrderOut). not (nat_eq x.out.number q.number)) y b.orders i in
        let same : y ≡ x.out = s.tasks y x.out j (order_in k b.orders x.out out) e in
        let t : nat_eq x.out.number y.number ≡ false =
        not_true (nat_eq x.out.number y.number) (kept_test (λ (q : OrderOut). not (nat_eq x.out.number q.number)) y b.orders i) in
        let z : nat_eq x.out.number y.number ≡ true = eq-eqb x.out.number y.number (sym (ap (λ (q : OrderOut). q.number) same)) in
        let bad : true ≡ false = sym z ∙ t in
        cc

    still : (u : TableSeen P) → u.shown ≡ b.table.shown → u.saved ≡ b.table.saved → u.gone ≡ b.table.gone → (y : OrderOut) → OrderSound b y
        → Here u.gone y.worker × AllByRecursion (λ (w : Wait P). w.j ≤ y.from) (waits_of y.task u)
    still u a e g y q = (
      subst (λ gs. Here gs y.worker) (sym g) q.here,
      subst (AllByRecursion (λ (w : Wait P). w.j ≤ y.from)) (sym (same_waits y.task b.table u a e)) q.last,
    )

    missing_sound : (name : Digest) (loss : ℕ) → Sound digest at (accepted digest at b x.out spawned (rep.missing name loss))
    missing_sound name loss =
        closed_sound b s (λ (q : OrderOut). not (nat_eq x.out.number q.number)) b.table (b.journal ++ Entry.Missed x.out.number name loss ∷ [])
        (b.closes + 1) b.stopped (λ n k. k) (whole_of b s) s.room refl (λ y i q. (q.here, q.last))

    made_sound : (ms : List (Output P)) (cs : List (Copy P)) → Sound digest at (accepted digest at b x.out spawned (rep.made ms cs))
    made_sound ms cs =
        let o = outputs_whole digest ms then then_whole in
        let m = outputs_same ms then in
        let w = copies_whole digest cs (with_outputs ms then) o.0 in
        let n = copies_same cs (with_outputs ms then) in
        let g = grown digest spawned b.table in
        let limit = n.limit ∙ m.limit in
        let long = w.2 ∙ o.2 in
        let r = then_room in
        closed_sound b s (λ (q : OrderOut). not (nat_eq x.out.number q.number)) (with_copies cs (with_outputs ms then))
        (b.journal ++ Entry.Done x.out.number (rep.made_keys ms) (rep.copy_names cs) ∷ []) (b.closes + 1) (is_root x.out.task)
        (λ a j. w.1 a (o.1 a (all_keeps digest spawned b.table a j))) w.0 (omega (arith, limit, long, r)) (limit ∙ g.limit)
        (λ y i q. still (with_copies cs (with_outputs ms then)) (n.shown ∙ (m.shown ∙ g.shown)) (n.saved ∙ (m.saved ∙ g.saved))
        (n.gone ∙ (m.gone ∙ g.gone)) y q)

    saved_sound : (q : Stack P) → StackFits digest at then x q → Sound digest at (accepted digest at b x.out spawned (rep.saved q))
    saved_sound q f =
        let g = grown digest spawned b.table in
        closed_sound b s (λ (z : OrderOut). not (nat_eq x.out.number z.number)) (c.saved at x.out.task (wait_of q) then)
        (b.journal ++ Entry.Saved x.out.number q.j q.mark ∷ []) (b.closes + 1) b.stopped
        (λ n j. same_rows n (all_keeps digest spawned b.table n j))
        (saved_whole at digest x.out.task (wait_of q)
        then (task_then x.out.task (each_of (OrderSound b) x.out b.orders (order_in k b.orders x.out out) s.orders).task)
        (record { refs = f.refs; holds = f.holds }) then_whole) then_room g.limit
        (λ y i o. (subst (λ gs. Here gs y.worker) (sym g.gone) o.here, last_still y i o))
      where
        same_rows : (n : List ℕ) → Known then n → Known (c.saved at x.out.task (wait_of q) then) n
        same_rows n j = j

        task_then : (z : TaskId) → IsTask b.table z → IsTask then z
        task_then TaskId.Show t = tt
        task_then (TaskId.Of n) t = all_keeps digest spawned b.table n t

        last_still : (y : OrderOut) → In y (without x.out.number b.orders) → OrderSound b y
            → AllByRecursion (λ (w : Wait P). w.j ≤ y.from) (waits_of y.task (c.saved at x.out.task (wait_of q) then))
        last_still y i o = pick (bool_cases (same_id y.task x.out.task))
          where
            pick : ((same_id y.task x.out.task ≡ true) ⊎ (same_id y.task x.out.task ≡ false))
                → AllByRecursion (λ (w : Wait P). w.j ≤ y.from) (waits_of y.task (c.saved at x.out.task (wait_of q) then))
            pick (inl t) = absurd (other_task y i (same_exact y.task x.out.task t))
            pick (inr t) =
                let g = grown digest spawned b.table in
                subst (AllByRecursion (λ (w : Wait P). w.j ≤ y.from))
                (sym (more_waits at y.task x.out.task (wait_of q) then
                ∙ (ap (λ b. cond b (c.waits_with at (wait_of q) (waits_of y.task then)) (waits_of y.task then)) t
                ∙ same_waits y.task b.table then g.shown g.saved))) o.last

    pub accepted_sound : Sound digest at (accepted digest at b x.out spawned end)
    accepted_sound = pick end (fits.learned all).end
      where
        pick : (e : End P) → EndFits digest at x then e → Sound digest at (accepted digest at b x.out spawned e)
        pick (rep.missing name loss) f = missing_sound name loss
        pick (rep.made ms cs) f = made_sound ms cs
        pick (rep.saved q) f = saved_sound q f

  -- ---- a loss

  pub lost_sound : (b : Board P) → Sound digest at b → (w : ℕ) → Sound digest at (lost_at at w b)
  lost_sound b s w =
      let u = c.dropped at w b.table in
      let names = names_mapped row_name (c.row_without at w) (λ r. refl) b.table.rows in
      let k : Keeps b.table u = same_names b.table u names in
      let long = length-map b.table.rows (c.row_without at w) in
      let r = s.room in
      closed_sound b s (λ (x : OrderOut). not (nat_eq w x.worker)) u (b.journal ++ Entry.Lost w b.closes ∷ []) b.closes b.stopped k
      (record {
        rows = all_map (RowSound digest b.table) (RowSound digest u) (c.row_without at w)
            (λ row a. row_kept digest b.table u k row (c.places_without at w row.places) a) b.table.rows s.rows;
        shown = all_filter (WaitSound b.table) (WaitSound u) (λ (x : Wait P). not (nat_eq w (at x.place))) (λ x a t. wait_kept b.table u k x a)
            b.table.shown s.shown;
        saved = all_map (SavesSound b.table) (SavesSound u) (c.saves_without at w)
            (λ q a. record {
              task = k q.name a.task;
              waits =
                  all_filter (WaitSound b.table) (WaitSound u) (λ (x : Wait P). not (nat_eq w (at x.place))) (λ x e t. wait_kept b.table u k x e)
                  q.waits a.waits;
            }) b.table.saved s.saved;
      })
      (omega (arith, long, r)) refl
      (λ y i q. (
        any_last (nat_eq y.worker) b.table.gone w q.here
            (flip_nat w y.worker (not_true (nat_eq w y.worker) (kept_test (λ (x : OrderOut). not (nat_eq w x.worker)) y b.orders i))),
        subst (AllByRecursion (λ (z : Wait P). z.j ≤ y.from)) (sym (fewer_waits at w y.task b.table))
            (all_filter (λ (z : Wait P). z.j ≤ y.from) (λ (z : Wait P). z.j ≤ y.from) (λ (x : Wait P). not (nat_eq w (at x.place))) (λ x e t. e)
            (waits_of y.task b.table) q.last),
      ))

  -- ---- the beginning

  abbrev open_table : Plan → List (List ℕ) → Named → TableSeen P
  open_table p keys main = (opened digest p keys main).table

  pub opened_sound : (p : Plan) (keys : List (List ℕ)) (main : Named) → 1 ≤ p.limit → IsNamed digest main → main.desc
      ≡ Desc1.Call [] no_pairs no_vals → Sound digest at (opened digest p keys main)
  opened_sound p keys main one m e =
      record {
        limit = refl;
        room = one;
        main = known;
        rows = (
          record {
            name = m.name;
            task = refl;
            spelled = m.spelled;
            inside =
                subst (λ d. AllKnown (open_table p keys main) (start_refs d)) (sym e) tt;
            own =
                subst (λ d. Known (open_table p keys main) (digested digest (first_output (desc_view d)))) (sym e)
                (subst (Known (open_table p keys main)) (m.name ∙ ap (λ d. digested digest (desc_view d)) e) known);
          },
          tt,
        );
        shown = tt;
        saved = tt;
        orders = tt;
        numbers = λ x y i. absurd i;
        tasks = λ x y i. absurd i;
        workers = λ x y i. absurd i;
      }
    where
      known : Known (open_table p keys main) main.name
      known = subst (λ b. IsSome {T = ℕ} (cond b (Some 0) None)) (sym (self_text main.name)) refl

-- the searches may be asked of it
module _ {P : Type 0} (digest : List ℕ → List ℕ) (at : P → ℕ) (b : Board P) (s : Sound digest at b) where
  refs_inside : (t : TableSeen P) (d : Desc1) → AllKnown t (start_refs d) → AllKnown t (first_refs d)
  refs_inside t (Desc1.Call f c vs) a = tt
  refs_inside t (Desc1.Exec x v n i) a = a
  refs_inside t (Desc1.Input k) a = tt

  row_named' : (r : Row P) → RowSound digest b.table r → (i : Bool) → RowNamed b.main b.table i r
  row_named' r k true = tt
  row_named' r k false = (subst (TaskKnown b.table) (sym k.task) k.own, refs_inside b.table r.desc k.inside)

  pub sound_whole : Whole b.main b.table
  sound_whole =
      named_whole b.main b.table (record {
        entry = s.main;
        rows = all_more (RowSound digest b.table) (λ (r : Row P). RowNamed b.main b.table (is_input r.desc) r)
            (λ r k. row_named' r k (is_input r.desc)) b.table.rows s.rows;
        shown = all_more (WaitSound b.table) (λ (w : Wait P). AllKnown b.table w.refs) (λ w k. k.refs) b.table.shown s.shown;
        saved = all_more (SavesSound b.table) (λ (q : Saves P). AllByRecursion (λ (w : Wait P). AllKnown b.table w.refs) q.waits)
            (λ q k. all_more (WaitSound b.table) (λ (w : Wait P). AllKnown b.table w.refs) (λ w j. j.refs) q.waits k.waits) b.table.saved
            s.saved;
      })
