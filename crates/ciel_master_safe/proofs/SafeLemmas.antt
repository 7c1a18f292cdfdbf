-- Each call keeps what is safe.
use Rattle.std.proofs.Common.{◌≡◌, ℕ, ◌<◌, ◌≤◌, List, [], ◌∷◌, ◌++◌, Bool, true, false, cond, not, map, length, nat_eq, Option, Some, None}
use Rattle.std.proofs.Common.{inl, inr, refl, ap, sym, ◌∙◌, subst, arith}
use Rattle.std.specs.List.{AllByRecursion, IsDistinct}
use Rattle.std.specs.Option.{option_map}
use Rattle.sky_base.specs.Name.{digested}
use Rattle.sky_base.specs.ObjectView.{desc_view}
use Rattle.sky_base.specs.Tree.{Script}
use Rattle.sky_base.specs.Val.{Desc, call, input, known, no_pairs, no_vals, out, same_text}
use Rattle.sky_base.proofs.Exact.{self_text}
use Rattle.sky_base.specs.declared.object.Desc1.{Desc1}
use Rattle.sky_base.specs.declared.object.Named.{Named}
use Rattle.sky_base.specs.declared.object.TaskId.{TaskId}
use Rattle.ciel_master_board.specs.Board.{Board, Order, board_graph, find_order, idle_of, task_desc}
use Rattle.ciel_master_board.specs.Moves.{accepted, lost_at, opened, started, wait_of, with_copies, with_outputs}
use Rattle.ciel_master_board.specs.Reports as rep
use Rattle.ciel_master_board.specs.Reports.{AllLearned, Copy, End, IsNamed, Output, learned_all, named_view}
use Rattle.ciel_master_board.specs.Sound.{IsTask, OrderSound, RowSound, Sound}
use Rattle.ciel_master_board.proofs.LearnedNames.{Comes, comes, found_named, grown, new, there}
use Rattle.ciel_master_board.proofs.SoundLemmas.{accepted_sound, lost_sound, opened_sound, order_in, same_names, started_sound}
use Rattle.ciel_journal.specs.Graph.{Runnable}
use Rattle.ciel_journal.specs.History.{Plan}
use Rattle.ciel_journal.specs.Job.{Each, In}
use Rattle.ciel_journal.proofs.Members.{each_of}
use Rattle.ciel_name.specs.Laws.{SpelledDesc}
use Rattle.ciel_store.specs.Seen.{ShelvesSeen}
use Rattle.ciel_table.specs.Changes as c
use Rattle.ciel_table.specs.Learning.{learned, new_row}
use Rattle.ciel_table.specs.Named.{IsOnce, found}
use Rattle.ciel_table.specs.Seen.{TableSeen, row_name, row_named, saves_name}
use Rattle.ciel_table.specs.Sound.{Here}
use Rattle.ciel_table.specs.declared.row.Row.{Row}
use Rattle.ciel_table.specs.declared.wait.Saves.{Saves}
use Rattle.ciel_table.specs.declared.wait.Wait.{Wait}
use Rattle.ciel_table.proofs.ByName.{all_changed, names_changed, names_mapped, once_push}
use Rattle.ciel_table.proofs.Lists.{all_filter, all_map, all_more, all_push, any_last, flip_nat}
use Rattle.ciel_task_order.specs.Views.{P}
use Rattle.ciel_master_safe.specs.Reports.{CanWait, FitsSafely, StandsWhole}
use Rattle.ciel_master_safe.specs.Safe.{HasDesc, HasOutputs, IsCall, ObjectLies, ObjectSafe, RowSafe, Safe, SavesSafe, Serves, TableSafe, W, WaitSafe}
use Rattle.ciel_master_safe.proofs.TableGrowth.{Grows, all_grow, all_have, grows_join, grows_self, lies_grows, object_grows, outputs_grow}
use Rattle.ciel_master_safe.proofs.TableGrowth.{row_grows, saves_grows, wait_grows}
use Rattle.ciel_master_safe.proofs.BoardGrowth.{dropped_grows, placed_grows}

module _ (digest : List ℕ → List ℕ) (shelves : ShelvesSeen) (sc : Script) (keys : List (List ℕ)) where
  abbrev T : TableSeen P → Type 0
  T t = TableSafe digest shelves sc keys t

  abbrev OnRow : TableSeen P → Row P → Type 0
  OnRow t r = RowSafe digest shelves sc keys t r

  abbrev OnWait : TableSeen P → TaskId → Wait P → Type 0
  OnWait t task w = WaitSafe digest shelves sc t task w

  abbrev OnSaves : TableSeen P → Saves P → Type 0
  OnSaves t s = SavesSafe digest shelves sc t s

  -- ---- learning

  learned_once : (n : Named) (t : TableSeen P) → IsOnce row_name t.rows → IsOnce row_name (learned digest n t).rows
  learned_once n t o = pick (comes digest n t)
    where
      pick : Comes digest n t → IsOnce row_name (learned digest n t).rows
      pick (there same x i k some f) = subst (IsOnce row_name) (sym same) o
      pick (new grew none) = subst (IsOnce row_name) (sym grew) (once_push row_name t.rows (new_row digest n) o none)

  pub all_once : (ns : List Named) (t : TableSeen P) → IsOnce row_name t.rows → IsOnce row_name (learned_all digest ns t).rows
  all_once [] t o = o
  all_once (n ∷ ns) t o = all_once ns (learned digest n t) (learned_once n t o)

  learned_rows : (Q : Row P → Type 0) (ns : List Named) (t : TableSeen P) → AllByRecursion Q t.rows
      → Each (λ (n : Named). Q (new_row digest n)) ns → AllByRecursion Q (learned_all digest ns t).rows
  learned_rows Q [] t a e = a
  learned_rows Q (n ∷ ns) t a e = learned_rows Q ns (learned digest n t) (pick (comes digest n t)) e.1
    where
      pick : Comes digest n t → AllByRecursion Q (learned digest n t).rows
      pick (there g r i y some f) = subst (AllByRecursion Q) (sym g) a
      pick (new g none) = subst (AllByRecursion Q) (sym g) (all_push Q t.rows (new_row digest n) a e.0)

  each_two : (F G K : Named → Type 0) → ((n : Named) → F n → G n → K n) → (ns : List Named) → Each F ns → Each G ns → Each K ns
  each_two F G K f [] a e = tt
  each_two F G K f (n ∷ ns) a e = (f n a.0 e.0, each_two F G K f ns a.1 e.1)

  -- what was spawned has its outputs
  in_named : (d : Desc (List ℕ)) (ns : List Named) → In d (map named_view ns) → (n : Named) × In n ns × (d ≡ named_view n)
  in_named d [] i = absurd i
  in_named d (n ∷ ns) (inl e) = (n, inl refl, e)
  in_named d (n ∷ ns) (inr i) = let q = in_named d ns i in (q.0, inr q.1, q.2)

  pub learned_safe : (ns : List Named) (t : TableSeen P) → T t → AllByRecursion (λ (r : Row P). SpelledDesc (desc_view r.desc)) t.rows
      → Each (IsNamed digest) ns → AllLearned digest ns t → Each (λ (n : Named). Serves sc keys n.desc) ns
      → Each (λ (n : Named). StandsWhole (map named_view ns) (named_view n)) ns → T (learned_all digest ns t)
  learned_safe ns t a spells named all serves whole =
      record {
        once = all_once ns t a.once;
        rows = learned_rows (OnRow u) ns t (all_more (OnRow t) (OnRow u) (row_grows digest shelves sc t u g gone keys) t.rows a.rows)
            (each_two (λ (n : Named). Serves sc keys n.desc) (λ (n : Named). HasOutputs digest u (named_view n)) (λ (n : Named). OnRow u (new_row digest n))
            (λ n s o. record { serves = s; outputs = o; places = tt }) ns serves outputs);
        shown = subst (AllByRecursion (OnWait u TaskId.Show)) (sym (grown digest ns t).shown)
            (all_more (OnWait t TaskId.Show) (OnWait u TaskId.Show) (wait_grows digest shelves sc t u g gone TaskId.Show) t.shown a.shown);
        saved = subst (AllByRecursion (OnSaves u)) (sym (grown digest ns t).saved)
            (all_more (OnSaves t) (OnSaves u) (saves_grows digest shelves sc t u g gone) t.saved a.saved);
      }
    where
      u : TableSeen P
      u = learned_all digest ns t

      g : Grows t u
      g = all_grow digest ns t

      gone : u.gone ≡ t.gone
      gone = (grown digest ns t).gone

      have : Each (λ (n : Named). HasDesc digest u (named_view n)) ns
      have = all_have digest ns t spells named all

      has : (d : Desc (List ℕ)) → In d (map named_view ns) → HasDesc digest u d
      has d i =
          let q = in_named d ns i in
          subst (HasDesc digest u) (sym q.2) (each_of (λ (n : Named). HasDesc digest u (named_view n)) q.0 ns q.1 have)

      one : (d : Desc (List ℕ)) → SpelledDesc d → HasDesc digest u d → StandsWhole (map named_view ns) d → HasOutputs digest u d
      one (call f x vs) k h w = h
      one (out x v m i) k h w = (w.0, λ j lt. has (out x v m j) (w.1 j lt))
      one (input k) l h w = tt
      one (known b) k h w = k

      outputs_from : (xs : List Named) → Each (IsNamed digest) xs → Each (λ (n : Named). HasDesc digest u (named_view n)) xs
          → Each (λ (n : Named). StandsWhole (map named_view ns) (named_view n)) xs → Each (λ (n : Named). HasOutputs digest u (named_view n)) xs
      outputs_from [] k h w = tt
      outputs_from (n ∷ xs) k h w = (one (named_view n) k.0.spelled h.0 w.0, outputs_from xs k.1 h.1 w.1)

      outputs : Each (λ (n : Named). HasOutputs digest u (named_view n)) ns
      outputs = outputs_from ns named have whole

  -- ---- a place more

  placed_safe : (n : List ℕ) (p : P) (t : TableSeen P) → ObjectSafe digest shelves sc t p → T t → T (c.placed n p t)
  placed_safe n p t o a =
      record {
        once = subst (λ ns. IsDistinct same_text ns) (sym (names_changed row_name (c.row_with p) (λ r. refl) n t.rows)) a.once;
        rows = all_changed row_name (OnRow u) (c.row_with p) n t.rows
            (λ r f k. record {
              serves = k.serves;
              outputs = k.outputs;
              places = all_push (ObjectSafe digest shelves sc u) r.places p k.places (object_grows digest shelves sc t u g refl p o);
            }) (all_more (OnRow t) (OnRow u) (row_grows digest shelves sc t u g refl keys) t.rows a.rows);
        shown = all_more (OnWait t TaskId.Show) (OnWait u TaskId.Show) (wait_grows digest shelves sc t u g refl TaskId.Show) t.shown a.shown;
        saved = all_more (OnSaves t) (OnSaves u) (saves_grows digest shelves sc t u g refl) t.saved a.saved;
      }
    where
      u : TableSeen P
      u = c.placed n p t

      g : Grows t u
      g = placed_grows n p t

  -- the places of these, with what is asked of each
  abbrev Lie : TableSeen P → P → Type 0
  Lie t p = ObjectLies digest shelves sc t p

  pub outputs_safe : (ms : List (Output P)) (t : TableSeen P) → Each (λ (m : Output P). ObjectSafe digest shelves sc t m.place) ms → T t
      → T (with_outputs ms t) × Grows t (with_outputs ms t) × ((with_outputs ms t).gone ≡ t.gone)
  outputs_safe [] t e a = (a, grows_self t, refl)
  outputs_safe (m ∷ ms) t e a =
      let u = c.placed m.name m.place t in
      let g = placed_grows m.name m.place t in
      let r = outputs_safe ms u (more ms e.1) (placed_safe m.name m.place t e.0 a) in
      (r.0, grows_join t u (with_outputs ms u) g r.1, r.2)
    where
      more : (xs : List (Output P)) → Each (λ (x : Output P). ObjectSafe digest shelves sc t x.place) xs
          → Each (λ (x : Output P). ObjectSafe digest shelves sc (c.placed m.name m.place t) x.place) xs
      more [] k = tt
      more (x ∷ xs) k =
          (object_grows digest shelves sc t (c.placed m.name m.place t) (placed_grows m.name m.place t) refl x.place k.0, more xs k.1)

  pub copies_safe : (ms : List (Copy P)) (t : TableSeen P) → Each (λ (m : Copy P). ObjectSafe digest shelves sc t m.place) ms → T t
      → T (with_copies ms t)
  copies_safe [] t e a = a
  copies_safe (m ∷ ms) t e a = copies_safe ms (c.placed m.name m.place t) (more ms e.1) (placed_safe m.name m.place t e.0 a)
    where
      more : (xs : List (Copy P)) → Each (λ (x : Copy P). ObjectSafe digest shelves sc t x.place) xs
          → Each (λ (x : Copy P). ObjectSafe digest shelves sc (c.placed m.name m.place t) x.place) xs
      more [] k = tt
      more (x ∷ xs) k =
          (object_grows digest shelves sc t (c.placed m.name m.place t) (placed_grows m.name m.place t) refl x.place k.0, more xs k.1)

  -- ---- a saved wait more

  same_rows : (t u : TableSeen P) → u.rows ≡ t.rows → Grows t u
  same_rows t u e =
      record {
        known = same_names t u (ap (map row_name) e);
        found = λ n r f. (r, subst (λ rs. found row_name n rs ≡ Some r) (sym e) f, refl);
      }

  all_with : (Q : Wait P → Type 0) (w : Wait P) (ws : List (Wait P)) → AllByRecursion Q ws → Q w → AllByRecursion Q (c.waits_with W w ws)
  all_with Q w ws all a =
      all_push Q (c.waits_without W (W w.place) ws) w (all_filter Q Q (λ (x : Wait P). not (nat_eq (W w.place) (W x.place))) (λ x k e. k) ws all) a

  pub saved_safe : (task : TaskId) (w : Wait P) (t : TableSeen P) → IsTask t task → ((n : List ℕ) → task ≡ TaskId.Of n → (r : Row P)
      × (row_named n t ≡ Some r) × IsCall r.desc) → OnWait t task w → T t → T (c.saved W task w t)
  saved_safe TaskId.Show w t k row o a =
      let u = c.saved W TaskId.Show w t in
      let g = same_rows t u refl in
      record {
        once = a.once;
        rows = all_more (OnRow t) (OnRow u) (row_grows digest shelves sc t u g refl keys) t.rows a.rows;
        shown = all_with (OnWait u TaskId.Show) w t.shown
            (all_more (OnWait t TaskId.Show) (OnWait u TaskId.Show) (wait_grows digest shelves sc t u g refl TaskId.Show) t.shown a.shown)
            (wait_grows digest shelves sc t u g refl TaskId.Show w o);
        saved = all_more (OnSaves t) (OnSaves u) (saves_grows digest shelves sc t u g refl) t.saved a.saved;
      }
  saved_safe (TaskId.Of n) w t k row o a =
      record {
        once = a.once;
        rows = all_more (OnRow t) (OnRow u) (row_grows digest shelves sc t u g refl keys) t.rows a.rows;
        shown = all_more (OnWait t TaskId.Show) (OnWait u TaskId.Show) (wait_grows digest shelves sc t u g refl TaskId.Show) t.shown a.shown;
        saved = at (found saves_name n t.saved) refl;
      }
    where
      u : TableSeen P
      u = c.saved W (TaskId.Of n) w t

      g : Grows t u
      g = same_rows t u refl

      before : AllByRecursion (OnSaves u) t.saved
      before = all_more (OnSaves t) (OnSaves u) (saves_grows digest shelves sc t u g refl) t.saved a.saved

      now : OnWait u (TaskId.Of n) w
      now = wait_grows digest shelves sc t u g refl (TaskId.Of n) w o

      at : (q : Option (Saves P)) → found saves_name n t.saved ≡ q → AllByRecursion (OnSaves u) (c.save_at W q n w t.saved)
      at None e =
          let r = row n refl in
          all_push (OnSaves u) t.saved (record { name = n; waits = w ∷ [] }) before
          (record { row = r.0; found = r.1; call = r.2; waits = (now, tt) })
      at (Some s) e =
          all_changed saves_name (OnSaves u) (c.saves_with W w) n t.saved
          (λ x f y. record {
            row = y.row;
            found = y.found;
            call = y.call;
            waits = all_with (OnWait u (TaskId.Of x.name)) w x.waits y.waits
                (subst (λ m. OnWait u (TaskId.Of m) w) (sym (found_named saves_name n t.saved x f)) now);
          }) before

  -- ---- a worker less

  here_more : (gone : List ℕ) (w v : ℕ) → Here gone v → not (nat_eq w v) ≡ true → Here (gone ++ w ∷ []) v
  here_more gone w v h e = any_last (nat_eq v) gone w h (flip_nat w v (not_true (nat_eq w v) e))
    where
      not_true : (b : Bool) → not b ≡ true → b ≡ false
      not_true true e = cc
      not_true false e = refl

  pub dropped_safe : (w : ℕ) (t : TableSeen P) → T t → T (c.dropped W w t)
  dropped_safe w t a =
      record {
        once = subst (λ ns. IsDistinct same_text ns) (sym (names_mapped row_name (c.row_without W w) (λ r. refl) t.rows)) a.once;
        rows = all_map (OnRow t) (OnRow u) (c.row_without W w) row t.rows a.rows;
        shown = waits TaskId.Show t.shown a.shown;
        saved = all_map (OnSaves t) (OnSaves u) (c.saves_without W w) saves t.saved a.saved;
      }
    where
      u : TableSeen P
      u = c.dropped W w t

      g : Grows t u
      g = dropped_grows w t

      waits : (task : TaskId) (ws : List (Wait P)) → AllByRecursion (OnWait t task) ws → AllByRecursion (OnWait u task) (c.waits_without W w ws)
      waits task ws k =
          all_filter (OnWait t task) (OnWait u task) (λ (x : Wait P). not (nat_eq w (W x.place)))
          (λ x o e. record { later = o.later; place = o.place; stack = o.stack; here = here_more t.gone w x.place.worker o.here e }) ws k

      row : (r : Row P) → OnRow t r → OnRow u (c.row_without W w r)
      row r k =
          record {
            serves = k.serves;
            outputs = outputs_grow digest t u g (desc_view r.desc) k.outputs;
            places = all_filter (ObjectSafe digest shelves sc t) (ObjectSafe digest shelves sc u) (λ (p : P). not (nat_eq w (W p)))
                (λ p o e. record { lies = lies_grows digest shelves sc t u g p o.lies; here = here_more t.gone w p.worker o.here e }) r.places
                k.places;
          }

      saves : (s : Saves P) → OnSaves t s → OnSaves u (c.saves_without W w s)
      saves s k =
          let q = g.found s.name k.row k.found in
          record {
            row = q.0;
            found = q.1;
            call = subst IsCall (sym q.2) k.call;
            waits = waits (TaskId.Of s.name) s.waits k.waits;
          }

-- ---- the beginning

call_starts : (sc : Script) (d : Desc1) → d ≡ Desc1.Call [] no_pairs no_vals → (keys : List (List ℕ)) → Serves sc keys d
call_starts sc d e keys =
    subst (Serves sc keys) (sym e) (record { call = inl (refl, refl, refl); caught = tt; args = tt })

pub opened_safe : (digest : List ℕ → List ℕ) (shelves : ShelvesSeen) (sc : Script) (p : Plan) (main : Named) → 1 ≤ p.limit
    → IsNamed digest main → main.desc ≡ Desc1.Call [] no_pairs no_vals → p.workers ≤ length shelves.rows
    → Safe digest shelves sc (length sc.keys) (opened digest p sc.keys main)
unfolding IsDistinct
opened_safe digest shelves sc p main one named desc wide =
    record {
      sound = opened_sound digest W p sc.keys main one named desc;
      table = record {
        once = (tt, tt);
        rows = (
          record {
            serves = call_starts sc main.desc desc sc.keys;
            outputs = subst (λ d. HasOutputs digest (opened digest p sc.keys main).table (desc_view d)) (sym desc)
                (record {
                  row = new_row digest main;
                  found = ap (λ b. cond b (Some (new_row digest main)) None)
                      (subst (λ n. same_text n main.name ≡ true) (named.name ∙ ap (λ d. digested digest (desc_view d)) desc) (self_text main.name));
                  same = ap desc_view desc;
                });
            places = tt;
          },
          tt,
        );
        shown = tt;
        saved = tt;
      };
      keys = refl;
      few = refl;
      wide = wide;
    }

-- ---- the state

module _ (digest : List ℕ → List ℕ) (shelves : ShelvesSeen) (sc : Script) (inputs : ℕ) (b : Board P) (s : Safe digest shelves sc inputs b) where
  pub loss_safe : (w : ℕ) → Safe digest shelves sc inputs (lost_at W w b)
  loss_safe w =
      record {
        sound = lost_sound digest W b s.sound w;
        table = dropped_safe digest shelves sc b.keys w b.table s.table;
        keys = s.keys;
        few = s.few;
        wide = s.wide;
      }

  pub start_safe : (task : TaskId) (w : ℕ) → Runnable (board_graph b) task → In w (idle_of b) → Safe digest shelves sc inputs (started W b task w)
  start_safe task w run idle =
      record { sound = started_sound digest W b s.sound task w run idle; table = s.table; keys = s.keys; few = s.few; wide = s.wide }

  spells : AllByRecursion (λ (r : Row P). SpelledDesc (desc_view r.desc)) b.table.rows
  spells =
      all_more (RowSound digest b.table) (λ (r : Row P). SpelledDesc (desc_view r.desc)) (λ r k. k.spelled) b.table.rows s.sound.rows

  module _ (x : Order P) (k : ℕ) (out : find_order k b.orders ≡ Some x.out) (spawned : List Named) where
    there_ : In x.out b.orders
    there_ = order_in k b.orders x.out out

    sound_order : OrderSound b x.out
    sound_order = each_of (OrderSound b) x.out b.orders there_ s.sound.orders

    abbrev t : TableSeen P
    t = learned_all digest spawned b.table

    here : (p : P) → p.worker ≡ x.out.worker → Here t.gone p.worker
    here p e =
        subst (λ w. Here t.gone w) (sym e) (subst (λ gs. Here gs x.out.worker) (sym (grown digest spawned b.table).gone) sound_order.here)

    table_learned : (how : End P) → FitsSafely digest shelves sc b x spawned how → AllLearned digest spawned b.table
        → TableSafe digest shelves sc b.keys t
    table_learned how f all =
        learned_safe digest shelves sc b.keys spawned b.table s.table spells f.fits.named all f.safe.serves f.safe.whole

    outputs_here : (ms : List (Output P)) → Each (λ (m : Output P). W m.place ≡ x.out.worker) ms
        → Each (λ (m : Output P). ObjectLies digest shelves sc t m.place) ms → Each (λ (m : Output P). ObjectSafe digest shelves sc t m.place) ms
    outputs_here [] e l = tt
    outputs_here (m ∷ ms) e l = (record { lies = l.0; here = here m.place e.0 }, outputs_here ms e.1 l.1)

    copies_here : (u : TableSeen P) (g : Grows t u) → u.gone ≡ t.gone → (ms : List (Copy P)) → Each (λ (m : Copy P). W m.place ≡ x.out.worker) ms
        → Each (λ (m : Copy P). ObjectLies digest shelves sc t m.place) ms → Each (λ (m : Copy P). ObjectSafe digest shelves sc u m.place) ms
    copies_here u g gone [] e l = tt
    copies_here u g gone (m ∷ ms) e l =
        (object_grows digest shelves sc t u g gone m.place (record { lies = l.0; here = here m.place e.0 }), copies_here u g gone ms e.1 l.1)

    each_map : {A : Type 0} (F G : A → Type 0) → ((y : A) → F y → G y) → (ys : List A) → Each F ys → Each G ys
    each_map F G f [] a = tt
    each_map F G f (y ∷ ys) a = (f y a.0, each_map F G f ys a.1)

    -- the row of the order's task
    its_row : (n : List ℕ) → x.out.task ≡ TaskId.Of n → CanWait x.out.task (task_desc b.main b.table x.out.task) → (r : Row P)
        × (row_named n t ≡ Some r) × IsCall r.desc
    its_row n e can = go (row_named n b.table) refl (subst (λ z. CanWait z (task_desc b.main b.table z)) e can)
      where
        go : (o : Option (Row P)) → row_named n b.table ≡ o → CanWait (TaskId.Of n) (task_desc b.main b.table (TaskId.Of n)) → (r : Row P)
            × (row_named n t ≡ Some r) × IsCall r.desc
        go None f h = absurd (subst (λ o. CanWait (TaskId.Of n) (option_map (λ (r : Row P). r.desc) o)) f h)
        go (Some r) f h =
            let q = (all_grow digest spawned b.table).found n r f in
            (q.0, q.1, subst IsCall (sym q.2) (subst (λ o. CanWait (TaskId.Of n) (option_map (λ (r : Row P). r.desc) o)) f h))

    task_known : IsTask t x.out.task
    task_known = go x.out.task sound_order.task
      where
        go : (z : TaskId) → IsTask b.table z → IsTask t z
        go TaskId.Show h = tt
        go (TaskId.Of n) h = (all_grow digest spawned b.table).known n h

    table_after : (how : End P) → FitsSafely digest shelves sc b x spawned how → AllLearned digest spawned b.table
        → TableSafe digest shelves sc b.keys (accepted digest W b x.out spawned how).table
    table_after (rep.made ms cs) f all =
        let fit = (f.fits.learned all).end in
        let o = outputs_safe digest shelves sc b.keys ms t
        (outputs_here ms (each_map _ (λ (m : Output P). W m.place ≡ x.out.worker) (λ m k. k.here) ms fit.0) f.safe.end.1)
        (table_learned (rep.made ms cs) f all) in
        copies_safe digest shelves sc b.keys cs (with_outputs ms t)
        (copies_here (with_outputs ms t) o.1 o.2 cs (each_map _ (λ (m : Copy P). W m.place ≡ x.out.worker) (λ m k. k.here) cs fit.1) f.safe.end.2) o.0
    table_after (rep.saved q) f all =
        let fit = (f.fits.learned all).end in
        saved_safe digest shelves sc b.keys x.out.task (wait_of q) t task_known (λ n e. its_row n e f.safe.end.0)
        (record {
          later = behind x.out.from q.j fit.later;
          place = f.safe.end.1;
          stack = f.safe.end.2;
          here = here q.place fit.here;
        }) (table_learned (rep.saved q) f all)
      where
        behind : (m n : ℕ) → m < n → 0 < n
        behind m n l = omega (arith, l)
    table_after (rep.missing name loss) f all = s.table

    pub report_safe : (how : End P) → FitsSafely digest shelves sc b x spawned how → AllLearned digest spawned b.table
        → Safe digest shelves sc inputs (accepted digest W b x.out spawned how)
    report_safe how f all = go how refl
      where
        table : TableSafe digest shelves sc b.keys (accepted digest W b x.out spawned how).table
        table = table_after how f all

        sound : Sound digest W (accepted digest W b x.out spawned how)
        sound = accepted_sound digest W b s.sound x k out spawned how f.fits all

        go : (e : End P) → how ≡ e → Safe digest shelves sc inputs (accepted digest W b x.out spawned how)
        go (rep.made ms cs) e =
            subst (λ z. Safe digest shelves sc inputs (accepted digest W b x.out spawned z)) (sym e)
            (record {
              sound = subst (λ z. Sound digest W (accepted digest W b x.out spawned z)) e sound;
              table = subst (λ z. TableSafe digest shelves sc b.keys (accepted digest W b x.out spawned z).table) e table;
              keys = s.keys;
              few = s.few;
              wide = s.wide;
            })
        go (rep.saved q) e =
            subst (λ z. Safe digest shelves sc inputs (accepted digest W b x.out spawned z)) (sym e)
            (record {
              sound = subst (λ z. Sound digest W (accepted digest W b x.out spawned z)) e sound;
              table = subst (λ z. TableSafe digest shelves sc b.keys (accepted digest W b x.out spawned z).table) e table;
              keys = s.keys;
              few = s.few;
              wide = s.wide;
            })
        go (rep.missing name loss) e =
            subst (λ z. Safe digest shelves sc inputs (accepted digest W b x.out spawned z)) (sym e)
            (record {
              sound = subst (λ z. Sound digest W (accepted digest W b x.out spawned z)) e sound;
              table = subst (λ z. TableSafe digest shelves sc b.keys (accepted digest W b x.out spawned z).table) e table;
              keys = s.keys;
              few = s.few;
              wide = s.wide;
            })
