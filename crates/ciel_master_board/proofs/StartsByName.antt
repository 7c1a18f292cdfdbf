-- A start by names is one of the history.
use Rattle.std.proofs.Common.{◌≡◌, ℕ, ◌+◌, ◌≤◌, List, [], ◌∷◌, length, true, false, map, Option, Some, None, ◌⊎◌, inl, inr, refl, ap, sym, ◌∙◌, subst}
use Rattle.std.specs.Option.{option_and_then, option_map, option_map_or}
use Rattle.sky_base.specs.ObjectView.{desc_view}
use Rattle.sky_base.specs.declared.object.Desc1.{Desc1}
use Rattle.ciel_journal.specs.Entries.{low_task}
use Rattle.ciel_journal.specs.Graph.{Runnable}
use Rattle.ciel_journal.specs.History as h
use Rattle.ciel_journal.specs.History.{OpenStart, Save, Standing, after, last, last_save, needs as needs_after, order_of, start}
use Rattle.ciel_journal.specs.Job.{Digest, Each, Held, In, Job, Needed, StateOf, Task, of, show}
use Rattle.ciel_journal.specs.Lawful.{HeldAt, NoClash, Step, own_name}
use Rattle.ciel_journal.specs.Turns.{Reached, Ready, busy, idle, idle_workers}
use Rattle.ciel_journal.proofs.BookKnown.{Informed, last_cases, start_known}
use Rattle.ciel_journal.proofs.Good.{last_ok, reached_needed}
use Rattle.ciel_journal.proofs.Members.{each_of}
use Rattle.ciel_journal.proofs.SavesRise.{EachRises}
use Rattle.ciel_journal.proofs.SeenAs.{in_names}
use Rattle.ciel_journal.proofs.Startable.{ready_step}
use Rattle.ciel_journal.proofs.Traced.{SaveTraced}
use Rattle.ciel_journal.proofs.Unique.{state_unique}
use Rattle.ciel_table.specs.Seen.{is_input, is_live, last_wait}
use Rattle.ciel_table.specs.declared.row.Row.{Row}
use Rattle.ciel_table.specs.declared.wait.Wait.{Wait}
use Rattle.ciel_want.specs.History.{task_id}
use Rattle.ciel_master_board.specs.Board.{Board, OrderOut, Spot, board_graph, first_held, held, held_at, idle_of, key_number, place_for, spot_for, spot_in}
use Rattle.ciel_master_board.specs.Board.{stack_at, task_desc, start_refs, task_key, wait_number, workers_out}
use Rattle.ciel_master_board.specs.Follows.{BroughtFor, FetchedAt, GoesBy, OneByOne, OrderIs, OutIs, RowIs, StandsFor, worker_for}
use Rattle.ciel_master_board.specs.Moves.{order_for, started}
use Rattle.ciel_master_board.specs.Setting.{HasState, IsMade, IsSetting, Setting, input_number}
use Rattle.ciel_master_board.specs.Sound.{Sound}
use Rattle.ciel_master_board.proofs.OrderPlaces.{brought_in, fetched, spot_brought}
use Rattle.ciel_master_board.proofs.TableContents.{Own, input_is, inside_apart, last_is, lives, needs_are, outs_are, reached_booked, reached_own, row_of}
use Rattle.ciel_master_board.proofs.TableLookups.{BothWaits}
use Rattle.ciel_master_board.proofs.Pairs.{join, long}

of_names : {A C : Type 0} (f : A → C) (n : C) (ds : List A) → In n (map f ds) → (d : A) × In d ds × (n ≡ f d)
of_names f n [] i = absurd i
of_names f n (e ∷ es) (inl s) = (e, inl refl, s)
of_names f n (e ∷ es) (inr i) = let q = of_names f n es i in (q.0, inr q.1, q.2)

each_met : {D : Type 0} (P : Digest → Type 0) (Q : D → Type 0) (f : D → Digest) (ds : List D) → ((d : D) → In d ds → P (f d) → Q d)
    → Each P (map f ds) → Each Q ds
each_met P Q f [] g e = tt
each_met P Q f (d ∷ ds) g e = (g d (inl refl) e.0, each_met P Q f ds (λ x i. g x (inr i)) e.1)

-- a task as the journal writes it
pub key_is : {D : Type 0} (job : Job D) (u : Task D) → task_key (task_id job u) ≡ low_task job u
key_is job show = refl
key_is job (of d) = refl

module _ {D P B : Type 0} (s : Setting D P B) (is : IsSetting s) where
  same_workers : (os : List (OpenStart D)) (xs : List OrderOut) → OneByOne (OutIs s) os xs → workers_out xs ≡ busy s.job os
  same_workers [] [] h = refl
  same_workers [] (x ∷ xs) h = absurd h
  same_workers (o ∷ os) [] h = absurd h
  same_workers (o ∷ os) (x ∷ xs) h =
      ap (λ n. n ∷ workers_out xs) h.0.worker ∙ ap (λ ws. o.worker ∷ ws) (same_workers os xs h.1)

  pub number_is : (x : Option (Save D)) (y : Option (Wait P)) → BothWaits s is x y → wait_number y ≡ h.wait_number s.job x
  number_is None None k = refl
  number_is None (Some w) k = absurd k
  number_is (Some q) None k = absurd k
  number_is (Some q) (Some w) k = k.j

  stack_is : (x : Option (Save D)) (y : Option (Wait P)) → BothWaits s is x y → option_map s.at (stack_at y) ≡ h.stack_of s.job x
  stack_is None None k = refl
  stack_is None (Some w) k = absurd k
  stack_is (Some q) None k = absurd k
  stack_is (Some q) (Some w) k = ap (λ n. Some n) k.worker

  module _ (v : Standing D) (inf : Informed s.job is.laws s.inner is.knows v) (apart : NoClash s.job v.book)
      (made : (d : D) → In d v.book → IsMade s d) (traced : (q : Save D) → In q v.saves → SaveTraced s.job is.laws v.book q)
      (rises : EachRises v.saves) (b : Board P) (sound : Sound s.digest s.at b) (st : StandsFor s v b) where
    -- a save that is a task's last is one of its own
    pub last_own : (u : Task D) (q : Save D) → last_save s.job u v.saves ≡ Some q → In q v.saves × (q.task ≡ u)
    last_own u q e = pick (last_cases s.job is.laws s.inner is.knows u v.saves)
      where
        pick : ((last_save s.job u v.saves ≡ None) ⊎ ((x : Save D) × In x v.saves × (x.task ≡ u) × (last_save s.job u v.saves ≡ Some x)))
            → In q v.saves × (q.task ≡ u)
        pick (inl n) = let bad : None ≡ Some q = sym n ∙ e in cc
        pick (inr x) =
            let a : Some x.0 ≡ Some q = sym x.3 ∙ e in
            let c : x.0 ≡ q = cc in
            subst (λ (z : Save D). In z v.saves × (z.task ≡ u)) c (x.1, x.2)

    -- what a task holds where it goes on is in the book
    pub held_booked : (u : Task D) → In (own_name s.job u) v.book → (d : D) → HeldAt s.job u (last s.job v u) d → In d v.book
    held_booked u i d k =
        each_of (λ e. In e v.book) d k.1.names k.3
        (is.knows.holds_told v.book u (last s.job v u) (needs_after s.job v u) k.1 (start_known s.job is.laws s.inner is.knows v inf u i)
        (last_ok s.job is.laws u v.saves inf.saves_ok) (k.0, k.2))

    module _ (u : Task D) (i : In (own_name s.job u) v.book) (own : Own s is v inf apart made b sound st u) (needed : Needed s.job u) where
      -- ---- what it holds at its start

      first_in : (t : Task D) → In (own_name s.job t) v.book → Own s is v inf apart made b sound st t → Needed s.job t → (d : D)
          → HeldAt s.job t 0 d → In (s.job.name d) (first_held b.main b.table (task_id s.job t))
      first_in show j o w d k =
          subst (λ n. In (s.job.name d) (n ∷ [])) (sym st.main) ((is.tells.root k.0 k.1 k.2).there d k.3)
      first_in (of e) j o w d k =
          let q = row_of s is v inf apart made b sound st e j in
          subst (λ r. In (s.job.name d) (option_map_or (λ (r : Row P). start_refs r.desc) r [])) (sym q.1)
          ((is.tells.held q.0.desc e k.0 k.1 q.2.spells w k.2 (inside_apart s is v inf apart made b sound st e j)).there d k.3)

      first_only : (t : Task D) → In (own_name s.job t) v.book → Own s is v inf apart made b sound st t → Needed s.job t → (n : Digest)
          → In n (first_held b.main b.table (task_id s.job t)) → (d : D) × HeldAt s.job t 0 d × (n ≡ s.job.name d)
      first_only show j o w n k =
          let a = is.tells.starts show w in
          let q = (is.tells.root a.0 a.1 a.2).only n (subst (λ m. In n (m ∷ [])) st.main k) in
          (q.0, (a.0, a.1, a.2, q.1), q.2)
      first_only (of e) j o w n k =
          let r = row_of s is v inf apart made b sound st e j in
          let a = is.tells.starts (of e) w in
          let q = (is.tells.held r.0.desc e a.0 a.1 r.2.spells w a.2 (inside_apart s is v inf apart made b sound st e j)).only n
          (subst (λ r. In n (option_map_or (λ (r : Row P). start_refs r.desc) r [])) r.1 k) in
          (q.0, (a.0, a.1, a.2, q.1), q.2)

      -- ---- and where it goes on

      both : BothWaits s is (last_save s.job u v.saves) (last_wait (task_id s.job u) b.table)
      both = last_is s is v inf apart made b sound st rises u i

      state_of : (q : Save D) → last_save s.job u v.saves ≡ Some q → (mark : Digest) × StateOf s.job u q.j (record { names = q.holds; mark = mark })
      state_of q e =
          let o = last_own u q e in
          let t = traced q o.0 in
          (t.2, subst (λ z. StateOf s.job z q.j (record { names = q.holds; mark = t.2 })) o.1 t.3)

      pub held_in : (d : D) → HeldAt s.job u (last s.job v u) d → In (s.job.name d) (held b.main b.table (task_id s.job u))
      held_in d k = pick (last_save s.job u v.saves) (last_wait (task_id s.job u) b.table) refl both k
        where
          pick : (x : Option (Save D)) (y : Option (Wait P)) → last_save s.job u v.saves ≡ x → BothWaits s is x y
              → HeldAt s.job u (h.wait_number s.job x) d → In (s.job.name d) (held_at b.main b.table y (task_id s.job u))
          pick None None e p k = first_in u i own needed d k
          pick None (Some w) e p k = absurd p
          pick (Some q) None e p k = absurd p
          pick (Some q) (Some w) e p k =
              let t = state_of q e in
              let same : k.1 ≡ record { names = q.holds; mark = t.0 } =
              state_unique s.job is.laws u q.j k.1 (record { names = q.holds; mark = t.0 }) (k.0, k.2) t.1 in
              subst (In (s.job.name d)) (sym p.holds) (in_names s.job.name d q.holds (subst (λ (a : Held D). In d a.names) same k.3))

      pub held_only : (n : Digest) → In n (held b.main b.table (task_id s.job u)) → (d : D) × HeldAt s.job u (last s.job v u) d × (n ≡ s.job.name d)
      held_only n k = pick (last_save s.job u v.saves) (last_wait (task_id s.job u) b.table) refl both k
        where
          pick : (x : Option (Save D)) (y : Option (Wait P)) → last_save s.job u v.saves ≡ x → BothWaits s is x y
              → In n (held_at b.main b.table y (task_id s.job u)) → (d : D) × HeldAt s.job u (h.wait_number s.job x) d × (n ≡ s.job.name d)
          pick None None e p k = first_only u i own needed n k
          pick None (Some w) e p k = absurd p
          pick (Some q) None e p k = absurd p
          pick (Some q) (Some w) e p k =
              let t = state_of q e in
              let m = of_names s.job.name n q.holds (subst (In n) p.holds k) in
              (m.0, (t.1.0, record { names = q.holds; mark = t.0 }, t.1.1, m.1), m.2)

      -- ---- the order

      from_is : wait_number (last_wait (task_id s.job u) b.table) ≡ last s.job v u
      from_is = number_is (last_save s.job u v.saves) (last_wait (task_id s.job u) b.table) both

      spot_is : (w : ℕ) (d : D) → In d v.book → (o : Option (Task D)) → s.job.task_of d ≡ o
          → BroughtFor s (order_of s.job v b.starts w u (last s.job v u)) d o (spot_for s.at b.keys w b.table (s.job.name d))
      spot_is w d j o e =
          let q = row_of s is v inf apart made b sound st d j in
          subst (BroughtFor s (order_of s.job v b.starts w u (last s.job v u)) d o)
          (sym (ap (option_and_then (λ (r : Row P). spot_in s.at b.keys w r.desc r.places)) q.1)) (turn q.0 q.2 q.0.desc refl o e)
        where
          place : (r : Row P) → RowIs s v.places d r → (x : Task D)
              → BroughtFor s (order_of s.job v b.starts w u (last s.job v u)) d (Some x) (option_map Spot.shelf (place_for s.at w r.places))
          place r q x =
              subst (λ ws. FetchedAt s d (worker_for s.job w ws) (option_map Spot.shelf (place_for s.at w r.places))) q.places
              (fetched s d w r.places q.objects)

          turn : (r : Row P) → RowIs s v.places d r → (x : Desc1) → r.desc ≡ x → (o : Option (Task D)) → s.job.task_of d ≡ o
              → BroughtFor s (order_of s.job v b.starts w u (last s.job v u)) d o (spot_in s.at b.keys w x r.places)
          turn r q (Desc1.Call f c vs) f_ (Some x) g = place r q x
          turn r q (Desc1.Exec y a n k) f_ (Some x) g = place r q x
          turn r q (Desc1.Input k) f_ None g =
              let i = is.tells.input r.desc d q.spells (made d j) g in
              let e : key_number s.keys k ≡ Some i.0 = sym (ap (input_number s.keys) f_) ∙ i.1 in
              (k, i.0, sym q.spells ∙ ap desc_view f_, e, ap (option_map Spot.input) (ap (λ ks. key_number ks k) st.keys ∙ e))
          turn r q (Desc1.Call f c vs) f_ None g =
              let bad : is_input r.desc ≡ true = input_is s is r.desc (is.tells.input r.desc d q.spells (made d j) g) in
              let no : false ≡ true = sym (ap is_input f_) ∙ bad in
              cc
          turn r q (Desc1.Exec y a n k) f_ None g =
              let bad : is_input r.desc ≡ true = input_is s is r.desc (is.tells.input r.desc d q.spells (made d j) g) in
              let no : false ≡ true = sym (ap is_input f_) ∙ bad in
              cc
          turn r q (Desc1.Input k) f_ (Some show) g =
              absurd (subst (In d) is.laws.outputs_show (is.laws.made_by d show g))
          turn r q (Desc1.Input k) f_ (Some (of x)) g =
              let bad : is_input r.desc ≡ false = (is.tells.made r.desc d x q.spells g).0 in
              let no : true ≡ false = sym (ap is_input f_) ∙ bad in
              cc

      state_there : (p : P) → stack_at (last_wait (task_id s.job u) b.table) ≡ Some p → HasState s p u (last s.job v u)
      state_there p e = pick (last_save s.job u v.saves) (last_wait (task_id s.job u) b.table) refl both e
        where
          pick : (x : Option (Save D)) (y : Option (Wait P)) → last_save s.job u v.saves ≡ x → BothWaits s is x y → stack_at y ≡ Some p
              → HasState s p u (h.wait_number s.job x)
          pick None None f k e = cc
          pick None (Some w) f k e = absurd k
          pick (Some q) None f k e = cc
          pick (Some q) (Some w) f k e =
              let c : w.place ≡ p = cc in
              subst (λ z. HasState s z u q.j) c (subst (λ z. HasState s w.place z q.j) (last_own u q f).1 k.state)

      goes_by : (t : Task D) → In (own_name s.job t) v.book → GoesBy s t (task_desc b.main b.table (task_id s.job t))
      goes_by show j = tt
      goes_by (of d) j =
          let q = row_of s is v inf apart made b sound st d j in
          subst (GoesBy s (of d)) (sym (ap (option_map (λ (r : Row P). r.desc)) q.1)) q.2.spells

      pub order_is : (w : ℕ) → OrderIs s (order_of s.job v b.starts w u (last s.job v u)) (order_for s.at b (task_id s.job u) w)
      order_is w =
          record {
            out = record { number = refl; worker = refl; task = refl; from = from_is };
            main = st.main;
            desc = goes_by u i;
            stack = stack_is (last_save s.job u v.saves) (last_wait (task_id s.job u) b.table) both;
            state = state_there;
            inputs = λ d k. subst (BroughtFor s (order_of s.job v b.starts w u (last s.job v u)) d (s.job.task_of d))
                (sym (spot_brought s.at b.keys w b.table (s.job.name d) (held b.main b.table (task_id s.job u)) (held_in d k)))
                (spot_is w d (held_booked u i d k) (s.job.task_of d) refl);
            only = λ n k. held_only n (brought_in s.at b.keys w b.table n (held b.main b.table (task_id s.job u)) k);
          }

    -- ---- the start

    module _ (known : (u : Task D) → Reached s.job v u → Each (λ d. In d v.book) (needs_after s.job v u)) where
      pub ready : (u : Task D) → Reached s.job v u → Runnable (board_graph b) (task_id s.job u) → Ready s.job v u
      ready u r k =
          let i = reached_booked s is v inf apart made b sound st known u r in
          let own = reached_own s is v inf apart made b sound st known u r in
          record {
            reached = r;
            not_out = sym (outs_are s is v inf apart made b sound st u i) ∙ k.not_out;
            met = each_met (λ n. is_live n b.table ≡ true) (λ d. h.live s.job v d ≡ true) s.job.name (needs_after s.job v u)
                (λ d j e. sym (lives s is v inf apart made b sound st d (each_of (λ x. In x v.book) d (needs_after s.job v u) j (known u r)))
                ∙ e) (subst (Each (λ n. is_live n b.table ≡ true)) (needs_are s is v inf apart made b sound st rises u i own) k.met);
          }

      pub idle_same : idle_of b ≡ idle s.job b.plan v
      idle_same =
          ap (λ gs. idle_workers b.plan.workers gs (workers_out b.orders)) st.gone
          ∙ ap (idle_workers b.plan.workers v.gone) (same_workers v.orders b.orders st.orders)

      room : length v.book ≤ b.plan.limit
      room =
          subst (λ n. length v.book ≤ n) sound.limit
          (subst (λ n. n ≤ b.table.limit) (sym (long (RowIs s v.places) v.book b.table.rows st.rows)) sound.room)

      pub start_step : (u : Task D) → Reached s.job v u → Runnable (board_graph b) (task_id s.job u) → (w : ℕ) → In w (idle_of b) → b.stopped
          ≡ false → Step s.job b.plan v (start b.starts w u (wait_number (last_wait (task_id s.job u) b.table)))
      start_step u r k w j going =
          let i = reached_booked s is v inf apart made b sound st known u r in
          let step = ready_step s.job is.laws s.inner is.knows v inf b.plan u w (st.going going) room apart (ready u r k)
          (subst (In w) idle_same j) in
          subst (λ n. Step s.job b.plan v (start n w u (wait_number (last_wait (task_id s.job u) b.table)))) (sym st.starts)
          (subst (λ n. Step s.job b.plan v (start v.starts w u n))
          (sym (number_is (last_save s.job u v.saves) (last_wait (task_id s.job u) b.table) (last_is s is v inf apart made b sound st rises u i)))
          step)

      -- the order that is handed out is that of the new open Start
      pub start_order : (u : Task D) → Reached s.job v u → (w : ℕ)
          → OrderIs s (order_of s.job v b.starts w u (wait_number (last_wait (task_id s.job u) b.table))) (order_for s.at b (task_id s.job u) w)
      start_order u r w =
          let i = reached_booked s is v inf apart made b sound st known u r in
          let own = reached_own s is v inf apart made b sound st known u r in
          let needed = reached_needed s.job is.laws v inf.saves_ok u r in
          let from = number_is (last_save s.job u v.saves) (last_wait (task_id s.job u) b.table) (last_is s is v inf apart made b sound st rises u i) in
          subst (λ n. OrderIs s (order_of s.job v b.starts w u n) (order_for s.at b (task_id s.job u) w)) (sym from) (order_is u i own needed w)

      pub start_stands : (u : Task D) → Reached s.job v u → (w : ℕ)
          → StandsFor s (after s.job v (start b.starts w u (wait_number (last_wait (task_id s.job u) b.table))))
          (started s.at b (task_id s.job u) w)
      start_stands u r w =
          let order = start_order u r w in
          record {
            keys = st.keys;
            main = st.main;
            rows = st.rows;
            waits = st.waits;
            orders = join (OutIs s) v.orders b.orders (order_of s.job v b.starts w u (wait_number (last_wait (task_id s.job u) b.table)) ∷ [])
                ((order_for s.at b (task_id s.job u) w).out ∷ []) st.orders (order.out, tt);
            gone = st.gone;
            starts = ap (λ n. n + 1) st.starts;
            closes = st.closes;
            going = st.going;
          }
