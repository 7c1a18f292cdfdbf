-- An event of the job that closes a Start: what it spawned passes the tests, and so do the objects of its task's outputs.
use Rattle.std.proofs.Common.{◌≡◌, ℕ, List, [], ◌∷◌, ◌++◌, Bool, true, false, cond, map, nat_eq, Some, ◌⊎◌, inl, inr, eq-eqb}
use Rattle.std.proofs.Common.{refl, sym, ap, ◌∙◌, subst}
use Rattle.std.specs.List.{list_any}
use Rattle.sky_base.specs.KitView.{Gives}
use Rattle.sky_base.specs.Name.{held_name}
use Rattle.sky_base.specs.Res.{Object, object_refs}
use Rattle.sky_base.specs.See as s
use Rattle.sky_base.specs.Val.{Desc, refs}
use Rattle.sky_base.specs.declared.object.Named.{Named}
use Rattle.sky_base_law.specs.Lower.{low_ref}
use Rattle.sky_base_law.specs.NamesLaws.{no_name}
use Rattle.sky_base_law.specs.Sound.{SoundDesc, SoundObject}
use Rattle.sky_base_law.specs.Tasks as t
use Rattle.sky_base_law.proofs.RefsLow.{refs_low}
use Rattle.sky_base_law.proofs.SoundJobs.{see_sound}
use Rattle.sky_base_law.proofs.SoundLow.{sound_low}
use Rattle.ciel_journal.specs.History.{Event, OpenStart, Standing, after, done, find_open, learned, names_of, placed, standing}
use Rattle.ciel_journal.specs.Job.{Digest, In, IsJob, Job, Needed}
use Rattle.ciel_journal.specs.Lawful.{Lawful, Step}
use Rattle.ciel_journal.proofs.Begins.{began}
use Rattle.ciel_journal.proofs.BookKnown.{learned_from, learned_has}
use Rattle.ciel_journal.proofs.Booked.{any_join_last, any_join_left}
use Rattle.ciel_journal.proofs.Good.{after_done}
use Rattle.ciel_journal.proofs.Numbers.{found_in}
use Rattle.ciel_journal.proofs.Started.{started}
use Rattle.ciel_journal.proofs.Text.{Has}
use Rattle.ciel_journal_job.proofs.RealLaw.{in_from}
use Rattle.ciel_journal_job.specs.Inner.{seen_refs}
use Rattle.ciel_master_board.specs.Board.{Board}
use Rattle.ciel_master_board.specs.Driving.{Runs}
use Rattle.ciel_master_board.specs.Reports.{learned_all}
use Rattle.ciel_master_board.specs.Sound.{Sound}
use Rattle.ciel_master_law.specs.Ends.{IsOrderly, worker_of}
use Rattle.ciel_table.specs.Seen.{Known}
use Rattle.ciel_task_order.specs.Named.{name_of, object_by_names}
use Rattle.ciel_task_order.specs.Views.{P}
use Rattle.ciel_log_model.specs.Passes.{ObjectPasses, SpawnedPasses}
use Rattle.ciel_log_model.proofs.Books.{J, S, Tells, is}
use Rattle.ciel_log_model.proofs.Spawned.{all_of_names, around, end_made, end_with, informed_then, map_of, reads, spawned_passes, tag}
use Rattle.ciel_log_model.proofs.Spawned.{then_known}

-- ---- who has what was placed

module _ {D : Type 0} (job : Job D) (laws : IsJob job) where
  placed_keeps : (ns : List D) (u : ℕ) (f : D → List ℕ) (w : ℕ) (d : D) → Has f w d → Has (placed job ns u f) w d
  placed_keeps [] u f w d h = h
  placed_keeps (n ∷ ns) u f w d h = placed_keeps ns u (λ e. cond (job.same n e) (f e ++ u ∷ []) (f e)) w d (one (job.same n d))
    where
      one : (c : Bool) → list_any (nat_eq w) (cond c (f d ++ u ∷ []) (f d)) ≡ true
      one true = any_join_left (nat_eq w) (f d) (u ∷ []) h
      one false = h

  placed_has : (ns : List D) (w : ℕ) (f : D → List ℕ) (d : D) → In d ns → Has (placed job ns w f) w d
  placed_has [] w f d i = absurd i
  placed_has (n ∷ ns) w f d (inl q) =
      placed_keeps ns w (λ e. cond (job.same n e) (f e ++ w ∷ []) (f e)) w d (one (job.same n d) same)
    where
      same : job.same n d ≡ true
      same = subst (λ z. job.same n z ≡ true) (sym q) (laws.same_refl n)

      one : (c : Bool) → c ≡ true → list_any (nat_eq w) (cond c (f d ++ w ∷ []) (f d)) ≡ true
      one true e = any_join_last (nat_eq w) (f d) w (eq-eqb w w refl)
      one false e = cc
  placed_has (n ∷ ns) w f d (inr i) = placed_has ns w (λ e. cond (job.same n e) (f e ++ w ∷ []) (f e)) d i

module _ (digest : List ℕ → List ℕ) (job : s.Job) (gives : Gives) (orderly : IsOrderly digest job gives) where
  abbrev the : Job s.Desc
  the = J digest job gives orderly

  abbrev laws : IsJob the
  laws = (is digest job gives orderly).laws

  -- an object by names is as sound as the object
  sound_by_names : (x : s.Obj) → SoundObject job.script x → SoundObject job.script (object_by_names digest x)
  sound_by_names (Object.bytes c) h = tt
  sound_by_names (Object.data_of u) h = sound_low no_name (tag digest) job.script u h
  sound_by_names (Object.fault f) h = tt

  -- what it refers to are the names of what the object refers to
  refs_by_names : (x : s.Obj) (m : List ℕ) → In m (map held_name (object_refs (object_by_names digest x)))
      → (e : s.Desc) × In e (object_refs x) × (m ≡ name_of digest e)
  refs_by_names (Object.bytes c) m i = absurd i
  refs_by_names (Object.fault f) m i = absurd i
  refs_by_names (Object.data_of u) m i =
      let names = subst (λ z. In m (map held_name z)) (refs_low no_name (tag digest) u) i in
      let held = map_of held_name m (map (low_ref no_name (tag digest)) (refs u)) (in_from m (map held_name (map (low_ref no_name (tag digest)) (refs u))) names) in
      let at = map_of (low_ref no_name (tag digest)) held.0 (refs u) (in_from held.0 (map (low_ref no_name (tag digest)) (refs u)) held.1) in
      (at.0, at.1, held.2 ∙ ap held_name at.2)

  module _ (h : List (Event s.Desc)) (b : Board P) (runs : Runs (S digest job gives orderly) h b) (sound : Sound digest worker_of b) where
    abbrev v : Standing s.Desc
    v = standing the h

    -- the task of an open Start is needed
    pub open_needed : (k : ℕ) (o : OpenStart s.Desc) → find_open the k v.orders ≡ Some o → Needed the o.task
    open_needed k o found =
        let m = began the h o (found_in the laws k v.orders o found).0 in
        (started the laws b.plan m.before m.rest o.number o.worker o.task o.from (subst (Lawful the b.plan) m.whole runs.follows.lawful)).0

    -- ---- a task that came to its end

    module _ (k : ℕ) (made : List (s.Desc × Digest)) (copied spawned : List s.Desc) (step : Step the b.plan v (done k made copied spawned)) where
      abbrev o : OpenStart s.Desc
      o = step.allowed.0

      abbrev then : Standing s.Desc
      then = after the v (done k made copied spawned)

      book_is : then.book ≡ learned the v.book spawned
      book_is = ap (λ (u : Standing s.Desc). u.book) (after_done the laws v k made copied spawned o step.allowed.1)

      booked : (d : s.Desc) → In d spawned → In d then.book
      booked d i = subst (In d) (sym book_is) (learned_has the laws v.book spawned d i)

      from_book : (d : s.Desc) → In d then.book → In d v.book ⊎ In d spawned
      from_book d i = learned_from the laws v.book spawned d (subst (In d) book_is i)

      module _ (ns : List Named) (tells : Tells digest job gives orderly ns spawned) where
        pub done_passes : SpawnedPasses digest job.script b.table ns
        done_passes =
            spawned_passes digest job gives orderly h b runs sound (done k made copied spawned) step spawned ns tells booked from_book
            (end_made digest job gives orderly o (open_needed k o step.allowed.1) spawned step.allowed.2.spawns)
            (end_with digest job gives orderly o (open_needed k o step.allowed.1) spawned step.allowed.2.spawns)

        -- the order's worker has each output then
        has : (d : s.Desc) → In d (names_of made) → Has then.places o.worker d
        has d i =
            subst (λ (u : Standing s.Desc). Has u.places o.worker d) (sym (after_done the laws v k made copied spawned o step.allowed.1))
            (placed_keeps the laws copied o.worker (placed the (names_of made) o.worker v.places) o.worker d
            (placed_has the laws (names_of made) o.worker v.places d i))

        -- and each copy
        has_copy : (d : s.Desc) → In d copied → Has then.places o.worker d
        has_copy d i =
            subst (λ (u : Standing s.Desc). Has u.places o.worker d) (sym (after_done the laws v k made copied spawned o step.allowed.1))
            (placed_has the laws copied o.worker (placed the (names_of made) o.worker v.places) d i)

        -- an object that the order's worker has then
        held_passes : (d : s.Desc) → Has then.places o.worker d → SoundDesc job.script d → (i : ℕ) (x : s.Obj)
            → s.see job (around digest job gives orderly) i d ≡ Some x → ObjectPasses digest job.script b.table ns (object_by_names digest x)
        held_passes d there d_sound i x e =
            record {
              allowed = sound_by_names x (see_sound job (around digest job gives orderly) (reads digest job gives orderly) i d x d_sound e);
              known = all_of_names (map held_name (object_refs (object_by_names digest x))) (λ m j. let at = refs_by_names x m j in
                  subst (Known (learned_all digest ns b.table)) (sym at.2)
                  (then_known digest job gives orderly h b runs sound (done k made copied spawned) step spawned ns tells booked from_book at.0
                  ((informed_then digest job gives orderly h b runs sound (done k made copied spawned) step).carried d o.worker there i at.0
                  (subst (In at.0) (sym (ap seen_refs e)) at.1))));
            }

        -- that of an output, and of a copy
        pub output_passes : (d : s.Desc) → In d (names_of made) → SoundDesc job.script d → (i : ℕ) (x : s.Obj)
            → s.see job (around digest job gives orderly) i d ≡ Some x → ObjectPasses digest job.script b.table ns (object_by_names digest x)
        output_passes d there = held_passes d (has d there)

        pub copy_passes : (d : s.Desc) → In d copied → SoundDesc job.script d → (i : ℕ) (x : s.Obj)
            → s.see job (around digest job gives orderly) i d ≡ Some x → ObjectPasses digest job.script b.table ns (object_by_names digest x)
        copy_passes d there = held_passes d (has_copy d there)
