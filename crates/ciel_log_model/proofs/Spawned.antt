-- What an event of the job spawned is allowed, stands whole, and has inside it only what is known.
use Rattle.std.proofs.Common.{◌≡◌, ◌<◌, ◌-◌, ℕ, zero, suc, List, [], ◌∷◌, ◌++◌, map, Some, ◌⊎◌, inl, inr}
use Rattle.std.proofs.Common.{refl, sym, ap, ◌∙◌, subst, lt-ltb}
use Rattle.std.specs.List.{AllByRecursion}
use Rattle.std.proofs.lemmas.List.{map-append}
use Rattle.sky_base.specs.KitView.{Gives}
use Rattle.sky_base.specs.Name.{digested, held_name, low, low_desc, low_pairs, low_vals}
use Rattle.sky_base.specs.Needed as n
use Rattle.sky_base.specs.See as s
use Rattle.sky_base.specs.Val.{Desc, call, out, input, known, same_text, distinct, pairs_refs, vals_refs, refs}
use Rattle.sky_base.specs.View.{view}
use Rattle.sky_base.specs.ObjectView.{desc_view}
use Rattle.sky_base.specs.declared.object.Desc1.{Desc1}
use Rattle.sky_base.specs.declared.object.Named.{Named}
use Rattle.sky_base.proofs.Exact.{exact_text, self_text}
use Rattle.sky_base_law.specs.Lower.{low_ref}
use Rattle.sky_base_law.specs.NamesLaws.{no_name}
use Rattle.sky_base_law.specs.Sound.{SoundDesc, SoundReads}
use Rattle.sky_base_law.specs.Tasks as t
use Rattle.sky_base_law.proofs.RefsLow.{pairs_refs_low, refs_low, vals_refs_low}
use Rattle.sky_base_law.proofs.SoundJobs.{made_sound, needed_sound}
use Rattle.sky_base_law.proofs.SoundLow.{sound_desc_low}
use Rattle.sky_base_law.proofs.TaskOutputs.{distinct_in, made_by}
use Rattle.ciel_json.specs.Around.{json_around}
use Rattle.ciel_json.proofs.ReadLaw.{json_reads_sound}
use Rattle.ciel_journal.specs.History.{Event, OpenStart, Standing, after, before_all, standing}
use Rattle.ciel_journal.specs.Job.{Act, Each, In, Job, Needed, Task, after_wait, made, made_before, made_in, of, wait}
use Rattle.ciel_journal.specs.Lawful.{SpawnedTo, SpawnedToEnd, Step}
use Rattle.ciel_journal.proofs.Batches.{WithOutputs, end_whole, segment_whole}
use Rattle.ciel_journal.proofs.BookKnown.{Informed, informed_all, informed_start, informed_step}
use Rattle.ciel_journal.proofs.Members.{each_of}
use Rattle.ciel_journal_job.proofs.AlikeLaw.{made_is, needed_to}
use Rattle.ciel_journal_job.proofs.CleanLists.{in_map}
use Rattle.ciel_journal_job.proofs.RealLaw.{in_from, in_to}
use Rattle.ciel_journal_job.specs.Inner.{inside}
use Rattle.ciel_journal_job.specs.Real.{back, forth_if}
use Rattle.ciel_master_board.specs.Board.{Board, start_refs}
use Rattle.ciel_master_board.specs.Driving.{Runs}
use Rattle.ciel_master_board.specs.Reports.{learned_all, named_view}
use Rattle.ciel_master_board.specs.Sound.{Sound}
use Rattle.ciel_master_law.specs.Ends.{IsOrderly, worker_of}
use Rattle.ciel_master_safe.specs.Reports.{StandsWhole}
use Rattle.ciel_table.specs.Seen.{Known}
use Rattle.ciel_task_order.specs.Named.{frozen_mark, mark_of, name_of}
use Rattle.ciel_task_order.specs.Views.{P}
use Rattle.ciel_want.specs.Waited.{AllKnown, names_of}
use Rattle.ciel_log_model.specs.Passes.{SpawnedPasses}
use Rattle.ciel_log_model.proofs.Books as books
use Rattle.ciel_log_model.proofs.Books.{J, S, Tells, all_found, is}

-- ---- what is made in a part of what a task does

module _ {D : Type 0} where
  made_after : (i : ℕ) (xs : List (Act D)) (d : D) → In d (made_in (after_wait i xs)) → In d (made_in xs)
  made_after zero xs d h = h
  made_after (suc i) [] d h = h
  made_after (suc i) (made e ∷ xs) d h = inr (made_after (suc i) xs d h)
  made_after (suc i) (wait ds ∷ xs) d h = made_after i xs d h

  made_till : (i : ℕ) (xs : List (Act D)) (d : D) → In d (made_before i xs) → In d (made_in xs)
  made_till zero xs d h = absurd h
  made_till (suc i) [] d h = h
  made_till (suc i) (made e ∷ xs) d (inl q) = inl q
  made_till (suc i) (made e ∷ xs) d (inr h) = inr (made_till (suc i) xs d h)
  made_till (suc i) (wait ds ∷ xs) d h = made_till i xs d h

-- of each named description by that of which it is the view
each_told : {D : Type 0} (low : D → Desc (List ℕ)) (Q : Named → Type 0) (ns : List Named) (ds : List D) → map named_view ns ≡ map low ds
    → ((n : Named) (d : D) → In d ds → named_view n ≡ low d → Q n) → Each Q ns
each_told low Q [] ds e f = tt
each_told low Q (n ∷ ns) [] e f = cc
each_told low Q (n ∷ ns) (d ∷ ds) e f =
    let view : named_view n ≡ low d = cc in
    let rest : map named_view ns ≡ map low ds = cc in
    (f n d (inl refl) view, each_told low Q ns ds rest (λ m x i. f m x (inr i)))

-- ---- the names inside a description

names_held : (ds : List (Desc (List ℕ))) (m : List ℕ) → In m (names_of ds) → (d : Desc (List ℕ)) × t.In d ds × (m ≡ held_name d)
names_held [] m i = absurd i
names_held (d ∷ ds) m (inl e) = (d, inl refl, e)
names_held (d ∷ ds) m (inr i) = let q = names_held ds m i in (q.0, inr q.1, q.2)

pub all_of_names : {T : List ℕ → Type 0} (ns : List (List ℕ)) → ((m : List ℕ) → In m ns → T m) → AllByRecursion T ns
all_of_names [] f = tt
all_of_names (n ∷ ns) f = (f n (inl refl), all_of_names ns (λ m i. f m (inr i)))

pub map_of : {A B : Type 0} (f : A → B) (y : B) (xs : List A) → t.In y (map f xs) → (x : A) × In x xs × (y ≡ f x)
map_of f y [] i = absurd i
map_of f y (x ∷ xs) (inl e) = (x, inl refl, e)
map_of f y (x ∷ xs) (inr i) = let q = map_of f y xs i in (q.0, inr q.1, q.2)

module _ (digest : List ℕ → List ℕ) where
  abbrev pub tag : Desc (List ℕ) → List ℕ
  tag = digested digest

  abbrev pub lowd : s.Desc → Desc (List ℕ)
  lowd d = low_desc no_name tag d

  -- a reference by names
  ref_of : (m : List ℕ) (ds : List s.Desc) (all : List (Desc (List ℕ))) → all ≡ map (low_ref no_name tag) ds
      → In m (names_of (distinct same_text all)) → (e : s.Desc) × In e ds × (m ≡ name_of digest e)
  ref_of m ds all q i =
      let held = names_held (distinct same_text all) m i in
      let there = distinct_in same_text exact_text self_text all held.0 held.1 in
      let at = map_of (low_ref no_name tag) held.0 ds (subst (t.In held.0) q there) in
      (at.0, at.1, held.2 ∙ ap held_name at.2)

  -- each name inside a description is that of one inside it
  inside_of : (x : Desc1) (d : s.Desc) → desc_view x ≡ lowd d → (m : List ℕ) → In m (start_refs x) → (e : s.Desc) × In e (inside d)
      × (m ≡ name_of digest e)
  inside_of (Desc1.Call g c ws) (call f a vs) q m i =
      let pairs : c ≡ low_pairs no_name tag a = cc in
      let vals : ws ≡ low_vals no_name tag vs = cc in
      ref_of m (pairs_refs a ++ vals_refs vs) (pairs_refs c ++ vals_refs ws)
      (ap (λ z. pairs_refs z ++ vals_refs ws) pairs ∙ (ap (λ z. pairs_refs (low_pairs no_name tag a) ++ vals_refs z) vals
      ∙ (ap (λ z. z ++ vals_refs (low_vals no_name tag vs)) (pairs_refs_low no_name tag a)
      ∙ (ap (λ z. map (low_ref no_name tag) (pairs_refs a) ++ z) (vals_refs_low no_name tag vs)
      ∙ sym (map-append (low_ref no_name tag) (pairs_refs a) (vals_refs vs)))))) i
  inside_of (Desc1.Exec z x l o) (out y a j k) q m i =
      let same : view x ≡ low no_name tag a = cc in
      ref_of m (refs a) (refs (view x)) (ap refs same ∙ refs_low no_name tag a) i
  inside_of (Desc1.Input l) (input key) q m i = absurd i
  inside_of (Desc1.Call g c ws) (out y a j k) q m i = cc
  inside_of (Desc1.Call g c ws) (input key) q m i = cc
  inside_of (Desc1.Exec z x l o) (call f a vs) q m i = cc
  inside_of (Desc1.Exec z x l o) (input key) q m i = cc
  inside_of (Desc1.Input l) (call f a vs) q m i = cc
  inside_of (Desc1.Input l) (out y a j k) q m i = cc
  inside_of x (known z) q m i = absurd z

-- ---- what an event spawned

module _ (digest : List ℕ → List ℕ) (job : s.Job) (gives : Gives) (orderly : IsOrderly digest job gives) where
  abbrev pub the : Job s.Desc
  the = J digest job gives orderly

  abbrev pub around : s.Around
  around = json_around gives

  pub reads : SoundReads job.script around
  reads = json_reads_sound job.script gives

  -- something that a needed task makes
  abbrev pub MadeThere : s.Desc → Type 0
  MadeThere d = (u : Task s.Desc) × Needed the u × (k : ℕ) × In d (made_in (the.acts k u))

  pub made_allowed : (d : s.Desc) → MadeThere d → SoundDesc job.script d
  made_allowed d (u, w, k, i) =
      made_sound job around reads k (back u) d
      (needed_sound job around reads (back u) (needed_to job around (name_of digest) (mark_of digest) (frozen_mark digest) u w))
      (in_from d (t.made_in (t.acts_of job around k (back u))) (subst (In d) (made_is (t.acts_of job around k (back u))) i))

  module _ (o : OpenStart s.Desc) (needed : Needed the o.task) where
    pub end_made : (ds : List s.Desc) → SpawnedToEnd the o ds → (d : s.Desc) → In d ds → MadeThere d
    end_made ds (k, e, q) d i = (o.task, needed, k, made_after o.from (the.acts k o.task) d (subst (In d) q i))

    pub till_made : (j : ℕ) (ds : List s.Desc) → SpawnedTo the o j ds → (d : s.Desc) → In d ds → MadeThere d
    till_made j ds (k, l, q) d i = (
      o.task,
      needed,
      k,
      made_after o.from (the.acts k o.task) d
          (made_till (j - o.from) (after_wait o.from (the.acts k o.task)) d (subst (In d) q i)),
    )

    pub end_with : (ds : List s.Desc) → SpawnedToEnd the o ds → (d : s.Desc) → In d ds
        → WithOutputs the (is digest job gives orderly).laws ds d
    end_with ds (k, e, q) d i =
        (end_whole the (is digest job gives orderly).laws o.from (the.acts k o.task) ds
        ((is digest job gives orderly).knows.batches k o.task) q).0 d i

    pub till_with : (j : ℕ) (ds : List s.Desc) → SpawnedTo the o j ds → (d : s.Desc) → In d ds
        → WithOutputs the (is digest job gives orderly).laws ds d
    till_with j ds (k, l, q) d i =
        (segment_whole the (is digest job gives orderly).laws o.from (j - o.from) (the.acts k o.task) ds
        ((is digest job gives orderly).knows.batches k o.task) q).0 d i

  -- so many descriptions, each of which a needed task makes, and with all outputs of its task
  module _ (ds : List s.Desc) (there : (d : s.Desc) → In d ds → MadeThere d)
      (with_outputs : (d : s.Desc) → In d ds → WithOutputs the (is digest job gives orderly).laws ds d) where
    stands_of : (d : s.Desc) → In d ds → StandsWhole (map (lowd digest) ds) (lowd digest d)
    stands_of (call f c vs) i = tt
    stands_of (input k) i = tt
    stands_of (known z) i = absurd z
    stands_of (out x a m k) i = (
      below,
      λ l less. in_map (lowd digest) (out x a m l) ds
          (each_of (λ e. In e ds) (out x a m l) (the.outputs (of (out x a m 0)))
          (in_to (out x a m l) (t.outputs_of (n.Task.of (out x a m 0))) (made_by (out x a m l) (n.Task.of (out x a m 0)) (maker_of l less)))
          (with_outputs (out x a m k) i (of (out x a m 0)) (ap forth_if (maker_of k below)))),
    )
      where
        below : k < m
        below = (made_allowed (out x a m k) (there (out x a m k) i)).3

        maker_of : (l : ℕ) → l < m → t.maker (out x a m l) ≡ Some (n.Task.of (out x a m 0))
        maker_of l less = ap (λ c. n.only_if c (Some (n.Task.of (out x a m 0)))) (lt-ltb l m less)

  -- an event that was done behind a history
  module _ (h : List (Event s.Desc)) (b : Board P) (runs : Runs (S digest job gives orderly) h b) (sound : Sound digest worker_of b)
      (e : Event s.Desc) (step : Step the b.plan (standing the h) e) where
    abbrev pub v : Standing s.Desc
    v = standing the h

    informed : Informed the (is digest job gives orderly).laws (S digest job gives orderly).inner (is digest job gives orderly).knows v
    informed =
        informed_all the (is digest job gives orderly).laws (S digest job gives orderly).inner (is digest job gives orderly).knows
        b.plan (before_all the) h
        (informed_start the (is digest job gives orderly).laws (S digest job gives orderly).inner (is digest job gives orderly).knows)
        runs.follows.lawful

    pub informed_then : Informed the (is digest job gives orderly).laws (S digest job gives orderly).inner (is digest job gives orderly).knows
        (after the v e)
    informed_then =
        informed_step the (is digest job gives orderly).laws (S digest job gives orderly).inner (is digest job gives orderly).knows
        b.plan v e informed step.allowed

    module _ (ds : List s.Desc) (ns : List Named) (tells : Tells digest job gives orderly ns ds)
        (booked : (d : s.Desc) → In d ds → In d (after the v e).book)
        (from_book : (d : s.Desc) → In d (after the v e).book → In d v.book ⊎ In d ds) where
      -- what the grown book has has a row
      pub then_known : (d : s.Desc) → In d (after the v e).book → Known (learned_all digest ns b.table) (name_of digest d)
      then_known d i = all_found digest job gives orderly h b runs sound ns ds tells d (from_book d i)

      inside_known : (x : Desc1) (d : s.Desc) → In d ds → desc_view x ≡ lowd digest d → AllKnown (learned_all digest ns b.table) (start_refs x)
      inside_known x d i q =
          all_of_names (start_refs x) (λ m j. let at = inside_of digest x d q m j in
          subst (Known (learned_all digest ns b.table)) (sym at.2)
          (then_known at.0 (each_of (λ z. In z (after the v e).book) at.0 (inside d) at.1 (informed_then.whole d (booked d i)).0)))

      pub spawned_passes : ((d : s.Desc) → In d ds → MadeThere d)
          → ((d : s.Desc) → In d ds → WithOutputs the (is digest job gives orderly).laws ds d) → SpawnedPasses digest job.script b.table ns
      spawned_passes there with_outputs =
          record {
            allowed = each_told (lowd digest) (λ m. SoundDesc job.script (named_view m)) ns ds tells.views
                (λ m d i q. subst (SoundDesc job.script) (sym q) (sound_desc_low no_name (tag digest) job.script d (made_allowed d (there d i))));
            whole = each_told (lowd digest) (λ m. StandsWhole (map named_view ns) (named_view m)) ns ds tells.views
                (λ m d i q. subst (λ z. StandsWhole (map named_view ns) z) (sym q)
                (subst (λ z. StandsWhole z (lowd digest d)) (sym tells.views) (stands_of ds there with_outputs d i)));
            inside = each_told (lowd digest) (λ m. AllKnown (learned_all digest ns b.table) (start_refs m.desc)) ns ds tells.views
                (λ m d i q. inside_known m.desc d i q);
          }
