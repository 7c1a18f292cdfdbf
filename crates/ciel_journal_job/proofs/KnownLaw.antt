-- The real job tells where all comes from that its tasks wait for and hold.
use Rattle.sky_base.specs.Val as v
use Rattle.sky_base_law.specs.Tasks as t
use Rattle.sky_base.specs.See as s
use Rattle.sky_base.specs.Read as r
use Rattle.sky_base.specs.Needed as n
use Rattle.sky_base_law.proofs.TaskFuel as fuel
use Rattle.sky_base_law.proofs.TaskOutputs as outs
use Rattle.std.proofs.Common.{◌≡◌, ℕ, zero, suc, ◌<◌, ◌≤◌, List, [], ◌∷◌, ◌++◌, length, Bool, true, false, Option, Some, None, Ok, Err, slice_get}
use Rattle.std.proofs.Common.{inl, inr, refl, ap, sym, ◌∙◌, subst, arith, nat_le, leb-true, le-leb, is_some}
use Rattle.std.specs.Option.{option_map}
use Rattle.sky_base.specs.Tree.{nowhere}
use Rattle.sky_base.specs.Res.{End, Object, others, Res}
use Rattle.sky_base.specs.Eval.{Body, bind, body_of, outputs}
use Rattle.sky_base_law.specs.Refers.{PlainReads, Refers, PairsRefer, ValsRefer}
use Rattle.sky_base_law.proofs.BatchLaw.{acts_batched}
use Rattle.sky_base_law.proofs.FineLaw.{Fine, bind_ok, fine_call}
use Rattle.sky_base_law.proofs.WrittenLaw.{BodyWritten, any_lit, any_name, body_written, written_any}
use Rattle.sky_base_law.proofs.Lists.{some_is}
use Rattle.ciel_journal.specs.Job.{Digest, Task, show, of, Act, made, wait, Held, Job, In, Each, WaitOf, StateOf, waits_in, made_before, made_in}
use Rattle.ciel_journal.specs.Known.{Around, Batched, Begins, HandedTo, HandedToEnd, IsBatch, Knows, TellsTo, TellsToEnd}
use Rattle.ciel_journal.proofs.Splits.{get_short}
use Rattle.ciel_journal_job.specs.Inner.{inside, seen_refs, real_inner}
use Rattle.ciel_journal_job.specs.Real.{back, forth_if, acts_of, held_if, real_job}
use Rattle.ciel_journal_job.proofs.AlikeLaw.{before_is, made_is, wait_is}
use Rattle.ciel_journal_job.proofs.ToldWaves as waves
use Rattle.ciel_journal_job.proofs.RealLaw.{in_to, in_from, waits_are}
use Rattle.ciel_journal_job.proofs.ToldRun.{FrameTold, HaltTold, InsideRefers, OutcomeTold, P, Q, SeenAll, SeenTo, V, w, closed, each_pairs, each_refs}
use Rattle.ciel_journal_job.proofs.ToldRun.{each_vals, ends_told, frames_told, halt_told, left, made_told, makes_told, pairs_each, refs_each, right, both}
use Rattle.ciel_journal_job.proofs.ToldRun.{vals_each, vals_so}

module _ {A : Type 0} where
  each_to : (P : A → Type 0) (xs : List A) → t.Each P xs → Each P xs
  each_to P [] h = tt
  each_to P (x ∷ xs) h = (h.0, each_to P xs h.1)

  each_from : (P : A → Type 0) (xs : List A) → Each P xs → t.Each P xs
  each_from P [] h = tt
  each_from P (x ∷ xs) h = (h.0, each_from P xs h.1)

  each_map : (P F : A → Type 0) (xs : List A) → ((x : A) → P x → F x) → t.Each P xs → t.Each F xs
  each_map P F [] f h = tt
  each_map P F (x ∷ xs) f h = (f x h.0, each_map P F xs f h.1)

  each_sub : (P : A → Type 0) (xs ys : List A) → ((x : A) → t.In x ys → t.In x xs) → t.Each P xs → t.Each P ys
  each_sub P xs ys f h = outs.each_in P ys (λ x i. outs.in_each P xs x h (f x i))

-- ---- what is made in batches

module _ (job : s.Job) (around : s.Around) (name : s.Desc → Digest) (mark : s.Obj → Digest) (frozen : n.State → Digest) where
  abbrev the : Job s.Desc
  the = real_job job around name mark frozen

  outputs_batch : (x : List ℕ) (a : s.Val) (m : ℕ) (d : s.Desc) (ds : List s.Desc) → d ∷ ds ≡ outputs x a m 0 m → IsBatch the d ds
  outputs_batch x a zero d ds e = cc
  outputs_batch x a (suc m) d ds e =
      let is : d ≡ v.out x a (suc m) 0 = cc in
      subst (λ z. IsBatch the z ds) (sym is) (inr (
        ap forth_if (outs.makes (v.out x a (suc m) 0) (n.Task.of (v.out x a (suc m) 0)) (inl refl)),
        sym (subst (λ z. z ∷ ds ≡ outputs x a (suc m) 0 (suc m)) is e),
      ))

  lone_batch : (d : s.Desc) → t.Lone d → IsBatch the d []
  lone_batch (v.call f c vs) h = inr (refl, refl)
  lone_batch (v.out x a m i) h = absurd h
  lone_batch (v.input k) h = inl (refl, refl)
  lone_batch (v.known b) h = absurd b

  batch_is : (d : s.Desc) (ds : List s.Desc) → t.IsBatch (d ∷ ds) → IsBatch the d ds
  batch_is d ds (inl h) =
      let a : d ≡ h.0 = cc in
      let b : ds ≡ [] = cc in
      subst (IsBatch the d) (sym b) (subst (λ z. IsBatch the z []) (sym a) (lone_batch h.0 h.1))
  batch_is d ds (inr h) = outputs_batch h.0 h.1 h.2 d ds h.3

  batched_is : (xs : List s.Desc) (es : List (r.Act ⊥)) → t.Batched xs es → Batched the xs (acts_of es)
  batched_is [] [] b = tt
  batched_is (x ∷ xs) [] b = absurd b
  batched_is [] (r.made d ∷ es) b = (b.0, batch_is d b.0 b.1, batched_is b.0 es b.2)
  batched_is (x ∷ xs) (r.made d ∷ es) b = (b.0, batched_is xs es b.1)
  batched_is [] (r.waited ds ∷ es) b = batched_is [] es b
  batched_is (x ∷ xs) (r.waited ds ∷ es) b = absurd b

  batches : (k : ℕ) (u : Task s.Desc) → Batched the [] (the.acts k u)
  batches k u = batched_is [] (t.acts_of job around k (back u)) (acts_batched job around k (back u))

  -- ---- what an executor's output holds: nothing, since it is bytes

  output_none : (bs : List (List ℕ)) (i : ℕ) → seen_refs (Some (s.output_at bs i)) ≡ []
  output_none [] i = refl
  output_none (b ∷ bs) zero = refl
  output_none (b ∷ bs) (suc i) = output_none bs i

  run_none : (o : _) (i : ℕ) → seen_refs (Some (s.run_output o i)) ≡ []
  run_none (Ok bs) i = output_none bs i
  run_none (Err k) i = refl

  executed_none : (x : List ℕ) (a : s.Val) (m i : ℕ) (g : s.Gathered (List ℕ)) → seen_refs (s.executed_on around x a m i g) ≡ []
  executed_none x a m i s.Gathered.not_yet = refl
  executed_none x a m i (s.Gathered.faulty f) = refl
  executed_none x a m i (s.Gathered.all bs) = run_none _ i

  out_none : (k : ℕ) (x : List ℕ) (a : s.Val) (m i : ℕ) → seen_refs (s.see job around k (v.out x a m i)) ≡ []
  unfolding s.see
  out_none zero x a m i = refl
  out_none (suc k) x a m i = executed_none x a m i _

  input_none : (k : ℕ) (y : List ℕ) → seen_refs (s.see job around k (v.input y)) ≡ []
  unfolding s.see
  input_none zero y = refl
  input_none (suc k) y = refl

  carries_none : (d : s.Desc) (k : ℕ) → the.task_of d ≡ None → seen_refs (s.see job around k d) ≡ []
  carries_none (v.call f c vs) k e = cc
  carries_none (v.out x a m i) k e = out_none k x a m i
  carries_none (v.input y) k e = input_none k y
  carries_none (v.known b) k e = absurd b

  main_outputs : (u : Task s.Desc) → the.task_of s.main_call ≡ Some u → the.outputs u ≡ s.main_call ∷ []
  main_outputs u e = let q : of s.main_call ≡ u = cc in ap the.outputs (sym q)

  main_own : (d : s.Desc) → the.task_of s.main_call ≡ Some (of d) → d ≡ s.main_call
  main_own d e = cc

  module _ (plain : PlainReads around) (S : List s.Desc) where
    abbrev D : s.Desc → Type 0
    D d = In d S

    abbrev TellsTo' : Task s.Desc → ℕ → Type 0
    TellsTo' u i = TellsTo the (real_inner job around) S u i

    abbrev TellsAll : Task s.Desc → Type 0
    TellsAll u = TellsToEnd the (real_inner job around) S u

    abbrev HandedTo' : Task s.Desc → ℕ → Type 0
    HandedTo' u i = HandedTo the (real_inner job around) S u i

    abbrev HandedAll : Task s.Desc → Type 0
    HandedAll u = HandedToEnd the (real_inner job around) S u

    abbrev Around' : s.Desc → Type 0
    Around' d = Around the (real_inner job around) S d

    abbrev Seen : Option s.Obj → Type 0
    Seen o = waves.Seen job around plain D o

    abbrev WaveTold : Option s.Val → Type 0
    WaveTold o = waves.WaveTold job around plain D o

    seen_refers : (o : Option s.Obj) → Each D (seen_refs o) → Seen o
    seen_refers None h = tt
    seen_refers (Some (Object.bytes b)) h = tt
    seen_refers (Some (Object.data_of a)) h = each_refs D a (each_from D (v.refs a) h)
    seen_refers (Some (Object.fault f)) h = tt

    inside_each : (d : s.Desc) → InsideRefers D d → Each D (inside d)
    inside_each (v.call f c vs) h =
        each_to D (v.pairs_refs c ++ v.vals_refs vs) (both D (v.pairs_refs c) (v.vals_refs vs) (pairs_each D c h.0) (vals_each D vs h.1))
    inside_each (v.out x a m i) h = each_to D (v.refs a) (refs_each D a h)
    inside_each (v.input k) h = tt
    inside_each (v.known b) h = absurd b

    distinct_each : (a : s.Val) → t.Each D (v.refs a) → Each D (n.distinct_refs a)
    distinct_each a h =
        each_to D (n.distinct_refs a) (each_sub D (v.refs a) (n.distinct_refs a) (λ d i. outs.distinct_refs_in a d i) h)

    -- nothing is made where nothing is
    none : (before after : List s.Desc) (x : s.Desc) → [] ≡ before ++ x ∷ after → Around' x
    none [] after x e = cc
    none (b ∷ bs) after x e = cc

    -- ---- calls

    module _ (f : List ℕ) (c : s.Pairs) (vs : s.Vals) where
      abbrev u : Task s.Desc
      u = of (v.call f c vs)

      abbrev run : Res ⊥
      run = s.run_of job around f c vs

      abbrev Begun : Type 0
      Begun = Begins the (real_inner job around) S u

      captured : Begun → PairsRefer D c
      captured b =
          each_pairs D c (left D (v.pairs_refs c) (v.vals_refs vs) (each_from D (v.pairs_refs c ++ v.vals_refs vs) b))

      arguments : Begun → ValsRefer D vs
      arguments b =
          each_vals D vs (right D (v.pairs_refs c) (v.vals_refs vs) (each_from D (v.pairs_refs c ++ v.vals_refs vs) b))

      fine : Begun → Fine (w job around plain D) (P job around plain D) (Q job around plain D) (V job around plain D) D others run
      fine b =
          fine_call (w job around plain D) (P job around plain D) (Q job around plain D) (V job around plain D) D any_lit any_name
          (closed job around plain D) (written_any job.script) others f c vs nowhere s.start_st tt (captured b)
          (vals_so job around plain D vs (arguments b))

      at_wait : (k i : ℕ) (ds : List s.Desc) → slice_get (t.waits_in (r.acts (s.see job around k) run)) i ≡ Some ds → WaitOf the u (suc i) ds
      at_wait k i ds e =
          (k, ap (λ xs. slice_get xs i) (waits_are (r.acts (s.see job around k) run)) ∙ e)

      seen_at : (k : ℕ) (ds : List s.Desc) → ((d e : s.Desc) → In d ds → In e (seen_refs (s.see job around k d)) → In e S)
          → t.Each (λ d. Seen (s.see job around k d)) ds
      seen_at k ds h =
          outs.each_in (λ d. Seen (s.see job around k d)) ds
          (λ d i. seen_refers (s.see job around k d)
          (each_to D (seen_refs (s.see job around k d))
          (outs.each_in D (seen_refs (s.see job around k d)) (λ e j. h d e (in_to d ds i) (in_to e (seen_refs (s.see job around k d)) j)))))

      seen_to : (k i : ℕ) → HandedTo' u (suc i) → SeenTo job around plain D (s.see job around k) i (t.waits_in (r.acts (s.see job around k) run))
      seen_to k i handed j ds l e =
          seen_at k ds (λ d x a b. handed.reads (suc j) ds d x k (omega (arith, l)) (at_wait k j ds e) a b)

      made_to : (k i : ℕ) → TellsTo' u (suc i) → suc i ≤ length (waits_in (the.acts k u))
          → t.Each D (t.made_before (suc i) (r.acts (s.see job around k) run))
      made_to k i tells l =
          each_from D (t.made_before (suc i) (r.acts (s.see job around k) run))
          (subst (Each D) (before_is (suc i) (r.acts (s.see job around k) run)) (tells.makes k l))

      halt_at : (k i : ℕ) → TellsTo' u (suc i) → suc i ≤ length (waits_in (the.acts k u))
          → HaltTold job around plain D (s.see job around k) others (r.halt (s.see job around k) i run)
      halt_at k i tells l =
          halt_told job around plain D (s.see job around k) i run others (fine tells.handed.begins) (made_to k i tells l) (seen_to k i tells.handed)

      call_waits : (k i : ℕ) (ds : List s.Desc) → TellsTo' u (suc i) → slice_get (waits_in (the.acts k u)) i ≡ Some ds → Each D ds
      call_waits k i ds tells e =
          go (r.halt (s.see job around k) i run) (sym (fuel.halt_waits (s.see job around k) run i)
          ∙ (sym (ap (λ xs. slice_get xs i) (waits_are (r.acts (s.see job around k) run))) ∙ e))
          (halt_at k i tells (get_short (waits_in (the.acts k u)) i ds e))
        where
          go : (o : Option (r.Halt ⊥)) → option_map (λ (h : r.Halt ⊥). r.refs_of h.wait) o ≡ Some ds
              → HaltTold job around plain D (s.see job around k) others o → Each D ds
          go None q h = cc
          go (Some x) q h = subst (Each D) (some_is (r.refs_of x.wait) ds q) (each_to D (r.refs_of x.wait) h.0)

      values_refs : (xs : List s.Val) → t.Each (λ a. Refers D a) xs → t.Each D (t.vals_held xs)
      values_refs [] h = tt
      values_refs (x ∷ xs) h = both D (v.refs x) (t.vals_held xs) (refs_each D x h.0) (values_refs xs h.1)

      frames_refs : (fs : List (r.Frame ⊥)) → t.Each (FrameTold job around plain D) fs → t.Each D (t.frames_held fs)
      frames_refs [] h = tt
      frames_refs (x ∷ xs) h =
          both D (v.pairs_refs x.vars) (t.vals_held x.stack ++ t.frames_held xs) (pairs_each D x.vars h.0.0)
          (both D (t.vals_held x.stack) (t.frames_held xs) (values_refs x.stack h.0.1) (frames_refs xs h.1))

      held_each : (x : r.Run ⊥) → t.Each (FrameTold job around plain D) x.frames → Each D (t.held (n.State.run x))
      held_each x h =
          each_to D (t.held (n.State.run x)) (each_sub D (t.frames_held x.frames) (t.held (n.State.run x))
          (λ d i. outs.distinct_in (λ b c. true) (λ b c z. absurd b) (λ b. absurd b) (t.frames_held x.frames) d i) (frames_refs x.frames h))

      names_of : (x : n.State) (a : Held s.Desc) → held_if job around name mark frozen (Some x) ≡ Some a → t.held x ≡ a.names
      names_of x a e = ap (λ (z : Held s.Desc). z.names) (some_is (record { names = t.held x; mark = frozen x }) a e)

      abbrev first_run : Body → r.Run ⊥
      first_run x =
          record {
            frames = record { fun = f; vars = bind x.params vs c; stack = []; todo = record { node = x.node; step = 0 } ∷ [] } ∷ [];
            count = 0;
            waits = 0;
          }

      start_holds : (o : Option Body) → BodyWritten any_lit any_name o → Begun → (a : Held s.Desc)
          → held_if job around name mark frozen (n.start_frame f c vs o) ≡ Some a → Each D a.names
      start_holds None z b a e = cc
      start_holds (Some x) z b a e =
          subst (Each D) (names_of (n.State.run (first_run x)) a e)
          (held_each (first_run x) (
            (
              (bind_ok (w job around plain D) (P job around plain D) (Q job around plain D) (V job around plain D) D
                  any_lit any_name (closed job around plain D) x.params vs c z.0 (vals_so job around plain D vs (arguments b)) (captured b)),
              tt,
            ),
            tt,
          ))

      halt_holds : (k i : ℕ) → TellsTo' u (suc i) → (o : Option (r.Halt ⊥)) → r.halt (s.see job around k) i run ≡ o → (a : Held s.Desc)
          → held_if job around name mark frozen (n.halt_state f (suc i) o) ≡ Some a → Each D a.names
      halt_holds k i tells None q a e = cc
      halt_holds k i tells (Some x) q a e =
          let get : slice_get (waits_in (the.acts k u)) i ≡ Some (r.refs_of x.wait) =
          ap (λ xs. slice_get xs i) (waits_are (r.acts (s.see job around k) run))
          ∙ (fuel.halt_waits (s.see job around k) run i ∙ ap (option_map (λ (h : r.Halt ⊥). r.refs_of h.wait)) q) in
          let told = subst (HaltTold job around plain D (s.see job around k) others) q
          (halt_at k i tells (get_short (waits_in (the.acts k u)) i (r.refs_of x.wait) get)) in
          subst (Each D) (names_of (n.State.run (r.run_of_halt f (suc i) x)) a e)
          (held_each (r.run_of_halt f (suc i) x) (frames_told job around plain D x.forms others f x.st.vars told.1 told.2))

      call_holds : (i k : ℕ) (a : Held s.Desc) → TellsTo' u i → the.at k u i ≡ Some a → Each D a.names
      call_holds zero k a tells e =
          start_holds (body_of f job.script) (body_written any_lit any_name job.script (written_any job.script) f) tells.handed.begins a e
      call_holds (suc i) k a tells e = halt_holds k i tells (r.halt (s.see job around k) i run) refl a e

      call_made : (i k : ℕ) (before after : List s.Desc) (x : s.Desc) → HandedTo' u i → made_before i (the.acts k u) ≡ before ++ x ∷ after
          → Each D before → Around' x
      call_made zero k before after x handed e m = none before after x e
      call_made (suc i) k before after x handed e m =
          inside_each x (made_told job around plain D (s.see job around k) i run others before after x (fine handed.begins)
          (sym (before_is (suc i) (r.acts (s.see job around k) run)) ∙ e) (each_from D before m) (seen_to k i handed))

      seen_all : (k : ℕ) → HandedAll u → SeenAll job around plain D (s.see job around k) (t.waits_in (r.acts (s.see job around k) run))
      seen_all k handed j ds e = seen_at k ds (λ d x a b. handed.reads (suc j) ds d x k (at_wait k j ds e) a b)

      outcome_told : (k : ℕ) → TellsAll u → the.ended k u ≡ true
          → OutcomeTold job around plain D (s.see job around k) (r.outcome (s.see job around k) run)
      outcome_told k tells e =
          ends_told job around plain D (s.see job around k) run others (fine tells.handed.begins)
          (each_from D (t.made_in (r.acts (s.see job around k) run))
          (subst (Each D) (made_is (r.acts (s.see job around k) run)) (tells.makes k e))) (seen_all k tells.handed)

      call_end : (k : ℕ) (before after : List s.Desc) (x : s.Desc) → HandedAll u → made_in (the.acts k u) ≡ before ++ x ∷ after → Each D before
          → Around' x
      call_end k before after x handed e m =
          inside_each x (makes_told job around plain D (s.see job around k) run others before after x (fine handed.begins)
          (sym (made_is (r.acts (s.see job around k) run)) ∙ e) (each_from D before m) (seen_all k handed))

      outcome_refs : (k : ℕ) (o : r.Outcome ⊥) → OutcomeTold job around plain D (s.see job around k) o → Each D (seen_refs (s.object_of o))
      outcome_refs k (r.Outcome.ended End.goes st) h = tt
      outcome_refs k (r.Outcome.ended (End.got a) st) h = each_to D (v.refs a) (refs_each D a h.0)
      outcome_refs k (r.Outcome.ended (End.returned a) st) h = each_to D (v.refs a) (refs_each D a h.0)
      outcome_refs k (r.Outcome.ended (End.failed x) st) h = tt
      outcome_refs k r.no_fuel h = tt

      call_object : (k : ℕ) → TellsAll u → Each D (seen_refs (s.see job around k (v.call f c vs)))
      unfolding s.see
      call_object zero tells = tt
      call_object (suc k) tells = go (s.object_of (r.outcome (s.see job around k) run)) refl
        where
          go : (o : Option s.Obj) → s.object_of (r.outcome (s.see job around k) run) ≡ o
              → Each D (seen_refs (s.object_of (r.outcome (s.see job around k) run)))
          go None q = subst (λ z. Each D (seen_refs z)) (sym q) tt
          go (Some x) q = outcome_refs k (r.outcome (s.see job around k) run) (outcome_told k tells (ap is_some q))

    -- ---- executors

    out_first : (x : List ℕ) (a : s.Val) (m i : ℕ) → Begins the (real_inner job around) S (of (v.out x a m i)) → Each D (n.distinct_refs a)
    out_first x a m i b = distinct_each a (each_from D (v.refs a) b)

    -- ---- the root task

    -- what its values refer to up to a wave, at one fuel
    abbrev ReadsTo : ℕ → ℕ → Type 0
    ReadsTo k j =
        (i : ℕ) (ds : List s.Desc) (d e : s.Desc) → i < j → WaitOf the show i ds → In d ds → In e (seen_refs (s.see job around k d)) → In e S

    some_refs : (a : s.Val) (d : s.Desc) → t.In d (v.refs a) → n.wave_refs (Some a) ≡ Some (n.distinct_refs a)
    some_refs a d i = go (n.distinct_refs a) (outs.in_distinct_refs a d i)
      where
        go : (ds : List s.Desc) → t.In d ds → n.unless_none ds ≡ Some ds
        go [] j = absurd j
        go (e ∷ es) j = refl

    -- what the value of a wave refers to is waited for there
    waves_wait : (k j : ℕ) (a : s.Val) (d : s.Desc) → j ≤ 100 → s.wave job around k j ≡ Some a → t.In d (v.refs a) → (ds : List s.Desc)
        × WaitOf the show j ds × In d ds
    unfolding s.wave
    waves_wait k zero a d le e i =
        let q : v.ref s.main_call ≡ a = some_is (v.ref s.main_call) a e in
        (s.main_call ∷ [], refl, in_to d (s.main_call ∷ []) (subst (λ x. t.In d (v.refs x)) (sym q) i))
    waves_wait k (suc j) a d le e i =
        let on : nat_le (suc j) 100 ≡ true = le-leb (suc j) 100 le in
        let at : n.wait_at job around k n.Task.show (suc j) ≡ Some (n.distinct_refs a) =
        ap (λ b. n.only_if b (n.wave_refs (s.wave job around k (suc j)))) on ∙ (ap n.wave_refs e ∙ some_refs a d i) in
        (n.distinct_refs a, (k, wait_is job around name mark frozen k show j ∙ at), in_to d (n.distinct_refs a) (outs.in_distinct_refs a d i))

    wave_told : (k j : ℕ) → j ≤ 100 → In s.main_call S → ReadsTo k j → WaveTold (s.wave job around k j)
    unfolding s.wave
    wave_told k zero le m h = m
    wave_told k (suc j) le m h = waves.next_wave job around plain D k (s.wave job around k j)
        (λ a e. outs.each_in (λ d. Seen (s.see job around k d)) (v.refs a) (λ d i. seen a d e i))
      where
        seen : (a : s.Val) (d : s.Desc) → s.wave job around k j ≡ Some a → t.In d (v.refs a) → Seen (s.see job around k d)
        seen a d e i =
            let wt = waves_wait k j a d (omega (arith, le)) e i in
            seen_refers (s.see job around k d) (each_to D (seen_refs (s.see job around k d))
            (outs.each_in D (seen_refs (s.see job around k d))
            (λ x y. h j wt.0 d x (omega arith) wt.1 wt.2 (in_to x (seen_refs (s.see job around k d)) y))))

    at_wave : (k j : ℕ) (a : s.Val) → j ≤ 100 → TellsTo' show j → s.wave job around k j ≡ Some a → Refers D a
    at_wave k j a le tells e =
        subst WaveTold e (wave_told k j le tells.handed.begins (λ i ds d x l wt m c. tells.handed.reads i ds d x k l wt m c))

    few_waits : (k j : ℕ) (ds : List s.Desc) → slice_get (waits_in (the.acts k show)) j ≡ Some ds → (suc j ≤ 100)
        × ((a : s.Val) × (s.wave job around k (suc j) ≡ Some a) × (ds ≡ n.distinct_refs a))
    few_waits k j ds e = go (nat_le (suc j) 100) refl (s.wave job around k (suc j)) refl (sym (wait_is job around name mark frozen k show j) ∙ e)
      where
        listed : (a : s.Val) → n.unless_none (n.distinct_refs a) ≡ Some ds → ds ≡ n.distinct_refs a
        listed a q = pick (n.distinct_refs a) q
          where
            pick : (es : List s.Desc) → n.unless_none es ≡ Some ds → ds ≡ es
            pick [] z = cc
            pick (x ∷ xs) z = sym (some_is (x ∷ xs) ds z)

        go : (b : Bool) → nat_le (suc j) 100 ≡ b → (o : Option s.Val) → s.wave job around k (suc j) ≡ o
            → n.only_if b (n.wave_refs (s.wave job around k (suc j))) ≡ Some ds → (suc j ≤ 100)
            × ((a : s.Val) × (s.wave job around k (suc j) ≡ Some a) × (ds ≡ n.distinct_refs a))
        go false q o z h = cc
        go true q None z h = let bad : n.wave_refs None ≡ Some ds = ap n.wave_refs (sym z) ∙ h in cc
        go true q (Some a) z h = (leb-true (suc j) 100 q, (a, z, listed a (ap n.wave_refs (sym z) ∙ h)))

    show_waits : (i : ℕ) (ds : List s.Desc) → TellsTo' show i → WaitOf the show i ds → Each D ds
    show_waits zero ds tells e = subst (Each D) (sym e) (tells.handed.begins, tt)
    show_waits (suc j) ds tells (k, e) =
        let f = few_waits k j ds e in
        subst (Each D) (sym f.1.2) (distinct_each f.1.0 (refs_each D f.1.0 (at_wave k (suc j) f.1.0 f.0 tells f.1.1)))

    few : (i : ℕ) (ds : List s.Desc) → WaitOf the show i ds → i ≤ 100
    few zero ds e = omega arith
    few (suc j) ds (k, e) = (few_waits k j ds e).0

    show_holds : (i k : ℕ) (a : Held s.Desc) → i ≤ 100 → TellsTo' show i → the.at k show i ≡ Some a → Each D a.names
    show_holds i k a le tells e = go (s.wave job around k i) refl e
      where
        go : (o : Option s.Val) → s.wave job around k i ≡ o → held_if job around name mark frozen (n.wave_state i o) ≡ Some a → Each D a.names
        go None q h = cc
        go (Some x) q h =
            subst (λ (z : Held s.Desc). Each D z.names) (some_is _ a h) (distinct_each x (refs_each D x (at_wave k i x le tells q)))

    waves_make : (k m j : ℕ) → t.made_in (t.waves_from job around k m j) ≡ []
    unfolding t.waves_from
    waves_make k zero j = refl
    waves_make k (suc m) j = go (n.wave_refs (s.wave job around k j)) (waves_make k m (suc j))
      where
        go : (o : Option (List s.Desc)) → t.made_in (t.waves_from job around k m (suc j)) ≡ []
            → t.made_in (t.wait_then o (t.waves_from job around k m (suc j))) ≡ []
        go None q = refl
        go (Some ds) q = q

    show_makes : (k : ℕ) → made_in (the.acts k show) ≡ []
    show_makes k = made_is (t.acts_of job around k n.Task.show) ∙ waves_make k 100 1

    none_before : (es : List (Act s.Desc)) (i : ℕ) → made_in es ≡ [] → made_before i es ≡ []
    none_before es zero e = refl
    none_before [] (suc i) e = refl
    none_before (made d ∷ es) (suc i) e = cc
    none_before (wait ds ∷ es) (suc i) e = none_before es i e

    -- ---- all tasks

    waits_told : (u : Task s.Desc) (i : ℕ) (ds : List s.Desc) → TellsTo' u i → WaitOf the u i ds → Each D ds
    waits_told show i ds tells e = show_waits i ds tells e
    waits_told (of (v.call f c vs)) zero ds tells e = subst (Each D) (sym e) tt
    waits_told (of (v.call f c vs)) (suc i) ds tells (k, e) = call_waits f c vs k i ds tells e
    waits_told (of (v.out x a m i)) zero ds tells e = subst (Each D) (sym e) (out_first x a m i tells.handed.begins)
    waits_told (of (v.out x a m i)) (suc j) ds tells (k, e) = cc
    waits_told (of (v.input y)) zero ds tells e = subst (Each D) (sym e) tt
    waits_told (of (v.input y)) (suc j) ds tells (k, e) = cc
    waits_told (of (v.known b)) i ds tells e = absurd b

    holds_told : (u : Task s.Desc) (i : ℕ) (ds : List s.Desc) (a : Held s.Desc) → TellsTo' u i → WaitOf the u i ds → StateOf the u i a
        → Each D a.names
    holds_told show i ds a tells wt (k, e) = show_holds i k a (few i ds wt) tells e
    holds_told (of (v.call f c vs)) i ds a tells wt (k, e) = call_holds f c vs i k a tells e
    holds_told (of (v.out x b m i)) zero ds a tells wt (k, e) =
        subst (λ (z : Held s.Desc). Each D z.names) (some_is _ a e) (out_first x b m i tells.handed.begins)
    holds_told (of (v.out x b m i)) (suc j) ds a tells wt (k, e) = cc
    holds_told (of (v.input y)) i ds a tells wt (k, e) = cc
    holds_told (of (v.known b)) i ds a tells wt e = absurd b

    made_before_told : (u : Task s.Desc) (i k : ℕ) (before after : List s.Desc) (x : s.Desc) → HandedTo' u i → made_before i (the.acts k u)
        ≡ before ++ x ∷ after → Each D before → Around' x
    made_before_told show i k before after x handed e m =
        none before after x (sym (none_before (the.acts k show) i (show_makes k)) ∙ e)
    made_before_told (of (v.call f c vs)) i k before after x handed e m = call_made f c vs i k before after x handed e m
    made_before_told (of (v.out y a m j)) i k before after x handed e h =
        none before after x (sym (none_before [] i refl) ∙ e)
    made_before_told (of (v.input y)) i k before after x handed e h =
        none before after x (sym (none_before [] i refl) ∙ e)
    made_before_told (of (v.known b)) i k before after x handed e h = absurd b

    made_end_told : (u : Task s.Desc) (k : ℕ) (before after : List s.Desc) (x : s.Desc) → HandedAll u → made_in (the.acts k u) ≡ before ++ x
        ∷ after → Each D before → Around' x
    made_end_told show k before after x handed e m = none before after x (sym (show_makes k) ∙ e)
    made_end_told (of (v.call f c vs)) k before after x handed e m = call_end f c vs k before after x handed e m
    made_end_told (of (v.out y a m j)) k before after x handed e h = none before after x e
    made_end_told (of (v.input y)) k before after x handed e h = none before after x e
    made_end_told (of (v.known b)) k before after x handed e h = absurd b

    out_object : (k : ℕ) (x : List ℕ) (a : s.Val) (m i : ℕ) → Each D (seen_refs (s.see job around k (v.out x a m i)))
    out_object k x a m i = subst (Each D) (sym (out_none k x a m i)) tt

    object_of_told : (u : Task s.Desc) (k : ℕ) (d : s.Desc) → TellsAll u → In d (the.outputs u) → Each D (seen_refs (s.see job around k d))
    object_of_told show k d tells i = absurd i
    object_of_told (of (v.call f c vs)) k d tells (inl e) =
        subst (λ z. Each D (seen_refs (s.see job around k z))) (sym e) (call_object f c vs k tells)
    object_of_told (of (v.call f c vs)) k d tells (inr i) = absurd i
    object_of_told (of (v.out x a m j)) k d tells i =
        go d (outs.makes d (n.Task.of (v.out x a m j)) (in_from d (t.outputs_of (n.Task.of (v.out x a m j))) i))
      where
        go : (d : s.Desc) → t.maker d ≡ Some (n.Task.of (v.out x a m j)) → Each D (seen_refs (s.see job around k d))
        go (v.call f c vs) e = cc
        go (v.out y b o p) e = out_object k y b o p
        go (v.input y) e = cc
        go (v.known b) e = absurd b
    object_of_told (of (v.input y)) k d tells i = absurd i
    object_of_told (of (v.known b)) k d tells i = absurd b

  pub real_knows : PlainReads around → Knows the (real_inner job around)
  real_knows plain =
      record {
        main_inside = refl;
        main_outputs = main_outputs;
        main_own = main_own;
        input_carries = λ d k e. carries_none d k e;
        batches = batches;
        waits_told = λ S u i ds tells wt. waits_told plain S u i ds tells wt;
        holds_told = λ S u i ds a tells wt e. holds_told plain S u i ds a tells wt e;
        made_told = λ S u i k before after d handed e m. made_before_told plain S u i k before after d handed e m;
        end_told = λ S u k before after d handed e m. made_end_told plain S u k before after d handed e m;
        object_told = λ S u k d tells i. object_of_told plain S u k d tells i;
      }
