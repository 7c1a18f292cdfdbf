-- Every value that a job makes is typed, where its script and what is read as data are.
use Rattle.std.proofs.Common.{◌≡◌, ℕ, ◌+◌, List, [], ◌∷◌, length, Option, Some, None, Ok, Err, IsUtf8, subst, sym, ◌⊎◌, inl, inr}
use Rattle.std.proofs.lemmas.Str.{IsUtf8-from_is_utf8, IsUtf8-nil}
use Rattle.sky_base.specs.Val.{null, truth, num, text, list, dict, fun, ref, no_vals, val, no_pairs, pair, refs, vals_refs, pairs_refs, vals_of}
use Rattle.sky_base.specs.Val.{Rising, RisingFrom}
use Rattle.sky_base.specs.Op.{Answer, find, index, set_at, grown, negated, opposite, len, keys, has, range, limited, dict_from}
use Rattle.sky_base.specs.Res.{Object}
use Rattle.sky_base.specs.Eval.{caught_by, lit_val, oper}
use Rattle.sky_base.specs.Read.{Frame}
use Rattle.sky_base.specs.See.{Val, Vals, Pairs, Desc, Obj, Job, Around, replaced, vals_replaced, pairs_replaced, world_of, see, wave}
use Rattle.sky_base.specs.Needed.{Task, WaitOf, State, StandsAt, Needed}
use Rattle.sky_base_law.specs.Tasks.{In, Each, acts_of, made_in}
use Rattle.sky_base_law.specs.Sound.{IsFun, RefsSound, SoundDesc, Sound}
use Rattle.sky_base_law.specs.Typed.{ValsTyped, EachTyped, Typed, TypedDesc, TypedObject, TypedVars, TypedFrame, TypedState, TypedTask, TypedRead}
use Rattle.sky_base_law.specs.Typed.{TypedLit, TypedJob}
use Rattle.sky_base_law.proofs.FineLaw.{Closed, AnswerOk, OptionOk, ValsOk, ObjectOk}
use Rattle.sky_base_law.proofs.FineReads.{SeenOk, FrameOk}
use Rattle.sky_base_law.proofs.JobsLaw.{JobClosed, TaskOk, StateOk, see_ok, wave_ok, wait_ok, needed_ok, made_ok, stands_ok}
use Rattle.sky_base_law.proofs.SimpleOps.{negated_simple, opposite_simple, has_simple}
use Rattle.sky_base_law.proofs.SoundJobs.{sound_job}
use Rattle.sky_base_law.proofs.SoundOps.{Vars}
use Rattle.sky_base_law.proofs.TypedOps.{TypedAnswer, TypedOption, simple_typed, limited_typed, put_typed, find_typed, caught_typed, oper_typed}
use Rattle.sky_base_law.proofs.TypedOps.{index_typed, set_at_typed, grown_typed, taken_typed, len_typed, keys_typed, range_typed, list_typed, dict_typed}
use Rattle.sky_base_law.proofs.TypedOps.{lit_typed, refs_typed}
use Rattle.sky_base_law.proofs.WrittenLaw.{any_lit, any_made, any_name, fun_name}
use Rattle.sky_base_law.proofs.Lists.{some_is, each_both}

-- no name stands inside
abbrev K : ⊥ → Type 0
K b = Unit {0}

-- ---- both properties at once

module _ {A : Type 0} (F G : A → Type 0) where
  firsts : (xs : List A) → Each (λ x. F x × G x) xs → Each F xs
  firsts [] h = tt
  firsts (x ∷ xs) h = (h.0.0, firsts xs h.1)

  seconds : (xs : List A) → Each (λ x. F x × G x) xs → Each G xs
  seconds [] h = tt
  seconds (x ∷ xs) h = (h.0.1, seconds xs h.1)

  zipped : (xs : List A) → Each F xs → Each G xs → Each (λ x. F x × G x) xs
  zipped [] h i = tt
  zipped (x ∷ xs) h i = ((h.0, i.0), zipped xs h.1 i.1)

-- ---- what a value refers to

mutual
  typed_refs : (a : Val) → Typed a → Each TypedDesc (refs a)
  typed_refs null h = tt
  typed_refs (truth b) h = tt
  typed_refs (num z) h = tt
  typed_refs (text t) h = tt
  typed_refs (list vs) h = typed_vals_refs vs h
  typed_refs (dict ps) h = typed_pairs_refs ps h.0
  typed_refs (fun f c) h = typed_pairs_refs c h.1
  typed_refs (ref d) h = (h, tt)

  typed_vals_refs : (vs : Vals) → ValsTyped K vs → Each TypedDesc (vals_refs vs)
  typed_vals_refs no_vals h = tt
  typed_vals_refs (val a vs) h = each_both TypedDesc (refs a) (vals_refs vs) (typed_refs a h.0) (typed_vals_refs vs h.1)

  typed_pairs_refs : (ps : Pairs) → EachTyped K ps → Each TypedDesc (pairs_refs ps)
  typed_pairs_refs no_pairs h = tt
  typed_pairs_refs (pair k a ps) h = each_both TypedDesc (refs a) (pairs_refs ps) (typed_refs a h.1) (typed_pairs_refs ps h.2)

module _ (f : ℕ → Desc → Val) (h : (k : ℕ) (d : Desc) → Typed (f k d)) where
  rising_from : (i : ℕ) (k : List ℕ) (ps : Pairs) → RisingFrom k ps → RisingFrom k (pairs_replaced f i ps)
  rising_from i k no_pairs r = tt
  rising_from i k (pair l a ps) r = (r.0, rising_from (i + length (refs a)) l ps r.1)

  rising_replaced : (i : ℕ) (ps : Pairs) → Rising ps → Rising (pairs_replaced f i ps)
  rising_replaced i no_pairs r = tt
  rising_replaced i (pair k a ps) r = rising_from (i + length (refs a)) k ps r

  mutual
    replaced_typed : (i : ℕ) (a : Val) → Typed a → Typed (replaced f i a)
    replaced_typed i null r = tt
    replaced_typed i (truth b) r = tt
    replaced_typed i (num z) r = r
    replaced_typed i (text t) r = r
    replaced_typed i (list vs) r = vals_replaced_typed i vs r
    replaced_typed i (dict ps) r = (pairs_replaced_typed i ps r.0, rising_replaced i ps r.1)
    replaced_typed i (fun g c) r = (r.0, pairs_replaced_typed i c r.1, rising_replaced i c r.2)
    replaced_typed i (ref d) r = h i d

    vals_replaced_typed : (i : ℕ) (vs : Vals) → ValsTyped K vs → ValsTyped K (vals_replaced f i vs)
    vals_replaced_typed i no_vals r = tt
    vals_replaced_typed i (val a vs) r = (replaced_typed i a r.0, vals_replaced_typed (i + length (refs a)) vs r.1)

    pairs_replaced_typed : (i : ℕ) (ps : Pairs) → EachTyped K ps → EachTyped K (pairs_replaced f i ps)
    pairs_replaced_typed i no_pairs r = tt
    pairs_replaced_typed i (pair k a ps) r = (r.0, replaced_typed i a r.1, pairs_replaced_typed (i + length (refs a)) ps r.2)

module _ (job : Job) (around : Around) (start : TypedJob job around) where
  abbrev P : Val → Type 0
  P a = Sound job.script a × Typed a

  abbrev U : Val → Type 0
  U a = RefsSound job.script a × Typed a

  abbrev Q : Desc → Type 0
  Q d = SoundDesc job.script d × TypedDesc d

  abbrev S : Pairs → Type 0
  S ps = Vars ⊥ K job.script (world_of job.script around) ps

  abbrev V : Pairs → Type 0
  V ps = S ps × TypedVars ps

  abbrev sound : JobClosed job around (Sound job.script) (RefsSound job.script) (SoundDesc job.script) S any_lit any_name
  sound = sound_job job around start.sound

  abbrev s : Closed (world_of job.script around) (Sound job.script) (SoundDesc job.script) S any_made any_lit any_name
  s = sound.closed

  abbrev BothAnswer : Answer ⊥ → Type 0
  BothAnswer o = AnswerOk (world_of job.script around) P Q o

  both : (o : Answer ⊥) → AnswerOk (world_of job.script around) (Sound job.script) (SoundDesc job.script) o → TypedAnswer ⊥ K o → BothAnswer o
  both (Ok a) h i = (h, i)
  both (Err k) h i = tt

  both_found : (o : Option Val) → OptionOk (world_of job.script around) (Sound job.script) (SoundDesc job.script) o → TypedOption ⊥ K o
      → OptionOk (world_of job.script around) P Q o
  both_found (Some a) h i = (h, i)
  both_found None h i = tt

  both_vals : (vs : Vals) → ValsOk (world_of job.script around) (Sound job.script) (SoundDesc job.script) vs → ValsTyped K vs
      → ValsOk (world_of job.script around) P Q vs
  both_vals no_vals h i = tt
  both_vals (val a vs) h i = ((h.0, i.0), both_vals vs h.1 i.1)

  read_typed : (o : Answer ⊥) → TypedRead o → TypedAnswer ⊥ K o
  read_typed (Ok a) h = h
  read_typed (Err k) h = tt

  closure_typed : (x : List ℕ) (us : List (List ℕ)) (ps : Pairs) → IsUtf8 x → TypedVars ps → TypedAnswer ⊥ K (limited (fun x (caught_by us ps)))
  closure_typed x us ps u h =
      let c : EachTyped K (caught_by us ps) × Rising (caught_by us ps) = caught_typed ⊥ K us ps h in
      limited_typed ⊥ K (fun x (caught_by us ps)) (u, c.0, c.1)

  closed : Closed (world_of job.script around) P Q V any_made TypedLit IsUtf8
  closed =
      record {
        null_ok = (s.null_ok, tt);
        truth_ok = λ b. (s.truth_ok b, tt);
        taken_ok = λ t vs h le. (s.taken_ok t vs h.0 le, taken_typed ⊥ K t vs h.0.0 le);
        lit_ok = λ l i. both (limited (lit_val l)) (s.lit_ok l tt) (lit_typed ⊥ K l i);
        put_ok = λ x a ps k h l. (s.put_ok x a ps tt h.0 l.0, put_typed ⊥ K x a ps k h.1 l.1);
        find_ok = λ x ps l. both_found (find x ps) (s.find_ok x ps l.0) (find_typed ⊥ K x ps l.1.0);
        fun_ok = λ x k i. both (limited (fun x no_pairs)) (s.fun_ok x tt i) (limited_typed ⊥ K (fun x no_pairs) (k, tt, tt));
        closed_ok = λ f x ps k e l. both (limited (fun x (caught_by f.uses ps))) (s.closed_ok f x ps tt e l.0) (closure_typed x f.uses ps k l.1);
        caught_ok = λ f ca h. (s.caught_ok f ca h.0, (h.1.1, h.1.2));
        list_ok = λ vs h. both (limited (list (vals_of vs))) (s.list_ok vs (firsts (Sound job.script) Typed vs h))
            (list_typed ⊥ K vs (seconds (Sound job.script) Typed vs h));
        dict_ok = λ vs h. both (dict_from vs no_pairs) (s.dict_ok vs (firsts (Sound job.script) Typed vs h))
            (dict_typed ⊥ K vs no_pairs (seconds (Sound job.script) Typed vs h) (tt, tt));
        oper_ok = λ o a b h i. both (oper o a b) (s.oper_ok o a b h.0 i.0) (oper_typed ⊥ K o a b h.1 i.1);
        index_ok = λ a i h. both (index a i) (s.index_ok a i h.0) (index_typed ⊥ K a i h.1);
        set_ok = λ a i e h g r. both (set_at a i e) (s.set_ok a i e h.0 g.0 r.0) (set_at_typed ⊥ K a i e h.1 g.1 r.1);
        grown_ok = λ a e h i. both (grown a e) (s.grown_ok a e h.0 i.0) (grown_typed ⊥ K a e h.1 i.1);
        negated_ok = λ a. both (negated a) (s.negated_ok a) (simple_typed ⊥ K (negated a) (negated_simple ⊥ a));
        opposite_ok = λ a. both (opposite a) (s.opposite_ok a) (simple_typed ⊥ K (opposite a) (opposite_simple ⊥ a));
        len_ok = λ a h. both (len a) (s.len_ok a h.0) (len_typed ⊥ K a h.0.0);
        keys_ok = λ a h. both (keys a) (s.keys_ok a h.0) (keys_typed ⊥ K a h.1);
        has_ok = λ a k. both (has a k) (s.has_ok a k) (simple_typed ⊥ K (has a k) (has_simple ⊥ a k));
        range_ok = λ a b h i. both (range a b) (s.range_ok a b h.0 i.0) (range_typed ⊥ K a b h.1 i.1);
        inside_ok = λ vs h. both_vals vs (s.inside_ok vs h.0) h.1;
        reads_ok = λ b. both (around.reads b) (s.reads_ok b) (read_typed (around.reads b) (start.reads b));
        ref_ok = λ d h m. (s.ref_ok d h.0 m, h.1);
        refs_ok = λ ds le h. (
          s.refs_ok ds le (firsts (λ d. Sound job.script (ref d)) (λ d. Typed (ref d)) ds h),
          refs_typed ⊥ K ds (seconds (λ d. Sound job.script (ref d)) (λ d. Typed (ref d)) ds h),
        );
        call_ok = λ f ca vs x e n z h. (s.call_ok f ca vs x e n z.0 h.0, (z.1.0, z.1.1, z.1.2, h.1));
        out_ok = λ x a n i t h lt le. (s.out_ok x a n i t.0 h.0 lt le, (t.1, h.1));
        input_ok = λ k t e. (s.input_ok k t.0 e, t.1);
      }

  typed_job : JobClosed job around P U Q V TypedLit IsUtf8
  typed_job =
      record {
        closed = closed;
        written = start.script;
        start_ok = (sound.start_ok, (tt, tt));
        main_ok = (sound.main_ok, (IsUtf8-nil, tt, tt, tt));
        to_ok = λ d h. (sound.to_ok d h.0, h.1);
        weaker = λ a h. (sound.weaker a h.0, h.1);
        stronger = λ a r k. (sound.stronger a r.0 k, r.1);
        utf8_ok = λ b e. (sound.utf8_ok b e, IsUtf8-from_is_utf8 b e);
        replaced_ok = λ f h i a r. (sound.replaced_ok f (λ k d. (h k d).0) i a r.0, replaced_typed f (λ k d. (h k d).1) i a r.1);
        refs_ok = λ a h. zipped (SoundDesc job.script) TypedDesc (refs a) (sound.refs_ok a h.0) (typed_refs a h.1);
        call_ok = λ f c vs h. (((sound.call_ok f c vs h.0).0, (h.1.1, h.1.2)), both_vals vs (sound.call_ok f c vs h.0).1 h.1.3);
        named_ok = λ f c vs h. sound.named_ok f c vs h.0;
        arguments_ok = λ x a m i h. (sound.arguments_ok x a m i h.0, h.1.1);
        first_ok = λ x a m i h. (sound.first_ok x a m i h.0, h.1);
      }

  seen_typed : (x : Option Obj) (o : Obj) → SeenOk (world_of job.script around) P Q x → x ≡ Some o → TypedObject o
  seen_typed None o h e = cc
  seen_typed (Some u) o h e = go o (subst (ObjectOk (world_of job.script around) P Q) (some_is u o e) h)
    where
      go : (o : Obj) → ObjectOk (world_of job.script around) P Q o → TypedObject o
      go (Object.bytes b) h = tt
      go (Object.data_of a) h = h.1
      go (Object.fault f) h = tt

  -- what is seen of a sound and typed description is typed
  pub see_typed : (n : ℕ) (d : Desc) (o : Obj) → SoundDesc job.script d → TypedDesc d → see job around n d ≡ Some o → TypedObject o
  see_typed n d o h t e =
      seen_typed (see job around n d) o (see_ok job around P U Q V TypedLit IsUtf8 typed_job n d (h, t)) e

  -- the value of the result at each wave is typed
  pub wave_typed : (n j : ℕ) (u : Val) → wave job around n j ≡ Some u → Typed u
  wave_typed n j u e = (wave_ok job around P U Q V TypedLit IsUtf8 typed_job n j u e).1

  so_task : (t : Task) → TaskOk job around P U Q V TypedLit IsUtf8 typed_job t → TypedTask t
  so_task Task.show h = tt
  so_task (Task.of d) h = h.1

  -- every task that is needed is typed
  pub needed_typed : (t : Task) → Needed job around t → TypedTask t
  needed_typed t need = so_task t (needed_ok job around P U Q V TypedLit IsUtf8 typed_job t need)

  -- each description that a needed task makes is typed
  pub made_typed : (n : ℕ) (t : Task) (d : Desc) → Needed job around t → In d (made_in (acts_of job around n t)) → TypedDesc d
  made_typed n t d need i =
      (made_ok job around P U Q V TypedLit IsUtf8 typed_job n t d (needed_ok job around P U Q V TypedLit IsUtf8 typed_job t need) i).1

  -- and so is each that it waits for
  pub waits_typed : (t : Task) (j : ℕ) (ds : List Desc) → Needed job around t → WaitOf job around t j ds → Each TypedDesc ds
  waits_typed t j ds need wait =
      seconds (SoundDesc job.script) TypedDesc ds
      (wait_ok job around P U Q V TypedLit IsUtf8 typed_job t j ds (needed_ok job around P U Q V TypedLit IsUtf8 typed_job t need) wait)

  fun_utf8 : (f : List ℕ) → (f ≡ []) ⊎ IsFun job.script f → IsUtf8 f
  fun_utf8 f (inl e) = subst IsUtf8 (sym e) IsUtf8-nil
  fun_utf8 f (inr i) = fun_name TypedLit IsUtf8 job.script start.script f i

  frames_typed : (fs : List (Frame ⊥)) → Each (FrameOk (world_of job.script around) P Q V) fs → Each TypedFrame fs
  frames_typed [] h = tt
  frames_typed (f ∷ fs) h =
      ((fun_utf8 f.fun h.0.2, h.0.0.1, seconds (Sound job.script) Typed f.stack h.0.1), frames_typed fs h.1)

  state_typed : (x : State) → StateOk job around P U Q V TypedLit IsUtf8 typed_job x → TypedState x
  state_typed (State.run r) h = frames_typed r.frames h
  state_typed (State.show_at u j) h = h.1

  -- each value in the state of a needed task at a wait is typed
  pub stands_typed : (t : Task) (j : ℕ) (x : State) → Needed job around t → StandsAt job around t j x → TypedState x
  stands_typed t j x need e =
      state_typed x (stands_ok job around P U Q V TypedLit IsUtf8 typed_job t j x (needed_ok job around P U Q V TypedLit IsUtf8 typed_job t need) e)
