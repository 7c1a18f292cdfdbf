-- Every value that a job makes keeps the limits; a task has at most 64 bodies open.
use Rattle.sky_base.specs.Val as v
use Rattle.std.proofs.Common.{IsSome, ◌≡◌, ℕ, ◌+◌, List, [], ◌∷◌, length, Option, Some, None, Ok, Err, refl, ap, subst, arith, lt-ltb, ◌⊎◌, inl, inr}
use Rattle.sky_base.specs.Val.{null, truth, num, text, list, dict, fun, ref, no_vals, val, no_pairs, pair, call, out, input, known, refs, vals_refs}
use Rattle.sky_base.specs.Val.{pairs_refs}
use Rattle.sky_base.specs.Op.{Answer}
use Rattle.sky_base.specs.Tree.{FunDef, Script}
use Rattle.sky_base.specs.Res.{Object}
use Rattle.sky_base.specs.Eval.{find_fun}
use Rattle.sky_base.specs.Read.{Frame}
use Rattle.sky_base.specs.See.{Val, Vals, Pairs, Desc, Obj, Job, Around, replaced, vals_replaced, pairs_replaced, world_of, see, wave, main_call}
use Rattle.sky_base.specs.Needed.{Task, task_of, only_if, WaitOf, State, StandsAt, Needed}
use Rattle.sky_base_law.specs.Tasks.{In, Each, acts_of, made_in, maker}
use Rattle.sky_base_law.specs.Sound.{AllUsed, TakesIf, CallsIf, IsMain, IsFun, RefsSound, ValsSound, PairsSound, SoundDesc, Sound, SoundObject, SoundVars}
use Rattle.sky_base_law.specs.Sound.{SoundFrame, SoundState, SoundTask, SoundRead, SoundReads}
use Rattle.sky_base_law.proofs.FineLaw.{Closed, PairsOk, ObjectOk}
use Rattle.sky_base_law.proofs.FineReads.{SeenOk, FrameOk}
use Rattle.sky_base_law.proofs.JobsLaw.{JobClosed, TaskOk, StateOk, see_ok, wave_ok, wait_ok, needed_ok, made_ok, stands_ok}
use Rattle.sky_base_law.proofs.SoundOps.{caught_kept, dict_inside, SoundAnswer, Vars, sound_closed}
use Rattle.sky_base_law.proofs.WrittenLaw.{any_lit, any_made, any_name, written_any}
use Rattle.sky_base_law.proofs.Lists.{each_both}

module _ (sc : Script) where
  sound_vars : (around : Around) (ps : v.Pairs ⊥) → PairsOk (world_of sc around) (Sound sc) (SoundDesc sc) ps → SoundVars sc ps
  sound_vars around no_pairs h = tt
  sound_vars around (pair k u ps) h = (h.0, sound_vars around ps h.1)

  sound_frames : (around : Around) (fs : List (Frame ⊥))
      → Each (FrameOk (world_of sc around) (Sound sc) (SoundDesc sc) (Vars ⊥ (λ b. Unit {0}) sc (world_of sc around))) fs
      → Each (SoundFrame sc) fs
  sound_frames around [] h = tt
  sound_frames around (f ∷ fs) h = ((sound_vars around f.vars h.0.0, h.0.1, h.0.2), sound_frames around fs h.1)

  mutual
    sound_refs : (a : Val) → RefsSound sc a → Each (SoundDesc sc) (refs a)
    sound_refs null h = tt
    sound_refs (truth b) h = tt
    sound_refs (num z) h = tt
    sound_refs (text t) h = tt
    sound_refs (list vs) h = sound_vals_refs vs h
    sound_refs (dict ps) h = sound_pairs_refs ps h
    sound_refs (fun f c) h = sound_pairs_refs c h.1
    sound_refs (ref d) h = (h, tt)

    sound_vals_refs : (vs : Vals) → ValsSound sc vs → Each (SoundDesc sc) (vals_refs vs)
    sound_vals_refs no_vals h = tt
    sound_vals_refs (val a vs) h = each_both (SoundDesc sc) (refs a) (vals_refs vs) (sound_refs a h.0) (sound_vals_refs vs h.1)

    sound_pairs_refs : (ps : v.Pairs ⊥) → PairsSound sc ps → Each (SoundDesc sc) (pairs_refs ps)
    sound_pairs_refs no_pairs h = tt
    sound_pairs_refs (pair k a ps) h = each_both (SoundDesc sc) (refs a) (pairs_refs ps) (sound_refs a h.0) (sound_pairs_refs ps h.1)

  module _ (f : ℕ → Desc → Val) (h : (k : ℕ) (d : Desc) → RefsSound sc (f k d)) where
    replaced_used : (us : List (List ℕ)) (i : ℕ) (ps : v.Pairs ⊥) → AllUsed us ps → AllUsed us (pairs_replaced f i ps)
    replaced_used us i no_pairs r = tt
    replaced_used us i (pair k a ps) r = (r.0, replaced_used us (i + length (refs a)) ps r.1)

    replaced_takes : (i : ℕ) (o : Option FunDef) (ps : v.Pairs ⊥) → TakesIf o ps → TakesIf o (pairs_replaced f i ps)
    replaced_takes i None ps r = r
    replaced_takes i (Some d) ps r = replaced_used d.uses i ps r

    mutual
      replaced_refs : (i : ℕ) (a : Val) → RefsSound sc a → RefsSound sc (replaced f i a)
      replaced_refs i null r = tt
      replaced_refs i (truth b) r = tt
      replaced_refs i (num z) r = tt
      replaced_refs i (text t) r = tt
      replaced_refs i (list vs) r = replaced_vals i vs r
      replaced_refs i (dict ps) r = replaced_pairs i ps r
      replaced_refs i (fun g c) r = (replaced_takes i _ c r.0, replaced_pairs i c r.1)
      replaced_refs i (ref d) r = h i d

      replaced_vals : (i : ℕ) (vs : Vals) → ValsSound sc vs → ValsSound sc (vals_replaced f i vs)
      replaced_vals i no_vals r = tt
      replaced_vals i (val a vs) r = (replaced_refs i a r.0, replaced_vals (i + length (refs a)) vs r.1)

      replaced_pairs : (i : ℕ) (ps : v.Pairs ⊥) → PairsSound sc ps → PairsSound sc (pairs_replaced f i ps)
      replaced_pairs i no_pairs r = tt
      replaced_pairs i (pair k a ps) r = (replaced_refs i a r.0, replaced_pairs (i + length (refs a)) ps r.1)

  main_sound : Sound sc (ref main_call)
  main_sound = (
    record { deep = omega arith; large = omega arith },
    (
      record { deep = omega arith; large = omega arith },
      record { deep = omega arith; large = omega arith },
      tt,
      tt,
      inl (refl, refl, refl),
    ),
  )

has_fun : (o : Option FunDef) (c : Pairs) (vs : Vals) → CallsIf o c vs → IsSome o
has_fun None c vs h = absurd h
has_fun (Some f) c vs h = refl

module _ (job : Job) (around : Around) (reads : SoundReads job.script around) where
  abbrev P : Val → Type 0
  P a = Sound job.script a

  abbrev U : Val → Type 0
  U a = RefsSound job.script a

  abbrev Q : Desc → Type 0
  Q d = SoundDesc job.script d

  abbrev V : Pairs → Type 0
  V ps = Vars ⊥ (λ b. Unit {0}) job.script (world_of job.script around) ps

  read_ok : (o : Answer ⊥) → SoundRead job.script o → SoundAnswer ⊥ (λ b. Unit {0}) job.script o
  read_ok (Ok u) h = h
  read_ok (Err k) h = tt

  closed : Closed (world_of job.script around) P Q V any_made any_lit any_name
  closed = sound_closed ⊥ (λ b. Unit {0}) job.script (world_of job.script around) (λ f. refl) (λ k. refl)
      (λ b. read_ok (around.reads b) (reads b)) (λ d h. h)

  named_or_main : (f : List ℕ) (c : Pairs) (vs : Vals) → IsMain f c vs ⊎ CallsIf (find_fun f job.script.funs) c vs → (f ≡ []) ⊎ IsFun job.script f
  named_or_main f c vs (inl e) = inl e.0
  named_or_main f c vs (inr i) = inr (has_fun (find_fun f job.script.funs) c vs i)

  pub sound_job : JobClosed job around P U Q V any_lit any_name
  sound_job =
      record {
        closed = closed;
        written = written_any job.script;
        start_ok = tt;
        main_ok = main_sound job.script;
        to_ok = λ d h. h.1;
        weaker = λ a h. h.1;
        stronger = λ a r k. (k, r);
        utf8_ok = λ b e. tt;
        replaced_ok = λ f h i a r. replaced_refs job.script f h i a r;
        refs_ok = λ a h. sound_refs job.script a h;
        call_ok = λ f c vs h. (dict_inside ⊥ (λ b. Unit {0}) job.script c (caught_kept f c h.1, h.3), closed.inside_ok vs (h.0, h.2));
        named_ok = λ f c vs h. named_or_main f c vs h.4;
        arguments_ok = λ x a m i h. h.2;
        first_ok = λ x a m i h. (h.0, h.1, h.2, omega (arith, h.3), h.4);
      }

  object_sound : (o : Obj) → ObjectOk (world_of job.script around) P Q o → SoundObject job.script o
  object_sound (Object.bytes b) h = tt
  object_sound (Object.data_of u) h = h
  object_sound (Object.fault f) h = tt

  seen_sound : (x : Option Obj) (o : Obj) → SeenOk (world_of job.script around) P Q x → x ≡ Some o → SoundObject job.script o
  seen_sound None o h e = cc
  seen_sound (Some u) o h e = let same : u ≡ o = cc in subst (SoundObject job.script) same (object_sound u h)

  -- what is seen of a sound description is sound
  pub see_sound : (n : ℕ) (d : Desc) (o : Obj) → SoundDesc job.script d → see job around n d ≡ Some o → SoundObject job.script o
  see_sound n d o h e =
      seen_sound (see job around n d) o (see_ok job around P U Q V any_lit any_name sound_job n d h) e

  -- the value of the result at each wave is sound
  pub wave_sound : (n j : ℕ) (u : Val) → wave job around n j ≡ Some u → Sound job.script u
  wave_sound n j u e = wave_ok job around P U Q V any_lit any_name sound_job n j u e

  task_so : (t : Task) → SoundTask job.script t → TaskOk job around P U Q V any_lit any_name sound_job t
  task_so Task.show h = tt
  task_so (Task.of d) h = h

  so_task : (t : Task) → TaskOk job around P U Q V any_lit any_name sound_job t → SoundTask job.script t
  so_task Task.show h = tt
  so_task (Task.of d) h = h

  -- all that a sound task waits for is sound
  pub wait_sound : (t : Task) (j : ℕ) (ds : List Desc) → SoundTask job.script t → WaitOf job around t j ds → Each (SoundDesc job.script) ds
  wait_sound t j ds h wait = wait_ok job around P U Q V any_lit any_name sound_job t j ds (task_so t h) wait

  -- every task that is needed is sound
  pub needed_sound : (t : Task) → Needed job around t → SoundTask job.script t
  needed_sound t need = so_task t (needed_ok job around P U Q V any_lit any_name sound_job t need)

  -- each description that a sound task makes is sound
  pub made_sound : (n : ℕ) (t : Task) (d : Desc) → SoundTask job.script t → In d (made_in (acts_of job around n t)) → SoundDesc job.script d
  made_sound n t d h i = made_ok job around P U Q V any_lit any_name sound_job n t d (task_so t h) i

  state_sound : (s : State) → StateOk job around P U Q V any_lit any_name sound_job s → SoundState job.script s
  state_sound (State.run r) h = sound_frames job.script around r.frames h
  state_sound (State.show_at u j) h = h

  -- each value in the state of a sound task at a wait is sound
  pub stands_sound : (t : Task) (j : ℕ) (s : State) → SoundTask job.script t → StandsAt job around t j s → SoundState job.script s
  stands_sound t j s h e = state_sound s (stands_ok job around P U Q V any_lit any_name sound_job t j s (task_so t h) e)

module _ (sc : Script) where
  -- a sound description that isn't an input has its task
  pub sound_maker : (d : Desc) → SoundDesc sc d → maker d ≡ task_of d
  sound_maker (call f c vs) h = refl
  sound_maker (out x a m i) h = ap (λ b. only_if b (Some (Task.of (out x a m 0)))) (lt-ltb i m h.3)
  sound_maker (input k) h = refl
  sound_maker (known b) h = absurd b
