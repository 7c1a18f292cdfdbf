-- A state that stands for a task at a wait fits the script.
use Rattle.std.proofs.Common.{◌≡◌, ℕ, zero, suc, ◌+◌, ◌≤◌, ◌<◌, Bool, true, false, List, [], ◌∷◌, length, Option, Some, None, nat_le, leb-true, refl}
use Rattle.std.proofs.Common.{sym, ap, ◌∙◌, subst, arith}
use Rattle.std.proofs.lemmas.List.{length-map}
use Rattle.sky_base.specs.Val as v
use Rattle.sky_base.specs.Val.{call, out, input, known, refs, distinct, no_vals, val, no_pairs, pair}
use Rattle.sky_base.specs.Name.{low, low_vals, low_pairs, name}
use Rattle.sky_base.specs.Kept.{Kept}
use Rattle.sky_base.specs.Tree.{Script, nowhere}
use Rattle.sky_base.specs.Res.{bodies, others, visits, Object, Res, Fin, Tell, Ask}
use Rattle.sky_base.specs.Eval.{World, Body, bind, body_of}
use Rattle.sky_base.specs.Read.{Halt, see_all, refs_of, halts_seen, halt, frames_of, run_of_halt}
use Rattle.sky_base.specs.See.{Val, Vals, Pairs, Desc, Job, Around, see, run_of, world_of, start_st, wave, main_call}
use Rattle.sky_base.specs.Needed.{Task, State, StandsAt, WaitOf, halt_state, start_frame, wave_state, distinct_refs, wave_refs, unless_none, only_if}
use Rattle.sky_base_law.specs.Lower.{low_ref, low_run}
use Rattle.sky_base_law.specs.NamesLaws.{Tag, no_name}
use Rattle.sky_base_law.specs.Opened.{Node}
use Rattle.sky_base_law.specs.Nodes.{node_at}
use Rattle.sky_base_law.specs.Sound.{ValsSound, PairsSound, SoundDesc, Sound, SoundVars, SoundState, SoundReads, SoundTask}
use Rattle.sky_base_law.proofs.BoundLaw.{task_open}
use Rattle.sky_base_law.proofs.CountLaw.{climbs_call, Enough, enough}
use Rattle.sky_base_law.proofs.NodesLaw.{has_script}
use Rattle.sky_base_law.proofs.FormsLaw.{Within, inner}
use Rattle.sky_base_law.proofs.Low.{bind_low}
use Rattle.sky_base_law.proofs.RefsLow.{refs_low}
use Rattle.sky_base_law.proofs.SeenLaw.{stands_one}
use Rattle.sky_base_law.proofs.SoundJobs.{stands_sound, wave_sound}
use Rattle.sky_state.specs.Stand.{Stand, low_state}
use Rattle.sky_state.specs.Fits.{FitsRun, FitsShow, Fits}
use Rattle.sky_state.specs.Start.{StartsIn, StartsCall, SoundVals, CanStart}
use Rattle.sky_state.specs.Stands.{Stands, StandsForCall, StandsForShow}
use Rattle.sky_state.specs.Chained.{body_places, Chained}
use Rattle.sky_state.proofs.LinkLaw.{Linked, linked_call}
use Rattle.sky_base_law.proofs.SoundLow.{sound_low, vars_low, call_low}
use Rattle.sky_base_law.proofs.SoundOps.{caught_kept}
use Rattle.sky_base_law.proofs.Lists.{some_is, none_some}
use Rattle.sky_state.proofs.Starts.{starts_fit}
use Rattle.sky_state.proofs.SavedLaw.{saved_fits, fits_low}

-- ---- the forms under way at a wait

module _ {N : Type 0} (w : World N) (at : ℕ → Option Node) (look : v.Desc N → Option (Object N)) where
  abbrev pub ChainedHalt : List ℕ → Option (Halt N) → Type 0
  ChainedHalt ps None = Unit {0}
  ChainedHalt ps (Some h) = Chained w.script at ps h.forms

  chained_on : (ps : List ℕ) (x : Option (List (Object N))) (j : ℕ) (k : List (Object N) → Res N)
      → ((os : List (Object N)) → ChainedHalt ps (halt look j (k os))) → ChainedHalt ps (halts_seen x (λ os. halt look j (k os)))
  chained_on ps None j k h = tt
  chained_on ps (Some os) j k h = h os

  pub chained_halt : (ps : List ℕ) (r : Res N) (j : ℕ) → Linked w at ps r → ChainedHalt ps (halt look j r)
  chained_halt ps (Fin e st) j g = tt
  chained_halt ps (Tell d r) j g = chained_halt ps r j g.1
  chained_halt ps (Ask q fr st k) zero g = g.0
  chained_halt ps (Ask q fr st k) (suc j) g = chained_on ps (see_all look (refs_of q)) j k (λ os. chained_halt ps (k os) j (g.1 os))

-- ---- a call that may be started

module _ (sc : Script) where
  pairs_vars : (ps : Pairs) → Kept (v.Val.dict ps) → PairsSound sc ps → SoundVars sc ps
  pairs_vars no_pairs k h = tt
  pairs_vars (pair x u ps) k h = (
    (record { deep = omega (arith, k.deep); large = omega (arith, k.large) }, h.0),
    pairs_vars ps (record { deep = omega (arith, k.deep); large = omega (arith, k.large) }) h.1,
  )

  vals_each : (vs : Vals) → Kept (v.Val.list vs) → ValsSound sc vs → SoundVals sc vs
  vals_each no_vals k h = tt
  vals_each (val u vs) k h = (
    (record { deep = omega (arith, k.deep); large = omega (arith, k.large) }, h.0),
    vals_each vs (record { deep = omega (arith, k.deep); large = omega (arith, k.large) }) h.1,
  )

module _ (tag : Tag) (sc : Script) where
  vals_low : (vs : Vals) → SoundVals sc vs → SoundVals sc (low_vals no_name tag vs)
  vals_low no_vals h = tt
  vals_low (val u vs) h = (sound_low no_name tag sc u h.0, vals_low vs h.1)

  -- a sound call may be started over names
  pub can_start : (f : List ℕ) (c : Pairs) (vs : Vals) → SoundDesc sc (call f c vs)
      → CanStart sc f (low_pairs no_name tag c) (low_vals no_name tag vs)
  can_start f c vs h =
      record {
        call = call_low no_name tag sc f c vs h.4;
        caught = vars_low no_name tag sc c (pairs_vars sc c (caught_kept f c h.1) h.3);
        args =
            vals_low vs (vals_each sc vs h.0 h.2);
      }

-- ---- states at waits

module _ (tag : Tag) (job : Job) (around : Around) where
  -- the start
  start_state : (f : List ℕ) (c : Pairs) (vs : Vals) (o : Option Body) (a : State) → start_frame f c vs o ≡ Some a
      → StartsIn o f (low_pairs no_name tag c) (low_vals no_name tag vs) (low_state tag a)
  start_state f c vs None a e = absurd (none_some a e)
  start_state f c vs (Some b) a e =
      ap (low_state tag) (sym (some_is _ a e))
      ∙ ap (λ xs. Stand.run (record {
        frames = record { fun = f; vars = xs; stack = []; todo = record { node = b.node; step = 0 } ∷ [] }
            ∷ [];
        count = 0;
        waits = 0;
      })) (sym (bind_low no_name tag b.params vs c))

  pub start_of_call : (f : List ℕ) (c : Pairs) (vs : Vals) (s : Stand (List ℕ))
      → StartsCall job.script f (low_pairs no_name tag c) (low_vals no_name tag vs) s → Stands job around tag s (Task.of (call f c vs)) 0
  start_of_call f c vs s h = go (body_of f job.script) refl h
    where
      go : (o : Option Body) → body_of f job.script ≡ o → StartsIn o f (low_pairs no_name tag c) (low_vals no_name tag vs) s
          → Stands job around tag s (Task.of (call f c vs)) 0
      go None e i = absurd i
      go (Some b) e i =
          let a : State = State.run (record {
            frames =
                record { fun = f; vars = bind b.params vs c; stack = []; todo = record { node = b.node; step = 0 } ∷ [] } ∷ [];
            count = 0;
            waits =
                0;
          }) in
          (a, (0, ap (start_frame f c vs) e), i ∙ sym (start_state f c vs (Some b) a refl))

  pub start_of_show : Stands job around tag (Stand.show_at (v.Val.ref (known (name no_name tag main_call))) 0) Task.show 0
  unfolding wave
  start_of_show = (State.show_at (v.Val.ref main_call) 0, (0, refl), refl)

  module _ (reads : SoundReads job.script around) where
    within : Within {N = ⊥} (world_of job.script around) 0 start_st
    within = (omega arith, omega arith)

    halt_fits : (n i : ℕ) (f : List ℕ) (c : Pairs) (vs : Vals) (h : Halt ⊥) → halt (see job around n) i (run_of job around f c vs) ≡ Some h
        → SoundState job.script (State.run (run_of_halt f (suc i) h)) → FitsRun job.script (low_run no_name tag (run_of_halt f (suc i) h))
    halt_fits n i f c vs h e s =
        let w = world_of job.script around in
        let chain : Chained job.script (λ k. node_at job.script k) (body_places (body_of f job.script)) h.forms =
        subst (ChainedHalt w (λ k. node_at job.script k) (see job around n) (body_places (body_of f job.script))) e
        (chained_halt w (λ k. node_at job.script k) (see job around n) (body_places (body_of f job.script)) (run_of job around f c vs) i
        (linked_call w (λ k. node_at job.script k) bodies f c vs nowhere start_st (has_script job.script))) in
        let frames_left : length (frames_of h.forms f h.st.vars) + inner w h.forms others ≡ bodies =
        task_open job around (see job around n) i f c vs h e in
        let visits_at : (0 + i < h.st.count) × (h.st.count ≤ visits) =
        subst (Enough w (see job around n) 0 i) e
        (enough w (see job around n) (run_of job around f c vs) 0 i [] (climbs_call w bodies f c vs nowhere 0 start_st within)) in
        fits_low no_name tag job.script (run_of_halt f (suc i) h)
        (saved_fits job.script f (suc i) h chain s (omega (arith, frames_left)) visits_at.1 (omega arith) (omega (arith, visits_at.0)))
        (omega arith)

    call_fits : (n i : ℕ) (f : List ℕ) (c : Pairs) (vs : Vals) (x : Option (Halt ⊥)) (a : State)
        → halt (see job around n) i (run_of job around f c vs) ≡ x → halt_state f (suc i) x ≡ Some a → SoundState job.script a
        → Fits job.script (low_state tag a)
    call_fits n i f c vs None a e g s = absurd (none_some a g)
    call_fits n i f c vs (Some h) a e g s =
        let is : State.run (run_of_halt f (suc i) h) ≡ a = some_is _ a g in
        subst (λ b. Fits job.script (low_state tag b)) is (halt_fits n i f c vs h e (subst (SoundState job.script) (sym is) s))

    none_distinct : (xs : List Desc) (ds : List Desc) → unless_none (distinct (λ a b. true) xs) ≡ Some ds → 0 < length xs
    none_distinct [] ds e = absurd (none_some ds e)
    none_distinct (x ∷ xs) ds e = omega arith

    show_value : (j : ℕ) (u : Val) (ds : List Desc) → j ≤ 100 → Sound job.script u → unless_none (distinct_refs u) ≡ Some ds
        → FitsShow job.script (low no_name tag u) j
    show_value j u ds l s e =
        record {
          wave = l;
          value = sound_low no_name tag job.script u s;
          refers =
              subst (λ n. 0 < n) (sym (ap length (refs_low no_name tag u) ∙ length-map (refs u) (low_ref no_name tag)))
              (none_distinct (refs u) ds e);
        }

    -- the value of the result at a wave at which it waits
    show_waits : (m j : ℕ) (b : Bool) (x : Option Val) (ds : List Desc) → nat_le (suc j) 100 ≡ b → wave job around m (suc j) ≡ x
        → only_if b (wave_refs x) ≡ Some ds → (u : Val) × (wave job around m (suc j) ≡ Some u) × FitsShow job.script (low no_name tag u) (suc j)
    show_waits m j false x ds l e g = absurd (none_some ds g)
    show_waits m j true None ds l e g = absurd (none_some ds g)
    show_waits m j true (Some u) ds l e g = (u, e, show_value (suc j) u ds (leb-true (suc j) 100 l) (wave_sound job around reads m (suc j) u e) g)

    show_fits : (j : ℕ) (a : State) (ds : List Desc) → StandsAt job around Task.show (suc j) a → WaitOf job around Task.show (suc j) ds
        → Fits job.script (low_state tag a)
    show_fits j a ds s (m, g) =
        let found = show_waits m j (nat_le (suc j) 100) (wave job around m (suc j)) ds refl refl g in
        let is : State.show_at found.0 (suc j) ≡ a =
        stands_one job around Task.show (suc j) (State.show_at found.0 (suc j)) a (m, ap (wave_state (suc j)) found.1) s in
        subst (λ b. Fits job.script (low_state tag b)) is found.2

    first_fits : (n : ℕ) (a : State) → wave_state 0 (wave job around n 0) ≡ Some a → Fits job.script (low_state tag a)
    unfolding wave
    first_fits n a e =
        subst (λ b. Fits job.script (low_state tag b)) (some_is _ a e)
        (record {
          wave = omega arith;
          value = sound_low no_name tag job.script (v.Val.ref main_call)
              (wave_sound job around reads n 0 (v.Val.ref main_call) refl);
          refers = omega arith;
        })

    pub stands_fits : (t : Task) (j : ℕ) (a : State) (ds : List Desc) → SoundTask job.script t → StandsAt job around t j a
        → WaitOf job around t j ds → Fits job.script (low_state tag a)
    stands_fits Task.show zero a ds h s g = first_fits s.0 a s.1
    stands_fits Task.show (suc j) a ds h s g = show_fits j a ds s g
    stands_fits (Task.of (call f c vs)) zero a ds h s g =
        starts_fit job.script f (low_pairs no_name tag c) (low_vals no_name tag vs) (low_state tag a) (can_start tag job.script f c vs h)
        (start_state f c vs (body_of f job.script) a s.1)
    stands_fits (Task.of (call f c vs)) (suc i) a ds h s g =
        call_fits s.0 i f c vs (halt (see job around s.0) i (run_of job around f c vs)) a refl s.1
        (stands_sound job around reads (Task.of (call f c vs)) (suc i) a h s)
    stands_fits (Task.of (out x u m k)) j a ds h s g = absurd (none_some a s.1)
    stands_fits (Task.of (input k)) j a ds h s g = absurd (none_some a s.1)
    stands_fits (Task.of (known b)) j a ds h s g = absurd b

-- whatever gives the names
pub starts_stand : (sc : Script) (f : List ℕ) (caught : v.Pairs (List ℕ)) (args : v.Vals (List ℕ)) (s : Stand (List ℕ))
    → StartsCall sc f caught args s → StandsForCall sc f caught args s
starts_stand sc f caught args s h tag job around c vs is is_caught is_args =
    start_of_call tag job around f c vs s (subst (λ x. StartsCall x f (low_pairs no_name tag c) (low_vals no_name tag vs) s) (sym is)
    (subst (λ x. StartsCall sc f x (low_vals no_name tag vs) s) is_caught (subst (λ x. StartsCall sc f caught x s) is_args h)))

pub show_stands : (main : List ℕ) → StandsForShow main (Stand.show_at (v.Val.ref (known main)) 0)
show_stands main tag job around is =
    subst (λ n. Stands job around tag (Stand.show_at (v.Val.ref (known n)) 0) Task.show 0) (sym is) (start_of_show tag job around)

-- a reference at wave 0 fits every script
pub show_fits_any : (main : List ℕ) (sc : Script) → Fits sc (Stand.show_at (v.Val.ref (known main)) 0)
show_fits_any main sc =
    record { wave = omega arith; value = (record { deep = omega arith; large = omega arith }, tt); refers = omega arith }
