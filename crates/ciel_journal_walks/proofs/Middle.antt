-- What a task waits for and holds at its next wait, where all that it holds at a wait, what the objects hold that answer it
-- there, and what it makes up to the next one, has a property.
use Rattle.std.proofs.Common.{◌≡◌, ℕ, zero, suc, ◌+◌, ◌-◌, ◌≤◌, Bool, true, false, map, nat_le, List, [], ◌∷◌, ◌++◌, length, Option, Some, None, Ok}
use Rattle.std.proofs.Common.{Err, inl, inr, refl, sym, ap, ◌∙◌, subst, arith}
use Rattle.sky_base.specs.Val.{call, out, input, known, ref, refs, pairs_refs}
use Rattle.sky_base.specs.Op.{Answer}
use Rattle.sky_base.specs.Tree.{Place, nowhere}
use Rattle.sky_base.specs.Res.{with_vars, bodies, others, Object, Entry, Wait, one_of, all_of, Res, Fin, Tell, Ask}
use Rattle.sky_base.specs.Eval.{World, Body, bind, body_of, exec_end, read_end, wait_end, in_body, eval_block, body_at}
use Rattle.sky_base.specs.Read.{Halt, Frame, Run, refs_of, joined, see_all, halts_seen, halt, segment, segment_from, first_halt, frames_of}
use Rattle.sky_base.specs.Read.{run_of_halt, rest_of}
use Rattle.sky_base.specs.See.{Val, Vals, Pairs, Desc, Obj, Job, Around, run_of, world_of, start_st, see, wave, wave_on, turn_of, main_call}
use Rattle.sky_base.specs.Needed.{Task, State, start_frame, halt_state, halt_refs, wave_state, wave_refs, only_if, unless_none, distinct_refs}
use Rattle.sky_base.specs.Needed.{stands_at, wait_at}
use Rattle.sky_base_law.specs.Nodes.{node_at}
use Rattle.sky_base_law.specs.Opened.{Node}
use Rattle.sky_base_law.specs.Refers.{PlainReads}
use Rattle.sky_base_law.specs.Tasks.{In, Each, held, frames_held, vals_held, acts_of, after_wait, made_before, made_between}
use Rattle.sky_base_law.proofs.BoundLaw.{task_open}
use Rattle.sky_base_law.proofs.FineLaw.{EndOk, FormsOk, Fine, ObjectOk}
use Rattle.sky_base_law.proofs.FineReads.{SeenOk}
use Rattle.sky_base_law.proofs.FormsLaw.{inner}
use Rattle.sky_base_law.proofs.Lists.{some_is, none_some}
use Rattle.sky_base_law.proofs.NodesLaw.{has_script}
use Rattle.sky_base_law.proofs.OpenLaw as law
use Rattle.sky_base_law.proofs.OpenLaw.{Opens, opens_call}
use Rattle.sky_base_law.proofs.RefersOps.{refs_refers}
use Rattle.sky_base_law.proofs.TaskFuel.{made_next}
use Rattle.sky_base_law.proofs.TaskLaw.{task_halts, task_makes}
use Rattle.sky_base_law.proofs.TaskOutputs.{in_each, each_in, in_distinct, distinct_in, in_distinct_refs, distinct_refs_in}
use Rattle.sky_base_law.proofs.WrittenLaw.{BodyWritten, any_lit, any_name, body_written, written_any}
use Rattle.sky_state.specs.Chained.{body_places, Chained, AllOpened}
use Rattle.sky_state.proofs.FitsLaw.{ChainedHalt, chained_halt}
use Rattle.sky_state.proofs.LinkLaw.{linked_call}
use Rattle.sky_machine_waits.proofs.FitTaken.{fit_taken}
use Rattle.sky_machine_waits.proofs.Back.{Keeps, forms_back}
use Rattle.sky_machine_waits.proofs.Fines.{plug_fine, block_fine}
use Rattle.ciel_journal_job.specs.Inner.{seen_refs}
use Rattle.ciel_journal_job.proofs.ToldRun.{P, Q, V, w, closed, HaltTold, FrameTold, both, left, right, refs_each, each_refs, pairs_each, each_pairs}
use Rattle.ciel_journal_job.proofs.ToldRun.{frames_told}
use Rattle.ciel_journal_job.proofs.ToldWaves as waves

-- ---- the forms at a wait are opened by what is saved of them

module _ {N : Type 0} (w : World N) (at : ℕ → Option Node) where
  all_opened : (fr : List (Entry N)) → law.AllOpened w at fr → AllOpened at fr
  all_opened [] h = tt
  all_opened (en ∷ fr) h = (h.0, all_opened fr h.1)

module _ (wo : World ⊥) (at : ℕ → Option Node) (look : Desc → Option Obj) where
  abbrev OpenedHalt : Option (Halt ⊥) → Type 0
  OpenedHalt None = Unit {0}
  OpenedHalt (Some h) = AllOpened at h.forms

  opened_on : (x : Option (List Obj)) (j : ℕ) (k : List Obj → Res ⊥) → ((os : List Obj) → OpenedHalt (halt look j (k os)))
      → OpenedHalt (halts_seen x (λ os. halt look j (k os)))
  opened_on None j k h = tt
  opened_on (Some os) j k h = h os

  opened_halt : (r : Res ⊥) (j : ℕ) → Opens wo at r → OpenedHalt (halt look j r)
  opened_halt (Fin e st) j g = tt
  opened_halt (Tell d r) j g = opened_halt r j g.1
  opened_halt (Ask q fr st k) zero g = all_opened wo at fr g.0
  opened_halt (Ask q fr st k) (suc j) g = opened_on (see_all look (refs_of q)) j k (λ os. opened_halt (k os) j (g.1 os))

module _ (job : Job) (around : Around) (plain : PlainReads around) (D : Desc → Type 0) where
  abbrev W : World ⊥
  W = world_of job.script around

  abbrev At : ℕ → Option Node
  At i = node_at job.script i

  abbrev P' : Val → Type 0
  P' = P job around plain D

  abbrev Q' : Desc → Type 0
  Q' = Q job around plain D

  abbrev V' : Pairs → Type 0
  V' = V job around plain D

  abbrev Good : ℕ → Res ⊥ → Type 0
  Good d r = Fine W P' Q' V' D d r

  -- ---- what a state holds

  vals_to : (xs : List Val) → Each P' xs → Each D (vals_held xs)
  vals_to [] h = tt
  vals_to (x ∷ xs) h = both D (refs x) (vals_held xs) (refs_each D x h.0) (vals_to xs h.1)

  vals_from : (xs : List Val) → Each D (vals_held xs) → Each P' xs
  vals_from [] h = tt
  vals_from (x ∷ xs) h =
      (each_refs D x (left D (refs x) (vals_held xs) h), vals_from xs (right D (refs x) (vals_held xs) h))

  frames_to : (fs : List (Frame ⊥)) → Each (FrameTold job around plain D) fs → Each D (frames_held fs)
  frames_to [] h = tt
  frames_to (f ∷ fs) h =
      both D (pairs_refs f.vars) (vals_held f.stack ++ frames_held fs) (pairs_each D f.vars h.0.0)
      (both D (vals_held f.stack) (frames_held fs) (vals_to f.stack h.0.1) (frames_to fs h.1))

  frames_from : (fs : List (Frame ⊥)) → Each D (frames_held fs) → Each (Keeps W P' Q' V') fs
  frames_from [] h = tt
  frames_from (f ∷ fs) h =
      let rest = right D (pairs_refs f.vars) (vals_held f.stack ++ frames_held fs) h in (
        (
          each_pairs D f.vars (left D (pairs_refs f.vars) (vals_held f.stack ++ frames_held fs) h),
          vals_from f.stack (left D (vals_held f.stack) (frames_held fs) rest),
        ),
        frames_from fs (right D (vals_held f.stack) (frames_held fs) rest),
      )

  held_from : (r : Run ⊥) → Each D (held (State.run r)) → Each D (frames_held r.frames)
  held_from r h =
      each_in D (frames_held r.frames) (λ d i. in_each D (held (State.run r)) d h
      (in_distinct (λ a b. true) (λ b c z. absurd b) (λ b. absurd b) (frames_held r.frames) d i))

  held_to : (r : Run ⊥) → Each D (frames_held r.frames) → Each D (held (State.run r))
  held_to r h =
      each_in D (held (State.run r)) (λ d i. in_each D (frames_held r.frames) d h
      (distinct_in (λ a b. true) (λ b c z. absurd b) (λ b. absurd b) (frames_held r.frames) d i))

  -- ---- up to the first wait of a run

  first_told : (r : Res ⊥) (d : ℕ) → Good d r → Each D (segment r) → HaltTold job around plain D (see job around 0) d (first_halt r)
  first_told (Fin e st) d g m = tt
  first_told (Tell o r) d g m = first_told r d (g.1 m.0) m.1
  first_told (Ask q fr st k) d g m = (g.0.0, g.0.1, g.0.2)

  -- ---- objects

  abbrev Sees : (Desc → Option Obj) → Desc → Type 0
  Sees look d = SeenOk W P' Q' (look d)

  joined_ok : (x : Option Obj) (y : Option (List Obj)) (os : List Obj) → joined x y ≡ Some os → SeenOk W P' Q' x
      → ((ps : List Obj) → y ≡ Some ps → Each (ObjectOk W P' Q') ps) → Each (ObjectOk W P' Q') os
  joined_ok None y os e h g = absurd (none_some os e)
  joined_ok (Some o) None os e h g = absurd (none_some os e)
  joined_ok (Some o) (Some ps) os e h g = subst (Each (ObjectOk W P' Q')) (some_is (o ∷ ps) os e) (h, g ps refl)

  objects_ok : (look : Desc → Option Obj) (ds : List Desc) (os : List Obj) → see_all look ds ≡ Some os → Each (Sees look) ds
      → Each (ObjectOk W P' Q') os
  objects_ok look [] os e h = subst (Each (ObjectOk W P' Q')) (some_is [] os e) tt
  objects_ok look (d ∷ ds) os e h =
      joined_ok (look d) (see_all look ds) os e h.0 (λ ps q. objects_ok look ds ps q h.1)

  seen_ok : (o : Option Obj) → Each D (seen_refs o) → SeenOk W P' Q' o
  seen_ok None h = tt
  seen_ok (Some (Object.bytes b)) h = tt
  seen_ok (Some (Object.data_of a)) h = each_refs D a h
  seen_ok (Some (Object.fault f)) h = tt

  -- ---- the end of a wait

  read_ok : (a : Answer ⊥) (p : Place) (b : List ℕ) → around.reads b ≡ a → EndOk W P' Q' (read_end a p)
  read_ok (Ok a) p b e = each_refs D a (subst (Each D) (sym (plain b a e)) tt)
  read_ok (Err k) p b e = tt

  exec_ok : (ds : List Desc) (os : List Obj) → Each D ds → EndOk W P' Q' (exec_end ds os)
  exec_ok ds [] h = refs_refers ⊥ D ds h
  exec_ok ds (Object.bytes b ∷ os) h = exec_ok ds os h
  exec_ok ds (Object.data_of v ∷ os) h = exec_ok ds os h
  exec_ok ds (Object.fault f ∷ os) h = tt

  wait_ok : (q : Wait ⊥) (os : List Obj) → Each D (refs_of q) → Each (ObjectOk W P' Q') os → EndOk W P' Q' (wait_end W q os)
  wait_ok (one_of p d) [] h g = tt
  wait_ok (one_of p d) (Object.bytes b ∷ os) h g = read_ok (around.reads b) p b refl
  wait_ok (one_of p d) (Object.data_of v ∷ os) h g = g.0
  wait_ok (one_of p d) (Object.fault f ∷ os) h g = tt
  wait_ok (all_of ds) os h g = exec_ok ds os h

  -- ---- calls

  module _ (n : ℕ) (f : List ℕ) (c : Pairs) (vs : Vals) where
    abbrev run : Res ⊥
    run = run_of job around f c vs

    abbrev look : Desc → Option Obj
    look d = see job around n d

    abbrev ps : List ℕ
    ps = body_places (body_of f job.script)

    -- what a wait is for and what the stack there holds
    pub record At_halt (h : Halt ⊥) : Type 0 where
      pub waited : Each D (refs_of h.wait)
      pub kept : Each D (frames_held (frames_of h.forms f h.st.vars))

    from_told : (o : Option (Halt ⊥)) (h : Halt ⊥) → o ≡ Some h → HaltTold job around plain D (see job around 0) others o → At_halt h
    from_told None h e t = absurd (none_some h e)
    from_told (Some x) h e t =
        let all : FormsOk W P' Q' V' others x.forms × V' x.st.vars = (t.1, t.2) in
        subst At_halt (some_is x h e) (record {
          waited = t.0;
          kept =
              frames_to (frames_of x.forms f x.st.vars) (frames_told job around plain D x.forms others f x.st.vars all.0 all.1);
        })

    -- from the start

    start_good : (o : Option Body) → BodyWritten any_lit any_name o → ((b : Body) → o ≡ Some b → V' (bind b.params vs c))
        → Good others (in_body W o c vs nowhere start_st (λ b n s. eval_block W (body_at W others) b n s))
    start_good None z h = (tt, tt)
    start_good (Some b) z h =
        block_fine W P' Q' V' D (closed job around plain D) others b.block b.node (with_vars (bind b.params vs c) start_st) (h b refl)

    start_holds : (o : Option Body) (a : State) → start_frame f c vs o ≡ Some a → Each D (held a) → (b : Body) → o ≡ Some b → V' (bind b.params vs c)
    start_holds None a e h b q = absurd (none_some b q)
    start_holds (Some x) a e h b q =
        let r : Run ⊥ = record {
          frames = record {
            fun = f;
            vars = bind x.params vs c;
            stack = [];
            todo = record { node = x.node; step = 0 }
                ∷ [];
          } ∷ [];
          count = 0;
          waits = 0;
        } in
        let all = held_from r (subst (λ y. Each D (held y)) (sym (some_is _ a e)) h) in
        subst (λ y. V' (bind y.params vs c)) (some_is x b q) (each_pairs D (bind x.params vs c) (left D (pairs_refs (bind x.params vs c)) [] all))

    no_body : (o : Option Body) (a : State) → start_frame f c vs o ≡ Some a → Each D (held a) → (b : Body) → o ≡ Some b → V' (bind b.params vs c)
    no_body o a e h b q = start_holds o a e h b q

    pub from_start : (a : State) → start_frame f c vs (body_of f job.script) ≡ Some a → Each D (held a) → Each D (segment run) → (h : Halt ⊥)
        → halt look 0 run ≡ Some h → At_halt h
    from_start a e hold made h is =
        from_told (first_halt run) h (sym (halt_first look run) ∙ is)
        (first_told run others (start_good (body_of f job.script) (body_written any_lit any_name job.script (written_any job.script) f)
        (start_holds (body_of f job.script) a e hold)) made)
      where
        halt_first : (see : Desc → Option Obj) (r : Res ⊥) → halt see 0 r ≡ first_halt r
        halt_first see (Fin e st) = refl
        halt_first see (Tell d r) = halt_first see r
        halt_first see (Ask w fr st k) = refl

    -- from a wait
    module _ (i : ℕ) (h : Halt ⊥) (os : List Obj) (is : halt look i run ≡ Some h) (seen : see_all look (refs_of h.wait) ≡ Some os) where
      chain : Chained job.script At ps h.forms
      chain =
          subst (ChainedHalt W At look ps) is (chained_halt W At look ps run i
          (linked_call W At bodies f c vs nowhere start_st (has_script job.script)))

      opened : AllOpened At h.forms
      opened =
          subst (OpenedHalt W At look) is (opened_halt W At look run i (opens_call W At bodies f c vs nowhere start_st (has_script job.script)))

      few : length (frames_of h.forms f h.st.vars) ≤ suc others
      few =
          let left : length (frames_of h.forms f h.st.vars) + inner W h.forms others ≡ bodies = task_open job around look i f c vs h is in
          omega (arith, left)

      rest_good : At_halt h → Each (ObjectOk W P' Q') os → Good others (rest_of W others h os)
      rest_good at ok =
          let back = forms_back W P' Q' V' h.forms others f h.st.vars (inr (ps, chain)) (frames_from (frames_of h.forms f h.st.vars) at.kept) few in
          plug_fine W P' Q' V' D (closed job around plain D) h.forms others (wait_end W h.wait os) h.st back.0
          (fit_taken job.script h.forms ps chain opened) (wait_ok h.wait os at.waited ok) back.1

      pub from_wait : At_halt h → Each (Sees look) (refs_of h.wait) → Each D (segment_from look (suc i) run) → (g : Halt ⊥)
          → halt look (suc i) run ≡ Some g → At_halt g
      from_wait at sees made g next =
          let same : segment_from look (suc i) run ≡ segment (rest_of W others h os) = task_makes job around look f c vs i h os is seen in
          let told = first_told (rest_of W others h os) others (rest_good at (objects_ok look (refs_of h.wait) os seen sees))
          (subst (Each D) same made) in
          from_told (first_halt (rest_of W others h os)) g (sym (task_halts job around look f c vs i h os is seen) ∙ next) told

  -- ---- any task

  -- with n, at its wait j a task holds what has D, and so have what it waits for, what the objects hold that it waits for, and what
  -- it makes up to its next wait
  pub record Known (n : ℕ) (u : Task) (j : ℕ) (a : State) (ds : List Desc) (os : List Obj) : Type 0 where
    pub stands : stands_at job around n u j ≡ Some a
    pub holds : Each D (held a)
    pub waits : wait_at job around n u j ≡ Some ds
    pub waited : Each D ds
    pub seen : see_all (see job around n) ds ≡ Some os
    pub reads : (d : Desc) → In d ds → Each D (seen_refs (see job around n d))
    pub makes : Each D (made_between job around n u j (suc j))

  pub record Next (n : ℕ) (u : Task) (j : ℕ) : Type 0 where
    pub holds : (a : State) → stands_at job around n u j ≡ Some a → Each D (held a)
    pub waits : (ds : List Desc) → wait_at job around n u j ≡ Some ds → Each D ds

  sees_all : (n : ℕ) (ds : List Desc) → ((d : Desc) → In d ds → Each D (seen_refs (see job around n d))) → Each (Sees (see job around n)) ds
  sees_all n ds h = each_in (Sees (see job around n)) ds (λ d i. seen_ok (see job around n d) (h d i))

  -- what a next halt says of the next wait
  call_next : (n : ℕ) (f : List ℕ) (c : Pairs) (vs : Vals) (j : ℕ)
      → ((h : Halt ⊥) → halt (see job around n) j (run_of job around f c vs) ≡ Some h → At_halt n f c vs h)
      → Next n (Task.of (call f c vs)) (suc j)
  call_next n f c vs j at =
      record {
        holds = λ a e. state (halt (see job around n) j (run_of job around f c vs)) refl a e;
        waits = λ ds e. refs_at (halt (see job around n) j (run_of job around f c vs)) refl ds e;
      }
    where
      state : (o : Option (Halt ⊥)) → halt (see job around n) j (run_of job around f c vs) ≡ o → (a : State) → halt_state f (suc j) o ≡ Some a
          → Each D (held a)
      state None q a e = absurd (none_some a e)
      state (Some h) q a e =
          subst (λ x. Each D (held x)) (some_is (State.run (run_of_halt f (suc j) h)) a e) (held_to (run_of_halt f (suc j) h) (at h q).kept)

      refs_at : (o : Option (Halt ⊥)) → halt (see job around n) j (run_of job around f c vs) ≡ o → (ds : List Desc) → halt_refs o ≡ Some ds
          → Each D ds
      refs_at None q ds e = absurd (none_some ds e)
      refs_at (Some h) q ds e = subst (Each D) (some_is (refs_of h.wait) ds e) (at h q).waited

  call_at : (n : ℕ) (f : List ℕ) (c : Pairs) (vs : Vals) (i : ℕ) (a : State) (ds : List Desc) (os : List Obj) (o : Option (Halt ⊥))
      → halt (see job around n) i (run_of job around f c vs) ≡ o → halt_state f (suc i) o ≡ Some a → halt_refs o ≡ Some ds → Each D (held a)
      → Each D ds → see_all (see job around n) ds ≡ Some os → Each (Sees (see job around n)) ds
      → Each D (segment_from (see job around n) (suc i) (run_of job around f c vs)) → Next n (Task.of (call f c vs)) (suc (suc i))
  call_at n f c vs i a ds os None q s r hold wd seen sees made = absurd (none_some a s)
  call_at n f c vs i a ds os (Some h) q s r hold wd seen sees made =
      let is : refs_of h.wait ≡ ds = some_is (refs_of h.wait) ds r in
      let state : State.run (run_of_halt f (suc i) h) ≡ a = some_is _ a s in
      let here : At_halt n f c vs h = record {
        waited = subst (Each D) (sym is) wd;
        kept =
            held_from (run_of_halt f (suc i) h) (subst (λ x. Each D (held x)) (sym state) hold);
      } in
      call_next n f c vs (suc i) (λ g next. from_wait n f c vs i h os q (ap (see_all (see job around n)) is ∙ seen) here
      (subst (Each (Sees (see job around n))) (sym is) sees) made g next)

  -- what is made up to the next wait
  made_is : (n : ℕ) (f : List ℕ) (c : Pairs) (vs : Vals) (j : ℕ) → made_between job around n (Task.of (call f c vs)) j (suc j)
      ≡ segment_from (see job around n) j (run_of job around f c vs)
  made_is n f c vs j =
      let one : suc j - j ≡ 1 = omega arith in
      ap (λ k. made_before k (after_wait j (acts_of job around n (Task.of (call f c vs))))) one
      ∙ made_next (see job around n) j (run_of job around f c vs)

  -- the root task: what the value of the next wave refers to
  value_of : (j : ℕ) (o : Option Val) (a : State) → wave_state j o ≡ Some a → (u : Val) × (o ≡ Some u) × (a ≡ State.show_at u j)
  value_of j None a e = absurd (none_some a e)
  value_of j (Some u) a e = (u, refl, sym (some_is (State.show_at u j) a e))

  refs_listed : (xs : List Desc) (ds : List Desc) → unless_none xs ≡ Some ds → xs ≡ ds
  refs_listed [] ds e = absurd (none_some ds e)
  refs_listed (x ∷ xs) ds e = some_is (x ∷ xs) ds e

  wave_waits : (b : Bool) (o : Option Val) (u : Val) (ds : List Desc) → o ≡ Some u → only_if b (wave_refs o) ≡ Some ds → distinct_refs u ≡ ds
  wave_waits false o u ds q e = absurd (none_some ds e)
  wave_waits true o u ds q e = refs_listed (distinct_refs u) ds (sym (ap wave_refs q) ∙ e)

  first_value : (n : ℕ) (u : Val) → wave job around n 0 ≡ Some u → ref main_call ≡ u
  unfolding wave
  first_value n u e = some_is (ref main_call) u e

  -- each reference of the value is waited for
  waits_all : (n j : ℕ) (u : Val) (ds : List Desc) → wave job around n j ≡ Some u → wait_at job around n Task.show j ≡ Some ds → (d : Desc)
      → In d (refs u) → In d ds
  waits_all n zero u ds w e d i =
      let main : main_call ∷ [] ≡ ds = some_is (main_call ∷ []) ds e in
      subst (In d) main (subst (λ x. In d (refs x)) (sym (first_value n u w)) i)
  waits_all n (suc j) u ds w e d i =
      subst (In d) (wave_waits (nat_le (suc j) 100) (wave job around n (suc j)) u ds w e) (in_distinct_refs u d i)

  next_value : (n j : ℕ) → wave job around n (suc j) ≡ wave_on job around n (turn_of job around n (wave job around n j))
  unfolding wave
  next_value n j = refl

  wave_next : (n j : ℕ) (u : Val) → wave job around n j ≡ Some u → Each (waves.Seen job around plain D) (map (see job around n) (refs u))
      → waves.WaveTold job around plain D (wave job around n (suc j))
  wave_next n j u e h = subst (waves.WaveTold job around plain D) (sym (next_value n j))
      (waves.next_wave job around plain D n (wave job around n j) (λ a q. told a (sym (some_is u a (sym e ∙ q)))))
    where
      of_map : (ds : List Desc) → Each (waves.Seen job around plain D) (map (see job around n) ds)
          → Each (λ d. waves.Seen job around plain D (see job around n d)) ds
      of_map [] h = tt
      of_map (d ∷ ds) h = (h.0, of_map ds h.1)

      told : (a : Val) → a ≡ u → Each (λ d. waves.Seen job around plain D (see job around n d)) (refs a)
      told a q = subst (λ x. Each (λ d. waves.Seen job around plain D (see job around n d)) (refs x)) (sym q) (of_map (refs u) h)

  map_seen : (n : ℕ) (ds : List Desc) → ((d : Desc) → In d ds → Each D (seen_refs (see job around n d)))
      → Each (waves.Seen job around plain D) (map (see job around n) ds)
  map_seen n [] h = tt
  map_seen n (d ∷ ds) h = (seen_ok (see job around n d) (h d (inl refl)), map_seen n ds (λ e i. h e (inr i)))

  no_first : (n : ℕ) → wave job around n 0 ≡ None → ⊥
  unfolding wave
  no_first n z = none_some (ref main_call) (sym z)

  show_next : (n j : ℕ) → waves.WaveTold job around plain D (wave job around n j) → Next n Task.show j
  show_next n j told =
      record {
        holds = λ a e. state (wave job around n j) told a e;
        waits = λ ds e. refs_at j (wave job around n j) refl told ds e;
      }
    where
      state : (o : Option Val) → waves.WaveTold job around plain D o → (a : State) → wave_state j o ≡ Some a → Each D (held a)
      state None t a e = absurd (none_some a e)
      state (Some u) t a e =
          subst (λ x. Each D (held x)) (some_is (State.show_at u j) a e)
          (each_in D (distinct_refs u) (λ d i. in_each D (refs u) d (refs_each D u t) (distinct_refs_in u d i)))

      at_zero : (o : Option Val) → wave job around n 0 ≡ o → waves.WaveTold job around plain D o → Each D (main_call ∷ [])
      at_zero None q t = absurd (no_first n q)
      at_zero (Some u) q t = subst (λ x. Each D (refs x)) (sym (first_value n u q)) (refs_each D u t)

      refs_at : (j : ℕ) (o : Option Val) → wave job around n j ≡ o → waves.WaveTold job around plain D o → (ds : List Desc)
          → wait_at job around n Task.show j ≡ Some ds → Each D ds
      refs_at zero o q t ds e = subst (Each D) (some_is (main_call ∷ []) ds e) (at_zero o q t)
      refs_at (suc j) None q t ds e = absurd (none_refs (nat_le (suc j) 100) (wave job around n (suc j)) q e)
        where
          none_refs : (b : Bool) (o : Option Val) → o ≡ None → only_if b (wave_refs o) ≡ Some ds → ⊥
          none_refs false o q e = none_some ds e
          none_refs true o q e = none_some ds (sym (ap wave_refs q) ∙ e)
      refs_at (suc j) (Some u) q t ds e =
          subst (Each D) (wave_waits (nat_le (suc j) 100) (wave job around n (suc j)) u ds q e)
          (each_in D (distinct_refs u) (λ d i. in_each D (refs u) d (refs_each D u t) (distinct_refs_in u d i)))

  pub middle : (n : ℕ) (u : Task) (j : ℕ) (a : State) (ds : List Desc) (os : List Obj) → Known n u j a ds os → Next n u (suc j)
  middle n Task.show j a ds os k =
      let v = value_of j (wave job around n j) a k.stands in
      show_next n (suc j) (wave_next n j v.0 v.1 (map_seen n (refs v.0) (λ d i. k.reads d (waits_all n j v.0 ds v.1 k.waits d i))))
  middle n (Task.of (call f c vs)) zero a ds os k =
      call_next n f c vs zero (λ h is. from_start n f c vs a k.stands k.holds (subst (Each D) (made_is n f c vs zero) k.makes) h is)
  middle n (Task.of (call f c vs)) (suc i) a ds os k =
      call_at n f c vs i a ds os (halt (see job around n) i (run_of job around f c vs)) refl k.stands k.waits k.holds k.waited k.seen
      (sees_all n ds k.reads) (subst (Each D) (made_is n f c vs (suc i)) k.makes)
  middle n (Task.of (out x v m i)) j a ds os k = absurd (none_some a k.stands)
  middle n (Task.of (input y)) j a ds os k = absurd (none_some a k.stands)
  middle n (Task.of (known b)) j a ds os k = absurd b
