-- What holds of the literals, the names and the data that a job begins with, and is kept by each operator, holds of all that
-- the job makes, waits for, holds and answers with.
use Rattle.std.proofs.Common.{◌≡◌, ℕ, zero, suc, ◌≤◌, List, [], ◌∷◌, Bool, true, false, Option, Some, None, Result, Ok, Err, nat_lt, nat_le, refl}
use Rattle.std.proofs.Common.{subst, ltb-false, ◌⊎◌}
use Rattle.std.specs.Str.{is_utf8}
use Rattle.sky_base.specs.Val.{null, truth, num, text, list, dict, fun, ref, no_pairs, call, out, input, known, refs, size, depth}
use Rattle.sky_base.specs.Op.{Answer}
use Rattle.sky_base.specs.Tree.{Lit, nowhere}
use Rattle.sky_base.specs.Res.{others, Object, End}
use Rattle.sky_base.specs.Eval.{Body, World, body_of}
use Rattle.sky_base.specs.Kept.{Kept}
use Rattle.sky_base.specs.Read.{Outcome, no_fuel, Act, made, waited, Halt, outcome, acts, halt}
use Rattle.sky_base.specs.See.{Val, Vals, Pairs, Desc, Obj, Job, Around, Gathered, gather_on, gather_one, gather, as_value, read_or_text, text_if}
use Rattle.sky_base.specs.See.{val_of, replaced, run_output, output_at, executed_on, object_of, world_of, start_st, run_of, see, Turn, next_if}
use Rattle.sky_base.specs.See.{next_within, next_value, lone, turn_all, turn_refs, turn, wave_on, turn_of, wave, main_call}
use Rattle.sky_base.specs.Needed.{Task, task_of, distinct_refs, unless_none, wave_refs, only_if, halt_refs, wait_at, WaitOf, State, start_frame}
use Rattle.sky_base.specs.Needed.{halt_state, wave_state, stands_at, StandsAt, Needed, root}
use Rattle.sky_base.specs.declared.fault.Fault.{Fault}
use Rattle.sky_base_law.specs.Tasks.{In, Each, wait_then, waves_from, acts_of, made_in}
use Rattle.sky_base_law.specs.Sound.{IsFun}
use Rattle.sky_base_law.specs.Written.{Written}
use Rattle.sky_base_law.proofs.FineLaw.{Closed, AnswerOk, ValsOk, ObjectOk, Fine, bind_ok, fine_call}
use Rattle.sky_base_law.proofs.FineReads.{SeenOk, ActOk, OutcomeOk, HaltOk, FrameOk, outcome_fine, halt_fine, acts_fine, frames_ok}
use Rattle.sky_base_law.proofs.TaskOutputs.{in_contains, each_in, in_each, distinct_refs_in}
use Rattle.sky_base_law.proofs.WrittenLaw.{BodyWritten, any_made, body_written}
use Rattle.sky_base_law.proofs.Lists.{some_is, none_some}

-- P is of values, U what P asks beside the limits, Q of descriptions, V of variables, L of literals and K of names
module _ (job : Job) (around : Around) (P U : Val → Type 0) (Q : Desc → Type 0) (V : Pairs → Type 0) (L : Lit → Type 0) (K : List ℕ → Type 0) where
  abbrev w : World ⊥
  w = world_of job.script around

  pub record JobClosed : Type 0 where
    pub closed : Closed w P Q V any_made L K
    pub written : Written L K job.script
    pub start_ok : V no_pairs
    pub main_ok : P (ref main_call)
    pub to_ok : (d : Desc) → P (ref d) → Q d
    pub weaker : (a : Val) → P a → U a
    pub stronger : (a : Val) → U a → Kept a → P a
    pub utf8_ok : (b : List ℕ) → is_utf8 b ≡ true → U (text b)
    pub replaced_ok : (f : ℕ → Desc → Val) → ((k : ℕ) (d : Desc) → U (f k d)) → (i : ℕ) (a : Val) → U a → U (replaced f i a)
    pub refs_ok : (a : Val) → U a → Each Q (refs a)
    pub call_ok : (f : List ℕ) (c : Pairs) (vs : Vals) → Q (call f c vs) → V c × ValsOk w P Q vs
    pub named_ok : (f : List ℕ) (c : Pairs) (vs : Vals) → Q (call f c vs) → (f ≡ []) ⊎ IsFun job.script f
    pub arguments_ok : (x : List ℕ) (a : Val) (m i : ℕ) → Q (out x a m i) → U a
    pub first_ok : (x : List ℕ) (a : Val) (m i : ℕ) → Q (out x a m i) → Q (out x a m 0)

  module _ (c : JobClosed) where
    abbrev Good : Option Obj → Type 0
    Good o = SeenOk w P Q o

    -- ---- what is seen

    run_fine : (f : List ℕ) (ca : Pairs) (vs : Vals) → Q (call f ca vs) → Fine w P Q V any_made others (run_of job around f ca vs)
    run_fine f ca vs h =
        fine_call w P Q V any_made L K c.closed c.written others f ca vs nowhere start_st c.start_ok (c.call_ok f ca vs h).0 (c.call_ok f ca vs h).1

    object_ok : (o : Outcome ⊥) → OutcomeOk w P Q V o → Good (object_of o)
    object_ok (Outcome.ended End.goes st) h = c.closed.null_ok
    object_ok (Outcome.ended (End.got u) st) h = h.0
    object_ok (Outcome.ended (End.returned u) st) h = h.0
    object_ok (Outcome.ended (End.failed f) st) h = tt
    object_ok no_fuel h = tt

    output_ok : (bs : List (List ℕ)) (i : ℕ) → ObjectOk w P Q (output_at bs i)
    output_ok [] i = tt
    output_ok (b ∷ bs) zero = tt
    output_ok (b ∷ bs) (suc i) = output_ok bs i

    run_output_ok : (r : _) (i : ℕ) → ObjectOk w P Q (run_output r i)
    run_output_ok (Ok bs) i = output_ok bs i
    run_output_ok (Err k) i = tt

    executed_ok : (x : List ℕ) (a : Val) (m i : ℕ) (g : Gathered (List ℕ)) → Good (executed_on around x a m i g)
    executed_ok x a m i Gathered.not_yet = tt
    executed_ok x a m i (Gathered.faulty f) = tt
    executed_ok x a m i (Gathered.all bs) = run_output_ok _ i

    -- what is seen of a description of which Q holds
    pub see_ok : (n : ℕ) (d : Desc) → Q d → Good (see job around n d)
    unfolding see
    see_ok zero d h = tt
    see_ok (suc n) (call f ca vs) h =
        object_ok (outcome (λ d. see job around n d) (run_of job around f ca vs))
        (outcome_fine w P Q V c.to_ok (λ d. see job around n d) (λ d i. see_ok n d i) (run_of job around f ca vs) others
        (run_fine f ca vs h))
    see_ok (suc n) (out x a m i) h = executed_ok x a m i _
    see_ok (suc n) (input k) h = tt
    see_ok (suc n) (known b) h = absurd b

    -- each description that a call makes or waits for
    acts_ok : (n : ℕ) (f : List ℕ) (ca : Pairs) (vs : Vals) → Q (call f ca vs)
        → Each (ActOk w P Q) (acts (see job around n) (run_of job around f ca vs))
    acts_ok n f ca vs h =
        acts_fine w P Q V c.to_ok (see job around n) (see_ok n) (run_of job around f ca vs) others (run_fine f ca vs h)

    halt_ok : (n j : ℕ) (f : List ℕ) (ca : Pairs) (vs : Vals) → Q (call f ca vs)
        → HaltOk w P Q V others (halt (see job around n) j (run_of job around f ca vs))
    halt_ok n j f ca vs h =
        halt_fine w P Q V c.to_ok (see job around n) (see_ok n) j (run_of job around f ca vs) others (run_fine f ca vs h)

    -- ---- the result

    abbrev ResultOk : Result Val Fault → Type 0
    ResultOk (Ok u) = U u
    ResultOk (Err f) = Unit {0}

    abbrev GatheredOk : Gathered Val → Type 0
    GatheredOk Gathered.not_yet = Unit {0}
    GatheredOk (Gathered.faulty f) = Unit {0}
    GatheredOk (Gathered.all us) = Each U us

    abbrev pub WaveOk : Option Val → Type 0
    WaveOk None = Unit {0}
    WaveOk (Some u) = P u

    abbrev TurnOk : Turn → Type 0
    TurnOk (Turn.ends a) = Unit {0}
    TurnOk (Turn.next u) = P u

    val_of_ok : (us : List Val) (k : ℕ) → Each U us → U (val_of us k)
    val_of_ok [] k h = c.weaker null c.closed.null_ok
    val_of_ok (u ∷ us) zero h = h.0
    val_of_ok (u ∷ us) (suc k) h = val_of_ok us k h.1

    on_ok : (r : Result Val Fault) (g : Gathered Val) → ResultOk r → GatheredOk g → GatheredOk (gather_on r g)
    on_ok r Gathered.not_yet h i = tt
    on_ok (Ok u) (Gathered.faulty f) h i = tt
    on_ok (Ok u) (Gathered.all us) h i = (h, i)
    on_ok (Err e) (Gathered.faulty f) h i = tt
    on_ok (Err e) (Gathered.all us) h i = tt

    within_ok : (u : Val) → U u → TurnOk (next_within u)
    within_ok u r = go (nat_lt 100 (depth u)) (nat_lt 262144 (size u)) refl refl
      where
        go : (a b : Bool) → nat_lt 100 (depth u) ≡ a → nat_lt 262144 (size u) ≡ b → TurnOk (next_if a b u)
        go true b e f = tt
        go false true e f = tt
        go false false e f =
            let d : depth u ≤ 100 = ltb-false 100 (depth u) e in
            let s : size u ≤ 262144 = ltb-false 262144 (size u) f in
            c.stronger u r (record { deep = d; large = s })

    next_ok : (g : Gathered Val) (a : Val) → U a → GatheredOk g → TurnOk (next_value g a)
    next_ok Gathered.not_yet a r h = tt
    next_ok (Gathered.faulty f) a r h = tt
    next_ok (Gathered.all us) a r h =
        within_ok (replaced (λ k d. val_of us k) 0 a) (c.replaced_ok (λ k d. val_of us k) (λ k d. val_of_ok us k h) 0 a r)

    lone_ok : (o : Option Obj) (t : Turn) → TurnOk t → TurnOk (lone o t)
    lone_ok None t h = h
    lone_ok (Some (Object.bytes b)) t h = tt
    lone_ok (Some (Object.data_of u)) t h = h
    lone_ok (Some (Object.fault f)) t h = h

    value_ok : (o : Obj) → ObjectOk w P Q o → ResultOk (as_value around o)
    value_ok (Object.bytes b) h = go (around.reads b) (c.closed.reads_ok b)
      where
        plain : (x : Bool) → is_utf8 b ≡ x → ResultOk (text_if x b)
        plain true e = c.utf8_ok b e
        plain false e = tt

        go : (a : Answer ⊥) → AnswerOk w P Q a → ResultOk (read_or_text a b)
        go (Ok u) i = c.weaker u i
        go (Err k) i = plain (is_utf8 b) refl
    value_ok (Object.data_of u) h = c.weaker u h
    value_ok (Object.fault f) h = tt

    one_ok : (o : Option Obj) (g : Gathered Val) → Good o → GatheredOk g → GatheredOk (gather_one o (as_value around) g)
    one_ok None g h i = tt
    one_ok (Some o) g h i = on_ok (as_value around o) g (value_ok o h) i

    gather_ok : (n : ℕ) (ds : List Desc) → Each Q ds → GatheredOk (gather (see job around n) (as_value around) ds)
    gather_ok n [] h = tt
    gather_ok n (d ∷ ds) h = one_ok (see job around n d) (gather (see job around n) (as_value around) ds) (see_ok n d h.0) (gather_ok n ds h.1)

    all_ok : (n : ℕ) (a : Val) → U a → TurnOk (turn_all job around n a)
    all_ok n a h = next_ok (gather (see job around n) (as_value around) (refs a)) a h (gather_ok n (refs a) (c.refs_ok a h))

    turn_refs_ok : (n : ℕ) (ds : List Desc) (a : Val) → U a → TurnOk (turn_refs job around n ds a)
    turn_refs_ok n [] a h = tt
    turn_refs_ok n (d ∷ ds) (ref e) h = lone_ok (see job around n e) (turn_all job around n (ref e)) (all_ok n (ref e) h)
    turn_refs_ok n (d ∷ ds) null h = all_ok n null h
    turn_refs_ok n (d ∷ ds) (truth b) h = all_ok n (truth b) h
    turn_refs_ok n (d ∷ ds) (num z) h = all_ok n (num z) h
    turn_refs_ok n (d ∷ ds) (text t) h = all_ok n (text t) h
    turn_refs_ok n (d ∷ ds) (list vs) h = all_ok n (list vs) h
    turn_refs_ok n (d ∷ ds) (dict ps) h = all_ok n (dict ps) h
    turn_refs_ok n (d ∷ ds) (fun f ca) h = all_ok n (fun f ca) h

    next_wave : (n : ℕ) (o : Option Val) → WaveOk o → WaveOk (wave_on job around n (turn_of job around n o))
    next_wave n None h = tt
    next_wave n (Some a) h = go (turn job around n a) (turn_refs_ok n (refs a) a (c.weaker a h))
      where
        go : (t : Turn) → TurnOk t → WaveOk (wave_on job around n (Some t))
        go (Turn.ends x) i = tt
        go (Turn.next u) i = i

    wave_good : (n j : ℕ) → WaveOk (wave job around n j)
    unfolding wave
    wave_good n zero = c.main_ok
    wave_good n (suc j) = next_wave n (wave job around n j) (wave_good n j)

    -- the value of the result at each wave
    pub wave_ok : (n j : ℕ) (u : Val) → wave job around n j ≡ Some u → P u
    wave_ok n j u e = subst WaveOk e (wave_good n j)

    -- ---- tasks

    abbrev pub TaskOk : Task → Type 0
    TaskOk Task.show = Unit {0}
    TaskOk (Task.of d) = Q d

    abbrev RefsList : Option (List Desc) → Type 0
    RefsList None = Unit {0}
    RefsList (Some ds) = Each Q ds

    distinct_ok : (a : Val) → U a → Each Q (distinct_refs a)
    distinct_ok a h =
        each_in Q (distinct_refs a) (λ d i. in_each Q (refs a) d (c.refs_ok a h) (distinct_refs_in a d i))

    unless_ok : (ds : List Desc) → Each Q ds → RefsList (unless_none ds)
    unless_ok [] h = tt
    unless_ok (d ∷ ds) h = h

    wave_refs_ok : (o : Option Val) → WaveOk o → RefsList (wave_refs o)
    wave_refs_ok None h = tt
    wave_refs_ok (Some a) h = unless_ok (distinct_refs a) (distinct_ok a (c.weaker a h))

    only_ok : (b : Bool) (o : Option (List Desc)) → RefsList o → RefsList (only_if b o)
    only_ok true o h = h
    only_ok false o h = tt

    halt_refs_ok : (o : Option (Halt ⊥)) → HaltOk w P Q V others o → RefsList (halt_refs o)
    halt_refs_ok None h = tt
    halt_refs_ok (Some x) h = h.0

    main_made : Q main_call
    main_made = c.to_ok main_call c.main_ok

    waits_for : (n : ℕ) (t : Task) (j : ℕ) → TaskOk t → RefsList (wait_at job around n t j)
    waits_for n Task.show zero h = (main_made, tt)
    waits_for n Task.show (suc j) h = only_ok (nat_le (suc j) 100) (wave_refs (wave job around n (suc j)))
        (wave_refs_ok (wave job around n (suc j)) (wave_good n (suc j)))
    waits_for n (Task.of (call f ca vs)) zero h = tt
    waits_for n (Task.of (call f ca vs)) (suc j) h = halt_refs_ok (halt (see job around n) j (run_of job around f ca vs)) (halt_ok n j f ca vs h)
    waits_for n (Task.of (out x a m i)) zero h = distinct_ok a (c.arguments_ok x a m i h)
    waits_for n (Task.of (out x a m i)) (suc j) h = tt
    waits_for n (Task.of (input k)) j h = tt
    waits_for n (Task.of (known b)) j h = absurd b

    -- all that a task waits for
    pub wait_ok : (t : Task) (j : ℕ) (ds : List Desc) → TaskOk t → WaitOf job around t j ds → Each Q ds
    wait_ok t j ds h (n, e) = subst RefsList e (waits_for n t j h)

    task_ok : (d : Desc) (t : Task) → Q d → task_of d ≡ Some t → TaskOk t
    task_ok (call f ca vs) t h e = subst TaskOk (some_is _ t e) h
    task_ok (out x a m i) t h e = subst TaskOk (some_is _ t e) (c.first_ok x a m i h)
    task_ok (input k) t h e = absurd (none_some t e)
    task_ok (known b) t h e = absurd b

    -- every task that is needed
    pub needed_ok : (t : Task) → Needed job around t → TaskOk t
    needed_ok Task.show root = tt
    needed_ok t (Needed.waited {t = u} need j ds d wait among is) =
        task_ok d t (in_each Q ds d (wait_ok u j ds (needed_ok u need) wait) (in_contains d ds among)) is

    -- ---- what is made

    then_none : (d : Desc) (o : Option (List Desc)) (rest : List (Act ⊥)) → (In d (made_in rest) → ⊥) → In d (made_in (wait_then o rest)) → ⊥
    then_none d None rest h i = i
    then_none d (Some ds) rest h i = h i

    -- the root task makes nothing
    waves_none : (d : Desc) (n k j : ℕ) → In d (made_in (waves_from job around n k j)) → ⊥
    unfolding waves_from
    waves_none d n zero j h = h
    waves_none d n (suc k) j h =
        then_none d (wave_refs (wave job around n j)) (waves_from job around n k (suc j)) (waves_none d n k (suc j)) h

    made_each : (done : List (Act ⊥)) → Each (ActOk w P Q) done → Each Q (made_in done)
    made_each [] h = tt
    made_each (made x ∷ done) h = (h.0, made_each done h.1)
    made_each (waited ds ∷ done) h = made_each done h.1

    -- each description that a task makes
    pub made_ok : (n : ℕ) (t : Task) (d : Desc) → TaskOk t → In d (made_in (acts_of job around n t)) → Q d
    made_ok n Task.show d h i = absurd (waves_none d n 100 1 i)
    made_ok n (Task.of (call f ca vs)) d h i =
        in_each Q (made_in (acts (see job around n) (run_of job around f ca vs))) d
        (made_each (acts (see job around n) (run_of job around f ca vs)) (acts_ok n f ca vs h)) i
    made_ok n (Task.of (out x a m k)) d h i = absurd i
    made_ok n (Task.of (input k)) d h i = absurd i
    made_ok n (Task.of (known b)) d h i = absurd b

    -- ---- states

    abbrev pub StateOk : State → Type 0
    StateOk (State.run r) = Each (FrameOk w P Q V) r.frames
    StateOk (State.show_at u j) = P u

    abbrev StandsOk : Option State → Type 0
    StandsOk None = Unit {0}
    StandsOk (Some s) = StateOk s

    start_frame_ok : (f : List ℕ) (ca : Pairs) (vs : Vals) (o : Option Body) → BodyWritten L K o → Q (call f ca vs) → StandsOk (start_frame f ca vs o)
    start_frame_ok f ca vs None b h = tt
    start_frame_ok f ca vs (Some x) b h =
        ((bind_ok w P Q V any_made L K c.closed x.params vs ca b.0 (c.call_ok f ca vs h).1 (c.call_ok f ca vs h).0, tt, c.named_ok f ca vs h), tt)

    halt_state_ok : (f : List ℕ) (j : ℕ) (o : Option (Halt ⊥)) → (f ≡ []) ⊎ IsFun job.script f → HaltOk w P Q V others o → StandsOk (halt_state f j o)
    halt_state_ok f j None z h = tt
    halt_state_ok f j (Some x) z h = frames_ok w P Q V x.forms others f x.st.vars h.1 z h.2

    wave_state_ok : (j : ℕ) (o : Option Val) → WaveOk o → StandsOk (wave_state j o)
    wave_state_ok j None h = tt
    wave_state_ok j (Some u) h = h

    stands_so : (n : ℕ) (t : Task) (j : ℕ) → TaskOk t → StandsOk (stands_at job around n t j)
    stands_so n Task.show j h = wave_state_ok j (wave job around n j) (wave_good n j)
    stands_so n (Task.of (call f ca vs)) zero h = start_frame_ok f ca vs (body_of f job.script) (body_written L K job.script c.written f) h
    stands_so n (Task.of (call f ca vs)) (suc j) h =
        halt_state_ok f (suc j) (halt (see job around n) j (run_of job around f ca vs)) (c.named_ok f ca vs h) (halt_ok n j f ca vs h)
    stands_so n (Task.of (out x a m i)) j h = tt
    stands_so n (Task.of (input k)) j h = tt
    stands_so n (Task.of (known b)) j h = absurd b

    -- each value in the state of a task at a wait
    pub stands_ok : (t : Task) (j : ℕ) (s : State) → TaskOk t → StandsAt job around t j s → StateOk s
    stands_ok t j s h (n, e) = subst StandsOk e (stands_so n t j h)
