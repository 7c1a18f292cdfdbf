-- A task all of whose waits are seen ends; so from a wait on it comes to its end or to a first wait for something else.
use Rattle.std.proofs.Common.{◌≡◌, ◌≢◌, ℕ, zero, suc, ◌+◌, ◌≤◌, ◌<◌, List, [], ◌∷◌, Bool, true, false, Option, Some, None, is_some, slice_get, length}
use Rattle.std.proofs.Common.{◌⊎◌, inl, inr, refl, ap, sym, ◌∙◌, subst, arith}
use Rattle.sky_base.specs.Val.{call, out, input, known, refs, no_pairs, no_vals, ref}
use Rattle.sky_base.specs.Res.{Object, End}
use Rattle.sky_base.specs.Read.{Outcome, no_fuel, outcome}
use Rattle.sky_base.specs.See.{Val, Vals, Pairs, Desc, Job, Around, Answered, Gathered, not_yet, faulty, all, as_bytes, gather, executed_on}
use Rattle.sky_base.specs.See.{object_of, run_of, see, wave, round, job_answer, main_call}
use Rattle.sky_base.specs.Needed.{Task, wait_at, WaitOf, distinct_refs}
use Rattle.sky_base_law.specs.Tasks.{In, Each, acts_of, ended, is_answer, waits_in, NextEnd, NextWait, Passes}
use Rattle.sky_base_law.proofs.Lists.{some_is, none_some, above_or}
use Rattle.sky_base_law.proofs.NeededEnds.{wait_ended}
use Rattle.sky_base_law.proofs.SeenLaw.{wait_one}
use Rattle.sky_base_law.proofs.TaskFuel.{waits_at, wave_zero}
use Rattle.sky_base_law.proofs.TaskOutputs.{in_each, each_in, in_distinct_refs}
use Rattle.sky_base_law.specs.EndsLaws.{AllSeen, ComesToEnd, Next, Picked, PicksSeen, SeenUpTo, WaitsSeen}
use Rattle.sky_base_law.proofs.GatheredObjects.{gathered}
use Rattle.sky_base_law.proofs.RunEnds.{run_ends}
use Rattle.sky_base_law.proofs.WaveEnds.{answers}

same_or : (k i : ℕ) → k < suc i → (k < i) ⊎ (k ≡ i)
same_or k i lt = go (above_or i k)
  where
    go : (i ≤ k) ⊎ (k < i) → (k < i) ⊎ (k ≡ i)
    go (inl h) = inr (omega (arith, lt, h))
    go (inr h) = inl h

-- a place of a list has an item, and one behind it has none
lacks : {A : Type 0} (xs : List A) (k : ℕ) → k < length xs → slice_get xs k ≡ None → ⊥
lacks [] k lt e = absurd (omega (arith, lt))
lacks (x ∷ xs) zero lt e = cc
lacks (x ∷ xs) (suc k) lt e = lacks xs k (omega (arith, lt)) e

short : {A : Type 0} (xs : List A) (i : ℕ) → slice_get xs i ≡ None → length xs ≤ i
short [] i e = omega arith
short (x ∷ xs) zero e = absurd cc
short (x ∷ xs) (suc i) e = let h : length xs ≤ i = short xs i e in omega (arith, h)

below : {A : Type 0} (xs : List A) (k : ℕ) (x : A) → slice_get xs k ≡ Some x → k < length xs
below [] k y e = absurd (none_some y e)
below (x ∷ xs) zero y e = omega arith
below (x ∷ xs) (suc k) y e = let h : k < length xs = below xs k y e in omega (arith, h)

-- ---- what is there is an object, or an answer

object_there : (o : Outcome ⊥) → o ≢ no_fuel → is_some (object_of o) ≡ true
object_there (Outcome.ended End.goes st) h = refl
object_there (Outcome.ended (End.got u) st) h = refl
object_there (Outcome.ended (End.returned u) st) h = refl
object_there (Outcome.ended (End.failed f) st) h = refl
object_there no_fuel h = absurd (h refl)

executed_there : (around : Around) (x : List ℕ) (a : Val) (m i : ℕ) (g : Gathered (List ℕ)) → g ≢ not_yet
    → is_some (executed_on around x a m i g) ≡ true
executed_there around x a m i not_yet h = absurd (h refl)
executed_there around x a m i (faulty f) h = refl
executed_there around x a m i (all bs) h = refl

answer_there : (a : Answered) → a ≢ Answered.not_yet → is_answer a ≡ true
answer_there Answered.not_yet h = absurd (h refl)
answer_there (Answered.bytes b) h = refl
answer_there (Answered.fault f) h = refl

module _ (job : Job) (around : Around) (n : ℕ) where
  abbrev Seen : Desc → Type 0
  Seen d = see job around n d ≢ None

  abbrev waits : Task → List (List Desc)
  waits t = waits_in (acts_of job around n t)

  -- ---- each kind of task ends

  call_ends : (f : List ℕ) (c : Pairs) (vs : Vals) → outcome (see job around n) (run_of job around f c vs) ≢ no_fuel
      → is_some (see job around (suc n) (call f c vs)) ≡ true
  unfolding see
  call_ends f c vs h = object_there _ h

  out_ends : (x : List ℕ) (a : Val) (m i : ℕ) → gather (see job around n) (as_bytes around) (refs a) ≢ not_yet
      → is_some (see job around (suc n) (out x a m i)) ≡ true
  unfolding see
  out_ends x a m i h = executed_there around x a m i _ h

  input_ends : (k : List ℕ) → is_some (see job around (suc n) (input k)) ≡ true
  unfolding see
  input_ends k = refl

  shown : round job around n 101 (ref main_call) ≢ Answered.not_yet → is_answer (job_answer job around n) ≡ true
  unfolding job_answer
  shown h = answer_there _ h

  pub task_ends : (t : Task) → WaitsSeen job around n t → ended job around n t ≡ true
  task_ends Task.show h =
      shown (answers job around n 100 0 (ref main_call) (wave_zero job around n) (h 0 (main_call ∷ []) refl)
      (λ i ds e. h (suc i) ds (sym (waits_at job around n Task.show i) ∙ e)))
  task_ends (Task.of (call f c vs)) h =
      call_ends f c vs (run_ends (see job around n) (run_of job around f c vs)
      (λ i ds e. h (suc i) ds (sym (waits_at job around n (Task.of (call f c vs)) i) ∙ e)))
  task_ends (Task.of (out x a m i)) h =
      out_ends x a m i (gathered (as_bytes around) (see job around n) (refs a)
      (each_in Seen (refs a) (λ d k. in_each Seen (distinct_refs a) d (h 0 (distinct_refs a) refl) (in_distinct_refs a d k))))
  task_ends (Task.of (input k)) h = input_ends k
  task_ends (Task.of (known b)) h = absurd b

  -- ---- the first wait for something else

  module _ (t : Task) (j : ℕ) (picks : Desc → Bool) (seen : PicksSeen job around n picks) (before : SeenUpTo job around n t j) where
    abbrev S : Desc → Type 0
    S d = Picked picks d

    -- the waits after j and before the place i are for what is picked
    abbrev Passed : ℕ → Type 0
    Passed i = (k : ℕ) (es : List Desc) → j ≤ k → k < i → slice_get (waits t) k ≡ Some es → Each S es

    abbrev Other : List Desc → Type 0
    Other es = (d : Desc) × In d es × (S d → ⊥)

    one_or : (d : Desc) (es : List Desc) (b : Bool) → picks d ≡ b → Each S es ⊎ Other es → Each S (d ∷ es) ⊎ Other (d ∷ es)
    one_or d es true e (inl a) = inl (e, a)
    one_or d es true e (inr o) = inr (o.0, inr o.1, o.2)
    one_or d es false e rest = inr (d, inl refl, λ p. no (sym e ∙ p))
      where
        no : false ≡ true → ⊥
        no q = cc

    each_or : (es : List Desc) → Each S es ⊎ Other es
    each_or [] = inl tt
    each_or (d ∷ es) = one_or d es (picks d) refl (each_or es)

    wait_of : (k : ℕ) (es : List Desc) → slice_get (waits t) k ≡ Some es → WaitOf job around t (suc k) es
    wait_of k es e = (n, sym (waits_at job around n t k) ∙ e)

    -- passed by number of the wait
    passed_at : (i k : ℕ) (es : List Desc) (o : Option (List Desc)) → slice_get (waits t) k ≡ o → Passed i → j ≤ k → k < i → k < length (waits t)
        → WaitOf job around t (suc k) es → Each S es
    passed_at i k es None e h a b lt w = absurd (lacks (waits t) k lt e)
    passed_at i k es (Some fs) e h a b lt w =
        subst (Each S) (wait_one job around t (suc k) fs es (wait_of k fs e) w) (h k fs a b e)

    passes : (i : ℕ) → Passed i → i < length (waits t) → Passes job around S t j (suc i)
    passes i h lt zero es a b w = absurd (omega (arith, a))
    passes i h lt (suc k) es a b w =
        passed_at i k es (slice_get (waits t) k) refl h (omega (arith, a)) (omega (arith, b)) (omega (arith, b, lt)) w

    found : (i : ℕ) (es : List Desc) → j ≤ i → Passed i → slice_get (waits t) i ≡ Some es → Other es → NextWait job around S t j (suc i)
    found i es le h e o =
        record {
          above = omega (arith, le);
          passes = passes i h (below (waits t) i es e);
          waits = es;
          waited = wait_of i es e;
          missing = o.0;
          is_waited = o.1;
          is_missing = o.2;
        }

    later_seen : (i : ℕ) → length (waits t) ≤ i → Passed i → (k : ℕ) (es : List Desc) → j < k → wait_at job around n t k ≡ Some es
        → AllSeen job around n es
    later_seen i le h zero es lt q = absurd (omega (arith, lt))
    later_seen i le h (suc k) es lt q =
        let at : slice_get (waits t) k ≡ Some es = waits_at job around n t k ∙ q in
        let under : k < length (waits t) = below (waits t) k es at in
        each_in Seen es (λ d is. seen d (in_each S es d (h k es (omega (arith, lt)) (omega (arith, under, le)) at) is))

    all_seen : (i : ℕ) → length (waits t) ≤ i → Passed i → WaitsSeen job around n t
    all_seen i le h k es e = go (above_or k j)
      where
        go : (k ≤ j) ⊎ (j < k) → AllSeen job around n es
        go (inl a) = before k es a e
        go (inr b) = later_seen i le h k es b e

    later_passed : (i : ℕ) → length (waits t) ≤ i → Passed i → ended job around n t ≡ true → (k : ℕ) (es : List Desc) → j < k
        → WaitOf job around t k es → Each S es
    later_passed i le h is zero es lt w = absurd (omega (arith, lt))
    later_passed i le h is (suc k) es lt w =
        let at : slice_get (waits t) k ≡ Some es = wait_ended job around n w.0 t k es is w.1 in
        let under : k < length (waits t) = below (waits t) k es at in
        h k es (omega (arith, lt)) (omega (arith, under, le)) at

    ends_here : (i : ℕ) → length (waits t) ≤ i → Passed i → ComesToEnd job around picks t j
    ends_here i le h =
        let is_ended : ended job around n t ≡ true = task_ends t (all_seen i le h) in
        record { ends = (n, is_ended); passes = λ l k es a b w. later_passed i le h is_ended k es a w }

    next_passed : (i : ℕ) (es : List Desc) → slice_get (waits t) i ≡ Some es → Each S es → Passed i → Passed (suc i)
    next_passed i es e s h k fs a b q = go (same_or k i b)
      where
        go : (k < i) ⊎ (k ≡ i) → Each S fs
        go (inl lt) = h k fs a lt q
        go (inr is) = subst (Each S) (some_is es fs (sym e ∙ sym (ap (slice_get (waits t)) is) ∙ q)) s

    -- at a wait: on, or here
    at_wait : (i : ℕ) (es : List Desc) → j ≤ i → Passed i → slice_get (waits t) i ≡ Some es → Each S es ⊎ Other es
        → (Passed (suc i) → Next job around picks t j) → Next job around picks t j
    at_wait i es from h e (inl s) rest = rest (next_passed i es e s h)
    at_wait i es from h e (inr o) rest = inr (suc i, found i es from h e o)

    at_place : (i : ℕ) (o : Option (List Desc)) → slice_get (waits t) i ≡ o → j ≤ i → Passed i → (Passed (suc i) → Next job around picks t j)
        → Next job around picks t j
    at_place i None e from h rest = inl (ends_here i (short (waits t) i e) h)
    at_place i (Some es) e from h rest = at_wait i es from h e (each_or es) rest

    scan : (m i : ℕ) → length (waits t) ≤ i + m → j ≤ i → Passed i → Next job around picks t j
    scan zero i le from h = inl (ends_here i (omega (arith, le)) h)
    scan (suc m) i le from h =
        at_place i (slice_get (waits t) i) refl from h (λ next. scan m (suc i) (omega (arith, le)) (omega (arith, from)) next)

    pub next_there : Next job around picks t j
    next_there = scan (length (waits t)) j (omega arith) (omega arith) (λ k es a b e. absurd (omega (arith, a, b)))
