-- More fuel keeps the ends and the states of tasks and lengthens what they did; where a task has ended, all that it waited for is seen.
use Rattle.sky_base.specs.Val as v
use Rattle.std.proofs.Common.{◌≡◌, ◌≢◌, ℕ, zero, suc, ◌+◌, ◌<◌, ◌≤◌, List, [], ◌∷◌, ◌++◌, Option, Some, None, Result, Ok, Err, is_some, slice_get}
use Rattle.std.proofs.Common.{Bool, true, false, nat_lt, nat_le, inl, inr, refl, sym, ap, ◌∙◌, subst, arith, leb-true, leb-false}
use Rattle.std.specs.Option.{option_map}
use Rattle.sky_base.specs.Val.{null, truth, num, text, list, dict, fun, ref, call, out, input, known, refs, vals_refs, pairs_refs}
use Rattle.sky_base.specs.Res.{Object, Res, Fin, Tell, Ask}
use Rattle.sky_base.specs.Read.{joined, Outcome, no_fuel, Act, made, waited, Halt, refs_of, see_all, on_seen, acts_seen, halts_seen, seen_list}
use Rattle.sky_base.specs.Read.{outcome, acts, halt, segment, segment_from}
use Rattle.sky_base.specs.See.{Val, Vals, Pairs, Desc, Obj, Job, Around, Gathered, not_yet, gather_on, gather_one, gather, as_bytes, as_value}
use Rattle.sky_base.specs.See.{executed_on, object_of, run_of, see, Answered, Turn, next_value, lone, turn_all, turn_refs, turn, on_turn, round}
use Rattle.sky_base.specs.See.{wave_on, turn_of, wave, job_answer, main_call}
use Rattle.sky_base.specs.Needed.{Task, distinct_refs, unless_none, wave_refs, only_if, halt_refs, wait_at}
use Rattle.sky_base_law.specs.Tasks.{In, Each, maker, first_of, waits_in, after_wait, made_before, held, is_answer, wait_then, waves_from, acts_of, ended}
use Rattle.sky_base_law.specs.Tasks.{held_at, HeldAt}
use Rattle.sky_base.specs.declared.fault.Fault.{Fault}
use Rattle.sky_base_law.proofs.SeenLaw.{Kept, kept_map, kept_is, kept_one, Begins, begins_cons, all_kept, see_kept, acts_grow, turn_kept, answer_kept}
use Rattle.sky_base_law.proofs.SeenLaw.{wave_kept, stands_kept}
use Rattle.sky_base_law.proofs.TaskOutputs.{each_in, in_each, distinct_refs_in, in_distinct_refs}
use Rattle.sky_base_law.proofs.Lists.{some_is, none_some}

yes_no : true ≡ false → ⊥
yes_no e = cc

some_none : {A : Type 0} (a : A) → Some a ≡ None → ⊥
some_none a e = cc

there : {A : Type 0} (o : Option A) → o ≢ None → is_some o ≡ true
there None h = absurd (h refl)
there (Some a) h = refl

there_not : {A : Type 0} (o : Option A) → is_some o ≡ true → o ≢ None
there_not o h e = yes_no (sym h ∙ ap is_some e)

there_kept : {A : Type 0} (x y : Option A) → Kept None x y → is_some x ≡ true → is_some y ≡ true
there_kept x y (inl e) h = absurd (there_not x h e)
there_kept x y (inr e) h = ap is_some (sym e) ∙ h

-- ---- one run

module _ {N : Type 0} (few more : v.Desc N → Option (Object N)) (grows : (d : v.Desc N) → Kept None (few d) (more d)) where
  acts_same : (x y : Option (List (Object N))) (k : List (Object N) → Res N) → Kept None x y → on_seen x (λ os. outcome few (k os)) ≢ no_fuel
      → ((os : List (Object N)) → outcome few (k os) ≢ no_fuel → acts more (k os) ≡ acts few (k os)) → acts_seen y (λ os. acts more (k os))
      ≡ acts_seen x (λ os. acts few (k os))
  acts_same None y k h ne g = absurd (ne refl)
  acts_same (Some os) y k (inl e) ne g = absurd (some_none os e)
  acts_same (Some os) y k (inr e) ne g = subst (λ z. acts_seen z (λ os. acts more (k os)) ≡ acts few (k os)) e (g os ne)

  -- a run that has ended does nothing more with more fuel
  pub acts_stay : (r : Res N) → outcome few r ≢ no_fuel → acts more r ≡ acts few r
  acts_stay (Fin e st) ne = refl
  acts_stay (Tell d r) ne = ap (λ rest. made d ∷ rest) (acts_stay r ne)
  acts_stay (Ask w fr st k) ne =
      ap (λ rest. waited (refs_of w) ∷ rest) (acts_same (see_all few (refs_of w)) (see_all more (refs_of w)) k
      (all_kept few more grows (refs_of w)) ne (λ os h. acts_stay (k os) h))

module _ {N : Type 0} (see : v.Desc N → Option (Object N)) where
  join_none : (x : Option (Object N)) → joined x None ≡ None
  join_none None = refl
  join_none (Some o) = refl

  all_seen : (ds : List (v.Desc N)) → see_all see ds ≢ None → Each (λ d. see d ≢ None) ds
  all_seen [] ne = tt
  all_seen (d ∷ ds) ne =
      (λ e. ne (ap (λ x. joined x (see_all see ds)) e), all_seen ds (λ e. ne (ap (joined (see d)) e ∙ join_none (see d))))

  on_seen_not : (x : Option (List (Object N))) (k : List (Object N) → Outcome N) → on_seen x k ≢ no_fuel → x ≢ None
  on_seen_not x k ne e = ne (ap (λ z. on_seen z k) e)

  waits_on : {P : Type 0} (x : Option (List (Object N))) (k : List (Object N) → Res N) (j : ℕ) (ds : List (v.Desc N))
      → on_seen x (λ os. outcome see (k os)) ≢ no_fuel → slice_get (waits_in (acts_seen x (λ os. acts see (k os)))) j ≡ Some ds
      → ((os : List (Object N)) → outcome see (k os) ≢ no_fuel → slice_get (waits_in (acts see (k os))) j ≡ Some ds → P) → P
  waits_on None k j ds ne at g = absurd (ne refl)
  waits_on (Some os) k j ds ne at g = g os ne at

  -- where a run has ended, all that it waited for is seen
  pub waits_seen : (r : Res N) (j : ℕ) (ds : List (v.Desc N)) → outcome see r ≢ no_fuel → slice_get (waits_in (acts see r)) j ≡ Some ds
      → Each (λ d. see d ≢ None) ds
  waits_seen (Fin e st) j ds ne at = absurd (none_some ds at)
  waits_seen (Tell d r) j ds ne at = waits_seen r j ds ne at
  waits_seen (Ask w fr st k) zero ds ne at =
      subst (Each (λ d. see d ≢ None)) (some_is _ ds at) (all_seen (refs_of w) (on_seen_not (see_all see (refs_of w)) _ ne))
  waits_seen (Ask w fr st k) (suc j) ds ne at =
      waits_on (see_all see (refs_of w)) k j ds ne at (λ os h i. waits_seen (k os) j ds h i)

  halt_on : (x : Option (List (Object N))) (k : List (Object N) → Res N) (j : ℕ)
      → ((os : List (Object N)) → slice_get (waits_in (acts see (k os))) j ≡ option_map (λ h. refs_of h.wait) (halt see j (k os)))
      → slice_get (waits_in (acts_seen x (λ os. acts see (k os)))) j ≡ option_map (λ h. refs_of h.wait) (halts_seen x (λ os. halt see j (k os)))
  halt_on None k j g = refl
  halt_on (Some os) k j g = g os

  -- the wait of this number, from 0, is where the run stands at it
  pub halt_waits : (r : Res N) (j : ℕ) → slice_get (waits_in (acts see r)) j ≡ option_map (λ h. refs_of h.wait) (halt see j r)
  halt_waits (Fin e st) j = refl
  halt_waits (Tell d r) j = halt_waits r j
  halt_waits (Ask w fr st k) zero = refl
  halt_waits (Ask w fr st k) (suc j) = halt_on (see_all see (refs_of w)) k j (λ os. halt_waits (k os) j)

  made_first : (r : Res N) → made_before 1 (acts see r) ≡ segment r
  made_first (Fin e st) = refl
  made_first (Tell d r) = ap (λ ds. d ∷ ds) (made_first r)
  made_first (Ask w fr st k) = refl

  made_on : (x : Option (List (Object N))) (k : List (Object N) → Res N) (j : ℕ)
      → ((os : List (Object N)) → made_before 1 (after_wait j (acts see (k os))) ≡ segment_from see j (k os))
      → made_before 1 (after_wait j (acts_seen x (λ os. acts see (k os)))) ≡ seen_list x (λ os. segment_from see j (k os))
  made_on None k zero g = refl
  made_on None k (suc j) g = refl
  made_on (Some os) k j g = g os

  -- what is made after a wait and before the next one or the end
  pub made_next : (j : ℕ) (r : Res N) → made_before 1 (after_wait j (acts see r)) ≡ segment_from see j r
  made_next zero r = made_first r
  made_next (suc j) (Fin e st) = refl
  made_next (suc j) (Tell d r) = made_next (suc j) r
  made_next (suc j) (Ask w fr st k) = made_on (see_all see (refs_of w)) k j (λ os. made_next j (k os))

-- ---- all that is gathered

module _ {A : Type 0} (turn_to : Obj → Result A Fault) (look : Desc → Option Obj) where
  pub on_none : (r : Result A Fault) → gather_on r not_yet ≡ not_yet
  on_none (Ok a) = refl
  on_none (Err f) = refl

  pub one_none : (x : Option Obj) → gather_one x turn_to not_yet ≡ not_yet
  one_none None = refl
  one_none (Some o) = on_none (turn_to o)

  gather_seen : (ds : List Desc) → gather look turn_to ds ≢ not_yet → Each (λ d. look d ≢ None) ds
  gather_seen [] ne = tt
  gather_seen (d ∷ ds) ne = (
    λ e. ne (ap (λ x. gather_one x turn_to (gather look turn_to ds)) e),
    gather_seen ds (λ e. ne (ap (gather_one (look d) turn_to) e ∙ one_none (look d))),
  )

module _ (job : Job) (around : Around) where
  abbrev pub Seen : ℕ → Desc → Type 0
  Seen n d = see job around n d ≢ None

  abbrev pub blind : Turn
  blind = Turn.ends Answered.not_yet

  -- ---- the waves of the result

  all_turn_seen : (n : ℕ) (a : Val) → turn_all job around n a ≢ blind → Each (Seen n) (refs a)
  all_turn_seen n a ne = gather_seen (as_value around) (see job around n) (refs a) (λ e. ne (ap (λ g. next_value g a) e))

  refs_turn_seen : (n : ℕ) (a : Val) (ds : List Desc) → refs a ≡ ds
      → ((d : Desc) (es : List Desc) → turn_refs job around n (d ∷ es) a ≡ turn_all job around n a) → turn_refs job around n ds a ≢ blind
      → Each (Seen n) (refs a)
  refs_turn_seen n a [] e is ne = subst (Each (Seen n)) (sym e) tt
  refs_turn_seen n a (d ∷ es) e is ne = all_turn_seen n a (λ q. ne (is d es ∙ q))

  -- a wave that comes to anything has seen all its references
  turn_seen : (n : ℕ) (a : Val) → turn job around n a ≢ blind → Each (Seen n) (refs a)
  turn_seen n null ne = tt
  turn_seen n (truth b) ne = tt
  turn_seen n (num z) ne = tt
  turn_seen n (text t) ne = tt
  turn_seen n (list vs) ne = refs_turn_seen n (list vs) (vals_refs vs) refl (λ d es. refl) ne
  turn_seen n (dict ps) ne = refs_turn_seen n (dict ps) (pairs_refs ps) refl (λ d es. refl) ne
  turn_seen n (fun f c) ne = refs_turn_seen n (fun f c) (pairs_refs c) refl (λ d es. refl) ne
  turn_seen n (ref d) ne = (
    λ e. ne (ap (λ x. lone x (turn_all job around n (ref d))) e
        ∙ ap (λ x. next_value (gather_one x (as_value around) (Gathered.all [])) (ref d)) e),
    tt,
  )

  pub round_turn : (n k : ℕ) (a : Val) → round job around n (suc k) a ≢ Answered.not_yet → turn job around n a ≢ blind
  unfolding round
  round_turn n k a ne e = ne (ap (λ t. on_turn job around n t (λ u. round job around n k u)) e)

  pub round_next : (n k : ℕ) (a u : Val) → turn job around n a ≡ Turn.next u → round job around n (suc k) a ≢ Answered.not_yet
      → round job around n k u ≢ Answered.not_yet
  unfolding round
  round_next n k a u e ne q = ne (ap (λ t. on_turn job around n t (λ x. round job around n k x)) e ∙ q)

  pub wave_next : (n j : ℕ) (a : Val) (t : Turn) → wave job around n j ≡ Some a → turn job around n a ≡ t → wave job around n (suc j)
      ≡ wave_on job around n (Some t)
  unfolding wave
  wave_next n j a t e q =
      ap (λ x. wave_on job around n (turn_of job around n x)) e ∙ ap (λ x. wave_on job around n (Some x)) q

  pub wave_none : (n j : ℕ) → wave job around n j ≡ None → wave job around n (suc j) ≡ None
  unfolding wave
  wave_none n j e = ap (λ x. wave_on job around n (turn_of job around n x)) e

  pub wave_zero : (n : ℕ) → wave job around n 0 ≡ Some (ref main_call)
  unfolding wave
  wave_zero n = refl

  pub waves_step : (n k j : ℕ) (o : Option Val) → wave job around n j ≡ o → waves_from job around n (suc k) j
      ≡ wait_then (wave_refs o) (waves_from job around n k (suc j))
  unfolding waves_from
  waves_step n k j o e = ap (λ x. wait_then (wave_refs x) (waves_from job around n k (suc j))) e

  pub waves_stop : (n j : ℕ) → waves_from job around n 0 j ≡ []
  unfolding waves_from
  waves_stop n j = refl

  then_begin : (x y : Option (List Desc)) (rest more : List (Act ⊥)) → Kept None x y → Begins rest more → Begins (wait_then x rest) (wait_then y more)
  then_begin x y rest more (inl e) b = (wait_then y more, ap (λ z. wait_then z rest ++ wait_then y more) (sym e))
  then_begin x y rest more (inr e) b = subst (λ z. Begins (wait_then x rest) (wait_then z more)) e (same x)
    where
      same : (z : Option (List Desc)) → Begins (wait_then z rest) (wait_then z more)
      same None = ([], refl)
      same (Some ds) = begins_cons (waited ds) rest more b

  waves_begin : (n k j : ℕ) → Begins (waves_from job around n k j) (waves_from job around (suc n) k j)
  unfolding waves_from
  waves_begin n zero j = ([], refl)
  waves_begin n (suc k) j =
      then_begin _ _ _ _ (kept_map None _ _ None wave_refs refl (wave_kept job around n j)) (waves_begin n k (suc j))

  -- what a task did begins what it does with more fuel
  pub more : (n : ℕ) (t : Task) → Begins (acts_of job around n t) (acts_of job around (suc n) t)
  more n Task.show = waves_begin n 100 1
  more n (Task.of (call f c vs)) = acts_grow job around n f c vs
  more n (Task.of (out x a m i)) = ([], refl)
  more n (Task.of (input k)) = ([], refl)
  more n (Task.of (known b)) = absurd b

  same_turn : (n k : ℕ) (a : Val) → round job around n (suc k) a ≢ Answered.not_yet → turn job around (suc n) a ≡ turn job around n a
  same_turn n k a ne = kept_is blind _ _ (turn job around n a) (turn_kept job around n a) refl (round_turn n k a ne)

  waves_same : (n k j : ℕ) (a : Val) → wave job around n j ≡ Some a → wave job around (suc n) j ≡ Some a
      → round job around n (suc k) a ≢ Answered.not_yet → waves_from job around (suc n) k (suc j) ≡ waves_from job around n k (suc j)
  waves_same n zero j a e g ne = waves_stop (suc n) (suc j) ∙ sym (waves_stop n (suc j))
  waves_same n (suc k) j a e g ne = go (turn job around n a) refl (λ u. waves_same n k (suc j) u)
    where
      go : (t : Turn) → turn job around n a ≡ t → ((u : Val) → wave job around n (suc j) ≡ Some u → wave job around (suc n) (suc j) ≡ Some u
          → round job around n (suc k) u ≢ Answered.not_yet → waves_from job around (suc n) k (suc (suc j))
          ≡ waves_from job around n k (suc (suc j))) → waves_from job around (suc n) (suc k) (suc j) ≡ waves_from job around n (suc k) (suc j)
      go (Turn.ends x) q rest =
          waves_step (suc n) k (suc j) None (wave_next (suc n) j a (Turn.ends x) g (same_turn n (suc k) a ne ∙ q))
          ∙ sym (waves_step n k (suc j) None (wave_next n j a (Turn.ends x) e q))
      go (Turn.next u) q rest =
          waves_step (suc n) k (suc j) (Some u) (wave_next (suc n) j a (Turn.next u) g (same_turn n (suc k) a ne ∙ q))
          ∙ ap (wait_then (wave_refs (Some u))) (rest u (wave_next n j a (Turn.next u) e q)
          (wave_next (suc n) j a (Turn.next u) g (same_turn n (suc k) a ne ∙ q)) (round_next n (suc k) a u q ne))
          ∙ sym (waves_step n k (suc j) (Some u) (wave_next n j a (Turn.next u) e q))

  pub wait_cases : {P : Type 0} (ds : List Desc) (rest : List (Act ⊥)) (i : ℕ) (es : List Desc)
      → slice_get (waits_in (wait_then (unless_none ds) rest)) i ≡ Some es → (i ≡ 0 → ds ≡ es → P)
      → ((k : ℕ) → i ≡ suc k → slice_get (waits_in rest) k ≡ Some es → P) → P
  wait_cases [] rest i es e f g = absurd (none_some es e)
  wait_cases (d ∷ ds) rest zero es e f g = f refl (some_is _ es e)
  wait_cases (d ∷ ds) rest (suc k) es e f g = g k refl e

  pub each_distinct : (n : ℕ) (a : Val) → Each (Seen n) (refs a) → Each (Seen n) (distinct_refs a)
  each_distinct n a h = each_in (Seen n) (distinct_refs a) (λ d i. in_each (Seen n) (refs a) d h (distinct_refs_in a d i))

  waves_seen : (n k j : ℕ) (a : Val) (i : ℕ) (ds : List Desc) → wave job around n j ≡ Some a → round job around n (suc k) a ≢ Answered.not_yet
      → slice_get (waits_in (waves_from job around n k (suc j))) i ≡ Some ds → Each (Seen n) ds
  waves_seen n zero j a i ds e ne at = absurd (none_some ds (sym (ap (λ x. slice_get (waits_in x) i) (waves_stop n (suc j))) ∙ at))
  waves_seen n (suc k) j a i ds e ne at = go (turn job around n a) refl (λ u l. waves_seen n k (suc j) u l ds)
    where
      go : (t : Turn) → turn job around n a ≡ t → ((u : Val) (l : ℕ) → wave job around n (suc j) ≡ Some u
          → round job around n (suc k) u ≢ Answered.not_yet → slice_get (waits_in (waves_from job around n k (suc (suc j)))) l ≡ Some ds
          → Each (Seen n) ds) → Each (Seen n) ds
      go (Turn.ends x) q rest =
          absurd (none_some ds (sym (ap (λ y. slice_get (waits_in y) i) (waves_step n k (suc j) None (wave_next n j a (Turn.ends x) e q))) ∙ at))
      go (Turn.next u) q rest =
          wait_cases (distinct_refs u) (waves_from job around n k (suc (suc j))) i ds
          (sym (ap (λ y. slice_get (waits_in y) i) (waves_step n k (suc j) (Some u) (wave_next n j a (Turn.next u) e q))) ∙ at)
          (λ z is. subst (Each (Seen n)) is (each_distinct n u (turn_seen n u (round_turn n k u (round_next n (suc k) a u q ne)))))
          (λ l z r. rest u l (wave_next n j a (Turn.next u) e q) (round_next n (suc k) a u q ne) r)

  -- ---- ends

  answered_not : (n : ℕ) → is_answer (job_answer job around n) ≡ true → round job around n 101 (ref main_call) ≢ Answered.not_yet
  unfolding job_answer
  answered_not n h e = yes_no (sym h ∙ ap is_answer e)

  call_ends : (n : ℕ) (f : List ℕ) (c : Pairs) (vs : Vals) → is_some (see job around (suc n) (call f c vs)) ≡ true
      → outcome (see job around n) (run_of job around f c vs) ≢ no_fuel
  unfolding see
  call_ends n f c vs h e = yes_no (sym h ∙ ap (λ o. is_some (object_of o)) e)

  out_ends : (n : ℕ) (x : List ℕ) (a : Val) (m i : ℕ) → is_some (see job around (suc n) (out x a m i)) ≡ true
      → gather (see job around n) (as_bytes around) (refs a) ≢ not_yet
  unfolding see
  out_ends n x a m i h e = yes_no (sym h ∙ ap (λ g. is_some (executed_on around x a m i g)) e)

  answer_stays : (x y : Answered) → Kept Answered.not_yet x y → is_answer x ≡ true → is_answer y ≡ true
  answer_stays x y (inl e) h = absurd (yes_no (sym h ∙ ap is_answer e))
  answer_stays x y (inr e) h = ap is_answer (sym e) ∙ h

  -- a task that has ended has ended with more fuel
  pub ended_stays : (n : ℕ) (t : Task) → ended job around n t ≡ true → ended job around (suc n) t ≡ true
  ended_stays n Task.show h = answer_stays _ _ (answer_kept job around n) h
  ended_stays n (Task.of d) h = there_kept _ _ (see_kept job around (suc n) d) h

  -- a task that has ended does nothing more with more fuel
  pub kept : (n : ℕ) (t : Task) → ended job around n t ≡ true → (acts_of job around (suc n) t ≡ acts_of job around n t)
      × (ended job around (suc n) t ≡ true)
  kept n Task.show h =
      (waves_same n 100 0 (ref main_call) (wave_zero n) (wave_zero (suc n)) (answered_not n h), ended_stays n Task.show h)
  kept n (Task.of (call f c vs)) h = (
    acts_stay (see job around n) (see job around (suc n)) (see_kept job around n) (run_of job around f c vs) (call_ends n f c vs h),
    ended_stays n (Task.of (call f c vs)) h,
  )
  kept n (Task.of (out x a m i)) h = (refl, ended_stays n (Task.of (out x a m i)) h)
  kept n (Task.of (input k)) h = (refl, ended_stays n (Task.of (input k)) h)
  kept n (Task.of (known b)) h = absurd b

  -- where a task has ended, what it waited for before it started is seen
  pub first_seen : (n : ℕ) (t : Task) → ended job around n t ≡ true → Each (λ d. see job around n d ≢ None) (first_of t)
  first_seen n Task.show h = turn_seen n (ref main_call) (round_turn n 100 (ref main_call) (answered_not n h))
  first_seen n (Task.of (call f c vs)) h = tt
  first_seen n (Task.of (out x a m i)) h =
      each_distinct n a (gather_seen (as_bytes around) (see job around n) (refs a) (out_ends n x a m i h))
  first_seen n (Task.of (input k)) h = tt
  first_seen n (Task.of (known b)) h = absurd b

  -- where a task has ended, what it waited for later is seen
  pub later_seen : (n : ℕ) (t : Task) (j : ℕ) (ds : List Desc) → ended job around n t ≡ true → slice_get (waits_in (acts_of job around n t)) j
      ≡ Some ds → Each (λ d. see job around n d ≢ None) ds
  later_seen n Task.show j ds h at = waves_seen n 100 0 (ref main_call) j ds (wave_zero n) (answered_not n h) at
  later_seen n (Task.of (call f c vs)) j ds h at = waits_seen (see job around n) (run_of job around f c vs) j ds (call_ends n f c vs h) at
  later_seen n (Task.of (out x a m i)) j ds h at = absurd (none_some ds at)
  later_seen n (Task.of (input k)) j ds h at = absurd (none_some ds at)
  later_seen n (Task.of (known b)) j ds h at = absurd b

  -- without fuel nothing is seen
  pub unseen : (d : Desc) → see job around 0 d ≡ None
  unfolding see
  unseen d = refl

  pub out_alike : (n : ℕ) (x : List ℕ) (a : Val) (m i j : ℕ) → is_some (see job around (suc n) (out x a m i))
      ≡ is_some (see job around (suc n) (out x a m j))
  unfolding see
  out_alike n x a m i j = go (gather (λ d. see job around n d) (as_bytes around) (refs a))
    where
      go : (g : Gathered (List ℕ)) → is_some (executed_on around x a m i g) ≡ is_some (executed_on around x a m j g)
      go Gathered.not_yet = refl
      go (Gathered.faulty f) = refl
      go (Gathered.all bs) = refl

  -- a description is seen with one more exactly where its task has ended
  pub seen_ended : (n : ℕ) (d : Desc) (t : Task) → maker d ≡ Some t → is_some (see job around (suc n) d) ≡ ended job around n t
  seen_ended n (call f c vs) t e = ap (ended job around n) (some_is _ t e)
  seen_ended n (out x a m i) t e = go (nat_lt i m) e
    where
      go : (b : Bool) → only_if b (Some (Task.of (out x a m 0))) ≡ Some t → is_some (see job around (suc n) (out x a m i)) ≡ ended job around n t
      go true q = out_alike n x a m i 0 ∙ ap (ended job around n) (some_is _ t q)
      go false q = absurd (none_some t q)
  seen_ended n (input k) t e = absurd (none_some t e)
  seen_ended n (known b) t e = absurd b

  -- what is seen comes from a task that has ended
  pub seen : (n : ℕ) (d : Desc) (t : Task) → maker d ≡ Some t → see job around (suc n) d ≢ None → ended job around n t ≡ true
  seen n d t e ne = sym (seen_ended n d t e) ∙ there (see job around (suc n) d) ne

  -- ---- waits and states

  not_empty : (d : Desc) (es : List Desc) → In d es → unless_none es ≡ None → ⊥
  not_empty d [] h e = h
  not_empty d (x ∷ xs) h e = some_none (x ∷ xs) e

  no_refs : (a : Val) → wave_refs (Some a) ≡ None → refs a ≡ []
  no_refs a e = go (refs a) refl
    where
      go : (ds : List Desc) → refs a ≡ ds → refs a ≡ []
      go [] q = q
      go (d ∷ ds) q = absurd (not_empty d (distinct_refs a) (in_distinct_refs a d (subst (In d) (sym q) (inl refl))) e)

  wait_none : (n j : ℕ) → wave_refs (wave job around n j) ≡ None → wave_refs (wave job around n (suc j)) ≡ None
  wait_none n j h = go (wave job around n j) refl
    where
      go : (o : Option Val) → wave job around n j ≡ o → wave_refs (wave job around n (suc j)) ≡ None
      go None e = ap wave_refs (wave_none n j e)
      go (Some a) e =
          ap wave_refs (wave_next n j a (turn_refs job around n [] a) e
          (ap (λ ds. turn_refs job around n ds a) (no_refs a (sym (ap wave_refs e) ∙ h))))

  none_on : (n j i : ℕ) → wave_refs (wave job around n j) ≡ None → wave_refs (wave job around n (i + j)) ≡ None
  none_on n j zero h = ap (λ m. wave_refs (wave job around n m)) (omega arith) ∙ h
  none_on n j (suc i) h = ap (λ m. wave_refs (wave job around n m)) (omega arith) ∙ wait_none n (i + j) (none_on n j i h)

  waves_at : (n k j i : ℕ) → i < k → slice_get (waits_in (waves_from job around n k j)) i ≡ wave_refs (wave job around n (i + j))
  waves_at n zero j i lt = absurd (omega arith)
  waves_at n (suc k) j i lt =
      ap (λ x. slice_get (waits_in x) i) (waves_step n k j (wave job around n j) refl)
      ∙ go i lt (wave_refs (wave job around n j)) refl (λ l less. waves_at n k (suc j) l less)
    where
      go : (i : ℕ) → i < suc k → (x : Option (List Desc)) → wave_refs (wave job around n j) ≡ x
          → ((l : ℕ) → l < k → slice_get (waits_in (waves_from job around n k (suc j))) l ≡ wave_refs (wave job around n (l + suc j)))
          → slice_get (waits_in (wait_then (wave_refs (wave job around n j)) (waves_from job around n k (suc j)))) i
          ≡ wave_refs (wave job around n (i + j))
      go i less None e rest =
          ap (λ x. slice_get (waits_in (wait_then x (waves_from job around n k (suc j)))) i) e ∙ sym (none_on n j i e)
      go zero less (Some ds) e rest =
          ap (λ x. slice_get (waits_in (wait_then x (waves_from job around n k (suc j)))) 0) e ∙ sym e
          ∙ ap (λ m. wave_refs (wave job around n m)) (omega arith)
      go (suc l) less (Some ds) e rest =
          ap (λ x. slice_get (waits_in (wait_then x (waves_from job around n k (suc j)))) (suc l)) e ∙ rest l (omega arith)
          ∙ ap (λ m. wave_refs (wave job around n m)) (omega arith)

  waves_past : (n k j i : ℕ) → k ≤ i → slice_get (waits_in (waves_from job around n k j)) i ≡ None
  waves_past n zero j i le = ap (λ x. slice_get (waits_in x) i) (waves_stop n j)
  waves_past n (suc k) j zero le = absurd (omega arith)
  waves_past n (suc k) j (suc i) le =
      ap (λ x. slice_get (waits_in x) (suc i)) (waves_step n k j (wave job around n j) refl)
      ∙ go (wave_refs (wave job around n j)) (waves_past n k (suc j) i (omega arith))
    where
      go : (x : Option (List Desc)) → slice_get (waits_in (waves_from job around n k (suc j))) i ≡ None
          → slice_get (waits_in (wait_then x (waves_from job around n k (suc j)))) (suc i) ≡ None
      go None h = refl
      go (Some ds) h = h

  halt_refs_is : (o : Option (Halt ⊥)) → option_map (λ h. refs_of h.wait) o ≡ halt_refs o
  halt_refs_is None = refl
  halt_refs_is (Some h) = refl

  -- the waits of the acts are those of the task, in order
  pub waits_at : (n : ℕ) (t : Task) (j : ℕ) → slice_get (waits_in (acts_of job around n t)) j ≡ wait_at job around n t (suc j)
  waits_at n Task.show j = go (nat_le (suc j) 100) refl
    where
      go : (b : Bool) → nat_le (suc j) 100 ≡ b → slice_get (waits_in (waves_from job around n 100 1)) j
          ≡ only_if b (wave_refs (wave job around n (suc j)))
      go true e =
          let le : suc j ≤ 100 = leb-true (suc j) 100 e in
          waves_at n 100 1 j (omega arith) ∙ ap (λ m. wave_refs (wave job around n m)) (omega arith)
      go false e =
          let gt : 100 < suc j = leb-false (suc j) 100 e in
          waves_past n 100 1 j (omega arith)
  waits_at n (Task.of (call f c vs)) j =
      halt_waits (see job around n) (run_of job around f c vs) j ∙ halt_refs_is (halt (see job around n) j (run_of job around f c vs))
  waits_at n (Task.of (out x a m i)) j = refl
  waits_at n (Task.of (input k)) j = refl
  waits_at n (Task.of (known b)) j = absurd b

  -- what is waited for before the start is the wait of number 0
  pub first_waits : (n : ℕ) (d : Desc) (t : Task) → maker d ≡ Some t → wait_at job around n t 0 ≡ Some (first_of t)
  first_waits n (call f c vs) t e = subst (λ u. wait_at job around n u 0 ≡ Some (first_of u)) (some_is _ t e) refl
  first_waits n (out x a m i) t e = go (nat_lt i m) e
    where
      go : (b : Bool) → only_if b (Some (Task.of (out x a m 0))) ≡ Some t → wait_at job around n t 0 ≡ Some (first_of t)
      go true q = subst (λ u. wait_at job around n u 0 ≡ Some (first_of u)) (some_is _ t q) refl
      go false q = absurd (none_some t q)
  first_waits n (input k) t e = absurd (none_some t e)
  first_waits n (known b) t e = absurd b

  -- what a task holds at a wait stays with more fuel
  pub held_kept : (t : Task) (j n : ℕ) → Kept None (held_at job around n t j) (held_at job around (suc n) t j)
  held_kept Task.show j n = kept_map None _ _ None (option_map held) refl (stands_kept job around Task.show j n)
  held_kept (Task.of (call f c vs)) j n = kept_map None _ _ None (option_map held) refl (stands_kept job around (Task.of (call f c vs)) j n)
  held_kept (Task.of (out x a m i)) zero n = inr refl
  held_kept (Task.of (out x a m i)) (suc j) n = inr refl
  held_kept (Task.of (input k)) j n = inr refl
  held_kept (Task.of (known b)) j n = absurd b

  -- what a task holds at a wait is one list
  pub held_one : (t : Task) (j : ℕ) (ds es : List Desc) → HeldAt job around t j ds → HeldAt job around t j es → ds ≡ es
  held_one t j ds es (n, e) (m, g) =
      some_is ds es (kept_one None (λ i. held_at job around i t j) (held_kept t j) n m (Some ds) (Some es) e g (some_none ds) (some_none es))
