-- What a task waited for before it came to a wait is seen.
use Rattle.std.proofs.Common.{◌⊎◌, inl, inr, ◌≡◌, ◌≢◌, ℕ, zero, suc, ◌<◌, ◌≤◌, List, [], ◌∷◌, Bool, true, false, nat_le, Option, Some, None, Result}
use Rattle.std.proofs.Common.{slice_get, refl, sym, ap, ◌∙◌, subst, arith}
use Rattle.sky_base.specs.Val as v
use Rattle.sky_base.specs.Val.{null, truth, num, text, list, dict, fun, ref, call, out, input, known, refs, vals_refs, pairs_refs}
use Rattle.sky_base.specs.Res.{Object, Res, Fin, Tell, Ask}
use Rattle.sky_base.specs.Read.{Halt, refs_of, joined, see_all, halts_seen, acts_seen, acts, halt}
use Rattle.sky_base.specs.See.{Val, Desc, Obj, Job, Around, Answered, not_yet, gather_one, gather, as_value, see, Turn, next_value, lone, turn_all}
use Rattle.sky_base.specs.See.{turn_refs, turn, wave_on, turn_of, wave, run_of, main_call}
use Rattle.sky_base.specs.Needed.{Task, State, halt_state, wave_state, wave_refs, only_if, unless_none, distinct_refs, stands_at, wait_at}
use Rattle.sky_base.specs.declared.fault.Fault.{Fault}
use Rattle.sky_base_law.specs.Tasks.{Each, waits_in}
use Rattle.sky_base_law.proofs.Lists.{some_is, none_some}
use Rattle.sky_base_law.proofs.TaskFuel.{one_none, waits_at}
use Rattle.sky_base_law.proofs.TaskOutputs.{each_in, in_each, distinct_refs_in}
use Rattle.sky_base_law.specs.EndsLaws.{AllSeen}

module _ {N : Type 0} (see : v.Desc N → Option (Object N)) where
  join_none : (x : Option (Object N)) → joined x None ≡ None
  join_none None = refl
  join_none (Some o) = refl

  all_seen : (ds : List (v.Desc N)) → see_all see ds ≢ None → Each (λ d. see d ≢ None) ds
  all_seen [] ne = tt
  all_seen (d ∷ ds) ne =
      (λ e. ne (ap (λ x. joined x (see_all see ds)) e), all_seen ds (λ e. ne (ap (joined (see d)) e ∙ join_none (see d))))

  -- of a run that comes to a wait
  seen_on : {P : Type 0} (x : Option (List (Object N))) (k : List (Object N) → Res N) (j i : ℕ) (h : Halt N) (ds : List (v.Desc N))
      → halts_seen x (λ os. halt see j (k os)) ≡ Some h → slice_get (waits_in (acts_seen x (λ os. acts see (k os)))) i ≡ Some ds
      → ((os : List (Object N)) → x ≡ Some os → halt see j (k os) ≡ Some h → slice_get (waits_in (acts see (k os))) i ≡ Some ds → P) → P
  seen_on None k j i h ds e at g = absurd (none_some h e)
  seen_on (Some os) k j i h ds e at g = g os refl e at

  came : (x : Option (List (Object N))) (k : List (Object N) → Res N) (j : ℕ) (h : Halt N) → halts_seen x (λ os. halt see j (k os)) ≡ Some h
      → x ≢ None
  came None k j h e = absurd (none_some h e)
  came (Some os) k j h e = λ q. cc

  pub halt_seen : (r : Res N) (j i : ℕ) (h : Halt N) (ds : List (v.Desc N)) → i < j → halt see j r ≡ Some h → slice_get (waits_in (acts see r)) i
      ≡ Some ds → Each (λ d. see d ≢ None) ds
  halt_seen (Fin e st) j i h ds lt s at = absurd (none_some h s)
  halt_seen (Tell d r) j i h ds lt s at = halt_seen r j i h ds lt s at
  halt_seen (Ask q fr st k) zero i h ds lt s at = absurd (omega (arith, lt))
  halt_seen (Ask q fr st k) (suc j) zero h ds lt s at =
      subst (Each (λ d. see d ≢ None)) (some_is (refs_of q) ds at) (all_seen (refs_of q) (came (see_all see (refs_of q)) k j h s))
  halt_seen (Ask q fr st k) (suc j) (suc i) h ds lt s at =
      seen_on (see_all see (refs_of q)) k j i h ds s at (λ os e g f. halt_seen (k os) j i h ds (omega (arith, lt)) g f)

-- ---- the waves of the result

module _ {A : Type 0} (turn_to : Obj → Result A Fault) (look : Desc → Option Obj) where
  gather_seen : (ds : List Desc) → gather look turn_to ds ≢ not_yet → Each (λ d. look d ≢ None) ds
  gather_seen [] ne = tt
  gather_seen (d ∷ ds) ne = (
    λ e. ne (ap (λ x. gather_one x turn_to (gather look turn_to ds)) e),
    gather_seen ds (λ e. ne (ap (gather_one (look d) turn_to) e ∙ one_none turn_to look (look d))),
  )

module _ (job : Job) (around : Around) (n : ℕ) where
  all_turn : (a u : Val) → turn_all job around n a ≡ Turn.next u → AllSeen job around n (refs a)
  all_turn a u e = gather_seen (as_value around) (see job around n) (refs a) (λ q. blind (sym (ap (λ g. next_value g a) q) ∙ e))
    where
      blind : Turn.ends Answered.not_yet ≡ Turn.next u → ⊥
      blind z = cc

  lone_turn : (x : Option Obj) (t : Turn) (u : Val) → lone x t ≡ Turn.next u → t ≡ Turn.next u
  lone_turn None t u e = e
  lone_turn (Some (Object.bytes b)) t u e = absurd cc
  lone_turn (Some (Object.data_of a)) t u e = e
  lone_turn (Some (Object.fault f)) t u e = e

  refs_turn : (ds : List Desc) (a u : Val) → turn_refs job around n ds a ≡ Turn.next u → turn_all job around n a ≡ Turn.next u
  refs_turn [] a u e = absurd cc
  refs_turn (d ∷ ds) null u e = e
  refs_turn (d ∷ ds) (truth b) u e = e
  refs_turn (d ∷ ds) (num z) u e = e
  refs_turn (d ∷ ds) (text t) u e = e
  refs_turn (d ∷ ds) (list vs) u e = e
  refs_turn (d ∷ ds) (dict ps) u e = e
  refs_turn (d ∷ ds) (fun f c) u e = e
  refs_turn (d ∷ ds) (ref x) u e = lone_turn (see job around n x) (turn_all job around n (ref x)) u e

  -- a wave whose next one is there has seen all its references
  wave_seen : (t : Turn) (a u : Val) → turn job around n a ≡ t → wave_on job around n (Some t) ≡ Some u → AllSeen job around n (refs a)
  wave_seen (Turn.ends x) a u e g = absurd (none_some u g)
  wave_seen (Turn.next y) a u e g = all_turn a y (refs_turn (refs a) a y e)

  next_is : (j : ℕ) → wave job around n (suc j) ≡ wave_on job around n (turn_of job around n (wave job around n j))
  unfolding wave
  next_is j = refl

  before_one : (j : ℕ) (o : Option Val) (a u : Val) → wave job around n j ≡ o → o ≡ Some a → wave job around n (suc j) ≡ Some u
      → AllSeen job around n (refs a)
  before_one j None a u e q g = absurd (none_some a q)
  before_one j (Some x) a u e q g =
      subst (λ y. AllSeen job around n (refs y)) (some_is x a q)
      (wave_seen (turn job around n x) x u refl (sym (ap (λ o. wave_on job around n (turn_of job around n o)) e) ∙ sym (next_is j) ∙ g))

  has_before : (j : ℕ) (u : Val) → wave job around n (suc j) ≡ Some u → (a : Val) × (wave job around n j ≡ Some a)
  has_before j u e = go (wave job around n j) refl
    where
      go : (o : Option Val) → wave job around n j ≡ o → (a : Val) × (wave job around n j ≡ Some a)
      go None q = absurd (none_some u (sym (next_is j ∙ ap (λ o. wave_on job around n (turn_of job around n o)) q) ∙ e))
      go (Some a) q = (a, q)

  same_or : (i j : ℕ) → i ≤ j → (i < j) ⊎ (i ≡ j)
  same_or zero zero le = inr refl
  same_or zero (suc j) le = inl (omega arith)
  same_or (suc i) zero le = absurd (omega (arith, le))
  same_or (suc i) (suc j) le = step (same_or i j (omega (arith, le)))
    where
      step : (i < j) ⊎ (i ≡ j) → (suc i < suc j) ⊎ (suc i ≡ suc j)
      step (inl h) = inl (omega (arith, h))
      step (inr q) = inr (ap suc q)

  at_or_before : (j i : ℕ) (a u : Val) → (i < j) ⊎ (i ≡ j) → wave job around n (suc j) ≡ Some u → wave job around n i ≡ Some a
      → (i < j → AllSeen job around n (refs a)) → AllSeen job around n (refs a)
  at_or_before j i a u (inl h) e g rest = rest h
  at_or_before j i a u (inr s) e g rest = before_one j (wave job around n j) a u refl (ap (wave job around n) (sym s) ∙ g) e

  -- each wave before one that is there
  waves_seen : (j i : ℕ) (a u : Val) → i < j → wave job around n j ≡ Some u → wave job around n i ≡ Some a → AllSeen job around n (refs a)
  waves_seen zero i a u lt e g = absurd (omega (arith, lt))
  waves_seen (suc j) i a u lt e g =
      let p = has_before j u e in
      at_or_before j i a u (same_or i j (omega (arith, lt))) e g (λ h. waves_seen j i a p.0 h p.1 g)

  first_wave : (a : Val) → wave job around n 0 ≡ Some a → ref main_call ≡ a
  unfolding wave
  first_wave a e = some_is (ref main_call) a e

  wave_zero : wave job around n 0 ≡ Some (ref main_call)
  unfolding wave
  wave_zero = refl

  listed : (xs ds : List Desc) → unless_none xs ≡ Some ds → xs ≡ ds
  listed [] ds e = absurd (none_some ds e)
  listed (x ∷ xs) ds e = some_is (x ∷ xs) ds e

  wave_listed : (b : Bool) (o : Option Val) (ds : List Desc) → only_if b (wave_refs o) ≡ Some ds → (a : Val) × (o ≡ Some a) × (distinct_refs a ≡ ds)
  wave_listed false o ds e = absurd (none_some ds e)
  wave_listed true None ds e = absurd (none_some ds e)
  wave_listed true (Some a) ds e = (a, refl, listed (distinct_refs a) ds e)

  show_seen : (j i : ℕ) (u : Val) (ds : List Desc) → i < j → wave job around n j ≡ Some u → wait_at job around n Task.show i ≡ Some ds
      → AllSeen job around n ds
  show_seen j zero u ds lt e w =
      subst (AllSeen job around n) (some_is (main_call ∷ []) ds w) (waves_seen j 0 (ref main_call) u lt e wave_zero)
  show_seen j (suc i) u ds lt e w =
      let f = wave_listed (nat_le (suc i) 100) (wave job around n (suc i)) ds w in
      let all = waves_seen j (suc i) f.0 u lt e f.1 in
      subst (AllSeen job around n) f.2 (each_in (λ d. see job around n d ≢ None) (distinct_refs f.0)
      (λ d k. in_each (λ d. see job around n d ≢ None) (refs f.0) d all (distinct_refs_in f.0 d k)))

  -- ---- any task

  state_halt : (f : List ℕ) (j : ℕ) (o : Option (Halt ⊥)) (a : State) → halt_state f j o ≡ Some a → (h : Halt ⊥) × (o ≡ Some h)
  state_halt f j None a e = absurd (none_some a e)
  state_halt f j (Some h) a e = (h, refl)

  state_wave : (j : ℕ) (o : Option Val) (a : State) → wave_state j o ≡ Some a → (u : Val) × (o ≡ Some u)
  state_wave j None a e = absurd (none_some a e)
  state_wave j (Some u) a e = (u, refl)

  -- what it waited for before it came to its wait j
  pub seen_before : (t : Task) (j : ℕ) (a : State) → stands_at job around n t j ≡ Some a → (i : ℕ) (ds : List Desc) → i < j
      → wait_at job around n t i ≡ Some ds → AllSeen job around n ds
  seen_before Task.show j a e i ds lt w = let u = state_wave j (wave job around n j) a e in show_seen j i u.0 ds lt u.1 w
  seen_before (Task.of (call f c vs)) zero a e i ds lt w = absurd (omega (arith, lt))
  seen_before (Task.of (call f c vs)) (suc j) a e zero ds lt w = subst (AllSeen job around n) (some_is [] ds w) tt
  seen_before (Task.of (call f c vs)) (suc j) a e (suc i) ds lt w =
      let h = state_halt f (suc j) (halt (see job around n) j (run_of job around f c vs)) a e in
      halt_seen (see job around n) (run_of job around f c vs) j i h.0 ds (omega (arith, lt)) h.1 (waits_at job around n (Task.of (call f c vs)) i ∙ w)
  seen_before (Task.of (out x v m k)) j a e i ds lt w = absurd (none_some a e)
  seen_before (Task.of (input k)) j a e i ds lt w = absurd (none_some a e)
  seen_before (Task.of (known b)) j a e i ds lt w = absurd b
