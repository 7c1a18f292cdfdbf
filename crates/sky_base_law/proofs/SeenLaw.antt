-- More fuel changes nothing that is seen, and adds to what is done.
use Rattle.sky_base.specs.Val as v
use Rattle.std.proofs.Common.{◌≡◌, ◌≢◌, ℕ, zero, suc, ◌+◌, List, [], ◌∷◌, ◌++◌, Option, Some, None, Result, Ok, Err, ◌⊎◌, inl, inr, refl, sym, ap}
use Rattle.std.proofs.Common.{ap₂, ◌∙◌, subst, arith, Bool, true, false, nat_le}
use Rattle.sky_base.specs.Val.{null, truth, num, text, list, dict, fun, ref, call, out, input, known, refs}
use Rattle.sky_base.specs.Res.{Object, Res, Fin, Tell, Ask}
use Rattle.sky_base.specs.Read.{joined, Outcome, no_fuel, Act, made, waited, Halt, refs_of, see_all, on_seen, acts_seen, halts_seen, outcome, acts}
use Rattle.sky_base.specs.Read.{halt}
use Rattle.sky_base.specs.See.{Val, Vals, Pairs, Desc, Obj, Job, Around, Gathered, not_yet, all, gather_on, gather_one, gather, as_bytes, as_value}
use Rattle.sky_base.specs.See.{executed_on, object_of, run_of, see, Answered, Turn, next_value, lone, turn_all, turn_refs, turn, on_turn, round}
use Rattle.sky_base.specs.See.{wave_on, turn_of, wave, job_answer, main_call, Means}
use Rattle.sky_base.specs.Needed.{Task, wait_at, WaitOf, wave_refs, only_if, halt_refs, State, stands_at, StandsAt, wave_state, halt_state}
use Rattle.sky_base.specs.declared.fault.Fault.{Fault}

-- x is y, or nothing yet
abbrev pub Kept : {A : Type 0} → A → A → A → Type 0
Kept bot x y = (x ≡ bot) ⊎ (x ≡ y)

module _ {A : Type 0} where
  pub kept_map : {B : Type 0} (bot x y : A) (low : B) (f : A → B) → f bot ≡ low → Kept bot x y → Kept low (f x) (f y)
  kept_map bot x y low f e (inl h) = inl (ap f h ∙ e)
  kept_map bot x y low f e (inr h) = inr (ap f h)

  pub kept_over : (bot x y z : A) → Kept bot x y → Kept bot y z → Kept bot x z
  kept_over bot x y z (inl h) g = inl h
  kept_over bot x y z (inr h) (inl g) = inl (h ∙ g)
  kept_over bot x y z (inr h) (inr g) = inr (h ∙ g)

  pub kept_is : (bot x y a : A) → Kept bot x y → x ≡ a → a ≢ bot → y ≡ a
  kept_is bot x y a (inl h) e ne = absurd (ne (sym e ∙ h))
  kept_is bot x y a (inr h) e ne = sym h ∙ e

  abbrev pub Begins : List A → List A → Type 0
  Begins xs ys = (zs : List A) × (ys ≡ xs ++ zs)

  pub begins_cons : (x : A) (xs ys : List A) → Begins xs ys → Begins (x ∷ xs) (x ∷ ys)
  begins_cons x xs ys b = (b.0, ap (λ zs. x ∷ zs) b.1)

-- n and so many more
abbrev pub on : ℕ → ℕ → ℕ
on zero n = n
on (suc k) n = suc (on k n)

pub on_is : (k n : ℕ) → on k n ≡ k + n
on_is zero n = omega arith
on_is (suc k) n = ap suc (on_is k n) ∙ omega arith

pub on_either : (n m : ℕ) → on n m ≡ on m n
on_either n m = on_is n m ∙ omega arith ∙ sym (on_is m n)

module _ {A : Type 0} (bot : A) (f : ℕ → A) (step : (n : ℕ) → Kept bot (f n) (f (suc n))) where
  pub kept_on : (k n : ℕ) → Kept bot (f n) (f (on k n))
  kept_on zero n = inr refl
  kept_on (suc k) n = kept_over bot (f n) (f (on k n)) (f (suc (on k n))) (kept_on k n) (step (on k n))

  -- what comes at two numbers is one thing
  pub kept_one : (n m : ℕ) (a b : A) → f n ≡ a → f m ≡ b → a ≢ bot → b ≢ bot → a ≡ b
  kept_one n m a b e g na nb =
      sym (kept_is bot (f n) (f (on m n)) a (kept_on m n) e na) ∙ ap f (on_either m n) ∙ kept_is bot (f m) (f (on n m)) b (kept_on n m) g nb

some_not : {A : Type 0} (a : A) → Some a ≢ None
some_not a e = absurd cc

-- ---- one run

module _ {N : Type 0} (few more : v.Desc N → Option (Object N)) (grows : (d : v.Desc N) → Kept None (few d) (more d)) where
  join_kept : (x x' : Option (Object N)) (y y' : Option (List (Object N))) → Kept None x x' → Kept None y y' → Kept None (joined x y) (joined x' y')
  join_kept x x' y y' (inl e) g = inl (ap (λ z. joined z y) e)
  join_kept x x' y y' (inr e) (inl g) = inl (ap (λ z. joined x z) g ∙ none x)
    where
      none : (z : Option (Object N)) → joined z None ≡ None
      none None = refl
      none (Some o) = refl
  join_kept x x' y y' (inr e) (inr g) = inr (ap₂ joined e g)

  pub all_kept : (ds : List (v.Desc N)) → Kept None (see_all few ds) (see_all more ds)
  all_kept [] = inr refl
  all_kept (d ∷ ds) = join_kept (few d) (more d) (see_all few ds) (see_all more ds) (grows d) (all_kept ds)

  seen_kept : (x y : Option (List (Object N))) (k h : List (Object N) → Outcome N) → Kept None x y
      → ((os : List (Object N)) → Kept no_fuel (k os) (h os)) → Kept no_fuel (on_seen x k) (on_seen y h)
  seen_kept x y k h (inl e) g = inl (ap (λ z. on_seen z k) e)
  seen_kept x y k h (inr e) g = subst (λ z. Kept no_fuel (on_seen x k) (on_seen z h)) e (same x)
    where
      same : (z : Option (List (Object N))) → Kept no_fuel (on_seen z k) (on_seen z h)
      same None = inr refl
      same (Some os) = g os

  -- an end stays
  pub outcome_kept : (r : Res N) → Kept no_fuel (outcome few r) (outcome more r)
  outcome_kept (Fin e st) = inr refl
  outcome_kept (Tell d r) = outcome_kept r
  outcome_kept (Ask w fr st k) = seen_kept (see_all few (refs_of w)) (see_all more (refs_of w)) _ _ (all_kept (refs_of w)) (λ os. outcome_kept (k os))

  halts_kept : (x y : Option (List (Object N))) (k h : List (Object N) → Option (Halt N)) → Kept None x y
      → ((os : List (Object N)) → Kept None (k os) (h os)) → Kept None (halts_seen x k) (halts_seen y h)
  halts_kept x y k h (inl e) g = inl (ap (λ z. halts_seen z k) e)
  halts_kept x y k h (inr e) g = subst (λ z. Kept None (halts_seen x k) (halts_seen z h)) e (same x)
    where
      same : (z : Option (List (Object N))) → Kept None (halts_seen z k) (halts_seen z h)
      same None = inr refl
      same (Some os) = g os

  -- where a run stands at a wait stays
  pub halt_kept : (j : ℕ) (r : Res N) → Kept None (halt few j r) (halt more j r)
  halt_kept j (Fin e st) = inr refl
  halt_kept j (Tell d r) = halt_kept j r
  halt_kept zero (Ask w fr st k) = inr refl
  halt_kept (suc j) (Ask w fr st k) = halts_kept (see_all few (refs_of w)) (see_all more (refs_of w)) _ _ (all_kept (refs_of w))
      (λ os. halt_kept j (k os))

  acts_begin_on : (x y : Option (List (Object N))) (k h : List (Object N) → List (Act N)) → Kept None x y
      → ((os : List (Object N)) → Begins (k os) (h os)) → Begins (acts_seen x k) (acts_seen y h)
  acts_begin_on x y k h (inl e) g = (acts_seen y h, ap (λ z. acts_seen z k ++ acts_seen y h) (sym e))
  acts_begin_on x y k h (inr e) g = subst (λ z. Begins (acts_seen x k) (acts_seen z h)) e (same x)
    where
      same : (z : Option (List (Object N))) → Begins (acts_seen z k) (acts_seen z h)
      same None = ([], refl)
      same (Some os) = g os

  -- what was done with less fuel begins what is done with more
  pub acts_begin : (r : Res N) → Begins (acts few r) (acts more r)
  acts_begin (Fin e st) = ([], refl)
  acts_begin (Tell d r) = begins_cons (made d) (acts few r) (acts more r) (acts_begin r)
  acts_begin (Ask w fr st k) =
      begins_cons (waited (refs_of w)) _ _ (acts_begin_on (see_all few (refs_of w)) (see_all more (refs_of w)) _ _ (all_kept (refs_of w))
      (λ os. acts_begin (k os)))

-- ---- all that is seen

module _ {A : Type 0} (turn_to : Obj → Result A Fault) where
  one_kept : (x : Option Obj) (r r' : Gathered A) → Kept not_yet r r' → Kept not_yet (gather_one x turn_to r) (gather_one x turn_to r')
  one_kept None r r' h = inl refl
  one_kept (Some o) r r' (inl e) = inl (ap (gather_on (turn_to o)) e ∙ none (turn_to o))
    where
      none : (x : Result A Fault) → gather_on x not_yet ≡ not_yet
      none (Ok a) = refl
      none (Err f) = refl
  one_kept (Some o) r r' (inr e) = inr (ap (gather_on (turn_to o)) e)

  pub gather_kept : (few more : Desc → Option Obj) → ((d : Desc) → Kept None (few d) (more d)) → (ds : List Desc)
      → Kept not_yet (gather few turn_to ds) (gather more turn_to ds)
  gather_kept few more h [] = inr refl
  gather_kept few more h (d ∷ ds) = step (h d) (one_kept (few d) (gather few turn_to ds) (gather more turn_to ds) (gather_kept few more h ds))
    where
      step : Kept None (few d) (more d) → Kept not_yet (gather_one (few d) turn_to (gather few turn_to ds))
          (gather_one (few d) turn_to (gather more turn_to ds))
          → Kept not_yet (gather_one (few d) turn_to (gather few turn_to ds)) (gather_one (more d) turn_to (gather more turn_to ds))
      step (inl e) g = inl (ap (λ x. gather_one x turn_to (gather few turn_to ds)) e)
      step (inr e) g =
          subst (λ x. Kept not_yet (gather_one (few d) turn_to (gather few turn_to ds)) (gather_one x turn_to (gather more turn_to ds))) e g

module _ (job : Job) (around : Around) where
  -- what is seen stays with more fuel
  pub see_kept : (n : ℕ) (d : Desc) → Kept None (see job around n d) (see job around (suc n) d)
  unfolding see
  see_kept zero d = inl refl
  see_kept (suc n) (call f c vs) =
      kept_map no_fuel _ _ None object_of refl (outcome_kept (λ d. see job around n d) (λ d. see job around (suc n) d) (λ d. see_kept n d)
      (run_of job around f c vs))
  see_kept (suc n) (out x a m i) =
      kept_map not_yet _ _ None (executed_on around x a m i) refl
      (gather_kept (as_bytes around) (λ d. see job around n d) (λ d. see job around (suc n) d) (λ d. see_kept n d) (refs a))
  see_kept (suc n) (input k) = inr refl
  see_kept (suc n) (known b) = absurd b

  -- what a task did stays, and grows
  pub acts_grow : (n : ℕ) (f : List ℕ) (c : Pairs) (vs : Vals)
      → Begins (acts (see job around n) (run_of job around f c vs)) (acts (see job around (suc n)) (run_of job around f c vs))
  acts_grow n f c vs = acts_begin (see job around n) (see job around (suc n)) (see_kept n) (run_of job around f c vs)

  abbrev blind : Turn
  blind = Turn.ends Answered.not_yet

  all_turn_kept : (n : ℕ) (a : Val) → Kept blind (turn_all job around n a) (turn_all job around (suc n) a)
  all_turn_kept n a = kept_map not_yet _ _ blind (λ g. next_value g a) refl
      (gather_kept (as_value around) (see job around n) (see job around (suc n)) (see_kept n) (refs a))

  lone_kept : (n : ℕ) (e : Desc) → Kept blind (lone (see job around n e) (turn_all job around n (ref e)))
      (lone (see job around (suc n) e) (turn_all job around (suc n) (ref e)))
  lone_kept n e = cases (see_kept n e)
    where
      empty : see job around n e ≡ None → turn_all job around n (ref e) ≡ blind
      empty q = ap (λ x. next_value (gather_one x (as_value around) (all [])) (ref e)) q

      same : (x : Option Obj) → Kept blind (lone x (turn_all job around n (ref e))) (lone x (turn_all job around (suc n) (ref e)))
      same None = all_turn_kept n (ref e)
      same (Some (Object.bytes b)) = inr refl
      same (Some (Object.data_of u)) = all_turn_kept n (ref e)
      same (Some (Object.fault f)) = all_turn_kept n (ref e)

      cases : Kept None (see job around n e) (see job around (suc n) e)
          → Kept blind (lone (see job around n e) (turn_all job around n (ref e)))
          (lone (see job around (suc n) e) (turn_all job around (suc n) (ref e)))
      cases (inl q) = inl (ap (λ x. lone x (turn_all job around n (ref e))) q ∙ empty q)
      cases (inr q) =
          subst (λ x. Kept blind (lone (see job around n e) (turn_all job around n (ref e))) (lone x (turn_all job around (suc n) (ref e)))) q
          (same (see job around n e))

  refs_kept : (n : ℕ) (ds : List Desc) (a : Val) → Kept blind (turn_refs job around n ds a) (turn_refs job around (suc n) ds a)
  refs_kept n [] a = inr refl
  refs_kept n (d ∷ ds) (ref e) = lone_kept n e
  refs_kept n (d ∷ ds) null = all_turn_kept n null
  refs_kept n (d ∷ ds) (truth b) = all_turn_kept n (truth b)
  refs_kept n (d ∷ ds) (num z) = all_turn_kept n (num z)
  refs_kept n (d ∷ ds) (text t) = all_turn_kept n (text t)
  refs_kept n (d ∷ ds) (list vs) = all_turn_kept n (list vs)
  refs_kept n (d ∷ ds) (dict ps) = all_turn_kept n (dict ps)
  refs_kept n (d ∷ ds) (fun f c) = all_turn_kept n (fun f c)

  pub turn_kept : (n : ℕ) (a : Val) → Kept blind (turn job around n a) (turn job around (suc n) a)
  turn_kept n a = refs_kept n (refs a) a

  on_turn_kept : (n : ℕ) (t t' : Turn) (go go' : Val → Answered) → Kept blind t t' → ((u : Val) → Kept Answered.not_yet (go u) (go' u))
      → Kept Answered.not_yet (on_turn job around n t go) (on_turn job around (suc n) t' go')
  on_turn_kept n t t' go go' (inl e) h = inl (ap (λ x. on_turn job around n x go) e)
  on_turn_kept n t t' go go' (inr e) h =
      subst (λ x. Kept Answered.not_yet (on_turn job around n t go) (on_turn job around (suc n) x go')) e (same t)
    where
      same : (x : Turn) → Kept Answered.not_yet (on_turn job around n x go) (on_turn job around (suc n) x go')
      same (Turn.ends a) = inr refl
      same (Turn.next u) = h u

  round_kept : (n k : ℕ) (a : Val) → Kept Answered.not_yet (round job around n k a) (round job around (suc n) k a)
  unfolding round
  round_kept n zero a = inr refl
  round_kept n (suc k) a = on_turn_kept n (turn job around n a) (turn job around (suc n) a) _ _ (turn_kept n a) (λ u. round_kept n k u)

  -- an answer stays with more fuel
  pub answer_kept : (n : ℕ) → Kept Answered.not_yet (job_answer job around n) (job_answer job around (suc n))
  unfolding job_answer
  answer_kept n = round_kept n 101 (ref main_call)

  -- a job means at most one answer
  pub means_one : (a b : Answered) → Means job around a → Means job around b → a ≡ b
  means_one a b (n, e, na) (m, g, nb) = kept_one Answered.not_yet (job_answer job around) answer_kept n m a b e g na nb

  wave_step : (n : ℕ) (x y : Option Val) → Kept None x y
      → Kept None (wave_on job around n (turn_of job around n x)) (wave_on job around (suc n) (turn_of job around (suc n) y))
  wave_step n x y (inl e) = inl (ap (λ z. wave_on job around n (turn_of job around n z)) e)
  wave_step n x y (inr e) =
      subst (λ z. Kept None (wave_on job around n (turn_of job around n x)) (wave_on job around (suc n) (turn_of job around (suc n) z))) e (same x)
    where
      same : (z : Option Val) → Kept None (wave_on job around n (turn_of job around n z)) (wave_on job around (suc n) (turn_of job around (suc n) z))
      same None = inr refl
      same (Some u) = kept_map blind _ _ None (λ t. wave_on job around n (Some t)) refl (turn_kept n u)

  pub wave_kept : (n k : ℕ) → Kept None (wave job around n k) (wave job around (suc n) k)
  unfolding wave
  wave_kept n zero = inr refl
  wave_kept n (suc k) = wave_step n (wave job around n k) (wave job around (suc n) k) (wave_kept n k)

  only_kept : {A : Type 0} (b : Bool) (x y : Option A) → Kept None x y → Kept None (only_if b x) (only_if b y)
  only_kept true x y h = h
  only_kept false x y h = inr refl

  -- what a task waits for stays with more fuel
  pub wait_kept : (t : Task) (j n : ℕ) → Kept None (wait_at job around n t j) (wait_at job around (suc n) t j)
  wait_kept Task.show zero n = inr refl
  wait_kept Task.show (suc j) n = only_kept (nat_le (suc j) 100) _ _ (kept_map None _ _ None wave_refs refl (wave_kept n (suc j)))
  wait_kept (Task.of (call f c vs)) zero n = inr refl
  wait_kept (Task.of (call f c vs)) (suc j) n =
      kept_map None _ _ None halt_refs refl (halt_kept (see job around n) (see job around (suc n)) (see_kept n) j (run_of job around f c vs))
  wait_kept (Task.of (out x a m i)) zero n = inr refl
  wait_kept (Task.of (out x a m i)) (suc j) n = inr refl
  wait_kept (Task.of (input k)) j n = inr refl
  wait_kept (Task.of (known b)) j n = absurd b

  some_same : {A : Type 0} (a b : A) → Some a ≡ Some b → a ≡ b
  some_same a b e = cc

  -- a task's wait is a function where it exists
  pub wait_one : (t : Task) (j : ℕ) (ds es : List Desc) → WaitOf job around t j ds → WaitOf job around t j es → ds ≡ es
  wait_one t j ds es (n, e) (m, g) =
      some_same ds es (kept_one None (λ i. wait_at job around i t j) (wait_kept t j) n m (Some ds) (Some es) e g (some_not ds) (some_not es))

  pub stands_kept : (t : Task) (j n : ℕ) → Kept None (stands_at job around n t j) (stands_at job around (suc n) t j)
  stands_kept Task.show j n = kept_map None _ _ None (wave_state j) refl (wave_kept n j)
  stands_kept (Task.of (call f c vs)) zero n = inr refl
  stands_kept (Task.of (call f c vs)) (suc j) n =
      kept_map None _ _ None (halt_state f (suc j)) refl
      (halt_kept (see job around n) (see job around (suc n)) (see_kept n) j (run_of job around f c vs))
  stands_kept (Task.of (out x a m i)) j n = inr refl
  stands_kept (Task.of (input k)) j n = inr refl
  stands_kept (Task.of (known b)) j n = absurd b

  -- so is how a task stands at it
  pub stands_one : (t : Task) (j : ℕ) (s u : State) → StandsAt job around t j s → StandsAt job around t j u → s ≡ u
  stands_one t j s u (n, e) (m, g) =
      some_same s u (kept_one None (λ i. stands_at job around i t j) (stands_kept t j) n m (Some s) (Some u) e g (some_not s) (some_not u))
