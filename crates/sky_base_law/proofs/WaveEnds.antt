-- A result all of whose waves are seen comes to an answer.
use Rattle.std.proofs.Common.{◌≡◌, ◌≢◌, ℕ, zero, suc, List, [], ◌∷◌, Bool, true, false, Option, Some, None, Result, Ok, Err, slice_get, refl, ap, sym}
use Rattle.std.proofs.Common.{◌∙◌, subst, inl}
use Rattle.sky_base.specs.Val.{null, truth, num, text, list, dict, fun, ref, refs, vals_refs, pairs_refs, depth, size}
use Rattle.sky_base.specs.Res.{Object}
use Rattle.sky_base.specs.See.{Val, Desc, Obj, Job, Around, Answered, Gathered, not_yet, faulty, all, gather, see, as_value, val_of, replaced, Turn}
use Rattle.sky_base.specs.See.{text_of, next_if, next_within, next_value, lone, last_turn, turn_all, turn_refs, turn, on_turn, round, wave_on, wave}
use Rattle.sky_base.specs.See.{main_call, job_answer}
use Rattle.sky_base.specs.Needed.{distinct_refs, unless_none, wave_refs}
use Rattle.sky_base_law.specs.Tasks.{In, Each, wait_then, waits_in, waves_from, is_answer}
use Rattle.sky_base_law.proofs.TaskFuel.{blind, waves_step, wave_next}
use Rattle.sky_base_law.proofs.TaskOutputs.{each_in, in_each, in_distinct_refs}
use Rattle.sky_base_law.proofs.GatheredObjects.{gathered}

text_there : (t : Option (List ℕ)) → text_of t ≢ Answered.not_yet
text_there None e = cc
text_there (Some t) e = cc

last_there : (ds : List Desc) (t : Option (List ℕ)) → last_turn ds t ≢ Answered.not_yet
last_there [] t = text_there t
last_there (d ∷ ds) t = λ e. cc

module _ (job : Job) (around : Around) (n : ℕ) where
  abbrev Seen : List Desc → Type 0
  Seen ds = Each (λ d. see job around n d ≢ None) ds

  abbrev Blind : Turn
  Blind = Turn.ends Answered.not_yet

  ends_there : (a : Answered) → a ≢ Answered.not_yet → Turn.ends a ≢ Blind
  ends_there a h e = h cc

  if_there : (deep large : Bool) (u : Val) → next_if deep large u ≢ Blind
  if_there true large u = λ e. cc
  if_there false true u = λ e. cc
  if_there false false u = λ e. cc

  value_there : (g : Gathered Val) (a : Val) → g ≢ not_yet → next_value g a ≢ Blind
  value_there not_yet a h = absurd (h refl)
  value_there (faulty f) a h = λ e. cc
  value_there (all us) a h = if_there _ _ _

  all_there : (a : Val) → Seen (refs a) → turn_all job around n a ≢ Blind
  all_there a h = value_there _ a (gathered (as_value around) (see job around n) (refs a) h)

  lone_there : (o : Option Obj) (t : Turn) → t ≢ Blind → lone o t ≢ Blind
  lone_there None t h = h
  lone_there (Some (Object.bytes b)) t h = λ e. cc
  lone_there (Some (Object.data_of u)) t h = h
  lone_there (Some (Object.fault f)) t h = h

  refs_there : (ds : List Desc) (a : Val) → turn_all job around n a ≢ Blind → turn_refs job around n ds a ≢ Blind
  refs_there [] a h = ends_there _ (text_there (around.writes a))
  refs_there (d ∷ ds) null h = h
  refs_there (d ∷ ds) (truth b) h = h
  refs_there (d ∷ ds) (num z) h = h
  refs_there (d ∷ ds) (text t) h = h
  refs_there (d ∷ ds) (list us) h = h
  refs_there (d ∷ ds) (dict ps) h = h
  refs_there (d ∷ ds) (fun f c) h = h
  refs_there (d ∷ ds) (ref e) h = lone_there (see job around n e) _ h

  turn_there : (a : Val) → Seen (refs a) → turn job around n a ≢ Blind
  turn_there a h = refs_there (refs a) a (all_there a h)

  -- each wait of the result from a wave on is seen
  abbrev pub WavesSeen : ℕ → ℕ → Type 0
  WavesSeen k j = (i : ℕ) (ds : List Desc) → slice_get (waits_in (waves_from job around n k j)) i ≡ Some ds → Seen ds

  round_is : (k : ℕ) (a : Val) → round job around n (suc k) a ≡ on_turn job around n (turn job around n a) (λ u. round job around n k u)
  unfolding round
  round_is k a = refl

  round_zero : (a : Val) → round job around n 0 a ≡ last_turn (refs a) (around.writes a)
  unfolding round
  round_zero a = refl

  -- a value without references is the answer
  plain_round : (k : ℕ) (a : Val) → refs a ≡ [] → round job around n (suc k) a ≢ Answered.not_yet
  plain_round k a e q =
      text_there (around.writes a) (sym (round_is k a
      ∙ ap (λ ds. on_turn job around n (turn_refs job around n ds a) (λ u. round job around n k u)) e) ∙ q)

  waves_are : (k j : ℕ) (u : Val) → wave job around n j ≡ Some u → waves_from job around n (suc k) j
      ≡ wait_then (unless_none (distinct_refs u)) (waves_from job around n k (suc j))
  waves_are k j u e = waves_step job around n k j (Some u) e

  -- what stands in no list of distinct ones stands nowhere
  none_refs : (u : Val) (ds : List Desc) → refs u ≡ ds → distinct_refs u ≡ [] → ds ≡ []
  none_refs u [] e q = refl
  none_refs u (d ∷ ds) e q = absurd (subst (In d) q (in_distinct_refs u d (subst (In d) (sym e) (inl refl))))

  record Split (k j : ℕ) (u : Val) (ds : List Desc) : Type 0 where
    own : Seen ds
    rest : WavesSeen k (suc j)

  split : (k j : ℕ) (u : Val) (ds : List Desc) (d : Desc) (es : List Desc) → ds ≡ d ∷ es → wave job around n j ≡ Some u → distinct_refs u ≡ ds
      → WavesSeen (suc k) j → Split k j u ds
  split k j u ds d es is e q h =
      let waits = waves_are k j u e ∙ ap (λ z. wait_then (unless_none z) (waves_from job around n k (suc j))) (q ∙ is) in
      record {
        own = subst Seen (sym is) (h 0 (d ∷ es) (ap (λ z. slice_get (waits_in z) 0) waits));
        rest = λ i fs g. h (suc i) fs (ap (λ z. slice_get (waits_in z) (suc i)) waits ∙ g);
      }

  seen_refs : (u : Val) → Seen (distinct_refs u) → Seen (refs u)
  seen_refs u h =
      each_in (λ d. see job around n d ≢ None) (refs u)
      (λ d i. in_each (λ d. see job around n d ≢ None) (distinct_refs u) d h (in_distinct_refs u d i))

  -- the round at a value is there where each next one is
  from_turn : (k j : ℕ) (a : Val) (t : Turn) → wave job around n j ≡ Some a → Seen (refs a) → turn job around n a ≡ t
      → ((u : Val) → wave job around n (suc j) ≡ Some u → round job around n k u ≢ Answered.not_yet)
      → round job around n (suc k) a ≢ Answered.not_yet
  from_turn k j a (Turn.ends x) e own q rest = λ z.
      let is : x ≡ Answered.not_yet = sym (round_is k a ∙ ap (λ t. on_turn job around n t (λ u. round job around n k u)) q) ∙ z in
      turn_there a own (q ∙ ap Turn.ends is)
  from_turn k j a (Turn.next u) e own q rest = λ z.
      rest u (wave_next job around n j a (Turn.next u) e q)
      (sym (round_is k a ∙ ap (λ t. on_turn job around n t (λ u. round job around n k u)) q) ∙ z)

  -- a next value without references is the answer, and one with some is a wave whose wait is seen
  at_next : (k j : ℕ) (u : Val) (ds : List Desc) → distinct_refs u ≡ ds → wave job around n j ≡ Some u → WavesSeen (suc k) j
      → (Seen (refs u) → WavesSeen k (suc j) → round job around n (suc k) u ≢ Answered.not_yet) → round job around n (suc k) u ≢ Answered.not_yet
  at_next k j u [] q w seen rec = plain_round k u (none_refs u (refs u) refl q)
  at_next k j u (d ∷ ds) q w seen rec =
      let s = split k j u (d ∷ ds) d ds refl w q seen in
      rec (seen_refs u (subst Seen (sym q) s.own)) s.rest

  pub answers : (k j : ℕ) (a : Val) → wave job around n j ≡ Some a → Seen (refs a) → WavesSeen k (suc j)
      → round job around n (suc k) a ≢ Answered.not_yet
  answers zero j a e own h =
      from_turn zero j a (turn job around n a) e own refl (λ u w q. last_there (refs u) (around.writes u) (sym (round_zero u) ∙ q))
  answers (suc k) j a e own h =
      from_turn (suc k) j a (turn job around n a) e own refl
      (λ u w. at_next k (suc j) u (distinct_refs u) refl w h (λ mine rest. answers k (suc j) u w mine rest))
