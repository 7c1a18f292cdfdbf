-- From a wait on, a run goes as it goes from the start.
use Rattle.std.proofs.Common.{◌≡◌, ℕ, zero, suc, List, [], ◌∷◌, Option, Some, None, slice_get, refl, sym, ap, ◌∙◌, subst}
use Rattle.sky_base.specs.Val.{Desc}
use Rattle.sky_base.specs.Res.{Object, St, Entry, Wait, Res, Fin, Tell, Ask}
use Rattle.sky_base.specs.Eval.{World, wait_end, plug}
use Rattle.sky_base.specs.Read.{Act, made, waited, Halt, refs_of, see_all, on_seen, acts_seen, halts_seen, seen_list, segment, outcome, acts, halt}
use Rattle.sky_base.specs.Read.{segment_from, rest_of}
use Rattle.sky_base_law.proofs.FormsLaw.{Good}
use Rattle.sky_base_law.proofs.Lists.{some_is, none_some}

module _ {N : Type 0} (w : World N) (d : ℕ) (see : Desc N → Option (Object N)) where
  -- a wait and what comes for these objects, where it is the one given
  same_rest : (q : Wait N) (fr : List (Entry N)) (st : St N) (h : Halt N) (os : List (Object N))
      → Some (record { wait = q; forms = fr; st = st }) ≡ Some h → plug w d fr (Fin (wait_end w q os) st) ≡ rest_of w d h os
  same_rest q fr st h os at = ap (λ (x : Halt N). rest_of w d x os) (some_is _ h at)

  same_seen : (q : Wait N) (fr : List (Entry N)) (st : St N) (h : Halt N) (os : List (Object N))
      → Some (record { wait = q; forms = fr; st = st }) ≡ Some h → see_all see (refs_of h.wait) ≡ Some os → see_all see (refs_of q) ≡ Some os
  same_seen q fr st h os at seen = ap (λ (x : Halt N). see_all see (refs_of x.wait)) (some_is _ h at) ∙ seen

  outcome_on : (x : Option (List (Object N))) (k : List (Object N) → Res N) (j : ℕ) (h : Halt N) (os : List (Object N))
      → ((y : List (Object N)) → halt see j (k y) ≡ Some h → outcome see (k y) ≡ outcome see (rest_of w d h os))
      → halts_seen x (λ y. halt see j (k y)) ≡ Some h → on_seen x (λ y. outcome see (k y)) ≡ outcome see (rest_of w d h os)
  outcome_on None k j h os rest at = absurd (none_some h at)
  outcome_on (Some y) k j h os rest at = rest y at

  -- the end from a wait on is the end from the start
  pub ends_on : (r : Res N) (c j : ℕ) (h : Halt N) (os : List (Object N)) → Good w d c r → halt see j r ≡ Some h → see_all see (refs_of h.wait)
      ≡ Some os → outcome see r ≡ outcome see (rest_of w d h os)
  ends_on (Fin e st) c j h os good at seen = absurd (none_some h at)
  ends_on (Tell o r) c j h os good at seen = ends_on r c j h os good.1 at seen
  ends_on (Ask q fr st k) c zero h os good at seen =
      ap (λ x. on_seen x (λ y. outcome see (k y))) (same_seen q fr st h os at seen) ∙ ap (outcome see) (sym (good os).0 ∙ same_rest q fr st h os at)
  ends_on (Ask q fr st k) c (suc j) h os good at seen =
      outcome_on (see_all see (refs_of q)) k j h os (λ y i. ends_on (k y) c j h os (good y).1 i seen) at

  -- the next wait from a wait on is the next wait from the start
  halt_next : (x : Option (List (Object N))) (k : List (Object N) → Res N) (j : ℕ) (h : Halt N) (os : List (Object N))
      → ((y : List (Object N)) → halt see j (k y) ≡ Some h → halt see (suc j) (k y) ≡ halt see 0 (rest_of w d h os))
      → halts_seen x (λ y. halt see j (k y)) ≡ Some h → halts_seen x (λ y. halt see (suc j) (k y)) ≡ halt see 0 (rest_of w d h os)
  halt_next None k j h os rest at = absurd (none_some h at)
  halt_next (Some y) k j h os rest at = rest y at

  pub halts_on : (r : Res N) (c j : ℕ) (h : Halt N) (os : List (Object N)) → Good w d c r → halt see j r ≡ Some h → see_all see (refs_of h.wait)
      ≡ Some os → halt see (suc j) r ≡ halt see 0 (rest_of w d h os)
  halts_on (Fin e st) c j h os good at seen = absurd (none_some h at)
  halts_on (Tell o r) c j h os good at seen = halts_on r c j h os good.1 at seen
  halts_on (Ask q fr st k) c zero h os good at seen =
      ap (λ x. halts_seen x (λ y. halt see 0 (k y))) (same_seen q fr st h os at seen) ∙ ap (halt see 0) (sym (good os).0 ∙ same_rest q fr st h os at)
  halts_on (Ask q fr st k) c (suc j) h os good at seen =
      halt_next (see_all see (refs_of q)) k j h os (λ y i. halts_on (k y) c j h os (good y).1 i seen) at

  made_on : (x : Option (List (Object N))) (k : List (Object N) → Res N) (j : ℕ) (h : Halt N) (os : List (Object N))
      → ((y : List (Object N)) → halt see j (k y) ≡ Some h → segment_from see (suc j) (k y) ≡ segment (rest_of w d h os))
      → halts_seen x (λ y. halt see j (k y)) ≡ Some h → seen_list x (λ y. segment_from see (suc j) (k y)) ≡ segment (rest_of w d h os)
  made_on None k j h os rest at = absurd (none_some h at)
  made_on (Some y) k j h os rest at = rest y at

  -- what is made from a wait on, up to the next one, is what the whole run makes between these waits
  pub makes_on : (r : Res N) (c j : ℕ) (h : Halt N) (os : List (Object N)) → Good w d c r → halt see j r ≡ Some h → see_all see (refs_of h.wait)
      ≡ Some os → segment_from see (suc j) r ≡ segment (rest_of w d h os)
  makes_on (Fin e st) c j h os good at seen = absurd (none_some h at)
  makes_on (Tell o r) c j h os good at seen = makes_on r c j h os good.1 at seen
  makes_on (Ask q fr st k) c zero h os good at seen =
      ap (λ x. seen_list x (λ y. segment (k y))) (same_seen q fr st h os at seen) ∙ ap segment (sym (good os).0 ∙ same_rest q fr st h os at)
  makes_on (Ask q fr st k) c (suc j) h os good at seen =
      made_on (see_all see (refs_of q)) k j h os (λ y i. makes_on (k y) c j h os (good y).1 i seen) at

  -- the rest of a run from a wait on is good too
  rest_on : (x : Option (List (Object N))) (k : List (Object N) → Res N) (j c : ℕ) (h : Halt N) (os : List (Object N))
      → ((y : List (Object N)) → halt see j (k y) ≡ Some h → Good w d c (rest_of w d h os)) → halts_seen x (λ y. halt see j (k y)) ≡ Some h
      → Good w d c (rest_of w d h os)
  rest_on None k j c h os rest at = absurd (none_some h at)
  rest_on (Some y) k j c h os rest at = rest y at

  pub rest_good : (r : Res N) (c j : ℕ) (h : Halt N) (os : List (Object N)) → Good w d c r → halt see j r ≡ Some h → Good w d c (rest_of w d h os)
  rest_good (Fin e st) c j h os good at = absurd (none_some h at)
  rest_good (Tell o r) c j h os good at = rest_good r c j h os good.1 at
  rest_good (Ask q fr st k) c zero h os good at =
      subst (Good w d c) (sym (good os).0 ∙ same_rest q fr st h os at) (good os).1
  rest_good (Ask q fr st k) c (suc j) h os good at =
      rest_on (see_all see (refs_of q)) k j c h os (λ y i. rest_good (k y) c j h os (good y).1 i) at

-- ---- the j-th wait of the acts is where the run stands at its j-th wait

module _ {N : Type 0} (see : Desc N → Option (Object N)) where
  abbrev pub waits_in : List (Act N) → List (List (Desc N))
  waits_in [] = []
  waits_in (made d ∷ rest) = waits_in rest
  waits_in (waited ds ∷ rest) = ds ∷ waits_in rest

  abbrev pub refs_at : Option (Halt N) → Option (List (Desc N))
  refs_at None = None
  refs_at (Some h) = Some (refs_of h.wait)

  no_wait : (j : ℕ) → slice_get (waits_in []) j ≡ None
  no_wait zero = refl
  no_wait (suc j) = refl

  waits_step : (x : Option (List (Object N))) (k : List (Object N) → Res N) (j : ℕ)
      → ((os : List (Object N)) → slice_get (waits_in (acts see (k os))) j ≡ refs_at (halt see j (k os)))
      → slice_get (waits_in (acts_seen x (λ os. acts see (k os)))) j ≡ refs_at (halts_seen x (λ os. halt see j (k os)))
  waits_step None k j h = no_wait j
  waits_step (Some os) k j h = h os

  pub acts_wait : (r : Res N) (j : ℕ) → slice_get (waits_in (acts see r)) j ≡ refs_at (halt see j r)
  acts_wait (Fin e st) j = no_wait j
  acts_wait (Tell d r) j = acts_wait r j
  acts_wait (Ask q fr st k) zero = refl
  acts_wait (Ask q fr st k) (suc j) = waits_step (see_all see (refs_of q)) k j (λ os. acts_wait (k os) j)
