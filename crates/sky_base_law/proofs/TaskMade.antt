-- What a task makes between two waits is one list, and so is the next wait.
use Rattle.std.proofs.Common.{◌≡◌, ℕ, zero, suc, ◌+◌, ◌-◌, ◌<◌, ◌≤◌, List, [], ◌∷◌, ◌++◌, Option, Some, None, slice_get, Bool, true, false, nat_lt}
use Rattle.std.proofs.Common.{inl, inr, refl, sym, ap, ◌∙◌, arith, ltb-true, ltb-false}
use Rattle.std.specs.Option.{option_map}
use Rattle.sky_base.specs.Val as v
use Rattle.sky_base.specs.Read.{Act, made, waited}
use Rattle.sky_base.specs.See.{Desc, Job, Around}
use Rattle.sky_base.specs.Needed.{Task, wait_at, only_if}
use Rattle.sky_base_law.specs.Tasks.{waits_in, after_wait, made_before, made_in, acts_of, ended, made_between, made_after, MadeBetween, MadeAfter}
use Rattle.sky_base_law.specs.Tasks.{NextWait, NextEnd}
use Rattle.sky_base_law.proofs.SeenLaw.{Kept, kept_one, Begins, on, wait_kept}
use Rattle.sky_base_law.proofs.TaskOutputs.{in_each}
use Rattle.sky_base_law.proofs.TaskFuel.{more, kept, waits_at}
use Rattle.sky_base_law.proofs.Lists.{some_is, none_some}

some_none : {A : Type 0} (a : A) → Some a ≡ None → ⊥
some_none a e = cc

yes_no : true ≡ false → ⊥
yes_no e = cc

on_is : (j k : ℕ) → on j k ≡ j + k
on_is zero k = omega arith
on_is (suc j) k = ap suc (on_is j k) ∙ omega arith

module _ {N : Type 0} where
  before_stays : (done more : List (Act N)) (k : ℕ) (es : List (v.Desc N)) → slice_get (waits_in done) k ≡ Some es
      → made_before (suc k) (done ++ more) ≡ made_before (suc k) done
  before_stays [] more k es at = absurd (none_some es at)
  before_stays (made d ∷ done) more k es at = ap (λ ds. d ∷ ds) (before_stays done more k es at)
  before_stays (waited ds ∷ done) more zero es at = refl
  before_stays (waited ds ∷ done) more (suc k) es at = before_stays done more k es at

  after_stays : (done more : List (Act N)) (j k : ℕ) (es : List (v.Desc N)) → slice_get (waits_in done) (on j k) ≡ Some es
      → (after_wait j (done ++ more) ≡ after_wait j done ++ more) × (slice_get (waits_in (after_wait j done)) k ≡ Some es)
  after_stays done more zero k es at = (refl, at)
  after_stays [] more (suc j) k es at = absurd (none_some es at)
  after_stays (made d ∷ done) more (suc j) k es at = after_stays done more (suc j) k es at
  after_stays (waited ds ∷ done) more (suc j) k es at = after_stays done more j k es at

  -- what is made after the wait j and before a later one, of those that were done, stays when more is done
  between_stays : (done later : List (Act N)) (j i : ℕ) (es : List (v.Desc N)) → Begins done later → j ≤ i → slice_get (waits_in done) i
      ≡ Some es → made_before (suc i - j) (after_wait j later) ≡ made_before (suc i - j) (after_wait j done)
  between_stays done later j i es b le at =
      let here : slice_get (waits_in done) (on j (i - j)) ≡ Some es = ap (slice_get (waits_in done)) (on_is j (i - j) ∙ omega arith) ∙ at in
      let parts : (after_wait j (done ++ b.0) ≡ after_wait j done ++ b.0) × (slice_get (waits_in (after_wait j done)) (i - j) ≡ Some es) =
      after_stays done b.0 j (i - j) es here in
      let count : suc i - j ≡ suc (i - j) = omega arith in
      ap (λ m. made_before m (after_wait j later)) count ∙ ap (λ x. made_before (suc (i - j)) (after_wait j x)) b.1
      ∙ ap (made_before (suc (i - j))) parts.0 ∙ before_stays (after_wait j done) b.0 (i - j) es parts.1
      ∙ ap (λ m. made_before m (after_wait j done)) (sym count)

module _ (job : Job) (around : Around) where
  abbrev known_between : Task → (j i n : ℕ) → Option (List Desc)
  known_between t j i n = option_map (λ es. made_between job around n t j i) (wait_at job around n t i)

  between_kept : (t : Task) (j i n : ℕ) → j ≤ i → Kept None (known_between t j (suc i) n) (known_between t j (suc i) (suc n))
  between_kept t j i n le = go (wait_at job around n t (suc i)) refl (wait_kept job around t (suc i) n)
    where
      go : (x : Option (List Desc)) → wait_at job around n t (suc i) ≡ x
          → Kept None (wait_at job around n t (suc i)) (wait_at job around (suc n) t (suc i))
          → Kept None (known_between t j (suc i) n) (known_between t j (suc i) (suc n))
      go x e (inl q) = inl (ap (option_map (λ es. made_between job around n t j (suc i))) q)
      go None e (inr q) = inl (ap (option_map (λ es. made_between job around n t j (suc i))) e)
      go (Some es) e (inr q) =
          inr (ap (option_map (λ es. made_between job around n t j (suc i))) e
          ∙ ap Some (sym (between_stays (acts_of job around n t) (acts_of job around (suc n) t) j i es (more job around n t) le
          (waits_at job around n t i ∙ e))) ∙ sym (ap (option_map (λ es. made_between job around (suc n) t j (suc i))) (sym q ∙ e)))

  known_is : (t : Task) (j i n : ℕ) (es ds : List Desc) → wait_at job around n t i ≡ Some es → made_between job around n t j i ≡ ds
      → known_between t j i n ≡ Some ds
  known_is t j i n es ds e g = ap (option_map (λ es. made_between job around n t j i)) e ∙ ap Some g

  -- what a task makes after one wait and before another is one list
  pub between_one : (t : Task) (j i : ℕ) (ds es : List Desc) → j < i → MadeBetween job around t j i ds → MadeBetween job around t j i es → ds ≡ es
  between_one t j zero ds es lt a b = absurd (omega arith)
  between_one t j (suc i) ds es lt (n, x, e) (m, y, g) =
      some_is ds es (kept_one None (known_between t j (suc i)) (λ k. between_kept t j i k (omega arith)) n m (Some ds) (Some es)
      (known_is t j (suc i) n x.0 ds x.1 e) (known_is t j (suc i) m y.0 es y.1 g) (some_none ds) (some_none es))

  abbrev known_after : Task → (j n : ℕ) → Option (List Desc)
  known_after t j n = only_if (ended job around n t) (Some (made_after job around n t j))

  after_kept : (t : Task) (j n : ℕ) → Kept None (known_after t j n) (known_after t j (suc n))
  after_kept t j n = go (ended job around n t) refl
    where
      go : (b : Bool) → ended job around n t ≡ b → Kept None (known_after t j n) (known_after t j (suc n))
      go false e = inl (ap (λ b. only_if b (Some (made_after job around n t j))) e)
      go true e =
          let k : (acts_of job around (suc n) t ≡ acts_of job around n t) × (ended job around (suc n) t ≡ true) = kept job around n t e in
          inr (ap (λ b. only_if b (Some (made_after job around n t j))) e ∙ ap (λ x. Some (made_in (after_wait j x))) (sym k.0)
          ∙ sym (ap (λ b. only_if b (Some (made_after job around (suc n) t j))) k.1))

  -- what a task makes after a wait and before its end is one list
  pub after_one : (t : Task) (j : ℕ) (ds es : List Desc) → MadeAfter job around t j ds → MadeAfter job around t j es → ds ≡ es
  after_one t j ds es (n, x, e) (m, y, g) =
      some_is ds es (kept_one None (known_after t j) (after_kept t j) n m (Some ds) (Some es)
      (ap (λ b. only_if b (Some (made_after job around n t j))) x ∙ ap Some e)
      (ap (λ b. only_if b (Some (made_after job around m t j))) y ∙ ap Some g) (some_none ds) (some_none es))

  -- ---- the next wait

  module _ (S : Desc → Type 0) where
    not_before : (t : Task) (j i k : ℕ) → NextWait job around S t j i → NextWait job around S t j k → i < k → ⊥
    not_before t j i k a b lt = a.is_missing (in_each S a.waits a.missing (b.passes i a.waits a.above lt a.waited) a.is_waited)

    -- there is at most one next wait
    pub next_one : (t : Task) (j i k : ℕ) → NextWait job around S t j i → NextWait job around S t j k → i ≡ k
    next_one t j i k a b = go (nat_lt i k) (nat_lt k i) refl refl
      where
        go : (x y : Bool) → nat_lt i k ≡ x → nat_lt k i ≡ y → i ≡ k
        go true y e g = absurd (not_before t j i k a b (ltb-true i k e))
        go false true e g = absurd (not_before t j k i b a (ltb-true k i g))
        go false false e g =
            let p : k ≤ i = ltb-false i k e in
            let q : i ≤ k = ltb-false k i g in
            omega arith

    -- and none where there is no further wait for anything outside
    pub next_or_end : (t : Task) (j i : ℕ) → NextWait job around S t j i → NextEnd job around S t j → ⊥
    next_or_end t j i a b = a.is_missing (in_each S a.waits a.missing (b (suc i) i a.waits a.above (omega arith) a.waited) a.is_waited)
