-- Saved waits of one task: their numbers rise, so the last one has the greatest; and no two are at one worker.
use Rattle.std.proofs.Common.{◌≡◌, ℕ, ◌<◌, ◌-◌, List, [], ◌∷◌, ◌++◌, Bool, true, false, cond, filter, length, slice_get, refl, ap, sym, ◌∙◌, subst}
use Rattle.std.proofs.Common.{arith, not, nat_eq, Option, Some, None, MatchOption, Bor, nat_lt}
use Rattle.std.specs.List.{AllByRecursion, IsDistinct}
use Rattle.std.specs.Option.{option_copied}
use Rattle.std.proofs.lemmas.Bool.{le-ltb, ltb-true, ltb-false}
use Rattle.ciel_table.specs.Changes.{waits_with, waits_without}
use Rattle.ciel_table.specs.Seen.{latest, later}
use Rattle.ciel_table.specs.Sound.{Rising, IsAbove, WaitsSound, Here, same_worker}
use Rattle.ciel_table.specs.declared.wait.Wait.{Wait}
use Rattle.ciel_table.proofs.Lists.{all_push, all_filter, flip_nat}

module _ {P : Type 0} where
  record Last (w : Wait P) (ws : List (Wait P)) : Type 0 where
    pub last : Wait P
    pub is : latest (w ∷ ws) ≡ Some last
    pub at : slice_get (w ∷ ws) (length ws) ≡ Some last
    pub above : (j : ℕ) → AllByRecursion (λ (v : Wait P). j < v.j) (w ∷ ws) → j < last.j

  last_of : (w : Wait P) (ws : List (Wait P)) → Rising (w ∷ ws) → Last w ws
  last_of w [] r = record { last = w; is = refl; at = refl; above = λ j a. a.0 }
  last_of w (v ∷ vs) r =
      let q = last_of v vs r.1 in
      let l : w.j < q.last.j = q.above w.j r.0 in
      record {
        last = q.last;
        is = ap (later w) q.is ∙ ap (λ b. cond b (Some w) (Some q.last)) (le-ltb q.last.j w.j (omega (arith, l)));
        at = q.at;
        above = λ j a. q.above j a.1;
      }

  pub latest_is : (ws : List (Wait P)) → Rising ws → latest ws ≡ slice_get ws (length ws - 1)
  latest_is [] r = refl
  latest_is (w ∷ ws) r =
      let q = last_of w ws r in q.is ∙ (sym q.at ∙ ap (slice_get (w ∷ ws)) (omega arith))

  pub latest_answer : (r : Option (Bor (Wait P))) (ws : List (Wait P)) → Rising ws → option_copied r ≡ slice_get ws (length ws - 1)
      → MatchOption r (latest ws ≡ None) (λ w. latest ws ≡ Some w.now)
  latest_answer None ws r e = latest_is ws r ∙ sym e
  latest_answer (Some b) ws r e = latest_is ws r ∙ sym e

  rising_push : (ws : List (Wait P)) (w : Wait P) → Rising ws → IsAbove w.j ws → Rising (ws ++ w ∷ [])
  rising_push [] w r a = (tt, tt)
  rising_push (v ∷ vs) w r a = (all_push (λ (x : Wait P). v.j < x.j) vs w r.0 a.0, rising_push vs w r.1 a.1)

  rising_filter : (test : Wait P → Bool) (ws : List (Wait P)) → Rising ws → Rising (filter test ws)
  rising_filter test [] r = tt
  rising_filter test (w ∷ ws) r = turn (test w) (rising_filter test ws r.1)
    where
      turn : (b : Bool) → Rising (filter test ws) → Rising (cond b (w ∷ filter test ws) (filter test ws))
      turn true k = (all_filter (λ (x : Wait P). w.j < x.j) (λ (x : Wait P). w.j < x.j) test (λ x h e. h) ws r.0, k)
      turn false k = k

  apart_push : (at : P → ℕ) (ws : List (Wait P)) (w : Wait P) → IsDistinct (same_worker at) ws
      → AllByRecursion (λ (v : Wait P). same_worker at v w ≡ false) ws → IsDistinct (same_worker at) (ws ++ w ∷ [])
  unfolding IsDistinct
  apart_push at [] w d a = (tt, tt)
  apart_push at (v ∷ vs) w d a =
      (all_push (λ (x : Wait P). same_worker at v x ≡ false) vs w d.0 a.0, apart_push at vs w d.1 a.1)

  apart_cond : (at : P → ℕ) (b : Bool) (w : Wait P) (ws : List (Wait P)) → AllByRecursion (λ (v : Wait P). same_worker at w v ≡ false) ws
      → IsDistinct (same_worker at) ws → IsDistinct (same_worker at) (cond b (w ∷ ws) ws)
  unfolding IsDistinct
  apart_cond at true w ws a d = (a, d)
  apart_cond at false w ws a d = d

  apart_filter : (at : P → ℕ) (test : Wait P → Bool) (ws : List (Wait P)) → IsDistinct (same_worker at) ws
      → IsDistinct (same_worker at) (filter test ws)
  unfolding IsDistinct
  apart_filter at test [] d = tt
  apart_filter at test (w ∷ ws) d =
      apart_cond at (test w) w (filter test ws)
      (all_filter (λ (v : Wait P). same_worker at w v ≡ false) (λ (v : Wait P). same_worker at w v ≡ false) test (λ v h e. h) ws d.0)
      (apart_filter at test ws d.1)

  -- those that aren't at a worker are elsewhere
  elsewhere : (at : P → ℕ) (worker : ℕ) (ws : List (Wait P))
      → AllByRecursion (λ (v : Wait P). nat_eq (at v.place) worker ≡ false) (waits_without at worker ws)
  elsewhere at worker [] = tt
  elsewhere at worker (w ∷ ws) = turn (nat_eq worker (at w.place)) refl (elsewhere at worker ws)
    where
      turn : (b : Bool) → nat_eq worker (at w.place) ≡ b
          → AllByRecursion (λ (v : Wait P). nat_eq (at v.place) worker ≡ false) (waits_without at worker ws)
          → AllByRecursion (λ (v : Wait P). nat_eq (at v.place) worker ≡ false) (cond (not b) (w ∷ waits_without at worker ws) (waits_without at worker ws))
      turn true e k = k
      turn false e k = (flip_nat worker (at w.place) e, k)

  -- one wait more, in place of one at its worker
  pub sound_push : (at : P → ℕ) (gone : List ℕ) (ws : List (Wait P)) (w : Wait P) → WaitsSound at gone ws → IsAbove w.j ws
      → Here gone (at w.place) → WaitsSound at gone (waits_with at w ws)
  sound_push at gone ws w s a h =
      let test = λ (x : Wait P). not (nat_eq (at w.place) (at x.place)) in
      let left = waits_without at (at w.place) ws in
      record {
        rising = rising_push left w (rising_filter test ws s.rising)
            (all_filter (λ (x : Wait P). x.j < w.j) (λ (x : Wait P). x.j < w.j) test (λ x k e. k) ws a);
        apart = apart_push at left w (apart_filter at test ws s.apart) (elsewhere at (at w.place) ws);
        here = all_push (λ (x : Wait P). Here gone (at x.place)) left w
            (all_filter (λ (x : Wait P). Here gone (at x.place)) (λ (x : Wait P). Here gone (at x.place)) test (λ x k e. k) ws s.here) h;
      }

  -- those that pass a test
  pub sound_filter : (at : P → ℕ) (gone after : List ℕ) (test : Wait P → Bool) (ws : List (Wait P)) → WaitsSound at gone ws
      → ((w : Wait P) → Here gone (at w.place) → test w ≡ true → Here after (at w.place)) → WaitsSound at after (filter test ws)
  sound_filter at gone after test ws s f =
      record {
        rising = rising_filter test ws s.rising;
        apart = apart_filter at test ws s.apart;
        here = all_filter (λ (x : Wait P). Here gone (at x.place)) (λ (x : Wait P). Here after (at x.place)) test f ws s.here;
      }

  -- the first wait
  pub sound_first : (at : P → ℕ) (gone : List ℕ) (w : Wait P) → Here gone (at w.place) → WaitsSound at gone (w ∷ [])
  unfolding IsDistinct
  sound_first at gone w h = record { rising = (tt, tt); apart = (tt, tt); here = (h, tt) }

  latest_none : (ws : List (Wait P)) → latest ws ≡ None → ws ≡ []
  latest_none [] e = refl
  latest_none (w ∷ ws) e = turn (latest ws) e
    where
      turn : (o : Option (Wait P)) → later w o ≡ None → w ∷ ws ≡ []
      turn None h = cc
      turn (Some v) h = pick (nat_lt v.j w.j) h
        where
          pick : (b : Bool) → cond b (Some w) (Some v) ≡ None → w ∷ ws ≡ []
          pick true k = cc
          pick false k = cc

  -- where no wait is saved, each number is above all
  pub above_none : (j : ℕ) (ws : List (Wait P)) → latest ws ≡ None → IsAbove j ws
  above_none j ws e = subst (IsAbove j) (sym (latest_none ws e)) tt

  -- what is above the greatest is above all
  pub above_latest : (j : ℕ) (ws : List (Wait P)) (w : Wait P) → latest ws ≡ Some w → w.j < j → IsAbove j ws
  above_latest j [] w e l = tt
  above_latest j (v ∷ vs) w e l = turn (latest vs) refl e (above_latest j vs)
    where
      turn : (o : Option (Wait P)) → latest vs ≡ o → later v o ≡ Some w → ((u : Wait P) → latest vs ≡ Some u → u.j < j → IsAbove j vs)
          → IsAbove j (v ∷ vs)
      turn None q h r =
          let s : v ≡ w = cc in (subst (λ (x : Wait P). x.j < j) (sym s) l, above_none j vs q)
      turn (Some u) q h r = pick (nat_lt u.j v.j) refl h
        where
          pick : (b : Bool) → nat_lt u.j v.j ≡ b → cond b (Some v) (Some u) ≡ Some w → IsAbove j (v ∷ vs)
          pick true t k =
              let s : v ≡ w = cc in
              let m : v.j < j = subst (λ (x : Wait P). x.j < j) (sym s) l in
              let n : u.j < v.j = ltb-true u.j v.j t in (m, r u q (omega (arith, m, n)))
          pick false t k =
              let s : u ≡ w = cc in
              let m : u.j < j = subst (λ (x : Wait P). x.j < j) (sym s) l in
              let n = ltb-false u.j v.j t in (omega (arith, m, n), r u q m)
