-- The tasks with the places of their starts.
use Rattle.std.proofs.Common.{◌≡◌, ◌+◌, ℕ, suc, List, [], ◌∷◌, ◌++◌, Bool, true, false, ◌||◌, cond, length, map, set, Option, Some, None, option_map}
use Rattle.std.proofs.Common.{arith, refl, ap, sym, ◌∙◌, subst, append-nil, is_some, slice_get}
use Rattle.std.specs.List.{list_any}
use Rattle.sky_base.specs.declared.object.TaskId.{TaskId}
use Rattle.ciel_look_tasks.specs.Tasks.{Start, place_in, same_task}
use Rattle.std.proofs.lemmas.List.{map-append}
use Rattle.std.proofs.lemmas.Option.{slice_get-map}
use Rattle.ciel_look_tasks.specs.Rows.{AreFiled, AreOnce, Filed, filed, filed_task, places_of, with_row}
use Rattle.ciel_look_tasks.proofs.TaskLists.{any_place, exact_task, flip_task, self_task}

-- one start more
pub places_push : (t : TaskId) (at : ℕ) (ss : List Start) (s : Start)
    → places_of t at (ss ++ s ∷ []) ≡ places_of t at ss ++ cond (same_task t s.1.1.1) ((at + length ss) ∷ []) []
places_push t at [] s =
    let here : at + 0 ≡ at = omega arith in
    ap (λ n. cond (same_task t s.1.1.1) (n ∷ []) []) (sym here)
places_push t at (r ∷ ss) s =
    let next : suc at + length ss ≡ at + suc (length ss) = omega arith in
    ap (λ ps. cond (same_task t r.1.1.1) (at ∷ ps) ps)
    (places_push t (suc at) ss s ∙ ap (λ n. places_of t (suc at) ss ++ cond (same_task t s.1.1.1) (n ∷ []) []) next)
    ∙ go (same_task t r.1.1.1) (places_of t (suc at) ss) (cond (same_task t s.1.1.1) ((at + suc (length ss)) ∷ []) [])
  where
    go : (b : Bool) (ps qs : List ℕ) → cond b (at ∷ (ps ++ qs)) (ps ++ qs) ≡ cond b (at ∷ ps) ps ++ qs
    go true ps qs = refl
    go false ps qs = refl

-- ---- a list for each task

either_left : (a b : Bool) → (a || b) ≡ false → a ≡ false
either_left false b h = refl
either_left true b h = absurd cc

either_right : (a b : Bool) → (a || b) ≡ false → b ≡ false
either_right false b h = h
either_right true b h = absurd cc

module _ {A : Type 0} (f g : TaskId → A) (t : TaskId) where
  -- where the task isn't
  apart : (us : List TaskId) → list_any (same_task t) us ≡ false → ((u : TaskId) → same_task t u ≡ false → g u ≡ f u) → map f us ≡ map g us
  apart [] h k = refl
  apart (u ∷ us) h k =
      ap (λ x. x ∷ map f us) (sym (k u (either_left (same_task t u) (list_any (same_task t) us) h)))
      ∙ ap (λ xs. g u ∷ xs) (apart us (either_right (same_task t u) (list_any (same_task t) us) h) k)

  -- where it is, alone it changes
  pub one_changes : (us : List TaskId) (p : ℕ) → AreOnce us → place_in t us ≡ Some p → ((u : TaskId) → same_task t u ≡ false → g u ≡ f u)
      → set (map f us) p (g t) ≡ map g us
  one_changes [] p once h k = absurd cc
  one_changes (u ∷ us) p once h k = go (same_task t u) refl (place_in t us) (λ q e. one_changes us q once.1 e k) h
    where
      go : (b : Bool) → same_task t u ≡ b → (o : Option ℕ) → ((q : ℕ) → o ≡ Some q → set (map f us) q (g t) ≡ map g us)
          → cond b (Some 0) (option_map suc o) ≡ Some p → set (f u ∷ map f us) p (g t) ≡ g u ∷ map g us
      go true e o r i =
          let same : t ≡ u = exact_task t u e in
          let first : p ≡ 0 = the_place p i in
          ap (λ q. set (f u ∷ map f us) q (g t)) first ∙ ap (λ x. g x ∷ map f us) same
          ∙ ap (λ xs. g u ∷ xs) (apart us (ap (λ x. list_any (same_task x) us) same ∙ once.0) k)
        where
          the_place : (p : ℕ) → Some 0 ≡ Some p → p ≡ 0
          the_place p i = cc
      go false e None r i = absurd cc
      go false e (Some q) r i =
          let next : p ≡ suc q = the_place p q i in
          ap (λ n. set (f u ∷ map f us) n (g t)) next ∙ ap (λ x. x ∷ set (map f us) q (g t)) (sym (k u e)) ∙ ap (λ xs. g u ∷ xs) (r q refl)
        where
          the_place : (p q : ℕ) → Some (suc q) ≡ Some p → p ≡ suc q
          the_place p q i = cc

-- ---- a task more

any_append : (t : TaskId) (us : List TaskId) (u : TaskId) → list_any (same_task t) us ≡ false → same_task t u ≡ false
    → list_any (same_task t) (us ++ u ∷ []) ≡ false
any_append t [] u h k = ap (λ b. b || false) k
any_append t (v ∷ us) u h k =
    ap (λ b. b || list_any (same_task t) (us ++ u ∷ [])) (either_left (same_task t v) (list_any (same_task t) us) h)
    ∙ any_append t us u (either_right (same_task t v) (list_any (same_task t) us) h) k

once_more : (us : List TaskId) (t : TaskId) → AreOnce us → list_any (same_task t) us ≡ false → AreOnce (us ++ t ∷ [])
once_more [] t once h = (refl, tt)
once_more (u ∷ us) t once h = (
  any_append u us t once.0 (flip_task t u (either_left (same_task t u) (list_any (same_task t) us) h)),
  once_more us t once.1 (either_right (same_task t u) (list_any (same_task t) us) h),
)

none_before : (t u : TaskId) (us : List TaskId) → list_any (same_task t) (us ++ u ∷ []) ≡ false → list_any (same_task t) us ≡ false
none_before t u [] h = refl
none_before t u (v ∷ us) h =
    ap (λ b. b || list_any (same_task t) us) (either_left (same_task t v) (list_any (same_task t) (us ++ u ∷ [])) h)
    ∙ none_before t u us (either_right (same_task t v) (list_any (same_task t) (us ++ u ∷ [])) h)

module _ (rs : List Filed) (ss : List Start) where
  abbrev tasks_of : List TaskId
  tasks_of = map filed_task rs

  -- a new task has no starts
  filed_new : (t : TaskId) → list_any (same_task t) tasks_of ≡ false → AreFiled rs ss → AreFiled (rs ++ (t, []) ∷ []) ss
  filed_new t new h =
      let us : map filed_task (rs ++ (t, []) ∷ []) ≡ tasks_of ++ t ∷ [] = map-append filed_task rs ((t, []) ∷ []) in
      record {
        rows = ap (λ xs. xs ++ (t, []) ∷ []) h.rows ∙ ap (λ ps. map (filed ss) tasks_of ++ (t, ps) ∷ []) (sym (h.none t new))
            ∙ sym (map-append (filed ss) tasks_of (t ∷ [])) ∙ sym (ap (map (filed ss)) us);
        once = subst AreOnce (sym us) (once_more tasks_of t h.once new);
        none = λ u e. h.none u (none_before u t tasks_of (ap (list_any (same_task u)) (sym us) ∙ e));
      }

  pub filed_with : (t : TaskId) → AreFiled rs ss → AreFiled (with_row rs t) ss
  filed_with t h = go (list_any (same_task t) tasks_of) refl
    where
      go : (b : Bool) → list_any (same_task t) tasks_of ≡ b → AreFiled (cond b rs (rs ++ (t, []) ∷ [])) ss
      go true e = h
      go false e = filed_new t e h

-- ---- a start more

the_same : {A : Type 0} (x y : A) → Some x ≡ Some y → x ≡ y
the_same x y h = cc

at_place : (t : TaskId) (us : List TaskId) (p : ℕ) → place_in t us ≡ Some p → slice_get us p ≡ Some t
at_place t [] p h = absurd cc
at_place t (u ∷ us) p h = go (same_task t u) refl (place_in t us) (at_place t us) h
  where
    go : (b : Bool) → same_task t u ≡ b → (o : Option ℕ) → ((q : ℕ) → o ≡ Some q → slice_get us q ≡ Some t)
        → cond b (Some 0) (option_map suc o) ≡ Some p → slice_get (u ∷ us) p ≡ Some t
    go true e o r i =
        ap (slice_get (u ∷ us)) (sym (the_same 0 p i)) ∙ ap Some (sym (exact_task t u e))
    go false e None r i = absurd cc
    go false e (Some q) r i = ap (slice_get (u ∷ us)) (sym (the_same (suc q) p i)) ∙ r q refl

filed_tasks : (ss : List Start) (us : List TaskId) → map filed_task (map (filed ss) us) ≡ us
filed_tasks ss [] = refl
filed_tasks ss (u ∷ us) = ap (λ vs. u ∷ vs) (filed_tasks ss us)

module _ (ss : List Start) (s : Start) where
  abbrev its : TaskId
  its = s.1.1.1

  abbrev after : List Start
  after = ss ++ s ∷ []

  places_apart : (u : TaskId) → same_task u its ≡ false → places_of u 0 after ≡ places_of u 0 ss
  places_apart u e =
      places_push u 0 ss s ∙ ap (λ b. places_of u 0 ss ++ cond b ((0 + length ss) ∷ []) []) e ∙ append-nil (places_of u 0 ss)

  places_own : places_of its 0 after ≡ places_of its 0 ss ++ length ss ∷ []
  places_own =
      let here : 0 + length ss ≡ length ss = omega arith in
      places_push its 0 ss s ∙ ap (λ b. places_of its 0 ss ++ cond b ((0 + length ss) ∷ []) []) (self_task its)
      ∙ ap (λ n. places_of its 0 ss ++ n ∷ []) here

  pub filed_next : (rs ns : List Filed) (p : ℕ) → AreFiled rs ss → place_in its (map filed_task rs) ≡ Some p
      → ((x : Filed) → slice_get rs p ≡ Some x → ns ≡ set rs p (x.0, x.1 ++ length ss ∷ [])) → AreFiled ns after
  filed_next rs ns p h there put =
      record { rows = now ∙ ap (map (filed after)) (sym same); once = subst AreOnce (sym same) h.once; none = none }
    where
      us : List TaskId
      us = map filed_task rs

      found : slice_get rs p ≡ Some (filed ss its)
      found =
          ap (λ xs. slice_get xs p) h.rows ∙ slice_get-map (filed ss) us p ∙ ap (option_map (filed ss)) (at_place its us p there)

      now : ns ≡ map (filed after) us
      now =
          put (filed ss its) found ∙ ap (λ ps. set rs p (its, ps)) (sym places_own) ∙ ap (λ xs. set xs p (filed after its)) h.rows
          ∙ one_changes (filed ss) (filed after) its us p h.once there
          (λ u e. ap (λ ps. (u, ps)) (places_apart u (flip_task its u e)))

      same : map filed_task ns ≡ us
      same = ap (map filed_task) now ∙ filed_tasks after us

      none : (t : TaskId) → list_any (same_task t) (map filed_task ns) ≡ false → places_of t 0 after ≡ []
      none t e = go (same_task t its) refl
        where
          out : list_any (same_task t) us ≡ false
          out = ap (list_any (same_task t)) (sym same) ∙ e

          go : (b : Bool) → same_task t its ≡ b → places_of t 0 after ≡ []
          go false k = places_apart t k ∙ h.none t out
          go true k =
              let one : list_any (same_task t) us ≡ true =
              ap (λ u. list_any (same_task u) us) (exact_task t its k) ∙ any_place its us ∙ ap is_some there in
              absurd (let no : false ≡ true = sym out ∙ one in cc)
