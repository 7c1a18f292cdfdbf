-- Of the saved waits of one task the last at each worker: after one more, after a loss, and that the last of all is one of them.
use Rattle.std.proofs.Common.{◌≡◌, ℕ, ◌<◌, List, [], ◌∷◌, ◌++◌, Bool, true, false, not, cond, ◌||◌, nat_eq, nat_lt, filter, Option, Some, None}
use Rattle.std.proofs.Common.{refl, ap, sym, ◌∙◌, subst, arith, eqb-true, eq-eqb}
use Rattle.std.proofs.lemmas.Bool.{le-ltb}
use Rattle.std.specs.List.{list_any}
use Rattle.ciel_journal.specs.History.{Save, better, last_save, same_task}
use Rattle.ciel_journal.specs.Job.{Each, IsJob, Job, Task}
use Rattle.ciel_journal.proofs.Bound.{task_exact}
use Rattle.ciel_journal.proofs.Members.{agree}
use Rattle.ciel_journal.proofs.SavesRise.{EachRises}
use Rattle.ciel_master_board.specs.Follows.{saves_of, standing_saves}

-- equal numbers, either way
flip : (a b : ℕ) → nat_eq a b ≡ nat_eq b a
flip a b =
    agree (nat_eq a b) (nat_eq b a) (λ e. eq-eqb b a (sym (eqb-true a b e))) (λ e. eq-eqb a b (sym (eqb-true b a e)))

module _ {D : Type 0} where
  -- one of these is at this worker
  abbrev is_there : ℕ → List (Save D) → Bool
  is_there w qs = list_any (λ (r : Save D). nat_eq w r.worker) qs

  -- those at other workers
  abbrev pub elsewhere : ℕ → List (Save D) → List (Save D)
  elsewhere w qs = filter (λ (r : Save D). not (nat_eq w r.worker)) qs

  there_last : (w : ℕ) (qs : List (Save D)) (q : Save D) → is_there w (qs ++ q ∷ []) ≡ is_there w qs || nat_eq w q.worker
  there_last w [] q = pick (nat_eq w q.worker)
    where
      pick : (b : Bool) → b || false ≡ b
      pick true = refl
      pick false = refl
  there_last w (x ∷ xs) q = pick (nat_eq w x.worker) (there_last w xs q)
    where
      pick : (b : Bool) → is_there w (xs ++ q ∷ []) ≡ is_there w xs || nat_eq w q.worker
          → b || is_there w (xs ++ q ∷ []) ≡ (b || is_there w xs) || nat_eq w q.worker
      pick true r = refl
      pick false r = r

  there_elsewhere : (v w : ℕ) → nat_eq w v ≡ false → (qs : List (Save D)) → is_there v (elsewhere w qs) ≡ is_there v qs
  there_elsewhere v w d [] = refl
  there_elsewhere v w d (x ∷ xs) = pick (nat_eq w x.worker) refl (there_elsewhere v w d xs)
    where
      pick : (b : Bool) → nat_eq w x.worker ≡ b → is_there v (elsewhere w xs) ≡ is_there v xs
          → is_there v (cond (not b) (x ∷ elsewhere w xs) (elsewhere w xs)) ≡ nat_eq v x.worker || is_there v xs
      pick true e r =
          let other : nat_eq v x.worker ≡ false = flip v x.worker ∙ subst (λ z. nat_eq z v ≡ false) (eqb-true w x.worker e) d in
          r ∙ sym (ap (λ b. b || is_there v xs) other)
      pick false e r = ap (λ b. nat_eq v x.worker || b) r

  -- ---- one more

  -- it stands, and of those before it the one at its worker doesn't
  pub standing_last : (qs : List (Save D)) (q : Save D) → standing_saves (qs ++ q ∷ []) ≡ elsewhere q.worker (standing_saves qs) ++ q ∷ []
  standing_last [] q = refl
  standing_last (x ∷ xs) q =
      ap (λ b. cond b (standing_saves (xs ++ q ∷ [])) (x ∷ standing_saves (xs ++ q ∷ []))) (there_last x.worker xs q)
      ∙ pick (is_there x.worker xs) (nat_eq x.worker q.worker) (nat_eq q.worker x.worker) refl (flip q.worker x.worker) (standing_last xs q)
    where
      rest : List (Save D)
      rest = elsewhere q.worker (standing_saves xs)

      pick : (b c d : Bool) → nat_eq q.worker x.worker ≡ d → d ≡ c → standing_saves (xs ++ q ∷ []) ≡ rest ++ q ∷ []
          → cond (b || c) (standing_saves (xs ++ q ∷ [])) (x ∷ standing_saves (xs ++ q ∷ []))
          ≡ elsewhere q.worker (cond b (standing_saves xs) (x ∷ standing_saves xs)) ++ q ∷ []
      pick true c d e f r = r
      pick false true true e f r = r ∙ sym (ap (λ z. cond (not z) (x ∷ rest) rest ++ q ∷ []) e)
      pick false true false e f r = cc
      pick false false true e f r = cc
      pick false false false e f r = ap (λ zs. x ∷ zs) r ∙ sym (ap (λ z. cond (not z) (x ∷ rest) rest ++ q ∷ []) e)

  -- ---- a loss

  -- of what it leaves the same stand as before
  pub standing_elsewhere : (w : ℕ) (qs : List (Save D)) → standing_saves (elsewhere w qs) ≡ elsewhere w (standing_saves qs)
  standing_elsewhere w [] = refl
  standing_elsewhere w (x ∷ xs) = pick (nat_eq w x.worker) (is_there x.worker xs) refl refl (standing_elsewhere w xs)
    where
      rest : List (Save D)
      rest = elsewhere w (standing_saves xs)

      -- what is left where the first one is taken as it is
      from : (b c : Bool) → nat_eq w x.worker ≡ b → elsewhere w (cond c (standing_saves xs) (x ∷ standing_saves xs))
          ≡ cond c rest (cond (not b) (x ∷ rest) rest)
      from b true e = refl
      from b false e = ap (λ z. cond (not z) (x ∷ rest) rest) e

      pick : (b c : Bool) → nat_eq w x.worker ≡ b → is_there x.worker xs ≡ c → standing_saves (elsewhere w xs) ≡ rest
          → standing_saves (cond (not b) (x ∷ elsewhere w xs) (elsewhere w xs)) ≡ elsewhere w (cond c (standing_saves xs) (x ∷ standing_saves xs))
      pick true true e f r = r ∙ sym (from true true e)
      pick true false e f r = r ∙ sym (from true false e)
      pick false c e f r =
          let there : is_there x.worker (elsewhere w xs) ≡ c = there_elsewhere x.worker w e xs ∙ f in
          ap (λ z. cond z (standing_saves (elsewhere w xs)) (x ∷ standing_saves (elsewhere w xs))) there
          ∙ (ap (λ zs. cond c zs (x ∷ zs)) r ∙ sym (from false c e))

module _ {D : Type 0} (job : Job D) where
  -- ---- the last of all

  -- the one with the greatest number
  abbrev pub best : List (Save D) → Option (Save D)
  best [] = None
  best (q ∷ qs) = better job q (best qs)

  pub last_best : (u : Task D) (qs : List (Save D)) → last_save job u qs ≡ best (saves_of job u qs)
  last_best u [] = refl
  last_best u (q ∷ qs) = pick (same_task job u q.task) (last_best u qs)
    where
      pick : (b : Bool) → last_save job u qs ≡ best (saves_of job u qs)
          → cond b (better job q (last_save job u qs)) (last_save job u qs) ≡ best (cond b (q ∷ saves_of job u qs) (saves_of job u qs))
      pick true r = ap (better job q) r
      pick false r = r

  -- each number is above those before it
  abbrev Rises : List (Save D) → Type 0
  Rises [] = Unit {0}
  Rises (q ∷ qs) = Each (λ (r : Save D). q.j < r.j) qs × Rises qs

  -- one that isn't the last is not the best one
  best_later : (q x : Save D) (xs : List (Save D)) → Each (λ (r : Save D). q.j < r.j) (x ∷ xs) → better job q (best (x ∷ xs)) ≡ best (x ∷ xs)
  best_later q x [] h = ap (λ b. cond b (Some q) (Some x)) (le-ltb x.j q.j (let l = h.0 in omega (arith, l)))
  best_later q x (y ∷ ys) h = pick (best (y ∷ ys)) (best_later q y ys h.1)
    where
      pick : (o : Option (Save D)) → better job q o ≡ o → better job q (better job x o) ≡ better job x o
      pick None e = ap (λ b. cond b (Some q) (Some x)) (le-ltb x.j q.j (let l = h.0 in omega (arith, l)))
      pick (Some r) e = turn (nat_lt r.j x.j)
        where
          turn : (b : Bool) → better job q (cond b (Some x) (Some r)) ≡ cond b (Some x) (Some r)
          turn true = ap (λ b. cond b (Some q) (Some x)) (le-ltb x.j q.j (let l = h.0 in omega (arith, l)))
          turn false = e

  best_standing : (qs : List (Save D)) → Rises qs → best (standing_saves qs) ≡ best qs
  best_standing [] h = refl
  best_standing (q ∷ qs) h = pick qs (is_there q.worker qs) refl h.0 (best_standing qs h.1)
    where
      pick : (xs : List (Save D)) (b : Bool) → is_there q.worker xs ≡ b → Each (λ (r : Save D). q.j < r.j) xs → best (standing_saves xs) ≡ best xs
          → best (cond b (standing_saves xs) (q ∷ standing_saves xs)) ≡ better job q (best xs)
      pick xs false e k r = ap (better job q) r
      pick [] true e k r = cc
      pick (x ∷ xs) true e k r = r ∙ sym (best_later q x xs k)

  module _ (laws : IsJob job) where
    rises_of : (u : Task D) (qs : List (Save D)) → EachRises qs → Rises (saves_of job u qs)
    rises_of u [] h = tt
    rises_of u (q ∷ qs) h = pick (same_task job u q.task) refl (rises_of u qs h.1)
      where
        later : (xs : List (Save D)) → u ≡ q.task → Each (λ (r : Save D). q.task ≡ r.task → q.j < r.j) xs
            → Each (λ (r : Save D). q.j < r.j) (saves_of job u xs)
        later [] e k = tt
        later (x ∷ xs) e k = turn (same_task job u x.task) refl (later xs e k.1)
          where
            turn : (b : Bool) → same_task job u x.task ≡ b → Each (λ (r : Save D). q.j < r.j) (saves_of job u xs)
                → Each (λ (r : Save D). q.j < r.j) (cond b (x ∷ saves_of job u xs) (saves_of job u xs))
            turn true f r = (k.0 (sym e ∙ task_exact job laws u x.task f), r)
            turn false f r = r

        pick : (b : Bool) → same_task job u q.task ≡ b → Rises (saves_of job u qs) → Rises (cond b (q ∷ saves_of job u qs) (saves_of job u qs))
        pick true e r = (later qs (task_exact job laws u q.task e) h.0, r)
        pick false e r = r

    -- the last saved wait of a task stands
    pub last_standing : (u : Task D) (qs : List (Save D)) → EachRises qs → last_save job u qs ≡ best (standing_saves (saves_of job u qs))
    last_standing u qs h = last_best u qs ∙ sym (best_standing (saves_of job u qs) (rises_of u qs h))
