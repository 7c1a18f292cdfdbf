-- The marks of a graph, from nothing.
use Rattle.std.proofs.Common.{◌≡◌, ◌≤◌, ◌+◌, ℕ, suc, ◌<◌, List, [], ◌∷◌, ◌++◌, length, length-set, Bool, true, false, set, slice_get, refl, ap, sym}
use Rattle.std.proofs.Common.{◌∙◌, subst, arith, ◌⊎◌, inl, inr, not, ◌&&◌, is_some, Option, Some, None}
use Rattle.ciel_journal.specs.Graph.{Led, root}
use Rattle.ciel_journal.specs.Job.{In}
use Rattle.ciel_want_marks.specs.Lists.{at, entry, flag}
use Rattle.ciel_want_marks.specs.Marks.{Filed, Least, MarksSeen, Needs, Stands, net}
use Rattle.ciel_want_marks.specs.Moves.{HasGraph, IsGraph, Unfiled, filed_under}
use Rattle.ciel_want_marks.proofs.Slots.{at_here, at_other, at_pushed, in_last, in_push, nat_cases}

first_in : (xs : List ℕ) (r : ℕ) → slice_get xs 0 ≡ Some r → In r xs
first_in [] r e = cc
first_in (x ∷ xs) r e = let s : x ≡ r = cc in inl (sym s)

-- the first of a list with one more is its first, or there was none
first_was : (xs : List ℕ) (k r : ℕ) → slice_get (xs ++ k ∷ []) 0 ≡ Some r → (slice_get xs 0 ≡ Some r) ⊎ ((r ≡ k) × (xs ≡ []))
first_was [] k r e = let s : k ≡ r = cc in inr (sym s, refl)
first_was (x ∷ xs) k r e = inl e

module _ (live : List Bool) (makers : List (Option ℕ)) (out : List Bool) where
  -- the rows before one are filed
  pub record Filing (i : ℕ) (m : MarksSeen) : Type 0 where
    pub live_is : m.live ≡ live
    pub makers_is : m.makers ≡ makers
    pub out_is : m.out ≡ out
    pub watchers : length m.watchers ≡ length live
    pub wanted : length m.wanted ≡ suc (length live)
    pub root : flag m.wanted 0 ≡ true
    pub others : (u : ℕ) → flag m.wanted u ≡ true → u ≡ 0
    pub touched : length m.touched ≡ suc (length live)
    pub makes : length m.makes ≡ suc (length live)
    pub rows : Filed i live makers m.makes m.orphans
    pub lacks : length m.lacks ≡ suc (length live)
    pub list : m.list ≡ []
    pub todo : m.todo ≡ 0 ∷ []

  pub files_none : (m : MarksSeen) → Unfiled live makers out m → Filing 0 m
  files_none m u =
      record {
        live_is = u.live_is;
        makers_is = u.makers_is;
        out_is = u.out_is;
        watchers = u.watchers;
        wanted = u.wanted;
        root = u.root;
        others = u.others;
        touched = u.touched;
        makes = u.makes;
        rows = record {
          makes_it = λ r x l e. absurd (omega (arith, l));
          made = λ r x h. absurd (subst (In r) (u.none x) h);
          least = λ r s x l h. absurd (subst (In s) (u.none x) h);
          orphan = λ r l e. absurd (omega (arith, l));
        };
        lacks = u.lacks;
        list = u.list;
        todo = u.todo;
      }

  -- ---- one row more

  last_or_before : (n i : ℕ) → i < suc n → (i < n) ⊎ (i ≡ n)
  last_or_before n i l = grind (arith, l)

  module _ (g : IsGraph live makers out) (i : ℕ) (makes : List (List ℕ)) (orphans : Bool) (f : Filed i live makers makes orphans) where
    pub filed_none : entry makers i ≡ None → flag live i ≡ true → Filed (suc i) live makers makes true
    filed_none e y =
        record {
          makes_it = λ r u l z. makes_it r u (last_or_before i r l) z;
          made = λ r u h. let q = f.made r u h in let l = q.0 in (omega (arith, l), q.1);
          least = f.least;
          orphan = λ r l z. orphan r (last_or_before i r l) z;
        }
      where
        makes_it : (r u : ℕ) → ((r < i) ⊎ (r ≡ i)) → entry makers r ≡ Some u → In r (at makes u)
        makes_it r u (inl l) z = f.makes_it r u l z
        makes_it r u (inr s) z = let p : None ≡ Some u = sym e ∙ (ap (entry makers) (sym s) ∙ z) in cc

        orphan : (r : ℕ) → ((r < i) ⊎ (r ≡ i)) → entry makers r ≡ None → (flag live r ≡ true) × (true ≡ true)
        orphan r (inl l) z = ((f.orphan r l z).0, refl)
        orphan r (inr s) z = (ap (flag live) s ∙ y, refl)

    pub filed_some : (v : ℕ) → length makes ≡ suc (length live) → entry makers i ≡ Some v
        → Filed (suc i) live makers (set makes v (at makes v ++ i ∷ [])) orphans
    filed_some v long e =
        record {
          makes_it = λ r u l z. makes_it r u (last_or_before i r l) z;
          made = λ r u h. made r u (of_now r u h);
          least = λ r s u l h. least r s u (least_was r u l) (of_now s u h);
          orphan = λ r l z. orphan r (last_or_before i r l) z;
        }
      where
        within : v < length makes
        within =
            let l = (g.nodes i v e).1 in
            omega (arith, l, long)

        here : at (set makes v (at makes v ++ i ∷ [])) v ≡ at makes v ++ i ∷ []
        here = at_here makes v (at makes v ++ i ∷ []) within

        makes_it : (r u : ℕ) → ((r < i) ⊎ (r ≡ i)) → entry makers r ≡ Some u → In r (at (set makes v (at makes v ++ i ∷ [])) u)
        makes_it r u (inl l) z = at_pushed makes v u i r (f.makes_it r u l z)
        makes_it r u (inr s) z =
            let p : Some v ≡ Some u = sym e ∙ (ap (entry makers) (sym s) ∙ z) in
            let q : v ≡ u = cc in
            subst (λ x. In r (at (set makes v (at makes v ++ i ∷ [])) x)) q
            (subst (In r) (sym here) (subst (λ x. In x (at makes v ++ i ∷ [])) (sym s) (in_last (at makes v) i)))

        of_now : (r u : ℕ) → In r (at (set makes v (at makes v ++ i ∷ [])) u) → In r (at makes u) ⊎ ((r ≡ i) × (u ≡ v))
        of_now r u h = turn (nat_cases u v)
          where
            last : u ≡ v → (In r (at makes v) ⊎ (r ≡ i)) → In r (at makes u) ⊎ ((r ≡ i) × (u ≡ v))
            last s (inl k) = inl (subst (λ x. In r (at makes x)) (sym s) k)
            last s (inr k) = inr (k, s)

            turn : ((u ≡ v) ⊎ (u ≡ v → ⊥)) → In r (at makes u) ⊎ ((r ≡ i) × (u ≡ v))
            turn (inl s) =
                last s (in_push (at makes v) i r (subst (In r) here (subst (λ x. In r (at (set makes v (at makes v ++ i ∷ [])) x)) s h)))
            turn (inr k) = inl (subst (In r) (at_other makes v u (at makes v ++ i ∷ []) k) h)

        least_was : (r u : ℕ) → Least (set makes v (at makes v ++ i ∷ [])) u r → Least makes u r ⊎ ((r ≡ i) × (at makes u ≡ []))
        least_was r u l = turn (nat_cases u v)
          where
            turn : ((u ≡ v) ⊎ (u ≡ v → ⊥)) → Least makes u r ⊎ ((r ≡ i) × (at makes u ≡ []))
            turn (inl s) =
                subst (λ x. Least makes x r ⊎ ((r ≡ i) × (at makes x ≡ []))) (sym s)
                (first_was (at makes v) i r (ap (λ xs. slice_get xs 0) (sym here)
                ∙ subst (λ x. Least (set makes v (at makes v ++ i ∷ [])) x r) s l))
            turn (inr k) = inl (ap (λ xs. slice_get xs 0) (sym (at_other makes v u (at makes v ++ i ∷ []) k)) ∙ l)

        made : (r u : ℕ) → (In r (at makes u) ⊎ ((r ≡ i) × (u ≡ v))) → (r < suc i) × (entry makers r ≡ Some u)
        made r u (inl h) = let q = f.made r u h in let l = q.0 in (omega (arith, l), q.1)
        made r u (inr h) =
            let s = h.0 in
            (omega (arith, s), ap (entry makers) h.0 ∙ (e ∙ ap (λ x. Some x) (sym h.1)))

        least : (r s u : ℕ) → (Least makes u r ⊎ ((r ≡ i) × (at makes u ≡ []))) → (In s (at makes u) ⊎ ((s ≡ i) × (u ≡ v))) → r ≤ s
        least r s u (inl l) (inl h) = f.least r s u l h
        least r s u (inl l) (inr h) =
            let q = (f.made r u (first_in (at makes u) r l)).0 in
            let z = h.0 in
            omega (arith, q, z)
        least r s u (inr l) (inl h) = absurd (subst (In s) l.1 h)
        least r s u (inr l) (inr h) = let a = l.0 in let b = h.0 in omega (arith, a, b)

        orphan : (r : ℕ) → ((r < i) ⊎ (r ≡ i)) → entry makers r ≡ None → (flag live r ≡ true) × (orphans ≡ true)
        orphan r (inl l) z = f.orphan r l z
        orphan r (inr s) z = let p : None ≡ Some v = sym z ∙ (ap (entry makers) s ∙ e) in cc

  pub files_one : (g : IsGraph live makers out) (i : ℕ) (m n : MarksSeen) (by : Option ℕ) → Filing i m → entry makers i ≡ by
      → ((by ≡ None) → flag live i ≡ true) → n ≡ filed_under i by m → Filing (suc i) n
  files_one g i m n None q e y s =
      subst (Filing (suc i)) (sym s) (record {
        live_is = q.live_is;
        makers_is = q.makers_is;
        out_is = q.out_is;
        watchers = q.watchers;
        wanted = q.wanted;
        root = q.root;
        others = q.others;
        touched = q.touched;
        makes = q.makes;
        rows = filed_none g i m.makes m.orphans q.rows e (y refl);
        lacks = q.lacks;
        list = q.list;
        todo = q.todo;
      })
  files_one g i m n (Some v) q e y s =
      subst (Filing (suc i)) (sym s) (record {
        live_is = q.live_is;
        makers_is = q.makers_is;
        out_is = q.out_is;
        watchers = q.watchers;
        wanted = q.wanted;
        root = q.root;
        others = q.others;
        touched = q.touched;
        makes = length-set m.makes v (at m.makes v ++ i ∷ []) ∙ q.makes;
        rows = filed_some g i m.makes m.orphans q.rows v q.makes e;
        lacks = q.lacks;
        list = q.list;
        todo = q.todo;
      })

  -- ---- all rows are filed

  pub files_all : (g : IsGraph live makers out) (i : ℕ) (m : MarksSeen) → length live ≤ i → i ≤ length live → Filing i m
      → HasGraph live makers out m × ((needs : Needs) → Stands m needs [] [])
  files_all g i m a b q = (
    record { live_is = q.live_is; makers_is = q.makers_is; out_is = q.out_is },
    λ needs. record {
      shape = record {
        makers = ap length q.makers_is ∙ (g.makers_long ∙ ap length (sym q.live_is));
        watchers = q.watchers ∙ ap length (sym q.live_is);
        wanted = q.wanted ∙ ap (λ fs. suc (length fs)) (sym q.live_is);
        out = ap length q.out_is ∙ (g.out_long ∙ ap (λ fs. suc (length fs)) (sym q.live_is));
        touched = q.touched ∙ ap (λ fs. suc (length fs)) (sym q.live_is);
        makes = q.makes ∙ ap (λ fs. suc (length fs)) (sym q.live_is);
        lacks = q.lacks ∙ ap (λ fs. suc (length fs)) (sym q.live_is);
        nodes = λ r u e. subst (λ fs. (0 < u) × (u ≤ length fs)) (sym q.live_is) (g.nodes r u (ap (λ es. entry es r) (sym q.makers_is) ∙ e));
      };
      filed = subst (λ fs. Filed (length fs) fs m.makers m.makes m.orphans) (sym q.live_is)
          (subst (λ es. Filed (length live) live es m.makes m.orphans) (sym q.makers_is)
          (subst (λ z. Filed z live makers m.makes m.orphans) (all a b) q.rows));
      root = q.root;
      justified = λ u h. inl (subst (Led (net needs m.live m.makers m.out)) (sym (q.others u h)) root);
      counted = λ u c. inr (inl (subst (In u) (sym q.todo) (inl (q.others u c.0))));
      ready = λ r h. absurd (subst (In r) q.list h);
    },
  )
    where
      all : length live ≤ i → i ≤ length live → i ≡ length live
      all a b = omega (arith, a, b)

pub made_or_live : (o : Option ℕ) (b : Bool) → not (is_some o) && not b ≡ false → o ≡ None → b ≡ true
made_or_live None true e z = refl
made_or_live None false e z = cc
made_or_live (Some u) b e z = cc

pub unmade : (o : Option ℕ) (b : Bool) → not (is_some o) && not b ≡ true → (o ≡ None) × (b ≡ false)
unmade None true e = cc
unmade None false e = (refl, refl)
unmade (Some u) b e = cc
