-- The names in an executor's arguments, each once, and what was copied of them.
use Rattle.std.proofs.Common.{◌≡◌, ℕ, List, [], ◌∷◌, ◌++◌, Bool, true, false, Option, Some, inl, inr, refl, sym, ap, subst, ◌∙◌}
use Rattle.std.specs.List.{AllByRecursion, IsDistinct}
use Rattle.sky_base.specs.Name.{held_name}
use Rattle.sky_base.specs.Names.{known_of}
use Rattle.sky_base.specs.Val.{Desc, distinct, known, same_text}
use Rattle.sky_base.proofs.Exact.{exact_text, self_text}
use Rattle.sky_base_law.specs.Tasks.{Apart, Each, In}
use Rattle.sky_base_law.proofs.TaskOutputs.{distinct_apart, distinct_in}
use Rattle.ciel_store.specs.Seen.{ShelvesSeen}
use Rattle.ciel_task_order.specs.Orders.{names_in}
use Rattle.ciel_task_order.specs.declared.block.Held.{Held}
use Rattle.ciel_task_inputs.specs.Gathers.{CopiedFor, none, one}
use Rattle.ciel_task_inputs.specs.Copies.{Copies}
use Rattle.ciel_task_inputs.specs.Fetched.{fetched, told_next}
use Rattle.ciel_task_inputs.proofs.FetchedNames.{fetched_both, fetched_of, stands_not, told_copied}
use Rattle.ciel_task_inputs.proofs.CopiedObjects.{copies_more}
use Rattle.ciel_task_inputs.proofs.NameSpots.{found_named}

-- ---- the names

-- the name of each stands in the list of names
among_known : (ns : List (List ℕ)) (n : List ℕ) → In n ns → In (known n) (known_of ns)
among_known [] n i = absurd i
among_known (m ∷ ns) n (inl e) = inl (ap known e)
among_known (m ∷ ns) n (inr i) = inr (among_known ns n i)

apart_names : (ns : List (List ℕ)) → Apart (known_of ns) → IsDistinct same_text ns
unfolding IsDistinct
apart_names [] a = tt
apart_names (n ∷ ns) a = (others ns (λ i. a.0 (among_known ns n i)), apart_names ns a.1)
  where
    others : (ms : List (List ℕ)) → (In n ms → ⊥) → AllByRecursion (λ y. same_text n y ≡ false) ms
    others [] h = tt
    others (m ∷ ms) h = (no (same_text n m) refl, others ms (λ i. h (inr i)))
      where
        no : (b : Bool) → same_text n m ≡ b → same_text n m ≡ false
        no true t = absurd (h (inl (exact_text n m t)))
        no false t = t

module _ (ns : List (List ℕ)) (ds : List (Desc (List ℕ))) (are : known_of ns ≡ distinct same_text ds) where
  pub names_distinct : IsDistinct same_text ns
  names_distinct = apart_names ns (subst Apart (sym are) (distinct_apart same_text exact_text self_text ds))

  -- each of them is the name of a reference
  pub names_refer : (n : List ℕ) → In n ns → In (known n) ds
  names_refer n i = distinct_in same_text exact_text self_text ds (known n) (subst (In (known n)) are (among_known ns n i))

  -- so it is brought along where all references are
  pub names_there : (there : List (List ℕ)) → Each (λ d. In (held_name d) there) ds → Each (λ n. In n there) ns
  names_there there h = each ns (λ n i. i)
    where
      of_ref : (es : List (Desc (List ℕ))) (d : Desc (List ℕ)) → Each (λ e. In (held_name e) there) es → In d es → In (held_name d) there
      of_ref [] d e i = absurd i
      of_ref (x ∷ es) d e (inl q) = subst (λ y. In (held_name y) there) (sym q) e.0
      of_ref (x ∷ es) d e (inr i) = of_ref es d e.1 i

      each : (ms : List (List ℕ)) → ((n : List ℕ) → In n ms → In n ns) → Each (λ n. In n there) ms
      each [] sub = tt
      each (m ∷ ms) sub = (of_ref ds (known m) h (names_refer m (sub m (inl refl))), each ms (λ n i. sub n (inr i)))

-- ---- what was copied of them

module _ (shelves : ShelvesSeen) (w : ℕ) (inputs : List (List ℕ × List ℕ)) (held : List Held) where
  fewer_apart : (n m : List ℕ) (ns : List (List ℕ)) → AllByRecursion (λ y. same_text n y ≡ false) (ns ++ m ∷ [])
      → AllByRecursion (λ y. same_text n y ≡ false) ns × (same_text n m ≡ false)
  fewer_apart n m [] a = (tt, a.0)
  fewer_apart n m (k ∷ ns) a = let rest = fewer_apart n m ns a.1 in ((a.0, rest.0), rest.1)

  -- without the last one
  fewer : (ns : List (List ℕ)) (m : List ℕ) → IsDistinct same_text (ns ++ m ∷ []) → IsDistinct same_text ns × (In m ns → ⊥)
  unfolding IsDistinct
  fewer [] m d = (tt, λ i. i)
  fewer (n ∷ ns) m d = go (fewer_apart n m ns d.0) (fewer ns m d.1)
    where
      true_false : true ≡ false → ⊥
      true_false e = cc

      go : AllByRecursion (λ y. same_text n y ≡ false) ns × (same_text n m ≡ false) → IsDistinct same_text ns × (In m ns → ⊥)
          → (AllByRecursion (λ y. same_text n y ≡ false) ns × IsDistinct same_text ns) × (In m (n ∷ ns) → ⊥)
      go first rest = ((first.0, rest.0), new)
        where
          new : In m (n ∷ ns) → ⊥
          new (inl e) = true_false (sym (ap (same_text n) e ∙ self_text n) ∙ first.1)
          new (inr i) = rest.1 i

  nothing_twice : IsDistinct same_text []
  unfolding IsDistinct
  nothing_twice = tt

  known_push : (ns : List (List ℕ)) (n : List ℕ) → known_of (ns ++ n ∷ []) ≡ known_of ns ++ known n ∷ []
  known_push [] n = refl
  known_push (m ∷ ns) n = ap (λ ds. known m ∷ ds) (known_push ns n)

  of_known : (ns : List (List ℕ)) (d : Desc (List ℕ)) → In d (known_of ns) → In (held_name d) ns
  of_known [] d i = absurd i
  of_known (n ∷ ns) d (inl e) = inl (ap held_name e)
  of_known (n ∷ ns) d (inr i) = inr (of_known ns d i)

  -- what was fetched of these has their names
  fetched_names : (ns : List (List ℕ)) (n : List ℕ) → In n (fetched w held (known_of ns)) → In n ns
  fetched_names ns n i =
      let d = fetched_of w held (known_of ns) n i in
      subst (λ m. In m ns) (sym d.2) (of_known ns d.0 d.1)

  -- it is just what was fetched, in order
  pub copied_for : (ns : List (List ℕ)) (new : List Held) → CopiedFor shelves w inputs held [] ns new → IsDistinct same_text ns
      → Copies shelves w inputs held new × (names_in new ≡ fetched w held (known_of ns))
  copied_for ns new none d = ((tt, nothing_twice), refl)
  copied_for ns new (one {ns = before_it} {mid = mid} n h o before f at so) d =
      let d' = fewer before_it n d in
      let rest = copied_for before_it mid before d'.0 in
      let fresh = λ (i : In n (names_in mid)). d'.1 (fetched_names before_it n (subst (In n) rest.1 i)) in (
        copies_more shelves w inputs held n h o mid new rest.0 f at so fresh,
        told_copied w held shelves n h o mid new f (found_named n held h f) so (stands_not n (names_in mid) fresh)
            ∙ (ap (λ ms. told_next w held ms n) rest.1
            ∙ (sym (fetched_both w held [] (known_of before_it) (known n ∷ [])) ∙ ap (fetched w held) (sym (known_push before_it n)))),
      )

  -- of the names of these references, each once
  pub copied_refs : (ns : List (List ℕ)) (ds : List (Desc (List ℕ))) → known_of ns ≡ distinct same_text ds → (old new : List Held) → old ≡ []
      → CopiedFor shelves w inputs held old ns new → Copies shelves w inputs held new × (names_in new ≡ fetched w held (distinct same_text ds))
  copied_refs ns ds are old new none_yet c =
      let all = copied_for ns new (subst (λ os. CopiedFor shelves w inputs held os ns new) none_yet c) (names_distinct ns ds are) in
      (all.0, all.1 ∙ ap (fetched w held) are)
