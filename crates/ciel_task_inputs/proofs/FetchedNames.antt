-- What is told where one more is asked for; and what is told was asked for.
use Rattle.std.proofs.Common.{◌≡◌, ℕ, suc, List, [], ◌∷◌, ◌++◌, Bool, true, false, cond, Option, Some, None, is_some, ◌⊎◌, inl, inr, refl, sym, ap, subst}
use Rattle.std.proofs.Common.{◌∙◌}
use Rattle.std.specs.Option.{option_map}
use Rattle.sky_base.specs.Name.{held_name}
use Rattle.sky_base.specs.Res.{Object}
use Rattle.sky_base.specs.Val.{Desc, same_text}
use Rattle.sky_base.proofs.Exact.{exact_text}
use Rattle.sky_base_law.specs.Tasks.{In}
use Rattle.ciel_journal.proofs.Numbers.{in_last}
use Rattle.ciel_store.specs.Seen.{ShelvesSeen}
use Rattle.ciel_table.specs.Named.{found, place_of}
use Rattle.ciel_task_order.specs.Orders.{names_in}
use Rattle.ciel_task_order.specs.declared.block.Held.{Held}
use Rattle.ciel_task_order.specs.declared.block.Spot.{Spot}
use Rattle.ciel_task_order.specs.declared.report.End.{End}
use Rattle.ciel_task_inputs.specs.Lies.{CopiedIf, CopiedSo, held_name as name_of_held, is_elsewhere}
use Rattle.ciel_task_inputs.specs.Fetched.{TellsFetched, fetched, fetched_after, lies_elsewhere, stands_in, told_next}

-- ---- a name among others

pub stands_not : (n : List ℕ) (ns : List (List ℕ)) → (In n ns → ⊥) → stands_in n ns ≡ false
stands_not n [] h = refl
stands_not n (m ∷ ms) h = go (same_text n m) refl (stands_not n ms (λ i. h (inr i)))
  where
    go : (b : Bool) → same_text n m ≡ b → stands_in n ms ≡ false → cond (same_text n m) true (stands_in n ms) ≡ false
    go true t e = absurd (h (inl (exact_text n m t)))
    go false t e = ap (λ b. cond b true (stands_in n ms)) t ∙ e

-- it has a place there
pub stands_place : (n : List ℕ) (cs : List Held) → stands_in n (names_in cs) ≡ is_some (place_of name_of_held n cs)
stands_place n [] = refl
stands_place n (c ∷ cs) = go (same_text n c.name) (place_of name_of_held n cs) (stands_place n cs)
  where
    go : (b : Bool) (o : Option ℕ) → stands_in n (names_in cs) ≡ is_some o → cond b true (stands_in n (names_in cs))
        ≡ is_some (cond b (Some 0) (option_map suc o))
    go true o e = refl
    go false None e = e
    go false (Some k) e = e

names_push : (cs : List Held) (c : Held) → names_in (cs ++ c ∷ []) ≡ names_in cs ++ c.name ∷ []
names_push [] c = refl
names_push (x ∷ cs) c = ap (λ ns. x.name ∷ ns) (names_push cs c)

module _ (w : ℕ) (held : List Held) where
  -- one that was told isn't told again
  pub told_there : (ns : List (List ℕ)) (n : List ℕ) → stands_in n ns ≡ true → told_next w held ns n ≡ ns
  told_there ns n t = ap (λ b. cond b ns (cond (lies_elsewhere w (found name_of_held n held)) (ns ++ n ∷ []) ns)) t

  -- one that was copied is
  pub told_copied : (shelves : ShelvesSeen) (n : List ℕ) (h : Held) (o : Object (List ℕ)) (old new : List Held) → found name_of_held n held ≡ Some h
      → n ≡ h.name → CopiedSo shelves w h o old new → stands_in n (names_in old) ≡ false → names_in new ≡ told_next w held (names_in old) n
  told_copied shelves n h o old new f e so fresh =
      go (is_elsewhere w h.at) so
      ∙ sym (ap (λ b. cond b (names_in old) (cond (lies_elsewhere w (found name_of_held n held)) (names_in old ++ n ∷ []) (names_in old))) fresh
      ∙ ap (λ x. cond (lies_elsewhere w x) (names_in old ++ n ∷ []) (names_in old)) f)
    where
      go : (b : Bool) → CopiedIf b shelves w h.name o old new → names_in new ≡ cond b (names_in old ++ n ∷ []) (names_in old)
      go false same = ap names_in same
      go true (p, grew, here, worker, lies) =
          ap names_in grew ∙ (names_push old (record { name = h.name; at = Spot.Shelf p }) ∙ ap (λ m. names_in old ++ m ∷ []) (sym e))

  -- one after another
  pub fetched_both : (ns : List (List ℕ)) (xs ys : List (Desc (List ℕ)))
      → fetched_after w held ns (xs ++ ys) ≡ fetched_after w held (fetched_after w held ns xs) ys
  fetched_both ns [] ys = refl
  fetched_both ns (x ∷ xs) ys = fetched_both (told_next w held ns (held_name x)) xs ys

  -- ---- what was told was asked for

  -- the name of one of these
  abbrev Asked : List (Desc (List ℕ)) → List ℕ → Type 0
  Asked ds n = (d : Desc (List ℕ)) × In d ds × (n ≡ held_name d)

  one_told : (ns : List (List ℕ)) (m n : List ℕ) → In n (told_next w held ns m) → In n ns ⊎ (n ≡ m)
  one_told ns m n i = go (stands_in m ns) (lies_elsewhere w (found name_of_held m held)) i
    where
      go : (a b : Bool) → In n (cond a ns (cond b (ns ++ m ∷ []) ns)) → In n ns ⊎ (n ≡ m)
      go true b j = inl j
      go false true j = in_last n ns m j
      go false false j = inl j

  all_told : (ns : List (List ℕ)) (ds : List (Desc (List ℕ))) (n : List ℕ) → In n (fetched_after w held ns ds) → In n ns ⊎ Asked ds n
  all_told ns [] n i = inl i
  all_told ns (d ∷ ds) n i = go (all_told (told_next w held ns (held_name d)) ds n i)
    where
      here : In n ns ⊎ (n ≡ held_name d) → In n ns ⊎ Asked (d ∷ ds) n
      here (inl j) = inl j
      here (inr e) = inr (d, inl refl, e)

      go : In n (told_next w held ns (held_name d)) ⊎ Asked ds n → In n ns ⊎ Asked (d ∷ ds) n
      go (inl j) = here (one_told ns (held_name d) n j)
      go (inr (e, j, is)) = inr (e, inr j, is)

  -- a name that was fetched is of one that was asked for
  pub fetched_of : (ds : List (Desc (List ℕ))) (n : List ℕ) → In n (fetched w held ds) → Asked ds n
  fetched_of ds n i = go (all_told [] ds n i)
    where
      go : In n [] ⊎ Asked ds n → Asked ds n
      go (inl j) = absurd j
      go (inr is) = is

  -- and so is one that a report tells
  pub tells_of : (ds : List (Desc (List ℕ))) (e : End) (cs : List Held) → TellsFetched w held ds e cs → (n : List ℕ) → In n (names_in cs)
      → Asked ds n
  tells_of ds (End.Made ms) cs f n i = fetched_of ds n (subst (In n) f i)
  tells_of ds (End.Shown s) cs f n i = fetched_of ds n (subst (In n) f i)
  tells_of ds (End.Saved p j refs holds mark) cs f n i = absurd (subst (λ ks. In n (names_in ks)) f i)
  tells_of ds (End.Missing name loss seen) cs f n i = absurd (subst (λ ks. In n (names_in ks)) f i)
