-- One more is copied.
use Rattle.std.proofs.Common.{◌≡◌, ◌<◌, ℕ, suc, List, [], ◌∷◌, ◌++◌, length, Bool, true, false, Option, Some, None, is_some, cond, nat_lt, Result, Ok}
use Rattle.std.proofs.Common.{Err, IfOk, MatchResult, ltb-true, ltb-false, inl, inr, ◌⊎◌, refl, sym, ap, subst, ◌∙◌, arith}
use Rattle.std.specs.BTreeMap.{BTreeMap, Updates, get}
use Rattle.std.specs.Option.{option_map}
use Rattle.ciel_task_inputs.specs.Copies.{Copies}
use Rattle.sky_base.specs.NameOrder.{name_cmp}
use Rattle.sky_base.specs.ObjectView.{object_view}
use Rattle.sky_base.specs.Res.{Object}
use Rattle.sky_base.specs.declared.object.Object as rust
use Rattle.sky_base.specs.Val.{known, same_text}
use Rattle.sky_base.proofs.Exact.{self_text}
use Rattle.sky_base_law.specs.Tasks.{In}
use Rattle.ciel_journal.specs.Job as j
use Rattle.ciel_store.specs.Seen.{ShelvesSeen}
use Rattle.ciel_store.specs.declared.shelves.Gone.{Gone}
use Rattle.ciel_table.specs.Inside.{IsIndex}
use Rattle.ciel_table.specs.Named.{found, place_of}
use Rattle.ciel_table.proofs.Index.{index_more}
use Rattle.ciel_task_order.specs.Orders.{names_in}
use Rattle.ciel_task_order.specs.declared.block.Held.{Held}
use Rattle.ciel_task_order.specs.declared.block.Spot.{Spot}
use Rattle.ciel_task_inputs.specs.Lies.{CopiedIf, CopiedSo, LostAt, held_name, is_elsewhere, lies_at}
use Rattle.ciel_task_inputs.proofs.CopiedObjects.{copies_more}
use Rattle.ciel_task_inputs.proofs.FetchedNames.{stands_place, told_copied, told_there}
use Rattle.ciel_task_inputs.specs.Fetched.{told_next}
use Rattle.ciel_task_inputs.proofs.NameSpots.{found_named}
use Rattle.ciel_task_call.specs.Finds.{CopiesStand, Noted, NotedIf}
use Rattle.ciel_task_call.specs.declared.copied.Copied.{Copied}

-- ---- names

-- what has no place isn't there
pub no_place : (n : List ℕ) (cs : List Held) → place_of held_name n cs ≡ None → j.In n (names_in cs) → ⊥
no_place n [] e i = i
no_place n (c ∷ cs) e i = go (same_text n c.name) refl (place_of held_name n cs) refl e i (λ q h. no_place n cs q h)
  where
    some_not : {A : Type 0} {a : A} → Some a ≡ None → ⊥
    some_not q = cc

    no : true ≡ false → ⊥
    no x = cc

    go : (b : Bool) → same_text n c.name ≡ b → (o : Option ℕ) → place_of held_name n cs ≡ o → cond b (Some 0) (option_map suc o) ≡ None
        → j.In n (c.name ∷ names_in cs) → (place_of held_name n cs ≡ None → j.In n (names_in cs) → ⊥) → ⊥
    go true t o q z h later = some_not z
    go false t (Some k) q z h later = some_not z
    go false t None q z (inl same) later = let f : same_text n c.name ≡ true = subst (λ m. same_text n m ≡ true) same (self_text n) in no (sym f ∙ t)
    go false t None q z (inr h) later = later q h

longer : (cs : List Held) (c : Held) → length cs < length (cs ++ c ∷ [])
longer [] c = omega arith
longer (x ∷ cs) c = let h : length cs < length (cs ++ c ∷ []) = longer cs c in omega (arith, h)

same_length : (k : ℕ) → nat_lt k k ≡ false
same_length k = go (nat_lt k k) refl
  where
    go : (b : Bool) → nat_lt k k ≡ b → nat_lt k k ≡ false
    go false e = e
    go true e = absurd (omega (arith, ltb-true k k e))

less : (k m : ℕ) → k < m → nat_lt k m ≡ true
less k m h = go (nat_lt k m) refl
  where
    go : (b : Bool) → nat_lt k m ≡ b → nat_lt k m ≡ true
    go true e = e
    go false e = absurd (omega (arith, h, ltb-false k m e))

module _ (shelves : ShelvesSeen) (w : ℕ) (inputs : List (List ℕ × List ℕ)) (held : List Held) where
  -- what was brought of a name that wasn't copied yet
  pub stands_more : (n : List ℕ) (h : Held) (o : Object (List ℕ)) (old : Copied) (items : List Held) (places : BTreeMap (List ℕ) ℕ)
      → CopiesStand shelves w inputs held old → place_of held_name n old.items.items ≡ None → found held_name n held ≡ Some h
      → lies_at inputs h.at ≡ Some o
      → CopiedSo shelves w h o old.items.items items → Noted n (length old.items.items) items old.places places
      → (new : Copied) → new.items.items ≡ items → new.places ≡ places → CopiesStand shelves w inputs held new
  stands_more n h o old items places c fresh f at so noted new is ps =
      record {
        copies = subst (Copies') (sym is) (copies_more shelves w inputs held n h o old.items.items items c.copies f at so
            (no_place n old.items.items fresh));
        places = subst (λ m. IsIndex held_name m new.items.items) (sym ps) (subst (IsIndex held_name places) (sym is) (go (is_elsewhere w h.at) so));
      }
    where
      Copies' : List Held → Type 0
      Copies' cs = Copies shelves w inputs held cs

      go : (b : Bool) → CopiedIf b shelves w h.name o old.items.items items → IsIndex held_name places items
      go false same =
          let stays : places ≡ old.places = subst (λ b. NotedIf b n (length old.items.items) old.places places)
          (ap (λ (xs : List Held). nat_lt (length old.items.items) (length xs)) same ∙ same_length (length old.items.items)) noted in
          subst (IsIndex held_name places) (sym same) (subst (λ m. IsIndex held_name m old.items.items) (sym stays) c.places)
      go true (p, grew, here, at, lies) =
          let one : Held = record { name = h.name; at = Spot.Shelf p } in
          let updates : Updates name_cmp old.places places n (Some (length old.items.items)) =
          subst (λ b. NotedIf b n (length old.items.items) old.places places)
          (less (length old.items.items) (length items)
          (subst (λ (xs : List Held). length old.items.items < length xs) (sym grew) (longer old.items.items one))) noted in
          subst (IsIndex held_name places) (sym grew)
          (index_more held_name old.places places old.items.items one n (length old.items.items) (sym (found_named n held h f)) refl c.places
          fresh updates)

  -- ---- one that is brought, or isn't

  none_noted : (n : List ℕ) (old : Copied) (places : BTreeMap (List ℕ) ℕ) → Noted n (length old.items.items) old.items.items old.places places
      → places ≡ old.places
  none_noted n old places noted =
      subst (λ b. NotedIf b n (length old.items.items) old.places places) (same_length (length old.items.items)) noted

  pub stands_after : (n : List ℕ) (h : Held) (r : Result rust.Object Gone) (old new : Copied) (items : List Held)
      → CopiesStand shelves w inputs held old → place_of held_name n old.items.items ≡ None → found held_name n held ≡ Some h
      → MatchResult r (λ o. lies_at inputs h.at ≡ Some (object_view o)) (λ gone. LostAt gone.loss h.at)
      → MatchResult r (λ o. CopiedSo shelves w h (object_view o) old.items.items items) (λ _. items ≡ old.items.items)
      → Noted n (length old.items.items) items old.places new.places → new.items.items ≡ items → CopiesStand shelves w inputs held new
  stands_after n h (Ok o) old new items c fresh f lies so noted is =
      stands_more n h (object_view o) old items new.places c fresh f lies so noted new is refl
  stands_after n h (Err gone) old new items c fresh f lies same noted is =
      let there : new.items.items ≡ old.items.items = is ∙ same in
      record {
        copies = subst (Copies shelves w inputs held) (sym there) c.copies;
        places = subst (λ m. IsIndex held_name m new.items.items)
            (sym (none_noted n old new.places (subst (λ xs. Noted n (length old.items.items) xs old.places new.places) same noted)))
            (subst (IsIndex held_name old.places) (sym there) c.places);
      }

  -- and what is told is what comes of its name, or what was told before
  pub names_after : (n : List ℕ) (h : Held) (r : Result rust.Object Gone) (old new : Copied) (items : List Held)
      → place_of held_name n old.items.items ≡ None → found held_name n held ≡ Some h
      → MatchResult r (λ o. CopiedSo shelves w h (object_view o) old.items.items items) (λ _. items ≡ old.items.items)
      → new.items.items ≡ items → MatchResult r (λ _. names_in new.items.items ≡ told_next w held (names_in old.items.items) n)
      (λ _. names_in new.items.items ≡ names_in old.items.items)
  names_after n h (Ok o) old new items fresh f so is =
      ap names_in is
      ∙ told_copied w held shelves n h (object_view o) old.items.items items f (found_named n held h f) so
      (stands_place n old.items.items ∙ ap is_some fresh)
  names_after n h (Err gone) old new items fresh f same is = ap names_in (is ∙ same)

-- what the map has was told
pub told_place : (w : ℕ) (held : List Held) (c : BTreeMap (List ℕ) ℕ) (cs : List Held) (n : List ℕ) → IsIndex held_name c cs
    → is_some (get name_cmp c n) ≡ true → (r : Result rust.Object Gone)
    → MatchResult r (λ _. names_in cs ≡ told_next w held (names_in cs) n) (λ _. names_in cs ≡ names_in cs)
told_place w held c cs n index e (Err gone) = refl
told_place w held c cs n index e (Ok o) =
    sym (told_there w held (names_in cs) n (stands_place n cs ∙ (ap is_some (sym (index n)) ∙ e)))

-- what the map hasn't has no place
pub fresh_place : (c : BTreeMap (List ℕ) ℕ) (cs : List Held) (n : List ℕ) → IsIndex held_name c cs → is_some (get name_cmp c n) ≡ false
    → place_of held_name n cs ≡ None
fresh_place c cs n index e = go (place_of held_name n cs) refl
  where
    no : true ≡ false → ⊥
    no x = cc

    go : (o : Option ℕ) → place_of held_name n cs ≡ o → place_of held_name n cs ≡ None
    go None q = q
    go (Some k) q = absurd (no (sym (ap is_some (index n ∙ q)) ∙ e))
