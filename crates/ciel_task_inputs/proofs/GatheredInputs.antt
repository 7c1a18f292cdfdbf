-- What is gathered so far, and one more.
use Rattle.std.proofs.Common.{◌≡◌, ◌<◌, ℕ, zero, suc, ◌+◌, List, [], ◌∷◌, ◌++◌, length, map, take, Bool, true, false, cond, Option, Some, None}
use Rattle.std.proofs.Common.{slice_index_or, inl, inr, refl, sym, ap, ap₂, subst, ◌∙◌, arith}
use Rattle.std.proofs.lemmas.List.{map-append}
use Rattle.std.specs.Option.{option_and_then}
use Rattle.sky_base.specs.ObjectView.{object_view}
use Rattle.sky_base.specs.Res as logic
use Rattle.sky_base.specs.Val.{same_text}
use Rattle.sky_base.specs.declared.object.Object.{Object}
use Rattle.sky_base.proofs.Exact.{self_text}
use Rattle.sky_base_law.specs.Tasks.{Each, In}
use Rattle.sky_base_law.proofs.Lists.{some_is}
use Rattle.ciel_table.specs.Named.{found}
use Rattle.ciel_task_order.specs.declared.block.Held.{Held}
use Rattle.ciel_store.specs.Seen.{ShelvesSeen}
use Rattle.ciel_task_inputs.specs.Lies.{CopiedSo, held_name, lies_at}
use Rattle.ciel_task_inputs.specs.Gathers.{CopiedFor, lies_of}

-- ---- what is found

module _ {X : Type 0} (name : X → List ℕ) where
  pub each_found : (P : X → Type 0) (n : List ℕ) (xs : List X) (x : X) → Each P xs → found name n xs ≡ Some x → P x
  each_found P n [] x h e = absurd cc
  each_found P n (y ∷ ys) x h e = go (same_text n (name y)) e (each_found P n ys x h.1)
    where
      go : (b : Bool) → cond b (Some y) (found name n ys) ≡ Some x → (found name n ys ≡ Some x → P x) → P x
      go true e later = subst P (some_is y x e) h.0
      go false e later = later e

  -- a name that stands in the list is found
  pub found_some : (n : List ℕ) (xs : List X) → In n (map name xs) → found name n xs ≡ None → ⊥
  found_some n [] i e = i
  found_some n (y ∷ ys) i e = go (same_text n (name y)) refl e (found_some n ys)
    where
      later : In n (name y ∷ map name ys) → same_text n (name y) ≡ false → In n (map name ys)
      later (inl q) f = let t : same_text n (name y) ≡ true = ap (λ m. same_text n m) (sym q) ∙ self_text n in absurd (true_false (sym t ∙ f))
        where
          true_false : true ≡ false → ⊥
          true_false z = cc
      later (inr j) f = j

      go : (b : Bool) → same_text n (name y) ≡ b → cond b (Some y) (found name n ys) ≡ None → (In n (map name ys) → found name n ys ≡ None → ⊥) → ⊥
      go true t e rest = absurd cc
      go false f e rest = rest (later i f) e

pub each_index : {A : Type 0} (P : A → Type 0) (xs : List A) (i : ℕ) (x : A) → Each P xs → i < length xs → x ≡ slice_index_or xs i x → P x
each_index P [] i x h l e = absurd (omega (arith, l))
each_index P (y ∷ ys) zero x h l e = subst P (sym e) h.0
each_index P (y ∷ ys) (suc i) x h l e = each_index P ys i x h.1 (omega (arith, l)) e

pub in_index : {A : Type 0} (xs : List A) (i : ℕ) (x : A) → i < length xs → x ≡ slice_index_or xs i x → In x xs
in_index [] i x l e = absurd (omega (arith, l))
in_index (y ∷ ys) zero x l e = inl e
in_index (y ∷ ys) (suc i) x l e = inr (in_index ys i x (omega (arith, l)) e)

take_one : {A : Type 0} (xs : List A) (i : ℕ) (x : A) → i < length xs → x ≡ slice_index_or xs i x → take (i + 1) xs ≡ take i xs ++ x ∷ []
take_one [] i x h e = absurd (omega (arith, h))
take_one (y ∷ xs) zero x h e = ap (λ z. z ∷ []) (sym e)
take_one (y ∷ xs) (suc i) x h e =
    let next : suc i + 1 ≡ suc (i + 1) = omega arith in
    rw next (ap (λ ys. y ∷ ys) (take_one xs i x (omega (arith, h)) e))

take_whole : {A : Type 0} (xs : List A) (i : ℕ) → (i < length xs → ⊥) → take i xs ≡ xs
take_whole [] zero h = refl
take_whole [] (suc i) h = refl
take_whole (x ∷ xs) zero h = absurd (h (omega arith))
take_whole (x ∷ xs) (suc i) h = ap (λ ys. x ∷ ys) (take_whole xs i (λ l. h (omega (arith, l))))

-- ---- what lies there

module _ (inputs : List (List ℕ × List ℕ)) (held : List Held) where
  abbrev pub lies : List ℕ → Option (logic.Object (List ℕ))
  lies n = lies_of inputs held n

  abbrev pub seen_of : Object → Option (logic.Object (List ℕ))
  seen_of o = Some (object_view o)

  lies_is : (n : List ℕ) (h : Held) (o : Object) → found held_name n held ≡ Some h → lies_at inputs h.at ≡ Some (object_view o) → lies n ≡ seen_of o
  lies_is n h o f l = ap (λ x. option_and_then (λ (g : Held). lies_at inputs g.at) x) f ∙ l

  -- one more
  pub gathered_more : (ns : List (List ℕ)) (i : ℕ) (n : List ℕ) (h : Held) (os : List Object) (o : Object) → i < length ns → n
      ≡ slice_index_or ns i n → map lies (take i ns) ≡ map seen_of os → found held_name n held ≡ Some h → lies_at inputs h.at
      ≡ Some (object_view o) → map lies (take (i + 1) ns) ≡ map seen_of (os ++ o ∷ [])
  gathered_more ns i n h os o l e so f at =
      ap (map lies) (take_one ns i n l e)
      ∙ map-append lies (take i ns) (n ∷ [])
      ∙ ap₂ (λ xs x. xs ++ x ∷ []) so (lies_is n h o f at)
      ∙ sym (map-append seen_of os (o ∷ []))

  pub gathered_all : (ns : List (List ℕ)) (i : ℕ) (os : List Object) → (i < length ns → ⊥) → map lies (take i ns) ≡ map seen_of os → map lies ns
      ≡ map seen_of os
  gathered_all ns i os h so = ap (map lies) (sym (take_whole ns i h)) ∙ so

pub split_at : {A : Type 0} (xs : List A) (i : ℕ) (x : A) → i < length xs → x ≡ slice_index_or xs i x → (after : List A)
    × (xs ≡ take i xs ++ x ∷ after)
split_at [] i x l e = absurd (omega (arith, l))
split_at (y ∷ ys) zero x l e = (ys, ap (λ z. z ∷ ys) (sym e))
split_at (y ∷ ys) (suc i) x l e =
    let s = split_at ys i x (omega (arith, l)) e in
    (s.0, ap (λ zs. y ∷ zs) s.1)

-- ---- what was copied

module _ (shelves : ShelvesSeen) (w : ℕ) (inputs : List (List ℕ × List ℕ)) (held old : List Held) where
  pub copied_more : (ns : List (List ℕ)) (i : ℕ) (n : List ℕ) (h : Held) (o : logic.Object (List ℕ)) (mid new : List Held) → i < length ns → n
      ≡ slice_index_or ns i n → CopiedFor shelves w inputs held old (take i ns) mid → found held_name n held ≡ Some h → lies_at inputs h.at
      ≡ Some o → CopiedSo shelves w h o mid new → CopiedFor shelves w inputs held old (take (i + 1) ns) new
  copied_more ns i n h o mid new l e c f at so =
      subst (λ xs. CopiedFor shelves w inputs held old xs new) (sym (take_one ns i n l e)) (CopiedFor.one n h o c f at so)

  pub copied_all : (ns : List (List ℕ)) (i : ℕ) (new : List Held) → (i < length ns → ⊥) → CopiedFor shelves w inputs held old (take i ns) new
      → CopiedFor shelves w inputs held old ns new
  copied_all ns i new h c = subst (λ xs. CopiedFor shelves w inputs held old xs new) (take_whole ns i h) c
