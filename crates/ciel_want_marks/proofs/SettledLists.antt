-- What is taken off the end of a list.
use Rattle.std.proofs.Common.{◌≡◌, ◌≤◌, length, set, ℕ, List, [], ◌∷◌, ◌++◌, Bool, true, false, refl, sym, ◌∙◌, subst, ◌⊎◌, inl, inr, Some, None}
use Rattle.ciel_journal.specs.Job.{In}
use Rattle.ciel_want_marks.specs.Lists.{Settled, at, flag}
use Rattle.ciel_want_marks.proofs.Slots.{at_beyond, in_last, in_push, set_beyond}

module _ (flags : List Bool) (old cur : List ℕ) (inside : (y : ℕ) → In y cur → In y old)
    (left : (y : ℕ) → In y old → In y cur ⊎ (flag flags y ≡ true)) where
  module _ (popped : List ℕ) (x : ℕ) (is : cur ≡ popped ++ x ∷ []) where
    pub settled_some : (now : List ℕ) → now ≡ popped ++ x ∷ [] → flag flags x ≡ false → Settled flags old now (Some x)
    settled_some now e f =
        let same : cur ≡ now = is ∙ sym e in
        record {
          inside = λ y h. inside y (subst (In y) (sym same) h);
          left = λ y h. subst (λ ys. In y ys ⊎ (flag flags y ≡ true)) same (left y h);
          ends = (subst (In x) (sym e) (in_last popped x), f);
        }

    pub popped_inside : (y : ℕ) → In y popped → In y old
    popped_inside y h = inside y (subst (In y) (sym is) (push popped h))
      where
        push : (ys : List ℕ) → In y ys → In y (ys ++ x ∷ [])
        push [] h = absurd h
        push (z ∷ zs) (inl s) = inl s
        push (z ∷ zs) (inr h) = inr (push zs h)

    pub popped_left : flag flags x ≡ true → (y : ℕ) → In y old → In y popped ⊎ (flag flags y ≡ true)
    popped_left f y h = turn (left y h)
      where
        last : (In y popped ⊎ (y ≡ x)) → In y popped ⊎ (flag flags y ≡ true)
        last (inl k) = inl k
        last (inr s) = inr (subst (λ z. flag flags z ≡ true) (sym s) f)

        turn : (In y cur ⊎ (flag flags y ≡ true)) → In y popped ⊎ (flag flags y ≡ true)
        turn (inl k) = last (in_push popped x y (subst (In y) is k))
        turn (inr f) = inr f

-- beyond the end there is nothing to take
pub settled_beyond : (lists : List (List ℕ)) (i : ℕ) (flags : List Bool) → length lists ≤ i → (x : List ℕ) × (lists ≡ set lists i x)
    × Settled flags (at lists i) x None
settled_beyond lists i flags l =
    let e : at lists i ≡ [] = at_beyond lists i l in (
      [],
      set_beyond lists i [] l,
      record { inside = λ y h. absurd h; left = λ y h. absurd (subst (In y) e h); ends = refl },
    )
