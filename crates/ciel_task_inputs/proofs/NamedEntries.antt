-- The entries of a list, one after another, up to that of a name.
use Rattle.std.proofs.Common.{◌≡◌, ◌<◌, ℕ, zero, suc, ◌+◌, List, [], ◌∷◌, ◌++◌, length, take, Bool, true, false, cond, Some, None, get_or}
use Rattle.std.proofs.Common.{sym, ap, subst, ◌∙◌, arith}
use Rattle.sky_base.specs.Val.{same_text}
use Rattle.ciel_table.specs.Named.{found}
use Rattle.ciel_task_inputs.proofs.Indexes.{take_next}

module _ {X : Type 0} (name : X → List ℕ) (n : List ℕ) where
  none_push : (xs : List X) (x : X) → found name n xs ≡ None → same_text n (name x) ≡ false → found name n (xs ++ x ∷ []) ≡ None
  none_push [] x f s = ap (λ b. cond b (Some x) None) s
  none_push (y ∷ ys) x f s = go (same_text n (name y)) f (none_push ys x)
    where
      go : (b : Bool) → cond b (Some y) (found name n ys) ≡ None
          → (found name n ys ≡ None → same_text n (name x) ≡ false → found name n (ys ++ x ∷ []) ≡ None)
          → cond b (Some y) (found name n (ys ++ x ∷ [])) ≡ None
      go true e later = absurd cc
      go false e later = later e s

  -- none has the name up to here, nor has the next one
  pub none_next : (xs : List X) (i : ℕ) (x : X) → i < length xs → x ≡ get_or xs i x → found name n (take i xs) ≡ None
      → same_text n (name x) ≡ false → found name n (take (i + 1) xs) ≡ None
  none_next xs i x l e f s =
      subst (λ ys. found name n ys ≡ None) (sym (take_next name xs i x l e)) (none_push (take i xs) x f s)

  -- none has it up to here, and the next one has it
  pub found_next : (xs : List X) (i : ℕ) (x : X) → i < length xs → x ≡ get_or xs i x → found name n (take i xs) ≡ None
      → same_text n (name x) ≡ true → found name n xs ≡ Some x
  found_next [] i x l e f s = absurd (omega (arith, l))
  found_next (y ∷ ys) zero x l e f s =
      ap (λ b. cond b (Some y) (found name n ys)) (subst (λ z. same_text n (name z) ≡ true) e s) ∙ ap Some (sym e)
  found_next (y ∷ ys) (suc i) x l e f s = go (same_text n (name y)) f (found_next ys i x (omega (arith, l)) e)
    where
      go : (b : Bool) → cond b (Some y) (found name n (take i ys)) ≡ None
          → (found name n (take i ys) ≡ None → same_text n (name x) ≡ true → found name n ys ≡ Some x)
          → cond b (Some y) (found name n ys) ≡ Some x
      go true q later = absurd cc
      go false q later = later q s
