-- Lists that were picked from a list, in order.
use Rattle.std.proofs.Common.{List, [], ◌∷◌, sym, subst, inl, inr}
use Rattle.std.specs.List.{AllByRecursion}
use Rattle.ciel_journal.specs.Graph.{Picks}
use Rattle.ciel_journal.specs.Job.{In}

module _ {A : Type 0} where
  -- what means the same picks the same
  pub picks_same : (P Q : A → Type 0) → ((x : A) → P x → Q x) → ((x : A) → Q x → P x) → (xs ts : List A) → Picks P xs ts → Picks Q xs ts
  picks_same P Q f g [] ts k = k
  picks_same P Q f g (x ∷ xs) ts (inl k) = inl (f x k.0, (k.1.0, k.1.1, picks_same P Q f g xs k.1.0 k.1.2))
  picks_same P Q f g (x ∷ xs) ts (inr k) = inr (λ q. k.0 (g x q), picks_same P Q f g xs ts k.1)

  -- all that was picked is of those
  pub picks_all : (P : A → Type 0) (xs ts : List A) → Picks P xs ts → AllByRecursion P ts
  picks_all P [] ts k = subst (AllByRecursion P) (sym k) tt
  picks_all P (x ∷ xs) ts (inl k) =
      subst (AllByRecursion P) (sym k.1.1) (k.0, picks_all P xs k.1.0 k.1.2)
  picks_all P (x ∷ xs) ts (inr k) = picks_all P xs ts k.1

  -- where nothing was picked nothing is of those
  pub picks_none : (P : A → Type 0) (xs : List A) → Picks P xs [] → (x : A) → In x xs → P x → ⊥
  picks_none P [] k x i p = absurd i
  picks_none P (y ∷ ys) (inl k) x i p = let e = k.1.1 in cc
  picks_none P (y ∷ ys) (inr k) x (inl s) p = k.0 (subst P s p)
  picks_none P (y ∷ ys) (inr k) x (inr i) p = picks_none P ys k.1 x i p
