-- Lines that are read one by one.
use Rattle.std.proofs.Common.{◌≡◌, List, [], ◌∷◌, ◌++◌, ℕ, Option, Some, None, refl, sym, ap, ◌∙◌, append_assoc, append-nil}
use Rattle.std.specs.Prelude.{option_and_then}
use Rattle.std.specs.Option.{option_map}
use Rattle.line_kit.specs.Gives.{read_each}
use Rattle.line_flow.specs.Kept.{Unread}

module _ {A : Type 0} (read : List ℕ → Option A) where
  abbrev pub behind : List A → Option (List A) → Option (List A)
  behind vs o = option_map (λ bs. vs ++ bs) o

  behind-cons : (a : A) (vs : List A) (o : Option (List A)) → option_map (λ more. a ∷ more) (behind vs o) ≡ behind (a ∷ vs) o
  behind-cons a vs None = refl
  behind-cons a vs (Some bs) = refl

  behind-nil : (o : Option (List A)) → o ≡ behind [] o
  behind-nil None = refl
  behind-nil (Some bs) = refl

  some_inside : (l : List ℕ) (o : Option A) (more : Option (List A)) (vs : List A) → option_and_then (λ a. option_map (λ bs. a ∷ bs) more) o ≡ Some vs
      → (a : A) × (bs : List A) × (o ≡ Some a) × (more ≡ Some bs) × (vs ≡ a ∷ bs)
  some_inside l None more vs e = absurd (let bad : None ≡ Some vs = e in (cc))
  some_inside l (Some a) None vs e = absurd (let bad : None ≡ Some vs = e in (cc))
  some_inside l (Some a) (Some bs) vs e = (a, bs, refl, refl, let same : Some (a ∷ bs) ≡ Some vs = e in sym (cc))

  pub read-append : (ls ms : List (List ℕ)) (vs : List A) → read_each read ls ≡ Some vs → read_each read (ls ++ ms) ≡ behind vs (read_each read ms)
  read-append [] ms vs e = let none : [] ≡ vs = cc in behind-nil (read_each read ms) ∙ ap (λ bs. behind bs (read_each read ms)) none
  read-append (l ∷ ls) ms vs e =
      let s = some_inside l (read l) (read_each read ls) vs e in
      ap (λ o. option_and_then (λ a. option_map (λ bs. a ∷ bs) (read_each read (ls ++ ms))) o) s.2
      ∙ ap (option_map (λ bs. s.0 ∷ bs)) (read-append ls ms s.1 s.3)
      ∙ behind-cons s.0 s.1 (read_each read ms) ∙ ap (λ bs. behind bs (read_each read ms)) (sym s.4)

  pub read_more : (ls : List (List ℕ)) (l : List ℕ) (vs : List A) (a : A) → read_each read ls ≡ Some vs → read l ≡ Some a
      → read_each read (ls ++ l ∷ []) ≡ Some (vs ++ a ∷ [])
  read_more ls l vs a e f = read-append ls (l ∷ []) vs e ∙ ap (λ o. behind vs (option_and_then (λ x. option_map (λ more. x ∷ more) (Some [])) o)) f

  -- a line that can't be read, and whatever follows
  pub unread_now : (ls : List (List ℕ)) (l : List ℕ) (vs : List A) → read_each read ls ≡ Some vs → read l ≡ None → Unread read (ls ++ l ∷ [])
  unread_now ls l vs e f more =
      ap (read_each read) (append_assoc ls (l ∷ []) more) ∙ read-append ls (l ∷ more) vs e
      ∙ ap (λ o. behind vs (option_and_then (λ x. option_map (λ bs. x ∷ bs) (read_each read more)) o)) f

  pub unread_more : (ls : List (List ℕ)) (l : List ℕ) → Unread read ls → Unread read (ls ++ l ∷ [])
  unread_more ls l h more = ap (read_each read) (append_assoc ls (l ∷ []) more) ∙ h (l ∷ more)

  pub unread_all : (ls : List (List ℕ)) → Unread read ls → read_each read ls ≡ None
  unread_all ls h = sym (ap (read_each read) (append-nil ls)) ∙ h []
