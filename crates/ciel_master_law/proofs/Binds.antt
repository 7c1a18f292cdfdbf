-- Functions that bind their parameters one by one, by what the tests for names say. The empty name is that of the main body.
use Rattle.std.proofs.Common.{◌≡◌, List, [], ◌∷◌, Bool, true, false, ◌||◌, ℕ, inl, inr, refl, sym, ◌∙◌}
use Rattle.sky_base.specs.Eval.{is_one_of}
use Rattle.sky_base.specs.Tree.{FunDef}
use Rattle.sky_base.specs.Val.{same_text}
use Rattle.sky_base.proofs.Exact.{exact_text}
use Rattle.sky_parse_grammar.proofs.UsesLaw.{one_of}
use Rattle.sky_base_law.specs.Tasks.{Apart, Each, In}
use Rattle.sky_parse_law.specs.Orderly.{Orderly}

-- none of these is one of those
abbrev pub NoneOf : List (List ℕ) → List (List ℕ) → Type 0
NoneOf [] us = Unit {0}
NoneOf (x ∷ xs) us = (is_one_of x us ≡ false) × NoneOf xs us

-- each is another one than those behind it
abbrev pub AllApart : List (List ℕ) → Type 0
AllApart [] = Unit {0}
AllApart (x ∷ xs) = (is_one_of x xs ≡ false) × AllApart xs

pub record Binds (f : FunDef) : Type 0 where
  pub named : f.name ≡ [] → ⊥
  pub apart : AllApart f.params
  pub unused : NoneOf f.params f.uses

abbrev pub AllBind : List FunDef → Type 0
AllBind [] = Unit {0}
AllBind (f ∷ fs) = Binds f × AllBind fs

-- ---- orderly functions do

one_in : (x : List ℕ) (xs : List (List ℕ)) → is_one_of x xs ≡ true → In x xs
one_in x [] e = cc
one_in x (y ∷ xs) e = go (same_text x y) refl (sym (one_of x y xs) ∙ e) (λ q. one_in x xs q)
  where
    go : (b : Bool) → same_text x y ≡ b → b || is_one_of x xs ≡ true → (is_one_of x xs ≡ true → In x xs) → In x (y ∷ xs)
    go true s q rest = inl (exact_text x y s)
    go false s q rest = inr (rest q)

none_in : (x : List ℕ) (xs : List (List ℕ)) → (is_one_of x xs ≡ true → ⊥) → is_one_of x xs ≡ false
none_in x xs n = go (is_one_of x xs) refl
  where
    go : (b : Bool) → is_one_of x xs ≡ b → is_one_of x xs ≡ false
    go true e = absurd (n e)
    go false e = e

all_apart : (xs : List (List ℕ)) → Apart xs → AllApart xs
all_apart [] a = tt
all_apart (x ∷ xs) a = (none_in x xs (λ e. a.0 (one_in x xs e)), all_apart xs a.1)

none_used : (us xs : List (List ℕ)) → ((x : List ℕ) → is_one_of x us ≡ true → In x xs → ⊥) → NoneOf xs us
none_used us [] n = tt
none_used us (x ∷ xs) n = (none_in x us (λ e. n x e (inl refl)), none_used us xs (λ y e i. n y e (inr i)))

pub all_bind : (fs : List FunDef) → Each Orderly fs → AllBind fs
all_bind [] h = tt
all_bind (f ∷ fs) h =
    (record { named = h.0.named; apart = all_apart f.params h.0.apart; unused = none_used f.uses f.params h.0.captured }, all_bind fs h.1)
