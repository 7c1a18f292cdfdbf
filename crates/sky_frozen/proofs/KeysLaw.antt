-- Names found among keys are names of the list.
use Rattle.std.proofs.Common.{◌≡◌, ◌<◌, ◌+◌, ◌⊎◌, inl, inr, ℕ, zero, suc, List, [], ◌∷◌, ◌++◌, length, take, Bool, true, false, ◌||◌, Option, Some}
use Rattle.std.proofs.Common.{None, is_some, slice_get, get_or, refl, sym, ap, ◌∙◌, subst, arith}
use Rattle.std.specs.Ordering.{nat_cmp, match_ordering, ordering_reverse, is_eq}
use Rattle.std.specs.Cmp.Lexicographic.{slice_cmp}
use Rattle.std.proofs.lemmas.Cmp.{nat_list_cmp_total}
use Rattle.std.specs.declared.cmp.Ordering.{Ordering}
use Rattle.sky_base.specs.Val.{Val, Pairs, no_pairs, pair, Rising, RisingFrom}
use Rattle.sky_base.specs.Op.{find}
use Rattle.sky_base.specs.Eval.{is_one_of}
use Rattle.sky_base.specs.Tree as logic
use Rattle.sky_base.specs.ScriptView.{funs_view}
use Rattle.sky_base.specs.declared.script.FunDef.{FunDef}
use Rattle.sky_base.proofs.Keys.{same_key}
use Rattle.sky_base.proofs.Exact.{self_text}
use Rattle.sky_base_law.specs.Sound.{AllUsed, TakesIf}
use Rattle.sky_base_law.specs.Tasks.{In, Each}
use Rattle.sky_state.specs.Fits.{uses_of, KeysFrom, HasKey}
use Rattle.sky_frozen.specs.Keys.{KeysAre, UsesAre, AreUses, HasValue, AllIn, AllInEither, AllFound}
use Rattle.sky_frozen.proofs.UsesLaw.{one_of_more}

abbrev P : Type 0
P = Pairs (List ℕ)

abbrev cmp : List ℕ → List ℕ → Ordering
cmp a b = slice_cmp nat_cmp a b

-- ---- what a function captured

all_used : (us : List (List ℕ)) (keys : P) → KeysAre keys us → (ps : P) → AllIn keys ps → AllUsed us ps
all_used us keys e no_pairs h = tt
all_used us keys e (pair k v ps) h = (sym (e k) ∙ h.0, all_used us keys e ps h.1)

used_all : (us : List (List ℕ)) (keys : P) → KeysAre keys us → (ps : P) → AllUsed us ps → AllIn keys ps
used_all us keys e no_pairs h = tt
used_all us keys e (pair k v ps) h = (e k ∙ h.0, used_all us keys e ps h.1)

pub all_taken : (o : Option logic.FunDef) (keys ps : P) → UsesAre keys o → AllIn keys ps → TakesIf o ps
all_taken None keys ps e h = absurd e
all_taken (Some f) keys ps e h = all_used f.uses keys e ps h

pub taken_all : (o : Option logic.FunDef) (keys ps : P) → UsesAre keys o → TakesIf o ps → AllIn keys ps
taken_all None keys ps e h = absurd e
taken_all (Some f) keys ps e h = used_all f.uses keys e ps h

-- the names that a function uses, where there is one
pub used_names : (o : Option logic.FunDef) (keys : P) → UsesAre keys o → KeysAre keys (uses_of o)
used_names None keys e = absurd e
used_names (Some f) keys e = e

-- ---- a name of a list

first_or : (o : Ordering) (b : Bool) (k x : List ℕ) (xs : List (List ℕ)) → cmp k x ≡ o → is_eq o || b ≡ true → (b ≡ true → In k xs) → (k ≡ x)
    ⊎ In k xs
first_or Ordering.Less b k x xs e h more = inr (more h)
first_or Ordering.Equal b k x xs e h more = inl (same_key k x e)
first_or Ordering.Greater b k x xs e h more = inr (more h)

one_in : (k : List ℕ) (xs : List (List ℕ)) → is_one_of k xs ≡ true → In k xs
one_in k [] h = absurd cc
one_in k (x ∷ xs) h = first_or (cmp k x) (is_one_of k xs) k x xs refl (sym (one_of_more k x xs) ∙ h) (one_in k xs)

or_first : (a b : Bool) → a ≡ true → a || b ≡ true
or_first true b h = refl
or_first false b h = absurd cc

or_second : (a b : Bool) → b ≡ true → a || b ≡ true
or_second true b h = refl
or_second false b h = h

in_one : (k : List ℕ) (xs : List (List ℕ)) → In k xs → is_one_of k xs ≡ true
in_one k [] h = absurd h
in_one k (x ∷ xs) (inl e) = one_of_more k x xs ∙ or_first (is_eq (cmp k x)) (is_one_of k xs) (ap (λ y. is_eq (cmp k y)) (sym e) ∙ self_text k)
in_one k (x ∷ xs) (inr h) = one_of_more k x xs ∙ or_second (is_eq (cmp k x)) (is_one_of k xs) (in_one k xs h)

-- ---- the variables at the start of a body

module _ (xs us : List (List ℕ)) (own uses : P) (e : KeysAre own xs) (g : KeysAre uses us) where
  key_from : (k : List ℕ) → HasValue own k ⊎ HasValue uses k → In k xs ⊎ (is_one_of k us ≡ true)
  key_from k (inl h) = inl (one_in k xs (sym (e k) ∙ h))
  key_from k (inr h) = inr (sym (g k) ∙ h)

  from_key : (k : List ℕ) → In k xs ⊎ (is_one_of k us ≡ true) → HasValue own k ⊎ HasValue uses k
  from_key k (inl h) = inl (e k ∙ in_one k xs h)
  from_key k (inr h) = inr (g k ∙ h)

  pub keys_from : (ps : P) → AllInEither own uses ps → KeysFrom xs us ps
  keys_from no_pairs h = tt
  keys_from (pair k v ps) h = (key_from k h.0, keys_from ps h.1)

  pub from_keys : (ps : P) → KeysFrom xs us ps → AllInEither own uses ps
  from_keys no_pairs h = tt
  from_keys (pair k v ps) h = (from_key k h.0, from_keys ps h.1)

found_step : (o : Ordering) (x l : List ℕ) (v : Val (List ℕ)) (ps : P) → cmp x l ≡ o → is_some (match_ordering o None (Some v) (find x ps))
    ≡ true → (HasValue ps x → HasKey ps x) → (x ≡ l) ⊎ HasKey ps x
found_step Ordering.Less x l v ps e h more = absurd cc
found_step Ordering.Equal x l v ps e h more = inl (same_key x l e)
found_step Ordering.Greater x l v ps e h more = inr (more h)

found_key : (ps : P) (x : List ℕ) → HasValue ps x → HasKey ps x
found_key no_pairs x h = absurd cc
found_key (pair l v ps) x h = found_step (cmp x l) x l v ps refl h (found_key ps x)

above : (l : List ℕ) (ps : P) → RisingFrom l ps → (x : List ℕ) → HasKey ps x → cmp l x ≡ Ordering.Less
above l no_pairs r x h = absurd h
above l (pair k v ps) r x (inl e) = ap (cmp l) e ∙ r.0
above l (pair k v ps) r x (inr h) = nat_list_cmp_total.trans l k x r.0 (above k ps r.1 x h)

rising_from : (l : List ℕ) (ps : P) → RisingFrom l ps → Rising ps
rising_from l no_pairs r = tt
rising_from l (pair k v ps) r = r.1

here : (o : Ordering) (v : Val (List ℕ)) (r : Option (Val (List ℕ))) → is_eq o ≡ true → is_some (match_ordering o None (Some v) r) ≡ true
here Ordering.Less v r h = absurd cc
here Ordering.Equal v r h = refl
here Ordering.Greater v r h = absurd cc

key_found : (ps : P) → Rising ps → (x : List ℕ) → HasKey ps x → HasValue ps x
key_found no_pairs r x h = absurd h
key_found (pair l v ps) r x (inl e) = here (cmp x l) v (find x ps) (ap (λ y. is_eq (cmp x y)) (sym e) ∙ self_text x)
key_found (pair l v ps) r x (inr h) =
    let g : cmp x l ≡ Ordering.Greater = nat_list_cmp_total.antisymm x l ∙ ap ordering_reverse (above l ps r x h) in
    ap (λ o. is_some (match_ordering o None (Some v) (find x ps))) g ∙ key_found ps (rising_from l ps r) x h

pub all_keys : (ps : P) (xs : List (List ℕ)) → AllFound ps xs → Each (HasKey ps) xs
all_keys ps [] h = tt
all_keys ps (x ∷ xs) h = (found_key ps x h.0, all_keys ps xs h.1)

pub keys_all : (ps : P) → Rising ps → (xs : List (List ℕ)) → Each (HasKey ps) xs → AllFound ps xs
keys_all ps r [] h = tt
keys_all ps r (x ∷ xs) h = (key_found ps r x h.0, keys_all ps r xs h.1)

-- where there is no function, a dictionary without keys has the names that it uses
pub no_names : (o : Option logic.FunDef) (keys : P) → o ≡ None → keys ≡ no_pairs → KeysAre keys (uses_of o)
no_names o keys e g k = ap (λ ps. is_some (find k ps)) g ∙ ap (λ p. is_one_of k (uses_of p)) (sym e)

-- ---- the names that functions use

pub uses_more : (index : List P) (fs : List FunDef) (i : ℕ) (f : FunDef) (keys : P) → i < length fs → f ≡ get_or fs i f → KeysAre keys f.uses
    → AreUses index (funs_view (take i fs)) → AreUses (index ++ keys ∷ []) (funs_view (take (i + 1) fs))
uses_more index [] i f keys h e new so_far = absurd (omega (arith, h))
uses_more [] (g ∷ fs) zero f keys h e new so_far = (subst (λ (x : FunDef). KeysAre keys x.uses) e new, tt)
uses_more (p ∷ index) (g ∷ fs) zero f keys h e new so_far = absurd so_far
uses_more [] (g ∷ fs) (suc i) f keys h e new so_far = absurd so_far
uses_more (p ∷ index) (g ∷ fs) (suc i) f keys h e new so_far =
    let n : suc i + 1 ≡ suc (i + 1) = omega arith in
    subst (λ m. AreUses (p ∷ (index ++ keys ∷ [])) (funs_view (take m (g ∷ fs)))) (sym n)
    (so_far.0, uses_more index fs i f keys (omega (arith, h)) e new so_far.1)

pub uses_length : (index : List P) (fs : List logic.FunDef) → AreUses index fs → length index ≡ length fs
uses_length [] [] h = refl
uses_length [] (f ∷ fs) h = absurd h
uses_length (p ∷ index) [] h = absurd h
uses_length (p ∷ index) (f ∷ fs) h = ap suc (uses_length index fs h.1)

pub uses_at : (index : List P) (fs : List logic.FunDef) (i : ℕ) (keys : P) → AreUses index fs → i < length index → keys ≡ get_or index i keys
    → UsesAre keys (slice_get fs i)
uses_at [] fs i keys h l e = absurd (omega (arith, l))
uses_at (p ∷ index) [] i keys h l e = absurd h
uses_at (p ∷ index) (f ∷ fs) zero keys h l e = subst (λ x. KeysAre x f.uses) (sym e) h.0
uses_at (p ∷ index) (f ∷ fs) (suc i) keys h l e = uses_at index fs i keys h.1 (omega (arith, l)) e
