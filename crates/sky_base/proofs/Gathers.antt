-- Gathering the distinct names of a value.
use Rattle.std.proofs.Common.{◌≡◌, ℕ, List, [], ◌∷◌, ◌++◌, Bool, true, false, ◌||◌, refl, ap, sym, ◌∙◌, append_assoc, append-nil}
use Rattle.sky_base.specs.Val.{Desc, known, same_text, same_desc, stands_in, unless_in, distinct_from, distinct}
use Rattle.sky_base.specs.Names.{is_among, known_of, with_new, gathered}
use Rattle.sky_base.proofs.Exact.{exact_text, exact_desc}

pub known_of-push : (ns : List (List ℕ)) (n : List ℕ) → known_of (ns ++ n ∷ []) ≡ known_of ns ++ (known n ∷ [])
known_of-push [] n = refl
known_of-push (m ∷ ns) n = ap (λ ds. known m ∷ ds) (known_of-push ns n)

pub stands_in-known : (n : List ℕ) (ns : List (List ℕ)) → stands_in same_text (known n) (known_of ns) ≡ is_among n ns
stands_in-known n [] = refl
stands_in-known n (m ∷ ns) = ap (λ b. same_text n m || b) (stands_in-known n ns)

pub gathered-append : (ds es fs : List (Desc (List ℕ))) → gathered ds (es ++ fs) ≡ gathered (gathered ds es) fs
gathered-append ds [] fs = refl
gathered-append ds (e ∷ es) fs = gathered-append (with_new (stands_in same_text e ds) ds e) es fs

-- two lists in which the same descriptions stand
abbrev Alike : List (Desc (List ℕ)) → List (Desc (List ℕ)) → Type 0
Alike ds before = (d : Desc (List ℕ)) → stands_in same_text d ds ≡ stands_in same_text d before

pub swapped : (a b c : Bool) → a || (b || c) ≡ b || (a || c)
swapped true true c = refl
swapped true false c = refl
swapped false true c = refl
swapped false false c = refl

stands_in-push : (d e : Desc (List ℕ)) (ds : List (Desc (List ℕ))) → stands_in same_text d (ds ++ e ∷ []) ≡ same_desc same_text d e
    || stands_in same_text d ds
stands_in-push d e [] = refl
stands_in-push d e (f ∷ ds) =
    ap (λ b. same_desc same_text d f || b) (stands_in-push d e ds)
    ∙ swapped (same_desc same_text d f) (same_desc same_text d e) (stands_in same_text d ds)

or_step : (d e : Desc (List ℕ)) (ds : List (Desc (List ℕ))) (b : Bool) → same_desc same_text d e ≡ b → stands_in same_text e ds ≡ true
    → stands_in same_text d ds ≡ b || stands_in same_text d ds
or_step d e ds true h t = ap (λ c. stands_in same_text c ds) (exact_desc same_text exact_text d e h) ∙ t
or_step d e ds false h t = refl

alike_more : (ds before : List (Desc (List ℕ))) (e : Desc (List ℕ)) → Alike ds before → stands_in same_text e ds ≡ true → Alike ds (e ∷ before)
alike_more ds before e a t d =
    or_step d e ds (same_desc same_text d e) refl t ∙ ap (λ b. same_desc same_text d e || b) (a d)

alike_push : (ds before : List (Desc (List ℕ))) (e : Desc (List ℕ)) → Alike ds before → Alike (ds ++ e ∷ []) (e ∷ before)
alike_push ds before e a d = stands_in-push d e ds ∙ ap (λ b. same_desc same_text d e || b) (a d)

abbrev IsGathered : List (Desc (List ℕ)) → Type 0
IsGathered es = (ds before : List (Desc (List ℕ))) → Alike ds before → gathered ds es ≡ ds ++ distinct_from same_text before es

gathered_step : (es ds before : List (Desc (List ℕ))) (e : Desc (List ℕ)) → IsGathered es → Alike ds before → (b : Bool)
    → stands_in same_text e ds ≡ b → gathered (with_new b ds e) es ≡ ds ++ unless_in same_text b e (distinct_from same_text (e ∷ before) es)
gathered_step es ds before e ih a true t = ih ds (e ∷ before) (alike_more ds before e a t)
gathered_step es ds before e ih a false t =
    ih (ds ++ e ∷ []) (e ∷ before) (alike_push ds before e a)
    ∙ append_assoc ds (e ∷ []) (distinct_from same_text (e ∷ before) es)

pub gathered-distinct : (es : List (Desc (List ℕ))) → IsGathered es
gathered-distinct [] ds before a = sym (append-nil ds)
gathered-distinct (e ∷ es) ds before a =
    gathered_step es ds before e (gathered-distinct es) a (stands_in same_text e ds) refl
    ∙ ap (λ b. ds ++ unless_in same_text b e (distinct_from same_text (e ∷ before) es)) (a e)

-- what is gathered from nothing is each description once
pub gathered_is : (es : List (Desc (List ℕ))) → gathered [] es ≡ distinct same_text es
gathered_is es = gathered-distinct es [] [] (λ d. refl)

pub ruleset named = (known_of-push, stands_in-known)

pub ruleset gathers = (gathered-append, gathered_is)
