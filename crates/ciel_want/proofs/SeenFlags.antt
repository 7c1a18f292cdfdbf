-- Flags beside the list of what was seen.
use Rattle.std.proofs.Common.{◌≡◌, ℕ, zero, suc, ◌<◌, List, [], ◌∷◌, ◌++◌, length, get_or, set, append_assoc, append-nil, Bool, true, false, cond}
use Rattle.std.proofs.Common.{◌||◌, Some, ◌⊎◌, inl, inr, refl, ap, sym, ◌∙◌, arith, nat_eq, eqb-true, eq-eqb, slice_get, replicate}
use Rattle.std.specs.List.{list_any}
use Rattle.ciel_want.specs.Search.{Among, news}
use Rattle.ciel_journal.proofs.Members.{bool_cases}
use Rattle.ciel_want.specs.Marked.{AllBelow, Marked}

some_same : (x y : Bool) → Some x ≡ Some y → x ≡ y
some_same x y e = cc

read_flag : (flags : List Bool) (e : ℕ) (d x : Bool) → e < length flags → slice_get flags e ≡ Some x → get_or flags e d ≡ x
read_flag [] e d x l h = absurd (omega (arith, l))
read_flag (f ∷ fs) zero d x l h = some_same f x h
read_flag (f ∷ fs) (suc e) d x l h = read_flag fs e d x (omega (arith, l)) h

pub flag_is : (flags : List Bool) (seen : List ℕ) (e : ℕ) (d : Bool) → Marked flags seen → e < length flags → get_or flags e d
    ≡ list_any (nat_eq e) seen
flag_is flags seen e d m l = read_flag flags e d (list_any (nat_eq e) seen) l (m e l)

-- a row that was seen is not new, and one that wasn't is
pub news_known : (seen : List ℕ) (e : ℕ) → list_any (nat_eq e) seen ≡ true → news seen (e ∷ []) ≡ []
news_known seen e h = ap (λ b. cond b [] (e ∷ [])) h

pub news_fresh : (seen : List ℕ) (e : ℕ) → list_any (nat_eq e) seen ≡ false → news seen (e ∷ []) ≡ e ∷ []
news_fresh seen e h = ap (λ b. cond b [] (e ∷ [])) h

any_last : (e : ℕ) (xs : List ℕ) (x : ℕ) → list_any (nat_eq e) (xs ++ x ∷ []) ≡ list_any (nat_eq e) xs || nat_eq e x
any_last e [] x = pick (nat_eq e x)
  where
    pick : (c : Bool) → c || false ≡ c
    pick true = refl
    pick false = refl
any_last e (y ∷ ys) x = pick (nat_eq e y) (any_last e ys x)
  where
    pick : (c : Bool) → list_any (nat_eq e) (ys ++ x ∷ []) ≡ list_any (nat_eq e) ys || nat_eq e x → c || list_any (nat_eq e) (ys ++ x ∷ [])
        ≡ (c || list_any (nat_eq e) ys) || nat_eq e x
    pick true h = refl
    pick false h = h

pub set_here : (flags : List Bool) (i : ℕ) (x : Bool) → i < length flags → slice_get (set flags i x) i ≡ Some x
set_here [] i x l = absurd (omega (arith, l))
set_here (f ∷ fs) zero x l = refl
set_here (f ∷ fs) (suc i) x l = set_here fs i x (omega (arith, l))

pub set_other : (flags : List Bool) (i e : ℕ) (x : Bool) → nat_eq e i ≡ false → slice_get (set flags i x) e ≡ slice_get flags e
set_other [] i e x h = refl
set_other (f ∷ fs) zero zero x h = cc
set_other (f ∷ fs) zero (suc e) x h = refl
set_other (f ∷ fs) (suc i) zero x h = refl
set_other (f ∷ fs) (suc i) (suc e) x h = set_other fs i e x (differ (bool_cases (nat_eq e i)))
  where
    differ : ((nat_eq e i ≡ true) ⊎ (nat_eq e i ≡ false)) → nat_eq e i ≡ false
    differ (inl t) =
        let s : nat_eq (suc e) (suc i) ≡ true = eq-eqb (suc e) (suc i) (ap (λ n. suc n) (eqb-true e i t)) in cc
    differ (inr f) = f

pub marked_more : (flags after : List Bool) (seen : List ℕ) (i : ℕ) → Marked flags seen → i < length flags → after ≡ set flags i true
    → length after ≡ length flags → Marked after (seen ++ i ∷ [])
marked_more flags after seen i m l a n e k = pick (bool_cases (nat_eq e i))
  where
    pick : ((nat_eq e i ≡ true) ⊎ (nat_eq e i ≡ false)) → slice_get after e ≡ Some (list_any (nat_eq e) (seen ++ i ∷ []))
    pick (inl t) =
        let s : e ≡ i = eqb-true e i t in
        let x : slice_get after e ≡ Some true = ap (λ fs. slice_get fs e) a ∙ (ap (slice_get (set flags i true)) s ∙ set_here flags i true l) in
        let y : list_any (nat_eq e) (seen ++ i ∷ []) ≡ true = any_last e seen i
        ∙ (ap (λ b. list_any (nat_eq e) seen || b) t ∙ right (list_any (nat_eq e) seen)) in
        x ∙ ap (λ b. Some b) (sym y)
      where
        right : (b : Bool) → b || true ≡ true
        right true = refl
        right false = refl
    pick (inr f) =
        let k2 : e < length flags = omega (arith, k, n) in
        let x : slice_get after e ≡ Some (list_any (nat_eq e) seen) = ap (λ fs. slice_get fs e) a ∙ (set_other flags i e true f ∙ m e k2) in
        let y : list_any (nat_eq e) (seen ++ i ∷ []) ≡ list_any (nat_eq e) seen = any_last e seen i
        ∙ (ap (λ b. list_any (nat_eq e) seen || b) f ∙ right (list_any (nat_eq e) seen)) in
        x ∙ ap (λ b. Some b) (sym y)
      where
        right : (b : Bool) → b || false ≡ b
        right true = refl
        right false = refl

-- what is new of a list is what is new of its first, and then of the others
pub news_split : (acc seen : List ℕ) (x : ℕ) (xs : List ℕ) → (acc ++ news seen (x ∷ [])) ++ news (seen ++ news seen (x ∷ [])) xs ≡ acc
    ++ news seen (x ∷ xs)
news_split acc seen x xs = pick (list_any (nat_eq x) seen)
  where
    pick : (b : Bool) → (acc ++ cond b [] (x ∷ [])) ++ news (seen ++ cond b [] (x ∷ [])) xs ≡ acc
        ++ cond b (news seen xs) (x ∷ news (seen ++ x ∷ []) xs)
    pick true = ap (λ ys. ys ++ news (seen ++ []) xs) (append-nil acc) ∙ ap (λ s. acc ++ news s xs) (append-nil seen)
    pick false = append_assoc acc (x ∷ []) (news (seen ++ x ∷ []) xs)

pub below_of : (n : ℕ) (xs : List ℕ) → ((e : ℕ) → Among e xs → e < n) → AllBelow n xs
below_of n [] h = tt
below_of n (x ∷ xs) h = (h x (self x), below_of n xs (λ e a. h e (later e a)))
  where
    self : (e : ℕ) → Among e (e ∷ xs)
    self e = ap (λ b. b || list_any (nat_eq e) xs) (eq-eqb e e refl)

    later : (e : ℕ) → Among e xs → Among e (x ∷ xs)
    later e a = pick (nat_eq e x)
      where
        pick : (c : Bool) → c || list_any (nat_eq e) xs ≡ true
        pick true = refl
        pick false = a

pub last_among : (d : ℕ) (rest : List ℕ) → Among d (rest ++ d ∷ [])
last_among d rest =
    any_last d rest d ∙ (ap (λ b. list_any (nat_eq d) rest || b) (eq-eqb d d refl) ∙ right (list_any (nat_eq d) rest))
  where
    right : (b : Bool) → b || true ≡ true
    right true = refl
    right false = refl

-- at first no row is flagged
pub none_marked : (n : ℕ) → Marked (replicate n false) []
none_marked zero e l = absurd (omega (arith, l))
none_marked (suc n) zero l = refl
none_marked (suc n) (suc e) l = none_marked n e (omega (arith, l))

below_flag : (flags : List Bool) (e : ℕ) (x : Bool) → slice_get flags e ≡ Some x → e < length flags
below_flag [] e x h = cc
below_flag (f ∷ fs) zero x h = omega arith
below_flag (f ∷ fs) (suc e) x h = let l = below_flag fs e x h in omega (arith, l)

pub flagged_seen : (flags : List Bool) (seen : List ℕ) (e : ℕ) → Marked flags seen → slice_get flags e ≡ Some true → Among e seen
flagged_seen flags seen e m h =
    some_same (list_any (nat_eq e) seen) true (sym (m e (below_flag flags e true h)) ∙ h)
