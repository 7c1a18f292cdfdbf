-- The rows that a look-up by the sum comes to.
use Rattle.std.proofs.Common.{◌≡◌, ◌≢◌, ◌≤◌, ◌<◌, ℕ, zero, suc, List, [], ◌∷◌, ◌++◌, length, map, Bool, true, false, ◌||◌, Option, Some, None}
use Rattle.std.proofs.Common.{slice_get, get_or, take, ◌-◌, refl, sym, ap, subst, ◌⊎◌, inl, inr, ◌∙◌, arith}
use Rattle.std.specs.Option.{option_map, option_map_or, IfSome}
use Rattle.std.specs.Ordering.{nat_cmp, is_eq}
use Rattle.std.specs.BTreeMap.{BTreeMap, get, is_at, Updates}
use Rattle.std.specs.Map.{lookup}
use Rattle.std.proofs.lemmas.Option.{slice_get-map, slice_get_within, slice_get_read, same_Some}
use Rattle.std.proofs.lemmas.List.{length-map, map-append}
use Rattle.std.proofs.lemmas.Bool.Decides.{nat_tests}
use Rattle.std.proofs.lemmas.Bool.{cases_eq}
use Rattle.std.proofs.Math.Seq.{take-append_seam}
use Rattle.sky_base.specs.Val.{same_text, same_desc}
use Rattle.sky_base.proofs.Exact.{exact_text, exact_desc, self_text, self_desc}
use Rattle.sky_base_known.specs.Walk.{Row, is_held}
use Rattle.sky_base_known.specs.Sums.{sum_of}
use Rattle.sky_base_known.specs.HeldView.{row_of, rows_of, earlier_of, Finds}
use Rattle.sky_base_known.specs.declared.rows.Held.{Held}
use Rattle.sky_base_known.proofs.Places.{get-end}
use Rattle.sky_base_known.specs.Latest.{IsUpTo, IsLast, IsIndex}

-- ---- lists with one more at the end

get-left : {A : Type 0} (xs : List A) (y : A) (i : ℕ) → i < length xs → slice_get (xs ++ y ∷ []) i ≡ slice_get xs i
get-left [] y i h = absurd (omega arith)
get-left (x ∷ xs) y zero h = refl
get-left (x ∷ xs) y (suc i) h = get-left xs y i (omega arith)

length-more : {A : Type 0} (xs : List A) (y : A) → length (xs ++ y ∷ []) ≡ suc (length xs)
length-more [] y = refl
length-more (x ∷ xs) y = ap suc (length-more xs y)

-- ---- the index

last-more : (sums : List ℕ) (t s end : ℕ) (last : Option ℕ) → end ≤ length sums → IsLast sums s end last → IsLast (sums ++ t ∷ []) s end last
last-more sums t s end last b l = record {
  there = there last l.there;
  none_after = λ i h e. l.none_after i h (sym (get-left sums t i (omega arith)) ∙ e);
}
  where
    there : (o : Option ℕ) → IfSome o (λ k. (k < end) × (slice_get sums k ≡ Some s))
        → IfSome o (λ k. (k < end) × (slice_get (sums ++ t ∷ []) k ≡ Some s))
    there None p = tt
    there (Some k) p = (p.0, get-left sums t k (omega (arith, p.0)) ∙ p.1)

last-here : (sums : List ℕ) (t end : ℕ) → end ≡ suc (length sums) → IsLast (sums ++ t ∷ []) t end (Some (length sums))
last-here sums t end q = record {
  there = (omega arith, get-end sums t);
  none_after = λ i h e. omega arith;
}

last-apart : (sums : List ℕ) (t s end : ℕ) (last : Option ℕ) → t ≢ s → end ≡ suc (length sums) → IsLast sums s (length sums) last
    → IsLast (sums ++ t ∷ []) s end last
last-apart sums t s end last n q l = record {
  there = there last l.there;
  none_after = λ i h e. after i h e (cases_eq i (length sums));
}
  where
    there : (o : Option ℕ) → IfSome o (λ k. (k < length sums) × (slice_get sums k ≡ Some s))
        → IfSome o (λ k. (k < end) × (slice_get (sums ++ t ∷ []) k ≡ Some s))
    there None p = tt
    there (Some k) p = (omega (arith, p.0), get-left sums t k p.0 ∙ p.1)

    after : (i : ℕ) → i < end → slice_get (sums ++ t ∷ []) i ≡ Some s → (i ≡ length sums) ⊎ (i ≡ length sums → ⊥) → IsUpTo last i
    after i h e (inl p) = absurd (n (same_Some t s (sym (get-end sums t) ∙ ap (slice_get (sums ++ t ∷ [])) (sym p) ∙ e)))
    after i h e (inr p) =
        let b : i < length sums = omega (arith, h, q, p) in
        l.none_after i b (sym (get-left sums t i b) ∙ e)

pub index-more : (sums : List ℕ) (es : List (Option ℕ)) (t : ℕ) (old new : ℕ → Option ℕ) → length es ≡ length sums → IsIndex sums es old → new t
    ≡ Some (length sums) → ((s : ℕ) → t ≢ s → new s ≡ old s) → IsIndex (sums ++ t ∷ []) (es ++ old t ∷ []) new
index-more sums es t old new l x here apart = record {
  of_sum = λ s. sum s (cases_eq t s);
  of_place = λ i s e p q. place i s e p q (cases_eq i (length sums));
}
  where
    sum : (s : ℕ) → (t ≡ s) ⊎ (t ≡ s → ⊥) → IsLast (sums ++ t ∷ []) s (length (sums ++ t ∷ [])) (new s)
    sum s (inl e) =
        subst (λ r. IsLast (sums ++ t ∷ []) r (length (sums ++ t ∷ [])) (new r)) e
        (subst (IsLast (sums ++ t ∷ []) t (length (sums ++ t ∷ []))) (sym here)
        (last-here sums t (length (sums ++ t ∷ [])) (length-more sums t)))
    sum s (inr n) =
        subst (IsLast (sums ++ t ∷ []) s (length (sums ++ t ∷ []))) (sym (apart s n))
        (last-apart sums t s (length (sums ++ t ∷ [])) (old s) n (length-more sums t) (x.of_sum s))

    place : (i s : ℕ) (e : Option ℕ) → slice_get (sums ++ t ∷ []) i ≡ Some s → slice_get (es ++ old t ∷ []) i ≡ Some e → (i ≡ length sums)
        ⊎ (i ≡ length sums → ⊥) → IsLast (sums ++ t ∷ []) s i e
    place i s e p q (inl n) =
        let f : t ≡ s = same_Some t s (sym (get-end sums t) ∙ ap (slice_get (sums ++ t ∷ [])) (sym n) ∙ p) in
        let g : old t ≡ e = same_Some (old t) e (sym (get-end es (old t)) ∙ ap (slice_get (es ++ old t ∷ [])) (l ∙ sym n) ∙ q) in
        let k : IsLast (sums ++ t ∷ []) t (length sums) (old t) = last-more sums t t (length sums) (old t) (omega arith) (x.of_sum t) in
        subst (λ r. IsLast (sums ++ t ∷ []) r i e) f
        (subst (λ r. IsLast (sums ++ t ∷ []) t r e) (sym n) (subst (IsLast (sums ++ t ∷ []) t (length sums)) g k))
    place i s e p q (inr n) =
        let w : i < length (sums ++ t ∷ []) = slice_get_within (sums ++ t ∷ []) i s p in
        let b : i < length sums = omega (arith, w, length-more sums t, n) in
        let c : i < length es = omega (arith, b, l) in
        last-more sums t s i e (omega (arith, b)) (x.of_place i s e (sym (get-left sums t i b) ∙ p) (sym (get-left es (old t) i c) ∙ q))

-- ---- a look-up

-- whether each row that is the description is the next place or before it, and the next has its sum
pub record Leads (rows : List Row) (d : Row) (next : Option ℕ) : Type 0 where
  pub there : IfSome next (λ k. slice_get (map sum_of rows) k ≡ Some (sum_of d))
  pub upto : (i : ℕ) → slice_get rows i ≡ Some d → IsUpTo next i

sum_at : (rows : List Row) (d : Row) (i : ℕ) → slice_get rows i ≡ Some d → slice_get (map sum_of rows) i ≡ Some (sum_of d)
sum_at rows d i e = slice_get-map sum_of rows i ∙ ap (option_map sum_of) e

leads : (rows : List Row) (d : Row) (end : ℕ) (last : Option ℕ) → IsLast (map sum_of rows) (sum_of d) end last
    → ((i : ℕ) → slice_get rows i ≡ Some d → i < end) → Leads rows d last
leads rows d end last l h = record { there = there last l.there; upto = λ i e. l.none_after i (h i e) (sum_at rows d i e) }
  where
    there : (o : Option ℕ) → IfSome o (λ k. (k < end) × (slice_get (map sum_of rows) k ≡ Some (sum_of d)))
        → IfSome o (λ k. slice_get (map sum_of rows) k ≡ Some (sum_of d))
    there None p = tt
    there (Some k) p = p.1

pub leads-first : (rows : List Row) (es : List (Option ℕ)) (latest : ℕ → Option ℕ) (d : Row) → IsIndex (map sum_of rows) es latest
    → Leads rows d (latest (sum_of d))
leads-first rows es latest d x =
    leads rows d (length (map sum_of rows)) (latest (sum_of d)) (x.of_sum (sum_of d))
    (λ i e. slice_get_within (map sum_of rows) i (sum_of d) (sum_at rows d i e))

pub leads-on : (rows : List Row) (es : List (Option ℕ)) (latest : ℕ → Option ℕ) (d r : Row) (k : ℕ) (e : Option ℕ)
    → IsIndex (map sum_of rows) es latest → Leads rows d (Some k) → slice_get rows k ≡ Some r → slice_get es k ≡ Some e → same_desc same_text d r
    ≡ false → Leads rows d e
leads-on rows es latest d r k e x l p q n =
    leads rows d k e (x.of_place k (sum_of d) e l.there q) (λ i h. below i h (cases_eq i k))
  where
    no_true : true ≡ false → ⊥
    no_true z = absurd cc

    below : (i : ℕ) → slice_get rows i ≡ Some d → (i ≡ k) ⊎ (i ≡ k → ⊥) → i < k
    below i h (inl m) =
        let f : r ≡ d = same_Some r d (sym p ∙ ap (slice_get rows) (sym m) ∙ h) in
        absurd (no_true (sym (self_desc same_text self_text d) ∙ ap (same_desc same_text d) (sym f) ∙ n))
    below i h (inr m) = omega (arith, l.upto i h, m)

pub leads-falls : (rows : List Row) (es : List (Option ℕ)) (latest : ℕ → Option ℕ) (d : Row) (k j : ℕ) → IsIndex (map sum_of rows) es latest
    → Leads rows d (Some k) → slice_get es k ≡ Some (Some j) → j < k
leads-falls rows es latest d k j x l q = (x.of_place k (sum_of d) (Some j) l.there q).there.0

not-at : (d r : Row) (rs : List Row) (b : Bool) → same_desc same_text d r ≡ b → ((i : ℕ) → slice_get (r ∷ rs) i ≡ Some d → ⊥) → is_held d rs
    ≡ false → is_held d (r ∷ rs) ≡ false
not-at d r rs true e h n = absurd (h 0 (ap Some (sym (exact_desc same_text exact_text d r e))))
not-at d r rs false e h n = ap (λ b. b || is_held d rs) e ∙ n

not-held : (d : Row) (rs : List Row) → ((i : ℕ) → slice_get rs i ≡ Some d → ⊥) → is_held d rs ≡ false
not-held d [] h = refl
not-held d (r ∷ rs) h = not-at d r rs (same_desc same_text d r) refl h (not-held d rs (λ i p. h (suc i) p))

pub leads-none : (rows : List Row) (d : Row) (next : Option ℕ) → Leads rows d next → next ≡ None → is_held d rows ≡ false
leads-none rows d next l n = not-held d rows (rw n at l).upto

-- ---- the rows as they are held

module _ (hs : List Held) (d : Row) (next : Option ℕ) (k : ℕ) (h : Held) where
  held-here : Leads (rows_of hs) d next → next ≡ Some k → h ≡ get_or hs k h → slice_get hs k ≡ Some h
  held-here l n e =
      let w : k < length (map sum_of (rows_of hs)) = slice_get_within (map sum_of (rows_of hs)) k (sum_of d) (rw n at l).there in
      slice_get_read hs (length hs) k h refl (omega (arith, w, length-map (rows_of hs) sum_of, length-map hs row_of)) e

  row-here : Leads (rows_of hs) d next → next ≡ Some k → h ≡ get_or hs k h → slice_get (rows_of hs) k ≡ Some (row_of h)
  row-here l n e = slice_get-map row_of hs k ∙ ap (option_map row_of) (held-here l n e)

  earlier-here : Leads (rows_of hs) d next → next ≡ Some k → h ≡ get_or hs k h → slice_get (earlier_of hs) k ≡ Some h.earlier
  earlier-here l n e = slice_get-map (λ (h : Held). h.earlier) hs k ∙ ap (option_map (λ (h : Held). h.earlier)) (held-here l n e)

  pub found : Leads (rows_of hs) d next → next ≡ Some k → h ≡ get_or hs k h → same_desc same_text d (row_of h) ≡ true → slice_get (rows_of hs) k
      ≡ Some d
  found l n e s = row-here l n e ∙ ap Some (sym (exact_desc same_text exact_text d (row_of h) s))

  module _ (latest : BTreeMap ℕ ℕ) where
    pub leads-next : Leads (rows_of hs) d next → next ≡ Some k → h ≡ get_or hs k h → Finds latest hs → same_desc same_text d (row_of h) ≡ false
        → Leads (rows_of hs) d h.earlier
    leads-next l n e x s =
        leads-on (rows_of hs) (earlier_of hs) (get nat_cmp latest) d (row_of h) k h.earlier x (rw n at l) (row-here l n e) (earlier-here l n e) s

    pub falls-next : Leads (rows_of hs) d next → next ≡ Some k → h ≡ get_or hs k h → Finds latest hs
        → option_map_or suc h.earlier 0 < option_map_or suc next 0
    falls-next l n e x = rw n (falls h.earlier refl)
      where
        falls : (o : Option ℕ) → h.earlier ≡ o → option_map_or suc o 0 < suc k
        falls None q = omega arith
        falls (Some j) q =
            let f : j < k = leads-falls (rows_of hs) (earlier_of hs) (get nat_cmp latest) d k j x (rw n at l) (earlier-here l n e ∙ ap Some q) in
            omega arith

pub finds-still : (old new : BTreeMap ℕ ℕ) (hs : List Held) → new.entries ≡ old.entries → Finds old hs → Finds new hs
finds-still old new hs e x =
    subst (λ es. IsIndex (map sum_of (rows_of hs)) (earlier_of hs) (λ s. lookup (is_at (nat_cmp s)) es)) (sym e) x

pub finds-more : (old new : BTreeMap ℕ ℕ) (hs : List Held) (h : Held) (t n : ℕ) → Finds old hs → t ≡ sum_of (row_of h) → h.earlier
    ≡ get nat_cmp old t → n ≡ length hs → Updates nat_cmp old new t (Some n) → Finds new (hs ++ h ∷ [])
finds-more old new hs h t n x p q m u =
    rw (map-append row_of hs (h ∷ []), map-append sum_of (rows_of hs) (row_of h ∷ []), map-append (λ (h : Held). h.earlier) hs (h ∷ []), ← p, q)
    (index-more (map sum_of (rows_of hs)) (earlier_of hs) t (get nat_cmp old) (get nat_cmp new) even x here apart)
  where
    even : length (earlier_of hs) ≡ length (map sum_of (rows_of hs))
    even = omega (arith, length-map hs (λ (h : Held). h.earlier), length-map hs row_of, length-map (rows_of hs) sum_of)

    here : get nat_cmp new t ≡ Some (length (map sum_of (rows_of hs)))
    here = u.1 ∙ ap Some (m ∙ sym (length-map (rows_of hs) sum_of ∙ length-map hs row_of))

    other : (a b : ℕ) → a ≢ b → is_eq (nat_cmp a b) ≡ false
    other a b e = grind (arith, nat_tests)

    apart : (s : ℕ) → t ≢ s → get nat_cmp new s ≡ get nat_cmp old s
    apart s e = u.2 s (other t s e)

-- with the last one taken off again they are as before
pub popped : (hs now after : List Held) (h : Held) (n : ℕ) → now ≡ hs ++ h ∷ [] → length now ≡ n → after ≡ take (n - 1) now → after ≡ hs
popped hs now after h n e l p =
    let m : n - 1 ≡ length hs = omega (arith, l, ap length e, length-more hs h) in
    p ∙ ap (λ k. take k now) m ∙ ap (take (length hs)) e ∙ take-append_seam hs (h ∷ [])
