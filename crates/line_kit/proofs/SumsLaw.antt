-- What `tally` and `sum` write, by their totals.
use Rattle.std.proofs.Common.{◌≡◌, ℕ, suc, length-take, ◌+◌, ◌*◌, ◌<◌, ◌≤◌, ◌^◌, Bool, true, false, ◌||◌, cond, nat_lt, List, [], ◌∷◌, map, take}
use Rattle.std.proofs.Common.{length, get_or, Bor, refl, sym, ap, ap₂, ◌∙◌, arith, Err, Some}
use Rattle.std.specs.Prelude.{All}
use Rattle.std.specs.List.{list_any, AllByRecursion}
use Rattle.std.proofs.lemmas.List.Elements.{All-take}
use Rattle.std.specs.Str.{bytes_eq}
use Rattle.std.proofs.lemmas.List.{take_more, map-append, length-map}
use Rattle.std.proofs.lemmas.List.Sums.{sum_by-cons}
use Rattle.sky_base.specs.declared.fault.FaultKind.TheVariants.{Overflow}
use Rattle.line_kit.specs.Numbers.{count_line}
use Rattle.line_kit.specs.Orders.{total, times, rests, distinct_in_order}
use Rattle.line_kit.specs.Gives.{tallied, summed, one}
use Rattle.line_kit.specs.Totals.{sum_at, with_more, totals}
use Rattle.line_kit.proofs.TotalsLaw.{sum_at-totals, with_more-totals}
use Rattle.line_kit.proofs.Seen.{Entry, see}

-- ---- one entry more

pub more_seen : {A : Type 0} (f : A → List ℕ × ℕ) (xs : List A) (i : ℕ) (d : A) (t : List (List ℕ × ℕ)) → i < length xs → t
    ≡ totals (map f (take i xs))
    → with_more t (f (get_or xs i d)).0 (f (get_or xs i d)).1 ≡ totals (map f (take (i + 1) xs))
more_seen f xs i d t h e =
    let x = get_or xs i d in
    ap (λ (es : List (List ℕ × ℕ)). with_more es (f x).0 (f x).1) e ∙ with_more-totals (map f (take i xs)) (f x).0 (f x).1
    ∙ sym (ap totals (ap (map f) (take_more xs i d h) ∙ map-append f (take i xs) (x ∷ [])))

-- ---- how large a total is

suc_mul : (n b : ℕ) → suc n * b ≡ b + n * b
suc_mul n b = grind arith

bit_bound : (b : Bool) (n m : ℕ) → n ≤ m → cond b n 0 ≤ m
bit_bound true n m h = h
bit_bound false n m h = omega arith

total-bound : (b : ℕ) (q : List ℕ) (es : List (List ℕ × ℕ)) → AllByRecursion (λ e. e.1 ≤ b) es → total q es ≤ length es * b
total-bound b q [] h = omega arith
total-bound b q (e ∷ es) h =
    let first = bit_bound (bytes_eq q e.0) e.1 b h.0 in
    let more = total-bound b q es h.1 in
    let split : length (e ∷ es) * b ≡ b + length es * b = suc_mul (length es) b in
    omega (arith, first, more, split)

ones_small : (xs : List (Bor (List ℕ))) → AllByRecursion (λ (e : List ℕ × ℕ). e.1 ≤ 1) (map (λ x. (x.now, 1)) xs)
ones_small [] = tt
ones_small (x ∷ xs) = (omega arith, ones_small xs)

abbrev one_of : Bor (List ℕ) → List ℕ × ℕ
one_of x = (x.now, 1)

pub ones_bound : (q : List ℕ) (xs : List (Bor (List ℕ))) (i : ℕ) (t : List (List ℕ × ℕ)) → t ≡ totals (map (λ x. (x.now, 1)) (take i xs))
    → sum_at t q ≤ i
ones_bound q xs i t e =
    let es = map one_of (take i xs) in
    let at : sum_at t q ≡ total q es = ap (λ (us : List (List ℕ × ℕ)). sum_at us q) e ∙ sum_at-totals es q in
    let most = total-bound 1 q es (ones_small (take i xs)) in
    omega (arith, at, most, length-map (take i xs) one_of, length-take i xs)

entries_small : (xs : List Entry) → All (λ e. e.1 < 2 ^ 63) xs → AllByRecursion (λ (e : List ℕ × ℕ). e.1 ≤ 2 ^ 63) (map see xs)
entries_small [] h = tt
entries_small (x ∷ xs) h = (omega (arith, h 0 x (omega arith)), entries_small xs (λ k d l. h (suc k) d (omega arith)))

pub entries_bound : (q : List ℕ) (xs : List Entry) (i : ℕ) (t : List (List ℕ × ℕ)) → All (λ e. e.1 < 2 ^ 63) xs → t
    ≡ totals (map see (take i xs)) → sum_at t q ≤ i * 2 ^ 63
entries_bound q xs i t small e =
    let es = map see (take i xs) in
    let at : sum_at t q ≡ total q es = ap (λ (us : List (List ℕ × ℕ)). sum_at us q) e ∙ sum_at-totals es q in
    let most = total-bound (2 ^ 63) q es (entries_small (take i xs) (All-take (λ e. e.1 < 2 ^ 63) i xs small)) in
    omega (arith, at, most, length-map (take i xs) see, length-take i xs)

-- ---- how often a line occurs

total-ones : (q : List ℕ) (xs : List (List ℕ)) → total q (map (λ l. (l, 1)) xs) ≡ times q xs
total-ones q [] = refl
total-ones q (x ∷ xs) = ap (λ n. cond (bytes_eq q x) 1 0 + n) (total-ones q xs) ∙ sym (sum_by-cons (λ l. cond (bytes_eq q l) 1 0) x xs)

keys-ones : (xs : List (List ℕ)) → map (λ (e : List ℕ × ℕ). e.0) (map (λ l. (l, 1)) xs) ≡ xs
keys-ones [] = refl
keys-ones (x ∷ xs) = ap (λ (ys : List (List ℕ)). x ∷ ys) (keys-ones xs)

pub ones_seen : (xs : List (Bor (List ℕ))) → map one_of xs ≡ map (λ (l : List ℕ). (l, 1)) (map (λ x. x.now) xs)
ones_seen [] = refl
ones_seen (x ∷ xs) = ap (λ (es : List (List ℕ × ℕ)). (x.now, 1) ∷ es) (ones_seen xs)

map-same : {A B : Type 0} (f g : A → B) (xs : List A) → ((x : A) → f x ≡ g x) → map f xs ≡ map g xs
map-same f g [] h = refl
map-same f g (x ∷ xs) h = ap₂ (λ a b. a ∷ b) (h x) (map-same f g xs h)

abbrev pub count_lines : List (List ℕ × ℕ) → List (List ℕ)
count_lines = map (λ e. count_line e.1 e.0)

lines_of_totals : (es : List (List ℕ × ℕ)) (ks : List (List ℕ)) → count_lines (map (λ line. (line, total line es)) ks)
    ≡ map (λ line. count_line (total line es) line) ks
lines_of_totals es [] = refl
lines_of_totals es (k ∷ ks) = ap (λ (ys : List (List ℕ)). count_line (total k es) k ∷ ys) (lines_of_totals es ks)

pub tallied-totals : (xs : List (List ℕ)) → count_lines (totals (map (λ l. (l, 1)) xs)) ≡ tallied xs
tallied-totals xs =
    lines_of_totals (map (λ l. (l, 1)) xs) (rests (map (λ l. (l, 1)) xs))
    ∙ map-same _ _ (rests (map (λ l. (l, 1)) xs)) (λ line. ap (λ n. count_line n line) (total-ones line xs))
    ∙ ap (λ ks. map (λ line. count_line (times line xs) line) (distinct_in_order ks)) (keys-ones xs)

any_of_totals : (es : List (List ℕ × ℕ)) (ks : List (List ℕ))
    → list_any (λ (e : List ℕ × ℕ). nat_lt 9223372036854775807 e.1) (map (λ line. (line, total line es)) ks)
    ≡ list_any (λ rest. nat_lt 9223372036854775807 (total rest es)) ks
any_of_totals es [] = refl
any_of_totals es (k ∷ ks) = ap (λ b. nat_lt 9223372036854775807 (total k es) || b) (any_of_totals es ks)

pub above-totals : (es : List (List ℕ × ℕ)) → list_any (λ (e : List ℕ × ℕ). nat_lt 9223372036854775807 e.1) (totals es)
    ≡ list_any (λ rest. nat_lt 9223372036854775807 (total rest es)) (rests es)
above-totals es = any_of_totals es (rests es)

pub summed-over : (es : List (List ℕ × ℕ)) → list_any (λ (e : List ℕ × ℕ). nat_lt 9223372036854775807 e.1) (totals es) ≡ true → summed (Some es)
    ≡ Err Overflow
summed-over es h = rw (sym (above-totals es) ∙ h) refl

pub summed-lines : (es : List (List ℕ × ℕ)) → list_any (λ (e : List ℕ × ℕ). nat_lt 9223372036854775807 e.1) (totals es) ≡ false
    → summed (Some es) ≡ one (count_lines (totals es))
summed-lines es h = rw (sym (above-totals es) ∙ h) (sym (ap one (lines_of_totals es (rests es))))
