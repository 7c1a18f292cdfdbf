-- What the bytes of a record tell, where they are few: its counts and lengths have four bytes, though its descriptions may be none that can be
-- read.
use Rattle.std.proofs.Common.{◌≡◌, ◌≤◌, ◌<◌, ◌+◌, ◌-◌, ◌^◌, ℕ, List, [], ◌∷◌, ◌++◌, Bool, true, false, get_or, length, map, flat_map, nat_eq}
use Rattle.std.proofs.Common.{refl, ap, ap₂, sym, ◌∙◌, subst, arith, append_assoc, length-append}
use Rattle.std.proofs.lemmas.List.{length-map}
use Rattle.sky_base.specs.Name.{big_endian, canon, name_bytes, name_bytes_if}
use Rattle.sky_base.specs.Res.{Object}
use Rattle.sky_base.specs.Val.{Desc}
use Rattle.sky_base.specs.declared.object.TaskId.{TaskId}
use Rattle.sky_base_law.specs.Tasks.{Each}
use Rattle.ciel_name.specs.Object.{object_bytes}
use Rattle.ciel_name.proofs.PrefixFreeBytes.{four_free}
use Rattle.sky_frozen_bytes.specs.Codes.{Counted, Fits32}
use Rattle.sky_frozen_bytes.proofs.Codes.{both_free, counted_free, numbers_free}
use Rattle.ciel_log_records.specs.Records.{HowEnded, answered, block, counted, dropped_record, end_bytes, failed, made, missing, report_record, saved}
use Rattle.ciel_log_records.specs.Records.{start_record}
use Rattle.ciel_log_read.specs.Recorded.{Fits64, FitsBlock, IsEnd, IsNamed, IsRecord, IsTask, Recorded, dropped, record_bytes, reported, started}
use Rattle.ciel_log_read.proofs.Pieces.{blocks_free, longs_free, names_free}
use Rattle.ciel_log_read.proofs.Records.{one_record}
use Rattle.ciel_look_law.specs.Events.{IsOutcome}
use Rattle.ciel_look_story.specs.Story.{is_shown}
use Rattle.ciel_look_told.specs.Told as told
use Rattle.ciel_look_told.specs.Told.{outcome, weight}

-- ---- lists of blocks

module _ {A : Type 0} (f : A → List ℕ) where
  blocks_are : (xs : List A) → flat_map (λ x. block (f x)) xs ≡ flat_map block (map f xs)
  blocks_are [] = refl
  blocks_are (x ∷ xs) = ap (λ b. block (f x) ++ b) (blocks_are xs)

  counted_are : (xs : List A) → counted (λ x. block (f x)) xs ≡ counted block (map f xs)
  counted_are xs = ap₂ (λ n b. big_endian 4 n ++ b) (sym (length-map xs f)) (blocks_are xs)

all_fit : (bs : List (List ℕ)) → length (flat_map block bs) < 2 ^ 32 → Each FitsBlock bs × (length bs ≤ length (flat_map block bs))
all_fit [] h = (tt, omega arith)
all_fit (b ∷ bs) h =
    let l = length-append (block b) (flat_map block bs) in
    let r = all_fit bs (omega (arith, l, h)) in
    let m = r.1 in
    ((omega (arith, l, h), r.0), omega (arith, l, m))

counted_fits : (bs : List (List ℕ)) → length (counted block bs) < 2 ^ 32 → Counted FitsBlock bs
counted_fits bs h = let r = all_fit bs (omega (arith, h)) in let m = r.1 in (omega (arith, h, m), r.0)

module _ {A : Type 0} (f : A → List ℕ) where
  fits : (xs : List A) → length (counted (λ x. block (f x)) xs) < 2 ^ 32 → Counted FitsBlock (map f xs)
  fits xs h = counted_fits (map f xs) (subst (λ b. length b < 2 ^ 32) (counted_are f xs) h)

  pub blocks_same : (xs ys : List A) (r s : List ℕ) → length (counted (λ x. block (f x)) xs) < 2 ^ 32
      → length (counted (λ x. block (f x)) ys) < 2 ^ 32 → counted (λ x. block (f x)) xs ++ r ≡ counted (λ x. block (f x)) ys ++ s
      → (map f xs ≡ map f ys) × (r ≡ s)
  blocks_same xs ys r s h g e =
      counted_free block FitsBlock blocks_free (map f xs) (map f ys) r s (fits xs h) (fits ys g)
      (ap (λ b. b ++ r) (sym (counted_are f xs)) ∙ e ∙ ap (λ b. b ++ s) (counted_are f ys))

-- ---- lists of names

name_long : (n : List ℕ) → 1 ≤ length (name_bytes n)
name_long n = pick (nat_eq (length n) 20)
  where
    pick : (b : Bool) → 1 ≤ length (name_bytes_if b n)
    pick true = omega arith
    pick false = omega arith

names_few : (ns : List (List ℕ)) → length ns ≤ length (flat_map name_bytes ns)
names_few [] = omega arith
names_few (n ∷ ns) =
    let l = length-append (name_bytes n) (flat_map name_bytes ns) in
    let one = name_long n in
    let more = names_few ns in
    omega (arith, l, one, more)

names_fit : (ns : List (List ℕ)) → length (counted name_bytes ns) < 2 ^ 32 → Each IsNamed ns → Counted IsNamed ns
names_fit ns h named = let few = names_few ns in (omega (arith, h, few), named)

-- ---- the parts of a report

behind : (n a b e : List ℕ) → (n ++ (a ++ b)) ++ e ≡ n ++ (a ++ (b ++ e))
behind n a b e = append_assoc n (a ++ b) e ∙ ap (λ x. n ++ x) (append_assoc a b e)

opened : (n a b e m c d f : List ℕ) → (82 ∷ (n ++ (a ++ b))) ++ e ≡ (82 ∷ (m ++ (c ++ d))) ++ f → n ++ (a ++ (b ++ e)) ≡ m ++ (c ++ (d ++ f))
opened n a b e m c d f q =
    let t : (n ++ (a ++ b)) ++ e ≡ (m ++ (c ++ d)) ++ f = cc in sym (behind n a b e) ∙ t ∙ behind m c d f

long : (n a b e : List ℕ) → length ((82 ∷ (n ++ (a ++ b))) ++ e) ≡ 1 + length n + length a + length b + length e
long n a b e =
    let x = length-append (82 ∷ (n ++ (a ++ b))) e in
    let y = length-append n (a ++ b) in
    let z = length-append a b in
    omega (arith, x, y, z)

part : (t n a b e : ℕ) → t ≡ 1 + n + a + b + e → t < 2 ^ 32 → (a < 2 ^ 32) × (b < 2 ^ 32) × (e < 2 ^ 32)
part t n a b e q h = (omega (arith, q, h), omega (arith, q, h), omega (arith, q, h))

pub record SameReport (k n : ℕ) (ds es : List (Desc (List ℕ))) (ms ns : List (List ℕ)) (how way : HowEnded) : Type 0 where
  pub number : k ≡ n
  pub spawned : map canon ds ≡ map canon es
  pub copied : ms ≡ ns
  pub end : end_bytes how ≡ end_bytes way

abbrev descs_bytes : List (Desc (List ℕ)) → List ℕ
descs_bytes ds = counted (λ d. block (canon d)) ds

abbrev names_bytes : List (List ℕ) → List ℕ
names_bytes ns = counted name_bytes ns

first_number : (k n : ℕ) (ds es : List (Desc (List ℕ))) (ms ns : List (List ℕ)) (how way : HowEnded) → Fits64 k → Fits64 n
    → report_record k ds ms how ≡ report_record n es ns way
    → (k ≡ n) × (descs_bytes ds ++ (names_bytes ms ++ end_bytes how) ≡ descs_bytes es ++ (names_bytes ns ++ end_bytes way))
first_number k n ds es ms ns how way p q e =
    longs_free k n (descs_bytes ds ++ (names_bytes ms ++ end_bytes how)) (descs_bytes es ++ (names_bytes ns ++ end_bytes way)) p q
    (opened (big_endian 8 k) (descs_bytes ds) (names_bytes ms) (end_bytes how) (big_endian 8 n) (descs_bytes es) (names_bytes ns) (end_bytes way) e)

pub one_number : (k n : ℕ) (ds es : List (Desc (List ℕ))) (ms ns : List (List ℕ)) (how way : HowEnded) → Fits64 k → Fits64 n
    → report_record k ds ms how ≡ report_record n es ns way → k ≡ n
one_number k n ds es ms ns how way p q e = (first_number k n ds es ms ns how way p q e).0

pub one_dropped : (k n : ℕ) → Fits64 k → Fits64 n → dropped_record k ≡ dropped_record n → k ≡ n
one_dropped k n p q e =
    let t : big_endian 8 k ≡ big_endian 8 n = cc in (longs_free k n [] [] p q (ap (λ b. b ++ []) t)).0

same_report : (k n : ℕ) (ds es : List (Desc (List ℕ))) (ms ns : List (List ℕ)) (how way : HowEnded) → Fits64 k → Fits64 n → Each IsNamed ms
    → Each IsNamed ns → length (report_record k ds ms how) < 2 ^ 32 → report_record k ds ms how ≡ report_record n es ns way
    → SameReport k n ds es ms ns how way
same_report k n ds es ms ns how way p q named also few e =
    let x = part (length (report_record k ds ms how)) (length (big_endian 8 k)) (length (descs_bytes ds)) (length (names_bytes ms))
    (length (end_bytes how)) (long (big_endian 8 k) (descs_bytes ds) (names_bytes ms) (end_bytes how)) few in
    let y = part (length (report_record n es ns way)) (length (big_endian 8 n)) (length (descs_bytes es)) (length (names_bytes ns))
    (length (end_bytes way)) (long (big_endian 8 n) (descs_bytes es) (names_bytes ns) (end_bytes way))
    (subst (λ b. length b < 2 ^ 32) e few) in
    let a = first_number k n ds es ms ns how way p q e in
    let b = blocks_same canon ds es (names_bytes ms ++ end_bytes how) (names_bytes ns ++ end_bytes way) x.0 y.0 a.1 in
    let c = counted_free name_bytes IsNamed names_free ms ns (end_bytes how) (end_bytes way) (names_fit ms x.1 named) (names_fit ns y.1 also) b.1 in
    record { number = a.0; spawned = b.0; copied = c.0; end = c.1 }

-- ---- ends

-- its numbers fit their bytes, and its name can be read
abbrev pub Narrow : HowEnded → Type 0
Narrow (saved j stack) = Fits32 j
Narrow (missing name loss) = IsNamed name × Fits32 loss
Narrow _ = Unit {0}

weights_are : (os : List (Object (List ℕ))) → map weight os ≡ map (λ (b : List ℕ). length b - 1) (map object_bytes os)
weights_are [] = refl
weights_are (o ∷ os) = ap (λ ws. weight o ∷ ws) (weights_are os)

no_more : (xs ys : List ℕ) → xs ≡ ys → xs ++ [] ≡ ys ++ []
no_more xs ys e = ap (λ b. b ++ []) e

pub same_end : (how way : HowEnded) → IsEnd way → Narrow how → length (end_bytes way) < 2 ^ 32 → end_bytes way ≡ end_bytes how
    → IsOutcome how (outcome way)
same_end (made os) (made ps) p n few e =
    let t : counted (λ o. block (object_bytes o)) ps ≡ counted (λ o. block (object_bytes o)) os = cc in
    let h : length (counted (λ o. block (object_bytes o)) ps) < 2 ^ 32 = omega (arith, few) in
    let same = blocks_same object_bytes ps os [] [] h (subst (λ b. length b < 2 ^ 32) t h) (no_more _ _ t) in
    ap told.made (weights_are ps ∙ ap (map (λ (b : List ℕ). length b - 1)) same.0 ∙ sym (weights_are os))
same_end (saved j a) (saved i b) p n few e =
    let t : big_endian 4 i ++ block b ≡ big_endian 4 j ++ block a = cc in
    let x = four_free i j (block b) (block a) p.0 n t in
    let h : length a < 2 ^ 32 = let l = ap length x.1 in omega (arith, few, l) in
    let y = blocks_free b a [] [] p.1 h (no_more _ _ x.1) in
    ap₂ told.saved x.0 (ap length y.0)
same_end (answered a) (answered b) p n few e =
    let t : block b ≡ block a = cc in
    let h : length a < 2 ^ 32 = let l = ap length t in omega (arith, few, l) in
    ap told.answered (ap length (blocks_free b a [] [] p h (no_more _ _ t)).0)
same_end (failed f) (failed g) p n few e = (g, cc, refl)
same_end (missing m i) (missing k j) p n few e =
    let t : name_bytes k ++ big_endian 4 j ≡ name_bytes m ++ big_endian 4 i = cc in
    let x = both_free name_bytes IsNamed (big_endian 4) Fits32 names_free numbers_free (k, j) (m, i) [] [] p n (no_more _ _ t) in
    ap (λ (z : List ℕ × ℕ). told.missing z.0 z.1) x.0
same_end how way p n few e = absurd cc

pub same_shown : (how way : HowEnded) → end_bytes way ≡ end_bytes how → is_shown way ≡ is_shown how
same_shown (made os) (made ps) e = refl
same_shown (saved j a) (saved i b) e = refl
same_shown (answered a) (answered b) e = refl
same_shown (failed f) (failed g) e = refl
same_shown (missing m i) (missing k j) e = refl
same_shown how way e = absurd cc

-- ---- records

pub is_start : (r : Recorded) → IsRecord r → (k w from : ℕ) (t : TaskId) → Fits64 k → Fits32 w → Fits32 from → IsTask t
    → record_bytes r ≡ start_record k w from t → r ≡ started k w from t
is_start r g k w from t a b c d e = one_record r (started k w from t) g (a, (b, (c, d))) e

-- the record is a report of this order, with these copies, and ended so
pub record IsReport (r : Recorded) (k : ℕ) (ds : List (Desc (List ℕ))) (ns : List (List ℕ)) (how : HowEnded) : Type 0 where
  pub descs : List (Desc (List ℕ))
  pub way : HowEnded
  pub is : r ≡ reported k descs ns way
  pub same : map canon descs ≡ map canon ds
  pub ended : IsOutcome how (outcome way)
  pub shown : is_shown way ≡ is_shown how

pub is_report : (r : Recorded) → IsRecord r → (k : ℕ) (ds : List (Desc (List ℕ))) (ns : List (List ℕ)) (how : HowEnded) → Fits64 k → Each IsNamed ns
    → Narrow how → length (record_bytes r) < 2 ^ 32 → record_bytes r ≡ report_record k ds ns how → IsReport r k ds ns how
is_report (started n w from t) g k ds ns how a b c few e = let h = ap (λ b. get_or b 0 0) e in absurd (omega (arith, h))
is_report (dropped n) g k ds ns how a b c few e = let h = ap (λ b. get_or b 0 0) e in absurd (omega (arith, h))
is_report (reported n es ms way) g k ds ns how a b c few e =
    let s = same_report n k es ds ms ns way how g.0 a g.1.1.0.1 b few e in
    let l = long (big_endian 8 n) (descs_bytes es) (names_bytes ms) (end_bytes way) in
    record {
      descs = es;
      way = way;
      is = ap₂ (λ x ys. reported x es ys way) s.number s.copied;
      same = s.spawned;
      ended = same_end how way g.1.1.1 c (omega (arith, few, l)) s.end;
      shown = same_shown how way s.end;
    }
