-- A file is told in one way: its entries one behind the other, or the place of the first bad one.
use Rattle.std.proofs.Common.{◌≡◌, ◌≤◌, ◌+◌, ◌⊎◌, inl, inr, ℕ, List, [], ◌∷◌, ◌++◌, flat_map, length, map, refl, ap, sym, ◌∙◌, subst}
use Rattle.std.proofs.Common.{arith, append_assoc, append-nil, length-append}
use Rattle.std.proofs.lemmas.Grind.{flat_map-append}
use Rattle.std.proofs.lemmas.List.{map-append}
use Rattle.sky_base_law.specs.Tasks.{Apart, Each, In}
use Rattle.ciel_memo_file.specs.Entries.{Entry}
use Rattle.ciel_memo_file.specs.File.{BadEntry, IsMemo, IsWhole, entry_bytes, file_bytes, key_bytes, most_of_a_file}
use Rattle.ciel_memo_file.specs.Laws.{NeverBoth, OneList, OnePlace}
use Rattle.ciel_memo_file.proofs.Spelling.{entries_free}

-- ---- lists and an item behind them

pub each_push : {A : Type 0} (P : A → Type 0) (xs : List A) (x : A) → Each P xs → P x → Each P (xs ++ x ∷ [])
each_push P [] x h p = (p, tt)
each_push P (y ∷ xs) x h p = (h.0, each_push P xs x h.1 p)

each_front : {A : Type 0} (P : A → Type 0) (xs ys : List A) → Each P (xs ++ ys) → Each P xs
each_front P [] ys h = tt
each_front P (x ∷ xs) ys h = (h.0, each_front P xs ys h.1)

pub each_last : {A : Type 0} (P : A → Type 0) (xs : List A) (x : A) → Each P (xs ++ x ∷ []) → P x
each_last P [] x h = h.0
each_last P (y ∷ xs) x h = each_last P xs x h.1

pub in_front : {A : Type 0} (x : A) (xs ys : List A) → In x xs → In x (xs ++ ys)
in_front x [] ys h = absurd h
in_front x (y ∷ xs) ys (inl e) = inl e
in_front x (y ∷ xs) ys (inr h) = inr (in_front x xs ys h)

in_last : {A : Type 0} (x y : A) (xs : List A) → In x (xs ++ y ∷ []) → (x ≡ y) ⊎ In x xs
in_last x y [] (inl e) = inl e
in_last x y [] (inr h) = absurd h
in_last x y (z ∷ xs) (inl e) = inr (inl e)
in_last x y (z ∷ xs) (inr h) = elim (in_last x y xs h) [
  | inl e ↦ inl e
  | inr g ↦ inr (inr g)
]

pub apart_push : {A : Type 0} (xs : List A) (x : A) → Apart xs → (In x xs → ⊥) → Apart (xs ++ x ∷ [])
apart_push [] x h other = (λ i. i, tt)
apart_push (y ∷ xs) x h other = (
  λ i. elim (in_last y x xs i) [
    | inl e ↦ other (inl (sym e))
    | inr g ↦ h.0 g
  ],
  apart_push xs x h.1 (λ i. other (inr i)),
)

apart_front : {A : Type 0} (xs ys : List A) → Apart (xs ++ ys) → Apart xs
apart_front [] ys h = tt
apart_front (x ∷ xs) ys h = (λ i. h.0 (in_front x xs ys i), apart_front xs ys h.1)

pub in_end : {A : Type 0} (x : A) (xs : List A) → In x (xs ++ x ∷ [])
in_end x [] = inl refl
in_end x (y ∷ xs) = inr (in_end x xs)

pub apart_last : {A : Type 0} (xs : List A) (x : A) → Apart (xs ++ x ∷ []) → In x xs → ⊥
apart_last [] x h i = i
apart_last (y ∷ xs) x h (inl e) = h.0 (subst (λ z. In z (xs ++ x ∷ [])) e (in_end x xs))
apart_last (y ∷ xs) x h (inr i) = apart_last xs x h.1 i

-- ---- bytes of entries one behind the other

abbrev all : List Entry → List ℕ
all es = flat_map entry_bytes es

pub all_push : (es : List Entry) (e : Entry) → all (es ++ e ∷ []) ≡ all es ++ entry_bytes e
all_push es e = flat_map-append entry_bytes es (e ∷ []) ∙ ap (λ b. all es ++ b) (append-nil (entry_bytes e))

pub file_push : (es : List Entry) (e : Entry) → file_bytes (es ++ e ∷ []) ≡ file_bytes es ++ entry_bytes e
file_push es e = ap (λ b. 77 ∷ 1 ∷ b) (all_push es e)

keys_push : (es : List Entry) (e : Entry) → map key_bytes (es ++ e ∷ []) ≡ map key_bytes es ++ key_bytes e ∷ []
keys_push es e = map-append key_bytes es (e ∷ [])

-- one more entry, whose key is new and which ends within the limit
pub one_more : (es : List Entry) (e : Entry) → IsMemo (file_bytes es) es → IsWhole e
    → length (file_bytes es) + length (entry_bytes e) ≤ most_of_a_file → (In (key_bytes e) (map key_bytes es) → ⊥)
    → IsMemo (file_bytes (es ++ e ∷ [])) (es ++ e ∷ [])
one_more es e m w small new = record {
  bytes = refl;
  whole = each_push IsWhole es e m.whole w;
  fits =
      let long : length (file_bytes (es ++ e ∷ [])) ≡ length (file_bytes es) + length (entry_bytes e) =
      ap length (file_push es e) ∙ length-append (file_bytes es) (entry_bytes e) in
      omega (arith, long, small);
  keys = subst Apart (sym (keys_push es e)) (apart_push (map key_bytes es) (key_bytes e) m.keys new);
}

-- and what such a file says of its last entry
pub last_whole : (es : List Entry) (e : Entry) → IsMemo (file_bytes (es ++ e ∷ [])) (es ++ e ∷ []) → IsWhole e
last_whole es e m = each_last IsWhole es e m.whole

pub last_fits : (es : List Entry) (e : Entry) → IsMemo (file_bytes (es ++ e ∷ [])) (es ++ e ∷ [])
    → length (file_bytes es) + length (entry_bytes e) ≤ most_of_a_file
last_fits es e m =
    let long : length (file_bytes (es ++ e ∷ [])) ≡ length (file_bytes es) + length (entry_bytes e) =
    ap length (file_push es e) ∙ length-append (file_bytes es) (entry_bytes e) in
    omega (arith, long, m.fits)

pub last_new : (es : List Entry) (e : Entry) → IsMemo (file_bytes (es ++ e ∷ [])) (es ++ e ∷ []) → In (key_bytes e) (map key_bytes es) → ⊥
last_new es e m i = apart_last (map key_bytes es) (key_bytes e) (subst Apart (keys_push es e) m.keys) i

pub no_entries : IsMemo (file_bytes []) []
no_entries = record { bytes = refl; whole = tt; fits = omega arith; keys = tt }

-- the first entries of a file are a file
front : (es : List Entry) (e : Entry) (more : List Entry) → IsMemo (file_bytes (es ++ e ∷ more)) (es ++ e ∷ more)
    → IsMemo (file_bytes (es ++ e ∷ [])) (es ++ e ∷ [])
front es e more m =
    let cut : es ++ e ∷ more ≡ (es ++ e ∷ []) ++ more = sym (append_assoc es (e ∷ []) more) in
    record {
      bytes = refl;
      whole = each_front IsWhole (es ++ e ∷ []) more (subst (Each IsWhole) cut m.whole);
      fits =
          let long : length (all (es ++ e ∷ more)) ≡ length (all (es ++ e ∷ [])) + length (all more) =
          ap (λ xs. length (all xs)) cut ∙ ap length (flat_map-append entry_bytes (es ++ e ∷ []) more)
          ∙ length-append (all (es ++ e ∷ [])) (all more) in
          let most : length (file_bytes (es ++ e ∷ more)) ≤ most_of_a_file = m.fits in
          omega (arith, long, most);
      keys =
          apart_front (map key_bytes (es ++ e ∷ [])) (map key_bytes more)
          (subst Apart (ap (map key_bytes) cut ∙ map-append key_bytes (es ++ e ∷ []) more) m.keys);
    }

-- ---- two lists of entries that stand in front of the same bytes

data Cut (xs ys : List Entry) (r s : List ℕ) : Type 0 where
  same : xs ≡ ys → r ≡ s → Cut xs ys r s
  longer : (e : Entry) (more : List Entry) → ys ≡ xs ++ e ∷ more → r ≡ entry_bytes e ++ (all more ++ s) → Cut xs ys r s
  shorter : (e : Entry) (more : List Entry) → xs ≡ ys ++ e ∷ more → s ≡ entry_bytes e ++ (all more ++ r) → Cut xs ys r s

more_of : (x y : Entry) (xs ys : List Entry) (r s : List ℕ) → x ≡ y → Cut xs ys r s → Cut (x ∷ xs) (y ∷ ys) r s
more_of x y xs ys r s h (same e g) = same (λ i. h i ∷ e i) g
more_of x y xs ys r s h (longer z more e g) = longer z more (λ i. sym h i ∷ e i) g
more_of x y xs ys r s h (shorter z more e g) = shorter z more (λ i. h i ∷ e i) g

cut : (xs ys : List Entry) (r s : List ℕ) → Each IsWhole xs → Each IsWhole ys → all xs ++ r ≡ all ys ++ s → Cut xs ys r s
cut [] [] r s p q h = same refl h
cut [] (y ∷ ys) r s p q h = longer y ys refl (h ∙ append_assoc (entry_bytes y) (all ys) s)
cut (x ∷ xs) [] r s p q h = shorter x xs refl (sym h ∙ append_assoc (entry_bytes x) (all xs) r)
cut (x ∷ xs) (y ∷ ys) r s p q h =
    let first = entries_free x y (all xs ++ r) (all ys ++ s) p.0.spelled q.0.spelled
    (sym (append_assoc (entry_bytes x) (all xs) r) ∙ h ∙ append_assoc (entry_bytes y) (all ys) s) in
    more_of x y xs ys r s first.0 (cut xs ys r s p.1 q.1 first.1)

-- an entry has bytes
pub some_bytes : (e : Entry) (r : List ℕ) → [] ≡ entry_bytes e ++ r → ⊥
some_bytes e r h = absurd cc

behind : (a b : List ℕ) → 77 ∷ 1 ∷ a ≡ 77 ∷ 1 ∷ b → a ≡ b
behind a b h = cc

-- ---- the laws

pub one_list : OneList
one_list bs xs ys m n =
    let h : all xs ++ [] ≡ all ys ++ [] = ap (λ b. b ++ []) (behind (all xs) (all ys) (sym m.bytes ∙ n.bytes)) in
    elim (cut xs ys [] [] m.whole n.whole h) [
      | same e g ↦ e
      | longer e more l g ↦ absurd (some_bytes e (all more ++ []) g)
      | shorter e more l g ↦ absurd (some_bytes e (all more ++ []) g)
    ]

as_front : (xs before : List Entry) (e : Entry) (more : List Entry) → xs ≡ before ++ e ∷ more → IsMemo (file_bytes xs) xs
    → IsMemo (file_bytes (before ++ e ∷ [])) (before ++ e ∷ [])
as_front xs before e more l m = front before e more (subst (λ es. IsMemo (file_bytes es) es) l m)

own : (bs : List ℕ) (es : List Entry) → IsMemo bs es → IsMemo (file_bytes es) es
own bs es m = record { bytes = refl; whole = m.whole; fits = subst (λ b. length b ≤ most_of_a_file) m.bytes m.fits; keys = m.keys }

not_bad : (bs : List ℕ) (es : List Entry) (at : ℕ) → IsMemo bs es → BadEntry bs at → ⊥
not_bad bs es at m b =
    let h : all es ++ [] ≡ all b.before ++ b.rest =
    append-nil (all es) ∙ behind (all es) (all b.before ++ b.rest) (sym m.bytes ∙ b.bytes) in
    elim (cut es b.before [] b.rest m.whole b.memo.whole h) [
      | same e g ↦ b.more (sym g)
      | longer e more l g ↦ some_bytes e (all more ++ b.rest) g
      | shorter e more l g ↦ b.none e (all more ++ []) g (as_front es b.before e more l (own bs es m))
    ]

pub never_both : NeverBoth
never_both bs es at m (inl n) = n.0 (all es) m.bytes
never_both bs es at m (inr b) = not_bad bs es at m b

one_bad : (bs : List ℕ) (i j : ℕ) → BadEntry bs i → BadEntry bs j → i ≡ j
one_bad bs i j b c =
    let h : all b.before ++ b.rest ≡ all c.before ++ c.rest =
    behind (all b.before ++ b.rest) (all c.before ++ c.rest) (sym b.bytes ∙ c.bytes) in
    elim (cut b.before c.before b.rest c.rest b.memo.whole c.memo.whole h) [
      | same e g ↦ b.place ∙ ap (λ es. length (file_bytes es)) e ∙ sym c.place
      | longer e more l g ↦ absurd (b.none e (all more ++ c.rest) g (as_front c.before b.before e more l c.memo))
      | shorter e more l g ↦ absurd (c.none e (all more ++ b.rest) g (as_front b.before c.before e more l b.memo))
    ]

pub one_place : OnePlace
one_place bs i j (inl n) (inl m) = n.1 ∙ sym m.1
one_place bs i j (inl n) (inr b) = absurd (n.0 (all b.before ++ b.rest) b.bytes)
one_place bs i j (inr b) (inl n) = absurd (n.0 (all b.before ++ b.rest) b.bytes)
one_place bs i j (inr b) (inr c) = one_bad bs i j b c
