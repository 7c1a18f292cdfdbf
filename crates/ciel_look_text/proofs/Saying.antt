-- Text that is put piece by piece.
use Rattle.std.proofs.Common.{◌≡◌, ◌≤◌, ◌<◌, ◌+◌, ◌-◌, ℕ, zero, suc, List, [], ◌∷◌, ◌++◌, Bool, true, false, cond, length, map, flat_map, get_or, take, drop}
use Rattle.std.proofs.Common.{append_assoc, append-nil, arith, codes, min, refl, ap, sym, ◌∙◌, subst}
use Rattle.std.proofs.Math.Nat.{min_comm}
use Rattle.std.proofs.lemmas.Grind.{flat_map-append}
use Rattle.std.proofs.lemmas.List.{take_min}
use Rattle.ciel_look_shown.specs.Plain.{shown, shown_byte}
use Rattle.ciel_look_tasks.specs.Known.{Named}
use Rattle.ciel_look_words.proofs.ManyWords.{dropped, dropped_all}
use Rattle.ciel_look_text.specs.Says.{Says}
use Rattle.ciel_look_text.specs.Words.{and_more, if_any, led, named, row}

shown_append : (a b : List ℕ) → shown (a ++ b) ≡ shown a ++ shown b
shown_append a b = flat_map-append shown_byte a b

pub says_none : (old : List ℕ) → Says old [] old
says_none old = record { said = sym (append-nil old) }

pub says_two : (o m n a b : List ℕ) → Says o a m → Says m b n → Says o (a ++ b) n
says_two o m n a b f g =
    record {
      said = g.said ∙ ap (λ z. z ++ shown b) f.said ∙ append_assoc o (shown a) (shown b) ∙ ap (λ z. o ++ z) (sym (shown_append a b));
    }

pub says_three : (o m n p a b c : List ℕ) → Says o a m → Says m b n → Says n c p → Says o (a ++ (b ++ c)) p
says_three o m n p a b c f g h = says_two o m p a (b ++ c) f (says_two m n p b c g h)

pub says_four : (o m n p q a b c d : List ℕ) → Says o a m → Says m b n → Says n c p → Says p d q → Says o (a ++ (b ++ (c ++ d))) q
says_four o m n p q a b c d f g h i = says_two o m q a (b ++ (c ++ d)) f (says_three m n p q b c d g h i)

pub says_five : (o m n p q r a b c d e : List ℕ) → Says o a m → Says m b n → Says n c p → Says p d q → Says q e r
    → Says o (a ++ (b ++ (c ++ (d ++ e)))) r
says_five o m n p q r a b c d e f g h i j = says_two o m r a (b ++ (c ++ (d ++ e))) f (says_four m n p q r b c d e g h i j)

-- a line that was new
pub says_all : (o bytes line : List ℕ) → o ≡ [] → Says o bytes line → line ≡ shown bytes
says_all o bytes line e s = s.said ∙ ap (λ z. z ++ shown bytes) e

-- ---- what is said only of some

pub says_zero : (n : ℕ) (x old : List ℕ) → n ≡ 0 → Says old (if_any n x) old
says_zero n x old e = subst (λ k. Says old (if_any k x) old) (sym e) (says_none old)

pub says_some : (n : ℕ) (x old new : List ℕ) → (n ≡ 0 → ⊥) → Says old x new → Says old (if_any n x) new
says_some zero x old new h s = absurd (h refl)
says_some (suc n) x old new h s = s

-- ---- each behind `first`, from the second on behind `more`

module _ (first more old : List ℕ) (all : List (List ℕ)) where
  -- what is left to put, where this is the first or not
  abbrev pub Left : Bool → List ℕ → List (List ℕ) → Type 0
  Left b out rest = (new : List ℕ) → Says out (led (cond b first more) more rest) new → Says old (led first more all) new

  pub left_next : (b : Bool) (out m n x : List ℕ) (rest : List (List ℕ)) → Left b out (x ∷ rest) → Says out (cond b first more) m → Says m x n
      → Left false n rest
  left_next b out m n x rest left p q new r =
      left new (says_three out m n new (cond b first more) x (led more more rest) p q r)

  pub left_none : (b : Bool) (out : List ℕ) → Left b out [] → Says old (led first more all) out
  left_none b out left = left out (says_none out)

-- the members of a list, one after another
module _ {A : Type 0} (f : A → List ℕ) (first more old : List ℕ) (items : List A) where
  abbrev pub LeftOf : Bool → List ℕ → ℕ → Type 0
  LeftOf b out i = Left first more old (map f items) b out (map f (drop i items))

  pub of_next : (b : Bool) (out m n : List ℕ) (i : ℕ) (x : A) → i < length items → x ≡ get_or items i x → LeftOf b out i
      → Says out (cond b first more) m → Says m (f x) n → LeftOf false n (i + 1)
  of_next b out m n i x h e left p q =
      left_next first more old (map f items) b out m n (f x) (map f (drop (i + 1) items))
      (subst (λ xs. Left first more old (map f items) b out (map f xs)) (dropped items i x h e) left) p q

  pub of_all : (b : Bool) (out : List ℕ) (i : ℕ) → length items ≤ i → LeftOf b out i → Says old (led first more (map f items)) out
  of_all b out i h left =
      left_none first more old (map f items) b out
      (subst (λ xs. Left first more old (map f items) b out (map f xs)) (dropped_all items i h) left)

-- ---- names in a row

pub row_some : (known : List Named) (ns : List (List ℕ)) → (length ns ≡ 0 → ⊥)
    → row known ns ≡ led [] (codes ", ") (map (named known) (take 8 ns)) ++ and_more (length ns - 8)
row_some known [] h = absurd (h refl)
row_some known (n ∷ ns) h = refl

pub row_none : (known : List Named) (ns : List (List ℕ)) → length ns ≡ 0 → row known ns ≡ codes "nothing"
row_none known [] h = refl
row_none known (n ∷ ns) h = absurd (omega (arith, h))

-- the first eight of a list
pub first_eight : {A : Type 0} (xs : List A) (n told : ℕ) → n ≡ length xs → told ≡ min n 8 → take told xs ≡ take 8 xs
first_eight xs n told e f = ap (λ k. take k xs) (f ∙ ap (λ k. min k 8) e ∙ min_comm (length xs) 8) ∙ take_min 8 xs
