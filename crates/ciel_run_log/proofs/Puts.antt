-- Texts put one behind another: digits of bytes in parts, and the texts of a list's members.
use Rattle.std.proofs.Common.{◌≡◌, ◌<◌, ◌+◌, ◌/◌, ◌%◌, ◌++◌, ℕ, zero, suc, List, [], ◌∷◌, Option, Result, Ok, Err, OnErr, flat_map, get_or, length}
use Rattle.std.proofs.Common.{take, drop, slice_index, refl, sym, ap, subst, ◌∙◌, append_assoc, arith}
use Rattle.std.specs.List.{concat}
use Rattle.hex.specs.Hex.{encode_lower, encode_with, lower_digits}
use Rattle.ciel_io.specs.Tells.{Tells, TellsPart}
use Rattle.ciel_io.proofs.Joined.{part_more, tells_none}

-- the digits of bytes are those of their parts
pub digits_of_parts : (xs ys : List ℕ) → encode_lower (xs ++ ys) ≡ encode_lower xs ++ encode_lower ys
unfolding encode_with
digits_of_parts [] ys = refl
digits_of_parts (x ∷ xs) ys = ap (λ zs. slice_index lower_digits (x / 16) ∷ slice_index lower_digits (x % 16) ∷ zs) (digits_of_parts xs ys)

pub no_digits : encode_lower [] ≡ []
unfolding encode_with
no_digits = refl

-- the texts of a list, and of one behind it
pub concat_of_parts : (xs ys : List (List ℕ)) → concat (xs ++ ys) ≡ concat xs ++ concat ys
concat_of_parts [] ys = refl
concat_of_parts (x ∷ xs) ys = ap (λ zs. x ++ zs) (concat_of_parts xs ys) ∙ sym (append_assoc x (concat xs) (concat ys))

-- a part of a text of which `front` was put, where `next` comes then
pub part_at : (b m n : Option (List ℕ)) (whole front next rest : List ℕ) → whole ≡ front ++ (next ++ rest) → Tells b m front → TellsPart m n next
    → TellsPart b n whole
part_at b m n whole front next rest e g h = subst (TellsPart b n) (sym e) (part_more b m n front next rest g h)

pub part_first : (b n : Option (List ℕ)) (whole next rest : List ℕ) → whole ≡ next ++ rest → TellsPart b n next → TellsPart b n whole
part_first b n whole next rest e h = part_at b b n whole [] next rest e (tells_none b) h

pub on_err_to : {T E P Q : Type 0} (r : Result T E) → OnErr r P → (P → Q) → OnErr r Q
on_err_to (Ok x) p f = tt
on_err_to (Err e) p f = f p

module _ {A : Type 0} (f : A → List ℕ) where
  parts_at : (xs : List A) (i : ℕ) (d : A) → i < length xs
      → flat_map f xs ≡ flat_map f (take i xs) ++ (f (get_or xs i d) ++ flat_map f (drop (i + 1) xs))
  parts_at [] i d h = absurd (omega arith)
  parts_at (x ∷ xs) zero d h = refl
  parts_at (x ∷ xs) (suc i) d h =
      let e : suc i + 1 ≡ suc (i + 1) = omega arith in
      let below : i < length xs = omega arith in
      rw e (ap (λ y. f x ++ y) (parts_at xs i d below)
      ∙ sym (append_assoc (f x) (flat_map f (take i xs)) (f (get_or xs i d) ++ flat_map f (drop (i + 1) xs))))

  -- the texts of the members before the place, at it and behind it
  pub text_parts : (xs : List A) (i : ℕ) (x : A) → i < length xs → x ≡ get_or xs i x
      → flat_map f xs ≡ flat_map f (take i xs) ++ (f x ++ flat_map f (drop (i + 1) xs))
  text_parts xs i x h e = parts_at xs i x h ∙ ap (λ y. flat_map f (take i xs) ++ (f y ++ flat_map f (drop (i + 1) xs))) (sym e)
