-- Reading things one behind the other.
use Rattle.std.proofs.Common.{◌≡◌, ◌+◌, ◌<◌, ℕ, List, [], ◌∷◌, ◌++◌, length, flat_map, refl, ap, ap₂, sym, ◌∙◌, subst, arith, append_assoc}
use Rattle.std.proofs.Common.{append-nil, length-append}
use Rattle.std.proofs.lemmas.Grind.{flat_map-append}
use Rattle.sky_base.specs.Name.{big_endian}
use Rattle.sky_base_law.specs.Tasks.{Each}
use Rattle.ciel_name.proofs.PrefixFreeBytes.{four_free}
use Rattle.sky_frozen_bytes.specs.Bytes.{counted}
use Rattle.sky_frozen_bytes.specs.Codes.{ReadAs, NoneAs, Free, ListRead, NoList, Fits32, Counted}

pub four_short : (old : List ℕ) → length old < 4 → NoneAs (big_endian 4) Fits32 old
four_short old h n rest f e =
    let m : length old ≡ 4 + length rest = ap length e ∙ length-append (big_endian 4 n) rest in absurd (omega (arith, m, h))

pub numbers_free : Free (big_endian 4) Fits32
numbers_free m n r s p q e = four_free m n r s p q e

-- ---- one thing and then another

module _ {A B : Type 0} (f : A → List ℕ) (P : A → Type 0) (g : B → List ℕ) (Q : B → Type 0) where
  abbrev pub both : A × B → List ℕ
  both p = f p.0 ++ g p.1

  abbrev pub Both : A × B → Type 0
  Both p = P p.0 × Q p.1

  pub both_read : (old : List ℕ) (x : A) (mid : List ℕ) (y : B) (new : List ℕ) → ReadAs f P old x mid → ReadAs g Q mid y new
      → ReadAs both Both old (x, y) new
  both_read old x mid y new p q = (p.0 ∙ ap (λ b. f x ++ b) q.0 ∙ sym (append_assoc (f x) (g y) new), (p.1, q.1))

  pub no_first : (old : List ℕ) → NoneAs f P old → NoneAs both Both old
  no_first old none x rest good e = none x.0 (g x.1 ++ rest) good.0 (e ∙ append_assoc (f x.0) (g x.1) rest)

  pub no_second : Free f P → (old : List ℕ) (x : A) (mid : List ℕ) → ReadAs f P old x mid → NoneAs g Q mid → NoneAs both Both old
  no_second free old x mid p none y rest good e =
      let same = free x y.0 mid (g y.1 ++ rest) p.1 good.0 (sym p.0 ∙ e ∙ append_assoc (f y.0) (g y.1) rest) in
      none y.1 rest good.1 same.1

  pub both_free : Free f P → Free g Q → Free both Both
  both_free one two x y r s p q e =
      let a = one x.0 y.0 (g x.1 ++ r) (g y.1 ++ s) p.0 q.0 (sym (append_assoc (f x.0) (g x.1) r) ∙ e ∙ append_assoc (f y.0) (g y.1) s) in
      let b = two x.1 y.1 r s p.1 q.1 a.1 in
      (ap₂ (λ u w. (u, w)) a.0 b.0, b.1)

-- ---- lists behind their lengths

module _ {A : Type 0} (f : A → List ℕ) (P : A → Type 0) where
  each_push : (xs : List A) (x : A) → Each P xs → P x → Each P (xs ++ x ∷ [])
  each_push [] x h p = (p, tt)
  each_push (y ∷ xs) x h p = (h.0, each_push xs x h.1 p)

  pub list_start : (old : List ℕ) → ListRead f P 0 old [] old
  list_start old = (refl, (tt, refl))

  pub list_more : (i : ℕ) (old : List ℕ) (xs : List A) (mid : List ℕ) (x : A) (new : List ℕ) → ListRead f P i old xs mid → ReadAs f P mid x new
      → ListRead f P (i + 1) old (xs ++ x ∷ []) new
  list_more i old xs mid x new p q =
      let last : flat_map f (xs ++ x ∷ []) ≡ flat_map f xs ++ f x = flat_map-append f xs (x ∷ [])
      ∙ ap (λ b. flat_map f xs ++ b) (append-nil (f x)) in (
        p.0 ∙ ap (λ b. flat_map f xs ++ b) q.0 ∙ sym (append_assoc (flat_map f xs) (f x) new) ∙ ap (λ b. b ++ new) (sym last),
        (each_push xs x p.1.0 q.1, length-append xs (x ∷ []) ∙ ap (λ n. n + 1) p.1.1),
      )

  -- where more stand in front, one more stands behind the first ones
  prefix : {R : Type 0} → Free f P → (xs ys : List A) (mid rest : List ℕ) → Each P xs → Each P ys → length xs < length ys → flat_map f xs ++ mid
      ≡ flat_map f ys ++ rest → ((y : A) (more : List ℕ) → P y → mid ≡ f y ++ more → R) → R
  prefix free xs [] mid rest p q h e go = absurd (omega arith)
  prefix free [] (y ∷ ys) mid rest p q h e go = go y (flat_map f ys ++ rest) q.0 (e ∙ append_assoc (f y) (flat_map f ys) rest)
  prefix free (x ∷ xs) (y ∷ ys) mid rest p q h e go =
      let same = free x y (flat_map f xs ++ mid) (flat_map f ys ++ rest) p.0 q.0
      (sym (append_assoc (f x) (flat_map f xs) mid) ∙ e ∙ append_assoc (f y) (flat_map f ys) rest) in
      prefix free xs ys mid rest p.1 q.1 (omega arith) same.1 go

  pub list_none : Free f P → (i n : ℕ) (old : List ℕ) (xs : List A) (mid : List ℕ) → ListRead f P i old xs mid → i < n → NoneAs f P mid
      → NoList f P n old
  list_none free i n old xs mid p h none ys rest q l e =
      prefix free xs ys mid rest p.1.0 q (omega (arith, p.1.1, l)) (sym p.0 ∙ e) (λ y more g m. none y more g m)

  pub no_count : (old : List ℕ) → length old < 4 → NoneAs (counted f) (Counted P) old
  no_count old h xs rest good e =
      four_short old h (length xs) (flat_map f xs ++ rest) good.0 (e ∙ append_assoc (big_endian 4 (length xs)) (flat_map f xs) rest)

  pub no_items : (old : List ℕ) (n : ℕ) (mid : List ℕ) → old ≡ big_endian 4 n ++ mid → Fits32 n → NoList f P n mid
      → NoneAs (counted f) (Counted P) old
  no_items old n mid e h none xs rest good g =
      let same = four_free n (length xs) mid (flat_map f xs ++ rest) h good.0
      (sym e ∙ g ∙ append_assoc (big_endian 4 (length xs)) (flat_map f xs) rest) in
      none xs rest good.1 (sym same.0) same.1

  pub counted_read : (old : List ℕ) (n : ℕ) (mid : List ℕ) (xs : List A) (new : List ℕ) → old ≡ big_endian 4 n ++ mid → Fits32 n
      → ListRead f P n mid xs new → ReadAs (counted f) (Counted P) old xs new
  counted_read old n mid xs new e h p = (
    e ∙ ap₂ (λ k b. big_endian 4 k ++ b) (sym p.1.1) p.0 ∙ sym (append_assoc (big_endian 4 (length xs)) (flat_map f xs) new),
    (subst Fits32 (sym p.1.1) h, p.1.0),
  )

  list_free : Free f P → (xs ys : List A) (r s : List ℕ) → Each P xs → Each P ys → length xs ≡ length ys → flat_map f xs ++ r ≡ flat_map f ys
      ++ s → (xs ≡ ys) × (r ≡ s)
  list_free free [] [] r s p q l e = (refl, e)
  list_free free [] (y ∷ ys) r s p q l e = absurd cc
  list_free free (x ∷ xs) [] r s p q l e = absurd cc
  list_free free (x ∷ xs) (y ∷ ys) r s p q l e =
      let same = free x y (flat_map f xs ++ r) (flat_map f ys ++ s) p.0 q.0
      (sym (append_assoc (f x) (flat_map f xs) r) ∙ e ∙ append_assoc (f y) (flat_map f ys) s) in
      let m : length xs ≡ length ys = cc in
      let more = list_free free xs ys r s p.1 q.1 m same.1 in
      (ap₂ (λ z zs. z ∷ zs) same.0 more.0, more.1)

  pub counted_free : Free f P → Free (counted f) (Counted P)
  counted_free free xs ys r s p q e =
      let same = four_free (length xs) (length ys) (flat_map f xs ++ r) (flat_map f ys ++ s) p.0 q.0
      (sym (append_assoc (big_endian 4 (length xs)) (flat_map f xs) r) ∙ e ∙ append_assoc (big_endian 4 (length ys)) (flat_map f ys) s) in
      list_free free xs ys r s p.1 q.1 same.0 same.1
