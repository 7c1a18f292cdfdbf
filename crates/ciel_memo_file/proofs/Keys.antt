-- The test whether an entry has a key is exact.
use Rattle.std.proofs.Common.{◌≡◌, ◌≢◌, ◌+◌, ℕ, suc, List, [], ◌∷◌, ◌++◌, Bool, true, false, ◌&&◌, ◌==◌, eq-eqb, eqb-true, drop, flat_map, length}
use Rattle.std.proofs.Common.{length-append, refl, sym, ◌∙◌, ap, ap₂, take}
use Rattle.std.proofs.Math.Seq.{drop-append_seam, take-append_seam}
use Rattle.std.proofs.lemmas.List.{append_cancel_left}
use Rattle.sky_base.proofs.Exact.{both_first, both_second, both_true, exact_text, exact_val, self_text, self_val}
use Rattle.sky_base.specs.Name.{big_endian, bytes, bytes_of_text}
use Rattle.sky_base.specs.Val.{Val, same_text, same_val}
use Rattle.ciel_memo_key.specs.Keys.{block, key_of}
use Rattle.ciel_memo_file.specs.Entries.{Entry, has_key, same_lists}
use Rattle.ciel_memo_file.specs.File.{key_bytes}
use Rattle.ciel_memo_file.specs.Laws.{SameKey}
use Rattle.ciel_memo_file.specs.Steps.{same_lengths}

pub exact_lists : (xs ys : List (List ℕ)) → same_lists xs ys ≡ true → xs ≡ ys
exact_lists [] [] h = refl
exact_lists (x ∷ xs) (y ∷ ys) h =
    λ i. exact_text x y (both_first _ (same_lists xs ys) h) i ∷ exact_lists xs ys (both_second (same_text x y) _ h) i
exact_lists [] (y ∷ ys) h = absurd cc
exact_lists (x ∷ xs) [] h = absurd cc

pub lengths_uneven : (xs ys : List (List ℕ)) → length xs ≢ length ys → same_lengths xs ys ≡ false
lengths_uneven [] [] n = absurd (n refl)
lengths_uneven [] (y ∷ ys) n = refl
lengths_uneven (x ∷ xs) [] n = refl
lengths_uneven (x ∷ xs) (y ∷ ys) n = second_false (length x == length y) (same_lengths xs ys) (lengths_uneven xs ys (λ e. n (ap suc e)))
  where
    second_false : (a b : Bool) → b ≡ false → a && b ≡ false
    second_false true b h = h
    second_false false b h = refl

pub ruleset uneven = (lengths_uneven, lengths_uneven)

self_lengths : (xs : List (List ℕ)) → same_lengths xs xs ≡ true
self_lengths [] = refl
self_lengths (x ∷ xs) = both_true _ _ (eq-eqb (length x) (length x) refl) (self_lengths xs)

even_lengths : (xs ys : List (List ℕ)) → same_lengths xs ys ≡ true → length xs ≡ length ys
even_lengths [] [] h = refl
even_lengths (x ∷ xs) (y ∷ ys) h = ap suc (even_lengths xs ys (both_second (length x == length y) _ h))
even_lengths [] (y ∷ ys) h = absurd cc
even_lengths (x ∷ xs) [] h = absurd cc

-- bytes of the same length in front of bytes
same_front : (x y r s : List ℕ) → length x ≡ length y → x ++ r ≡ y ++ s → (x ≡ y) × (r ≡ s)
same_front x y r s l h = (
  sym (take-append_seam x r) ∙ ap₂ (λ (n : ℕ) (b : List ℕ). take n b) l h ∙ take-append_seam y s,
  sym (drop-append_seam x r) ∙ ap₂ (λ (n : ℕ) (b : List ℕ). drop n b) l h ∙ drop-append_seam y s,
)

block_long : (x y : List ℕ) → length x ≡ length y → length (block x) ≡ length (block y)
block_long x y l = length-append (big_endian 4 (length x)) x ∙ ap (λ n. 4 + n) l ∙ sym (length-append (big_endian 4 (length y)) y)

-- blocks that are as long, one by one, and have the same bytes together are the same
same_blocks : (xs ys : List (List ℕ)) → same_lengths xs ys ≡ true → flat_map block xs ≡ flat_map block ys → xs ≡ ys
same_blocks [] [] h e = refl
same_blocks (x ∷ xs) (y ∷ ys) h e =
    let l : length x ≡ length y = eqb-true (length x) (length y) (both_first _ (same_lengths xs ys) h) in
    let p = same_front (block x) (block y) (flat_map block xs) (flat_map block ys) (block_long x y l) e in
    let first : x ≡ y = (same_front (big_endian 4 (length x)) (big_endian 4 (length y)) x y refl p.0).1 in
    λ i. first i ∷ same_blocks xs ys (both_second (length x == length y) _ h) p.1 i
same_blocks [] (y ∷ ys) h e = absurd cc
same_blocks (x ∷ xs) [] h e = absurd cc

self_lists : (xs : List (List ℕ)) → same_lists xs xs ≡ true
self_lists [] = refl
self_lists (x ∷ xs) = both_true _ _ (self_text x) (self_lists xs)

module _ (executor : List ℕ) (args : Val (List ℕ)) (inputs : List (List ℕ)) (outputs : ℕ) (e : Entry) where
  -- the entry has this key
  pub record Has : Type 0 where
    pub executor_is : e.executor ≡ executor
    pub args_is : e.args ≡ args
    pub inputs_is : e.inputs ≡ inputs
    pub outputs_is : length e.made ≡ outputs

  pub has_exact : has_key executor args inputs outputs e ≡ true → Has
  has_exact h =
      let a = both_second (same_text e.executor executor) _ h in
      let b = both_second (same_val same_text e.args args) _ a in
      record {
        executor_is = exact_text e.executor executor (both_first (same_text e.executor executor) _ h);
        args_is = exact_val same_text exact_text e.args args (both_first (same_val same_text e.args args) _ a);
        inputs_is = exact_lists e.inputs inputs (both_first (same_lists e.inputs inputs) _ b);
        outputs_is = eqb-true (length e.made) outputs (both_second (same_lists e.inputs inputs) _ b);
      }

  pub has_bytes : has_key executor args inputs outputs e ≡ true → key_bytes e ≡ key_of executor args inputs outputs
  has_bytes h =
      let p = has_exact h in
      λ i. key_of (p.executor_is i) (p.args_is i) (p.inputs_is i) (p.outputs_is i)

-- the key of an entry is one that it has
self_has : (e : Entry) → has_key e.executor e.args e.inputs (length e.made) e ≡ true
self_has e =
    both_true _ _ (self_text e.executor) (both_true _ _ (self_val same_text self_text e.args) (both_true _ _ (self_lists e.inputs)
    (eq-eqb (length e.made) (length e.made) refl)))

pub same_has : (d e : Entry) → SameKey d e → has_key e.executor e.args e.inputs (length e.made) d ≡ true
same_has d e s =
    let go : has_key d.executor d.args d.inputs (length d.made) d ≡ has_key e.executor e.args e.inputs (length e.made) d =
    λ i. has_key (s.executor i) (s.args i) (s.inputs i) (s.outputs i) d in
    sym go ∙ self_has d

-- ---- a key whose bytes are known to be those of an entry

module _ (executor : List ℕ) (args : Val (List ℕ)) (inputs : List (List ℕ)) (outputs : ℕ) (e : Entry) where
  abbrev pub beside : Bool
  beside = same_text e.executor executor && (same_val same_text e.args args && length e.made == outputs)

  same_inputs : key_bytes e ≡ key_of executor args inputs outputs → same_lengths e.inputs inputs ≡ true → e.executor ≡ executor → e.args ≡ args
      → length e.made ≡ outputs → e.inputs ≡ inputs
  same_inputs h l x a n =
      let go : key_of executor args e.inputs outputs ≡ key_of executor args inputs outputs =
      (λ i. key_of (sym x i) (sym a i) e.inputs (sym n i)) ∙ h in
      let counts : big_endian 4 (length e.inputs) ++ flat_map block e.inputs ≡ big_endian 4 (length inputs) ++ flat_map block inputs =
      append_cancel_left (big_endian 4 outputs) _ _ (append_cancel_left (bytes args) _ _ (append_cancel_left (bytes_of_text executor) _ _ go)) in
      same_blocks e.inputs inputs l
      (same_front (big_endian 4 (length e.inputs)) (big_endian 4 (length inputs)) (flat_map block e.inputs) (flat_map block inputs) refl counts).1

  pub not_as_long : same_lengths e.inputs inputs ≡ false → has_key executor args inputs outputs e ≡ false
  not_as_long l = no (has_key executor args inputs outputs e) refl
    where
      no : (b : Bool) → has_key executor args inputs outputs e ≡ b → b ≡ false
      no false h = refl
      no true h =
          let p = has_exact executor args inputs outputs e h in
          let long : same_lengths e.inputs inputs ≡ true = ap (same_lengths e.inputs) (sym p.inputs_is) ∙ self_lengths e.inputs in
          absurd cc

  pub beside_has : key_bytes e ≡ key_of executor args inputs outputs → same_lengths e.inputs inputs ≡ true → beside ≡ has_key executor args inputs outputs e
  beside_has h l = both beside (has_key executor args inputs outputs e) there back
    where
      there : beside ≡ true → has_key executor args inputs outputs e ≡ true
      there b =
          let first = both_first (same_text e.executor executor) _ b in
          let rest = both_second (same_text e.executor executor) _ b in
          let second = both_first (same_val same_text e.args args) _ rest in
          let third = both_second (same_val same_text e.args args) _ rest in
          let same = same_inputs h l (exact_text e.executor executor first) (exact_val same_text exact_text e.args args second)
          (eqb-true (length e.made) outputs third) in
          both_true _ _ first (both_true _ _ second (both_true _ _ (ap (same_lists e.inputs) (sym same) ∙ self_lists e.inputs) third))

      back : has_key executor args inputs outputs e ≡ true → beside ≡ true
      back b =
          let rest = both_second (same_text e.executor executor) _ b in
          let last = both_second (same_val same_text e.args args) _ rest in
          both_true _ _ (both_first (same_text e.executor executor) _ b)
          (both_true _ _ (both_first (same_val same_text e.args args) _ rest) (both_second (same_lists e.inputs inputs) _ last))

      both : (a b : Bool) → (a ≡ true → b ≡ true) → (b ≡ true → a ≡ true) → a ≡ b
      both true b f g = sym (f refl)
      both false true f g = g refl
      both false false f g = refl
