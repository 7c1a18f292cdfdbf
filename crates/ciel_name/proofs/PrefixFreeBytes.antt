-- No value's bytes begin another's: where two values stand in front of the same bytes, they are one, and so is what is left.
use Rattle.std.proofs.Common.{◌≡◌, ◌+◌, ◌<◌, ◌^◌, ◌⊎◌, inl, inr, ℕ, zero, suc, ℤ, pos, negsuc, List, [], ◌∷◌, ◌++◌, Bool, true, false, nat_eq, length}
use Rattle.std.proofs.Common.{refl, ap, sym, ◌∙◌, subst, arith, append_assoc, FitsSigned, IsUtf8}
use Rattle.std.proofs.lemmas.Nat.{from_be_bytes-to_be_bytes_4, from_be_bytes-to_be_bytes_8}
use Rattle.std.proofs.lemmas.Int.{to_z-of_z}
use Rattle.std.proofs.Math.Facts.{Fits-of_z, Fits-lt-pow}
use Rattle.std.specs.Int.{w32, w64, to_be_bytes, from_be_bytes, cast_signed, cast_unsigned}
use Rattle.sky_base.specs.Val.{Val, Vals, Pairs, Desc, null, truth, num, text, list, dict, fun, ref, no_vals, val, no_pairs, pair, call, out, input}
use Rattle.sky_base.specs.Val.{known, count, pair_count}
use Rattle.sky_base.specs.Name.{bytes, vals_bytes, pairs_bytes, bytes_of_int, bytes_of_text, big_endian, is_anonymous, held_name}
use Rattle.ciel_name.specs.Spelled.{IsText, IsName, CapturesSo, Spelled, AllSpelled, PairsSpelled}
use Rattle.ciel_name.proofs.Numbers.{be_bytes_32, be_bytes_int}
use Rattle.ciel_name.specs.Bodies.{tag, fun_tag, ref_tag, body, fun_body, is_short}
use Rattle.ciel_name.proofs.Tags.{bytes-is, when_null, when_truth_false, when_truth_true, when_num, when_text, when_list, when_dict, when_named}
use Rattle.ciel_name.proofs.Tags.{when_anonymous, when_short_ref, when_long_ref}

abbrev Same : {A : Type 0} → A → A → List ℕ → List ℕ → Type 0
Same a b r s = (a ≡ b) × (r ≡ s)

-- lists that are as long
pub split_same : (a b r s : List ℕ) → length a ≡ length b → a ++ r ≡ b ++ s → Same a b r s
split_same [] [] r s l e = (refl, e)
split_same [] (y ∷ b) r s l e = absurd cc
split_same (x ∷ a) [] r s l e = absurd cc
split_same (x ∷ a) (y ∷ b) r s l e =
    let h : x ≡ y = cc in
    let g : a ++ r ≡ b ++ s = cc in
    let m : length a ≡ length b = cc in
    let t = split_same a b r s m g in
    ((λ i. h i ∷ t.0 i), t.1)

four_back : (n : ℕ) → n < 2 ^ 32 → from_be_bytes w32 (big_endian 4 n) ≡ n
four_back n h = ap (from_be_bytes w32) (sym (be_bytes_32 n)) ∙ from_be_bytes-to_be_bytes_4 n h

pub four_free : (m n : ℕ) (r s : List ℕ) → m < 2 ^ 32 → n < 2 ^ 32 → big_endian 4 m ++ r ≡ big_endian 4 n ++ s → Same m n r s
four_free m n r s h g e =
    let t = split_same (big_endian 4 m) (big_endian 4 n) r s refl e in
    (sym (four_back m h) ∙ ap (from_be_bytes w32) t.0 ∙ four_back n g, t.1)

pub length-int : (z : ℤ) → length (bytes_of_int z) ≡ 8
length-int (pos n) = refl
length-int (negsuc n) = refl

int_back : (z : ℤ) → FitsSigned w64 z → cast_signed w64 (from_be_bytes w64 (bytes_of_int z)) ≡ z
int_back z f =
    ap (λ b. cast_signed w64 (from_be_bytes w64 b)) (sym (be_bytes_int z))
    ∙ ap (cast_signed w64) (from_be_bytes-to_be_bytes_8 (cast_unsigned w64 z) (Fits-lt-pow (Fits-of_z f)))
    ∙ to_z-of_z w64 z f

pub int_free : (y z : ℤ) (r s : List ℕ) → FitsSigned w64 y → FitsSigned w64 z → bytes_of_int y ++ r ≡ bytes_of_int z ++ s → Same y z r s
int_free y z r s h g e =
    let t = split_same (bytes_of_int y) (bytes_of_int z) r s (length-int y ∙ sym (length-int z)) e in
    (sym (int_back y h) ∙ ap (λ b. cast_signed w64 (from_be_bytes w64 b)) t.0 ∙ int_back z g, t.1)

pub text_free : (t u r s : List ℕ) → IsText t → IsText u → bytes_of_text t ++ r ≡ bytes_of_text u ++ s → Same t u r s
text_free t u r s h g e =
    let l = four_free (length t) (length u) (t ++ r) (u ++ s) h.1 g.1 e in split_same t u r s l.0 l.1

-- ---- names

short_length : (n : List ℕ) → (length n ≡ 20) ⊎ (length n ≡ 32) → nat_eq (length n) 20 ≡ true → length n ≡ 20
short_length n (inl e) h = e
short_length n (inr e) h = let g : nat_eq 32 20 ≡ true = ap (λ k. nat_eq k 20) (sym e) ∙ h in absurd cc

long_length : (n : List ℕ) → (length n ≡ 20) ⊎ (length n ≡ 32) → nat_eq (length n) 20 ≡ false → length n ≡ 32
long_length n (inl e) h = let g : nat_eq 20 20 ≡ false = ap (λ k. nat_eq k 20) (sym e) ∙ h in absurd cc
long_length n (inr e) h = e

pub short_name : (d : Desc (List ℕ)) → IsName d → is_short d ≡ true → length (held_name d) ≡ 20
short_name (known n) p h = short_length n p h
short_name (call f c vs) p h = absurd p
short_name (out x v n i) p h = absurd p
short_name (input k) p h = absurd p

pub long_name : (d : Desc (List ℕ)) → IsName d → is_short d ≡ false → length (held_name d) ≡ 32
long_name (known n) p h = long_length n p h
long_name (call f c vs) p h = absurd p
long_name (out x v n i) p h = absurd p
long_name (input k) p h = absurd p

pub held_known : (d : Desc (List ℕ)) → IsName d → d ≡ known (held_name d)
held_known (known n) p = refl
held_known (call f c vs) p = absurd p
held_known (out x v n i) p = absurd p
held_known (input k) p = absurd p

pub name_free : (d e : Desc (List ℕ)) (r s : List ℕ) → IsName d → IsName e → length (held_name d) ≡ length (held_name e) → held_name d ++ r
    ≡ held_name e ++ s → Same d e r s
name_free d e r s p q l h =
    let t = split_same (held_name d) (held_name e) r s l h in
    (held_known d p ∙ ap known t.0 ∙ sym (held_known e q), t.1)

-- ---- values

tags : (v w : Val (List ℕ)) (r s : List ℕ) → bytes v ++ r ≡ bytes w ++ s → tag v ∷ (body v ++ r) ≡ tag w ∷ (body w ++ s)
tags v w r s e = ap (λ b. b ++ r) (sym (bytes-is v)) ∙ e ∙ ap (λ b. b ++ s) (bytes-is w)

pub tag_same : (v w : Val (List ℕ)) (r s : List ℕ) → bytes v ++ r ≡ bytes w ++ s → tag w ≡ tag v
tag_same v w r s e = let h = tags v w r s e in cc

pub body_same : (v w u : Val (List ℕ)) (r s : List ℕ) → bytes v ++ r ≡ bytes w ++ s → w ≡ u → body v ++ r ≡ body u ++ s
body_same v w u r s e h = let g = tags v w r s e in let k : body v ++ r ≡ body w ++ s = cc in k ∙ ap (λ x. body x ++ s) h

pub fun_body_is : (f : List ℕ) (c : Pairs (List ℕ)) (b : Bool) → is_anonymous f ≡ b → body (fun f c) ≡ fun_body b f c
fun_body_is f c b e = ap (λ a. fun_body a f c) e

pub captures : (f : List ℕ) (c : Pairs (List ℕ)) (b : Bool) → is_anonymous f ≡ b → Spelled (fun f c) → CapturesSo b c
captures f c b e p = subst (λ a. CapturesSo a c) e p.1.0

list_bytes : (k : List ℕ) (r s : List ℕ) → (k ++ r) ++ s ≡ k ++ (r ++ s)
list_bytes k r s = append_assoc k r s

pub pair_bytes : (k a b r : List ℕ) → (k ++ (a ++ b)) ++ r ≡ k ++ (a ++ (b ++ r))
pair_bytes k a b r = append_assoc k (a ++ b) r ∙ ap (λ x. k ++ x) (append_assoc a b r)

abbrev FreeOf : Pairs (List ℕ) → Type 0
FreeOf c = (d : Pairs (List ℕ)) (r s : List ℕ) → PairsSpelled c → PairsSpelled d → pair_count c ≡ pair_count d → pairs_bytes c ++ r
    ≡ pairs_bytes d ++ s → Same c d r s

fun_free : (f : List ℕ) (c : Pairs (List ℕ)) (w : Val (List ℕ)) (r s : List ℕ) → Spelled (fun f c) → Spelled w → bytes (fun f c) ++ r ≡ bytes w
    ++ s → FreeOf c → (b : Bool) → is_anonymous f ≡ b → Same (fun f c) w r s
fun_free f c w r s p q e again false h = when_named w (tag_same (fun f c) w r s e ∙ ap fun_tag h) (λ g d k j.
    let qs : Spelled (fun g d) = subst Spelled k q in
    let same = ap (λ x. x ++ r) (sym (fun_body_is f c false h)) ∙ body_same (fun f c) w (fun g d) r s e k
    ∙ ap (λ x. x ++ s) (fun_body_is g d false j) in
    let t = text_free f g r s p.0 qs.0 same in
    let none : c ≡ d = captures f c false h p ∙ sym (captures g d false j qs) in
    ((λ i. fun (t.0 i) (none i)) ∙ sym k, t.1))
fun_free f c w r s p q e again true h = when_anonymous w (tag_same (fun f c) w r s e ∙ ap fun_tag h) (λ g d k j.
    let qs : Spelled (fun g d) = subst Spelled k q in
    let same = ap (λ x. x ++ r) (sym (fun_body_is f c true h)) ∙ body_same (fun f c) w (fun g d) r s e k
    ∙ ap (λ x. x ++ s) (fun_body_is g d true j) in
    let cut =
    sym (pair_bytes (bytes_of_text f) (big_endian 4 (pair_count c)) (pairs_bytes c) r)
    ∙ same
    ∙ pair_bytes (bytes_of_text g) (big_endian 4 (pair_count d)) (pairs_bytes d) s in
    let t = text_free f g (big_endian 4 (pair_count c) ++ (pairs_bytes c ++ r)) (big_endian 4 (pair_count d) ++ (pairs_bytes d ++ s)) p.0 qs.0 cut in
    let n = four_free (pair_count c) (pair_count d) (pairs_bytes c ++ r) (pairs_bytes d ++ s) (captures f c true h p).1
    (captures g d true j qs).1 t.1 in
    let a = again d r s p.1.1 qs.1.1 n.0 n.1 in
    ((λ i. fun (t.0 i) (a.0 i)) ∙ sym k, a.1))

ref_free : (d : Desc (List ℕ)) (w : Val (List ℕ)) (r s : List ℕ) → Spelled (ref d) → Spelled w → bytes (ref d) ++ r ≡ bytes w ++ s → (b : Bool)
    → is_short d ≡ b → Same (ref d) w r s
ref_free d w r s p q e true h = when_short_ref w (tag_same (ref d) w r s e ∙ ap ref_tag h) (λ x k j.
    let g : IsName x = subst Spelled k q in
    let t = name_free d x r s p g (short_name d p h ∙ sym (short_name x g j)) (body_same (ref d) w (ref x) r s e k) in
    (ap ref t.0 ∙ sym k, t.1))
ref_free d w r s p q e false h = when_long_ref w (tag_same (ref d) w r s e ∙ ap ref_tag h) (λ x k j.
    let g : IsName x = subst Spelled k q in
    let t = name_free d x r s p g (long_name d p h ∙ sym (long_name x g j)) (body_same (ref d) w (ref x) r s e k) in
    (ap ref t.0 ∙ sym k, t.1))

mutual
  pub val_free : (v w : Val (List ℕ)) (r s : List ℕ) → Spelled v → Spelled w → bytes v ++ r ≡ bytes w ++ s → Same v w r s
  val_free null w r s p q e = when_null w (tag_same null w r s e) (λ h. (sym h, body_same null w null r s e h))
  val_free (truth false) w r s p q e =
      when_truth_false w (tag_same (truth false) w r s e) (λ h. (sym h, body_same (truth false) w (truth false) r s e h))
  val_free (truth true) w r s p q e =
      when_truth_true w (tag_same (truth true) w r s e) (λ h. (sym h, body_same (truth true) w (truth true) r s e h))
  val_free (num z) w r s p q e = when_num w (tag_same (num z) w r s e) (λ y h.
      let t = int_free z y r s p (subst Spelled h q) (body_same (num z) w (num y) r s e h) in (ap num t.0 ∙ sym h, t.1))
  val_free (text u) w r s p q e = when_text w (tag_same (text u) w r s e) (λ y h.
      let t = text_free u y r s p (subst Spelled h q) (body_same (text u) w (text y) r s e h) in (ap text t.0 ∙ sym h, t.1))
  val_free (list vs) w r s p q e = when_list w (tag_same (list vs) w r s e) (λ ws h.
      let g : Spelled (list ws) = subst Spelled h q in
      let k = four_free (count vs) (count ws) (vals_bytes vs ++ r) (vals_bytes ws ++ s) p.1 g.1 (body_same (list vs) w (list ws) r s e h) in
      let t = vals_free vs ws r s p.0 g.0 k.0 k.1 in
      (ap list t.0 ∙ sym h, t.1))
  val_free (dict ps) w r s p q e = when_dict w (tag_same (dict ps) w r s e) (λ qs h.
      let g : Spelled (dict qs) = subst Spelled h q in
      let k = four_free (pair_count ps) (pair_count qs) (pairs_bytes ps ++ r) (pairs_bytes qs ++ s) p.1.1 g.1.1
      (body_same (dict ps) w (dict qs) r s e h) in
      let t = pairs_free ps qs r s p.0 g.0 k.0 k.1 in
      (ap dict t.0 ∙ sym h, t.1))
  val_free (fun f c) w r s p q e =
      fun_free f c w r s p q e (λ d r s p q k e. pairs_free c d r s p q k e) (is_anonymous f) refl
  val_free (ref d) w r s p q e = ref_free d w r s p q e (is_short d) refl

  pub vals_free : (vs ws : Vals (List ℕ)) (r s : List ℕ) → AllSpelled vs → AllSpelled ws → count vs ≡ count ws → vals_bytes vs ++ r
      ≡ vals_bytes ws ++ s → Same vs ws r s
  vals_free no_vals no_vals r s p q c e = (refl, e)
  vals_free no_vals (val w ws) r s p q c e = absurd cc
  vals_free (val v vs) no_vals r s p q c e = absurd cc
  vals_free (val v vs) (val w ws) r s p q c e =
      let g = sym (append_assoc (bytes v) (vals_bytes vs) r) ∙ e ∙ append_assoc (bytes w) (vals_bytes ws) s in
      let h = val_free v w (vals_bytes vs ++ r) (vals_bytes ws ++ s) p.0 q.0 g in
      let m : count vs ≡ count ws = cc in
      let t = vals_free vs ws r s p.1 q.1 m h.1 in
      ((λ i. val (h.0 i) (t.0 i)), t.1)

  pub pairs_free : (ps qs : Pairs (List ℕ)) (r s : List ℕ) → PairsSpelled ps → PairsSpelled qs → pair_count ps ≡ pair_count qs → pairs_bytes ps
      ++ r ≡ pairs_bytes qs ++ s → Same ps qs r s
  pairs_free no_pairs no_pairs r s p q c e = (refl, e)
  pairs_free no_pairs (pair l w qs) r s p q c e = absurd cc
  pairs_free (pair k v ps) no_pairs r s p q c e = absurd cc
  pairs_free (pair k v ps) (pair l w qs) r s p q c e =
      let g = sym (pair_bytes (bytes_of_text k) (bytes v) (pairs_bytes ps) r) ∙ e ∙ pair_bytes (bytes_of_text l) (bytes w) (pairs_bytes qs) s in
      let j = text_free k l (bytes v ++ (pairs_bytes ps ++ r)) (bytes w ++ (pairs_bytes qs ++ s)) p.0 q.0 g in
      let h = val_free v w (pairs_bytes ps ++ r) (pairs_bytes qs ++ s) p.1.0 q.1.0 j.1 in
      let m : pair_count ps ≡ pair_count qs = cc in
      let t = pairs_free ps qs r s p.1.1 q.1.1 m h.1 in
      ((λ i. pair (j.0 i) (h.0 i) (t.0 i)), t.1)
