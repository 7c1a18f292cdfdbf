-- Canonical bytes tell descriptions apart.
use Rattle.std.proofs.Common.{◌≡◌, ◌<◌, ◌^◌, ◌⊎◌, inl, inr, ℕ, List, [], ◌∷◌, ◌++◌, Bool, true, false, nat_eq, refl, ap, sym, ◌∙◌, append-nil, eq-eqb}
use Rattle.std.proofs.lemmas.Bool.{false≢true}
use Rattle.sky_base.specs.Val.{Val, Vals, Pairs, Desc, null, truth, num, text, list, dict, fun, ref, no_vals, val, no_pairs, pair, call, out, input}
use Rattle.sky_base.specs.Val.{known, count, pair_count, refs, vals_refs, pairs_refs, same_text}
use Rattle.sky_base.specs.See as see
use Rattle.sky_base.specs.Name.{bytes, vals_bytes, pairs_bytes, bytes_of_text, big_endian, is_anonymous, call_bytes, canon, low, low_vals, low_pairs}
use Rattle.sky_base.specs.Name.{low_desc, name, digested}
use Rattle.sky_base.proofs.Exact.{exact_text, self_text}
use Rattle.sky_base_law.specs.Tasks.{In}
use Rattle.sky_base_law.proofs.WorkLaw.{in_left, in_right}
use Rattle.sky_base_law.specs.NamesLaws.{Tag, NoClash, no_name}
use Rattle.ciel_name.specs.Spelled.{IsText, CapturesSo, Spelled, AllSpelled, PairsSpelled}
use Rattle.ciel_name.specs.Laws.{OneSpelling, OneCanon, SpelledDesc, inner, canon_of, ApartInSet, ApartByInner}
use Rattle.ciel_name.proofs.PrefixFreeBytes.{four_free, text_free, val_free, vals_free, pairs_free}

heads : (a b : ℕ) (r s : List ℕ) → nat_eq a b ≡ false → a ∷ r ≡ b ∷ s → ⊥
heads a b r s n e = let h : a ≡ b = cc in false≢true (sym n ∙ eq-eqb a b h)

tails : (a b : ℕ) (r s : List ℕ) → a ∷ r ≡ b ∷ s → r ≡ s
tails a b r s e = cc

pub one_spelling : OneSpelling
one_spelling a b p q e = (val_free a b [] [] p q (append-nil (bytes a) ∙ e ∙ sym (append-nil (bytes b)))).0

args_free : (vs ws : Vals (List ℕ)) → AllSpelled vs → AllSpelled ws → count vs < 2 ^ 32 → count ws < 2 ^ 32 → big_endian 4 (count vs)
    ++ vals_bytes vs ≡ big_endian 4 (count ws) ++ vals_bytes ws → vs ≡ ws
args_free vs ws p q h g e =
    let k = four_free (count vs) (count ws) (vals_bytes vs) (vals_bytes ws) h g e in
    (vals_free vs ws [] [] p q k.0 (append-nil (vals_bytes vs) ∙ k.1 ∙ sym (append-nil (vals_bytes ws)))).0

abbrev spelled_pairs : Pairs (List ℕ) → List ℕ
spelled_pairs c = big_endian 4 (pair_count c) ++ pairs_bytes c

abbrev spelled_vals : Vals (List ℕ) → List ℕ
spelled_vals vs = big_endian 4 (count vs) ++ vals_bytes vs

call_free : (a b : Bool) (f g : List ℕ) (c d : Pairs (List ℕ)) (vs ws : Vals (List ℕ)) → IsText f → IsText g → CapturesSo a c × PairsSpelled c
    → CapturesSo b d × PairsSpelled d → AllSpelled vs × (count vs < 2 ^ 32) → AllSpelled ws × (count ws < 2 ^ 32)
    → call_bytes a f (spelled_pairs c) (spelled_vals vs) ≡ call_bytes b g (spelled_pairs d) (spelled_vals ws) → call f c vs ≡ call g d ws
call_free false true f g c d vs ws p q r s t u e = absurd (heads 67 76 _ _ refl e)
call_free true false f g c d vs ws p q r s t u e = absurd (heads 76 67 _ _ refl e)
call_free false false f g c d vs ws p q r s t u e =
    let rest : bytes_of_text f ++ spelled_vals vs ≡ bytes_of_text g ++ spelled_vals ws = tails _ _ _ _ e in
    let x = text_free f g (spelled_vals vs) (spelled_vals ws) p q rest in
    let y : c ≡ d = r.0 ∙ sym s.0 in
    let z = args_free vs ws t.0 u.0 t.1 u.1 x.1 in
    λ i. call (x.0 i) (y i) (z i)
call_free true true f g c d vs ws p q r s t u e =
    let rest : bytes_of_text f ++ (spelled_pairs c ++ spelled_vals vs) ≡ bytes_of_text g ++ (spelled_pairs d ++ spelled_vals ws) = tails _ _ _ _ e in
    let x = text_free f g (spelled_pairs c ++ spelled_vals vs) (spelled_pairs d ++ spelled_vals ws) p q rest in
    let k = four_free (pair_count c) (pair_count d) (pairs_bytes c ++ spelled_vals vs) (pairs_bytes d ++ spelled_vals ws) r.0.1 s.0.1 x.1 in
    let y = pairs_free c d (spelled_vals vs) (spelled_vals ws) r.1 s.1 k.0 k.1 in
    let z = args_free vs ws t.0 u.0 t.1 u.1 y.1 in
    λ i. call (x.0 i) (y.0 i) (z i)

call_not : (k : ℕ) (a : Bool) (f c vs r : List ℕ) → nat_eq k 67 ≡ false → nat_eq k 76 ≡ false → call_bytes a f c vs ≡ k ∷ r → ⊥
call_not k false f c vs r h g e = heads k 67 r _ h (sym e)
call_not k true f c vs r h g e = heads k 76 r _ g (sym e)

pub one_canon : OneCanon
one_canon (call f c vs) (call g d ws) p q e =
    call_free (is_anonymous f) (is_anonymous g) f g c d vs ws p.0 q.0 p.1.0 q.1.0 p.1.1 q.1.1 e
one_canon (call f c vs) (out x v n i) p q e = absurd (call_not 69 (is_anonymous f) f (spelled_pairs c) (spelled_vals vs) _ refl refl e)
one_canon (call f c vs) (input k) p q e = absurd (call_not 73 (is_anonymous f) f (spelled_pairs c) (spelled_vals vs) _ refl refl e)
one_canon (call f c vs) (known n) p q e = absurd q
one_canon (out x v n i) (call g d ws) p q e = absurd (call_not 69 (is_anonymous g) g (spelled_pairs d) (spelled_vals ws) _ refl refl (sym e))
one_canon (out x v n i) (out y w m j) p q e =
    let rest : bytes_of_text x ++ (bytes v ++ (big_endian 4 n ++ big_endian 4 i)) ≡ bytes_of_text y
    ++ (bytes w ++ (big_endian 4 m ++ big_endian 4 j)) = tails _ _ _ _ e in
    let a = text_free x y (bytes v ++ (big_endian 4 n ++ big_endian 4 i)) (bytes w ++ (big_endian 4 m ++ big_endian 4 j)) p.0 q.0 rest in
    let b = val_free v w (big_endian 4 n ++ big_endian 4 i) (big_endian 4 m ++ big_endian 4 j) p.1.0 q.1.0 a.1 in
    let c = four_free n m (big_endian 4 i) (big_endian 4 j) p.1.1.0 q.1.1.0 b.1 in
    let d = four_free i j [] [] p.1.1.1 q.1.1.1 c.1 in
    λ k. out (a.0 k) (b.0 k) (c.0 k) (d.0 k)
one_canon (out x v n i) (input k) p q e = absurd (heads 69 73 _ _ refl e)
one_canon (out x v n i) (known m) p q e = absurd q
one_canon (input k) (call g d ws) p q e = absurd (call_not 73 (is_anonymous g) g (spelled_pairs d) (spelled_vals ws) _ refl refl (sym e))
one_canon (input k) (out y w m j) p q e = absurd (heads 73 69 _ _ refl e)
one_canon (input k) (input l) p q e =
    let rest : bytes_of_text k ≡ bytes_of_text l = tails _ _ _ _ e in
    ap input (text_free k l [] [] p q (append-nil (bytes_of_text k) ∙ rest ∙ sym (append-nil (bytes_of_text l)))).0
one_canon (input k) (known n) p q e = absurd q
one_canon (known n) e p q h = absurd p

-- ---- whole descriptions: what no two share the name of can be found by it

abbrev pick : Tag → Bool → see.Desc → see.Desc → see.Desc
pick tag true d e = d
pick tag false d e = e

-- the first of them that has this name
abbrev found : Tag → List see.Desc → List ℕ → see.Desc
found tag [] n = input []
found tag (d ∷ ds) n = pick tag (same_text (name no_name tag d) n) d (found tag ds n)

pick_is : (tag : Tag) (d e : see.Desc) (ds : List see.Desc) (b : Bool) → same_text (name no_name tag d) (name no_name tag e) ≡ b
    → (name no_name tag d ≡ name no_name tag e → d ≡ e) → (b ≡ false → found tag ds (name no_name tag e) ≡ e)
    → pick tag b d (found tag ds (name no_name tag e)) ≡ e
pick_is tag d e ds true h same go = same (exact_text (name no_name tag d) (name no_name tag e) h)
pick_is tag d e ds false h same go = go refl

found_is : (tag : Tag) (ds : List see.Desc) → NoClash tag ds → (e : see.Desc) → In e ds → found tag ds (name no_name tag e) ≡ e
found_is tag [] apart e h = absurd h
found_is tag (d ∷ ds) apart e (inl g) =
    pick_is tag d e ds (same_text (name no_name tag d) (name no_name tag e)) refl (λ n. sym g)
    (λ no. absurd (false≢true (sym no ∙ ap (λ x. same_text (name no_name tag d) (name no_name tag x)) g ∙ self_text (name no_name tag d))))
found_is tag (d ∷ ds) apart e (inr g) =
    pick_is tag d e ds (same_text (name no_name tag d) (name no_name tag e)) refl (apart d e (inl refl) (inr g))
    (λ no. found_is tag ds (λ a b x y. apart a b (inr x) (inr y)) e g)

-- names taken back for the descriptions that have them
module _ (tag : Tag) (ds : List see.Desc) where
  abbrev raise_name : Desc (List ℕ) → see.Desc
  raise_name (known n) = found tag ds n
  raise_name (call f c vs) = input []
  raise_name (out x v n i) = input []
  raise_name (input k) = input []

  abbrev mutual
    raise : Val (List ℕ) → see.Val
    raise null = null
    raise (truth b) = truth b
    raise (num z) = num z
    raise (text t) = text t
    raise (list vs) = list (raise_vals vs)
    raise (dict ps) = dict (raise_pairs ps)
    raise (fun f c) = fun f (raise_pairs c)
    raise (ref d) = ref (raise_name d)

    raise_vals : Vals (List ℕ) → see.Vals
    raise_vals no_vals = no_vals
    raise_vals (val v vs) = val (raise v) (raise_vals vs)

    raise_pairs : Pairs (List ℕ) → see.Pairs
    raise_pairs no_pairs = no_pairs
    raise_pairs (pair k v ps) = pair k (raise v) (raise_pairs ps)

  abbrev raise_desc : Desc (List ℕ) → see.Desc
  raise_desc (call f c vs) = call f (raise_pairs c) (raise_vals vs)
  raise_desc (out x v n i) = out x (raise v) n i
  raise_desc (input k) = input k
  raise_desc (known n) = input []

  abbrev Among : List see.Desc → Type 0
  Among es = (e : see.Desc) → In e es → In e ds

  mutual
    raise_low : NoClash tag ds → (v : see.Val) → Among (refs v) → raise (low no_name tag v) ≡ v
    raise_low apart null h = refl
    raise_low apart (truth b) h = refl
    raise_low apart (num z) h = refl
    raise_low apart (text t) h = refl
    raise_low apart (list vs) h = ap list (raise_vals_low apart vs h)
    raise_low apart (dict ps) h = ap dict (raise_pairs_low apart ps h)
    raise_low apart (fun f c) h = ap (fun f) (raise_pairs_low apart c h)
    raise_low apart (ref d) h = ap ref (found_is tag ds apart d (h d (inl refl)))

    raise_vals_low : NoClash tag ds → (vs : see.Vals) → Among (vals_refs vs) → raise_vals (low_vals no_name tag vs) ≡ vs
    raise_vals_low apart no_vals h = refl
    raise_vals_low apart (val v vs) h =
        λ i. val (raise_low apart v (λ e g. h e (in_left e (refs v) (vals_refs vs) g)) i)
        (raise_vals_low apart vs (λ e g. h e (in_right e (refs v) (vals_refs vs) g)) i)

    raise_pairs_low : NoClash tag ds → (ps : see.Pairs) → Among (pairs_refs ps) → raise_pairs (low_pairs no_name tag ps) ≡ ps
    raise_pairs_low apart no_pairs h = refl
    raise_pairs_low apart (pair k v ps) h =
        λ i. pair k (raise_low apart v (λ e g. h e (in_left e (refs v) (pairs_refs ps) g)) i)
        (raise_pairs_low apart ps (λ e g. h e (in_right e (refs v) (pairs_refs ps) g)) i)

  raise_desc_low : NoClash tag ds → (d : see.Desc) → Among (inner d) → raise_desc (low_desc no_name tag d) ≡ d
  raise_desc_low apart (call f c vs) h =
      λ i. call f (raise_pairs_low apart c (λ e g. h e (in_left e (pairs_refs c) (vals_refs vs) g)) i)
      (raise_vals_low apart vs (λ e g. h e (in_right e (pairs_refs c) (vals_refs vs) g)) i)
  raise_desc_low apart (out x v n i) h = ap (λ w. out x w n i) (raise_low apart v h)
  raise_desc_low apart (input k) h = refl
  raise_desc_low apart (known b) h = absurd b

pub apart_by_inner : ApartByInner
apart_by_inner tag d e apart p q h =
    let ds = inner d ++ inner e in
    sym (raise_desc_low tag ds apart d (λ c g. in_left c (inner d) (inner e) g))
    ∙ ap (raise_desc tag ds) (one_canon (low_desc no_name tag d) (low_desc no_name tag e) p q h)
    ∙ raise_desc_low tag ds apart e (λ c g. in_right c (inner d) (inner e) g)

name_is : (digest : List ℕ → List ℕ) (d : see.Desc) → name no_name (digested digest) d ≡ digest (canon_of (digested digest) d)
name_is digest (call f c vs) = refl
name_is digest (out x v n i) = refl
name_is digest (input k) = refl
name_is digest (known b) = absurd b

pub apart_in_set : ApartInSet
apart_in_set digest ds holds apart d e p q h =
    apart d e p q (name_is digest d ∙ ap digest h ∙ sym (name_is digest e))
