-- What was read, and what can't be read, step by step.
use Rattle.std.proofs.Common.{◌≡◌, ◌≤◌, ◌<◌, ◌+◌, ◌-◌, ◌^◌, max, ℕ, zero, suc, ℤ, List, [], ◌∷◌, ◌++◌, Bool, true, false, nat_eq, length, refl, ap}
use Rattle.std.proofs.Common.{ap₂, sym, ◌∙◌, subst, arith, append_assoc, length-append, append-nil, FitsSigned, IsUtf8, ◌⊎◌, inl, inr}
use Rattle.sky_base.specs.Val.{Val, Vals, Pairs, Desc, null, truth, num, text, list, dict, fun, ref, no_vals, val, no_pairs, pair, known, count}
use Rattle.sky_base.specs.Val.{pair_count, depth, depths, pair_depths, add_val, Rising, most_depth, most_size, size}
use Rattle.sky_base.specs.Name.{bytes, vals_bytes, pairs_bytes, bytes_of_int, bytes_of_text, big_endian, is_anonymous, held_name}
use Rattle.ciel_name.specs.declared.refusal.Decode.{Decode}
use Rattle.ciel_name.specs.Spelled.{IsText, IsName, CapturesSo, Spelled, AllSpelled, PairsSpelled, Refuses, Read, NoneRead, TextRead, NoTextRead}
use Rattle.ciel_name.specs.Spelled.{IsData, NoData, NoTextWithin}
use Rattle.ciel_name.specs.Bodies.{tag, fun_tag, ref_tag, body, is_short, BodyRead, NoBody, ItemsRead, NoItems, PairsRead, NoPairs}
use Rattle.ciel_name.proofs.Tags.{bytes-is, when_num, when_text, when_list, when_dict, when_named, when_anonymous, when_short_ref, when_long_ref}
use Rattle.ciel_name.proofs.PrefixFreeBytes.{four_free, length-int, text_free, short_name, long_name, val_free, split_same, fun_body_is, captures}
use Rattle.ciel_name.proofs.PrefixFreeBytes.{pair_bytes}

pub refuses_more : {P Q : Type 0} (e : Decode) → (P → Q) → Refuses e P → Refuses e Q
refuses_more Decode.Memory f p = tt
refuses_more Decode.NotValue f p = f p

too_short : (n : ℕ) (old a rest : List ℕ) → length old < n → length a ≡ n → old ≡ a ++ rest → ⊥
too_short n old a rest h l e = let m : length old ≡ length a + length rest = ap length e ∙ length-append a rest in absurd (omega (arith, m, l, h))

-- ---- texts

pub text_short : (most : ℕ) (old : List ℕ) → length old < 4 → NoTextWithin most old
text_short most old h t rest p z e = too_short 4 old (big_endian 4 (length t)) (t ++ rest) h refl e

pub text_long : (most : ℕ) (old mid : List ℕ) (n : ℕ) → old ≡ big_endian 4 n ++ mid → n < 2 ^ 32 → most < n → NoTextWithin most old
text_long most old mid n e f h t rest p z g =
    let k = four_free n (length t) mid (t ++ rest) f p.1 (sym e ∙ g) in absurd (omega (arith, h, z, k.0))

-- no text at all, as its length has 32 bits
pub text_any : (most : ℕ) (old : List ℕ) → 2 ^ 32 ≤ most → NoTextWithin most old → NoTextRead old
text_any most old h n t rest p e = n t rest p (omega (arith, h, p.1)) e

pub text_cut : (most : ℕ) (old mid : List ℕ) (n : ℕ) → old ≡ big_endian 4 n ++ mid → n < 2 ^ 32 → length mid < n → NoTextWithin most old
text_cut most old mid n e f h t rest p z g =
    let k = four_free n (length t) mid (t ++ rest) f p.1 (sym e ∙ g) in too_short n mid t rest h (sym k.0) k.1

pub text_bad : (most : ℕ) (old s new : List ℕ) (n : ℕ) → old ≡ big_endian 4 n ++ (s ++ new) → n < 2 ^ 32 → length s ≡ n → (IsUtf8 s → ⊥)
    → NoTextWithin most old
text_bad most old s new n e f l bad t rest p z g =
    let k = four_free n (length t) (s ++ new) (t ++ rest) f p.1 (sym e ∙ g) in
    let same = split_same s t new rest (l ∙ k.0) k.1 in
    bad (subst IsUtf8 (sym same.0) p.0)

pub text_read : (old s new : List ℕ) (n : ℕ) → old ≡ big_endian 4 n ++ (s ++ new) → n < 2 ^ 32 → length s ≡ n → IsUtf8 s → TextRead old s new
text_read old s new n e f l u =
    (e ∙ ap (λ m. big_endian 4 m ++ (s ++ new)) (sym l), (u, subst (λ m. m < 2 ^ 32) (sym l) f))

-- ---- a value by its first byte

pub read_is : (k left : ℕ) (old mid : List ℕ) (v : Val (List ℕ)) (new : List ℕ) → old ≡ k ∷ mid → BodyRead k left mid v new → Read left old v new
read_is k left old mid v new e p =
    (e ∙ ap₂ (λ a b. a ∷ b) (sym p.0) p.1.0 ∙ ap (λ b. b ++ new) (sym (bytes-is v)), p.1.1)

pub none_is : (k left room : ℕ) (old mid : List ℕ) → old ≡ k ∷ mid → NoBody k left room mid → NoneRead left room old
none_is k left room old mid e n v rest s d z h =
    let g : k ∷ mid ≡ tag v ∷ (body v ++ rest) = sym e ∙ h ∙ ap (λ b. b ++ rest) (bytes-is v) in
    let t : tag v ≡ k = cc in
    let m : mid ≡ body v ++ rest = cc in
    n v rest s d z t m

pub none_empty : (left room : ℕ) (old : List ℕ) → old ≡ [] → NoneRead left room old
none_empty left room old e v rest s d z h =
    let g : [] ≡ tag v ∷ (body v ++ rest) = sym e ∙ h ∙ ap (λ b. b ++ rest) (bytes-is v) in absurd cc

depth_pos : (v : Val (List ℕ)) → 0 < depth v
depth_pos null = omega arith
depth_pos (truth b) = omega arith
depth_pos (num z) = omega arith
depth_pos (text t) = omega arith
depth_pos (list vs) = omega arith
depth_pos (dict ps) = omega arith
depth_pos (fun f c) = omega arith
depth_pos (ref d) = omega arith

pub none_deep : (left room : ℕ) (old : List ℕ) → left ≡ 0 → NoneRead left room old
none_deep left room old e v rest s d z h = absurd (omega (arith, depth_pos v, d, e))

size_pos : (v : Val (List ℕ)) → 0 < size v
size_pos null = omega arith
size_pos (truth b) = omega arith
size_pos (num z) = omega arith
size_pos (text t) = omega arith
size_pos (list vs) = omega arith
size_pos (dict ps) = omega arith
size_pos (fun f c) = omega arith
size_pos (ref d) = omega arith

pub none_small : (left room : ℕ) (old : List ℕ) → room ≡ 0 → NoneRead left room old
none_small left room old e v rest s d z h = absurd (omega (arith, size_pos v, z, e))

-- where a larger value stands in front, none that is small enough does
pub none_large : (left room : ℕ) (old : List ℕ) (v : Val (List ℕ)) (new : List ℕ) → Read left old v new → room < size v → NoneRead left room old
none_large left room old v new r h w rest s d z e =
    let same = val_free v w new rest r.1.0 s (sym r.0 ∙ e) in
    let small : size v ≤ room = subst (λ x. size x ≤ room) (sym same.0) z in
    absurd (omega (arith, h, small))

fun_tag-at : (b : Bool) (k : ℕ) → fun_tag b ≡ k → (7 ≡ k) ⊎ (10 ≡ k)
fun_tag-at false k e = inl e
fun_tag-at true k e = inr e

ref_tag-at : (b : Bool) (k : ℕ) → ref_tag b ≡ k → (8 ≡ k) ⊎ (9 ≡ k)
ref_tag-at true k e = inl e
ref_tag-at false k e = inr e

-- no kind has another first byte
pub tag_small : (v : Val (List ℕ)) → tag v ≤ 10
tag_small null = omega arith
tag_small (truth false) = omega arith
tag_small (truth true) = omega arith
tag_small (num z) = omega arith
tag_small (text t) = omega arith
tag_small (list vs) = omega arith
tag_small (dict ps) = omega arith
tag_small (fun f c) = elim (fun_tag-at (is_anonymous f) (fun_tag (is_anonymous f)) refl) [
  | inl e ↦ omega (arith, e)
  | inr e ↦ omega (arith, e)
]
tag_small (ref d) = elim (ref_tag-at (is_short d) (ref_tag (is_short d)) refl) [
  | inl e ↦ omega (arith, e)
  | inr e ↦ omega (arith, e)
]

pub none_kind : (k left room : ℕ) (mid : List ℕ) → 10 < k → NoBody k left room mid
none_kind k left room mid h v rest s d z t m = absurd (omega (arith, tag_small v, t, h))

-- ---- the content, kind by kind

pub int_none : (left room : ℕ) (mid : List ℕ) → length mid < 8 → NoBody 3 left room mid
int_none left room mid h v rest s d z t m =
    when_num v t (λ y g. too_short 8 mid (bytes_of_int y) rest h (length-int y) (m ∙ ap (λ x. body x ++ rest) g))

pub text_none : (left room most : ℕ) (mid : List ℕ) → room ≡ suc most → NoTextWithin most mid → NoBody 4 left room mid
text_none left room most mid o n v rest s d z t m = when_text v t (λ u g.
    let sz : size {N = List ℕ} (text u) ≤ room = subst (λ x. size x ≤ room) g z in
    n u rest (subst Spelled g s) (omega (arith, sz, o)) (m ∙ ap (λ x. body x ++ rest) g))

pub list_short : (left room : ℕ) (mid : List ℕ) → length mid < 4 → NoBody 5 left room mid
list_short left room mid h v rest s d z t m =
    when_list v t (λ vs g. too_short 4 mid (big_endian 4 (count vs)) (vals_bytes vs ++ rest) h refl (m ∙ ap (λ x. body x ++ rest) g))

pub list_none : (left below room most n : ℕ) (mid inner : List ℕ) → mid ≡ big_endian 4 n ++ inner → n < 2 ^ 32 → left ≡ suc below
    → room ≡ suc most → NoItems n below most inner → NoBody 5 left room mid
list_none left below room most n mid inner e f l o none v rest s d z t m = when_list v t (λ vs g.
    let sp : Spelled (list vs) = subst Spelled g s in
    let dp : depth (list vs) ≤ left = subst (λ x. depth x ≤ left) g d in
    let sz : size (list vs) ≤ room = subst (λ x. size x ≤ room) g z in
    let k = four_free n (count vs) inner (vals_bytes vs ++ rest) f sp.1 (sym e ∙ m ∙ ap (λ x. body x ++ rest) g) in
    none vs rest sp.0 (omega (arith, dp, l)) (omega (arith, sz, o)) (sym k.0) k.1)

pub list_read : (left below n : ℕ) (mid inner : List ℕ) (vs : Vals (List ℕ)) (new : List ℕ) → mid ≡ big_endian 4 n ++ inner → n < 2 ^ 32 → left
    ≡ suc below → ItemsRead n below inner vs new → BodyRead 5 left mid (list vs) new
list_read left below n mid inner vs new e f l p =
    let counted : count vs ≡ n = p.1.1.1 in
    (refl, (e ∙ ap₂ (λ k b. big_endian 4 k ++ b) (sym counted) p.0, ((p.1.0, subst (λ k. k < 2 ^ 32) (sym counted) f), omega (arith, p.1.1.0, l))))

pub dict_short : (left room : ℕ) (mid : List ℕ) → length mid < 4 → NoBody 6 left room mid
dict_short left room mid h v rest s d z t m =
    when_dict v t (λ ps g. too_short 4 mid (big_endian 4 (pair_count ps)) (pairs_bytes ps ++ rest) h refl (m ∙ ap (λ x. body x ++ rest) g))

pub dict_none : (left below room most n : ℕ) (mid inner : List ℕ) → mid ≡ big_endian 4 n ++ inner → n < 2 ^ 32 → left ≡ suc below
    → room ≡ suc most → NoPairs n below most inner → NoBody 6 left room mid
dict_none left below room most n mid inner e f l o none v rest s d z t m = when_dict v t (λ ps g.
    let sp : Spelled (dict ps) = subst Spelled g s in
    let dp : depth (dict ps) ≤ left = subst (λ x. depth x ≤ left) g d in
    let sz : size (dict ps) ≤ room = subst (λ x. size x ≤ room) g z in
    let k = four_free n (pair_count ps) inner (pairs_bytes ps ++ rest) f sp.1.1 (sym e ∙ m ∙ ap (λ x. body x ++ rest) g) in
    none ps rest sp.0 sp.1.0 (omega (arith, dp, l)) (omega (arith, sz, o)) (sym k.0) k.1)

pub dict_read : (left below n : ℕ) (mid inner : List ℕ) (ps : Pairs (List ℕ)) (new : List ℕ) → mid ≡ big_endian 4 n ++ inner → n < 2 ^ 32 → left
    ≡ suc below → PairsRead n below inner ps new → BodyRead 6 left mid (dict ps) new
dict_read left below n mid inner ps new e f l p =
    let counted : pair_count ps ≡ n = p.1.1.1.1 in (
      refl,
      (
        e ∙ ap₂ (λ k b. big_endian 4 k ++ b) (sym counted) p.0,
        ((p.1.0, (p.1.1.0, subst (λ k. k < 2 ^ 32) (sym counted) f)), omega (arith, p.1.1.1.0, l)),
      ),
    )

-- ---- functions

pub named_text : (left room most : ℕ) (mid : List ℕ) → room ≡ suc most → NoTextWithin most mid → NoBody 7 left room mid
named_text left room most mid o n v rest s d z t m = when_named v t (λ f c g b.
    let sp : Spelled (fun f c) = subst Spelled g s in
    let sz : size (fun f c) ≤ room = subst (λ x. size x ≤ room) g z in
    n f rest sp.0 (omega (arith, sz, o)) (m ∙ ap (λ x. body x ++ rest) g ∙ ap (λ x. x ++ rest) (fun_body_is f c false b)))

pub named_none : (left room : ℕ) (mid f new : List ℕ) → TextRead mid f new → is_anonymous f ≡ true → NoBody 7 left room mid
named_none left room mid f new p a v rest s d z t m = when_named v t (λ g c h b.
    let sp : Spelled (fun g c) = subst Spelled h s in
    let k = text_free f g new rest p.1 sp.0 (sym p.0 ∙ m ∙ ap (λ x. body x ++ rest) h ∙ ap (λ x. x ++ rest) (fun_body_is g c false b)) in
    let e : true ≡ false = sym a ∙ ap is_anonymous k.0 ∙ b in
    absurd cc)

pub named_read : (left : ℕ) (mid f new : List ℕ) → 0 < left → TextRead mid f new → is_anonymous f ≡ false → BodyRead 7 left mid (fun f no_pairs) new
named_read left mid f new h p a = (
  ap fun_tag a,
  (
    p.0 ∙ ap (λ x. x ++ new) (sym (fun_body_is f no_pairs false a)),
    ((p.1, (subst (λ b. CapturesSo b no_pairs) (sym a) refl, tt)), omega (arith, h)),
  ),
)

pub anonymous_text : (left room most : ℕ) (mid : List ℕ) → room ≡ suc most → NoTextWithin most mid → NoBody 10 left room mid
anonymous_text left room most mid o n v rest s d z t m = when_anonymous v t (λ f c g b.
    let sp : Spelled (fun f c) = subst Spelled g s in
    let sz : size (fun f c) ≤ room = subst (λ x. size x ≤ room) g z in
    n f (big_endian 4 (pair_count c) ++ (pairs_bytes c ++ rest)) sp.0 (omega (arith, sz, o))
    (m ∙ ap (λ x. body x ++ rest) g ∙ ap (λ x. x ++ rest) (fun_body_is f c true b)
    ∙ pair_bytes (bytes_of_text f) (big_endian 4 (pair_count c)) (pairs_bytes c) rest))

-- what stands behind the name of an anonymous function
anonymous_rest : {P : Type 0} (left room : ℕ) (mid f new : List ℕ) → TextRead mid f new → (v : Val (List ℕ)) (rest : List ℕ) → Spelled v
    → depth v ≤ left → size v ≤ room → tag v ≡ 10 → mid ≡ body v ++ rest
    → ((c : Pairs (List ℕ)) → is_anonymous f ≡ true → Spelled (fun f c) → depth (fun f c) ≤ left → size (fun f c) ≤ room → new
    ≡ big_endian 4 (pair_count c) ++ (pairs_bytes c ++ rest) → P) → P
anonymous_rest left room mid f new p v rest s d z t m go = when_anonymous v t (λ g c h b.
    let sp : Spelled (fun g c) = subst Spelled h s in
    let dp : depth (fun g c) ≤ left = subst (λ x. depth x ≤ left) h d in
    let sz : size (fun g c) ≤ room = subst (λ x. size x ≤ room) h z in
    let k = text_free f g new (big_endian 4 (pair_count c) ++ (pairs_bytes c ++ rest)) p.1 sp.0
    (sym p.0 ∙ m ∙ ap (λ x. body x ++ rest) h ∙ ap (λ x. x ++ rest) (fun_body_is g c true b)
    ∙ pair_bytes (bytes_of_text g) (big_endian 4 (pair_count c)) (pairs_bytes c) rest) in
    go c (ap is_anonymous k.0 ∙ b) (subst (λ x. Spelled (fun x c)) (sym k.0) sp) (subst (λ x. depth (fun x c) ≤ left) (sym k.0) dp)
    (subst (λ x. size (fun x c) ≤ room) (sym k.0) sz) k.1)

pub anonymous_not : (left room : ℕ) (mid f new : List ℕ) → TextRead mid f new → is_anonymous f ≡ false → NoBody 10 left room mid
anonymous_not left room mid f new p a v rest s d z t m =
    anonymous_rest left room mid f new p v rest s d z t m (λ c b sp dp sz e. let no : true ≡ false = sym b ∙ a in absurd cc)

pub anonymous_short : (left room : ℕ) (mid f new : List ℕ) → TextRead mid f new → length new < 4 → NoBody 10 left room mid
anonymous_short left room mid f new p h v rest s d z t m =
    anonymous_rest left room mid f new p v rest s d z t m (λ c b sp dp sz e. too_short 4 new (big_endian 4 (pair_count c)) (pairs_bytes c ++ rest) h refl e)

pub anonymous_none : (left below room most n : ℕ) (mid f new inner : List ℕ) → TextRead mid f new → new ≡ big_endian 4 n ++ inner → n < 2 ^ 32
    → left ≡ suc below → room ≡ suc (length f + most) → NoPairs n below most inner → NoBody 10 left room mid
anonymous_none left below room most n mid f new inner p e h l o none v rest s d z t m =
    anonymous_rest left room mid f new p v rest s d z t m (λ c b sp dp sz g.
    let so = captures f c true b sp in
    let k = four_free n (pair_count c) inner (pairs_bytes c ++ rest) h so.1 (sym e ∙ g) in
    none c rest sp.1.1 so.0 (omega (arith, dp, l)) (omega (arith, sz, o)) (sym k.0) k.1)

pub anonymous_read : (left below n : ℕ) (mid f new inner last : List ℕ) (c : Pairs (List ℕ)) → TextRead mid f new → is_anonymous f ≡ true → new
    ≡ big_endian 4 n ++ inner → n < 2 ^ 32 → left ≡ suc below → PairsRead n below inner c last → BodyRead 10 left mid (fun f c) last
anonymous_read left below n mid f new inner last c p a e h l q =
    let counted : pair_count c ≡ n = q.1.1.1.1 in
    let so : CapturesSo true c = (q.1.1.0, subst (λ k. k < 2 ^ 32) (sym counted) h) in (
      ap fun_tag a,
      (
        p.0 ∙ ap (λ x. bytes_of_text f ++ x) (e ∙ ap₂ (λ k b. big_endian 4 k ++ b) (sym counted) q.0)
            ∙ sym (pair_bytes (bytes_of_text f) (big_endian 4 (pair_count c)) (pairs_bytes c) last)
            ∙ ap (λ x. x ++ last) (sym (fun_body_is f c true a)),
        ((p.1, (subst (λ b. CapturesSo b c) (sym a) so, q.1.0)), omega (arith, q.1.1.1.0, l)),
      ),
    )

-- ---- references

pub short_none : (left room : ℕ) (mid : List ℕ) → length mid < 20 → NoBody 8 left room mid
short_none left room mid h v rest s d z t m =
    when_short_ref v t (λ e g b. too_short 20 mid (held_name e) rest h (short_name e (subst Spelled g s) b) (m ∙ ap (λ x. body x ++ rest) g))

pub long_none : (left room : ℕ) (mid : List ℕ) → length mid < 32 → NoBody 9 left room mid
long_none left room mid h v rest s d z t m =
    when_long_ref v t (λ e g b. too_short 32 mid (held_name e) rest h (long_name e (subst Spelled g s) b) (m ∙ ap (λ x. body x ++ rest) g))

pub short_read : (left : ℕ) (mid n new : List ℕ) → 0 < left → mid ≡ n ++ new → length n ≡ 20 → BodyRead 8 left mid (ref (known n)) new
short_read left mid n new h e l = (ap (λ k. ref_tag (nat_eq k 20)) l, (e, (inl l, omega (arith, h))))

pub long_read : (left : ℕ) (mid n new : List ℕ) → 0 < left → mid ≡ n ++ new → length n ≡ 32 → BodyRead 9 left mid (ref (known n)) new
long_read left mid n new h e l = (ap (λ k. ref_tag (nat_eq k 20)) l, (e, (inr l, omega (arith, h))))

-- ---- the whole

pub data_none : (bs : List ℕ) → NoneRead most_depth most_size bs → NoData bs
data_none bs n v d e = n v [] d.spelled d.kept.deep d.kept.large (sym e ∙ sym (append-nil (bytes v)))

-- where a value stands in front, no other has all the bytes
pub the_value : (bs : List ℕ) (v : Val (List ℕ)) (rest : List ℕ) (w : Val (List ℕ)) → Read most_depth bs v rest → Spelled w → bytes w ≡ bs
    → (v ≡ w) × (rest ≡ [])
the_value bs v rest w r p e =
    val_free v w rest [] r.1.0 p (sym r.0 ∙ sym e ∙ sym (append-nil (bytes w)))

pub data_more : (bs : List ℕ) (v : Val (List ℕ)) (rest : List ℕ) → Read most_depth bs v rest → (rest ≡ [] → ⊥) → NoData bs
data_more bs v rest r n w d e = n (the_value bs v rest w r d.spelled e).1

pub data_read : (bs : List ℕ) (v : Val (List ℕ)) (rest : List ℕ) → Read most_depth bs v rest → rest ≡ [] → bytes v ≡ bs
data_read bs v rest r e = sym (append-nil (bytes v)) ∙ ap (λ x. bytes v ++ x) (sym e) ∙ sym r.0
