-- What can't be read as a description, step by step, and that what was read is the only one.
use Rattle.std.proofs.Common.{◌≡◌, ◌<◌, ◌^◌, ℕ, List, [], ◌∷◌, ◌++◌, Bool, true, false, length, refl, ap, sym, ◌∙◌, subst, arith, append_assoc, append-nil, length-append}
use Rattle.sky_base.specs.Val.{Val, Vals, Pairs, Desc, list, dict, call, out, input, known, most_depth, most_size}
use Rattle.sky_base.specs.Name.{bytes, bytes_of_text, big_endian, canon, call_bytes, is_anonymous}
use Rattle.ciel_name.specs.Bodies.{body}
use Rattle.ciel_name.specs.Descs.{ContentRead, DescRead, IsDescData, NoDesc, NoDescBody, NoDict, NoList, call_rest, call_tag, desc_body, desc_tag}
use Rattle.ciel_name.specs.Laws.{OneCanon, SpelledDesc}
use Rattle.ciel_name.specs.Spelled.{AllSpelled, CapturesSo, IsData, NoneRead, PairsSpelled, Read, Spelled, TextRead}
use Rattle.ciel_name.proofs.Canon.{one_canon}
use Rattle.ciel_name.proofs.PrefixFreeBytes.{four_free, text_free, val_free}

named_tag : (b : Bool) → call_tag b ≡ 67 → b ≡ false
named_tag false t = refl
named_tag true t = absurd (omega (arith, t))

anonymous_tag : (b : Bool) → call_tag b ≡ 76 → b ≡ true
anonymous_tag true t = refl
anonymous_tag false t = absurd (omega (arith, t))

-- what stands behind the name of a call
behind_name : (old f mid : List ℕ) → TextRead old f mid → (g : List ℕ) (c : Pairs (List ℕ)) (vs : Vals (List ℕ)) (rest : List ℕ)
    → IsDescData (call g c vs) → old ≡ desc_body (call g c vs) ++ rest → mid ≡ call_rest (is_anonymous g) c vs ++ rest
behind_name old f mid r g c vs rest p e =
    (text_free f g mid (call_rest (is_anonymous g) c vs ++ rest) r.1 p.spelled.0
    (sym r.0 ∙ e ∙ append_assoc (bytes_of_text g) (call_rest (is_anonymous g) c vs) rest)).1

pub named_args : (old f mid : List ℕ) → TextRead old f mid → NoList mid → NoDescBody 67 old
named_args old f mid r n (call g c vs) rest p t e =
    let a = named_tag (is_anonymous g) t in
    n vs rest (record { spelled = p.spelled.1.1; kept = p.kept.1 })
    (behind_name old f mid r g c vs rest p e ∙ ap (λ b. call_rest b c vs ++ rest) a)
named_args old f mid r n (out x v m i) rest p t e = absurd (omega (arith, t))
named_args old f mid r n (input k) rest p t e = absurd (omega (arith, t))
named_args old f mid r n (known m) rest p t e = absurd p.spelled

-- what a call of an anonymous function captured, and its arguments
captured : (g : List ℕ) (c : Pairs (List ℕ)) (vs : Vals (List ℕ)) → is_anonymous g ≡ true → IsDescData (call g c vs) → IsData (dict c)
captured g c vs a p = record { spelled = (p.spelled.1.0.1, subst (λ b. CapturesSo b c) a p.spelled.1.0.0); kept = p.kept.0 }

pub anonymous_caught : (old f mid : List ℕ) → TextRead old f mid → NoDict mid → NoDescBody 76 old
anonymous_caught old f mid r n (call g c vs) rest p t e =
    let a = anonymous_tag (is_anonymous g) t in
    n c (body (list vs) ++ rest) (captured g c vs a p)
    (behind_name old f mid r g c vs rest p e ∙ ap (λ b. call_rest b c vs ++ rest) a ∙ append_assoc (body (dict c)) (body (list vs)) rest)
anonymous_caught old f mid r n (out x v m i) rest p t e = absurd (omega (arith, t))
anonymous_caught old f mid r n (input k) rest p t e = absurd (omega (arith, t))
anonymous_caught old f mid r n (known m) rest p t e = absurd p.spelled

pub anonymous_args : (old f mid : List ℕ) (d : Pairs (List ℕ)) (new : List ℕ) → TextRead old f mid → ContentRead (dict d) mid new → NoList new
    → NoDescBody 76 old
anonymous_args old f mid d new r q n (call g c vs) rest p t e =
    let a = anonymous_tag (is_anonymous g) t in
    let there = behind_name old f mid r g c vs rest p e ∙ ap (λ b. call_rest b c vs ++ rest) a
    ∙ append_assoc (body (dict c)) (body (list vs)) rest in
    let same = val_free (dict d) (dict c) new (body (list vs) ++ rest) q.1.spelled (captured g c vs a p).spelled (ap (λ y. 6 ∷ y) (sym q.0 ∙ there)) in
    n vs rest (record { spelled = p.spelled.1.1; kept = p.kept.1 }) same.1
anonymous_args old f mid d new r q n (out x v m i) rest p t e = absurd (omega (arith, t))
anonymous_args old f mid d new r q n (input k) rest p t e = absurd (omega (arith, t))
anonymous_args old f mid d new r q n (known m) rest p t e = absurd p.spelled

not_output : (b : Bool) → call_tag b ≡ 69 → ⊥
not_output false t = absurd (omega (arith, t))
not_output true t = absurd (omega (arith, t))

-- what stands behind the name of an executor
behind_executor : (old f mid : List ℕ) → TextRead old f mid → (x : List ℕ) (v : Val (List ℕ)) (n i : ℕ) (rest : List ℕ) → IsDescData (out x v n i)
    → old ≡ desc_body (out x v n i) ++ rest → mid ≡ bytes v ++ (big_endian 4 n ++ (big_endian 4 i ++ rest))
behind_executor old f mid r x v n i rest p e =
    (text_free f x mid (bytes v ++ (big_endian 4 n ++ (big_endian 4 i ++ rest))) r.1 p.spelled.0
    (sym r.0 ∙ e ∙ append_assoc (bytes_of_text x) (bytes v ++ (big_endian 4 n ++ big_endian 4 i)) rest
    ∙ ap (λ y. bytes_of_text x ++ y) (append_assoc (bytes v) (big_endian 4 n ++ big_endian 4 i) rest
    ∙ ap (λ y. bytes v ++ y) (append_assoc (big_endian 4 n) (big_endian 4 i) rest)))).1

pub output_args : (old f mid : List ℕ) → TextRead old f mid → NoneRead most_depth most_size mid → NoDescBody 69 old
output_args old f mid r none (out x v n i) rest p t e =
    none v (big_endian 4 n ++ (big_endian 4 i ++ rest)) p.spelled.1.0 p.kept.deep p.kept.large (behind_executor old f mid r x v n i rest p e)
output_args old f mid r none (call g c vs) rest p t e = not_output (is_anonymous g) t
output_args old f mid r none (input k) rest p t e = absurd (omega (arith, t))
output_args old f mid r none (known m) rest p t e = absurd p.spelled

-- what stands behind the arguments of an executor
behind_args : (old f mid : List ℕ) (w : Val (List ℕ)) (new : List ℕ) → TextRead old f mid → Read most_depth mid w new
    → (x : List ℕ) (v : Val (List ℕ)) (n i : ℕ) (rest : List ℕ) → IsDescData (out x v n i) → old ≡ desc_body (out x v n i) ++ rest
    → new ≡ big_endian 4 n ++ (big_endian 4 i ++ rest)
behind_args old f mid w new r q x v n i rest p e =
    (val_free w v new (big_endian 4 n ++ (big_endian 4 i ++ rest)) q.1.0 p.spelled.1.0 (sym q.0 ∙ behind_executor old f mid r x v n i rest p e)).1

pub output_count : (old f mid : List ℕ) (w : Val (List ℕ)) (new : List ℕ) → TextRead old f mid → Read most_depth mid w new → length new < 4
    → NoDescBody 69 old
output_count old f mid w new r q short (out x v n i) rest p t e =
    let there = ap length (behind_args old f mid w new r q x v n i rest p e) ∙ length-append (big_endian 4 n) (big_endian 4 i ++ rest) in
    let four : length (big_endian 4 n) ≡ 4 = refl in
    absurd (omega (arith, there, four, short))
output_count old f mid w new r q short (call g c vs) rest p t e = not_output (is_anonymous g) t
output_count old f mid w new r q short (input k) rest p t e = absurd (omega (arith, t))
output_count old f mid w new r q short (known m) rest p t e = absurd p.spelled

pub output_index : (old f mid : List ℕ) (w : Val (List ℕ)) (new : List ℕ) (m : ℕ) (last : List ℕ) → TextRead old f mid → Read most_depth mid w new
    → new ≡ big_endian 4 m ++ last → length last < 4 → NoDescBody 69 old
output_index old f mid w new m last r q g short (out x v n i) rest p t e =
    let there = ap length (behind_args old f mid w new r q x v n i rest p e) ∙ length-append (big_endian 4 n) (big_endian 4 i ++ rest) in
    let behind = length-append (big_endian 4 i) rest in
    let here = ap length g ∙ length-append (big_endian 4 m) last in
    let four_n : length (big_endian 4 n) ≡ 4 = refl in
    let four_i : length (big_endian 4 i) ≡ 4 = refl in
    let four_m : length (big_endian 4 m) ≡ 4 = refl in
    absurd (omega (arith, there, behind, here, four_n, four_i, four_m, short))
output_index old f mid w new m last r q g short (call h c vs) rest p t e = not_output (is_anonymous h) t
output_index old f mid w new m last r q g short (input k) rest p t e = absurd (omega (arith, t))
output_index old f mid w new m last r q g short (known n) rest p t e = absurd p.spelled

-- ---- the whole

called : (b : Bool) (f : List ℕ) (c : Pairs (List ℕ)) (vs : Vals (List ℕ))
    → call_bytes b f (body (dict c)) (body (list vs)) ≡ call_tag b ∷ (bytes_of_text f ++ call_rest b c vs)
called false f c vs = refl
called true f c vs = refl

-- the canonical bytes are the first byte and what stands behind it
pub canon_is : (d : Desc (List ℕ)) → SpelledDesc d → canon d ≡ desc_tag d ∷ desc_body d
canon_is (call f c vs) p = called (is_anonymous f) f c vs
canon_is (out x v n i) p = refl
canon_is (input k) p = refl
canon_is (known n) p = absurd p

pub desc_none : (bs mid : List ℕ) (k : ℕ) → bs ≡ k ∷ mid → NoDescBody k mid → NoDesc bs
desc_none bs mid k e n d p h =
    let g : k ∷ mid ≡ desc_tag d ∷ desc_body d = sym e ∙ sym h ∙ canon_is d p.spelled in
    let t : desc_tag d ≡ k = cc in
    let m : mid ≡ desc_body d = cc in
    n d [] p t (m ∙ sym (append-nil (desc_body d)))

-- where a description stands in front, no other has all the bytes
pub the_desc : (bs mid : List ℕ) (k : ℕ) (d : Desc (List ℕ)) (rest : List ℕ) → bs ≡ k ∷ mid → DescRead k mid d rest → rest ≡ [] → canon d ≡ bs
the_desc bs mid k d rest e r h =
    canon_is d r.1.1.spelled ∙ ap (λ t. t ∷ desc_body d) r.0
    ∙ ap (λ y. k ∷ y) (sym (append-nil (desc_body d)) ∙ ap (λ y. desc_body d ++ y) (sym h) ∙ sym r.1.0) ∙ sym e

rest_free : (b : Bool) (c d : Pairs (List ℕ)) (vs ws : Vals (List ℕ)) (r s : List ℕ) → CapturesSo b c × PairsSpelled c
    → CapturesSo b d × PairsSpelled d → Spelled (list vs) → Spelled (list ws) → call_rest b c vs ++ r ≡ call_rest b d ws ++ s → r ≡ s
rest_free false c d vs ws r s p q t u e = (val_free (list vs) (list ws) r s t u (ap (λ y. 5 ∷ y) e)).1
rest_free true c d vs ws r s p q t u e =
    let there = sym (append_assoc (body (dict c)) (body (list vs)) r) ∙ e ∙ append_assoc (body (dict d)) (body (list ws)) s in
    let same = val_free (dict c) (dict d) (body (list vs) ++ r) (body (list ws) ++ s) (p.1, p.0) (q.1, q.0) (ap (λ y. 6 ∷ y) there) in
    (val_free (list vs) (list ws) r s t u (ap (λ y. 5 ∷ y) same.1)).1

not_called : (b : Bool) (k : ℕ) → (67 ≡ k → ⊥) → (76 ≡ k → ⊥) → call_tag b ≡ k → ⊥
not_called false k m n e = m e
not_called true k m n e = n e

-- two that stand in front of the same bytes end at the same place
pub body_free : (d e : Desc (List ℕ)) (r s : List ℕ) → SpelledDesc d → SpelledDesc e → desc_tag d ≡ desc_tag e → desc_body d ++ r ≡ desc_body e ++ s
    → r ≡ s
body_free (call f c vs) (call g d ws) r s p q t e =
    let there = sym (append_assoc (bytes_of_text f) (call_rest (is_anonymous f) c vs) r) ∙ e
    ∙ append_assoc (bytes_of_text g) (call_rest (is_anonymous g) d ws) s in
    let same = text_free f g (call_rest (is_anonymous f) c vs ++ r) (call_rest (is_anonymous g) d ws ++ s) p.0 q.0 there in
    let b : is_anonymous g ≡ is_anonymous f = ap is_anonymous (sym same.0) in
    rest_free (is_anonymous f) c d vs ws r s p.1.0 (subst (λ a. CapturesSo a d × PairsSpelled d) b q.1.0) p.1.1 q.1.1
    (same.1 ∙ ap (λ a. call_rest a d ws ++ s) b)
body_free (call f c vs) (out x v n i) r s p q t e =
    absurd (not_called (is_anonymous f) 69 (λ h. absurd (omega (arith, h))) (λ h. absurd (omega (arith, h))) t)
body_free (call f c vs) (input k) r s p q t e =
    absurd (not_called (is_anonymous f) 73 (λ h. absurd (omega (arith, h))) (λ h. absurd (omega (arith, h))) t)
body_free (out x v n i) (call g d ws) r s p q t e =
    absurd (not_called (is_anonymous g) 69 (λ h. absurd (omega (arith, h))) (λ h. absurd (omega (arith, h))) (sym t))
body_free (input k) (call g d ws) r s p q t e =
    absurd (not_called (is_anonymous g) 73 (λ h. absurd (omega (arith, h))) (λ h. absurd (omega (arith, h))) (sym t))
body_free (out x v n i) (out y w m j) r s p q t e =
    let first = sym (append_assoc (bytes_of_text x) (bytes v ++ (big_endian 4 n ++ big_endian 4 i)) r) ∙ e
    ∙ append_assoc (bytes_of_text y) (bytes w ++ (big_endian 4 m ++ big_endian 4 j)) s in
    let a = text_free x y ((bytes v ++ (big_endian 4 n ++ big_endian 4 i)) ++ r) ((bytes w ++ (big_endian 4 m ++ big_endian 4 j)) ++ s) p.0 q.0 first in
    let second = sym (append_assoc (bytes v) (big_endian 4 n ++ big_endian 4 i) r) ∙ a.1 ∙ append_assoc (bytes w) (big_endian 4 m ++ big_endian 4 j) s in
    let b = val_free v w ((big_endian 4 n ++ big_endian 4 i) ++ r) ((big_endian 4 m ++ big_endian 4 j) ++ s) p.1.0 q.1.0 second in
    let third = sym (append_assoc (big_endian 4 n) (big_endian 4 i) r) ∙ b.1 ∙ append_assoc (big_endian 4 m) (big_endian 4 j) s in
    let c = four_free n m (big_endian 4 i ++ r) (big_endian 4 j ++ s) p.1.1.0 q.1.1.0 third in
    (four_free i j r s p.1.1.1 q.1.1.1 c.1).1
body_free (out x v n i) (input k) r s p q t e = absurd (omega (arith, t))
body_free (input k) (out y w m j) r s p q t e = absurd (omega (arith, t))
body_free (input k) (input l) r s p q t e = (text_free k l r s p q e).1
body_free (known n) e r s p q t h = absurd p
body_free (call f c vs) (known m) r s p q t e = absurd q
body_free (out x v n i) (known m) r s p q t e = absurd q
body_free (input k) (known m) r s p q t e = absurd q

pub desc_more : (bs mid : List ℕ) (k : ℕ) (d : Desc (List ℕ)) (rest : List ℕ) → bs ≡ k ∷ mid → DescRead k mid d rest → (rest ≡ [] → ⊥) → NoDesc bs
desc_more bs mid k d rest e r more w p h =
    let g : k ∷ mid ≡ desc_tag w ∷ desc_body w = sym e ∙ sym h ∙ canon_is w p.spelled in
    let t : k ≡ desc_tag w = cc in
    let m : mid ≡ desc_body w = cc in
    more (body_free d w rest [] r.1.1.spelled p.spelled (r.0 ∙ t) (sym r.1.0 ∙ m ∙ sym (append-nil (desc_body w))))

pub same_desc : (bs mid : List ℕ) (k : ℕ) (d : Desc (List ℕ)) (rest : List ℕ) → bs ≡ k ∷ mid → DescRead k mid d rest → rest ≡ []
    → (w : Desc (List ℕ)) → SpelledDesc w → canon w ≡ bs → d ≡ w
same_desc bs mid k d rest e r h w p g = one_canon d w r.1.1.spelled p (the_desc bs mid k d rest e r h ∙ sym g)
