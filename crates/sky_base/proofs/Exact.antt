-- The test whether two values, or two descriptions, are equal is exact.
use Rattle.std.proofs.Common.{◌≡◌, ℕ, ℤ, List, Bool, true, false, ◌&&◌, nat_eq, refl, sym, ap, ◌∙◌, eqb-true, eq-eqb}
use Rattle.std.specs.Ordering.{nat_cmp, int_eq, is_eq}
use Rattle.std.specs.Cmp.Lexicographic.{slice_cmp}
use Rattle.std.specs.declared.cmp.Ordering.{Ordering}
use Rattle.std.proofs.lemmas.Bool.Decides.{Decides-int_eq}
use Rattle.std.proofs.lemmas.Cmp.{nat_list_cmp_total, tied_itself}
use Rattle.sky_base.specs.Val.{Val, Vals, Pairs, Desc, null, truth, num, text, list, dict, fun, ref, no_vals, val, no_pairs, pair, call, out, input}
use Rattle.sky_base.specs.Val.{known, same_text, same_bool, if_null, if_truth, if_num, if_text, if_list, if_dict, if_fun, if_ref, if_val, if_no_vals}
use Rattle.sky_base.specs.Val.{if_pair, if_no_pairs, if_call, if_out, if_input, if_known, same_val, same_vals, same_pairs, same_desc}
use Rattle.sky_base.proofs.Keys.{same_key}

pub both_first : (a b : Bool) → a && b ≡ true → a ≡ true
both_first true b e = refl
both_first false b e = e

pub both_second : (a b : Bool) → a && b ≡ true → b ≡ true
both_second true b e = e
both_second false b e = absurd cc

pub both_true : (a b : Bool) → a ≡ true → b ≡ true → a && b ≡ true
both_true true b e f = f
both_true false b e f = absurd cc

equal_if : (o : Ordering) → is_eq o ≡ true → o ≡ Ordering.Equal
equal_if Ordering.Less e = absurd cc
equal_if Ordering.Equal e = refl
equal_if Ordering.Greater e = absurd cc

pub exact_text : (s t : List ℕ) → same_text s t ≡ true → s ≡ t
exact_text s t e = same_key s t (equal_if (slice_cmp nat_cmp s t) e)

pub self_text : (s : List ℕ) → same_text s s ≡ true
self_text s = ap is_eq (tied_itself nat_list_cmp_total s)

exact_bool : (b c : Bool) → same_bool b c ≡ true → b ≡ c
exact_bool true true e = refl
exact_bool true false e = absurd cc
exact_bool false true e = absurd cc
exact_bool false false e = refl

self_bool : (b : Bool) → same_bool b b ≡ true
self_bool true = refl
self_bool false = refl

exact_int : (y z : ℤ) → int_eq y z ≡ true → y ≡ z
exact_int y z e = (Decides-int_eq y z).0 e

self_int : (z : ℤ) → int_eq z z ≡ true
self_int z = (Decides-int_eq z z).1 refl

module _ {N : Type 0} where
  null_true : (w : Val N) → if_null w ≡ true → w ≡ null
  null_true null e = refl
  null_true (truth b) e = absurd cc
  null_true (num z) e = absurd cc
  null_true (text t) e = absurd cc
  null_true (list us) e = absurd cc
  null_true (dict us) e = absurd cc
  null_true (fun f c) e = absurd cc
  null_true (ref d) e = absurd cc

  truth_true : {P : Type 0} (w : Val N) (k : Bool → Bool) → if_truth w k ≡ true → ((c : Bool) → w ≡ truth c → k c ≡ true → P) → P
  truth_true null k e go = absurd cc
  truth_true (truth b) k e go = go b refl e
  truth_true (num z) k e go = absurd cc
  truth_true (text t) k e go = absurd cc
  truth_true (list us) k e go = absurd cc
  truth_true (dict us) k e go = absurd cc
  truth_true (fun f c) k e go = absurd cc
  truth_true (ref d) k e go = absurd cc

  num_true : {P : Type 0} (w : Val N) (k : ℤ → Bool) → if_num w k ≡ true → ((y : ℤ) → w ≡ num y → k y ≡ true → P) → P
  num_true null k e go = absurd cc
  num_true (truth b) k e go = absurd cc
  num_true (num z) k e go = go z refl e
  num_true (text t) k e go = absurd cc
  num_true (list us) k e go = absurd cc
  num_true (dict us) k e go = absurd cc
  num_true (fun f c) k e go = absurd cc
  num_true (ref d) k e go = absurd cc

  text_true : {P : Type 0} (w : Val N) (k : List ℕ → Bool) → if_text w k ≡ true → ((s : List ℕ) → w ≡ text s → k s ≡ true → P) → P
  text_true null k e go = absurd cc
  text_true (truth b) k e go = absurd cc
  text_true (num z) k e go = absurd cc
  text_true (text t) k e go = go t refl e
  text_true (list us) k e go = absurd cc
  text_true (dict us) k e go = absurd cc
  text_true (fun f c) k e go = absurd cc
  text_true (ref d) k e go = absurd cc

  list_true : {P : Type 0} (w : Val N) (k : Vals N → Bool) → if_list w k ≡ true → ((ws : Vals N) → w ≡ list ws → k ws ≡ true → P) → P
  list_true null k e go = absurd cc
  list_true (truth b) k e go = absurd cc
  list_true (num z) k e go = absurd cc
  list_true (text t) k e go = absurd cc
  list_true (list us) k e go = go us refl e
  list_true (dict us) k e go = absurd cc
  list_true (fun f c) k e go = absurd cc
  list_true (ref d) k e go = absurd cc

  dict_true : {P : Type 0} (w : Val N) (k : Pairs N → Bool) → if_dict w k ≡ true → ((ws : Pairs N) → w ≡ dict ws → k ws ≡ true → P) → P
  dict_true null k e go = absurd cc
  dict_true (truth b) k e go = absurd cc
  dict_true (num z) k e go = absurd cc
  dict_true (text t) k e go = absurd cc
  dict_true (list us) k e go = absurd cc
  dict_true (dict us) k e go = go us refl e
  dict_true (fun f c) k e go = absurd cc
  dict_true (ref d) k e go = absurd cc

  fun_true : {P : Type 0} (w : Val N) (k : List ℕ → Pairs N → Bool) → if_fun w k ≡ true
      → ((g : List ℕ) (qs : Pairs N) → w ≡ fun g qs → k g qs ≡ true → P) → P
  fun_true null k e go = absurd cc
  fun_true (truth b) k e go = absurd cc
  fun_true (num z) k e go = absurd cc
  fun_true (text t) k e go = absurd cc
  fun_true (list us) k e go = absurd cc
  fun_true (dict us) k e go = absurd cc
  fun_true (fun f c) k e go = go f c refl e
  fun_true (ref d) k e go = absurd cc

  ref_true : {P : Type 0} (w : Val N) (k : Desc N → Bool) → if_ref w k ≡ true → ((e : Desc N) → w ≡ ref e → k e ≡ true → P) → P
  ref_true null k e go = absurd cc
  ref_true (truth b) k e go = absurd cc
  ref_true (num z) k e go = absurd cc
  ref_true (text t) k e go = absurd cc
  ref_true (list us) k e go = absurd cc
  ref_true (dict us) k e go = absurd cc
  ref_true (fun f c) k e go = absurd cc
  ref_true (ref d) k e go = go d refl e

  no_vals_true : (ws : Vals N) → if_no_vals ws ≡ true → ws ≡ no_vals
  no_vals_true no_vals e = refl
  no_vals_true (val v vs) e = absurd cc

  val_true : {P : Type 0} (ws : Vals N) (k : Val N → Vals N → Bool) → if_val ws k ≡ true
      → ((w : Val N) (us : Vals N) → ws ≡ val w us → k w us ≡ true → P) → P
  val_true no_vals k e go = absurd cc
  val_true (val w us) k e go = go w us refl e

  no_pairs_true : (qs : Pairs N) → if_no_pairs qs ≡ true → qs ≡ no_pairs
  no_pairs_true no_pairs e = refl
  no_pairs_true (pair k v ps) e = absurd cc

  pair_true : {P : Type 0} (qs : Pairs N) (k : List ℕ → Val N → Pairs N → Bool) → if_pair qs k ≡ true
      → ((l : List ℕ) (w : Val N) (rs : Pairs N) → qs ≡ pair l w rs → k l w rs ≡ true → P) → P
  pair_true no_pairs k e go = absurd cc
  pair_true (pair l w rs) k e go = go l w rs refl e

  call_true : {P : Type 0} (d : Desc N) (k : List ℕ → Pairs N → Vals N → Bool) → if_call d k ≡ true
      → ((g : List ℕ) (qs : Pairs N) (ws : Vals N) → d ≡ call g qs ws → k g qs ws ≡ true → P) → P
  call_true (call f c vs) k e go = go f c vs refl e
  call_true (out x v n i) k e go = absurd cc
  call_true (input l) k e go = absurd cc
  call_true (known b) k e go = absurd cc

  out_true : {P : Type 0} (d : Desc N) (k : List ℕ → Val N → ℕ → ℕ → Bool) → if_out d k ≡ true
      → ((y : List ℕ) (w : Val N) (m j : ℕ) → d ≡ out y w m j → k y w m j ≡ true → P) → P
  out_true (call g c vs) k e go = absurd cc
  out_true (out x v n i) k e go = go x v n i refl e
  out_true (input l) k e go = absurd cc
  out_true (known b) k e go = absurd cc

  input_true : {P : Type 0} (d : Desc N) (k : List ℕ → Bool) → if_input d k ≡ true → ((l : List ℕ) → d ≡ input l → k l ≡ true → P) → P
  input_true (call g c vs) k e go = absurd cc
  input_true (out x v n i) k e go = absurd cc
  input_true (input l) k e go = go l refl e
  input_true (known b) k e go = absurd cc

  known_true : {P : Type 0} (d : Desc N) (k : N → Bool) → if_known d k ≡ true → ((c : N) → d ≡ known c → k c ≡ true → P) → P
  known_true (call g c vs) k e go = absurd cc
  known_true (out x v n i) k e go = absurd cc
  known_true (input l) k e go = absurd cc
  known_true (known b) k e go = go b refl e

module _ {N : Type 0} (same_known : N → N → Bool) (exact_known : (b c : N) → same_known b c ≡ true → b ≡ c) where
  mutual
    pub exact_val : (v w : Val N) → same_val same_known v w ≡ true → v ≡ w
    exact_val null w e = sym (null_true w e)
    exact_val (truth b) w e = truth_true w _ e (λ c h g. ap truth (exact_bool b c g) ∙ sym h)
    exact_val (num z) w e = num_true w _ e (λ y h g. ap num (exact_int z y g) ∙ sym h)
    exact_val (text s) w e = text_true w _ e (λ t h g. ap text (exact_text s t g) ∙ sym h)
    exact_val (list vs) w e = list_true w _ e (λ ws h g. ap list (exact_vals vs ws g) ∙ sym h)
    exact_val (dict ps) w e = dict_true w _ e (λ qs h g. ap dict (exact_pairs ps qs g) ∙ sym h)
    exact_val (fun s c) w e =
        fun_true w _ e (λ t qs h g. (λ i. fun (exact_text s t (both_first _ _ g) i) (exact_pairs c qs (both_second _ _ g) i)) ∙ sym h)
    exact_val (ref d) w e = ref_true w _ e (λ c h g. ap ref (exact_desc d c g) ∙ sym h)

    pub exact_vals : (vs ws : Vals N) → same_vals same_known vs ws ≡ true → vs ≡ ws
    exact_vals no_vals ws e = sym (no_vals_true ws e)
    exact_vals (val v vs) ws e =
        val_true ws _ e (λ w us h g. (λ i. val (exact_val v w (both_first _ _ g) i) (exact_vals vs us (both_second _ _ g) i)) ∙ sym h)

    pub exact_pairs : (ps qs : Pairs N) → same_pairs same_known ps qs ≡ true → ps ≡ qs
    exact_pairs no_pairs qs e = sym (no_pairs_true qs e)
    exact_pairs (pair k v ps) qs e =
        pair_true qs _ e (λ l w rs h g. (λ i. pair (exact_text k l (both_first _ _ g) i) (exact_val v w (both_first _ _ (both_second _ _ g)) i)
        (exact_pairs ps rs (both_second _ _ (both_second _ _ g)) i)) ∙ sym h)

    pub exact_desc : (d c : Desc N) → same_desc same_known d c ≡ true → d ≡ c
    exact_desc (call f ca vs) c e =
        call_true c _ e (λ g qs ws h t. (λ i. call (exact_text f g (both_first _ _ t) i)
        (exact_pairs ca qs (both_first _ _ (both_second _ _ t)) i) (exact_vals vs ws (both_second _ _ (both_second _ _ t)) i)) ∙ sym h)
    exact_desc (out x v n k) c e =
        out_true c _ e (λ y w m j h t.
        let numbers : nat_eq n m && nat_eq k j ≡ true = both_second (same_val same_known v w) _ (both_second (same_text x y) _ t) in
        (λ i. out (exact_text x y (both_first _ (same_val same_known v w && (nat_eq n m && nat_eq k j)) t) i)
        (exact_val v w (both_first _ (nat_eq n m && nat_eq k j) (both_second (same_text x y) _ t)) i)
        (eqb-true n m (both_first _ (nat_eq k j) numbers) i) (eqb-true k j (both_second (nat_eq n m) _ numbers) i)) ∙ sym h)
    exact_desc (input k) c e = input_true c _ e (λ l h t. ap input (exact_text k l t) ∙ sym h)
    exact_desc (known b) c e = known_true c _ e (λ a h t. ap known (exact_known b a t) ∙ sym h)

module _ {N : Type 0} (same_known : N → N → Bool) (self_known : (b : N) → same_known b b ≡ true) where
  mutual
    pub self_val : (v : Val N) → same_val same_known v v ≡ true
    self_val null = refl
    self_val (truth b) = self_bool b
    self_val (num z) = self_int z
    self_val (text s) = self_text s
    self_val (list vs) = self_vals vs
    self_val (dict ps) = self_pairs ps
    self_val (fun s c) = both_true _ _ (self_text s) (self_pairs c)
    self_val (ref d) = self_desc d

    pub self_vals : (vs : Vals N) → same_vals same_known vs vs ≡ true
    self_vals no_vals = refl
    self_vals (val v vs) = both_true _ _ (self_val v) (self_vals vs)

    pub self_pairs : (ps : Pairs N) → same_pairs same_known ps ps ≡ true
    self_pairs no_pairs = refl
    self_pairs (pair k v ps) = both_true _ _ (self_text k) (both_true _ _ (self_val v) (self_pairs ps))

    pub self_desc : (d : Desc N) → same_desc same_known d d ≡ true
    self_desc (call f c vs) = both_true _ _ (self_text f) (both_true _ _ (self_pairs c) (self_vals vs))
    self_desc (out x v n i) = both_true _ _ (self_text x) (both_true _ _ (self_val v) (both_true _ _ (eq-eqb n n refl) (eq-eqb i i refl)))
    self_desc (input k) = self_text k
    self_desc (known b) = self_known b
