-- The first byte of a value tells its kind.
use Rattle.std.proofs.Common.{◌≡◌, ℕ, ℤ, List, [], ◌∷◌, ◌++◌, Bool, true, false, nat_eq, length, refl}
use Rattle.ciel_name.specs.Bodies.{tag, fun_tag, ref_tag, body, fun_body, is_short}
use Rattle.sky_base.specs.Val.{Val, Vals, Pairs, Desc, null, truth, num, text, list, dict, fun, ref, count, pair_count}
use Rattle.sky_base.specs.Name.{bytes, vals_bytes, pairs_bytes, bytes_of_int, bytes_of_text, big_endian, is_anonymous, held_name, fun_bytes}
use Rattle.sky_base.specs.Name.{name_bytes_if}

fun_bytes-is : (b : Bool) (f : List ℕ) (c : Pairs (List ℕ)) → fun_bytes b f (big_endian 4 (pair_count c) ++ pairs_bytes c) ≡ fun_tag b
    ∷ fun_body b f c
fun_bytes-is false f c = refl
fun_bytes-is true f c = refl

name_bytes-is : (b : Bool) (n : List ℕ) → name_bytes_if b n ≡ ref_tag b ∷ n
name_bytes-is true n = refl
name_bytes-is false n = refl

pub bytes-is : (v : Val (List ℕ)) → bytes v ≡ tag v ∷ body v
bytes-is null = refl
bytes-is (truth false) = refl
bytes-is (truth true) = refl
bytes-is (num z) = refl
bytes-is (text t) = refl
bytes-is (list vs) = refl
bytes-is (dict ps) = refl
bytes-is (fun f c) = fun_bytes-is (is_anonymous f) f c
bytes-is (ref d) = name_bytes-is (is_short d) (held_name d)

fun_tag-not : (k : ℕ) (b : Bool) → nat_eq k 7 ≡ false → nat_eq k 10 ≡ false → fun_tag b ≡ k → ⊥
fun_tag-not k false h g e = absurd cc
fun_tag-not k true h g e = absurd cc

ref_tag-not : (k : ℕ) (b : Bool) → nat_eq k 8 ≡ false → nat_eq k 9 ≡ false → ref_tag b ≡ k → ⊥
ref_tag-not k true h g e = absurd cc
ref_tag-not k false h g e = absurd cc

fun_tag-named : (b : Bool) → fun_tag b ≡ 7 → b ≡ false
fun_tag-named false e = refl
fun_tag-named true e = absurd cc

fun_tag-anonymous : (b : Bool) → fun_tag b ≡ 10 → b ≡ true
fun_tag-anonymous false e = absurd cc
fun_tag-anonymous true e = refl

ref_tag-short : (b : Bool) → ref_tag b ≡ 8 → b ≡ true
ref_tag-short true e = refl
ref_tag-short false e = absurd cc

ref_tag-long : (b : Bool) → ref_tag b ≡ 9 → b ≡ false
ref_tag-long true e = absurd cc
ref_tag-long false e = refl

-- ---- what a value is whose first byte is known

pub when_null : {P : Type 0} (w : Val (List ℕ)) → tag w ≡ 0 → (w ≡ null → P) → P
when_null (null) e go = go refl
when_null (truth false) e go = absurd cc
when_null (truth true) e go = absurd cc
when_null (num z) e go = absurd cc
when_null (text t) e go = absurd cc
when_null (list vs) e go = absurd cc
when_null (dict ps) e go = absurd cc
when_null (fun f c) e go = absurd (fun_tag-not 0 (is_anonymous f) refl refl e)
when_null (ref d) e go = absurd (ref_tag-not 0 (is_short d) refl refl e)

pub when_truth_false : {P : Type 0} (w : Val (List ℕ)) → tag w ≡ 1 → (w ≡ truth false → P) → P
when_truth_false (null) e go = absurd cc
when_truth_false (truth false) e go = go refl
when_truth_false (truth true) e go = absurd cc
when_truth_false (num z) e go = absurd cc
when_truth_false (text t) e go = absurd cc
when_truth_false (list vs) e go = absurd cc
when_truth_false (dict ps) e go = absurd cc
when_truth_false (fun f c) e go = absurd (fun_tag-not 1 (is_anonymous f) refl refl e)
when_truth_false (ref d) e go = absurd (ref_tag-not 1 (is_short d) refl refl e)

pub when_truth_true : {P : Type 0} (w : Val (List ℕ)) → tag w ≡ 2 → (w ≡ truth true → P) → P
when_truth_true (null) e go = absurd cc
when_truth_true (truth false) e go = absurd cc
when_truth_true (truth true) e go = go refl
when_truth_true (num z) e go = absurd cc
when_truth_true (text t) e go = absurd cc
when_truth_true (list vs) e go = absurd cc
when_truth_true (dict ps) e go = absurd cc
when_truth_true (fun f c) e go = absurd (fun_tag-not 2 (is_anonymous f) refl refl e)
when_truth_true (ref d) e go = absurd (ref_tag-not 2 (is_short d) refl refl e)

pub when_num : {P : Type 0} (w : Val (List ℕ)) → tag w ≡ 3 → ((z : ℤ) → w ≡ num z → P) → P
when_num (null) e go = absurd cc
when_num (truth false) e go = absurd cc
when_num (truth true) e go = absurd cc
when_num (num z) e go = go z refl
when_num (text t) e go = absurd cc
when_num (list vs) e go = absurd cc
when_num (dict ps) e go = absurd cc
when_num (fun f c) e go = absurd (fun_tag-not 3 (is_anonymous f) refl refl e)
when_num (ref d) e go = absurd (ref_tag-not 3 (is_short d) refl refl e)

pub when_text : {P : Type 0} (w : Val (List ℕ)) → tag w ≡ 4 → ((t : List ℕ) → w ≡ text t → P) → P
when_text (null) e go = absurd cc
when_text (truth false) e go = absurd cc
when_text (truth true) e go = absurd cc
when_text (num z) e go = absurd cc
when_text (text t) e go = go t refl
when_text (list vs) e go = absurd cc
when_text (dict ps) e go = absurd cc
when_text (fun f c) e go = absurd (fun_tag-not 4 (is_anonymous f) refl refl e)
when_text (ref d) e go = absurd (ref_tag-not 4 (is_short d) refl refl e)

pub when_list : {P : Type 0} (w : Val (List ℕ)) → tag w ≡ 5 → ((vs : Vals (List ℕ)) → w ≡ list vs → P) → P
when_list (null) e go = absurd cc
when_list (truth false) e go = absurd cc
when_list (truth true) e go = absurd cc
when_list (num z) e go = absurd cc
when_list (text t) e go = absurd cc
when_list (list vs) e go = go vs refl
when_list (dict ps) e go = absurd cc
when_list (fun f c) e go = absurd (fun_tag-not 5 (is_anonymous f) refl refl e)
when_list (ref d) e go = absurd (ref_tag-not 5 (is_short d) refl refl e)

pub when_dict : {P : Type 0} (w : Val (List ℕ)) → tag w ≡ 6 → ((ps : Pairs (List ℕ)) → w ≡ dict ps → P) → P
when_dict (null) e go = absurd cc
when_dict (truth false) e go = absurd cc
when_dict (truth true) e go = absurd cc
when_dict (num z) e go = absurd cc
when_dict (text t) e go = absurd cc
when_dict (list vs) e go = absurd cc
when_dict (dict ps) e go = go ps refl
when_dict (fun f c) e go = absurd (fun_tag-not 6 (is_anonymous f) refl refl e)
when_dict (ref d) e go = absurd (ref_tag-not 6 (is_short d) refl refl e)

pub when_named : {P : Type 0} (w : Val (List ℕ)) → tag w ≡ 7 → ((f : List ℕ) (c : Pairs (List ℕ)) → w ≡ fun f c → is_anonymous f ≡ false → P) → P
when_named (null) e go = absurd cc
when_named (truth false) e go = absurd cc
when_named (truth true) e go = absurd cc
when_named (num z) e go = absurd cc
when_named (text t) e go = absurd cc
when_named (list vs) e go = absurd cc
when_named (dict ps) e go = absurd cc
when_named (fun f c) e go = go f c refl (fun_tag-named (is_anonymous f) e)
when_named (ref d) e go = absurd (ref_tag-not 7 (is_short d) refl refl e)

pub when_anonymous : {P : Type 0} (w : Val (List ℕ)) → tag w ≡ 10 → ((f : List ℕ) (c : Pairs (List ℕ)) → w ≡ fun f c → is_anonymous f ≡ true → P) → P
when_anonymous (null) e go = absurd cc
when_anonymous (truth false) e go = absurd cc
when_anonymous (truth true) e go = absurd cc
when_anonymous (num z) e go = absurd cc
when_anonymous (text t) e go = absurd cc
when_anonymous (list vs) e go = absurd cc
when_anonymous (dict ps) e go = absurd cc
when_anonymous (fun f c) e go = go f c refl (fun_tag-anonymous (is_anonymous f) e)
when_anonymous (ref d) e go = absurd (ref_tag-not 10 (is_short d) refl refl e)

pub when_short_ref : {P : Type 0} (w : Val (List ℕ)) → tag w ≡ 8 → ((d : Desc (List ℕ)) → w ≡ ref d → is_short d ≡ true → P) → P
when_short_ref (null) e go = absurd cc
when_short_ref (truth false) e go = absurd cc
when_short_ref (truth true) e go = absurd cc
when_short_ref (num z) e go = absurd cc
when_short_ref (text t) e go = absurd cc
when_short_ref (list vs) e go = absurd cc
when_short_ref (dict ps) e go = absurd cc
when_short_ref (fun f c) e go = absurd (fun_tag-not 8 (is_anonymous f) refl refl e)
when_short_ref (ref d) e go = go d refl (ref_tag-short (is_short d) e)

pub when_long_ref : {P : Type 0} (w : Val (List ℕ)) → tag w ≡ 9 → ((d : Desc (List ℕ)) → w ≡ ref d → is_short d ≡ false → P) → P
when_long_ref (null) e go = absurd cc
when_long_ref (truth false) e go = absurd cc
when_long_ref (truth true) e go = absurd cc
when_long_ref (num z) e go = absurd cc
when_long_ref (text t) e go = absurd cc
when_long_ref (list vs) e go = absurd cc
when_long_ref (dict ps) e go = absurd cc
when_long_ref (fun f c) e go = absurd (fun_tag-not 9 (is_anonymous f) refl refl e)
when_long_ref (ref d) e go = go d refl (ref_tag-long (is_short d) e)
