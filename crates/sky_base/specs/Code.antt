-- A code for the values of the logic, by which a proof tells them apart.
use Rattle.std.specs.Prelude.{◌≡◌, ℕ, zero, suc, pos, negsuc, List, [], ◌∷◌, Bool, true, false, refl}
use Rattle.std.proofs.Common.{sym, ap, ◌∙◌}
use Rattle.std.specs.Coded.{Coded}
use base.Stored.{Gv, gnil, gnum, gcons}
use Rattle.sky_base.specs.Val.{Val, Vals, Pairs, Desc, null, truth, num, text, list, dict, fun, ref, no_vals, val, no_pairs, pair, call, out, input}
use Rattle.sky_base.specs.Val.{known}

abbrev pub bytes : List ℕ → Gv
bytes [] = gnil
bytes (b ∷ bs) = gcons (gnum b) (bytes bs)

abbrev mutual
  pub code : (Val (List ℕ)) → Gv
  code null = gnil
  code (truth false) = gnum 0
  code (truth true) = gnum 1
  code (num (pos n)) = gcons (gnum 0) (gnum n)
  code (num (negsuc n)) = gcons (gnum 1) (gnum n)
  code (text t) = gcons (gnum 2) (bytes t)
  code (fun f c) = gcons (gnum 3) (gcons (bytes f) (pair_codes c))
  code (list vs) = gcons (gnum 4) (codes vs)
  code (dict ps) = gcons (gnum 5) (pair_codes ps)
  code (ref d) = gcons (gnum 6) (desc_code d)

  pub codes : (Vals (List ℕ)) → Gv
  codes no_vals = gnil
  codes (val v vs) = gcons (code v) (codes vs)

  pub pair_codes : (Pairs (List ℕ)) → Gv
  pair_codes no_pairs = gnil
  pair_codes (pair k v ps) = gcons (gcons (bytes k) (code v)) (pair_codes ps)

  pub desc_code : (Desc (List ℕ)) → Gv
  desc_code (call f c vs) = gcons (gcons (gnum 0) (bytes f)) (gcons (pair_codes c) (codes vs))
  desc_code (out x v n i) = gcons (gcons (gnum 1) (bytes x)) (gcons (code v) (gcons (gnum n) (gnum i)))
  desc_code (input k) = gcons (gcons (gnum 2) (bytes k)) gnil
  desc_code (known n) = gcons (gcons (gnum 3) (bytes n)) gnil

abbrev pub num_back : Gv → ℕ
num_back gnil = 0
num_back (gnum n) = n
num_back (gcons a b) = 0

abbrev pub bytes_back : Gv → List ℕ
bytes_back gnil = []
bytes_back (gnum n) = []
bytes_back (gcons a b) = num_back a ∷ bytes_back b

abbrev pub pick : ℕ → (Val (List ℕ)) → (Val (List ℕ)) → (Val (List ℕ)) → (Val (List ℕ)) → (Val (List ℕ)) → (Val (List ℕ)) → (Val (List ℕ))
    → (Val (List ℕ))
pick zero a b c d e f g = a
pick (suc zero) a b c d e f g = b
pick (suc (suc zero)) a b c d e f g = c
pick (suc (suc (suc zero))) a b c d e f g = d
pick (suc (suc (suc (suc zero)))) a b c d e f g = e
pick (suc (suc (suc (suc (suc zero))))) a b c d e f g = f
pick (suc (suc (suc (suc (suc (suc n)))))) a b c d e f g = g

abbrev pub pick_desc : ℕ → (Desc (List ℕ)) → (Desc (List ℕ)) → (Desc (List ℕ)) → (Desc (List ℕ)) → (Desc (List ℕ))
pick_desc zero a b c d = a
pick_desc (suc zero) a b c d = b
pick_desc (suc (suc zero)) a b c d = c
pick_desc (suc (suc (suc n))) a b c d = d

abbrev pub bit_back : ℕ → Bool
bit_back zero = false
bit_back (suc n) = true

abbrev pub head : Gv → Gv
head gnil = gnil
head (gnum n) = gnil
head (gcons a b) = a

abbrev pub tail : Gv → Gv
tail gnil = gnil
tail (gnum n) = gnil
tail (gcons a b) = b

abbrev mutual
  pub back : Gv → (Val (List ℕ))
  back gnil = null
  back (gnum n) = truth (bit_back n)
  back (gcons t a) =
      pick (num_back t) (num (pos (num_back a))) (num (negsuc (num_back a))) (text (bytes_back a)) (fun (bytes_back (head a)) (pairs_behind a))
      (list (vals_back a)) (dict (pairs_back a)) (ref (desc_back a))

  pub vals_back : Gv → (Vals (List ℕ))
  vals_back gnil = no_vals
  vals_back (gnum n) = no_vals
  vals_back (gcons a b) = val (back a) (vals_back b)

  pub pairs_back : Gv → (Pairs (List ℕ))
  pairs_back gnil = no_pairs
  pairs_back (gnum n) = no_pairs
  pairs_back (gcons gnil b) = no_pairs
  pairs_back (gcons (gnum n) b) = no_pairs
  pairs_back (gcons (gcons k v) b) = pair (bytes_back k) (back v) (pairs_back b)

  pub pairs_behind : Gv → (Pairs (List ℕ))
  pairs_behind gnil = no_pairs
  pairs_behind (gnum n) = no_pairs
  pairs_behind (gcons a b) = pairs_back b

  pub desc_back : Gv → (Desc (List ℕ))
  desc_back gnil = input []
  desc_back (gnum n) = input []
  desc_back (gcons gnil r) = input []
  desc_back (gcons (gnum n) r) = input []
  desc_back (gcons (gcons t f) gnil) = pick_desc (num_back t) (input []) (input []) (input (bytes_back f)) (known (bytes_back f))
  desc_back (gcons (gcons t f) (gnum n)) = input []
  desc_back (gcons (gcons t f) (gcons v w)) =
      pick_desc (num_back t) (call (bytes_back f) (pairs_back v) (vals_back w))
      (out (bytes_back f) (back v) (num_back (head w)) (num_back (tail w))) (input []) (input [])

pub bytes_same : (bs : List ℕ) → bytes_back (bytes bs) ≡ bs
bytes_same [] = refl
bytes_same (b ∷ bs) = ap (λ c. b ∷ c) (bytes_same bs)

mutual
  pub same : (v : (Val (List ℕ))) → back (code v) ≡ v
  same null = refl
  same (truth false) = refl
  same (truth true) = refl
  same (num (pos n)) = refl
  same (num (negsuc n)) = refl
  same (text t) = ap text (bytes_same t)
  same (fun f c) = λ i. fun (bytes_same f i) (pairs_same c i)
  same (list vs) = ap list (vals_same vs)
  same (dict ps) = ap dict (pairs_same ps)
  same (ref d) = ap ref (desc_same d)

  pub vals_same : (vs : (Vals (List ℕ))) → vals_back (codes vs) ≡ vs
  vals_same no_vals = refl
  vals_same (val v vs) = λ i. val (same v i) (vals_same vs i)

  pub pairs_same : (ps : (Pairs (List ℕ))) → pairs_back (pair_codes ps) ≡ ps
  pairs_same no_pairs = refl
  pairs_same (pair k v ps) = λ i. pair (bytes_same k i) (same v i) (pairs_same ps i)

  pub desc_same : (d : (Desc (List ℕ))) → desc_back (desc_code d) ≡ d
  desc_same (call f c vs) = λ i. call (bytes_same f i) (pairs_same c i) (vals_same vs i)
  desc_same (out x v n k) = λ i. out (bytes_same x i) (same v i) n k
  desc_same (input k) = ap input (bytes_same k)
  desc_same (known n) = ap known (bytes_same n)

abbrev pub vals_code : Coded (Vals (List ℕ))
vals_code = record { code = codes; inj = λ x y e. sym (vals_same x) ∙ ap vals_back e ∙ vals_same y }

abbrev pub pairs_code : Coded (Pairs (List ℕ))
pairs_code = record { code = pair_codes; inj = λ x y e. sym (pairs_same x) ∙ ap pairs_back e ∙ pairs_same y }

abbrev pub val_code : Coded (Val (List ℕ))
val_code = record { code = code; inj = λ x y e. sym (same x) ∙ ap back e ∙ same y }
