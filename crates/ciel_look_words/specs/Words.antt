-- Values and descriptions in words.
use Rattle.std.specs.Prelude.{ℕ, List, [], ◌∷◌, ◌++◌, Bool, true, false, codes, cond, decimal, length, nat_lt, take, Option, Some, None}
use Rattle.std.specs.Fmt.{signed_decimal}
use Rattle.std.specs.Str.{bytes_eq}
use Rattle.hex.specs.Hex.{encode_lower}
use Rattle.sky_base.specs.Val.{Val, Vals, Pairs, Desc, null, truth, num, text, list, dict, fun, ref, no_vals, val, no_pairs, pair, call, out, input, known}
use Rattle.sky_base.specs.Val.{count}

-- the first eight digits of a name
abbrev pub digits : List ℕ → List ℕ
digits name = encode_lower (take 4 name)

-- ---- values

-- what stands before one of several
abbrev pub between : (first : Bool) → List ℕ
between true = codes ""
between false = codes ", "

-- a reference, by the first digits of its name
abbrev pub ref_words : Desc (List ℕ) → List ℕ
ref_words (known name) = digits name ++ codes ".."
ref_words (call f c vs) = []
ref_words (out x v n i) = []
ref_words (input k) = []

abbrev mutual
  pub value_words : Val (List ℕ) → List ℕ
  value_words null = codes "null"
  value_words (truth true) = codes "true"
  value_words (truth false) = codes "false"
  value_words (num z) = signed_decimal z
  value_words (text t) = codes "\"" ++ (t ++ codes "\"")
  value_words (list vs) = codes "[" ++ (vals_words true vs ++ codes "]")
  value_words (dict ps) = codes "{" ++ (pairs_words true ps ++ codes "}")
  value_words (fun f c) = f
  value_words (ref d) = ref_words d

  pub vals_words : (first : Bool) → Vals (List ℕ) → List ℕ
  vals_words first no_vals = []
  vals_words first (val v vs) = between first ++ (value_words v ++ vals_words false vs)

  pub pairs_words : (first : Bool) → Pairs (List ℕ) → List ℕ
  pairs_words first no_pairs = []
  pairs_words first (pair k v ps) = between first ++ (k ++ (codes ": " ++ (value_words v ++ pairs_words false ps)))

-- ---- descriptions

-- how many things the list has that is the only argument, under the key `in`
abbrev pub only : Pairs (List ℕ) → Option ℕ
only (pair k (list vs) no_pairs) = cond (bytes_eq k (codes "in")) (Some (count vs)) None
only ps = None

abbrev pub count_or_pairs : Option ℕ → Pairs (List ℕ) → List ℕ
count_or_pairs (Some n) ps = codes " of " ++ decimal n
count_or_pairs None ps = codes "(" ++ (pairs_words true ps ++ codes ")")

-- what an executor is given
abbrev pub given_words : Val (List ℕ) → List ℕ
given_words (dict ps) = count_or_pairs (only ps) ps
given_words v = codes "(" ++ (value_words v ++ codes ")")

-- the main call, or a function with its arguments
abbrev pub call_words : List ℕ → Vals (List ℕ) → List ℕ
call_words [] vs = codes "main"
call_words (b ∷ f) vs = (b ∷ f) ++ (codes "(" ++ (vals_words true vs ++ codes ")"))

abbrev pub desc_words : Desc (List ℕ) → List ℕ
desc_words (call f c vs) = call_words f vs
desc_words (out x v n i) = x ++ given_words v
desc_words (input k) = codes "input " ++ k
desc_words (known name) = []

-- the main call, or the name of a function
abbrev pub call_head : List ℕ → List ℕ
call_head [] = codes "main"
call_head (b ∷ f) = b ∷ f

-- the name of the function or of the executor alone
abbrev pub desc_head : Desc (List ℕ) → List ℕ
desc_head (call f c vs) = call_head f
desc_head (out x v n i) = x
desc_head (input k) = codes "input"
desc_head (known name) = []

-- ---- what is shown of them: up to 60 characters

-- all of it, or the first 58 and two dots
abbrev pub clipped : List ℕ → List ℕ
clipped t = cond (nat_lt 60 (length t)) (take 58 t ++ codes "..") t

abbrev pub words : Desc (List ℕ) → List ℕ
words d = clipped (desc_words d)

abbrev pub head : Desc (List ℕ) → List ℕ
head d = clipped (desc_head d)
