-- A sum of a description. The same descriptions have the same sum, and few others have it too.
use Rattle.std.specs.Prelude.{ℕ, ◌+◌, ◌*◌, ◌%◌, ◌^◌, List, [], ◌∷◌, true, false}
use Rattle.std.specs.Int.{cast_unsigned, w64}
use Rattle.sky_base.specs.Val.{Val, Vals, Pairs, null, truth, num, text, list, dict, fun, ref, no_vals, val, no_pairs, pair, call, out, input, known}
use Rattle.sky_base_known.specs.Walk.{Row}

-- a sum with one more number
unfoldable pub mixed : ℕ → ℕ → ℕ
mixed s n = (s * 11400714819323198485 % 2 ^ 64 + n) % 2 ^ 64

-- a sum with the bytes of a text, and behind them what is no byte
abbrev pub text_sum : ℕ → List ℕ → ℕ
text_sum s [] = mixed s 256
text_sum s (b ∷ bs) = text_sum (mixed s b) bs

abbrev mutual
  -- a sum with a value: a number for its kind, and then what it holds
  pub val_sum : ℕ → Val (List ℕ) → ℕ
  val_sum s null = mixed s 0
  val_sum s (truth false) = mixed s 1
  val_sum s (truth true) = mixed s 2
  val_sum s (num z) = mixed (mixed s 3) (cast_unsigned w64 z)
  val_sum s (text t) = text_sum (mixed s 4) t
  val_sum s (list vs) = vals_sum (mixed s 5) vs
  val_sum s (dict ps) = pairs_sum (mixed s 6) ps
  val_sum s (fun f c) = pairs_sum (text_sum (mixed s 7) f) c
  val_sum s (ref d) = desc_sum (mixed s 8) d

  -- a sum with values, and behind them what is no kind
  pub vals_sum : ℕ → Vals (List ℕ) → ℕ
  vals_sum s no_vals = mixed s 9
  vals_sum s (val v vs) = vals_sum (val_sum s v) vs

  pub pairs_sum : ℕ → Pairs (List ℕ) → ℕ
  pairs_sum s no_pairs = mixed s 9
  pairs_sum s (pair k v ps) = pairs_sum (val_sum (text_sum s k) v) ps

  pub desc_sum : ℕ → Row → ℕ
  desc_sum s (call f c vs) = vals_sum (pairs_sum (text_sum (mixed s 10) f) c) vs
  desc_sum s (out x v n i) = mixed (mixed (val_sum (text_sum (mixed s 11) x) v) n) i
  desc_sum s (input k) = text_sum (mixed s 12) k
  desc_sum s (known n) = text_sum (mixed s 13) n

abbrev pub sum_of : Row → ℕ
sum_of d = desc_sum 0 d
