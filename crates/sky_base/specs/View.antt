-- What a value of the code stands for.
use Rattle.std.specs.Prelude.{ℕ, List, [], ◌∷◌}
use Rattle.sky_base.specs.Val.{Val, Vals, Pairs, null, truth, num, text, list, dict, fun, ref, no_vals, val, no_pairs, pair, known}
use Rattle.sky_base.specs.declared.value.Value.{Value}
use Rattle.sky_base.specs.declared.value.Pair.{Pair}

-- what a value stands for: its lists and dictionaries stand for themselves
abbrev pub view : Value → (Val (List ℕ))
view Value.Null = null
view (Value.Bool b) = truth b
view (Value.Int z) = num z
view (Value.Text t) = text t
view (Value.List vs) = list vs
view (Value.Dict ps) = dict ps
view (Value.Fun f c) = fun f c
view (Value.Ref n) = ref (known n)

abbrev pub vals_of : List Value → (Vals (List ℕ))
vals_of [] = no_vals
vals_of (v ∷ vs) = val (view v) (vals_of vs)

abbrev pub pairs_of : List Pair → (Pairs (List ℕ))
pairs_of [] = no_pairs
pairs_of (p ∷ ps) = pair p.key (view p.value) (pairs_of ps)
