-- Each value inside a list is smaller than the list.
use Rattle.std.specs.Prelude.{◌≤◌, List, [], ◌∷◌}
use Rattle.std.proofs.Common.{arith}
use denote.Param.Weighed.{most}
use Rattle.sky_base.specs.Val.{val_nodes, vals_nodes, pairs_nodes}
use Rattle.sky_base.specs.View.{view, vals_of, pairs_of}
use Rattle.sky_base.specs.declared.value.Value.{Value}
use Rattle.sky_base.specs.declared.value.Pair.{Pair}
use Rattle.sky_base.specs.declared.shared.Shared.{Shared}
use Rattle.sky_base.specs.declared.value.Value.TheVariants.{the_data}
use Rattle.sky_base.specs.declared.value.Pairs.TheDeep.{deep-Value, deep-Pair}
use Rattle.sky_base.specs.declared.value.Pairs.TheShapes.{weighed-Vals-items, weighed-Pairs-items}
use Rattle.std.specs.Arc.{arc_value}
use Rattle.sky_base.specs.Held.{held}

pub value_falls : (v : Value) → deep-Value v ≤ val_nodes (view v)
value_falls Value.Null = omega arith
value_falls (Value.Bool b) = omega arith
value_falls (Value.Int z) = omega arith
value_falls (Value.Text t) = omega arith
value_falls (Value.List vs) = omega arith
value_falls (Value.Dict ps) = omega arith
value_falls (Value.Fun f c) = omega arith
value_falls (Value.Ref n) = omega arith

pub vals_fall : (vs : List Value) → most deep-Value vs ≤ vals_nodes (vals_of vs)
vals_fall [] = omega arith
vals_fall (v ∷ vs) = omega (arith, value_falls v, vals_fall vs)

pub pairs_fall : (ps : List Pair) → most deep-Pair ps ≤ pairs_nodes (pairs_of ps)
pairs_fall [] = omega arith
pairs_fall (p ∷ ps) = omega (arith, value_falls p.value, pairs_fall ps)

pub held_vals_fall : (h : Shared Value) → (weighed-Vals-items).weight the_data deep-Value h ≤ vals_nodes (vals_of (held h))
held_vals_fall (Shared.Nothing g) = omega arith
held_vals_fall (Shared.Block b) = omega (arith, vals_fall (arc_value b).items)

pub held_pairs_fall : (h : Shared Pair) → (weighed-Pairs-items).weight Pair deep-Pair h ≤ pairs_nodes (pairs_of (held h))
held_pairs_fall (Shared.Nothing g) = omega arith
held_pairs_fall (Shared.Block b) = omega (arith, pairs_fall (arc_value b).items)
