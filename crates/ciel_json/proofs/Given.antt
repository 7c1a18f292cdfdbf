-- No value is written with a float, and values written one after another.
use Rattle.std.proofs.Common.{◌≡◌, ℕ, false, true, Some, None, if◌then◌else◌, List, [], ◌∷◌, map, Ordering, Less, Equal, Greater, nat_cmp, ℤ, pos}
use Rattle.std.proofs.Common.{negsuc, refl, ap, ◌∙◌}
use Rattle.std.proofs.lemmas.Bool.{or_from, or_parts}
use Rattle.std.specs.Ordering.{match_ordering}
use Rattle.std.specs.Cmp.Lexicographic.{slice_cmp}
use Rattle.serde_json.specs.View.{view as json_view, items_view}
use Rattle.serde_json.specs.View as json
use Rattle.serde_json.specs.Data.{Data, item, Members, no_members, member, put}
use Rattle.serde_json.specs.Find.{is_float, of_integer}
use Rattle.serde_json.specs.Written.{compact_text, has_float, items_have_float, members_have_float}
use Rattle.serde_json.specs.declared.value.Value.{Value as Json}
use Rattle.sky_base.specs.Val.{is_plain, Val, Vals, Pairs, null, truth, num, text, list, dict, fun, ref, no_vals, val, no_pairs, pair}
use Rattle.sky_base.specs.View.{view, vals_of}
use Rattle.sky_base.specs.declared.value.Value.{Value}
use Rattle.ciel_json.specs.Text.{json_of, items_of, members_of, text_of}

by_order : (o : Ordering) (a b c : Members) → members_have_float a ≡ false → members_have_float b ≡ false
    → members_have_float c ≡ false → members_have_float (match_ordering o a b c) ≡ false
by_order Less a b c x y z = x
by_order Equal a b c x y z = y
by_order Greater a b c x y z = z

put-no_float : (k : List ℕ) (d : Data) (ms : Members) → has_float d ≡ false → members_have_float ms ≡ false
    → members_have_float (put k d ms) ≡ false
put-no_float k d no_members e f = or_from (has_float d) false e refl
put-no_float k d (member l x ms) e f =
    let parts = or_parts (has_float x) (members_have_float ms) f in
    by_order (slice_cmp nat_cmp k l) _ _ _ (or_from (has_float d) _ e f) (or_from (has_float d) _ e parts.1)
    (or_from (has_float x) _ parts.0 (put-no_float k d ms e parts.1))

whole-no_float : (z : ℤ) → is_float (of_integer z) ≡ false
whole-no_float (pos n) = refl
whole-no_float (negsuc n) = refl

module _ {N : Type 0} where
  mutual
    pub json-no_float : (v : Val N) → has_float (json_of v) ≡ false
    json-no_float null = refl
    json-no_float (truth b) = refl
    json-no_float (num z) = whole-no_float z
    json-no_float (text t) = refl
    json-no_float (list vs) = items-no_float vs
    json-no_float (dict ps) = members-no_float ps no_members refl
    json-no_float (fun f c) = refl
    json-no_float (ref d) = refl

    items-no_float : (vs : Vals N) → items_have_float (items_of vs) ≡ false
    items-no_float no_vals = refl
    items-no_float (val v vs) = or_from (has_float (json_of v)) _ (json-no_float v) (items-no_float vs)

    members-no_float : (ps : Pairs N) (ms : Members) → members_have_float ms ≡ false
        → members_have_float (members_of ps ms) ≡ false
    members-no_float no_pairs ms e = e
    members-no_float (pair k v ps) ms e =
        members-no_float ps (put k (json_of v) ms) (put-no_float k (json_of v) ms (json-no_float v) e)

  pub text_of-plain : (v : Val N) → is_plain v ≡ true → text_of v ≡ Some (compact_text (json_of v))
  text_of-plain v e = ap (λ b. if b then Some (compact_text (json_of v)) else None) e

all_given : (vs : List Value) → json.items_of (map (λ v. json_of (view v)) vs) ≡ items_of (vals_of vs)
all_given [] = refl
all_given (v ∷ vs) = ap (item (json_of (view v))) (all_given vs)

pub items_given : (js : List Json) (vs : List Value) → map json_view js ≡ map (λ v. json_of (view v)) vs
    → items_view js ≡ items_of (vals_of vs)
items_given js vs e = ap json.items_of e ∙ all_given vs
