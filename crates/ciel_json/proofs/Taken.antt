-- What the reader's clauses say of `value_read`, and items and members taken one after another.
use Rattle.std.proofs.Common.{◌≡◌, ℕ, List, ◌∷◌, Option, Some, None, option_map, option_and_then, String, Global, string_bytes, IsUtf8, refl, ap, ◌∙◌}
use Rattle.std.proofs.Common.{⊎_elim}
use Rattle.std.proofs.lemmas.Bool.{cases_Bool, cond-true, cond-false}
use Rattle.std.proofs.lemmas.Str.{IsUtf8-from_is_utf8, is_utf8-from_IsUtf8}
use Rattle.std.specs.Str.{is_utf8}
use Rattle.serde_json.specs.Read.{read}
use Rattle.serde_json.specs.View.{view as json_view, items_view, members_view}
use Rattle.serde_json.specs.declared.value.Value.{Value as Json}
use Rattle.sky_base.specs.Val.{Val, Vals, Pairs, no_vals, val, add_val}
use Rattle.sky_base.specs.Op.{join, put}
use Rattle.ciel_json.specs.Read.{value_of, values_of, pairs_onto, value_read}

pub value_read-utf8 : (b : List ℕ) → IsUtf8 b → value_read {N = List ℕ} b ≡ option_and_then value_of (read b)
value_read-utf8 b h = cond-true _ _ _ (is_utf8-from_IsUtf8 b h)

pub value_read-none : (b : List ℕ) → (IsUtf8 b → option_and_then (value_of {N = List ℕ}) (read b) ≡ None)
    → value_read {N = List ℕ} b ≡ None
value_read-none b h =
    ⊎_elim (λ t. cond-true _ _ _ t ∙ h (IsUtf8-from_is_utf8 b t)) (λ f. cond-false _ _ _ f) (cases_Bool (is_utf8 b))

join-val : (vs : Vals (List ℕ)) (v : Val (List ℕ)) (ws : Vals (List ℕ)) → join vs (val v ws) ≡ join (add_val vs v) ws
join-val no_vals v ws = refl
join-val (val u vs) v ws = ap (val u) (join-val vs v ws)

join-Some : (vs : Vals (List ℕ)) (v : Val (List ℕ)) (o : Option (Vals (List ℕ)))
    → option_map (join vs) (option_map (val v) o) ≡ option_map (join (add_val vs v)) o
join-Some vs v None = refl
join-Some vs v (Some ws) = ap Some (join-val vs v ws)

-- one more item
pub item_taken : (vs : Vals (List ℕ)) (v : Val (List ℕ)) (x : Json) (xs : List Json) → value_of (json_view x) ≡ Some v
    → option_map (join vs) (values_of (items_view (x ∷ xs))) ≡ option_map (join (add_val vs v)) (values_of (items_view xs))
item_taken vs v x xs e =
    ap (λ o. option_map (join vs) (option_and_then (λ u. option_map (val u) (values_of (items_view xs))) o)) e
    ∙ join-Some vs v (values_of (items_view xs))

-- one more member
pub member_taken : (ps : Pairs (List ℕ)) (v : Val (List ℕ)) (x : String Global × Json) (xs : List (String Global × Json))
    → value_of (json_view x.1) ≡ Some v
    → pairs_onto ps (members_view (x ∷ xs)) ≡ pairs_onto (put (string_bytes x.0) v ps) (members_view xs)
member_taken ps v x xs e =
    ap (option_and_then (λ u. pairs_onto (put (string_bytes x.0) u ps) (members_view xs))) e
