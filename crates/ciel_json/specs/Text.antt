-- The JSON that a value is written as, and its text. The values are those of the logic too, whose
-- references are whole descriptions.
use Rattle.std.specs.Prelude.{ℕ, List, Option, Some, None, if◌then◌else◌}
use Rattle.sky_base.specs.Val.{Val, Vals, Pairs, null, truth, num, text, list, dict, fun, ref, no_vals, val, no_pairs, pair, is_plain}
use Rattle.serde_json.specs.Data.{Data, Items, no_items, item, Members, no_members, put}
use Rattle.serde_json.specs.Data as json
use Rattle.serde_json.specs.Find.{of_integer}
use Rattle.serde_json.specs.Written.{compact_text}

module _ {N : Type 0} where
  -- A function and a reference have no JSON: a value that holds one is never written.
  abbrev mutual
    pub json_of : Val N → Data
    json_of null = json.null
    json_of (truth b) = json.boolean b
    json_of (num z) = json.number (of_integer z)
    json_of (text t) = json.string t
    json_of (list vs) = json.array (items_of vs)
    json_of (dict ps) = json.object (members_of ps no_members)
    json_of (fun f c) = json.null
    json_of (ref d) = json.null

    pub items_of : Vals N → Items
    items_of no_vals = no_items
    items_of (val v vs) = item (json_of v) (items_of vs)

    -- each pair is put in at its key's place in the order of the keys
    pub members_of : Pairs N → Members → Members
    members_of no_pairs ms = ms
    members_of (pair k v ps) ms = members_of ps (put k (json_of v) ms)

  -- The text without spaces and without a line feed, of a value that holds no function and no reference.
  abbrev pub text_of : Val N → Option (List ℕ)
  text_of v = if is_plain v then Some (compact_text (json_of v)) else None
