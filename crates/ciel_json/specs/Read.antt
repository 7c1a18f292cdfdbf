-- What bytes are read as: the value that they stand for as JSON, within the limits.
use Rattle.std.specs.Prelude.{◌≡◌, ℕ, ◌+◌, ◌-◌, ◌==◌, ◌||◌, nat_lt, nat_le, length, List, [], ◌∷◌, Bool, true, false, if◌then◌else◌, Option, Some}
use Rattle.std.specs.Prelude.{None, option_map, option_and_then, Err}
use Rattle.std.specs.Str.{is_utf8}
use Rattle.serde_json.specs.Data.{Data, Items, no_items, item, Members, no_members, member}
use Rattle.serde_json.specs.Data as json
use Rattle.serde_json.specs.Find.{as_i64}
use Rattle.serde_json.specs.Read.{read}
use Rattle.sky_base.specs.Val.{Val, Vals, Pairs, null, truth, num, text, list, dict, no_vals, val, no_pairs}
use Rattle.sky_base.specs.Op.{Answer, limited, put}
use Rattle.sky_base.specs.declared.fault.FaultKind.{FaultKind}
use Rattle.ciel_json.specs.declared.read.Within.{Within}
use Rattle.ciel_json.specs.declared.read.ToValue.{ToValue}

-- ---- brackets

-- where the next byte stands and how many brackets are open, after a byte; none where more than 100 are
abbrev pub after_byte : Within → ℕ → ℕ → Option (Within × ℕ)
after_byte Within.Nothing n x =
    if x == 34 then Some (Within.Text, n)
    else (if x == 91 || x == 123 then (if nat_le 100 n then None else Some (Within.Nothing, n + 1))
    else (if x == 93 || x == 125 then Some (Within.Nothing, n - 1) else Some (Within.Nothing, n)))
after_byte Within.Text n x =
    if x == 34 then Some (Within.Nothing, n) else (if x == 92 then Some (Within.Escape, n) else Some (Within.Text, n))
after_byte Within.Escape n x = Some (Within.Text, n)

abbrev pub deep_or : Option (Within × ℕ) → (Within → ℕ → Bool) → Bool
deep_or None rest = true
deep_or (Some p) rest = rest p.0 p.1

-- whether at some place of the bytes more than 100 brackets are open, where the first byte stands there and n are open
abbrev pub deep_from : Within → ℕ → List ℕ → Bool
deep_from at n [] = false
deep_from at n (x ∷ xs) = deep_or (after_byte at n x) (λ next m. deep_from next m xs)

abbrev pub nests_too_deep : List ℕ → Bool
nests_too_deep bytes = deep_from Within.Nothing 0 bytes

module _ {N : Type 0} where
  -- ---- values

  -- the value that JSON stands for; none where some number in it is no whole number of 64 signed bits
  abbrev mutual
    pub value_of : Data → Option (Val N)
    value_of json.null = Some null
    value_of (json.boolean b) = Some (truth b)
    value_of (json.number n) = option_map num (as_i64 n)
    value_of (json.string t) = Some (text t)
    value_of (json.array ds) = option_map list (values_of ds)
    value_of (json.object ms) = option_map dict (pairs_onto no_pairs ms)

    pub values_of : Items → Option (Vals N)
    values_of no_items = Some no_vals
    values_of (item d ds) = option_and_then (λ v. option_map (val v) (values_of ds)) (value_of d)

    -- each member is put in at its key's place in the order of the keys
    pub pairs_onto : Pairs N → Members → Option (Pairs N)
    pairs_onto ps no_members = Some ps
    pairs_onto ps (member k d ms) = option_and_then (λ v. pairs_onto (put k v ps) ms) (value_of d)

  -- the value that bytes stand for, by `serde_json`'s reading of a text
  abbrev pub value_read : List ℕ → Option (Val N)
  value_read bytes = if is_utf8 bytes then option_and_then value_of (read bytes) else None

  -- ---- the answer

  abbrev pub within_limits : Option (Val N) → Answer N
  within_limits None = Err FaultKind.NotData
  within_limits (Some v) = limited v

  -- what bytes are read as, with the first of the refusals in this order
  abbrev pub reads : List ℕ → Answer N
  reads bytes =
      if nat_lt 8388608 (length bytes) then Err FaultKind.TooLarge
      else (if nests_too_deep bytes then Err FaultKind.TooDeep
      else within_limits (value_read bytes))

-- what a refusal says of the bytes; want of memory says nothing
abbrev pub IsRefused : {N : Type 0} → ToValue → Answer N → Type 0
IsRefused ToValue.TooLarge answer = answer ≡ Err FaultKind.TooLarge
IsRefused ToValue.NotData answer = answer ≡ Err FaultKind.NotData
IsRefused ToValue.TooDeep answer = answer ≡ Err FaultKind.TooDeep
IsRefused ToValue.Memory answer = Unit {0}
