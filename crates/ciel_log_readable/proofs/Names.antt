-- Values with names in place of the descriptions that they refer to.
use Rattle.std.proofs.Common.{ℕ, List, [], ◌∷◌, map, sym, subst}
use Rattle.sky_base.specs.Name.{low, low_vals, low_pairs, name}
use Rattle.sky_base.specs.Tree.{Script}
use Rattle.sky_base.specs.Val.{Val, Vals, Pairs, Desc, null, truth, num, text, list, dict, fun, ref, no_vals, val, no_pairs, pair, call, out, input}
use Rattle.sky_base.specs.Val.{known, refs, Rising, RisingFrom}
use Rattle.sky_base_law.specs.Lower.{low_ref}
use Rattle.sky_base_law.specs.NamesLaws.{Tag, no_name}
use Rattle.sky_base_law.specs.Sound.{Sound}
use Rattle.sky_base_law.specs.Tasks.{Each}
use Rattle.sky_base_law.specs.Typed.{EachTyped, Typed, ValsTyped}
use Rattle.sky_base_law.proofs.RefsLow.{refs_low}
use Rattle.ciel_name.specs.Spelled.{IsData, IsName}
use Rattle.ciel_name_law.specs.Typed.{GivesNames, NamedUseNothing, OverNames}
use Rattle.ciel_name_law.proofs.Bare.{sound_data}

abbrev NoName : ⊥ → Type 0
NoName n = Unit {0}

abbrev Any : List ℕ → Type 0
Any n = Unit {0}

module _ (tag : Tag) where
  -- ---- types stay

  rising_from : (k : List ℕ) (ps : Pairs ⊥) → RisingFrom k ps → RisingFrom k (low_pairs no_name tag ps)
  rising_from k no_pairs r = tt
  rising_from k (pair l a ps) r = (r.0, rising_from l ps r.1)

  pub rising_low : (ps : Pairs ⊥) → Rising ps → Rising (low_pairs no_name tag ps)
  rising_low no_pairs r = tt
  rising_low (pair k a ps) r = rising_from k ps r

  mutual
    typed_low : (a : Val ⊥) → Typed a → Typed (low no_name tag a)
    typed_low null h = tt
    typed_low (truth b) h = tt
    typed_low (num z) h = h
    typed_low (text t) h = h
    typed_low (list vs) h = vals_typed_low vs h
    typed_low (dict ps) h = (pairs_typed_low ps h.0, rising_low ps h.1)
    typed_low (fun f c) h = (h.0, pairs_typed_low c h.1, rising_low c h.2)
    typed_low (ref d) h = tt

    vals_typed_low : (vs : Vals ⊥) → ValsTyped NoName vs → ValsTyped Any (low_vals no_name tag vs)
    vals_typed_low no_vals h = tt
    vals_typed_low (val a vs) h = (typed_low a h.0, vals_typed_low vs h.1)

    pairs_typed_low : (ps : Pairs ⊥) → EachTyped NoName ps → EachTyped Any (low_pairs no_name tag ps)
    pairs_typed_low no_pairs h = tt
    pairs_typed_low (pair k a ps) h = (h.0, typed_low a h.1, pairs_typed_low ps h.2)

  -- ---- all that is referred to are names

  module _ (gives : GivesNames tag) where
    pub name_given : (d : Desc ⊥) → IsName (known (name no_name tag d))
    name_given (call f c vs) = gives (call f (low_pairs no_name tag c) (low_vals no_name tag vs))
    name_given (out x a n i) = gives (out x (low no_name tag a) n i)
    name_given (input k) = gives (input k)
    name_given (known b) = absurd b

    each_name : (ds : List (Desc ⊥)) → Each IsName (map (low_ref no_name tag) ds)
    each_name [] = tt
    each_name (d ∷ ds) = (name_given d, each_name ds)

    over_low : (a : Val ⊥) → OverNames (low no_name tag a)
    over_low a = subst (Each IsName) (sym (refs_low no_name tag a)) (each_name (refs a))

    -- a typed value that is sound over names is data over them
    pub value_data : (sc : Script) → NamedUseNothing sc.funs → (a : Val ⊥) → Typed a → Sound sc (low no_name tag a) → IsData (low no_name tag a)
    value_data sc bare a t s = sound_data sc bare (low no_name tag a) (typed_low a t) (over_low a) s
