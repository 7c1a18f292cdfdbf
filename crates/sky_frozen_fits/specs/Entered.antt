-- The entries of a frame that fits, one after the other.
use Rattle.std.specs.Prelude.{◌≡◌, ◌≤◌, ℕ, List, [], ◌∷◌, length, take, drop, map, Option, Some, None}
use Rattle.sky_base.specs.Val.{Val}
use Rattle.sky_base.specs.Tree.{Script}
use Rattle.sky_base.specs.Read.{Todo}
use Rattle.sky_base_law.specs.Tasks.{In, Each}
use Rattle.sky_state.specs.Table.{Row, keeps, places, IsStep}
use Rattle.sky_state.specs.Fits.{row_of, OfKinds, TakenFrom, shares, Parts, kept_in_all}

module _ (sc : Script) where
  -- what the definition says of the entries of a frame and its stack
  pub record FitTogether (ts : List Todo) (vs : List (Val (List ℕ))) : Type 0 where
    pub steps : Each (λ t. IsStep (row_of sc t)) ts
    pub parts : Parts sc ts
    pub as_many : length vs ≡ kept_in_all sc ts
    pub kinds : Each (λ s. OfKinds s.0 s.1) (shares (map (row_of sc) ts) vs)
    pub taken : Each (λ s. TakenFrom s.0 s.1) (shares (map (row_of sc) ts) vs)

  -- the next entry, if there is one, is a part that is pending or running at this row
  abbrev pub NextIn : Row → List Todo → Type 0
  NextIn r [] = Unit {0}
  NextIn r (t ∷ ts) = In t.node (places r)

  -- an entry with the values that are left
  pub record FirstFits (t : Todo) (ts : List Todo) (vs : List (Val (List ℕ))) : Type 0 where
    pub step : IsStep (row_of sc t)
    pub next : NextIn (row_of sc t) ts
    pub enough : keeps (row_of sc t) ≤ length vs
    pub kinds : OfKinds (row_of sc t) (take (keeps (row_of sc t)) vs)
    pub taken : TakenFrom (row_of sc t) (take (keeps (row_of sc t)) vs)

  -- all entries with the values that are left
  abbrev pub Entered : List Todo → List (Val (List ℕ)) → Type 0
  Entered [] vs = vs ≡ []
  Entered (t ∷ ts) vs = FirstFits t ts vs × Entered ts (drop (keeps (row_of sc t)) vs)

  -- the row of the last entry
  abbrev pub last_row : List Todo → Option Row
  last_row [] = None
  last_row (t ∷ []) = Some (row_of sc t)
  last_row (t ∷ u ∷ us) = last_row (u ∷ us)
