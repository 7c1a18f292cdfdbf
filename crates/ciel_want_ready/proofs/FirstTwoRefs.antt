-- What a value refers to is found in order, up to the second.
use Rattle.std.proofs.Common.{◌≡◌, ℕ, List, [], ◌∷◌, ◌++◌, true, refl}
use Rattle.sky_base.specs.Name.{held_name}
use Rattle.sky_base.specs.Val.{Desc}
use Rattle.ciel_want_ready.specs.Reading.{and_all, and_one, is_more}
use Rattle.ciel_want_ready.specs.declared.reads.Reads.{Reads}

pub all_append : (r : Reads) (ds es : List (Desc (List ℕ))) → and_all r (ds ++ es) ≡ and_all (and_all r ds) es
all_append r [] es = refl
all_append r (d ∷ ds) es = all_append (and_one r (held_name d)) ds es

pub all_more : (ds : List (Desc (List ℕ))) → and_all Reads.More ds ≡ Reads.More
all_more [] = refl
all_more (d ∷ ds) = all_more ds

-- the second is enough
pub more_stays : (r : Reads) (ds : List (Desc (List ℕ))) → is_more r ≡ true → and_all r ds ≡ r
more_stays Reads.Nothing ds h = cc
more_stays (Reads.One n) ds h = cc
more_stays Reads.More ds h = all_more ds

-- nothing, one thing once, or more
pub none_read : (ds : List (Desc (List ℕ))) → and_all Reads.Nothing ds ≡ Reads.Nothing → ds ≡ []
none_read [] h = refl
none_read (d ∷ []) h = cc
none_read (d ∷ e ∷ ds) h = let p = all_more ds in cc

pub one_read : (ds : List (Desc (List ℕ))) (n : List ℕ) → and_all Reads.Nothing ds ≡ Reads.One n → (d : Desc (List ℕ)) × (ds ≡ d ∷ [])
    × (held_name d ≡ n)
one_read [] n h = cc
one_read (d ∷ []) n h = (d, refl, cc)
one_read (d ∷ e ∷ ds) n h = let p = all_more ds in cc
