-- What objects that are known have to do with the descriptions that they are the objects of.
use Rattle.std.specs.Prelude.{◌≡◌, ℕ, List, Option, Some}
use Rattle.sky_base.specs.Name.{low}
use Rattle.sky_base.specs.Res.{Object}
use Rattle.sky_base.specs.See.{Val, Desc, Obj, Job, Around, see}
use Rattle.sky_base_known.specs.Text.{text_of as writes}
use Rattle.sky_base_law.specs.Lower.{low_obj, low_ref}
use Rattle.sky_base_law.specs.NamesLaws.{Tag, no_name}
use Rattle.sky_base_law.specs.Tasks.{In}
use Rattle.sky_base_known.specs.Walk.{Row}

-- a value is written as JSON, and so is the value with each description replaced by its name
abbrev pub WritesAlike : Tag → Around → Type 0
WritesAlike tag around = (a : Val) → writes (low no_name tag a) ≡ around.writes a

module _ (job : Job) (around : Around) (tag : Tag) where
  -- d is seen at n, and this is what is seen, over names
  abbrev pub Sees : ℕ → Desc → Object (List ℕ) → Type 0
  Sees n d o = (p : Obj) × (see job around n d ≡ Some p) × (low_obj no_name tag p ≡ o)

  -- each of these is seen at n as the object that is known for its name
  abbrev pub SeenAsKnown : ℕ → (Row → Option (Object (List ℕ))) → List Desc → Type 0
  SeenAsKnown n knows ds =
      (d : Desc) → In d ds → (o : Object (List ℕ)) × (knows (low_ref no_name tag d) ≡ Some o) × Sees n d o
