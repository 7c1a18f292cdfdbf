-- How far a run goes where the objects of some descriptions are known, and which descriptions are held then.
use Rattle.std.specs.Prelude.{◌≡◌, ℕ, suc, List, [], ◌∷◌, ◌++◌, length, Bool, true, false, Option, Some, None, nat_lt, slice_get, ◌+◌, ◌*◌, zero}
use Rattle.sky_base.specs.Val.{Desc, known, same_text, stands_in}
use Rattle.sky_base.specs.Res.{Object, End, St, Res, Fin, Tell, Ask}
use Rattle.sky_base.specs.Read.{refs_of}
use Rattle.sky_base.specs.See.{slot}

-- how many descriptions a run may hold
unfoldable pub most_rows : ℕ
most_rows = 65536

-- a description in which numbers stand for others
abbrev pub Row : Type 0
Row = Desc (List ℕ)

abbrev pub Obj : Type 0
Obj = Object (List ℕ)

-- whether a description is held
abbrev pub is_held : Row → List Row → Bool
is_held d rows = stands_in same_text d rows

-- the objects of all that is waited for, or the first of these whose object isn't known
pub data Seen : Type 0 where
  all : List (Object (List ℕ)) → Seen
  lacks : Row → Seen

abbrev pub seen_more : Object (List ℕ) → Seen → Seen
seen_more o (Seen.all os) = Seen.all (o ∷ os)
seen_more o (Seen.lacks d) = Seen.lacks d

abbrev pub seen_one : Option (Object (List ℕ)) → Row → Seen → Seen
seen_one None d rest = Seen.lacks d
seen_one (Some o) d rest = seen_more o rest

-- how a run stops: it ends, or it waits for what isn't known, or it makes one description too many
pub data Stop : Type 0 where
  ended : End (List ℕ) → St (List ℕ) → Stop
  waits : Row → Stop
  full : Row → Stop

pub record Walked : Type 0 where
  -- the descriptions that are held then, in the order in which they were first made
  pub rows : List Row
  pub stop : Stop

abbrev pub stops : List Row → Stop → Walked
stops rows s = record { rows = rows; stop = s }

-- the descriptions that are held once one more is made, each held once; none where it is one too many
abbrev pub in_room : Bool → List Row → Row → Option (List Row)
in_room false rows d = None
in_room true rows d = Some (rows ++ d ∷ [])

abbrev pub if_new : Bool → List Row → Row → Option (List Row)
if_new true rows d = Some rows
if_new false rows d = in_room (nat_lt (length rows) most_rows) rows d

abbrev pub learn_to : List Row → Row → Option (List Row)
learn_to rows d = if_new (is_held d rows) rows d

abbrev pub on_learned : Option (List Row) → List Row → Row → (List Row → Walked) → Walked
on_learned None rows d k = stops rows (Stop.full d)
on_learned (Some more) rows d k = k more

abbrev pub on_seen : Seen → List Row → (List (Object (List ℕ)) → Walked) → Walked
on_seen (Seen.lacks d) rows k = stops rows (Stop.waits d)
on_seen (Seen.all os) rows k = k os

module _ (see : Row → Option (Object (List ℕ))) where
  abbrev pub look : List Row → Seen
  look [] = Seen.all []
  look (d ∷ ds) = seen_one (see d) d (look ds)

  -- a run, from these descriptions on
  abbrev pub walk : List Row → Res (List ℕ) → Walked
  walk rows (Fin e st) = stops rows (Stop.ended e st)
  walk rows (Tell d r) = on_learned (learn_to rows d) rows d (λ more. walk more r)
  walk rows (Ask w fr st k) = on_seen (look (refs_of w)) rows (λ os. walk rows (k os))

-- ---- numbers of descriptions

abbrev pub from_digits : ℕ → List ℕ → ℕ
from_digits n [] = n
from_digits n (b ∷ bs) = from_digits (n * 256 + b) bs

-- the number that a name ends with
abbrev pub number_of : List ℕ → ℕ
number_of name = from_digits 0 name

-- the object under a number, if it is known
abbrev pub object_at : List (Option (Object (List ℕ))) → ℕ → Option (Object (List ℕ))
object_at [] k = None
object_at (o ∷ os) zero = o
object_at (o ∷ os) (suc k) = object_at os k

abbrev pub is_known : Option (Object (List ℕ)) → Bool
is_known None = false
is_known (Some o) = true

-- what is known of a reference: the object under its number
abbrev pub known_of : List (Option (Object (List ℕ))) → Row → Option (Object (List ℕ))
known_of objects (known name) = object_at objects (number_of name)
known_of objects d = None

-- a reference to a description that is held has its number
abbrev pub Numbers : List Row → (Row → Row) → Type 0
Numbers rows make = (k : ℕ) (d : Row) → slice_get rows k ≡ Some d → make d ≡ known (slot k)
