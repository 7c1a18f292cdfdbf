-- The rule of a stream of pieces.
use Rattle.std.specs.Prelude.{◌≡◌, ◌≤◌, ◌*◌, ℕ, List, [], ◌∷◌, ◌++◌, length, Option, Some, None, Ok}
use Rattle.crossbeam_channel.specs.Claims.{Pass, view}
use Rattle.sky_base.specs.declared.value.Value.{Value}
use Rattle.ciel_flow_pieces.specs.Source.{aside, output}
use Rattle.ciel_flow_pieces.specs.declared.piece.Knows.{Knows}
use Rattle.ciel_flow_pieces.specs.declared.piece.Piece.{Piece}
use Rattle.ciel_flow_pieces.specs.declared.piece.Piece.TheVariants.{Part, End, Broken}
use Rattle.ciel_flow_pieces.specs.declared.piece.Role.TheVariants.{Alone, Producer, Follower}
use Rattle.ciel_flow_pieces.specs.declared.piece.Source.{Source}

-- ---- the pieces that were put

-- the bytes of the parts
abbrev pub parts : List Piece → List ℕ
parts [] = []
parts (Part p ∷ xs) = p ++ parts xs
parts (End ∷ xs) = parts xs
parts (Broken ∷ xs) = parts xs

-- none of them is the last one
abbrev pub AllParts : List Piece → Type 0
AllParts [] = Unit {0}
AllParts (Part p ∷ xs) = AllParts xs
AllParts (End ∷ xs) = ⊥
AllParts (Broken ∷ xs) = ⊥

abbrev pub NoParts : List Piece → Type 0
NoParts [] = Unit {0}
NoParts (Part p ∷ xs) = ⊥
NoParts (End ∷ xs) = NoParts xs
NoParts (Broken ∷ xs) = NoParts xs

abbrev pub Ends : List Piece → Type 0
Ends [] = ⊥
Ends (Part p ∷ xs) = Ends xs
Ends (End ∷ xs) = Unit {0}
Ends (Broken ∷ xs) = Ends xs

abbrev pub IsNone : List Piece → Type 0
IsNone [] = Unit {0}
IsNone (x ∷ xs) = ⊥

-- an end stands only last
abbrev pub OnlyLast : List Piece → Type 0
OnlyLast [] = Unit {0}
OnlyLast (Part p ∷ xs) = OnlyLast xs
OnlyLast (End ∷ xs) = IsNone xs
OnlyLast (Broken ∷ xs) = IsNone xs

-- the most bytes of a part
abbrev pub most_of_a_piece : ℕ
most_of_a_piece = 65536

abbrev pub IsShort : Piece → Type 0
IsShort (Part p) = length p ≤ most_of_a_piece
IsShort End = Unit {0}
IsShort Broken = Unit {0}

-- each part has at most so many bytes
abbrev pub AllShort : List Piece → Type 0
AllShort [] = Unit {0}
AllShort (x ∷ xs) = IsShort x × AllShort xs

-- they have the first bytes; where there are none to be had they have no part
abbrev pub PartsFit : Option (List ℕ) → List Piece → Type 0
PartsFit None xs = NoParts xs
PartsFit (Some whole) xs = (rest : List ℕ) × (parts xs ++ rest ≡ whole)

-- what may be put of an output
pub record LawOf (s : Source) (xs : List Piece) : Type 0 where
  pub last : OnlyLast xs
  pub short : AllShort xs
  pub first : PartsFit (aside s) xs
  pub whole : Ends xs → output s ≡ Ok (parts xs)

-- ---- passes

abbrev pub nothing : Source
nothing = record { executor = []; args = Value.Null; outputs = 0; index = 0; inputs = Ok [] }

abbrev pub alone : Knows
alone = record { role = Alone; source = nothing; put = []; taken = [] }

abbrev pub producer : Source → List Piece → Knows
producer s put = record { role = Producer; source = s; put = put; taken = [] }

abbrev pub follower : Source → List Piece → Knows
follower s taken = record { role = Follower; source = s; put = []; taken = taken }

-- what was taken, and then what lies there, is what was put
pub record Both (items : List Piece) (views : List Knows) : Type 0 where
  pub source : Source
  pub put : List Piece
  pub taken : List Piece
  pub views_are : views ≡ producer source put ∷ follower source taken ∷ []
  pub flows : taken ++ items ≡ put
  pub law : LawOf source put

pub data Stands (items : List Piece) (views : List Knows) : Type 0 where
  opened : items ≡ [] → views ≡ alone ∷ [] → Stands items views
  both : Both items views → Stands items views

-- of what lies there, so many pieces have at most so many times the most bytes of a part
abbrev pub FewLieThere : Type 0
FewLieThere = (items : List Piece) (views : List Knows) → Stands items views → length (parts items) ≤ length items * most_of_a_piece

-- ---- steps

abbrev pub HasPut : Knows → Piece → Knows → Type 0
HasPut v x w = w ≡ record v { put = v.put ++ x ∷ [] }

abbrev pub HasTaken : Knows → Piece → Knows → Type 0
HasTaken v x w = (w ≡ record v { taken = v.taken ++ x ∷ [] }) × LawOf v.source (v.taken ++ x ∷ [])

abbrev pub MayPut : Knows → Piece → Type 0
MayPut v x = (v.role ≡ Producer) × LawOf v.source (v.put ++ x ∷ [])

abbrev pub MayTake : Knows → Type 0
MayTake v = v.role ≡ Follower

-- ---- what contracts see

abbrev pub known : {X V : Type 0} → Pass X V → V
known p = view p

pub record StreamSeen : Type 0 where
  pub source : Source
  pub pieces : List Piece

abbrev pub producer_seen : Knows → StreamSeen
producer_seen v = record { source = v.source; pieces = v.put }

abbrev pub follower_seen : Knows → StreamSeen
follower_seen v = record { source = v.source; pieces = v.taken }
