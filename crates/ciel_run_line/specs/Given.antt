-- What the executors of a line give: those over lines, and before them the entries of the memo's file that it reads.
use Rattle.std.specs.Prelude.{◌≡◌, ℕ, List, [], Option, Some, None}
use Rattle.sky_base.specs.KitView.{Gives}
use Rattle.line_kit.specs.Gives.{gives}
use Rattle.ciel_memo.specs.Gives.{memo_gives}
use Rattle.ciel_memo_file.specs.Entries.{Entry}
use Rattle.ciel_memo_file.specs.File.{IsMemo}
use Rattle.ciel_words.specs.declared.words.Words.{Words}

-- by the path of the memo's file that is read, if there is one: what executors over lines give; before them the entries of the file, where it is
-- told and is a memo's
abbrev pub GivesAt : (List ℕ → Option (List ℕ)) → (memo : Option (List ℕ)) → Gives → Type 0
GivesAt content None g = g ≡ gives
GivesAt content (Some path) g =
    (bytes : List ℕ) × (es : List Entry) × (content path ≡ Some bytes) × IsMemo bytes es × (g ≡ memo_gives gives es)

abbrev pub GivesOf : (List ℕ → Option (List ℕ)) → Words → Gives → Type 0
GivesOf content w g = GivesAt content w.memo g

-- what is given where there is a memo of these entries, or none
abbrev pub given_by : Option (List Entry) → Gives
given_by None = gives
given_by (Some es) = memo_gives gives es

-- ---- the entries that a memo begins with

-- by the path of the file that is read, if there is one: none; or those of the file, where it is told
abbrev pub BeginsWith : (List ℕ → Option (List ℕ)) → (memo : Option (List ℕ)) → List Entry → Type 0
BeginsWith content None es = es ≡ []
BeginsWith content (Some path) es = (bytes : List ℕ) → content path ≡ Some bytes → IsMemo bytes es

-- none; or those of the file, which is told
abbrev pub HoldsAt : (List ℕ → Option (List ℕ)) → (memo : Option (List ℕ)) → List Entry → Type 0
HoldsAt content None es = es ≡ []
HoldsAt content (Some path) es = (bytes : List ℕ) × (content path ≡ Some bytes) × IsMemo bytes es

-- the file that is read is a memo's, where it is told
abbrev pub IsRecalled : (List ℕ → Option (List ℕ)) → (memo : Option (List ℕ)) → Type 0
IsRecalled content memo = (path bytes : List ℕ) → memo ≡ Some path → content path ≡ Some bytes → (es : List Entry) × IsMemo bytes es

-- it is told, and is a memo's
abbrev pub HasMemo : (List ℕ → Option (List ℕ)) → (memo : Option (List ℕ)) → Type 0
HasMemo content memo = (path : List ℕ) → memo ≡ Some path → (bytes : List ℕ) × (es : List Entry) × (content path ≡ Some bytes) × IsMemo bytes es

-- the path of the memo's file, whether it is begun or read first
abbrev pub memo_at : (memo_new memo : Option (List ℕ)) → Option (List ℕ)
memo_at None memo = memo
memo_at (Some path) memo = Some path

abbrev pub memo_path : Words → Option (List ℕ)
memo_path w = memo_at w.memo_new w.memo
