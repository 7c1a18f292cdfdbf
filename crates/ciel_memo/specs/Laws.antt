-- Laws of what a kit with entries gives.
use Rattle.std.specs.Prelude.{◌≡◌, ℕ, List, [], is_some}
use Rattle.sky_base.specs.KitView.{Gives}
use Rattle.sky_base_law.specs.Tasks.{Each}
use Rattle.line_kit.specs.Gives.{gives}
use Rattle.line_kit.specs.Table.{executor_of}
use Rattle.ciel_memo_file.specs.Entries.{Entry}
use Rattle.ciel_memo.specs.Gives.{knows, memo_gives}
use Rattle.ciel_memo.specs.Right.{IsRight}

-- with no entries a kit gives what the inner one does
abbrev pub NoneIsPlain : Type 0
NoneIsPlain = (g : Gives) → memo_gives g [] ≡ g

-- with entries that are what the inner kit gives, so too
abbrev pub RightIsPlain : Type 0
RightIsPlain = (g : Gives) (es : List Entry) → Each (IsRight g) es → memo_gives g es ≡ g

-- and what is right for the kit with such entries is right for the inner one
abbrev pub RightStays : Type 0
RightStays = (g : Gives) (es new : List Entry) → Each (IsRight g) es → Each (IsRight (memo_gives g es)) new → Each (IsRight g) new

-- the executors that are known are those of the table
abbrev pub KnowsTable : Type 0
KnowsTable = (executor : List ℕ) → knows gives executor ≡ is_some (executor_of executor)
