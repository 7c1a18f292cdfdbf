-- Entries that are right.
use Rattle.std.specs.Prelude.{◌≡◌, Ok, length}
use Rattle.sky_base.specs.KitView.{Gives}
use Rattle.ciel_memo_file.specs.Entries.{Entry}

-- what was made is what is given for the key
abbrev pub IsRight : Gives → Entry → Type 0
IsRight g e = g e.executor e.args e.inputs (length e.made) ≡ Ok e.made
