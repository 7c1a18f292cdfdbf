-- Lines of text.
use Rattle.std.specs.Prelude.{◌≡◌, ◌⊎◌, ℕ, List}
use Rattle.std.specs.List.{All}
use Rattle.ciel_look_shown.specs.Plain.{IsPrintable}

-- no control character but the ends of lines
abbrev pub IsLines : List ℕ → Type 0
IsLines text = All (λ b. IsPrintable b ⊎ (b ≡ 10)) text
