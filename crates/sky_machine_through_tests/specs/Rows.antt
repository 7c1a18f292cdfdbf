-- What the finder of the rows finds.
use Rattle.std.specs.Prelude.{ℕ, List, Bool, true, false, Option, Some, None}
use Rattle.sky_base.specs.Val.{Desc, known}
use Rattle.sky_base.specs.Res.{Object}
use Rattle.sky_base.specs.NameOrder.{name_eq}
use Rattle.sky_machine_through_tests.specs.declared.finder.Shelf.{Shelf}

-- whether it is the one that isn't there
abbrev pub is_lacking : Option (List ℕ) → List ℕ → Bool
is_lacking None n = false
is_lacking (Some m) n = name_eq m n

abbrev pub unless : {A : Type 0} → Bool → A → Option A
unless true x = None
unless false x = Some x

-- the same bytes for each name but the one that isn't there
abbrev pub shelved : Shelf → Desc (List ℕ) → Option (Object (List ℕ))
shelved s (known n) = unless (is_lacking s.lacks n) (Object.bytes s.bytes)
shelved s _ = None
