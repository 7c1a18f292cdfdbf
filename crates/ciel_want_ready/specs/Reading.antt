-- What a value refers to, as far as it matters to a task that reads one thing.
use Rattle.std.specs.Prelude.{ℕ, List, [], ◌∷◌, Bool, true, false}
use Rattle.sky_base.specs.Name.{held_name}
use Rattle.sky_base.specs.Val.{Desc}
use Rattle.ciel_want_ready.specs.declared.reads.Reads.{Reads}

-- and one thing more
abbrev pub and_one : Reads → List ℕ → Reads
and_one Reads.Nothing n = Reads.One n
and_one (Reads.One m) n = Reads.More
and_one Reads.More n = Reads.More

-- and all of these
abbrev pub and_all : Reads → List (Desc (List ℕ)) → Reads
and_all r [] = r
and_all r (d ∷ ds) = and_all (and_one r (held_name d)) ds

abbrev pub is_more : Reads → Bool
is_more Reads.Nothing = false
is_more (Reads.One m) = false
is_more Reads.More = true
