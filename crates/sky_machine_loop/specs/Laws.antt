-- In which worlds the machine runs.
use Rattle.std.specs.Prelude.{ℕ, List}
use Rattle.sky_base.specs.Name.{digested}
use Rattle.sky_base.specs.Op.{Answer}
use Rattle.sky_base.specs.Tree.{Script}
use Rattle.sky_base_law.specs.Lower.{names_world}
use Rattle.sky_machine_parts.specs.Made.{RunsOn}

-- in that of names, where a reference holds the digest of what it refers to
abbrev pub NamesRun : Type 0
NamesRun =
    (digest : List ℕ → List ℕ) (sc : Script) (reads : List ℕ → Answer (List ℕ)) → RunsOn (names_world (digested digest) sc reads) sc digest
