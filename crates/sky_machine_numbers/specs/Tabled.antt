-- The tables by which a script is run.
use Rattle.std.specs.Prelude.{◌≡◌, ℕ, List}
use Rattle.sky_base.specs.Tree.{Script}
use Rattle.sky_machine_code.specs.FunPlace.{FindsEach}
use Rattle.sky_machine_code.specs.Numbers.{ends_of, starts_of}
use Rattle.sky_machine_code.specs.Parts.{Parted}

-- the places of functions by their names, the ends of nodes, the nodes of the functions' blocks, and for each node where its parts begin in the
-- list of all nodes' parts
pub record TablesSeen : Type 0 where
  pub places : List (List ℕ × ℕ)
  pub ends : List ℕ
  pub starts : List ℕ
  pub firsts : List ℕ
  pub parts : List ℕ

-- they are those of the script
pub record TablesOf (sc : Script) (t : TablesSeen) : Type 0 where
  pub places : FindsEach t.places sc.funs
  pub ends : t.ends ≡ ends_of sc
  pub starts : t.starts ≡ starts_of sc
  pub parts : Parted t.ends t.firsts t.parts
