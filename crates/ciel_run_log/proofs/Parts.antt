-- Pieces put one after another, each whole but the last, which may be put in part.
use Rattle.std.proofs.Common.{◌≡◌, ℕ, List, [], ◌++◌, Option, sym, subst, ◌∙◌}
use Rattle.std.proofs.lemmas.List.{append-nil}
use Rattle.ciel_io.specs.Tells.{Tells, TellsPart}
use Rattle.ciel_io.proofs.Joined.{part_more, tells_none}

-- the first one, of many
pub front_part : (b n : Option (List ℕ)) (q rest : List ℕ) → TellsPart b n q → TellsPart b n (q ++ rest)
front_part b n q rest h = part_more b b n [] q rest (tells_none b) h

-- the last one
pub last_part : (b m n : Option (List ℕ)) (p q : List ℕ) → Tells b m p → TellsPart m n q → TellsPart b n (p ++ q)
last_part b m n p q g h = subst (λ (y : List ℕ). TellsPart b n (p ++ y)) (append-nil q) (part_more b m n p q [] g h)
