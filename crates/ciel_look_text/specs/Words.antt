-- The words that lines are made of.
use Rattle.std.specs.Prelude.{ℕ, zero, suc, ◌-◌, List, [], ◌∷◌, ◌++◌, codes, cond, decimal, length, map, nat_eq, take, Option, Some, None}
use Rattle.sky_base.specs.Val.{Desc}
use Rattle.sky_base.specs.declared.object.TaskId.{TaskId}
use Rattle.ciel_look_words.specs.Words.{digits, words}
use Rattle.ciel_look_tasks.specs.Known.{Named, known_as}

-- how many there are of something
abbrev pub counted : ℕ → (one more : List ℕ) → List ℕ
counted n one more = decimal n ++ cond (nat_eq n 1) one more

-- each behind `first`, from the second on behind `more`
abbrev pub led : (first more : List ℕ) → List (List ℕ) → List ℕ
led first more [] = []
led first more (x ∷ xs) = first ++ (x ++ led more more xs)

-- nothing, where there are none
abbrev pub if_any : ℕ → List ℕ → List ℕ
if_any zero x = []
if_any (suc n) x = x

-- ---- names

-- a task, by the first digits of its name
abbrev pub task_name : TaskId → List ℕ
task_name TaskId.Show = codes "show result"
task_name (TaskId.Of name) = digits name

-- the words of a description, behind a space, where it is known
abbrev pub words_of : Option (Desc (List ℕ)) → List ℕ
words_of None = []
words_of (Some d) = codes " " ++ words d

-- a name, by its first digits, with the words of what it names
abbrev pub named : List Named → List ℕ → List ℕ
named known n = digits n ++ words_of (known_as n known)

-- how many others there are
abbrev pub and_more : ℕ → List ℕ
and_more n = if_any n ((codes " and " ++ decimal n) ++ codes " more")

-- the first eight names, and how many others there are
abbrev pub row : List Named → List (List ℕ) → List ℕ
row known [] = codes "nothing"
row known (n ∷ ns) = led [] (codes ", ") (map (named known) (take 8 (n ∷ ns))) ++ and_more (length (n ∷ ns) - 8)
