-- A run in lines of text, as it is seen.
use Rattle.std.specs.Prelude.{ℕ, zero, suc, ◌-◌, ◌^◌, List, [], ◌∷◌, ◌++◌, Bool, codes, cond, decimal, flat_map, length, map, min}
use Rattle.std.specs.List.{filter, sum}
use Rattle.ciel_look_shown.specs.Plain.{shown}
use Rattle.ciel_look_told.specs.Told as told
use Rattle.ciel_look_told.specs.Told.{Outcome}
use Rattle.ciel_look_words.specs.Words.{digits}
use Rattle.ciel_look_tasks.specs.Known.{Named}
use Rattle.ciel_look_tasks.specs.Seen as seen
use Rattle.ciel_look_tasks.specs.Seen.{Close, Order, Row, Seen, Taken}
use Rattle.ciel_look_tasks.specs.Tasks.{Start}
use Rattle.ciel_look_text.specs.Words.{counted, if_any, led, row, task_name, words_of}

-- ---- how much was made

-- as far as a number of 64 bits goes
abbrev pub capped : ℕ → ℕ
capped n = min n (2 ^ 64 - 1)

abbrev pub total : List ℕ → ℕ
total weights = capped (sum weights)

abbrev pub made_by : Close → ℕ
made_by seen.out = 0
made_by seen.lost = 0
made_by (seen.told (told.made weights) waits) = total weights
made_by (seen.told (told.saved j weight) waits) = 0
made_by (seen.told (told.answered weight) waits) = 0
made_by (seen.told (told.failed fault) waits) = 0
made_by (seen.told (told.missing name loss) waits) = 0

abbrev pub made_of : Order → ℕ
made_of o = made_by o.close

-- ---- an order

-- the wait from which it goes on, if there is one
abbrev pub from_said : ℕ → List ℕ
from_said n = if_any n (codes " from wait " ++ decimal n)

-- of several objects how many
abbrev pub several : ℕ → List ℕ
several n = if_any (n - 1) (counted n (codes " object of ") (codes " objects of "))

abbrev pub outcome_said : List Named → Outcome → (waits : List (List ℕ)) → List ℕ
outcome_said known (told.made weights) waits =
    codes ", made " ++ (several (length weights) ++ counted (total weights) (codes " byte") (codes " bytes"))
outcome_said known (told.saved j weight) waits = codes ", waits for " ++ row known waits
outcome_said known (told.answered weight) waits = codes ", shows " ++ counted weight (codes " byte") (codes " bytes")
outcome_said known (told.failed fault) waits = codes ", shows a fault"
outcome_said known (told.missing name loss) waits = codes ", missed " ++ digits name

abbrev pub close_said : List Named → Close → List ℕ
close_said known seen.out = codes ", still out"
close_said known seen.lost = codes ", lost with its worker"
close_said known (seen.told outcome waits) = outcome_said known outcome waits

-- its number, its worker, and the wait
abbrev pub start_said : (again : Bool) → Start → List ℕ
start_said again s =
    cond again (codes "again start ") (codes "start ") ++ (decimal s.0 ++ ((codes " at worker " ++ decimal s.1.0) ++ from_said s.1.1.0))

abbrev pub order_said : List Named → Order → List ℕ
order_said known o = start_said o.again o.start ++ close_said known o.close

-- ---- a task

abbrev pub more_starts : ℕ → List ℕ
more_starts n = if_any n (codes "; and " ++ counted n (codes " more start") (codes " more starts"))

abbrev pub task_line : List Named → Row → List ℕ
task_line known r =
    task_name r.task ++ (words_of r.desc ++ (led (codes ": ") (codes "; ") (map (order_said known) r.orders) ++ more_starts r.others))

-- ---- a loss

-- what it took, part by part: objects, stacks, orders that were out
abbrev pub objects_part : List Named → List (List ℕ) → List (List ℕ)
objects_part known [] = []
objects_part known (n ∷ ns) = row known (n ∷ ns) ∷ []

abbrev pub stacks_part : ℕ → List (List ℕ)
stacks_part zero = []
stacks_part (suc n) = counted (suc n) (codes " stack") (codes " stacks") ∷ []

abbrev pub cut_part : List ℕ → List (List ℕ)
cut_part [] = []
cut_part (n ∷ ns) = led (codes "start ") (codes ", start ") (map decimal (n ∷ ns)) ∷ []

abbrev pub took_parts : List Named → Taken → List (List ℕ)
took_parts known l = objects_part known l.objects ++ (stacks_part l.stacks ++ cut_part l.cut)

abbrev pub parts_said : List (List ℕ) → List ℕ
parts_said [] = codes "nothing"
parts_said (p ∷ ps) = led [] (codes "; ") (p ∷ ps)

abbrev pub took : List Named → Taken → List ℕ
took known l = parts_said (took_parts known l)

abbrev pub loss_line : List Named → Taken → List ℕ
loss_line known l =
    (codes "worker " ++ decimal l.loss.0)
    ++ (codes " was lost after " ++ (counted l.loss.1 (codes " end") (codes " ends") ++ (codes "; it took " ++ took known l)))

-- ---- all of it

abbrev pub is_again : Order → Bool
is_again o = o.again

abbrev pub sum_said : (starts tasks again losses copies bytes : ℕ) → List ℕ
sum_said starts tasks again losses copies bytes =
    (counted starts (codes " start") (codes " starts") ++ (codes " of " ++ counted tasks (codes " task, ") (codes " tasks, ")))
    ++ (counted again (codes " begun again, ") (codes " begun again, ")
    ++ (counted losses (codes " loss, ") (codes " losses, ")
    ++ (counted copies (codes " copy, ") (codes " copies, ") ++ counted bytes (codes " byte made") (codes " bytes made"))))

abbrev pub sum_line : Seen → List ℕ
sum_line s =
    sum_said (length s.orders) (length s.rows) (length (filter is_again s.orders)) (length s.losses) s.copies
    (capped (sum (map made_of s.orders)))

-- a line for each task, in the order of their first starts; one for each loss; and a sum
abbrev pub lines_of : Seen → List (List ℕ)
lines_of s = map (task_line s.known) s.rows ++ (map (loss_line s.known) s.losses ++ sum_line s ∷ [])

-- each as it is shown, and its end
abbrev pub ended : List ℕ → List ℕ
ended line = shown line ++ 10 ∷ []

abbrev pub text : List (List ℕ) → List ℕ
text lines = flat_map ended lines
