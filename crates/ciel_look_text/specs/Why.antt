-- Why a task was started: the shortest chain of needs from the result to it.
use Rattle.std.specs.Prelude.{◌≡◌, ◌≤◌, ◌⊎◌, ℕ, List, [], ◌∷◌, ◌++◌, Bool, true, false, ◌||◌, codes, cond, decimal, length, map, Option, Some, None, Contains}
use Rattle.std.specs.List.{list_any}
use Rattle.sky_base.specs.declared.object.TaskId.{TaskId}
use Rattle.ciel_look_tasks.specs.Known.{maker_as}
use Rattle.ciel_look_tasks.specs.Seen.{Order, Row, Seen, Taken, is_of, row_task}
use Rattle.ciel_look_tasks.specs.Tasks.{Start, same_task}
use Rattle.ciel_look_text.specs.Asked.{first_asked}
use Rattle.ciel_look_text.specs.Now.{Event, Now, after, began, closed, events, is_there, nothing_yet, taken, waits_for}
use Rattle.ciel_look_text.specs.Text.{start_said, text}
use Rattle.ciel_look_text.specs.Words.{counted, led, named}

-- ---- chains of needs

abbrev pub is_row : TaskId → List Row → Bool
is_row t rs = list_any (λ (r : Row). same_task t r.task) rs

-- the one task waits for a name that isn't there, and which the other one makes, that was started at some time
pub record Needs (s : Seen) (now : Now) (from : TaskId) (name : List ℕ) (to : TaskId) : Type 0 where
  pub waits : Contains (waits_for s now from) name
  pub lacks : is_there s now name ≡ false
  pub makes : maker_as name s.makers ≡ Some to
  pub started : is_row to s.rows ≡ true

-- the names by which the one task needs the other, one after another
abbrev pub Chain : Seen → Now → TaskId → List (List ℕ) → TaskId → Type 0
Chain s now from [] to = from ≡ to
Chain s now from (name ∷ names) to = (mid : TaskId) × Needs s now from name mid × Chain s now mid names to

-- from the result to a task, and none is shorter
pub record Shortest (s : Seen) (now : Now) (names : List (List ℕ)) (to : TaskId) : Type 0 where
  pub chain : Chain s now TaskId.Show names to
  pub least : (others : List (List ℕ)) → Chain s now TaskId.Show others to → length names ≤ length others

-- ---- the lines

abbrev pub chain_said : Seen → List (List ℕ) → List ℕ
chain_said s names = led (codes "show result waits for ") (codes ", that waits for ") (map (named s.known) names)

-- why a task is started just now: it is the result, or the result needs it by this shortest chain, or by none
abbrev pub Reason : Seen → Now → TaskId → List ℕ → Type 0
Reason s now TaskId.Show said = said ≡ codes "the result itself"
Reason s now (TaskId.Of n) said =
    ((names : List (List ℕ)) × Shortest s now names (TaskId.Of n) × (said ≡ chain_said s names))
    ⊎ (((names : List (List ℕ)) → Chain s now TaskId.Show names (TaskId.Of n) → ⊥) × (said ≡ codes "nobody is seen to wait for it"))

abbrev pub why_start : Order → (reason : List ℕ) → List ℕ
why_start o reason = start_said o.again o.start ++ (codes ": " ++ reason)

-- a start of the task is told with its reason, one of another task isn't
abbrev pub SaysStart : Seen → Now → TaskId → Order → Bool → List (List ℕ) → Type 0
SaysStart s now t o true lines = (reason : List ℕ) × Reason s now t reason × (lines ≡ why_start o reason ∷ [])
SaysStart s now t o false lines = lines ≡ []

-- the first of these starts that is of the task
abbrev pub cut_start : TaskId → List Start → Option Start
cut_start t [] = None
cut_start t (x ∷ xs) = cond (same_task t x.1.1.1) (Some x) (cut_start t xs)

abbrev pub ends_said : ℕ → List ℕ
ends_said n = counted n (codes " end") (codes " ends")

-- a loss cut an order of the task
abbrev pub cut_said : Taken → Start → List ℕ
cut_said l x =
    (codes "start " ++ decimal x.0)
    ++ ((codes " was cut: worker " ++ decimal l.loss.0) ++ (codes " was lost, after " ++ ends_said l.loss.1))

-- it took what the task had made
abbrev pub took_said : Taken → List ℕ
took_said l = (codes "what it had made was lost with worker " ++ decimal l.loss.0) ++ (codes ", after " ++ ends_said l.loss.1)

abbrev pub is_maker : TaskId → Option TaskId → Bool
is_maker t None = false
is_maker t (Some u) = same_task u t

-- an object that the task makes, or its stack
abbrev pub takes : Seen → TaskId → Taken → Bool
takes s t l = list_any (same_task t) l.stacked || list_any (λ name. is_maker t (maker_as name s.makers)) l.objects

abbrev pub loss_lines : Seen → TaskId → Taken → Option Start → List (List ℕ)
loss_lines s t l (Some x) = cut_said l x ∷ []
loss_lines s t l None = cond (takes s t l) (took_said l ∷ []) []

-- what is told of what happens now
abbrev pub Says : Seen → Now → TaskId → Event → List (List ℕ) → Type 0
Says s now t (began o) lines = SaysStart s now t o (is_of t o) lines
Says s now t (closed o) lines = lines ≡ []
Says s now t (taken l) lines = lines ≡ loss_lines s t l (cut_start t l.cut_starts)

-- of all that happens from now on, one after another
abbrev pub SaysAll : Seen → Now → TaskId → List Event → List (List ℕ) → Type 0
SaysAll s now t [] lines = lines ≡ []
SaysAll s now t (e ∷ es) lines =
    (here : List (List ℕ)) × (later : List (List ℕ)) × Says s now t e here × SaysAll s (after e now) t es later × (lines ≡ here ++ later)

-- the text says why the task was started, from the beginning of the run on
abbrev pub IsWhy : Seen → TaskId → List ℕ → Type 0
IsWhy s t bytes = (lines : List (List ℕ)) × SaysAll s nothing_yet t (events s) lines × (bytes ≡ text lines)

-- of the first task that has these digits
abbrev pub IsWhyOf : (digits : List ℕ) → Seen → List ℕ → Type 0
IsWhyOf digits s bytes = (t : TaskId) × (first_asked digits (map row_task s.rows) ≡ Some t) × IsWhy s t bytes

-- ---- of inner calls

-- the text of these events was put
abbrev pub PutsAll : Seen → Now → TaskId → List Event → (old new : List ℕ) → Type 0
PutsAll s now t es old new = (more : List (List ℕ)) × SaysAll s now t es more × (new ≡ old ++ text more)
