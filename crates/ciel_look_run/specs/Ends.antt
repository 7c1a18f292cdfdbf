-- How the program ends, and what it has written.
use Rattle.std.specs.Prelude.{◌≡◌, ◌⊎◌, ◌<◌, ℕ, List, true, false, Option, Some, None, IfSome, MatchOption, flat_map, length}
use Rattle.sky_base.specs.declared.object.TaskId.{TaskId}
use Rattle.ciel_io.specs.Faults.{HasRisen}
use Rattle.ciel_io.specs.Tells.{Tells as Grows, TellsPart}
use Rattle.ciel_look_sheet.specs.Picture.{IsPicture}
use Rattle.ciel_look_picture.specs.Nodes.{Shows}
use Rattle.ciel_look_shown.specs.Lines.{IsLines}
use Rattle.ciel_look_told.specs.Head.{Head}
use Rattle.ciel_look_story.specs.Story.{NotLog, Tells}
use Rattle.ciel_look_told.specs.Told.{Told}
use Rattle.ciel_look_tasks.specs.Seen.{IsSeenOf, Seen}
use Rattle.ciel_look_tasks.specs.Tasks.{begun}
use Rattle.ciel_look_text.specs.Asked.{any_has, is_started}
use Rattle.ciel_look_text.specs.Text as lines
use Rattle.ciel_look_text.specs.Text.{lines_of}
use Rattle.ciel_look_text.specs.Why.{IsWhyOf}
use Rattle.ciel_look_run.specs.Line as line
use Rattle.ciel_look_run.specs.Line.{Asked, line_of}
use Rattle.ciel_io.specs.declared.files.FileRefusal.{FileRefusal}
use Rattle.ciel_look_story.specs.declared.story.NoStory.{NoStory}
use Rattle.ciel_look_run.specs.declared.ends.Why.{Why}

-- the greatest length of a log
abbrev pub most : ℕ
most = 268435456

-- what was asked is written so
abbrev pub IsWritten : Asked → List ℕ → Type 0
IsWritten line.text text = IsLines text
IsWritten (line.why digits) text = IsLines text
IsWritten line.picture text = IsPicture text

-- the file, where it is told, is a log of which is told what is said of it
abbrev pub HasStory : Option (List ℕ) → (Head → List Told → Type 0) → Type 0
HasStory content P = IfSome content (λ log. (head : Head) × (ts : List Told) × Tells log head ts × P head ts)

-- what is asked is there: some of the tasks has these first digits, where they are asked for
abbrev pub IsThere : Asked → List TaskId → Type 0
IsThere line.text tasks = Unit {0}
IsThere (line.why digits) tasks = any_has digits tasks ≡ true
IsThere line.picture tasks = Unit {0}

-- the starts that are told are of such a task
abbrev pub IsTold : Asked → Head → List Told → Type 0
IsTold asked head ts = IsThere asked (flat_map begun ts)

-- the text is, line by line, of what is seen, or says why the task was started; the picture shows it
abbrev pub IsOf : Asked → Seen → List ℕ → Type 0
IsOf line.text s text = text ≡ lines.text (lines_of s)
IsOf (line.why digits) s text = IsWhyOf digits s text
IsOf line.picture s text = Shows s text

-- of a run that is seen as it was told
abbrev pub IsOfTold : Asked → List ℕ → Head → List Told → Type 0
IsOfTold asked text head ts = (s : Seen) × IsSeenOf head ts s × IsOf asked s text

-- the cause of each end, where the words name this path and ask so: of the file at the path, and of the files' faults before and after
abbrev pub Because : Option (List ℕ) → (before after : ℕ) → List ℕ × Asked → Why → Type 0
Because content before after l Why.Done = HasStory content (IsTold l.1)
Because content before after l Why.Usage = ⊥
Because content before after l (Why.ReadFault path) = (path ≡ l.0) × HasRisen before after
Because content before after l (Why.TooLong path) = (path ≡ l.0) × IfSome content (λ log. most < length log)
Because content before after l (Why.NotLog path at) = (path ≡ l.0) × IfSome content (λ log. NotLog log at)
Because content before after l (Why.NoTask digits) = (l.1 ≡ line.why digits) × HasStory content (λ head ts. is_started digits ts ≡ false)
Because content before after l Why.WriteFault = HasStory content (IsTold l.1)
Because content before after l Why.Memory = Unit {0}

-- where the words are no line, that is said, but for want of memory
abbrev pub IsNoLine : Why → Type 0
IsNoLine why = (why ≡ Why.Usage) ⊎ (why ≡ Why.Memory)

-- what the output holds afterwards: with an end that is Done what was asked, of which P is said; where it failed a first part of that; else what
-- it held
abbrev pub WroteSo : (List ℕ → Type 0) → Option (List ℕ) → Option (List ℕ) → (before after : ℕ) → Asked → Why → Type 0
WroteSo P had has before after asked Why.Done = (text : List ℕ) × IsWritten asked text × P text × Grows had has text
WroteSo P had has before after asked Why.WriteFault =
    (text : List ℕ) × IsWritten asked text × P text × TellsPart had has text × HasRisen before after
WroteSo P had has before after asked why = has ≡ had

-- what was asked of the file, where it is told: the text is of what the file tells
abbrev pub Wrote : Option (List ℕ) → Option (List ℕ) → Option (List ℕ) → (before after : ℕ) → Asked → Why → Type 0
Wrote content had has before after asked why =
    WroteSo (λ text. HasStory content (IsOfTold asked text)) had has before after asked why

-- ---- of inner calls

-- a text was put, or a first part of it
abbrev pub Put : Option (List ℕ) → Option (List ℕ) → (before after : ℕ) → List ℕ → Why → Type 0
Put had has before after text Why.Done = Grows had has text
Put had has before after text Why.WriteFault = TellsPart had has text × HasRisen before after
Put had has before after text why = ⊥

-- no end that wrote something
abbrev pub IsUnwritten : Why → Type 0
IsUnwritten Why.Done = ⊥
IsUnwritten Why.WriteFault = ⊥
IsUnwritten why = Unit {0}

-- the ends that come where there is a story, with these tasks
abbrev pub IsWriteEnd : List TaskId → Asked → Why → Type 0
IsWriteEnd tasks asked Why.Done = IsThere asked tasks
IsWriteEnd tasks asked Why.WriteFault = IsThere asked tasks
IsWriteEnd tasks asked Why.Memory = Unit {0}
IsWriteEnd tasks asked (Why.NoTask digits) = (asked ≡ line.why digits) × (any_has digits tasks ≡ false)
IsWriteEnd tasks asked why = ⊥

-- no task has such a name, or there was no memory to say so
abbrev pub NoTaskOf : List ℕ → Why → Type 0
NoTaskOf digits why = (why ≡ Why.NoTask digits) ⊎ (why ≡ Why.Memory)

-- why a file wasn't read, or there was no memory to say so
abbrev pub Unread : List ℕ → FileRefusal → Why → Type 0
Unread path FileRefusal.Failed why = (why ≡ Why.ReadFault path) ⊎ (why ≡ Why.Memory)
Unread path (FileRefusal.TooLong limit) why = (why ≡ Why.TooLong path) ⊎ (why ≡ Why.Memory)
Unread path FileRefusal.Memory why = why ≡ Why.Memory

-- why a file has no story, or there was no memory to say so
abbrev pub Untold : List ℕ → NoStory → Why → Type 0
Untold path (NoStory.NotLog at) why = (why ≡ Why.NotLog path at) ⊎ (why ≡ Why.Memory)
Untold path NoStory.Memory why = why ≡ Why.Memory
