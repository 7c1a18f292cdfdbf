-- What the code's headers and entries stand for.
use Rattle.std.specs.Prelude.{ℕ, List, map}
use Rattle.sky_base.specs.ObjectView.{desc_view}
use Rattle.ciel_look_told.specs.Head.{Head, Marks as MarksSeen}
use Rattle.ciel_look_told.specs.Told as seen
use Rattle.ciel_look_told.specs.declared.header.Header.{Header}
use Rattle.ciel_look_told.specs.declared.header.Input.{Input}
use Rattle.ciel_look_told.specs.declared.header.Marks.{Marks}
use Rattle.ciel_look_told.specs.declared.told.Ended.{Ended}
use Rattle.ciel_look_told.specs.declared.told.Outcome.{Outcome}
use Rattle.ciel_look_told.specs.declared.told.Told.{Told}

abbrev pub input_view : Input → List ℕ × List ℕ
input_view i = (i.key, i.mark)

abbrev pub marks_view : Marks → MarksSeen
marks_view m = (m.short, (m.script, map input_view m.inputs.items))

abbrev pub head_view : Header → Head
head_view h = (h.workers, (h.seed, (h.losses.items, marks_view h.job)))

abbrev pub outcome_view : Outcome → seen.Outcome
outcome_view (Outcome.Made weights) = seen.made weights.items
outcome_view (Outcome.Saved j weight waits) = seen.saved j weight
outcome_view (Outcome.Answer weight) = seen.answered weight
outcome_view (Outcome.Fault fault) = seen.failed fault
outcome_view (Outcome.Missing name loss) = seen.missing name loss

abbrev pub told_view : Told → seen.Told
told_view (Told.Start number worker from task) = seen.started number worker from task
told_view (Told.Ended e) = seen.ended e.number (map desc_view e.spawned.items) e.copied.items (outcome_view e.how)
told_view (Told.Lost worker after) = seen.lost worker after
told_view (Told.Late number) = seen.late number
