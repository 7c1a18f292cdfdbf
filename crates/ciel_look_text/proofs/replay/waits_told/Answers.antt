-- Of a saved stack.
use Rattle.std.proofs.Common.{ap, sym, ◌∙◌}
use Rattle.ciel_look_tasks.specs.SceneView.{waits_of}
use Rattle.ciel_look_text.proofs.replay.waits_told.Goals as goal

pub returns-in_ok-names-in-Saved : goal.returns-in_ok-names-in-Saved
returns-in_ok-names-in-Saved c =
    record { names = c.in_ok-names-in-Saved.ensures.names ∙ c.as_slice.ensures ∙ ap waits_of (sym c.in-Saved.is) }

pub returns-in-Made : goal.returns-in-Made
returns-in-Made c = record { names = c.new.ensures.items ∙ ap waits_of (sym c.in-Made.is) }

pub returns-in-Answer : goal.returns-in-Answer
returns-in-Answer c = record { names = c.new-in-Answer.ensures.items ∙ ap waits_of (sym c.in-Answer.is) }

pub returns-in-Fault : goal.returns-in-Fault
returns-in-Fault c = record { names = c.new-in-Fault.ensures.items ∙ ap waits_of (sym c.in-Fault.is) }

pub returns-in-Missing : goal.returns-in-Missing
returns-in-Missing c = record { names = c.new-in-Missing.ensures.items ∙ ap waits_of (sym c.in-Missing.is) }
