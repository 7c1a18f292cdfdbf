use Rattle.std.proofs.Common.{refl}
use Rattle.ciel_log_report.proofs.Parts.{answer_ends, fault_ends, kept_so, made_ends, made_keeps, saved_ends}
use Rattle.ciel_log_report.proofs.Refused.{answer_fails, fault_fails, made_fails, missing_fails, none_under, saved_fails}
use Rattle.ciel_log_report.specs.Comes.{KeepsOutputs}
use Rattle.ciel_log_report.specs.Tests.{OutputsPass, ShownPasses, StackPasses}
use Rattle.ciel_log_report.proofs.report.end_with.Goals as goal

pub returns-in_ok-ended-in-Made-clause-end : goal.returns-in_ok-ended-in-Made-clause-end
returns-in_ok-ended-in-Made-clause-end g c =
    made_ends c.args.order.now c.args.shelves.now c.args.script.now c.args.kept.now (g.N.Namer.digest c.args.namer.now) c.args.end.now
    c.args.copied.now c.in_ok-ended-in-Made.ended c.args.known.now c.in-Made.objects c.as_slice-listed.result.now c.in-Made.is
    c.as_slice-listed.ensures.value c.in_ok-ended-in-Made.ensures.made

pub returns-in_ok-ended-in-Made-clause-kept : goal.returns-in_ok-ended-in-Made-clause-kept
returns-in_ok-ended-in-Made-clause-kept g c =
    made_keeps c.args.order.now (g.N.Namer.digest c.args.namer.now) c.args.end.now c.in_ok-ended-in-Made.ended c.in-Made.objects
    c.as_slice-listed.result.now c.args.kept.now c.made.new.kept c.in-Made.is c.as_slice-listed.ensures.value c.in_ok-ended-in-Made.ensures.kept

pub returns-in_ok-waits-in-Saved-clause-end : goal.returns-in_ok-waits-in-Saved-clause-end
returns-in_ok-waits-in-Saved-clause-end g c =
    saved_ends c.args.order.now c.args.shelves.now c.args.script.now c.args.kept.now (g.N.Namer.digest c.args.namer.now) c.args.end.now
    c.args.copied.now c.in_ok-waits-in-Saved.waits c.args.known.now c.in-Saved.j c.in-Saved.stack c.as_slice-bytes.result.now c.args.fitting.now
    c.in-Saved.is c.as_slice-bytes.ensures c.requires.script c.in_ok-waits-in-Saved.ensures.saved

pub returns-in_ok-waits-in-Saved-clause-kept : goal.returns-in_ok-waits-in-Saved-clause-kept
returns-in_ok-waits-in-Saved-clause-kept g c =
    kept_so (KeepsOutputs (g.N.Namer.digest c.args.namer.now) c.args.order.now c.args.end.now c.args.kept.now c.args.kept.now) c.in_ok-waits-in-Saved.waits
    (rw c.in-Saved.is refl)

pub returns-in_ok-shows-in-Answer-clause-end : goal.returns-in_ok-shows-in-Answer-clause-end
returns-in_ok-shows-in-Answer-clause-end g c =
    answer_ends c.args.order.now c.args.shelves.now c.args.script.now c.args.kept.now (g.N.Namer.digest c.args.namer.now) c.args.end.now
    c.args.copied.now c.in_ok-shows-in-Answer.shows c.args.known.now c.in-Answer.bytes c.in_ok-text-in-Answer.text c.in-Answer.is c.in_ok-text-in-Answer.ensures
    c.in_ok-shows-in-Answer.ensures.shown

pub returns-in_ok-shows-in-Answer-clause-kept : goal.returns-in_ok-shows-in-Answer-clause-kept
returns-in_ok-shows-in-Answer-clause-kept g c =
    kept_so (KeepsOutputs (g.N.Namer.digest c.args.namer.now) c.args.order.now c.args.end.now c.args.kept.now c.args.kept.now) c.in_ok-shows-in-Answer.shows
    (rw c.in-Answer.is refl)

pub returns-in_ok-fails-in-Fault-clause-end : goal.returns-in_ok-fails-in-Fault-clause-end
returns-in_ok-fails-in-Fault-clause-end g c =
    fault_ends c.args.order.now c.args.shelves.now c.args.script.now c.args.kept.now (g.N.Namer.digest c.args.namer.now) c.args.end.now
    c.args.copied.now c.in_ok-fails-in-Fault.fails c.args.known.now c.in-Fault.fault c.in-Fault.is c.in_ok-fails-in-Fault.ensures.shown

pub returns-in_ok-fails-in-Fault-clause-kept : goal.returns-in_ok-fails-in-Fault-clause-kept
returns-in_ok-fails-in-Fault-clause-kept g c =
    kept_so (KeepsOutputs (g.N.Namer.digest c.args.namer.now) c.args.order.now c.args.end.now c.args.kept.now c.args.kept.now) c.in_ok-fails-in-Fault.fails
    (rw c.in-Fault.is refl)

pub returns-in_ok-ended-in-Made-clause-refused : goal.returns-in_ok-ended-in-Made-clause-refused
returns-in_ok-ended-in-Made-clause-refused g c =
    let digest = g.N.Namer.digest c.args.namer.now in
    none_under (OutputsPass c.args.order.now c.args.script.now c.args.known.now c.args.kept.now digest c.args.copied.now c.as_slice-listed.result.now → ⊥) _
    c.in_ok-ended-in-Made.ended
    (made_fails c.args.order.now c.args.script.now c.args.known.now c.args.kept.now digest c.args.copied.now c.args.end.now c.in-Made.objects
    c.as_slice-listed.result.now c.in-Made.is c.as_slice-listed.ensures.value) c.in_ok-ended-in-Made.ensures.refused

pub returns-in_ok-waits-in-Saved-clause-refused : goal.returns-in_ok-waits-in-Saved-clause-refused
returns-in_ok-waits-in-Saved-clause-refused g c =
    none_under (StackPasses c.args.order.now c.args.fitting.now c.args.known.now c.args.copied.now c.in-Saved.j c.as_slice-bytes.result.now → ⊥) _
    c.in_ok-waits-in-Saved.waits
    (saved_fails c.args.order.now c.args.script.now c.args.known.now c.args.kept.now (g.N.Namer.digest c.args.namer.now) c.args.copied.now
    c.args.end.now c.in-Saved.j c.in-Saved.stack c.as_slice-bytes.result.now c.args.fitting.now c.in-Saved.is c.as_slice-bytes.ensures
    c.requires.script) c.in_ok-waits-in-Saved.ensures.refused

pub returns-in_ok-shows-in-Answer-clause-refused : goal.returns-in_ok-shows-in-Answer-clause-refused
returns-in_ok-shows-in-Answer-clause-refused g c =
    none_under (ShownPasses c.args.order.now c.args.script.now c.args.known.now c.args.kept.now c.args.copied.now → ⊥) _ c.in_ok-shows-in-Answer.shows
    (answer_fails c.args.order.now c.args.script.now c.args.known.now c.args.kept.now (g.N.Namer.digest c.args.namer.now) c.args.copied.now
    c.args.end.now c.in-Answer.bytes c.in-Answer.is) c.in_ok-shows-in-Answer.ensures.refused

pub returns-in_ok-fails-in-Fault-clause-refused : goal.returns-in_ok-fails-in-Fault-clause-refused
returns-in_ok-fails-in-Fault-clause-refused g c =
    none_under (ShownPasses c.args.order.now c.args.script.now c.args.known.now c.args.kept.now c.args.copied.now → ⊥) _ c.in_ok-fails-in-Fault.fails
    (fault_fails c.args.order.now c.args.script.now c.args.known.now c.args.kept.now (g.N.Namer.digest c.args.namer.now) c.args.copied.now
    c.args.end.now c.in-Fault.fault c.in-Fault.is) c.in_ok-fails-in-Fault.ensures.refused

pub returns-in-Missing-clause-refused : goal.returns-in-Missing-clause-refused
returns-in-Missing-clause-refused g c =
    missing_fails c.args.order.now c.args.script.now c.args.known.now c.args.kept.now (g.N.Namer.digest c.args.namer.now) c.args.copied.now
    c.args.end.now c.in-Missing.name c.in-Missing.loss c.in-Missing.is
