-- The record that was read is the only one that the bytes can be.
use Rattle.std.proofs.Common.{◌≡◌, [], sym, ◌∙◌}
use Rattle.std.proofs.lemmas.Bool.{false≢true}
use Rattle.ciel_name.proofs.DecodeSteps.{refuses_more}
use Rattle.ciel_log_read.specs.View.{record_view}
use Rattle.ciel_log_read.proofs.Records.{one_record, record_more, record_none, record_there}
use Rattle.ciel_log_read.proofs.read.read_record.Goals as goal

pub returns-in-Err-clause-refused : goal.returns-in-Err-clause-refused
returns-in-Err-clause-refused c =
    let first = sym c.new-reader.ensures ∙ c.in-Some.ensures in
    refuses_more c.in-Err.refusal (record_none c.args.bytes.now c.byte.new.self c.in-Some.kind first) c.in-Err.ensures.refused

pub returns-then-not-is_empty-clause-refused : goal.returns-then-not-is_empty-clause-refused
returns-then-not-is_empty-clause-refused c =
    let first = sym c.new-reader.ensures ∙ c.in-Some.ensures in
    let more : c.read_kind.new.reader ≡ [] → ⊥ = λ e. false≢true (sym c.if-not-is_empty.true ∙ c.is_empty.ensures.1 e) in
    record_more c.args.bytes.now c.byte.new.self c.in-Some.kind (record_view c.in-Ok.record) c.read_kind.new.reader first
    c.in-Ok.ensures.record more

pub returns-clause-inverse : goal.returns-clause-inverse
returns-clause-inverse c s p e =
    let first = sym c.new-reader.ensures ∙ c.in-Some.ensures in
    let there = record_there c.args.bytes.now c.byte.new.self c.in-Some.kind (record_view c.in-Ok.record) c.read_kind.new.reader first
    c.in-Ok.ensures.record (c.is_empty.ensures.0 c.if-not-is_empty.false) in
    one_record (record_view c.in-Ok.record) s c.in-Ok.ensures.record.1.1 p (there ∙ sym e)
