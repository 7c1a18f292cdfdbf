-- Record by record; at the end what is due is told too.
use Rattle.std.proofs.Common.{ap, arith, sym, subst}
use Rattle.ciel_log_read.specs.File.{RecordAt}
use Rattle.ciel_log_read.specs.View.{record_view}
use Rattle.ciel_log_read.proofs.Files.{record_within}
use Rattle.ciel_look_story.specs.Story.{Stand}
use Rattle.ciel_look_told.specs.Head.{head_bytes}
use Rattle.ciel_look_told.specs.View.{head_view}
use Rattle.ciel_look_story.proofs.Refusals.{all_told, begun, no_record_there, one_more}
use Rattle.ciel_look_story.proofs.story.tell_records.Goals as goal

pub loop-bytes-init : goal.loop-bytes-init
loop-bytes-init c =
    begun c.as_slice-losses.result.now c.args.log.now (head_bytes (head_view c.args.header.now)) c.args.first c.requires.header
    c.new-teller.result c.new-told.result.items (ap (λ (v : Stand). v.closes) c.new-teller.ensures.stand) c.new-teller.ensures.stand
    c.new-told.ensures.items

pub loop-bytes-preserved : goal.loop-bytes-preserved
loop-bytes-preserved c =
    let l = c.loop-bytes in
    one_more c.as_slice-losses.result.now c.args.log.now c.args.first l.teller l.told.items l.at l.invariant (record_view c.in-Ok.record)
    c.in-Some.next (subst (λ b. RecordAt c.args.log.now l.at b c.in-Some.next) (sym c.in-Ok.ensures.record) c.in-Some.ensures)
    c.in-Ok.ensures.data c.tell_one.new.teller c.tell_one.new.told.items c.in_ok-tell_one.ensures.goes c.in_ok-tell_one.ensures.closes

pub loop-bytes-smaller : goal.loop-bytes-smaller
loop-bytes-smaller c =
    let l = c.loop-bytes in
    let here = c.in-Some.ensures in
    omega (arith, here.behind, record_within c.args.log.now l.at c.in-Some.bytes.now c.in-Some.next here)

pub tell_one-requires : goal.tell_one-requires
tell_one-requires c =
    let here = c.in-Some.ensures in
    omega (arith, here.behind, c.loop-bytes.invariant.closes)

pub returns-in-Err-NotValue-clause-refused : goal.returns-in-Err-NotValue-clause-refused
returns-in-Err-NotValue-clause-refused c =
    let l = c.loop-bytes in
    no_record_there c.args.log.now (head_view c.args.header.now) c.args.first c.requires.header c.requires.good c.as_slice-losses.result.now
    l.teller l.told.items l.at l.invariant c.in-Some.bytes.now c.in-Some.next c.in-Some.ensures
    (rw c.in-Err-NotValue.field-0-is at c.in-Err-NotValue.ensures.refused)

pub returns-clause-told : goal.returns-clause-told
returns-clause-told c =
    let l = c.loop-bytes in
    all_told c.args.log.now (head_view c.args.header.now) c.args.first c.requires.header c.requires.good c.as_slice-losses.result.now
    c.as_slice-losses.ensures.value l.teller l.told.items l.at l.invariant c.in_default.ensures c.tell_losses.new.teller
    c.tell_losses.new.told.items c.in_ok-tell_losses.ensures.goes c.in_ok-tell_losses.ensures.rests
