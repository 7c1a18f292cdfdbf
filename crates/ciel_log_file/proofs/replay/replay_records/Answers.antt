use Rattle.std.proofs.Common.{[], ◌∷◌, ◌++◌, ◌∙◌, inl, inr, refl, subst, sym}
use Rattle.ciel_log_file.specs.Replays.{At, over}
use Rattle.ciel_log_file.specs.Whole.{RecordsTo}
use Rattle.ciel_log_file.proofs.Places.{one_bad, place_smaller, records_more, replays_more}
use Rattle.ciel_log_file.proofs.Read.{goes_of}
use Rattle.ciel_log_file.proofs.Steps.{placed_of}
use Rattle.ciel_log_read.specs.File.{NoRecordAt, RecordAt}
use Rattle.ciel_log_report.specs.Comes.{NotRefused}
use Rattle.ciel_log_file.proofs.replay.replay_records.Goals as goal

pub records-init : goal.records-init
records-init g c =
    record { between = c.requires.between; takes = c.requires.takes; many = refl; plan = refl; replays = ([], refl, over) }

pub records-preserved : goal.records-preserved
records-preserved g c =
    let v = c.records.invariant in
    let n = c.in_ok-came.ensures in
    let goes = goes_of c.in_ok-came.came c.in-Passed.is in
    let told = goes.1 in
    let xs = v.replays.0 in
    let bytes = c.in-Some.bytes.now in
    record {
      between = n.between goes.0;
      takes = n.takes told;
      many = n.many told ∙ v.many;
      plan = n.plan told ∙ v.plan;
      replays = (
        xs ++ bytes ∷ [],
        records_more c.args.log.now c.args.behind xs bytes c.records.at c.in-Some.next v.replays.1 c.in-Some.ensures,
        replays_more (g.N.Namer.digest c.args.shop.now.namer) c.args.shop.now.shelves c.args.script.now
            (record { board = c.args.master.now.board; out = c.args.out.now; kept = c.args.kept.now })
            (record { board = c.records.master.board; out = c.records.out; kept = c.records.kept })
            (record { board = c.take_record.new.master.board; out = c.take_record.new.out; kept = c.take_record.new.kept }) xs bytes v.replays.2
            (n.takes_it goes.0),
      );
    }

pub records-smaller : goal.records-smaller
records-smaller g c = place_smaller c.args.log.now c.records.at c.in-Some.next c.in-Some.bytes.now c.in-Some.ensures

pub returns-in_default-clause-between : goal.returns-in_default-clause-between
returns-in_default-clause-between g c = c.records.invariant.between

pub returns-in_default-clause-placed : goal.returns-in_default-clause-placed
returns-in_default-clause-placed g c = placed_of c.records.invariant.between

pub returns-in_default-clause-takes : goal.returns-in_default-clause-takes
returns-in_default-clause-takes g c = c.records.invariant.takes

pub returns-in_default-clause-replays : goal.returns-in_default-clause-replays
returns-in_default-clause-replays g c = c.records.invariant.replays

pub returns-in-Err-clause-bad : goal.returns-in-Err-clause-bad
returns-in-Err-clause-bad g c at q =
    let v = c.records.invariant in
    let log = c.args.log.now in
    let xs = v.replays.0 in
    let bytes = c.in-Some.bytes.now in
    let more = records_more log c.args.behind xs bytes c.records.at c.in-Some.next v.replays.1 c.in-Some.ensures in
    let some = c.in-Err.ensures.some in
    let same = one_bad c.in-Some.next at c.in-Err.refusal c.in-Err.ensures.bad q in
    let last : At = record { board = c.records.master.board; out = c.records.out; kept = c.records.kept } in
    let then : At = record { board = c.take_record.new.master.board; out = c.take_record.new.out; kept = c.take_record.new.kept } in (
      xs ++ bytes ∷ [],
      subst (RecordsTo log c.args.behind (xs ++ bytes ∷ [])) same more,
      some.0,
      some.1,
      subst (λ n. RecordAt log n some.0 some.1) same some.2,
      inl (c.in-Ends.end, then, (xs, bytes, refl, last, v.replays.2, c.in_ok-came.ensures.ends c.in-Ends.end c.in-Ends.is)),
    )

pub returns-in-Ends-clause-placed : goal.returns-in-Ends-clause-placed
returns-in-Ends-clause-placed g c = c.in_ok-came.ensures.placed (subst NotRefused (sym c.in-Ends.is) tt)

pub returns-in-Ends-clause-takes : goal.returns-in-Ends-clause-takes
returns-in-Ends-clause-takes g c = c.in_ok-came.ensures.takes (subst NotRefused (sym c.in-Ends.is) tt)

pub returns-in-Ends-clause-many : goal.returns-in-Ends-clause-many
returns-in-Ends-clause-many g c = c.in_ok-came.ensures.many (subst NotRefused (sym c.in-Ends.is) tt) ∙ c.records.invariant.many

pub returns-in-Ends-clause-plan : goal.returns-in-Ends-clause-plan
returns-in-Ends-clause-plan g c = c.in_ok-came.ensures.plan (subst NotRefused (sym c.in-Ends.is) tt) ∙ c.records.invariant.plan

pub returns-in-Ends-clause-none : goal.returns-in-Ends-clause-none
returns-in-Ends-clause-none g c = subst (NoRecordAt c.args.log.now) (sym c.in-Ok.ensures.at) c.in-Ok.ensures.none

pub returns-in-Ends-clause-replays : goal.returns-in-Ends-clause-replays
returns-in-Ends-clause-replays g c =
    let v = c.records.invariant in
    let log = c.args.log.now in
    let xs = v.replays.0 in
    let bytes = c.in-Some.bytes.now in
    let more = records_more log c.args.behind xs bytes c.records.at c.in-Some.next v.replays.1 c.in-Some.ensures in
    let last : At = record { board = c.records.master.board; out = c.records.out; kept = c.records.kept } in (
      xs ++ bytes ∷ [],
      subst (RecordsTo log c.args.behind (xs ++ bytes ∷ [])) (sym c.in-Ok.ensures.at) more,
      (xs, bytes, refl, last, v.replays.2, c.in_ok-came.ensures.ends c.in-Ends.end c.in-Ends.is),
    )

pub returns-in-Refused-clause-bad : goal.returns-in-Refused-clause-bad
returns-in-Refused-clause-bad g c at q =
    let v = c.records.invariant in
    let log = c.args.log.now in
    let same = one_bad c.records.at at _ refl q in (
      v.replays.0,
      subst (RecordsTo log c.args.behind v.replays.0) same v.replays.1,
      c.in-Some.bytes.now,
      c.in-Some.next,
      subst (λ n. RecordAt log n c.in-Some.bytes.now c.in-Some.next) same c.in-Some.ensures,
      inr (
        record { board = c.records.master.board; out = c.records.out; kept = c.records.kept },
        v.replays.2,
        c.in_ok-came.ensures.refused c.in-Refused.is,
      ),
    )
