use Rattle.std.proofs.Common.{◌≡◌, None, inl, inr, refl, slice_set, subst, sym}
use Rattle.ciel_log_replay.specs.Between.{Between}
use Rattle.ciel_log_report.specs.Accepts.{Closes, IsCame, StopsSo}
use Rattle.ciel_log_report.specs.Comes.{EndsWith, ReportTaken}
use Rattle.ciel_log_report.proofs.Refused.{not_refused}
use Rattle.ciel_log_report.specs.Tests.{ReportPasses}
use Rattle.ciel_log_report.proofs.Ended.{ends_stopped, ends_taken, not_passed, taken_when}
use Rattle.ciel_log_report.proofs.Takes.{has_shelf, passed_none, report_between, report_fits, report_is, report_taken, within}
use Rattle.ciel_master.specs.Seen.{MasterSeen}
use Rattle.ciel_master_board.specs.Driving.{RestsNow}
use Rattle.ciel_log_report.proofs.take.take_report.Goals as goal

pub returns-in_default-clause-passed : goal.returns-in_default-clause-passed
returns-in_default-clause-passed g c _ = passed_none c.requires.between c.args.logged.now.number c.in_default.ensures.none

pub report_of-requires-clause-worker : goal.report_of-requires-clause-worker
report_of-requires-clause-worker g c =
    let there = c.in-Some.ensures.there in
    has_shelf c.requires.between there.0 c.in-Some.order.now there.1

pub report_of-requires-clause-going : goal.report_of-requires-clause-going
report_of-requires-clause-going g c =
    subst (λ (m : MasterSeen _). m.board.stopped ≡ _) (sym c.rests.ensures.same) c.requires.between.working.work.going

pub report_of-requires-clause-namer : goal.report_of-requires-clause-namer
report_of-requires-clause-namer g c =
    subst (λ (m : MasterSeen _). m.namer ≡ c.args.shop.now.namer) (sym c.rests.ensures.same) c.requires.between.working.namer

pub accept-requires-clause-going : goal.accept-requires-clause-going
accept-requires-clause-going g c =
    subst (λ (m : MasterSeen _). m.board.stopped ≡ _) (sym c.rests.ensures.same) c.requires.between.working.work.going

pub accept-requires-clause-fits : goal.accept-requires-clause-fits
accept-requires-clause-fits g c =
    let there = c.in-Some.ensures.there in
    let k = subst (λ (m : MasterSeen _). Between g.K.Kit.gives g.N.Namer.digest c.args.shop.now m c.args.out.now c.args.state)
    (sym c.rests.ensures.same) c.requires.between in
    let is = rw c.in-Some-told.is at c.in_ok-told.ensures.report in
    report_fits k there.0 c.in-Some.order.now there.1 c.args.script.now c.requires.script c.args.kept.now c.args.logged.now c.in-Some-told.report is

pub returns-then-not-is_closed-clause-between : goal.returns-then-not-is_closed-clause-between
returns-then-not-is_closed-clause-between g c goes =
    let same = taken_when c.in_ok-came.came c.in-Some-told.report.end c.in_ok-came.ensures.came goes in
    absurd (c.is_closed.ensures.no c.if-not-is_closed.true (subst Closes (sym same) tt))

pub returns-then-not-is_closed-clause-passed : goal.returns-then-not-is_closed-clause-passed
returns-then-not-is_closed-clause-passed g c q =
    absurd (not_passed c.in_ok-came.came c.in-Some-told.report.end c.in_ok-came.ensures.came q)

pub returns-then-not-is_closed-clause-same : goal.returns-then-not-is_closed-clause-same
returns-then-not-is_closed-clause-same g c q =
    absurd (not_passed c.in_ok-came.came c.in-Some-told.report.end c.in_ok-came.ensures.came q)

pub returns-then-not-is_closed-clause-taken : goal.returns-then-not-is_closed-clause-taken
returns-then-not-is_closed-clause-taken g c q =
    absurd (c.is_closed.ensures.no c.if-not-is_closed.true (subst Closes (sym q) tt))

pub returns-then-not-is_closed-clause-ends : goal.returns-then-not-is_closed-clause-ends
returns-then-not-is_closed-clause-ends g c e q =
    let there = c.in-Some.ensures.there in
    let order = c.in-Some.order.now in
    let report = c.in-Some-told.report in
    let digest = g.N.Namer.digest c.args.shop.now.namer in
    let shop = c.args.shop.now in
    let out = c.args.out.now in
    let m = c.rests.new.master in
    let k = subst (λ (m : MasterSeen _). Between g.K.Kit.gives g.N.Namer.digest shop m out c.args.state) (sym c.rests.ensures.same)
    c.requires.between in
    let rests = subst (λ (m : MasterSeen _). RestsNow m.board) (sym c.rests.ensures.same) (c.in_ok-may.ensures.rests c.if-not-may.false) in
    let is = rw c.in-Some-told.is at c.in_ok-told.ensures.report in
    let no = c.is_closed.ensures.no c.if-not-is_closed.true in
    let stops = subst (λ n. StopsSo (g.N.Namer.digest n) report.spawned.items m.board.table c.in_ok-came.came) k.working.namer
    c.in_ok-came.ensures.stops in
    subst (λ (m : MasterSeen _). EndsWith digest shop.shelves c.args.script.now m.board out c.args.kept.now c.args.logged.now e
    c.accept.new.master.board out c.report_of.new.kept) c.rests.ensures.same
    (ends_stopped digest shop.shelves c.args.script.now m.board out c.args.kept.now c.args.logged.now c.accept.new.master.board out
    c.report_of.new.kept report there.0 order
    (report_is k there.0 order there.1 c.args.script.now c.requires.script c.args.kept.now c.args.logged.now report is rests c.in-Some.ensures.number)
    e (subst (IsCame report.end) q c.in_ok-came.ensures.came) (λ z. no (subst Closes (sym q) z))
    (subst (StopsSo digest report.spawned.items m.board.table) q stops) (c.in_ok-came.ensures.journal no) refl)

pub returns-then-not-is_closed-clause-less : goal.returns-then-not-is_closed-clause-less
returns-then-not-is_closed-clause-less g c = inl refl

pub bounds-out-worker : goal.bounds-out-worker
bounds-out-worker g c =
    let there = c.in-Some.ensures.there in
    within c.requires.between there.0 c.in-Some.order.now there.1

pub returns-clause-between : goal.returns-clause-between
returns-clause-between g c goes =
    let there = c.in-Some.ensures.there in
    let report = c.in-Some-told.report in
    let came = c.in_ok-came.ensures in
    let closes = c.is_closed.ensures.yes c.if-not-is_closed.false in
    let k = subst (λ (m : MasterSeen _). Between g.K.Kit.gives g.N.Namer.digest c.args.shop.now m c.args.out.now c.args.state)
    (sym c.rests.ensures.same) c.requires.between in
    let is = rw c.in-Some-told.is at c.in_ok-told.ensures.report in
    let same = taken_when c.in_ok-came.came report.end came.came goes in
    report_between k there.0 c.in-Some.order.now there.1 c.args.script.now c.requires.script c.args.kept.now c.args.logged.now report is
    c.accept.ensures.missing (came.learned closes) (came.accepted closes) c.turns_come_to_an_end.ensures.report c.turns_come_to_an_end.ensures.missed
    c.rows_stay.ensures c.tasks_stay.ensures (subst (IsCame report.end) same came.came)

pub returns-clause-passed : goal.returns-clause-passed
returns-clause-passed g c q = absurd (not_passed c.in_ok-came.came c.in-Some-told.report.end c.in_ok-came.ensures.came q)

pub returns-clause-same : goal.returns-clause-same
returns-clause-same g c q = absurd (not_passed c.in_ok-came.came c.in-Some-told.report.end c.in_ok-came.ensures.came q)

pub returns-clause-taken : goal.returns-clause-taken
returns-clause-taken g c q =
    let there = c.in-Some.ensures.there in
    let order = c.in-Some.order.now in
    let report = c.in-Some-told.report in
    let shop = c.args.shop.now in
    let out = c.args.out.now in
    let came = c.in_ok-came.ensures in
    let closes = c.is_closed.ensures.yes c.if-not-is_closed.false in
    let k = subst (λ (m : MasterSeen _). Between g.K.Kit.gives g.N.Namer.digest shop m out c.args.state) (sym c.rests.ensures.same)
    c.requires.between in
    let rests = subst (λ (m : MasterSeen _). RestsNow m.board) (sym c.rests.ensures.same) (c.in_ok-may.ensures.rests c.if-not-may.false) in
    let is = rw c.in-Some-told.is at c.in_ok-told.ensures.report in
    let keeping = rw c.in-Some-told.is at c.in_ok-told.ensures.kept in (
      report,
      subst (λ (m : MasterSeen _). ReportTaken (g.N.Namer.digest shop.namer) shop.shelves c.args.script.now m.board out c.args.kept.now c.args.logged.now
          c.accept.new.master.board (slice_set out order.worker None) c.report_of.new.kept report) c.rests.ensures.same
          (report_taken k there.0 order there.1 c.args.script.now c.requires.script c.args.kept.now c.args.logged.now report is
          c.accept.ensures.missing (came.learned closes) (came.accepted closes) rests c.in-Some.ensures.number c.report_of.new.kept keeping),
      subst (IsCame report.end) q came.came,
    )

pub returns-clause-ends : goal.returns-clause-ends
returns-clause-ends g c e q =
    let there = c.in-Some.ensures.there in
    let order = c.in-Some.order.now in
    let report = c.in-Some-told.report in
    let digest = g.N.Namer.digest c.args.shop.now.namer in
    let shop = c.args.shop.now in
    let out = c.args.out.now in
    let m = c.rests.new.master in
    let came = c.in_ok-came.ensures in
    let closes = c.is_closed.ensures.yes c.if-not-is_closed.false in
    let k = subst (λ (m : MasterSeen _). Between g.K.Kit.gives g.N.Namer.digest shop m out c.args.state) (sym c.rests.ensures.same)
    c.requires.between in
    let rests = subst (λ (m : MasterSeen _). RestsNow m.board) (sym c.rests.ensures.same) (c.in_ok-may.ensures.rests c.if-not-may.false) in
    let is = rw c.in-Some-told.is at c.in_ok-told.ensures.report in
    let keeping = rw c.in-Some-told.is at c.in_ok-told.ensures.kept in
    subst (λ (m : MasterSeen _). EndsWith digest shop.shelves c.args.script.now m.board out c.args.kept.now c.args.logged.now e
    c.accept.new.master.board (slice_set out order.worker None) c.report_of.new.kept) c.rests.ensures.same
    (ends_taken digest shop.shelves c.args.script.now m.board out c.args.kept.now c.args.logged.now c.accept.new.master.board
    (slice_set out order.worker None) c.report_of.new.kept report
    (report_taken k there.0 order there.1 c.args.script.now c.requires.script c.args.kept.now c.args.logged.now report is
    c.accept.ensures.missing (came.learned closes) (came.accepted closes) rests c.in-Some.ensures.number c.report_of.new.kept keeping)
    e (subst (IsCame report.end) q came.came) (subst Closes q closes))

pub returns-clause-less : goal.returns-clause-less
returns-clause-less g c = inr (c.in-Some.order.now.worker, refl)

pub returns-then-not-may-clause-refused : goal.returns-then-not-may-clause-refused
returns-then-not-may-clause-refused g c _ =
    let there = c.in-Some.ensures.there in
    record {
      worker = there.0;
      order = c.in-Some.order.now;
      there = there.1;
      number = c.in-Some.ensures.number;
      cause = inl (c.in_ok-may.ensures.goes_on c.if-not-may.true);
    }

pub returns-in_default-told-clause-refused : goal.returns-in_default-told-clause-refused
returns-in_default-told-clause-refused g c _ =
    let there = c.in-Some.ensures.there in
    let no = rw c.in_default-told.is at c.in_ok-told.ensures.refused in
    record {
      worker = there.0;
      order = c.in-Some.order.now;
      there = there.1;
      number = c.in-Some.ensures.number;
      cause = inr (subst (λ (m : MasterSeen _). ReportPasses (g.N.Namer.digest c.args.shop.now.namer) c.args.script.now m.board c.args.kept.now
          c.in-Some.order.now c.args.logged.now → ⊥) c.rests.ensures.same no);
    }

pub returns-then-not-is_closed-clause-refused : goal.returns-then-not-is_closed-clause-refused
returns-then-not-is_closed-clause-refused g c q =
    absurd (not_refused c.in_ok-came.came c.in-Some-told.report.end c.in_ok-came.ensures.came q)

pub returns-clause-refused : goal.returns-clause-refused
returns-clause-refused g c q = absurd (not_refused c.in_ok-came.came c.in-Some-told.report.end c.in_ok-came.ensures.came q)
