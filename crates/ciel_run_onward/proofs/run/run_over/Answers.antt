-- The orders that were out are sent; then the run ends as its log does, or is driven on.
use Rattle.std.proofs.Common.{List, Some, None, map, sym, subst}
use Rattle.sky_base.specs.JobView.{job_view}
use Rattle.ciel_journal.specs.Entries.{Entry}
use Rattle.ciel_log_file.specs.Sending.{sent_to}
use Rattle.ciel_log_law.specs.Ended.{EndsSo}
use Rattle.ciel_log_law.specs.Kept.{Kept}
use Rattle.ciel_log_law.specs.LogState.{LogState}
use Rattle.ciel_log_law.specs.RunEnd.{RunEnd}
use Rattle.ciel_log_law.specs.Told.{LogContinued}
use Rattle.ciel_log_law.specs.Views.{entry_view}
use Rattle.ciel_log_law.specs.Working.{Working}
use Rattle.ciel_run_logged.specs.Keeping.{IfOver, KeeperSeen, Keeps}
use Rattle.ciel_run_onward.proofs.Sent.{ends_as, of_sent, stood_at, stood_memory, works_none}
use Rattle.ciel_run_onward.proofs.Told.{since, since_none}
use Rattle.ciel_run_onward.proofs.Written.{kept_same, over_any, untouched}
use Rattle.ciel_run_onward.proofs.run.run_over.Goals as goal

-- there was no memory to send them

pub returns-in-Err-clause-end : goal.returns-in-Err-clause-end
returns-in-Err-clause-end g c = λ stood.
    ends_as g.K.Kit.gives g.N.Namer.digest (g.C.Crew.shop c.args.crew) c.args.master (map entry_view c.over.result.0.ran.journal.items) RunEnd.Memory
    c.over.result.0.ran.end c.over.ensures.journal c.over.ensures.end
    (stood_memory g.K.Kit.gives g.N.Namer.digest (g.C.Crew.shop c.args.crew) c.args.master
    (sent_to (g.C.Crew.out c.args.crew) c.args.onward.out.items) c.args.onward.end c.args.onward.draws stood)

pub returns-in-Err-clause-told : goal.returns-in-Err-clause-told
returns-in-Err-clause-told g c = λ some. absurd (some c.over.ensures.end)

pub returns-in-Err-clause-keeps : goal.returns-in-Err-clause-keeps
returns-in-Err-clause-keeps g c = λ some. absurd (some c.over.ensures.end)

pub returns-in-Err-clause-written : goal.returns-in-Err-clause-written
returns-in-Err-clause-written g c = λ stood.
    let shop = g.C.Crew.shop c.args.crew in
    let files = g.D.Keep.files c.args.keep.now in
    subst (λ (e : RunEnd). IfOver e (LogContinued (g.N.Namer.digest shop.namer) (job_view shop.job) (g.K.Kit.gives shop.kit)
    c.args.master.board.plan c.args.onward.log.path c.args.onward.log.held files files c.args.master.board.journal
    (map entry_view c.over.result.0.ran.journal.items) c.over.result.0.state)) (sym c.over.ensures.end) tt

-- the log has the end

pub returns-in-Some-clause-end : goal.returns-in-Some-clause-end
returns-in-Some-clause-end g c = λ stood.
    ends_as g.K.Kit.gives g.N.Namer.digest (g.C.Crew.shop c.args.crew) c.args.master (map entry_view c.over-in-Some.result.0.ran.journal.items)
    c.in-Some.end c.over-in-Some.result.0.ran.end c.over-in-Some.ensures.journal c.over-in-Some.ensures.end
    (stood_at g.K.Kit.gives g.N.Namer.digest (g.C.Crew.shop c.args.crew) c.args.master
    (sent_to (g.C.Crew.out c.args.crew) c.args.onward.out.items) c.args.onward.end (Some c.in-Some.end) c.args.onward.draws c.in-Some.is stood)

pub returns-in-Some-clause-told : goal.returns-in-Some-clause-told
returns-in-Some-clause-told g c = λ over.
    since_none c.args.master.board.journal (map entry_view c.over-in-Some.result.0.ran.journal.items) c.args.onward.out.items
    (g.C.Crew.told c.args.crew) (g.C.Crew.told c.send_all.new.crew) (map g.C.Gate.Gate.entered c.over-in-Some.result.1.items) c.requires.left
    c.over-in-Some.ensures.journal c.in-Ok.ensures.told (c.over-in-Some.ensures.told c.in-Ok.ensures.sound)

pub returns-in-Some-clause-keeps : goal.returns-in-Some-clause-keeps
returns-in-Some-clause-keeps g c = λ over.
    let keeper : KeeperSeen =
    record {
      files = g.D.Keep.files c.args.keep.now;
      asked = g.D.Keep.asked c.args.keep.now;
      faults = g.D.Keep.faults c.args.keep.now;
    } in
    subst (λ (s : LogState). Keeps c.args.onward.log.path c.args.onward.log.held keeper keeper s) (sym c.over-in-Some.ensures.whole)
    (kept_same c.args.onward.log.path c.args.onward.log.held keeper)

pub returns-in-Some-clause-written : goal.returns-in-Some-clause-written
returns-in-Some-clause-written g c = λ stood.
    let shop = g.C.Crew.shop c.args.crew in
    let files = g.D.Keep.files c.args.keep.now in
    let R = c.args.master.board.journal in
    over_any c.over-in-Some.result.0.ran.end _
    (subst (λ (x : List Entry × LogState). LogContinued (g.N.Namer.digest shop.namer) (job_view shop.job) (g.K.Kit.gives shop.kit)
    c.args.master.board.plan c.args.onward.log.path c.args.onward.log.held files files R x.0 x.1)
    (λ i. (sym c.over-in-Some.ensures.journal i, sym c.over-in-Some.ensures.whole i))
    (untouched (g.N.Namer.digest shop.namer) (job_view shop.job) (g.K.Kit.gives shop.kit) c.args.master.board.plan c.args.onward.log.path
    c.args.onward.log.held files R))

-- the run is driven on

pub drive_on-requires-clause-working : goal.drive_on-requires-clause-working
drive_on-requires-clause-working g c =
    of_sent (g.C.Crew.shop c.args.crew) (g.C.Crew.shop c.send_all.new.crew) (g.C.Crew.is_sound c.send_all.new.crew)
    (sent_to (g.C.Crew.out c.args.crew) c.args.onward.out.items) (g.C.Crew.out c.send_all.new.crew) c.send_all.ensures.shop c.in-Ok.ensures.sound
    c.in-Ok.ensures.out (λ s b o. Working g.K.Kit.gives g.N.Namer.digest s b c.args.master o)
    (works_none g.K.Kit.gives g.N.Namer.digest (g.C.Crew.shop c.args.crew) c.args.master
    (sent_to (g.C.Crew.out c.args.crew) c.args.onward.out.items) c.args.onward.end c.in-None.is c.requires.works)

pub returns-in-None-clause-end : goal.returns-in-None-clause-end
returns-in-None-clause-end g c = λ stood.
    let kept = of_sent (g.C.Crew.shop c.args.crew) (g.C.Crew.shop c.send_all.new.crew) (g.C.Crew.is_sound c.send_all.new.crew)
    (sent_to (g.C.Crew.out c.args.crew) c.args.onward.out.items) (g.C.Crew.out c.send_all.new.crew) c.send_all.ensures.shop c.in-Ok.ensures.sound
    c.in-Ok.ensures.out (λ s b o. Kept g.K.Kit.gives g.N.Namer.digest s b c.args.master o c.args.onward.draws)
    (stood_at g.K.Kit.gives g.N.Namer.digest (g.C.Crew.shop c.args.crew) c.args.master
    (sent_to (g.C.Crew.out c.args.crew) c.args.onward.out.items) c.args.onward.end None c.args.onward.draws c.in-None.is stood) in
    subst (λ s. EndsSo (g.N.Namer.digest s.namer) (job_view s.job) (g.K.Kit.gives s.kit) c.args.master.board.plan
    (map entry_view c.drive_on.result.0.ran.journal.items) c.drive_on.result.0.ran.end) c.send_all.ensures.shop (c.drive_on.ensures.end kept)

pub returns-in-None-clause-told : goal.returns-in-None-clause-told
returns-in-None-clause-told g c = λ over.
    since c.args.master.board.journal (map entry_view c.drive_on.result.0.ran.journal.items) c.args.onward.out.items (g.C.Crew.told c.args.crew)
    (g.C.Crew.told c.send_all.new.crew) (map g.C.Gate.Gate.entered c.drive_on.result.1.items) c.requires.left c.in-Ok.ensures.told
    (c.drive_on.ensures.told over)

pub returns-in-None-clause-written : goal.returns-in-None-clause-written
returns-in-None-clause-written g c = λ stood.
    let kept = of_sent (g.C.Crew.shop c.args.crew) (g.C.Crew.shop c.send_all.new.crew) (g.C.Crew.is_sound c.send_all.new.crew)
    (sent_to (g.C.Crew.out c.args.crew) c.args.onward.out.items) (g.C.Crew.out c.send_all.new.crew) c.send_all.ensures.shop c.in-Ok.ensures.sound
    c.in-Ok.ensures.out (λ s b o. Kept g.K.Kit.gives g.N.Namer.digest s b c.args.master o c.args.onward.draws)
    (stood_at g.K.Kit.gives g.N.Namer.digest (g.C.Crew.shop c.args.crew) c.args.master
    (sent_to (g.C.Crew.out c.args.crew) c.args.onward.out.items) c.args.onward.end None c.args.onward.draws c.in-None.is stood) in
    subst (λ s. IfOver c.drive_on.result.0.ran.end (LogContinued (g.N.Namer.digest s.namer) (job_view s.job) (g.K.Kit.gives s.kit)
    c.args.master.board.plan c.args.onward.log.path c.args.onward.log.held (g.D.Keep.files c.args.keep.now) (g.D.Keep.files c.drive_on.new.keep)
    c.args.master.board.journal (map entry_view c.drive_on.result.0.ran.journal.items) c.drive_on.result.0.state)) c.send_all.ensures.shop
    (c.drive_on.ensures.written kept)
