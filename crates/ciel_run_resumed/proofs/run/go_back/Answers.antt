-- What was replayed is what a run goes on from: by the law, where the log is one of the job's own, and by the orders that were out.
use Rattle.std.proofs.Common.{◌≡◌, ap, ◌∙◌}
use Rattle.sky_base.specs.JobView.{job_view}
use Rattle.ciel_log_file.specs.Sending.{nobody, sent_to}
use Rattle.ciel_log_file.specs.declared.refusal.LogRefusal.{LogRefusal}
use Rattle.ciel_log_follows.specs.Follows.{CameTo, IsAtFirst}
use Rattle.ciel_run_resumed.specs.Resuming.{standing_bytes}
use Rattle.ciel_run_resumed.proofs.Alone.{standing_told}
use Rattle.ciel_run_resumed.proofs.Left.{left_after}
use Rattle.ciel_run_resumed.proofs.Onward.{place_of, stood_on, works_on}
use Rattle.ciel_run_resumed.proofs.Standing.{whole_within}
use Rattle.ciel_run_resumed.proofs.run.go_back.Goals as goal

pub returns-in-Err-BadLog-clause-bad : goal.returns-in-Err-BadLog-clause-bad
returns-in-Err-BadLog-clause-bad g c = λ kept at is.
    let shop = c.args.shop.now in
    let m = c.args.master.now in
    let first : IsAtFirst g.K.Kit.gives g.N.Namer.digest shop m =
    record {
      working = c.requires.working;
      kept = kept;
      journal = c.requires.first.1;
    } in
    let same : c.in-Err-BadLog.at ≡ at = ap place_of (rw c.in-Err-BadLog.field-0-is at is) in
    c.logs_are_replayed.ensures.bad shop c.args.resumes.log.now c.args.resumes.header.now m at first
    (c.in-Err-BadLog.ensures.refused at (c.in-Err-BadLog.field-0-is ∙ ap LogRefusal.BadLog same))

pub begin_again-requires-clause-whole : goal.begin_again-requires-clause-whole
begin_again-requires-clause-whole g c =
    whole_within c.args.resumes.log.now c.args.resumes.header.now c.in-Ok.replayed.whole c.in-Ok.ensures.whole

pub returns-clause-left : goal.returns-clause-left
returns-clause-left g c =
    left_after (g.N.Namer.digest c.args.shop.now.namer) c.args.shop.now.shelves (job_view c.args.shop.now.job).script c.args.resumes.log.now
    c.args.resumes.header.now c.in-Ok.replayed.whole c.in-Ok.replayed.end c.args.master.now.board c.replay.new.master.board
    c.in-Ok.replayed.out.items c.requires.first.1 c.requires.first.2 c.in-Ok.ensures.free (λ e. ap (λ m. m.board) (c.in-Ok.ensures.cut e))
    (λ e. (c.in-Ok.ensures.none e).0) c.in-Ok.ensures.replays

pub returns-clause-works : goal.returns-clause-works
returns-clause-works g c =
    works_on g.K.Kit.gives g.N.Namer.digest c.args.shop.now c.replay.new.master
    (sent_to (nobody c.args.master.now.board.plan.workers) c.in-Ok.replayed.out.items) c.in-Ok.replayed.draws c.in-Ok.replayed.end
    c.in-Ok.ensures.goes_on

pub returns-clause-stood : goal.returns-clause-stood
returns-clause-stood g c = λ kept begins.
    let shop = c.args.shop.now in
    let log = c.args.resumes.log.now in
    let header = c.args.resumes.header.now in
    let m = c.args.master.now in
    let r = c.in-Ok.replayed in
    let first : IsAtFirst g.K.Kit.gives g.N.Namer.digest shop m =
    record {
      working = c.requires.working;
      kept = kept;
      journal = c.requires.first.1;
    } in
    let came : CameTo g.K.Kit.gives g.N.Namer.digest shop log header m r.whole r.out.items r.end c.replay.new.master =
    record {
      cut = c.in-Ok.ensures.cut;
      none = c.in-Ok.ensures.none;
      replays = c.in-Ok.ensures.replays;
    } in
    stood_on g.K.Kit.gives g.N.Namer.digest shop c.replay.new.master (sent_to (nobody m.board.plan.workers) r.out.items) r.draws m.board.plan
    c.in-Ok.ensures.plan r.end c.in-Ok.ensures.goes_on
    (c.replays_follow.ensures.kept shop log header m r.whole r.out.items r.end c.replay.new.master first begins came)
    (c.replays_follow.ensures.ended shop log header m r.whole r.out.items r.end c.replay.new.master first begins came)

pub returns-clause-replayed : goal.returns-clause-replayed
returns-clause-replayed g c = λ kept begins.
    let shop = c.args.shop.now in
    let log = c.args.resumes.log.now in
    let header = c.args.resumes.header.now in
    let m = c.args.master.now in
    let r = c.in-Ok.replayed in
    let first : IsAtFirst g.K.Kit.gives g.N.Namer.digest shop m =
    record {
      working = c.requires.working;
      kept = kept;
      journal = c.requires.first.1;
    } in
    let came : CameTo g.K.Kit.gives g.N.Namer.digest shop log header m r.whole r.out.items r.end c.replay.new.master =
    record {
      cut = c.in-Ok.ensures.cut;
      none = c.in-Ok.ensures.none;
      replays = c.in-Ok.ensures.replays;
    } in (
      r.whole,
      c.in-Ok.ensures.whole,
      c.replays_follow.ensures.told shop log header m r.whole r.out.items r.end c.replay.new.master first begins came,
    )

pub returns-clause-begun : goal.returns-clause-begun
returns-clause-begun g c = record {
  bytes = standing_bytes c.args.resumes.header.now c.args.resumes.log.now c.in-Ok.replayed.whole;
  size = c.in-Ok-begin_again.ensures.size;
  are = λ kept begins.
      let shop = c.args.shop.now in
      let log = c.args.resumes.log.now in
      let header = c.args.resumes.header.now in
      let m = c.args.master.now in
      let r = c.in-Ok.replayed in
      let first : IsAtFirst g.K.Kit.gives g.N.Namer.digest shop m =
      record {
        working = c.requires.working;
        kept = kept;
        journal = c.requires.first.1;
      } in
      let came : CameTo g.K.Kit.gives g.N.Namer.digest shop log header m r.whole r.out.items r.end c.replay.new.master =
      record {
        cut = c.in-Ok.ensures.cut;
        none = c.in-Ok.ensures.none;
        replays = c.in-Ok.ensures.replays;
      } in
      standing_told (g.N.Namer.digest shop.namer) (job_view shop.job) (g.K.Kit.gives shop.kit) m.board.plan header log
      c.replay.new.master.board.journal r.whole
      (c.replays_follow.ensures.told shop log header m r.whole r.out.items r.end c.replay.new.master first begins came);
  put = c.in-Ok-begin_again.ensures.begun;
  asked = c.in-Ok-begin_again.ensures.asked;
  never_falls = c.begin_again.ensures.never_falls;
}
