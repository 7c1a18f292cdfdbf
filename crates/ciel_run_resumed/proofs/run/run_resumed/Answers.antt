-- What was opened goes on from where its log stands; and the gates are those that were lent, and the others.
use Rattle.std.proofs.Common.{◌≡◌, ◌≢◌, ◌∙◌, Err, List, ℕ, map, take, length, true, ap, subst, sym}
use Rattle.std.proofs.lemmas.List.{length-take-le}
use Rattle.std.specs.Arc.{arc_value}
use Rattle.sky_base.specs.JobView.{job_view}
use Rattle.ciel_journal.specs.Entries.{Entry}
use Rattle.ciel_journal.specs.Job.{Each}
use Rattle.ciel_log_file.specs.Sending.{CanSend, nobody, sent_to}
use Rattle.ciel_log_follows.specs.Begins.{BeginsLog}
use Rattle.ciel_log_law.specs.Ended.{EndsSo}
use Rattle.ciel_log_law.specs.Kept.{Kept}
use Rattle.ciel_log_law.specs.Logs.{Logs}
use Rattle.ciel_log_law.specs.RunEnd.{RunEnd}
use Rattle.ciel_log_law.specs.Told.{LogContinued}
use Rattle.ciel_log_law.specs.Seen.{plan_view}
use Rattle.ciel_log_law.specs.Views.{entry_view}
use Rattle.ciel_log_law.specs.Working.{Working}
use Rattle.ciel_log_refuses.specs.Refusals.{IsBadAt}
use Rattle.ciel_run_job.proofs.Lent.{all_back, others_back, still}
use Rattle.ciel_run_job.specs.Onward.{IsRead}
use Rattle.ciel_run_job.specs.Told.{told_of}
use Rattle.ciel_run_logged.specs.Keeping.{IfOver, KeeperSeen, Keeps}
use Rattle.ciel_run_onward.specs.Gates.{ToldSince}
use Rattle.ciel_run_resumed.specs.Resuming.{BegunWith, FileTells, Replays}
use Rattle.ciel_run_onward.specs.Onward.{Stood, WorksOn}
use Rattle.ciel_run_resumed.proofs.Began.{kept_by}
use Rattle.ciel_run_resumed.proofs.Onward.{handed_on}
use Rattle.ciel_run_resumed.proofs.Opened.{at_first, ends_still, from_first, kept_first, nothing_yet, over_still, plan_is, works_first}
use Rattle.ciel_run_resumed.proofs.Told.{since_back, since_many}
use Rattle.ciel_run_resumed.proofs.Written.{file_tells}
use Rattle.ciel_task_crew.specs.Crews.{Takes}
use Rattle.ciel_task_order.specs.Shop.{InputsInOrder}
use Rattle.ciel_task_order.specs.declared.shop.Shop.{Shop}
use Rattle.ciel_run_job.specs.Kinds.{IsFor}
use Rattle.ciel_run_resumed.proofs.run.run_resumed.Goals as goal

pub go_back-requires-clause-working : goal.go_back-requires-clause-working
go_back-requires-clause-working g c =
    let of = c.in-Ok.ensures.shop in
    let m = c.in-Ok.opened.master in
    subst (λ s. Working g.K.Kit.gives g.N.Namer.digest s true m (nobody m.board.plan.workers)) (sym c.deref.ensures)
    (works_first g.K.Kit.gives g.N.Namer.digest (arc_value c.in-Ok.opened.shop) c.args.plan m c.in-Ok.opened.eyes.items c.in-Ok.ensures.opened
    (subst (λ j. IsRead (job_view j).script) (sym of.job_is) c.requires.read)
    (subst (λ j. InputsInOrder (job_view j)) (sym of.job_is) c.requires.inputs) c.functions_are_orderly.ensures.orderly)

pub go_back-requires-clause-first : goal.go_back-requires-clause-first
go_back-requires-clause-first g c =
    nothing_yet g.K.Kit.gives g.N.Namer.digest (arc_value c.in-Ok.opened.shop) c.args.plan c.in-Ok.opened.master c.in-Ok.opened.eyes.items
    c.in-Ok.ensures.opened

pub run_onward-logged-requires-clause-hands : goal.run_onward-logged-requires-clause-hands
run_onward-logged-requires-clause-hands g c κs within =
    subst (λ k. IsFor (g.K.Kit.gives k) c.args.hands) (sym c.in-Ok.ensures.shop.kit_is) c.requires.hands

pub run_onward-logged-requires-clause-read : goal.run_onward-logged-requires-clause-read
run_onward-logged-requires-clause-read g c κs within = subst (λ j. IsRead (job_view j).script) (sym c.in-Ok.ensures.shop.job_is) c.requires.read

pub run_onward-logged-requires-clause-takes : goal.run_onward-logged-requires-clause-takes
run_onward-logged-requires-clause-takes g c κs within =
    subst (λ s. Each (Takes g.K.Kit.gives g.N.Namer.digest s) c.in_ok-onward.onward.out.items) c.deref.ensures c.in_ok-onward.ensures.takes

pub run_onward-logged-requires-clause-sends : goal.run_onward-logged-requires-clause-sends
run_onward-logged-requires-clause-sends g c κs within =
    subst (λ p. CanSend (nobody p.workers) c.in_ok-onward.onward.out.items)
    (plan_is g.K.Kit.gives g.N.Namer.digest (arc_value c.in-Ok.opened.shop) c.args.plan c.in-Ok.opened.master c.in-Ok.opened.eyes.items
    c.in-Ok.ensures.opened ∙ ap plan_view (sym c.of-planned.ensures)) c.in_ok-onward.ensures.sends

pub run_onward-logged-requires-clause-works : goal.run_onward-logged-requires-clause-works
run_onward-logged-requires-clause-works g c κs within =
    let o = c.in_ok-onward.onward in
    subst (λ p. WorksOn g.K.Kit.gives g.N.Namer.digest (arc_value c.in-Ok.opened.shop) c.go_back.new.master
    (sent_to (nobody p.workers) o.out.items) o.end)
    (plan_is g.K.Kit.gives g.N.Namer.digest (arc_value c.in-Ok.opened.shop) c.args.plan c.in-Ok.opened.master c.in-Ok.opened.eyes.items
    c.in-Ok.ensures.opened ∙ ap plan_view (sym c.of-planned.ensures))
    (subst (λ s. WorksOn g.K.Kit.gives g.N.Namer.digest s c.go_back.new.master
    (sent_to (nobody c.in-Ok.opened.master.board.plan.workers) o.out.items) o.end) c.deref.ensures c.in_ok-onward.ensures.works)

pub run_onward-logged-requires-clause-plan : goal.run_onward-logged-requires-clause-plan
run_onward-logged-requires-clause-plan g c κs within = c.in_ok-onward.ensures.plan ∙ (plan_is g.K.Kit.gives g.N.Namer.digest (arc_value c.in-Ok.opened.shop) c.args.plan c.in-Ok.opened.master c.in-Ok.opened.eyes.items
    c.in-Ok.ensures.opened ∙ ap plan_view (sym c.of-planned.ensures))

-- a log that is refused

pub returns-in_err-onward-clause-bad : goal.returns-in_err-onward-clause-bad
returns-in_err-onward-clause-bad g c = λ at is.
    let shop = arc_value c.in-Ok.opened.shop in
    let eyes = c.in-Ok.opened.eyes.items in
    let m = c.in-Ok.opened.master in
    let of = c.in-Ok.ensures.shop in
    let log = c.args.resumes.log.now in
    let header = c.args.resumes.header.now in
    let kept = kept_first g.K.Kit.gives g.N.Namer.digest shop c.args.plan m eyes c.in-Ok.ensures.opened
    (subst (λ j. IsRead (job_view j).script) (sym of.job_is) c.requires.read)
    (subst (λ j. InputsInOrder (job_view j)) (sym of.job_is) c.requires.inputs) c.functions_are_orderly.ensures.orderly in
    let back = subst (λ (s : Shop _ _). IsBadAt (g.N.Namer.digest s.namer) (job_view s.job) (g.K.Kit.gives s.kit) m.board.plan header log at)
    c.deref.ensures
    (c.in_err-onward.ensures.bad
    (subst (λ (s : Shop _ _). Kept g.K.Kit.gives g.N.Namer.digest s true m (nobody m.board.plan.workers) m.board.plan.seed) (sym c.deref.ensures)
    kept)
    at (ap Err (handed_on c.from_residual.result c.in_err-onward.field-0.0 at c.from_residual.ensures.1 is))) in
    from_first g.K.Kit.gives g.N.Namer.digest shop c.args.plan m eyes c.in-Ok.ensures.opened c.args.job c.args.kit c.args.namer of
    (λ d j x p. IsBadAt d j x p header log at) back

-- the run that was driven, where the log is one of the job's own

pub returns-clause-end : goal.returns-clause-end
returns-clause-end g c = λ begins.
    let shop = arc_value c.in-Ok.opened.shop in
    let eyes = c.in-Ok.opened.eyes.items in
    let m = c.in-Ok.opened.master in
    let then = c.go_back.new.master in
    let o = c.in_ok-onward.onward in
    let of = c.in-Ok.ensures.shop in
    let ran = c.run_onward-logged.result.0.ran in
    let J = map entry_view ran.journal.items in
    let log = c.args.resumes.log.now in
    let header = c.args.resumes.header.now in
    let plan = plan_is g.K.Kit.gives g.N.Namer.digest shop c.args.plan m eyes c.in-Ok.ensures.opened ∙ ap plan_view (sym c.of-planned.ensures) in
    let kept = kept_first g.K.Kit.gives g.N.Namer.digest shop c.args.plan m eyes c.in-Ok.ensures.opened
    (subst (λ j. IsRead (job_view j).script) (sym of.job_is) c.requires.read)
    (subst (λ j. InputsInOrder (job_view j)) (sym of.job_is) c.requires.inputs) c.functions_are_orderly.ensures.orderly in
    let own = at_first g.K.Kit.gives g.N.Namer.digest shop c.args.plan m eyes c.in-Ok.ensures.opened c.args.job c.args.kit c.args.namer of
    (λ d j x p. BeginsLog d j x p header log) begins in
    let back = subst (λ s. Kept g.K.Kit.gives g.N.Namer.digest s true m (nobody m.board.plan.workers) m.board.plan.seed
    → BeginsLog (g.N.Namer.digest s.namer) (job_view s.job) (g.K.Kit.gives s.kit) m.board.plan header log
    → Stood g.K.Kit.gives g.N.Namer.digest s then (sent_to (nobody m.board.plan.workers) o.out.items) o.end o.draws) c.deref.ensures
    c.in_ok-onward.ensures.stood in
    let stood = subst (λ p. Stood g.K.Kit.gives g.N.Namer.digest shop then (sent_to (nobody p.workers) o.out.items) o.end o.draws) plan
    (back kept own) in
    subst (λ (es : List Entry). EndsSo (g.N.Namer.digest c.args.namer) (job_view c.args.job) (g.K.Kit.gives c.args.kit) (plan_view c.args.plan) es
    c.put_back-ran.result.0.end) (sym (ap (λ j. map entry_view j.items) c.put_back-ran.ensures.journal))
    (ends_still ran.end c.put_back-ran.result.0.end c.put_back-ran.ensures.end (g.N.Namer.digest c.args.namer) (job_view c.args.job)
    (g.K.Kit.gives c.args.kit) (plan_view c.args.plan) J
    (from_first g.K.Kit.gives g.N.Namer.digest shop c.args.plan m eyes c.in-Ok.ensures.opened c.args.job c.args.kit c.args.namer of
    (λ d j x p. EndsSo d j x p J ran.end)
    (subst (λ p. EndsSo (g.N.Namer.digest shop.namer) (job_view shop.job) (g.K.Kit.gives shop.kit) p J ran.end) (sym plan)
    (c.run_onward-logged.ensures.end stood))))

pub returns-clause-told : goal.returns-clause-told
returns-clause-told g c = λ some.
    let shop = arc_value c.in-Ok.opened.shop in
    let eyes = c.in-Ok.opened.eyes.items in
    let m = c.in-Ok.opened.master in
    let then = c.go_back.new.master in
    let o = c.in_ok-onward.onward in
    let of = c.in-Ok.ensures.shop in
    let ran = c.run_onward-logged.result.0.ran in
    let J = map entry_view ran.journal.items in
    let log = c.args.resumes.log.now in
    let header = c.args.resumes.header.now in
    let plan = plan_is g.K.Kit.gives g.N.Namer.digest shop c.args.plan m eyes c.in-Ok.ensures.opened ∙ ap plan_view (sym c.of-planned.ensures) in
    let kept = kept_first g.K.Kit.gives g.N.Namer.digest shop c.args.plan m eyes c.in-Ok.ensures.opened
    (subst (λ j. IsRead (job_view j).script) (sym of.job_is) c.requires.read)
    (subst (λ j. InputsInOrder (job_view j)) (sym of.job_is) c.requires.inputs) c.functions_are_orderly.ensures.orderly in
    let R = then.board.journal in
    let over = still _ _ c.put_back-ran.ensures.end some in
    let back = subst (λ s. Kept g.K.Kit.gives g.N.Namer.digest s true m (nobody m.board.plan.workers) m.board.plan.seed
    → BeginsLog (g.N.Namer.digest s.namer) (job_view s.job) (g.K.Kit.gives s.kit) m.board.plan header log
    → Replays (g.N.Namer.digest s.namer) (job_view s.job) (g.K.Kit.gives s.kit) m.board.plan header log R) c.deref.ensures
    c.in_ok-onward.ensures.replayed in
    let told = c.run_onward-logged.ensures.told over in
    let is_own : c.replace-own.result.items ≡ take c.args.plan.workers c.args.gates.now.items =
    ap (λ gs. gs.items) c.replace-own.ensures.value ∙ c.in-Ok-set_aside.ensures.first in
    let many : length c.run_onward-logged.result.1.items ≡ c.args.plan.workers =
    since_many g.G.Gate.entered R J c.replace-own.result.items c.run_onward-logged.result.1.items told
    ∙ ap length is_own ∙ length-take-le c.args.plan.workers c.args.gates.now.items c.requires.gates in (
      R,
      λ begins. from_first g.K.Kit.gives g.N.Namer.digest shop c.args.plan m eyes c.in-Ok.ensures.opened c.args.job c.args.kit c.args.namer of
          (λ d j x p. Replays d j x p header log R)
          (back kept (at_first g.K.Kit.gives g.N.Namer.digest shop c.args.plan m eyes c.in-Ok.ensures.opened c.args.job c.args.kit c.args.namer of
          (λ d j x p. BeginsLog d j x p header log) begins)),
      subst (λ (es : List Entry). ToldSince R es (told_of g.G.Gate.entered c.args.plan.workers c.args.gates.now.items)
          (told_of g.G.Gate.entered c.args.plan.workers c.put_back-ran.result.1.items))
          (sym (ap (λ j. map entry_view j.items) c.put_back-ran.ensures.journal))
          (since_back g.G.Gate.entered c.args.plan.workers c.args.gates.now.items c.replace-own.result.items c.in-Ok-set_aside.others.items
          c.run_onward-logged.result.1.items c.put_back-ran.result.1.items is_own many (c.put_back-ran.ensures.gates some) R J told),
    )

pub returns-clause-written : goal.returns-clause-written
returns-clause-written g c = λ begins.
    let shop = arc_value c.in-Ok.opened.shop in
    let eyes = c.in-Ok.opened.eyes.items in
    let m = c.in-Ok.opened.master in
    let then = c.go_back.new.master in
    let o = c.in_ok-onward.onward in
    let of = c.in-Ok.ensures.shop in
    let ran = c.run_onward-logged.result.0.ran in
    let J = map entry_view ran.journal.items in
    let log = c.args.resumes.log.now in
    let header = c.args.resumes.header.now in
    let plan = plan_is g.K.Kit.gives g.N.Namer.digest shop c.args.plan m eyes c.in-Ok.ensures.opened ∙ ap plan_view (sym c.of-planned.ensures) in
    let kept = kept_first g.K.Kit.gives g.N.Namer.digest shop c.args.plan m eyes c.in-Ok.ensures.opened
    (subst (λ j. IsRead (job_view j).script) (sym of.job_is) c.requires.read)
    (subst (λ j. InputsInOrder (job_view j)) (sym of.job_is) c.requires.inputs) c.functions_are_orderly.ensures.orderly in
    let own = at_first g.K.Kit.gives g.N.Namer.digest shop c.args.plan m eyes c.in-Ok.ensures.opened c.args.job c.args.kit c.args.namer of
    (λ d j x p. BeginsLog d j x p header log) begins in
    let back = subst (λ s. Kept g.K.Kit.gives g.N.Namer.digest s true m (nobody m.board.plan.workers) m.board.plan.seed
    → BeginsLog (g.N.Namer.digest s.namer) (job_view s.job) (g.K.Kit.gives s.kit) m.board.plan header log
    → Stood g.K.Kit.gives g.N.Namer.digest s then (sent_to (nobody m.board.plan.workers) o.out.items) o.end o.draws) c.deref.ensures
    c.in_ok-onward.ensures.stood in
    let stood = subst (λ p. Stood g.K.Kit.gives g.N.Namer.digest shop then (sent_to (nobody p.workers) o.out.items) o.end o.draws) plan
    (back kept own) in
    let old : KeeperSeen =
    record {
      files = g.D.Keep.files c.args.keep.now;
      asked = g.D.Keep.asked c.args.keep.now;
      faults = g.D.Keep.faults c.args.keep.now;
    } in
    let begun : KeeperSeen =
    record {
      files = g.D.Keep.files c.go_back.new.keep;
      asked = g.D.Keep.asked c.go_back.new.keep;
      faults = g.D.Keep.faults c.go_back.new.keep;
    } in
    let now : KeeperSeen =
    record {
      files = g.D.Keep.files c.run_onward-logged.new.keep;
      asked = g.D.Keep.asked c.run_onward-logged.new.keep;
      faults = g.D.Keep.faults c.run_onward-logged.new.keep;
    } in
    let R = then.board.journal in
    let state = c.run_onward-logged.result.0.state in
    let path = c.args.resumes.path in
    let made = subst (λ s. BegunWith path old begun o.log.held
    (λ bytes. Kept g.K.Kit.gives g.N.Namer.digest s true m (nobody m.board.plan.workers) m.board.plan.seed
    → BeginsLog (g.N.Namer.digest s.namer) (job_view s.job) (g.K.Kit.gives s.kit) m.board.plan header log
    → Logs (g.N.Namer.digest s.namer) (job_view s.job) (g.K.Kit.gives s.kit) m.board.plan header R bytes)) c.deref.ensures
    c.in_ok-onward.ensures.begun in
    let there : BegunWith path old begun o.log.held (Logs (g.N.Namer.digest shop.namer) (job_view shop.job) (g.K.Kit.gives shop.kit) m.board.plan header R) =
    record {
      bytes = made.bytes;
      size = made.size;
      are = made.are kept own;
      put = made.put;
      asked = made.asked;
      never_falls = made.never_falls;
    } in
    let keeps : ran.end ≢ RunEnd.Memory → Keeps path o.log.held begun now state =
    (λ some. subst (λ (q : List ℕ). Keeps q o.log.held begun now state) c.in_ok-onward.ensures.path (c.run_onward-logged.ensures.keeps some)) in
    let went : IfOver ran.end (LogContinued (g.N.Namer.digest shop.namer) (job_view shop.job) (g.K.Kit.gives shop.kit) m.board.plan path o.log.held
    begun.files now.files R J state) =
    subst (λ (q : List ℕ). IfOver ran.end (LogContinued (g.N.Namer.digest shop.namer) (job_view shop.job) (g.K.Kit.gives shop.kit) m.board.plan q
    o.log.held begun.files now.files R J state)) c.in_ok-onward.ensures.path
    (subst (λ p. IfOver ran.end (LogContinued (g.N.Namer.digest shop.namer) (job_view shop.job) (g.K.Kit.gives shop.kit) p o.log.path o.log.held
    begun.files now.files R J state)) (sym plan) (c.run_onward-logged.ensures.written stood)) in
    let tells = file_tells (g.N.Namer.digest shop.namer) (job_view shop.job) (g.K.Kit.gives shop.kit) m.board.plan path header R J state o.log.held
    old begun now there ran.end keeps went in
    subst (λ (es : List Entry). IfOver c.put_back-ran.result.0.end (FileTells (g.N.Namer.digest c.args.namer) (job_view c.args.job)
    (g.K.Kit.gives c.args.kit) (plan_view c.args.plan) header path now.files es state))
    (sym (ap (λ j. map entry_view j.items) c.put_back-ran.ensures.journal))
    (over_still ran.end c.put_back-ran.result.0.end c.put_back-ran.ensures.end (FileTells (g.N.Namer.digest c.args.namer) (job_view c.args.job)
    (g.K.Kit.gives c.args.kit) (plan_view c.args.plan) header path now.files J state)
    (from_first g.K.Kit.gives g.N.Namer.digest shop c.args.plan m eyes c.in-Ok.ensures.opened c.args.job c.args.kit c.args.namer of
    (λ d j x p. IfOver ran.end (FileTells d j x p header path now.files J state)) tells))

-- and whatever the log is

pub returns-clause-keeps : goal.returns-clause-keeps
returns-clause-keeps g c = λ some.
    let o = c.in_ok-onward.onward in
    let ran = c.run_onward-logged.result.0.ran in
    let state = c.run_onward-logged.result.0.state in
    let path = c.args.resumes.path in
    let old : KeeperSeen =
    record {
      files = g.D.Keep.files c.args.keep.now;
      asked = g.D.Keep.asked c.args.keep.now;
      faults = g.D.Keep.faults c.args.keep.now;
    } in
    let begun : KeeperSeen =
    record {
      files = g.D.Keep.files c.go_back.new.keep;
      asked = g.D.Keep.asked c.go_back.new.keep;
      faults = g.D.Keep.faults c.go_back.new.keep;
    } in
    let now : KeeperSeen =
    record {
      files = g.D.Keep.files c.run_onward-logged.new.keep;
      asked = g.D.Keep.asked c.run_onward-logged.new.keep;
      faults = g.D.Keep.faults c.run_onward-logged.new.keep;
    } in
    let made = c.in_ok-onward.ensures.begun in
    kept_by path made.bytes old begun now made.put made.never_falls made.asked o.log.held made.size state
    (subst (λ (q : List ℕ). Keeps q o.log.held begun now state) c.in_ok-onward.ensures.path
    (c.run_onward-logged.ensures.keeps (still _ _ c.put_back-ran.ensures.end some)))

pub returns-clause-others : goal.returns-clause-others
returns-clause-others g c =
    let R = c.go_back.new.master.board.journal in
    let ran = c.run_onward-logged.result.0.ran in
    others_back g.G.Gate.entered c.args.plan.workers c.args.gates.now.items c.replace-own.result.items c.in-Ok-set_aside.others.items
    c.run_onward-logged.result.1.items c.put_back-ran.result.1.items
    (ap (λ gs. gs.items) c.replace-own.ensures.value ∙ c.in-Ok-set_aside.ensures.first) c.in-Ok-set_aside.ensures.others c.requires.gates ran.end
    c.put_back-ran.result.0.end c.put_back-ran.ensures.end c.put_back-ran.ensures.gates
    (λ some. since_many g.G.Gate.entered R (map entry_view ran.journal.items) c.replace-own.result.items c.run_onward-logged.result.1.items
    (c.run_onward-logged.ensures.told some))

pub returns-clause-all : goal.returns-clause-all
returns-clause-all g c =
    let R = c.go_back.new.master.board.journal in
    let ran = c.run_onward-logged.result.0.ran in
    all_back g.G.Gate.entered c.args.plan.workers c.args.gates.now.items c.replace-own.result.items c.in-Ok-set_aside.others.items
    c.run_onward-logged.result.1.items c.put_back-ran.result.1.items
    (ap (λ gs. gs.items) c.replace-own.ensures.value ∙ c.in-Ok-set_aside.ensures.first) c.in-Ok-set_aside.ensures.others c.requires.gates ran.end
    c.put_back-ran.result.0.end c.put_back-ran.ensures.end c.put_back-ran.ensures.gates
    (λ some. since_many g.G.Gate.entered R (map entry_view ran.journal.items) c.replace-own.result.items c.run_onward-logged.result.1.items
    (c.run_onward-logged.ensures.told some))
