use Rattle.std.proofs.Common.{ap, subst, sym}
use Rattle.ciel_journal.specs.History.{Plan}
use Rattle.ciel_log_file.specs.Sending.{AllTake, nobody, sent_to}
use Rattle.ciel_log_file.proofs.Places.{free_back, refused_is, replayed_is, sent_back}
use Rattle.ciel_log_file.proofs.Steps.{each_takes, first_between, takes_nobody}
use Rattle.ciel_log_replay.specs.Between.{Between}
use Rattle.ciel_log_report.proofs.Refused.{none_under}
use Rattle.ciel_log_file.proofs.replay.replay_from.Goals as goal

pub replay_records-requires-clause-between : goal.replay_records-requires-clause-between
replay_records-requires-clause-between g c =
    first_between g.K.Kit.gives g.N.Namer.digest c.args.shop.now c.args.master.now c.args.out.now c.plan.result.now.seed c.requires.working
    c.requires.first c.requires.nobody (ap (λ (p : Plan). p.seed) c.plan.ensures)

pub replay_records-requires-clause-takes : goal.replay_records-requires-clause-takes
replay_records-requires-clause-takes g c =
    subst (AllTake g.K.Kit.gives g.N.Namer.digest c.args.shop.now) (sym c.requires.nobody)
    (takes_nobody g.K.Kit.gives g.N.Namer.digest c.args.shop.now c.args.master.now.board.plan.workers)

pub returns-clause-goes_on : goal.returns-clause-goes_on
returns-clause-goes_on g c =
    let w = c.args.master.now.board.plan.workers in
    let then = c.replay_records.new.out in
    let orders = c.in_ok-orders.orders.items in
    let m = c.replay_records.new.master in
    let draws = c.replay_records.new.draws in
    none_under (Between g.K.Kit.gives g.N.Namer.digest c.args.shop.now m then draws)
    (Between g.K.Kit.gives g.N.Namer.digest c.args.shop.now m (sent_to (nobody w) orders) draws) c.in-Ok.told.1
    (subst (λ z. Between g.K.Kit.gives g.N.Namer.digest c.args.shop.now m z draws)
    (sym (sent_back w c.args.out.now then orders c.requires.nobody c.in-Ok.ensures.many c.in_ok-orders.ensures.sent)))
    c.in-Ok.ensures.between

pub returns-clause-takes : goal.returns-clause-takes
returns-clause-takes g c =
    each_takes g.K.Kit.gives g.N.Namer.digest c.args.shop.now c.replay_records.new.out c.in_ok-orders.orders.items c.in-Ok.ensures.takes
    c.in_ok-orders.ensures.had

pub returns-clause-free : goal.returns-clause-free
returns-clause-free g c =
    free_back c.args.master.now.board.plan.workers c.args.out.now c.replay_records.new.out c.in_ok-orders.orders.items c.requires.nobody
    c.in-Ok.ensures.many c.in_ok-orders.ensures.free

pub returns-clause-replays : goal.returns-clause-replays
returns-clause-replays g c header here =
    let w = c.args.master.now.board.plan.workers in
    let then = c.replay_records.new.out in
    let orders = c.in_ok-orders.orders.items in
    let r = c.in-Ok.ensures.replays in
    replayed_is (g.N.Namer.digest c.args.shop.now.namer) c.args.shop.now.shelves c.args.script.now _ c.args.log.now header c.args.behind
    c.in-Ok.told.0 c.in-Ok.told.1 c.args.master.now.board c.args.out.now (nobody w) c.replay_records.new.master.board then
    (sent_to (nobody w) orders) c.new-kept.result c.replay_records.new.kept r.0 c.requires.script c.requires.nobody
    (sym (sent_back w c.args.out.now then orders c.requires.nobody c.in-Ok.ensures.many c.in_ok-orders.ensures.sent)) c.new-kept.ensures.empty here
    r.1 r.2

pub returns-in-Err-clause-bad : goal.returns-in-Err-clause-bad
returns-in-Err-clause-bad g c at q header here =
    refused_is (g.N.Namer.digest c.args.shop.now.namer) c.args.shop.now.shelves c.args.script.now _ c.args.log.now header c.args.behind at
    c.args.master.now.board c.args.out.now (nobody c.args.master.now.board.plan.workers) c.new-kept.result c.requires.script c.requires.nobody
    c.new-kept.ensures.empty here (c.in-Err.ensures.bad at q)
