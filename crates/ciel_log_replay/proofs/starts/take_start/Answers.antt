use Rattle.std.proofs.Common.{refl}
use Rattle.ciel_journal.specs.Entries.{Entry}
use Rattle.ciel_log_replay.proofs.Choices.{rests_picks_none}
use Rattle.ciel_log_replay.proofs.Stays.{has_started, is_next, next_is, rests_closes, start_below, start_between, start_kept, start_none, start_only}
use Rattle.ciel_master_board.specs.Board.{task_key}
use Rattle.ciel_log_replay.proofs.starts.take_start.Goals as goal

pub bounds-out-at : goal.bounds-out-at
bounds-out-at g c =
    let n = c.in_ok-next.ensures in
    let p = rw c.in-Some.is at n.picked in
    let v = rw c.in-Some.is at n.order in
    let s = rw c.in-Some.is at n.started in
    start_below c.requires.between c.in-Some.order p v s c.turns_come_to_an_end.ensures.start

pub returns-clause-between : goal.returns-clause-between
returns-clause-between g c =
    let n = c.in_ok-next.ensures in
    let p = rw c.in-Some.is at n.picked in
    let v = rw c.in-Some.is at n.order in
    let s = rw c.in-Some.is at n.started in
    start_between c.requires.between c.in-Some.order p v s c.turns_come_to_an_end.ensures.start
    c.orders_are_safe.ensures.orders _ refl c.start_next.new.state (rw c.in-Some.is at n.draws)

pub returns-clause-model : goal.returns-clause-model
returns-clause-model g c k =
    let n = c.in_ok-next.ensures in
    let p = rw c.in-Some.is at n.picked in
    let v = rw c.in-Some.is at n.order in
    let s = rw c.in-Some.is at n.started in
    start_kept c.requires.between c.in-Some.order p v s k _ refl c.start_next.new.state
    (rw c.in-Some.is at n.draws)

pub returns-clause-must : goal.returns-clause-must
returns-clause-must g c t k =
    let n = c.in_ok-next.ensures in
    let p = rw c.in-Some.is at n.picked in
    let v = rw c.in-Some.is at n.order in
    let s = rw c.in-Some.is at n.started in
    start_only c.requires.between.working k c.args.number c.args.worker c.args.from c.args.task.now
    (is_next c.requires.between c.in-Some.order p v s c.args.number c.args.worker c.args.from
    c.args.task.now (c.is_start-taken.ensures.is t))

pub returns-clause-refused : goal.returns-clause-refused
returns-clause-refused g c f q =
    let n = c.in_ok-next.ensures in
    let p = rw c.in-Some.is at n.picked in
    let v = rw c.in-Some.is at n.order in
    let s = rw c.in-Some.is at n.started in
    c.is_start-taken.ensures.other f
    (next_is c.requires.between c.in-Some.order p v s c.args.number c.args.worker c.args.from
    c.args.task.now q)

pub returns-clause-started : goal.returns-clause-started
returns-clause-started g c t =
    let n = c.in_ok-next.ensures in
    let p = rw c.in-Some.is at n.picked in
    let v = rw c.in-Some.is at n.order in
    let s = rw c.in-Some.is at n.started in
    has_started c.requires.between c.in-Some.order p v s c.args.number c.args.worker c.args.from
    c.args.task.now _ refl (c.is_start-taken.ensures.is t)

pub returns-clause-taken : goal.returns-clause-taken
returns-clause-taken g c t =
    let n = c.in_ok-next.ensures in
    let p = rw c.in-Some.is at n.picked in
    let v = rw c.in-Some.is at n.order in
    let s = rw c.in-Some.is at n.started in
    is_next c.requires.between c.in-Some.order p v s c.args.number c.args.worker c.args.from
    c.args.task.now (c.is_start-taken.ensures.is t)

pub returns-clause-cause : goal.returns-clause-cause
returns-clause-cause g c f k q =
    let n = c.in_ok-next.ensures in
    let p = rw c.in-Some.is at n.picked in
    let v = rw c.in-Some.is at n.order in
    let s = rw c.in-Some.is at n.started in
    c.is_start-taken.ensures.other f
    (next_is c.requires.between c.in-Some.order p v s c.args.number c.args.worker c.args.from
    c.args.task.now (start_none c.requires.between.working k c.in-Some.order.task c.in-Some.order.worker c.args.number c.args.worker c.args.from
    c.args.task.now p q))

pub returns-in-None-clause-refused : goal.returns-in-None-clause-refused
returns-in-None-clause-refused g c f q =
    rests_picks_none c.args.master.now.board c.args.task.now c.args.worker (rw c.in-None.is at c.in_ok-next.ensures.rests) q.picked

pub returns-in-None-clause-cause : goal.returns-in-None-clause-cause
returns-in-None-clause-cause g c f k q =
    rests_closes c.requires.between.working k (rw c.in-None.is at c.in_ok-next.ensures.rests)
    (Entry.Start c.args.number c.args.worker (task_key c.args.task.now) c.args.from) q
