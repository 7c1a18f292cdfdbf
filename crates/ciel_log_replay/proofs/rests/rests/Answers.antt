use Rattle.std.proofs.Common.{◌≡◌, length, sym, ◌∙◌, inl, inr, ap, arith, eqb-true}
use Rattle.std.proofs.lemmas.List.{nil_from_length}
use Rattle.ciel_log_replay.proofs.Choices.{above, none_can_run, none_of, some_can_start, some_of}
use Rattle.ciel_log_replay.proofs.Stays.{due_closes_none, rests_closes, start_closes_none}
use Rattle.ciel_master_board.specs.Board.{idle_of}
use Rattle.ciel_log_replay.proofs.rests.rests.Goals as goal

pub returns-then-is_some-clause-none_closes : goal.returns-then-is_some-clause-none_closes
returns-then-is_some-clause-none_closes g c q k e n i =
    let due = some_of c.due.result c.is_some.ensures c.if-is_some.true c.due.ensures.first in
    due_closes_none c.requires.between.working k due.0 due.1.0 due.1.1 e n i

pub returns-then-is_empty-clause-closes : goal.returns-then-is_empty-clause-closes
returns-then-is_empty-clause-closes g c q k e n =
    let idle = c.in_ok-idle.idle in
    let none = nil_from_length idle.items (omega (arith, idle.ok.0, eqb-true _ 0 (sym c.is_empty.ensures ∙ c.if-is_empty.true))) in
    let quiet = none_of c.due.result c.is_some.ensures c.if-is_some.false c.due.ensures.none in
    rests_closes c.requires.between.working k (quiet, inr (sym c.in_ok-idle.ensures.idle ∙ none)) e n

pub returns-clause-goes_on : goal.returns-clause-goes_on
returns-clause-goes_on g c q r =
    let idle = c.in_ok-idle.idle in
    let more = above _ (sym c.is_empty.ensures ∙ c.if-is_empty.false) in
    let same : length idle.items ≡ length (idle_of c.args.master.now.board) = ap length c.in_ok-idle.ensures.idle in
    some_can_start c.args.master.now.board c.in_ok-count.ensures.count q (omega (arith, idle.ok.0, more, same)) r

pub returns-clause-closes : goal.returns-clause-closes
returns-clause-closes g c q k e n =
    let quiet = none_of c.due.result c.is_some.ensures c.if-is_some.false c.due.ensures.none in
    rests_closes c.requires.between.working k
    (quiet, inl (none_can_run c.args.master.now.board c.in_ok-count.ensures.count (eqb-true c.in_ok-count.count 0 q))) e n

pub returns-clause-none_closes : goal.returns-clause-none_closes
returns-clause-none_closes g c q k e n i =
    let idle = c.in_ok-idle.idle in
    let many = c.in_ok-count.ensures.count in
    let some = above c.in_ok-count.count q in
    let long = many.2 in
    let more = above _ (sym c.is_empty.ensures ∙ c.if-is_empty.false) in
    let same : length idle.items ≡ length (idle_of c.args.master.now.board) = ap length c.in_ok-idle.ensures.idle in
    start_closes_none c.requires.between.working k many.0 many.1 (omega (arith, some, long)) (omega (arith, idle.ok.0, more, same)) e n i
