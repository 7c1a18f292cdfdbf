use Rattle.std.proofs.Common.{ap, inl, inr, refl, subst, ◌∙◌}
use Rattle.std.specs.Cmp.Lexicographic.{texts_ties}
use Rattle.ciel_journal.specs.History.{Plan}
use Rattle.ciel_log_file.specs.Sending.{nobody, sent_to}
use Rattle.ciel_log_file.proofs.Places.{is_behind, is_cut, is_header, is_other, is_same, not_first}
use Rattle.ciel_log_file.proofs.Steps.{first_between}
use Rattle.ciel_log_read.specs.File.{RecordAt}
use Rattle.ciel_log_file.proofs.replay.replay.Goals as goal

pub returns-in_default-clause-of_other : goal.returns-in_default-clause-of_other
returns-in_default-clause-of_other g c o = absurd (is_cut c.args.log.now c.args.header.now c.in_default.ensures o)

pub returns-in_default-clause-whole : goal.returns-in_default-clause-whole
returns-in_default-clause-whole g c = inl (c.in_default.ensures, refl)

pub returns-in_default-clause-goes_on : goal.returns-in_default-clause-goes_on
returns-in_default-clause-goes_on g c =
    let w = c.args.master.now.board.plan.workers in
    first_between g.K.Kit.gives g.N.Namer.digest c.args.shop.now c.args.master.now (sent_to (nobody w) c.new.result.items) c.plan.result.now.seed
    c.requires.working c.requires.first (ap (sent_to (nobody w)) c.new.ensures.items) (ap (λ (p : Plan). p.seed) c.plan.ensures)

pub returns-in_default-clause-takes : goal.returns-in_default-clause-takes
returns-in_default-clause-takes g c = rw c.new.ensures.items tt

pub returns-in_default-clause-free : goal.returns-in_default-clause-free
returns-in_default-clause-free g c = rw c.new.ensures.items tt

pub returns-in_default-clause-rising : goal.returns-in_default-clause-rising
returns-in_default-clause-rising g c = rw c.new.ensures.items tt

pub returns-in-Ok-clause-of_other : goal.returns-in-Ok-clause-of_other
returns-in-Ok-clause-of_other g c o =
    let first = c.in-Some.first.now in
    let header = c.args.header.now in
    let same = is_same first header c.eq.result (c.eq.ensures ∙ texts_ties first header) c.if-eq.true in
    absurd (is_header c.args.log.now header first c.in-Some.behind c.in-Some.ensures same o)

pub returns-in-Ok-clause-whole : goal.returns-in-Ok-clause-whole
returns-in-Ok-clause-whole g c =
    let first = c.in-Some.first.now in
    let header = c.args.header.now in
    let same = is_same first header c.eq.result (c.eq.ensures ∙ texts_ties first header) c.if-eq.true in
    let r = c.in-Ok.ensures.replays header (subst (λ x. RecordAt c.args.log.now 0 x c.in-Some.behind) same c.in-Some.ensures) in
    inr (r.records, r.stand, c.in-Ok.ensures.end)

pub returns-in-Ok-clause-cut : goal.returns-in-Ok-clause-cut
returns-in-Ok-clause-cut g c e =
    let first = c.in-Some.first.now in
    let header = c.args.header.now in
    let same = is_same first header c.eq.result (c.eq.ensures ∙ texts_ties first header) c.if-eq.true in
    let r = c.in-Ok.ensures.replays header (subst (λ x. RecordAt c.args.log.now 0 x c.in-Some.behind) same c.in-Some.ensures) in
    absurd (not_first c.args.log.now header r.stand.0 r.records c.in-Ok.replayed.whole r.stand.1 r.stand.2 e)

pub returns-in-Ok-clause-none : goal.returns-in-Ok-clause-none
returns-in-Ok-clause-none g c e =
    let first = c.in-Some.first.now in
    let header = c.args.header.now in
    let same = is_same first header c.eq.result (c.eq.ensures ∙ texts_ties first header) c.if-eq.true in
    let r = c.in-Ok.ensures.replays header (subst (λ x. RecordAt c.args.log.now 0 x c.in-Some.behind) same c.in-Some.ensures) in
    absurd (not_first c.args.log.now header r.stand.0 r.records c.in-Ok.replayed.whole r.stand.1 r.stand.2 e)

pub returns-in-Ok-clause-replays : goal.returns-in-Ok-clause-replays
returns-in-Ok-clause-replays g c _ =
    let first = c.in-Some.first.now in
    let header = c.args.header.now in
    let same = is_same first header c.eq.result (c.eq.ensures ∙ texts_ties first header) c.if-eq.true in
    c.in-Ok.ensures.replays header (subst (λ x. RecordAt c.args.log.now 0 x c.in-Some.behind) same c.in-Some.ensures)

pub returns-in-Err-clause-other : goal.returns-in-Err-clause-other
returns-in-Err-clause-other g c q = absurd (c.in-Err.ensures.same q)

pub returns-in-Err-clause-of_other : goal.returns-in-Err-clause-of_other
returns-in-Err-clause-of_other g c o =
    let first = c.in-Some.first.now in
    let header = c.args.header.now in
    let same = is_same first header c.eq.result (c.eq.ensures ∙ texts_ties first header) c.if-eq.true in
    absurd (is_header c.args.log.now header first c.in-Some.behind c.in-Some.ensures same o)

pub returns-in-Err-clause-bad : goal.returns-in-Err-clause-bad
returns-in-Err-clause-bad g c at q =
    let first = c.in-Some.first.now in
    let header = c.args.header.now in
    let same = is_same first header c.eq.result (c.eq.ensures ∙ texts_ties first header) c.if-eq.true in
    is_behind (g.N.Namer.digest c.args.shop.now.namer) _ c.args.shop.now.shelves c.args.log.now header at c.args.master.now.board
    (nobody c.args.master.now.board.plan.workers)
    (c.in-Err.ensures.bad at q header (subst (λ x. RecordAt c.args.log.now 0 x c.in-Some.behind) same c.in-Some.ensures))

pub returns-in-Err-clause-refused : goal.returns-in-Err-clause-refused
returns-in-Err-clause-refused g c at q =
    let first = c.in-Some.first.now in
    let header = c.args.header.now in
    let same = is_same first header c.eq.result (c.eq.ensures ∙ texts_ties first header) c.if-eq.true in
    c.in-Err.ensures.bad at q header (subst (λ x. RecordAt c.args.log.now 0 x c.in-Some.behind) same c.in-Some.ensures)

pub returns-else-eq-clause-other : goal.returns-else-eq-clause-other
returns-else-eq-clause-other g c _ =
    let first = c.in-Some.first.now in
    let header = c.args.header.now in (
      first,
      c.in-Some.behind,
      c.in-Some.ensures,
      is_other first header c.eq.result (c.eq.ensures ∙ texts_ties first header) c.if-eq.false,
    )
