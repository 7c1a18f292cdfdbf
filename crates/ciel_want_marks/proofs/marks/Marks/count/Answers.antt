use Rattle.ciel_want_marks.proofs.CountedNeeds.{counts, counts_same}
use Rattle.ciel_want_marks.proofs.marks.Marks.count.Goals as goal

pub returns-clause-same : goal.returns-clause-same
returns-clause-same c =
    counts_same c.args.self.now c.want_makers.new.self c.set_lacks.new.self c.go_on.new.self c.args.node c.args.rows c.as_slice.result.now
    c.in_ok-want_makers.ensures c.as_slice.ensures c.set_lacks.ensures c.in_ok-go_on.ensures.same

pub returns-clause-stands : goal.returns-clause-stands
returns-clause-stands c =
    counts c.args.self.now c.want_makers.new.self c.set_lacks.new.self c.go_on.new.self c.args.node c.args.rows c.as_slice.result.now
    c.in_ok-want_makers.ensures c.as_slice.ensures c.set_lacks.ensures c.in_ok-go_on.ensures.left c.in_ok-go_on.ensures.stands
