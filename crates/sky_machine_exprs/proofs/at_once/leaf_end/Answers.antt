use Rattle.std.proofs.Common.{[]}
use Rattle.sky_machine_exprs.proofs.Leaves.{end_visited}
use Rattle.sky_machine_exprs.proofs.at_once.leaf_end.Goals as goal

pub returns-in_ok-end-in-Literal-clause-same : goal.returns-in_ok-end-in-Literal-clause-same
returns-in_ok-end-in-Literal-clause-same c = λ w body n h. rw c.in-Literal.is (c.in_ok-end-in-Literal.ensures.same w body n)

pub returns-in_ok-end-in-Literal-clause-visited : goal.returns-in_ok-end-in-Literal-clause-visited
returns-in_ok-end-in-Literal-clause-visited c =
    end_visited 0 c.args.state.now.count c.literal.new.state.count [] c.in_ok-end-in-Literal.end (c.in_ok-end-in-Literal.ensures.falls 0 [])

pub returns-in_ok-end-in-Literal-clause-more : goal.returns-in_ok-end-in-Literal-clause-more
returns-in_ok-end-in-Literal-clause-more c = (c.in_ok-end-in-Literal.ensures.falls 0 []).0

pub returns-in_ok-end-in-Literal-clause-within : goal.returns-in_ok-end-in-Literal-clause-within
returns-in_ok-end-in-Literal-clause-within c = (c.in_ok-end-in-Literal.ensures.falls 0 []).1

pub returns-in_ok-end-in-Name-clause-same : goal.returns-in_ok-end-in-Name-clause-same
returns-in_ok-end-in-Name-clause-same c = λ w body n h. rw c.in-Name.is (c.in_ok-end-in-Name.ensures.same w body n h)

pub returns-in_ok-end-in-Name-clause-visited : goal.returns-in_ok-end-in-Name-clause-visited
returns-in_ok-end-in-Name-clause-visited c =
    end_visited 0 c.args.state.now.count c.name.new.state.count [] c.in_ok-end-in-Name.end (c.in_ok-end-in-Name.ensures.falls 0 [])

pub returns-in_ok-end-in-Name-clause-more : goal.returns-in_ok-end-in-Name-clause-more
returns-in_ok-end-in-Name-clause-more c = (c.in_ok-end-in-Name.ensures.falls 0 []).0

pub returns-in_ok-end-in-Name-clause-within : goal.returns-in_ok-end-in-Name-clause-within
returns-in_ok-end-in-Name-clause-within c = (c.in_ok-end-in-Name.ensures.falls 0 []).1
