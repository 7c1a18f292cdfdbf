use Rattle.std.proofs.Common.{◌∙◌, sym}
use Rattle.ciel_want_marks.proofs.NextOpenNode.{opens_none, opens_not, opens_some, pops_fewer, pops_same, was_idle}
use Rattle.ciel_want_marks.proofs.NodeAdvance.{not_active}
use Rattle.ciel_want_marks.proofs.marks.Marks.next_open.Goals as goal

pub returns-then-is_active-clause-stands : goal.returns-then-is_active-clause-stands
returns-then-is_active-clause-stands c =
    λ needs s. opens_some c.search.self c.pop.new.self needs c.pop.ensures.same c.in-Some.node c.in-Some.ensures.last
    (c.search.invariant.stands needs s)

pub search-preserved : goal.search-preserved
search-preserved c =
    record {
      same = pops_same c.args.self.now c.search.self c.pop.new.self c.search.invariant.same c.pop.ensures.same;
      left = pops_fewer c.args.self.now c.search.self c.pop.new.self c.in-Some.node c.in-Some.ensures.last c.search.invariant.left;
      stands = λ needs s. opens_not c.search.self c.pop.new.self needs c.pop.ensures.same c.in-Some.node c.in-Some.ensures.last
          (was_idle c.search.self c.pop.new.self c.in-Some.node c.pop.ensures.same
          (not_active c.pop.new.self c.in-Some.node (sym c.is_active.ensures.active ∙ c.if-is_active.false))) (c.search.invariant.stands needs s);
    }

pub returns-clause-stands : goal.returns-clause-stands
returns-clause-stands c =
    λ needs s. opens_none c.search.self c.pop.new.self needs c.pop.ensures.same c.in_default.ensures.last.0 c.in_default.ensures.last.1
    (c.search.invariant.stands needs s)
