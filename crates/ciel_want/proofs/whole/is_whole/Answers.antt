use Rattle.ciel_want.proofs.WholenessTest.{root_goes, root_stops}
use Rattle.ciel_want.proofs.whole.is_whole.Goals as goal

pub returns-then-not-branch : goal.returns-then-not-branch
returns-then-not-branch g c =
    record { whole = root_stops c.args.main.now c.args.table.now c.in_ok-needs_known.field-0 c.in_ok-needs_known.ensures c.if-not-branch.true }

pub returns : goal.returns
returns g c =
    record {
      whole = root_goes c.args.main.now c.args.table.now c.in_ok-needs_known.field-0 c.in_ok-whole.whole c.in_ok-needs_known.ensures
          c.if-not-branch.false c.in_ok-whole.ensures;
    }
