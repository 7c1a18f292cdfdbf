use Rattle.std.proofs.Common.{◌∙◌, sym}
use Rattle.ciel_want_marks.proofs.SettledLists.{popped_inside, popped_left, settled_some}
use Rattle.ciel_want_marks.proofs.numbers.Numbers.settle.Goals as goal

pub returns-then-not-flag : goal.returns-then-not-flag
returns-then-not-flag c =
    settled_some c.args.flags.now c.args.self.now c.settle.self-inside.items.items c.settle.invariant.inside c.settle.invariant.left
    c.pop.new.self.items c.in-Some.number c.in-Some.ensures.items c.push_reserved.new.self.items c.push_reserved.ensures.items
    (sym c.flag.ensures ∙ c.if-not-flag.true)

pub settle-preserved : goal.settle-preserved
settle-preserved c =
    record {
      inside = popped_inside c.args.flags.now c.args.self.now c.settle.self-inside.items.items c.settle.invariant.inside c.settle.invariant.left
          c.pop.new.self.items c.in-Some.number c.in-Some.ensures.items;
      left = popped_left c.args.flags.now c.args.self.now c.settle.self-inside.items.items c.settle.invariant.inside c.settle.invariant.left
          c.pop.new.self.items c.in-Some.number c.in-Some.ensures.items (sym c.flag.ensures ∙ c.if-not-flag.false);
    }
