use Rattle.std.proofs.Common.{arith}
use Rattle.ciel_want_marks.proofs.SettledLists.{settled_beyond}
use Rattle.ciel_want_marks.proofs.lists.settle_at.Goals as goal

pub returns-else-i-len : goal.returns-else-i-len
returns-else-i-len c =
    settled_beyond c.args.lists.now.items c.args.number c.args.flags.now (omega (arith, c.if-i-len.false, c.len.ensures))
