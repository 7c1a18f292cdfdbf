-- None, or its number.
use Rattle.ciel_look_text.proofs.Saying.{says_some, says_zero}
use Rattle.ciel_look_text.proofs.order.say_from.Goals as goal

pub returns-then-from-eq0 : goal.returns-then-from-eq0
returns-then-from-eq0 c = record { said = says_zero c.args.from _ c.args.line.now c.if-from-eq0.true }

pub returns : goal.returns
returns c = record { said = says_some c.args.from _ c.args.line.now c.say_with.new.line c.if-from-eq0.false c.in_ok-say_with.ensures.said }
