-- None, or how many.
use Rattle.ciel_look_text.proofs.Saying.{says_some, says_two, says_zero}
use Rattle.ciel_look_text.proofs.label.say_others.Goals as goal

pub returns-then-count-eq0 : goal.returns-then-count-eq0
returns-then-count-eq0 c = record { said = says_zero c.args.count _ c.args.line.now c.if-count-eq0.true }

pub returns : goal.returns
returns c =
    record {
      said = says_some c.args.count _ c.args.line.now c.say.new.line c.if-count-eq0.false
          (says_two _ _ _ _ _ c.in_ok-say_with.ensures.said c.in_ok-say.ensures.said);
    }
