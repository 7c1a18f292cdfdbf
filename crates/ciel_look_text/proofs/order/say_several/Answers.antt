-- None, or how many.
use Rattle.std.proofs.Common.{◌-◌, arith}
use Rattle.ciel_look_text.proofs.Saying.{says_some, says_zero}
use Rattle.ciel_look_text.proofs.order.say_several.Goals as goal

pub returns-then-count-lt2 : goal.returns-then-count-lt2
returns-then-count-lt2 c = record { said = says_zero (c.args.count - 1) _ c.args.line.now (omega (arith, c.if-count-lt2.true)) }

pub returns : goal.returns
returns c =
    record {
      said = says_some (c.args.count - 1) _ c.args.line.now c.say_count.new.line (λ e. omega (arith, c.if-count-lt2.false, e)) c.in_ok-say_count.ensures.said;
    }
