-- Piece by piece.
use Rattle.std.proofs.Common.{codes, subst}
use Rattle.ciel_look_text.specs.Says.{Says}
use Rattle.ciel_look_text.specs.Words.{counted}
use Rattle.ciel_look_text.proofs.Saying.{says_three}
use Rattle.ciel_look_text.proofs.order.say_made.Goals as goal

pub returns : goal.returns
returns c =
    record {
      said = says_three _ _ _ _ _ _ _ c.in_ok-say.ensures.said c.in_ok-say_several.ensures.said
          (subst (λ n. Says c.say_several.new.line (counted n (codes " byte") (codes " bytes")) c.say_count.new.line) c.total.ensures
          c.in_ok-say_count.ensures.said);
    }
