-- Piece by piece.
use Rattle.std.proofs.Common.{◌++◌, codes, decimal, subst, sym}
use Rattle.ciel_look_text.specs.Says.{Says}
use Rattle.ciel_look_text.specs.Why.{cut_said, ends_said}
use Rattle.ciel_look_text.proofs.Saying.{says_all, says_two}
use Rattle.ciel_look_tasks.specs.View.{start_view}
use Rattle.ciel_look_text.proofs.why.cut_line.Goals as goal

pub returns : goal.returns
returns c =
    record {
      line = λ l e. says_all _ _ c.say_ends.new.line c.new-line.ensures
          (subst (λ p. Says c.new-line.result ((codes "start " ++ decimal c.args.run.now.number)
          ++ ((codes " was cut: worker " ++ decimal p.0) ++ (codes " was lost, after " ++ ends_said p.1))) c.say_ends.new.line) (sym e)
          (says_two _ _ _ _ _ c.in_ok-say_with.ensures.said (says_two _ _ _ _ _ c.in_ok-say_with-2.ensures.said
          (says_two _ _ _ _ _ c.in_ok-say.ensures.said c.in_ok-say_ends.ensures.said))));
    }
