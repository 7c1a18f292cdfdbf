-- The words are those of the description that is known.
use Rattle.std.proofs.Common.{Option, ap, subst, sym}
use Rattle.sky_base.specs.Val.{Desc}
use Rattle.ciel_look_text.proofs.Saying.{says_none, says_two}
use Rattle.ciel_look_text.specs.Says.{Says}
use Rattle.ciel_look_text.specs.Words.{words_of}
use Rattle.ciel_look_text.proofs.label.say_name.Goals as goal

pub returns-in_ok-say_words-in-Some : goal.returns-in_ok-say_words-in-Some
returns-in_ok-say_words-in-Some c =
    record {
      said = says_two _ _ _ _ _ c.in_ok-say_digits.ensures.said
          (subst (λ o. Says c.say_digits.new.line (words_of o) c.say_words.new.line) (sym c.in-Some.ensures.found) c.in_ok-say_words-in-Some.ensures.said);
    }

pub returns-in-None : goal.returns-in-None
returns-in-None c =
    record {
      said = says_two _ _ _ _ _ c.in_ok-say_digits.ensures.said
          (subst (λ o. Says c.say_digits.new.line (words_of o) c.say_digits.new.line) (sym c.in-None.ensures.found) (says_none c.say_digits.new.line));
    }
