-- The words, where the description is the task's own.
use Rattle.std.proofs.Common.{Option, None, Some, ap, cond, subst, sym, ◌∙◌}
use Rattle.sky_base.specs.ObjectView.{desc_view}
use Rattle.ciel_look_tasks.specs.Heads.{own_desc}
use Rattle.ciel_look_text.specs.Says.{Says}
use Rattle.ciel_look_text.specs.Words.{words_of}
use Rattle.ciel_look_text.proofs.Saying.{says_none}
use Rattle.ciel_look_text.proofs.label.say_own.Goals as goal

pub returns-in-None : goal.returns-in-None
returns-in-None c =
    record {
      said = subst (λ o. Says c.args.line.now (words_of (own_desc c.args.task.now.id o)) c.args.line.now) (sym c.in-None.ensures.known)
          (says_none c.args.line.now);
    }

pub returns-then-is_own : goal.returns-then-is_own
returns-then-is_own c =
    record {
      said = subst (λ o. Says c.args.line.now (words_of (own_desc c.args.task.now.id o)) c.say_words.new.line) (sym c.in-Some.ensures.known)
          (subst (λ b. Says c.args.line.now (words_of (cond b (Some (desc_view c.in-Some.known.now.desc)) None)) c.say_words.new.line)
          (sym (sym c.is_own.ensures ∙ c.if-is_own.true)) c.in_ok-say_words-in-Some.ensures.said);
    }

pub returns-else-is_own : goal.returns-else-is_own
returns-else-is_own c =
    record {
      said = subst (λ o. Says c.args.line.now (words_of (own_desc c.args.task.now.id o)) c.args.line.now) (sym c.in-Some.ensures.known)
          (subst (λ b. Says c.args.line.now (words_of (cond b (Some (desc_view c.in-Some.known.now.desc)) None)) c.args.line.now)
          (sym (sym c.is_own.ensures ∙ c.if-is_own.false)) (says_none c.args.line.now));
    }
