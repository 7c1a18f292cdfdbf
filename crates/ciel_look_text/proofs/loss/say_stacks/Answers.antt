-- None, or how many.
use Rattle.std.proofs.Common.{[], codes, subst, sym, false}
use Rattle.ciel_look_text.specs.Says.{SaysSome}
use Rattle.ciel_look_text.proofs.Parts.{some_none, some_one, stacks_none, stacks_some}
use Rattle.ciel_look_text.proofs.loss.say_stacks.Goals as goal

pub returns-then-count-eq0 : goal.returns-then-count-eq0
returns-then-count-eq0 c =
    record {
      said = subst (λ ps. SaysSome [] (codes "; ") c.args.first c.args.line.now ps c.args.line.now c.args.first) (sym (stacks_none c.args.count c.if-count-eq0.true))
          (some_none [] (codes "; ") c.args.first c.args.line.now);
    }

pub returns : goal.returns
returns c =
    record {
      said = subst (λ ps. SaysSome [] (codes "; ") c.args.first c.args.line.now ps c.say_count.new.line false) (sym (stacks_some c.args.count c.if-count-eq0.false))
          (some_one [] (codes "; ") c.args.first c.args.line.now c.say_lead.new.line c.say_count.new.line _ c.in_ok-say_lead.ensures.said
          c.in_ok-say_count.ensures.said);
    }
