-- One of the two.
use Rattle.std.proofs.Common.{cond, subst, sym}
use Rattle.ciel_look_text.specs.Says.{Says}
use Rattle.ciel_look_text.proofs.label.say_lead.Goals as goal

pub returns-then-first : goal.returns-then-first
returns-then-first c =
    record {
      said = subst (λ b. Says c.args.line.now (cond b c.args.lead.now c.args.more.now) c.say.new.line) (sym c.if-first.true) c.in_ok-say.ensures.said;
    }

pub returns : goal.returns
returns c =
    record {
      said = subst (λ b. Says c.args.line.now (cond b c.args.lead.now c.args.more.now) c.say-2.new.line) (sym c.if-first.false)
          c.in_ok-say-2.ensures.said;
    }
