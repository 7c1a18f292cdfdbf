-- One input more.
use Rattle.std.proofs.Common.{[], arith, rules, ap, subst, sym, ◌∙◌}
use Rattle.sky_base.specs.Val.{call, input, no_pairs, no_vals}
use Rattle.ciel_look_tasks.specs.Known.{knowns, with_known}
use Rattle.ciel_look_tasks.specs.Learned.{AreMade, with_name}
use Rattle.ciel_look_tasks.proofs.KnownSteps.{input_learned}
use Rattle.ciel_look_tasks.proofs.OutputSteps.{input_named}
use Rattle.ciel_look_tasks.proofs.book.Book.new.Goals as goal

pub loop-input-preserved : goal.loop-input-preserved
loop-input-preserved c =
    let l = c.loop-input in
    let s = c.args.header.now.job.short in
    record {
      short = c.learn-in-loop-input.ensures.short ∙ l.invariant.short;
      known = input_learned s (call [] no_pairs no_vals) c.deref-input-items.result.now l.input-index c.input-item.result c.in_ok-key.key (knowns l.book.known.all.items) _
          (omega arith) c.input-item.is c.in_ok-key.ensures l.invariant.known
          (c.in_ok-learn-2.ensures.known
          ∙ ap (λ b. with_known (knowns l.book.known.all.items) (with_name b (input c.in_ok-key.key))) l.invariant.short);
      outputs = input_named s l.book.short l.book.outputs c.learn-in-loop-input.new.self.outputs (call [] no_pairs no_vals) c.deref-input-items.result.now l.input-index c.input-item.result
          c.in_ok-key.key (omega arith) c.input-item.is c.in_ok-key.ensures l.invariant.short c.in_ok-learn-2.ensures.outputs l.invariant.outputs;
      made = subst (λ b. AreMade b c.learn-in-loop-input.new.self.known.all.items) l.invariant.short
          (c.in_ok-learn-2.ensures.made (subst (λ b. AreMade b l.book.known.all.items) (sym l.invariant.short) l.invariant.made));
    }

pub loop-input-init : goal.loop-input-init
loop-input-init c =
    record {
      short = search rules;
      known = search rules;
      outputs = c.in_ok-learn.ensures.outputs [] (search rules);
      made = search rules;
    }
