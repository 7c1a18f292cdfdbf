-- One description more is learned.
use Rattle.std.proofs.Common.{◌++◌, ◌∷◌, [], ap, append_assoc, sym, ◌∙◌, subst}
use Rattle.sky_base.specs.ObjectView.{desc_view}
use Rattle.ciel_look_tasks.specs.Known.{knowns, with_known}
use Rattle.ciel_look_tasks.specs.Learned.{AreMade, with_name}
use Rattle.ciel_look_tasks.proofs.KnownSteps.{learned_next}
use Rattle.ciel_look_tasks.proofs.OutputSteps.{outputs_next}
use Rattle.ciel_look_tasks.proofs.book.Book.learn_all.Goals as goal

pub loop-desc-preserved : goal.loop-desc-preserved
loop-desc-preserved c =
    let l = c.loop-desc in
    record {
      so_far = append_assoc l.yielded (c.in-Some.desc ∷ []) c.next.new.self.rest.items
          ∙ (ap (λ ts. l.yielded ++ ts) (sym c.in-Some.ensures.steps.0) ∙ l.invariant.so_far);
      short = c.learn.ensures.short ∙ l.invariant.short;
      known = learned_next c.args.self.now.short (knowns c.args.self.now.known.all.items) (knowns l.self.known.all.items) _ l.yielded c.in-Some.desc
          l.invariant.known
          (c.in_ok-learn.ensures.known ∙ ap (λ b. with_known (knowns l.self.known.all.items) (with_name b (desc_view c.in-Some.desc))) l.invariant.short);
      outputs = λ ds. outputs_next c.args.self.now.short l.self.short c.args.self.now.outputs l.self.outputs c.learn.new.self.outputs l.yielded c.in-Some.desc ds l.invariant.short
          (l.invariant.outputs ds) c.in_ok-learn.ensures.outputs;
      made = λ h. subst (λ b. AreMade b c.learn.new.self.known.all.items) l.invariant.short
          (c.in_ok-learn.ensures.made (subst (λ b. AreMade b l.self.known.all.items) (sym l.invariant.short) (l.invariant.made h)));
    }
