-- One output more.
use Rattle.std.proofs.Common.{◌≡◌, ◌-◌, ◌∷◌, ap, arith, ◌∙◌}
use Rattle.ciel_look_tasks.specs.Reports.{outputs}
use Rattle.ciel_look_tasks.proofs.OutputSteps.{next_output}
use Rattle.ciel_look_tasks.proofs.make.outputs_of.Goals as goal

pub loop-index-preserved : goal.loop-index-preserved
loop-index-preserved c =
    let l = c.loop-index in
    record {
      names = λ ds h. next_output c.args.book.now.short c.args.book.now.outputs ds c.args.task.now l.index l.names.items _ l.invariant.first h (l.invariant.names ds h)
          c.in_ok-add_output.ensures.added;
      first = omega (arith, l.invariant.first);
      most = omega (arith, l.invariant.first);
    }

pub returns : goal.returns
returns c =
    let l = c.loop-index in
    let all : l.index - 1 ≡ c.args.count - 1 = omega (arith, l.invariant.first, l.invariant.most) in
    record { names = λ ds h. l.invariant.names ds h ∙ ap (λ k. c.args.task.now ∷ outputs c.args.book.now.short ds c.args.task.now 1 k) all }
