-- What was pushed is right, whichever kit of the type is asked.
use Rattle.std.proofs.Common.{inl, inr, subst, sym}
use Rattle.ciel_memo.specs.Right.{IsRight}
use Rattle.ciel_memo.proofs.kit.MemoKit.text.Goals as goal

pub loop-entry-preserved : goal.loop-entry-preserved
loop-entry-preserved g c =
    let kit = c.args.self.now in
    let gives = g.K.Kit.gives kit.inner in
    λ e i. elim (c.in_ok-add.ensures.among e i) [
      | inl h ↦ subst (IsRight gives) (sym h) (c.in-Some.ensures.steps.2.2 kit.inner)
      | inr j ↦ c.loop-entry.invariant e j
    ]
