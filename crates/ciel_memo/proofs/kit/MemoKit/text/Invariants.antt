-- Each of those gathered is right.
use Rattle.sky_base_law.specs.Tasks.{In}
use Rattle.ciel_memo_file.specs.Entries.{Entry}
use Rattle.ciel_memo.specs.Right.{IsRight}
use Rattle.ciel_memo.proofs.kit.MemoKit.text.Given as goal

abbrev pub invariant-loop-entry : goal.invariant-loop-entry
invariant-loop-entry g l = (e : Entry) → In e l.fresh → IsRight (g.K.Kit.gives l.self.inner) e
