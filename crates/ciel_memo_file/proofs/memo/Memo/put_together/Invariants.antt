-- Behind the memo's entries stand some of the new ones, with keys below those that are left.
use Rattle.ciel_memo_file.proofs.Added.{Grown}
use Rattle.ciel_memo_file.proofs.memo.Memo.put_together.Given as goal

abbrev pub invariant-loop-key : goal.invariant-loop-key
invariant-loop-key l = Grown l.self l.fresh l._key-iterator l.out
