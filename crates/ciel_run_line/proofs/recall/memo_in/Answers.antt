-- A bad entry is told with the path of its file.
use Rattle.std.proofs.Common.{◌≡◌, subst, sym}
use Rattle.ciel_memo_file.specs.File.{BadAt}
use Rattle.ciel_memo_file.specs.Refused.{IfBad}
use Rattle.ciel_memo_file.specs.declared.refusal.MemoRefusal.{MemoRefusal}
use Rattle.ciel_run_line.proofs.Recalled.{bad_here}
use Rattle.ciel_run_line.proofs.recall.memo_in.Goals as goal

pub returns-in-Err-BadMemo-clause-bad : goal.returns-in-Err-BadMemo-clause-bad
returns-in-Err-BadMemo-clause-bad c =
    bad_here c.args.path.now (λ place. place ≡ c.in-Err-BadMemo.at) (BadAt c.args.bytes.now)
    (λ at e. subst (BadAt c.args.bytes.now) (sym e)
    (subst (λ (r : MemoRefusal). IfBad r (BadAt c.args.bytes.now)) c.in-Err-BadMemo.field-0-is c.in-Err-BadMemo.ensures.refused))
    c.bad_memo.result c.bad_memo.ensures
