use Rattle.std.proofs.Common.{◌≡◌, ◌+◌, ◌-◌, ◌<◌, ℕ, List, [], ◌∷◌, ◌++◌, false, length, take, drop, sym, ap, subst, ◌∙◌, arith, length-drop}
use Rattle.std.proofs.Common.{append_assoc}
use Rattle.std.proofs.Math.Seq.{take-add}
use Rattle.std.proofs.lemmas.List.{take_rest}
use Rattle.line_kit.specs.Lines.{lines, is_open}
use Rattle.line_flow.specs.Kept.{KeptLined}
use Rattle.line_flow.proofs.LinesLaw.{lines-append, closed-append}
use Rattle.line_flow.proofs.lined.Lined.take_all.Goals as goal

pub loop-taken-preserved : goal.loop-taken-preserved
loop-taken-preserved c =
    let i = c.loop-taken.invariant in
    let block = c.args.block.now in
    let taken = c.loop-taken.taken in
    let size = c.first_line-size.result.1 in
    let line = c.first_line-size.result.0.now in
    let rest = drop taken block in
    let first = take taken block in
    let all : take (length block - taken) rest ≡ rest = take_rest block taken in
    let next : take (taken + size) block ≡ first ++ take size rest = take-add taken size block in
    let shut : is_open first ≡ false = i.closed c.loop-taken-test.true in
    let one : lines (take size rest) ≡ line ∷ [] = ap (λ (ys : List ℕ). lines (take size ys)) (sym all) ∙ c.first_line-size.ensures.line in
    record {
      bound = omega (arith, c.first_line-size.ensures.bound, ap length all, length-drop taken block, i.bound);
      closed = λ below.
          let fits : size < length (take (length block - taken) rest) = omega (arith, below, ap length all, length-drop taken block) in
          ap is_open next ∙ closed-append first (take size rest) shut
          (ap (λ (ys : List ℕ). is_open (take size ys)) (sym all) ∙ c.first_line-size.ensures.closed fits);
      keeps = λ e args n drained ls some h.
          subst (KeptLined c.take.new.self e args n drained)
          (append_assoc ls (lines first) (line ∷ [])
          ∙ ap (λ (ms : List (List ℕ)). ls ++ ms) (sym
          (ap lines next ∙ lines-append first (take size rest) shut ∙ ap (λ (ms : List (List ℕ)). lines first ++ ms) one)))
          (c.in-Ok.ensures.ok e args n drained (ls ++ lines first) some (i.keeps e args n drained ls some h));
    }
