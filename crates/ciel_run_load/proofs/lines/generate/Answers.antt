-- One line more was put.
use Rattle.std.proofs.Common.{◌<◌, ◌+◌, ◌-◌, ◌++◌, ◌∙◌, ap, arith}
use Rattle.ciel_run_load.specs.Lines.{generated, line_of, lines_after}
use Rattle.ciel_run_load.proofs.LinesLemmas.{one_more}
use Rattle.ciel_run_load.proofs.lines.generate.Goals as goal

pub loop-line-preserved : goal.loop-line-preserved
loop-line-preserved c =
    let l = c.loop-line in
    let lt : l._line < c.args.lines = omega arith in
    record {
      below = c.next-number.ensures.below;
      lines = ap (λ t. t ++ lines_after (c.args.lines - (l._line + 1)) c.next-number.result) c.in_ok-put_line.ensures
          ∙ ap (λ y. (l.text.items ++ line_of y) ++ lines_after (c.args.lines - (l._line + 1)) y) c.next-number.ensures.next
          ∙ one_more l.text.items (generated c.args.lines) c.args.lines l._line l.number lt l.invariant.lines;
    }
