use Rattle.std.proofs.Common.{◌∙◌, arith}
use Rattle.line_kit.proofs.EndsLaw.{ends_at, closed-drop}
use Rattle.line_kit.proofs.parts.lines_end.Goals as goal

pub returns-clause-front : goal.returns-clause-front
returns-clause-front c =
    let feeds = c.behind_windows-from.ensures.feeds in
    (ends_at c.args.bytes.now c.feeds_end.result c.args.count c.feeds_end.ensures.closed (omega (arith, c.feeds_end.ensures.most, feeds))
    (λ h. c.feeds_end.ensures.all h ∙ feeds)).0

pub returns-clause-lines : goal.returns-clause-lines
returns-clause-lines c =
    let feeds = c.behind_windows-from.ensures.feeds in
    (ends_at c.args.bytes.now c.feeds_end.result c.args.count c.feeds_end.ensures.closed (omega (arith, c.feeds_end.ensures.most, feeds))
    (λ h. c.feeds_end.ensures.all h ∙ feeds)).1

pub returns-clause-closed : goal.returns-clause-closed
returns-clause-closed c = closed-drop c.feeds_end.result c.args.bytes.now c.requires.closed
