-- A comment is no longer than the bytes.
use Rattle.std.proofs.Common.{not, arith}
use Rattle.std.proofs.lemmas.List.Sums.{prefix_len-le-length}
use Rattle.sky_text.specs.Place.{is_line_feed}
use Rattle.sky_text.proofs.scan.gap_len.Goals as goal

pub overflow_add-result : goal.overflow_add-result
overflow_add-result c = omega (arith, prefix_len-le-length (λ b. not (is_line_feed b)) c.args.rest.now, c.line_len.ensures)

pub returns-then-begins_with-clause-within : goal.returns-then-begins_with-clause-within
returns-then-begins_with-clause-within c = omega (arith, prefix_len-le-length (λ b. not (is_line_feed b)) c.args.rest.now, c.line_len.ensures)
