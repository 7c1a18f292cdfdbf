-- A line is no longer than the bytes.
use Rattle.std.proofs.Common.{not, take, arith}
use Rattle.std.proofs.lemmas.List.{length-take}
use Rattle.std.proofs.lemmas.List.Sums.{suffix_len-le-length}
use Rattle.sky_text.specs.Place.{is_line_feed}
use Rattle.sky_text.proofs.lex.line_col.Goals as goal

pub overflow_cast-col : goal.overflow_cast-col
overflow_cast-col c = omega (
  arith,
  suffix_len-le-length (λ b. not (is_line_feed b)) (take c.args.at c.args.bytes.now),
  length-take c.args.at c.args.bytes.now,
  c.last_line_len.ensures,
)

pub overflow_add-col : goal.overflow_add-col
overflow_add-col c = omega (
  arith,
  suffix_len-le-length (λ b. not (is_line_feed b)) (take c.args.at c.args.bytes.now),
  length-take c.args.at c.args.bytes.now,
  c.last_line_len.ensures,
)
