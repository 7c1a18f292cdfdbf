use Rattle.std.proofs.Common.{◌≡◌, ◌+◌, ◌≤◌, length, drop}
use Rattle.sky_text.specs.Lexing.{tokens_from}
use Rattle.sky_text.specs.Place.{column_of, line_of}
use Rattle.sky_text.proofs.LexingSteps.{with_tokens}
use Rattle.sky_text.proofs.lex.read.Given as goal

abbrev pub invariant-loop-first : goal.invariant-loop-first
invariant-loop-first l = record {
  left : with_tokens l.tokens.items (tokens_from l.bytes l.at 0 l.rest) ≡ tokens_from l.bytes 0 0 l.bytes;
  rest : l.rest ≡ drop l.at l.bytes;
  count : l.at + length l.rest ≡ length l.bytes;
  line : l.line ≡ line_of l.bytes l.at;
  column : l.col ≡ column_of l.bytes l.at;
  few_lines : l.line ≤ l.at + 1;
  few_columns : l.col ≤ l.at + 1;
}

abbrev pub decreases-loop-first : goal.decreases-loop-first
decreases-loop-first l = length l.rest
