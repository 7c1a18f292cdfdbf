-- Sums by line: lines in the order of their bytes, each with its sum.
use Rattle.std.specs.Prelude.{ℕ, ◌+◌, List, map, unwrap_or}
use Rattle.std.specs.Ordering.{nat_cmp}
use Rattle.std.specs.Cmp.Lexicographic.{slice_cmp}
use Rattle.std.specs.BTreeMap.{insert_entry, is_at}
use Rattle.std.specs.Map.{lookup}
use Rattle.line_kit.specs.Orders.{total, rests}

-- the sum at a line, 0 where there is none
unfoldable pub sum_at : List (List ℕ × ℕ) → List ℕ → ℕ
sum_at sums line = unwrap_or (lookup (is_at (slice_cmp nat_cmp line)) sums) 0

-- the sums with a number more at a line
unfoldable pub with_more : List (List ℕ × ℕ) → List ℕ → ℕ → List (List ℕ × ℕ)
with_more sums line number = insert_entry (slice_cmp nat_cmp) sums line (sum_at sums line + number)

-- each distinct line of the entries in order, with the sum of its numbers
abbrev pub totals : List (List ℕ × ℕ) → List (List ℕ × ℕ)
totals entries = map (λ line. (line, total line entries)) (rests entries)
