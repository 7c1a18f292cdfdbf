-- What each executor gives: the table of the executors, row by row, and the order of their faults.
use Rattle.std.specs.Prelude.{ℕ, nat_lt, Bool, ℤ, pos, List, [], ◌∷◌, length, take, map, slice_index_or, option_and_then, Option, Some, None, Result}
use Rattle.std.specs.Prelude.{Ok, Err, codes, decimal, int_div, if◌then◌else◌}
use Rattle.std.specs.Fmt.{signed_decimal}
use Rattle.std.specs.List.{flat_map, list_any}
use Rattle.std.specs.Option.{option_map}
use Rattle.sky_base.specs.KitView.{Gives}
use Rattle.sky_base.specs.Val.{Val, Pairs, dict}
use Rattle.sky_base.specs.declared.fault.FaultKind.{FaultKind}
use Rattle.sky_base.specs.declared.fault.FaultKind.TheVariants.{BadExec, BadCount, BadKind, NoKey, BadLine, Overflow, TooLarge}
use Rattle.line_kit.specs.Lines.{all_lines, lines, joined, with_text, same_lines}
use Rattle.line_kit.specs.Words.{words}
use Rattle.line_kit.specs.Numbers.{signed_number, counted, count_line}
use Rattle.line_kit.specs.Orders.{in_order, distinct_in_order, times, total, rests}
use Rattle.line_kit.specs.Parts.{cut, dealt}
use Rattle.line_kit.specs.Table.{executor_of, may_have, has_keys, all_fit, text_of, lines_of}
use Rattle.line_kit.specs.declared.executor.Executor.{Executor}
use Rattle.line_kit.specs.declared.executor.Executor.TheVariants.{Cat, Grep, Words, Split, Deal, Sort, Tally, Count, Sum, Head, Half, Same}

abbrev pub Answer : Type 0
Answer = Result (List (List ℕ)) FaultKind

-- these outputs, unless one of them has more than 67,108,864 bytes
abbrev pub unless_large : List (List ℕ) → Answer
unless_large outputs = if list_any (λ bytes. nat_lt 67108864 (length bytes)) outputs then Err TooLarge else Ok outputs

-- outputs that have these lines
abbrev pub with_lines : List (List (List ℕ)) → Answer
with_lines outputs = unless_large (map joined outputs)

-- one output, which has these lines
abbrev pub one : List (List ℕ) → Answer
one ls = with_lines (ls ∷ [])

-- what is read of each line, where it can be read of every one
abbrev pub read_each : {A : Type 0} → (List ℕ → Option A) → List (List ℕ) → Option (List A)
read_each read [] = Some []
read_each read (l ∷ ls) = option_and_then (λ a. option_map (λ more. a ∷ more) (read_each read ls)) (read l)

-- for each line of `tally` how often it occurs
abbrev pub tallied : List (List ℕ) → List (List ℕ)
tallied ls = map (λ line. count_line (times line ls) line) (distinct_in_order ls)

-- for each rest of `sum` the sum of its numbers
abbrev pub summed : Option (List (List ℕ × ℕ)) → Answer
summed None = Err BadLine
summed (Some es) =
    if list_any (λ rest. nat_lt 9223372036854775807 (total rest es)) (rests es) then Err Overflow
    else one (map (λ rest. count_line (total rest es) rest) (rests es))

-- the halves towards zero
abbrev pub halved : Option (List ℤ) → Answer
halved None = Err BadLine
halved (Some zs) = one (map (λ z. signed_decimal (int_div z (pos 2))) zs)

abbrev pub truth_text : Bool → List ℕ
truth_text b = if b then codes "true" else codes "false"

-- the bytes of an input, from 0
abbrev pub input : List (List ℕ) → ℕ → List ℕ
input inputs i = slice_index_or inputs i []

-- what an executor gives for right arguments
abbrev pub row : Executor → Pairs (List ℕ) → List (List ℕ) → ℕ → Answer
row Cat args inputs n = one (all_lines inputs)
row Grep args inputs n = one (with_text (text_of args) (all_lines inputs))
row Words args inputs n = one (flat_map words (all_lines inputs))
row Split args inputs n = with_lines (cut n (all_lines inputs))
row Deal args inputs n = with_lines (dealt n (all_lines inputs))
row Sort args inputs n = one (in_order (all_lines inputs))
row Tally args inputs n = one (tallied (all_lines inputs))
row Count args inputs n = one (decimal (length (all_lines inputs)) ∷ [])
row Sum args inputs n = summed (read_each counted (all_lines inputs))
row Head args inputs n = one (take (lines_of args) (all_lines inputs))
row Half args inputs n = halved (read_each signed_number (all_lines inputs))
row Same args inputs n = one (truth_text (same_lines (lines (input inputs 0)) (lines (input inputs 1))) ∷ [])

-- where the arguments are a dictionary that has each key, no other key and no value of another kind, what the row says
abbrev pub with_args : Executor → Val (List ℕ) → List (List ℕ) → ℕ → Answer
with_args e (dict args) inputs n =
    if has_keys e args then (if all_fit e args then row e args inputs n else Err BadKind) else Err NoKey
with_args e _ inputs n = Err BadKind

-- where there is such an executor that may have so many outputs, what it gives
abbrev pub with_executor : Option Executor → Val (List ℕ) → List (List ℕ) → ℕ → Answer
with_executor None args inputs n = Err BadExec
with_executor (Some e) args inputs n = if may_have e n then with_args e args inputs n else Err BadCount

-- what the executor of this name gives for these arguments, inputs and number of outputs
unfoldable pub gives : Gives
gives name args inputs n = with_executor (executor_of name) args inputs n
