-- Where an executor gives no fault, it gives as many outputs as were asked for. This is the proof of a law of
-- kits, which an implementation needs beside its definitions.
use Rattle.std.specs.Prelude.{◌≡◌, ℕ, ◌*◌, ℤ, pos, int_div, decimal, nat_lt, Bool, true, false, ◌==◌, List, [], ◌∷◌, length, map, take, drop, Option}
use Rattle.std.specs.Prelude.{Some, None, IfOk, Ok, Err}
use Rattle.std.specs.Fmt.{signed_decimal}
use Rattle.std.proofs.Common.{cond, refl, sym, ◌∙◌}
use Rattle.std.specs.List.{list_any, flat_map, range_with_len}
use Rattle.std.proofs.lemmas.Bool.{eqb-true}
use Rattle.std.proofs.lemmas.List.{length-map}
use Rattle.std.proofs.lemmas.List.FromFn.{length-map-range_with_len}
use Rattle.sky_base.specs.Val.{Val, Pairs, null, truth, num, text, list, dict, fun, ref}
use Rattle.sky_base.specs.declared.fault.FaultKind.TheVariants.{BadCount, BadKind, NoKey, Overflow, TooLarge}
use Rattle.line_kit.specs.Lines.{all_lines, lines, joined, with_text, same_lines}
use Rattle.line_kit.specs.Words.{words}
use Rattle.line_kit.specs.Numbers.{signed_number, counted, count_line}
use Rattle.line_kit.specs.Orders.{in_order, total, rests}
use Rattle.line_kit.specs.Parts.{share, every}
use Rattle.line_kit.specs.Gives.{Answer, unless_large, with_lines, one, row, summed, halved, tallied, read_each, truth_text, input, with_args}
use Rattle.line_kit.specs.Gives.{with_executor, gives}
use Rattle.line_kit.specs.Table.{executor_of, may_have, has_keys, all_fit, text_of, lines_of}
use Rattle.line_kit.specs.declared.executor.Executor.{Executor}
use Rattle.line_kit.specs.declared.executor.Executor.TheVariants.{Cat, Grep, Words, Split, Deal, Sort, Tally, Count, Sum, Head, Half, Same}

unless_large_by : (b : Bool) (outputs : List (List ℕ)) (n : ℕ) → length outputs ≡ n → IfOk (cond b (Err TooLarge) (Ok outputs)) (λ r. length r ≡ n)
unless_large_by true outputs n e = tt
unless_large_by false outputs n e = e

unless_large_counts : (outputs : List (List ℕ)) (n : ℕ) → length outputs ≡ n → IfOk (unless_large outputs) (λ r. length r ≡ n)
unless_large_counts outputs n e = unless_large_by (list_any (λ bytes. nat_lt 67108864 (length bytes)) outputs) outputs n e

one_counts : (ls : List (List ℕ)) (n : ℕ) → (n == 1) ≡ true → IfOk (one ls) (λ r. length r ≡ n)
one_counts ls n e = unless_large_counts (joined ls ∷ []) n (sym (eqb-true n 1 e))

summed_by : (b : Bool) (ls : List (List ℕ)) (n : ℕ) → (n == 1) ≡ true → IfOk (cond b (Err Overflow) (one ls)) (λ r. length r ≡ n)
summed_by true ls n e = tt
summed_by false ls n e = one_counts ls n e

summed_counts : (read : Option (List (List ℕ × ℕ))) (n : ℕ) → (n == 1) ≡ true → IfOk (summed read) (λ r. length r ≡ n)
summed_counts None n e = tt
summed_counts (Some es) n e = summed_by (list_any (λ rest. nat_lt 9223372036854775807 (total rest es)) (rests es))
    (map (λ rest. count_line (total rest es) rest) (rests es)) n e

halved_counts : (read : Option (List ℤ)) (n : ℕ) → (n == 1) ≡ true → IfOk (halved read) (λ r. length r ≡ n)
halved_counts None n e = tt
halved_counts (Some zs) n e = one_counts (map (λ z. signed_decimal (int_div z (pos 2))) zs) n e

many_counts : (f : ℕ → List (List ℕ)) (n : ℕ) → IfOk (with_lines (map f (range_with_len 0 n))) (λ r. length r ≡ n)
many_counts f n = unless_large_counts (map joined (map f (range_with_len 0 n))) n
    (length-map (map f (range_with_len 0 n)) joined ∙ length-map-range_with_len f 0 n)

row_counts : (e : Executor) (args : Pairs (List ℕ)) (inputs : List (List ℕ)) (n : ℕ) → may_have e n ≡ true
    → IfOk (row e args inputs n) (λ r. length r ≡ n)
row_counts Cat args inputs n h = one_counts (all_lines inputs) n h
row_counts Grep args inputs n h = one_counts (with_text (text_of args) (all_lines inputs)) n h
row_counts Words args inputs n h = one_counts (flat_map words (all_lines inputs)) n h
row_counts Split args inputs n h = many_counts
    (λ i. take (share (length (all_lines inputs)) n) (drop (i * share (length (all_lines inputs)) n) (all_lines inputs))) n
row_counts Deal args inputs n h = many_counts (λ i. every n i 0 (all_lines inputs)) n
row_counts Sort args inputs n h = one_counts (in_order (all_lines inputs)) n h
row_counts Tally args inputs n h = one_counts (tallied (all_lines inputs)) n h
row_counts Count args inputs n h = one_counts (decimal (length (all_lines inputs)) ∷ []) n h
row_counts Sum args inputs n h = summed_counts (read_each counted (all_lines inputs)) n h
row_counts Head args inputs n h = one_counts (take (lines_of args) (all_lines inputs)) n h
row_counts Half args inputs n h = halved_counts (read_each signed_number (all_lines inputs)) n h
row_counts Same args inputs n h = one_counts (truth_text (same_lines (lines (input inputs 0)) (lines (input inputs 1))) ∷ []) n h

args_by : (keys fit : Bool) (a : Answer) (n : ℕ) → IfOk a (λ r. length r ≡ n)
    → IfOk (cond keys (cond fit a (Err BadKind)) (Err NoKey)) (λ r. length r ≡ n)
args_by true true a n h = h
args_by true false a n h = tt
args_by false fit a n h = tt

args_counts : (e : Executor) (args : Val (List ℕ)) (inputs : List (List ℕ)) (n : ℕ) → may_have e n ≡ true
    → IfOk (with_args e args inputs n) (λ r. length r ≡ n)
args_counts e null inputs n h = tt
args_counts e (truth b) inputs n h = tt
args_counts e (num z) inputs n h = tt
args_counts e (text t) inputs n h = tt
args_counts e (list vs) inputs n h = tt
args_counts e (dict ps) inputs n h = args_by (has_keys e ps) (all_fit e ps) (row e ps inputs n) n (row_counts e ps inputs n h)
args_counts e (fun f c) inputs n h = tt
args_counts e (ref d) inputs n h = tt

executor_by : (e : Executor) (args : Val (List ℕ)) (inputs : List (List ℕ)) (n : ℕ) (b : Bool) → may_have e n ≡ b
    → IfOk (cond b (with_args e args inputs n) (Err BadCount)) (λ r. length r ≡ n)
executor_by e args inputs n true h = args_counts e args inputs n h
executor_by e args inputs n false h = tt

executor_counts : (o : Option Executor) (args : Val (List ℕ)) (inputs : List (List ℕ)) (n : ℕ)
    → IfOk (with_executor o args inputs n) (λ r. length r ≡ n)
executor_counts None args inputs n = tt
executor_counts (Some e) args inputs n = executor_by e args inputs n (may_have e n) refl

pub gives_counts : (name : List ℕ) (args : Val (List ℕ)) (inputs : List (List ℕ)) (n : ℕ)
    → IfOk (gives name args inputs n) (λ outputs. length outputs ≡ n)
unfolding gives
gives_counts name args inputs n = executor_counts (executor_of name) args inputs n
