-- What an output is, and what it is where its length is left aside.
use Rattle.std.specs.Prelude.{◌≡◌, ℕ, Bool, true, false, List, [], slice_index_or, Option, Some, None, Result, Ok, Err}
use Rattle.sky_base.specs.See.{no_place}
use Rattle.sky_base.specs.View.{view}
use Rattle.sky_base_exec.specs.Perform.{slots}
use Rattle.sky_base.specs.declared.fault.Fault.{Fault}
use Rattle.sky_base.specs.declared.fault.FaultKind.{FaultKind}
use Rattle.line_kit.specs.Gives.{gives}
use Rattle.line_kit.specs.Lines.{all_lines}
use Rattle.line_kit.specs.Table.{executor_of}
use Rattle.line_kit.specs.declared.executor.Executor.{Executor}
use Rattle.line_kit.specs.declared.executor.Executor.TheVariants.{Cat, Grep, Words, Deal, Head}
use Rattle.line_flow.specs.Told.{early_by, pairs_in}
use Rattle.line_flow.specs.Refused.{refusal}
use Rattle.ciel_flow_pieces.specs.declared.piece.Source.{Source}

-- the executors whose output can be had line by line
abbrev pub hands_out : Option Executor → Bool
hands_out (Some Cat) = true
hands_out (Some Grep) = true
hands_out (Some Words) = true
hands_out (Some Deal) = true
hands_out (Some Head) = true
hands_out _ = false

abbrev pub nth : ℕ → Result (List (List ℕ)) FaultKind → Result (List ℕ) Fault
nth i (Ok outputs) = Ok (slice_index_or outputs i [])
nth i (Err k) = Err (no_place k)

abbrev pub output_by : List ℕ → ℕ → Result (List (List ℕ)) Fault → (List (List ℕ) → Result (List (List ℕ)) FaultKind) → Result (List ℕ) Fault
output_by x i (Err f) made = Err f
output_by x i (Ok inputs) made = nth i (made inputs)

-- the output: its bytes, or a fault of an input or of its executor, which is given its arguments with slots in the place of references
abbrev pub output : Source → Result (List ℕ) Fault
output s = output_by s.executor s.index s.inputs (λ inputs. gives s.executor (slots (view s.args)) inputs s.outputs)

abbrev pub unless_refused : Option FaultKind → List ℕ → Option (List ℕ)
unless_refused None bytes = Some bytes
unless_refused (Some k) bytes = None

abbrev pub aside_by : Result (List (List ℕ)) Fault → Option FaultKind → (List (List ℕ) → List ℕ) → Option (List ℕ)
aside_by (Err f) refused bytes = None
aside_by (Ok inputs) refused bytes = unless_refused refused (bytes inputs)

-- of an executor whose output can be had line by line, the bytes of the output where it may have any number of bytes; None where there is
-- another fault than too many
abbrev pub aside : Source → Option (List ℕ)
aside s =
    aside_by s.inputs (refusal s.executor (slots (view s.args)) s.outputs)
    (λ inputs. slice_index_or (early_by (executor_of s.executor) (pairs_in (slots (view s.args))) s.outputs (all_lines inputs)) s.index [])
