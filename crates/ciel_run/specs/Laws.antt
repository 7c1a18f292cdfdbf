-- Laws of the ends that are expected of a source and inputs: what refuses them is one, with one place, and keeps all else away but want
-- of memory. Each is the contract of a function of `law.rt` that does nothing.
use Rattle.std.specs.Prelude.{◌≡◌, ◌⊎◌, ◌<◌, ◌≤◌, ℕ, List, Option, Some, None, length}
use Rattle.sky_base.specs.See.{Answered, Desc, Means, Never}
use Rattle.sky_base.specs.Tree.{Script}
use Rattle.sky_parse.specs.Source.{IsScript}
use Rattle.sky_plain.specs.Needs.{Chain, MakesMany}
use Rattle.ciel_run_load.specs.Found.{Fits, IsFirstOver, input_limit, limit}
use Rattle.ciel_run_load.specs.Line as files
use Rattle.ciel_run_load.specs.Line.{Input, keys_of}
use Rattle.ciel_run_load.specs.Syntax.{IsSyntaxFault}
use Rattle.ciel_run_load.specs.declared.script.SyntaxKind.{SyntaxKind}
use Rattle.ciel_words.specs.declared.words.Words.{Words}
use Rattle.ciel_run.specs.Ending.{IsExpected}
use Rattle.line_kit.specs.Gives.{gives}
use Rattle.sky_base.specs.KitView.{Gives}
use Rattle.sky_base_law.specs.Tasks.{Each}
use Rattle.ciel_memo.specs.Right.{IsRight}
use Rattle.ciel_memo_file.specs.Entries.{Entry}
use Rattle.ciel_memo_file.specs.File.{IsMemo}
use Rattle.ciel_run_line.specs.Given.{GivesOf}
use Rattle.ciel_run_line.specs.Line.{FitsIn, SourceFits, files_of}
use Rattle.ciel_run_line.specs.Source.{IsAnswer, job_of, around}
use Rattle.ciel_run_log.specs.declared.why.Why.{Why}

-- a call over a script with this source and these inputs ends so, or for want of memory, and in no other way, whatever executors give
abbrev pub EndsSo : Words → List ℕ → List Input → Why → Type 0
EndsSo w source inputs end = (g : Gives) (why : Why) → IsExpected g w source inputs why → (why ≡ Why.Memory) ⊎ (why ≡ end)

-- Bytes that are no script are refused by the kind and at the place of their first refusal, and for nothing else.
abbrev pub NoScriptIsRefused : Type 0
NoScriptIsRefused =
    (w : Words) (source : List ℕ) (inputs : List Input) (kind : SyntaxKind) (l c : ℕ) → IsSyntaxFault source kind l c
    → SourceFits (files_of w) source → EndsSo w source inputs (Why.Syntax kind l c)

-- the end is what the job of this script comes to: an answer, a fault, none, too many descriptions, a chain that is too long, the loss of all
-- workers, or two descriptions with one name; or it is of the log that is gone on from
abbrev pub EndsScript : Gives → Words → Script → List Input → Why → Type 0
EndsScript g w script inputs Why.Done = (a : List ℕ) × Means (job_of script inputs) (around g) (Answered.bytes a)
EndsScript g w script inputs (Why.Fault fault) = Means (job_of script inputs) (around g) (Answered.fault fault)
EndsScript g w script inputs (Why.Endless names) = Never (job_of script inputs) (around g)
EndsScript g w script inputs (Why.TooMany held None) = MakesMany (job_of script inputs) (around g) 65537
EndsScript g w script inputs (Why.TooMany held (Some given)) = Unit {0}
EndsScript g w script inputs Why.AllLost = Unit {0}
EndsScript g w script inputs (Why.NameClash kept given) = Unit {0}
EndsScript g w script inputs (Why.LogFull path held) = (a : List ℕ) × Means (job_of script inputs) (around g) (Answered.bytes a)
EndsScript g w script inputs (Why.TooDeepPlain depth) = (d : Desc) × Chain (job_of script inputs) (around g) 4096 d
EndsScript g w script inputs Why.Memory = Unit {0}
EndsScript g w script inputs (Why.TooLongInput path at) = w.resume ≡ Some path
EndsScript g w script inputs _ = ⊥

-- Bytes that are a script are never refused as none, nor as too long where no limit is passed: the end is what the job of that script
-- comes to.
abbrev pub ScriptIsRun : Type 0
ScriptIsRun =
    (g : Gives) (w : Words) (source : List ℕ) (inputs : List Input) (script : Script) → IsScript source (keys_of inputs) script
    → FitsIn (files_of w) source inputs → (why : Why) → IsExpected g w source inputs why → EndsScript g w script inputs why

-- Bytes that are too many for a script are refused as such, whatever they are.
abbrev pub TooLongIsRefused : Type 0
TooLongIsRefused =
    (w : Words) (f : files.Line) → files_of w ≡ Some f → (source : List ℕ) (inputs : List Input) → limit < length source
    → EndsSo w source inputs (Why.TooLongInput f.script limit)

-- The first input that has too many bytes is refused as such, where there is a script.
abbrev pub TooLongInputIsRefused : Type 0
TooLongInputIsRefused =
    (w : Words) (f : files.Line) → files_of w ≡ Some f → (source : List ℕ) (inputs : List Input) (script : Script) (path : List ℕ)
    → IsScript source (keys_of inputs) script → length source ≤ limit → IsFirstOver f.inputs inputs path
    → EndsSo w source inputs (Why.TooLongInput path input_limit)

-- The bytes of a script mean at most one answer over their inputs.
abbrev pub MeansOneAnswer : Type 0
MeansOneAnswer =
    (g : Gives) (source : List ℕ) (inputs : List Input) (a b : Answered) → IsAnswer g source inputs a → IsAnswer g source inputs b → a ≡ b

-- Where each entry of the memo that a line reads is what the executors over lines give, they give the same with it: so what is said of the line is
-- what is said of it without a memo.
abbrev pub RightMemoChangesNothing : Type 0
RightMemoChangesNothing =
    (content : List ℕ → Option (List ℕ)) (w : Words) (g : Gives) → GivesOf content w g
    → ((path bytes : List ℕ) (es : List Entry) → w.memo ≡ Some path → content path ≡ Some bytes → IsMemo bytes es → Each (IsRight gives) es)
    → g ≡ gives
