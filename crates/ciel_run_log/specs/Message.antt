-- The one line that tells why a call of the program ended.
use Rattle.std.specs.Prelude.{ℕ, List, [], ◌∷◌, ◌++◌, codes, decimal}
use Rattle.std.specs.List.{concat, flat_map}
use Rattle.hex.specs.Hex.{encode_lower}
use Rattle.ciel_journal.specs.Job.{Digest}
use Rattle.sky_base.specs.declared.fault.FaultKind.{FaultKind}
use Rattle.ciel_run_load.specs.declared.script.SyntaxKind.{SyntaxKind}
use Rattle.ciel_run_log.specs.declared.why.Why.{Why}

abbrev pub fault_name : FaultKind → List ℕ
fault_name FaultKind.Unknown = codes "Unknown"
fault_name FaultKind.BadKind = codes "BadKind"
fault_name FaultKind.Overflow = codes "Overflow"
fault_name FaultKind.DivZero = codes "DivZero"
fault_name FaultKind.NoIndex = codes "NoIndex"
fault_name FaultKind.NoKey = codes "NoKey"
fault_name FaultKind.TooLarge = codes "TooLarge"
fault_name FaultKind.TooDeep = codes "TooDeep"
fault_name FaultKind.TooLong = codes "TooLong"
fault_name FaultKind.NotData = codes "NotData"
fault_name FaultKind.NotText = codes "NotText"
fault_name FaultKind.BadCount = codes "BadCount"
fault_name FaultKind.BadExec = codes "BadExec"
fault_name FaultKind.BadLine = codes "BadLine"
fault_name FaultKind.WrongCount = codes "WrongCount"

abbrev pub syntax_name : SyntaxKind → List ℕ
syntax_name SyntaxKind.BadByte = codes "BadByte"
syntax_name SyntaxKind.OpenText = codes "OpenText"
syntax_name SyntaxKind.BadEscape = codes "BadEscape"
syntax_name SyntaxKind.BigNumber = codes "BigNumber"
syntax_name SyntaxKind.TooNested = codes "TooNested"
syntax_name SyntaxKind.NoSentence = codes "NoSentence"
syntax_name SyntaxKind.SameName = codes "SameName"

-- a line that ends with a place
abbrev pub placed : List ℕ → List ℕ → ℕ → ℕ → List ℕ
placed head name line col =
    concat (head ∷ name ∷ codes " " ∷ decimal line ∷ codes ":" ∷ decimal col ∷ codes "\n" ∷ [])

-- a line that ends with a number
abbrev pub counted : List ℕ → ℕ → List ℕ
counted head number = concat (head ∷ decimal number ∷ codes "\n" ∷ [])

-- a line that ends with a path and a number
abbrev pub pathed : List ℕ → List ℕ → ℕ → List ℕ
pathed head path number = concat (head ∷ path ∷ codes " " ∷ decimal number ∷ codes "\n" ∷ [])

-- a name behind a space
abbrev pub spaced : Digest → List ℕ
spaced name = codes " " ++ encode_lower name

-- the names of what waits for one another
abbrev pub endless_text : List Digest → List ℕ
endless_text names = codes "ciel: endless" ++ (flat_map spaced names ++ codes "\n")

-- the canonical bytes of two descriptions with one name
abbrev pub clash_text : (kept given : List ℕ) → List ℕ
clash_text kept given =
    codes "ciel: name clash " ++ (encode_lower kept ++ (codes " " ++ (encode_lower given ++ codes "\n")))

-- the message with its line feed; there is none where the answer was written
abbrev pub message_of : Why → List ℕ
message_of Why.Done = []
message_of Why.Usage = codes "ciel: usage: ciel SCRIPT [--workers N] [--seed N] [--lose K:W,K:W] [--trace] [--plain] [NAME=PATH]... [--names sha1|sha256] [--stream] [--steal T] [--log PATH] [--resume PATH] [--memo-new PATH] [--memo PATH] or ciel --generate N\n"
message_of (Why.Syntax kind line col) = placed (codes "ciel: syntax ") (syntax_name kind) line col
message_of (Why.Fault fault) = placed (codes "ciel: fault ") (fault_name fault.kind) fault.line fault.col
message_of (Why.Endless names) = endless_text names
message_of (Why.TooMany held given) = counted (codes "ciel: too many descriptions: ") held
message_of Why.AllLost = codes "ciel: all workers lost\n"
message_of (Why.NameClash kept given) = clash_text kept given
message_of (Why.ReadFault path) = concat (codes "ciel: read fault " ∷ path ∷ codes "\n" ∷ [])
message_of Why.WriteFault = codes "ciel: write fault\n"
message_of Why.Memory = codes "ciel: no memory\n"
message_of (Why.TooLongInput path limit) = pathed (codes "ciel: too long ") path limit
message_of (Why.TooDeepPlain depth) = counted (codes "ciel: plain run too deep ") depth
message_of (Why.KeepFault path) = concat (codes "ciel: keep fault " ∷ path ∷ codes "\n" ∷ [])
message_of (Why.BadLog path at) = pathed (codes "ciel: bad log ") path at
message_of (Why.OtherJob path) = concat (codes "ciel: other job " ∷ path ∷ codes "\n" ∷ [])
message_of (Why.BadMemo path at) = pathed (codes "ciel: bad memo ") path at
message_of (Why.LogFull path held) = pathed (codes "ciel: log full ") path held
