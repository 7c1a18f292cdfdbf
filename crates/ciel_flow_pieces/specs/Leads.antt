-- What a producer has done so far.
use Rattle.std.specs.Prelude.{◌≡◌, ℕ, List, [], ◌∷◌, ◌++◌, length, Some, None, Ok, slice_index_or}
use Rattle.sky_base.specs.Val.{Val}
use Rattle.sky_base.specs.View.{view}
use Rattle.sky_base_exec.specs.Perform.{slots}
use Rattle.line_kit.specs.Lines.{all_lines}
use Rattle.line_flow.specs.Refused.{refusal}
use Rattle.line_flow.specs.Stands.{Stands}
use Rattle.line_flow.specs.Told.{CanFeed, Told, grow}
use Rattle.line_flow.specs.declared.flow.Flow.{Flow}
use Rattle.ciel_flow_pieces.specs.Pieces.{AllParts, AllShort, StreamSeen, parts}
use Rattle.ciel_flow_pieces.specs.Source.{aside}
use Rattle.ciel_flow_pieces.specs.declared.piece.Source.{Source}

-- the bytes of an output so far, or none
abbrev pub at : List (List ℕ) → ℕ → List ℕ
at outputs i = slice_index_or outputs i []

-- the flow stands at t, all that was drained was kept, and that of one output was put
pub record Leads (f : Flow) (t : Told) (kept : List (List ℕ)) (p : StreamSeen) : Type 0 where
  pub stands : Stands f t
  pub keeps : kept ≡ t.drained
  pub puts : parts p.pieces ≡ at t.drained p.source.index
  pub all : AllParts p.pieces
  pub short : AllShort p.pieces

-- what was put, and then these bytes, is the beginning of what may be had
abbrev pub IsFirstOf : StreamSeen → List ℕ → Type 0
IsFirstOf p bytes = (rest : List ℕ) × (aside p.source ≡ Some ((parts p.pieces ++ bytes) ++ rest))

-- the call is that of the source, with these inputs, and a right one
pub record IsOf (s : Source) (t : Told) (inputs : List (List ℕ)) : Type 0 where
  pub executor : t.executor ≡ s.executor
  pub args : t.args ≡ slots (view s.args)
  pub outputs : t.outputs ≡ s.outputs
  pub given : s.inputs ≡ Ok inputs
  pub right : refusal s.executor (slots (view s.args)) s.outputs ≡ None

-- the source is output i of n of this executor, for these arguments with slots and these inputs
pub record IsCall (s : Source) (x : List ℕ) (a : Val (List ℕ)) (n i : ℕ) (inputs : List (List ℕ)) : Type 0 where
  pub executor : s.executor ≡ x
  pub args : slots (view s.args) ≡ a
  pub outputs : s.outputs ≡ n
  pub index : s.index ≡ i
  pub given : s.inputs ≡ Ok inputs

-- with the piece more of the input, and then perhaps more of it and later inputs, it has these inputs' lines
abbrev pub Begins : Told → ℕ → List ℕ → List (List ℕ) → Type 0
Begins t input piece inputs =
    (q : List ℕ) × (later : List (List ℕ)) × (all_lines (grow input q (grow input piece t.fed)) ++ later ≡ all_lines inputs)

-- each with what follows it
pub record JoinedEach (before more after : List (List ℕ)) : Type 0 where
  pub count : length after ≡ length before
  pub each : (i : ℕ) → at after i ≡ at before i ++ at more i

-- the bytes of the input more, and all else but what was drained as before
pub record WasFed (t : Told) (input : ℕ) (bytes : List ℕ) (u : Told) : Type 0 where
  pub executor : u.executor ≡ t.executor
  pub args : u.args ≡ t.args
  pub outputs : u.outputs ≡ t.outputs
  pub fed : u.fed ≡ grow input bytes t.fed
