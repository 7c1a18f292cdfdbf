-- Sinks in memory as contracts see them, and what a put into them does.
use Rattle.std.specs.Prelude.{◌+◌, ◌/◌, ◌++◌, ℕ, List, Option, Some, None, Bool, if◌then◌else◌, length, nat_le, take}
use Rattle.ciel_io.specs.Faults.{next, is_listed}

-- a sink that never fails
pub record HeldBytes : Type 0 where
  -- how many bytes are told at most
  pub room : ℕ
  -- the bytes written, as long as they fit the room
  pub written : Option (List ℕ)

-- a sink that fails at some calls
pub record FailingBytes : Type 0 where
  pub held : HeldBytes
  -- the numbers of the puts that fail, from 1
  pub fails : List ℕ
  -- how many puts there were
  pub calls : ℕ
  -- how many puts have failed
  pub faults : ℕ

-- the bytes told with a piece put behind them, while they fit the room
abbrev pub grown : ℕ → Option (List ℕ) → List ℕ → Option (List ℕ)
grown room None piece = None
grown room (Some bytes) piece =
    if nat_le (length bytes + length piece) room then Some (bytes ++ piece) else None

abbrev pub with_piece : HeldBytes → List ℕ → HeldBytes
with_piece held piece = record held { written = grown held.room held.written piece }

-- whether the next put fails
abbrev pub is_failing : FailingBytes → Bool
is_failing sink = is_listed sink.fails (next sink.calls)

-- the sink after a put: one that fails writes the first half of the piece
abbrev pub after_put : FailingBytes → List ℕ → FailingBytes
after_put sink piece =
    if is_failing sink
    then record sink {
      held = with_piece sink.held (take (length piece / 2) piece);
      calls = next sink.calls;
      faults = next sink.faults;
    }
    else record sink { held = with_piece sink.held piece; calls = next sink.calls }
