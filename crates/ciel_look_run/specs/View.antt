-- What the code's lines and scenes stand for.
use Rattle.std.specs.Prelude.{ℕ, List}
use Rattle.ciel_look_run.specs.Line as seen
use Rattle.ciel_look_run.specs.declared.line.Asked.{Asked}
use Rattle.ciel_look_run.specs.declared.line.Line.{Line}

abbrev pub asked_view : Asked → seen.Asked
asked_view Asked.Text = seen.text
asked_view (Asked.Why digits) = seen.why digits
asked_view Asked.Picture = seen.picture

abbrev pub line_view : Line → List ℕ × seen.Asked
line_view l = (l.log, asked_view l.asked)
