-- What the gates of a line's run tell.
use Rattle.std.specs.Prelude.{◌≡◌, ℕ, List, Option, Some, None}
use Rattle.sky_base.specs.declared.object.TaskId.{TaskId}
use Rattle.ciel_journal.specs.Entries.{Entry}
use Rattle.ciel_run_logged.specs.Told.{ToldBy}
use Rattle.ciel_run_line.specs.Line.{OfLine, SurelyAt}
use Rattle.ciel_run_line.specs.Resuming.{OnwardTold, ReplaysLog}
use Rattle.ciel_run_line.specs.Source.{OfJob}
use Rattle.ciel_words.specs.declared.words.Words.{Words}

-- the tasks of the Starts at their workers; where the run goes on from a log, those of the Starts that were open there, and those since
abbrev pub GatesTell : (List ℕ → Option (List ℕ)) → Option Words → List Entry → (before after : List (Option (List TaskId))) → Type 0
GatesTell content None J before after = ToldBy J before after
GatesTell content (Some w) J before after =
    SurelyAt w.resume (ToldBy J before after) (OfLine content w (λ g source inputs.
    OnwardTold (λ replayed. OfJob source inputs (λ job. (path : List ℕ) (bytes : List ℕ) → w.resume ≡ Some path → content path ≡ Some bytes
    → ReplaysLog g w source inputs job bytes replayed)) J before after))
