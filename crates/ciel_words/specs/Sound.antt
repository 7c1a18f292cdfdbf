-- What holds of every line: its numbers are within their limits.
use Rattle.std.specs.Prelude.{◌≡◌, ◌≢◌, ◌<◌, ◌≤◌, ℕ, List, None, Some, false, length, true}
use Rattle.std.specs.List.{AllByRecursion}
use Rattle.ciel_words.specs.Inputs.{most_inputs, most_name}
use Rattle.ciel_words.specs.Line.{line_of, most_threads, most_workers}
use Rattle.ciel_words.specs.Parts.{Text}
use Rattle.ciel_words.specs.Values.{most_losses}
use Rattle.ciel_words.specs.declared.words.Words.{Words}

pub record LineIsSound (w : Words) : Type 0 where
  pub some : 0 < w.workers
  pub most : w.workers ≤ most_workers
  pub losses : AllByRecursion (λ (l : ℕ × ℕ). l.1 < w.workers) w.losses
  pub few : length w.losses ≤ most_losses
  pub inputs : length w.inputs ≤ most_inputs
  pub keys : AllByRecursion (λ (i : Text × Text). length i.0 ≤ most_name) w.inputs
  -- where there is no script, a job is generated
  pub named : w.script ≡ None → w.generate ≢ None
  -- the path of a log isn't empty, and a sequential run has none, whether it is begun or gone on from; no line has both
  pub logged : (path : Text) → w.log ≡ Some path → (w.plain ≡ false) × (0 < length path)
  pub resumed : (path : Text) → w.resume ≡ Some path → (w.plain ≡ false) × (w.log ≡ None) × (0 < length path)
  -- a sequential run has no streams
  pub streamed : w.stream ≡ true → w.plain ≡ false
  -- some threads are shared, and not too many; neither a sequential run nor one with streams shares any
  pub shared : (threads : ℕ) → w.steal ≡ Some threads → (w.plain ≡ false) × (w.stream ≡ false) × (0 < threads) × (threads ≤ most_threads)
  -- nor is that of a memo's file empty, and neither a sequential run nor one with streams has one; no line both begins one and reads one
  pub remembered : (path : Text) → w.memo_new ≡ Some path → (w.plain ≡ false) × (w.stream ≡ false) × (0 < length path)
  pub recalled : (path : Text) → w.memo ≡ Some path → (w.plain ≡ false) × (w.stream ≡ false) × (w.memo_new ≡ None) × (0 < length path)

abbrev pub LinesAreSound : Type 0
LinesAreSound = (words : List Text) (w : Words) → line_of words ≡ Some w → LineIsSound w
