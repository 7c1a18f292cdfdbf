-- What comes in the way of a log, behind an answer that was written, and before.
use Rattle.std.proofs.Common.{◌≡◌, ◌≢◌, ◌≤◌, ◌⊎◌, ◌++◌, inl, inr, ℕ, List, [], Bool, true, false, Option, Some, None, Result, Ok, Err, refl, sym, ap, subst, ◌∙◌, arith}
use Rattle.std.specs.Prelude.{IfErr, IfSome}
use Rattle.sky_base.specs.See as s
use Rattle.sky_base.specs.See.{Answered}
use Rattle.ciel_io.specs.Faults.{HasRisen}
use Rattle.ciel_io.specs.HeldFiles.{bytes_at}
use Rattle.ciel_io.specs.Kept.{Files}
use Rattle.ciel_io.specs.Tells.{Tells}
use Rattle.ciel_io.proofs.Joined.{part_whole}
use Rattle.ciel_journal.specs.Entries.{Entry}
use Rattle.sky_base.specs.KitView.{Gives}
use Rattle.ciel_run_line.specs.Logging.{most}
use Rattle.ciel_run_line.specs.Logs.{HasDropped}
use Rattle.ciel_run_line.specs.LogState.{LogState}
use Rattle.ciel_run_load.specs.Line.{Input}
use Rattle.ciel_run_line.specs.Answering.{HasEnd}
use Rattle.ciel_run_line.specs.Asked.{AsksFor, NoRun}
use Rattle.ciel_run_line.specs.Causes.{CauseOf, OfRun}
use Rattle.ciel_run_line.specs.Keeping.{AsksOnly, BeginsLog, FillsLog, HasBytes, IsLog, KeeperSeen, KeepsLog, LogTold, OfLog, StandsBy, Told}
use Rattle.ciel_run_line.specs.Source.{around}
use Rattle.ciel_run_log.specs.declared.why.Why.{Why}
use Rattle.ciel_words.specs.declared.words.Words.{Words}
use Rattle.ciel_run_line.specs.Runs.{log_at, log_path}
use Rattle.ciel_words.specs.Sound.{LineIsSound}
use Rattle.ciel_run.specs.Ending.{AsksLog, EndCause, EndsJob, IfKeepFault, IfLogFull, IsTrouble, LogSays, WritesNothing}

-- an answer was written, or it wasn't whole; then that is told which came in the way of the log
abbrev pub Finished : Option (List ℕ) → LogState → Why → Type 0
Finished log state why = (why ≡ Why.WriteFault) ⊎ IsTrouble log state why

-- a line with a log isn't one of a sequential run
pub log_plain : (w : Words) → LineIsSound w → (path : List ℕ) → log_path w ≡ Some path → w.plain ≡ false
log_plain w s path e = at w.log w.resume refl refl e
  where
    at : (log resume : Option (List ℕ)) → w.log ≡ log → w.resume ≡ resume → log_at log resume ≡ Some path → w.plain ≡ false
    at (Some p) resume f g h = (s.logged p f).0
    at None resume f g h = (s.resumed path (g ∙ h)).0

-- ---- the whys of a trouble

data Kind (log : Option (List ℕ)) (state : LogState) (why : Why) : Type 0 where
  done : why ≡ Why.Done → ((path : List ℕ) → log ≡ Some path → state ≡ LogState.Whole) → Kind log state why
  failed : (path : List ℕ) → log ≡ Some path → state ≡ LogState.Failed → why ≡ Why.KeepFault path → Kind log state why
  full : (path : List ℕ) (held : ℕ) → log ≡ Some path → state ≡ LogState.Full held → why ≡ Why.LogFull path held → Kind log state why
  memory : why ≡ Why.Memory → Kind log state why
  unwritten : why ≡ Why.WriteFault → Kind log state why

kind : (log : Option (List ℕ)) (state : LogState) (why : Why) → Finished log state why → Kind log state why
kind log state why (inl e) = unwritten e
kind None LogState.Whole why (inr t) = done t (λ path e. cc)
kind (Some path) LogState.Whole why (inr t) = done t (λ p e. refl)
kind None LogState.Failed why (inr t) = done t (λ path e. cc)
kind None (LogState.Full held) why (inr t) = done t (λ path e. cc)
kind None LogState.Memory why (inr t) = done t (λ path e. cc)
kind (Some path) LogState.Failed why (inr (inl e)) = failed path refl refl e
kind (Some path) LogState.Failed why (inr (inr e)) = memory e
kind (Some path) (LogState.Full held) why (inr (inl e)) = full path held refl refl e
kind (Some path) (LogState.Full held) why (inr (inr e)) = memory e
kind (Some path) LogState.Memory why (inr t) = memory t

-- something is written
writes_something : (log : Option (List ℕ)) (state : LogState) (why : Why) → Kind log state why → WritesNothing why → ⊥
writes_something log state why (done e w) n = subst WritesNothing e n
writes_something log state why (failed path a b e) n = subst WritesNothing e n
writes_something log state why (full path held a b e) n = subst WritesNothing e n
writes_something log state why (memory e) n = subst WritesNothing e n
writes_something log state why (unwritten e) n = subst WritesNothing e n

pub something : (log : Option (List ℕ)) (state : LogState) (why : Why) → Finished log state why → WritesNothing why → ⊥
something log state why f n = writes_something log state why (kind log state why f) n

module _ (content : List ℕ → Option (List ℕ)) (w : Words) (risen : Type 0) (J : List Entry)
    (plain : (path : List ℕ) → log_path w ≡ Some path → w.plain ≡ false) (a : List ℕ)
    (answer : OfRun content w risen J (λ h job. s.Means job (around h) (Answered.bytes a))) where
  ran : OfRun content w risen J (λ h job. Unit {0})
  ran h given source inputs st = let y = answer h given source inputs st in (y.0, (y.1.0, y.1.1, tt))

  cause_of : (state : LogState) (why : Why) → Kind (log_path w) state why → EndCause content w risen J why
  cause_of state why (done e x) = subst (EndCause content w risen J) (sym e) tt
  cause_of state why (failed path n t e) = subst (EndCause content w risen J) (sym e) (plain path n, inl n, ran)
  cause_of state why (full path held n t e) = subst (EndCause content w risen J) (sym e) (plain path n, n, (a, answer))
  cause_of state why (memory e) = subst (EndCause content w risen J) (sym e) tt
  cause_of state why (unwritten e) = subst (EndCause content w risen J) (sym e) tt

  pub trouble_cause : (state : LogState) (why : Why) → Finished (log_path w) state why → EndCause content w risen J why
  trouble_cause state why f = cause_of state why (kind (log_path w) state why f)

-- ---- what is known of the keeper

module _ (log : Option (List ℕ)) (before now : KeeperSeen) (a : List ℕ) (state : LogState) (k : KeepsLog log before now (Ok a) state) where
  failing : (path : List ℕ) → log ≡ Some path → state ≡ LogState.Failed → HasRisen before.faults now.faults
  failing path n t =
      let here : KeepsLog (Some path) before now (Ok a) LogState.Failed =
      subst (λ (x : Option (List ℕ) × LogState). KeepsLog x.0 before now (Ok a) x.1) (λ i. (n i, t i)) k in
      here.1

  filling : (path : List ℕ) (held : ℕ) → log ≡ Some path → state ≡ LogState.Full held → (held ≤ most) × HasBytes path now.files held
  filling path held n t =
      let here : KeepsLog (Some path) before now (Ok a) (LogState.Full held) =
      subst (λ (x : Option (List ℕ) × LogState). KeepsLog x.0 before now (Ok a) x.1) (λ i. (n i, t i)) k in
      here.1

  keep_fault_of : (why : Why) → Kind log state why → IfKeepFault why (λ path. HasRisen before.faults now.faults)
  keep_fault_of why (done e x) = subst (λ (y : Why). IfKeepFault y (λ path. HasRisen before.faults now.faults)) (sym e) tt
  keep_fault_of why (failed path n t e) =
      subst (λ (y : Why). IfKeepFault y (λ p. HasRisen before.faults now.faults)) (sym e) (failing path n t)
  keep_fault_of why (full path held n t e) = subst (λ (y : Why). IfKeepFault y (λ p. HasRisen before.faults now.faults)) (sym e) tt
  keep_fault_of why (memory e) = subst (λ (y : Why). IfKeepFault y (λ p. HasRisen before.faults now.faults)) (sym e) tt
  keep_fault_of why (unwritten e) = subst (λ (y : Why). IfKeepFault y (λ p. HasRisen before.faults now.faults)) (sym e) tt

  pub keep_fault : (why : Why) → Finished log state why → IfKeepFault why (λ path. HasRisen before.faults now.faults)
  keep_fault why f = keep_fault_of why (kind log state why f)

  abbrev Fills : List ℕ → ℕ → Type 0
  Fills path held = (held ≤ most) × HasBytes path now.files held

  log_full_of : (why : Why) → Kind log state why → IfLogFull why Fills
  log_full_of why (done e x) = subst (λ (y : Why). IfLogFull y Fills) (sym e) tt
  log_full_of why (failed path n t e) = subst (λ (y : Why). IfLogFull y Fills) (sym e) tt
  log_full_of why (full path held n t e) = subst (λ (y : Why). IfLogFull y Fills) (sym e) (filling path held n t)
  log_full_of why (memory e) = subst (λ (y : Why). IfLogFull y Fills) (sym e) tt
  log_full_of why (unwritten e) = subst (λ (y : Why). IfLogFull y Fills) (sym e) tt

  pub log_full : (why : Why) → Finished log state why → IfLogFull why Fills
  log_full why f = log_full_of why (kind log state why f)

-- which paths the keeper was asked
pub asks_any : (path : List ℕ) (before now : Option (List (List ℕ))) (why : Why) → AsksOnly path before now → AsksLog (Some path) why before now
asks_any path before now Why.Memory a = tt
asks_any path before now Why.Done a = a
asks_any path before now Why.Usage a = a
asks_any path before now (Why.Syntax kind line col) a = a
asks_any path before now (Why.Fault fault) a = a
asks_any path before now (Why.Endless names) a = a
asks_any path before now (Why.TooMany held given) a = a
asks_any path before now Why.AllLost a = a
asks_any path before now (Why.NameClash kept given) a = a
asks_any path before now (Why.ReadFault p) a = a
asks_any path before now Why.WriteFault a = a
asks_any path before now (Why.TooLongInput p at) a = a
asks_any path before now (Why.TooDeepPlain depth) a = a
asks_any path before now (Why.KeepFault p) a = a
asks_any path before now (Why.BadLog p at) a = a
asks_any path before now (Why.OtherJob p) a = a
asks_any path before now (Why.LogFull p held) a = a
asks_any path before now (Why.BadMemo p at) a = a

pub asked_then : (log : Option (List ℕ)) (before now : KeeperSeen) (a : List ℕ) (state : LogState) → KeepsLog log before now (Ok a) state → (why : Why)
    → AsksLog log why before.asked now.asked
asked_then None before now a state k why = ap (λ (x : KeeperSeen). x.asked) (sym k.0)
asked_then (Some path) before now a state k why = asks_any path before.asked now.asked why k.0

-- where the job has no answer
pub asked_so : (log : Option (List ℕ)) (before now : KeeperSeen) (why : Why) (state : LogState) → KeepsLog log before now (Err why) state
    → AsksLog log why before.asked now.asked
asked_so None before now why state k = ap (λ (x : KeeperSeen). x.asked) (sym k.0)
asked_so (Some path) before now Why.Memory state k = tt
asked_so (Some path) before now (Why.KeepFault p) state k = k.1
asked_so (Some path) before now Why.Done state k = k.0
asked_so (Some path) before now Why.Usage state k = k.0
asked_so (Some path) before now (Why.Syntax kind line col) state k = k.0
asked_so (Some path) before now (Why.Fault fault) state k = k.0
asked_so (Some path) before now (Why.Endless names) state k = k.0
asked_so (Some path) before now (Why.TooMany held given) state k = k.0
asked_so (Some path) before now Why.AllLost state k = k.0
asked_so (Some path) before now (Why.NameClash kept given) state k = k.0
asked_so (Some path) before now (Why.ReadFault p) state k = k.0
asked_so (Some path) before now Why.WriteFault state k = k.0
asked_so (Some path) before now (Why.TooLongInput p at) state k = k.0
asked_so (Some path) before now (Why.TooDeepPlain depth) state k = k.0
asked_so (Some path) before now (Why.BadLog p at) state k = k.0
asked_so (Some path) before now (Why.OtherJob p) state k = k.0
asked_so (Some path) before now (Why.LogFull p held) state k = k.0
asked_so (Some path) before now (Why.BadMemo p at) state k = k.0

pub keep_fault_so : (log : Option (List ℕ)) (before now : KeeperSeen) (why : Why) (state : LogState) → KeepsLog log before now (Err why) state
    → ((path : List ℕ) → why ≡ Why.KeepFault path → log ≡ Some path) → IfKeepFault why (λ path. HasRisen before.faults now.faults)
keep_fault_so None before now (Why.KeepFault p) state k n = let none : None ≡ Some p = n p refl in absurd cc
keep_fault_so (Some path) before now (Why.KeepFault p) state k n = k.2
keep_fault_so log before now Why.Memory state k n = tt
keep_fault_so log before now Why.Done state k n = tt
keep_fault_so log before now Why.Usage state k n = tt
keep_fault_so log before now (Why.Syntax kind line col) state k n = tt
keep_fault_so log before now (Why.Fault fault) state k n = tt
keep_fault_so log before now (Why.Endless names) state k n = tt
keep_fault_so log before now (Why.TooMany held given) state k n = tt
keep_fault_so log before now Why.AllLost state k n = tt
keep_fault_so log before now (Why.NameClash kept given) state k n = tt
keep_fault_so log before now (Why.ReadFault p) state k n = tt
keep_fault_so log before now Why.WriteFault state k n = tt
keep_fault_so log before now (Why.TooLongInput p at) state k n = tt
keep_fault_so log before now (Why.TooDeepPlain depth) state k n = tt
keep_fault_so log before now (Why.BadLog p at) state k n = tt
keep_fault_so log before now (Why.OtherJob p) state k n = tt
keep_fault_so log before now (Why.LogFull p held) state k n = tt
keep_fault_so log before now (Why.BadMemo p at) state k n = tt

-- its faults don't fall, where the job came to an answer or a fault
same_falls : (before now : KeeperSeen) → now ≡ before → before.faults ≤ now.faults
same_falls before now e = let same : now.faults ≡ before.faults = ap (λ (x : KeeperSeen). x.faults) e in omega (arith, same)

pub answer_falls : (log : Option (List ℕ)) (before now : KeeperSeen) (a : List ℕ) (state : LogState) → KeepsLog log before now (Ok a) state
    → before.faults ≤ now.faults
answer_falls None before now a state k = same_falls before now k.0
answer_falls (Some path) before now a state k = k.2

pub end_falls : (log : Option (List ℕ)) (before now : KeeperSeen) (why : Why) (state : LogState) → KeepsLog log before now (Err why) state
    → EndsJob why → before.faults ≤ now.faults
end_falls None before now why state k e = same_falls before now k.0
end_falls (Some path) before now Why.Done state k e = k.2
end_falls (Some path) before now Why.Usage state k e = absurd e
end_falls (Some path) before now (Why.Syntax kind line col) state k e = absurd e
end_falls (Some path) before now (Why.Fault fault) state k e = k.2
end_falls (Some path) before now (Why.Endless names) state k e = absurd e
end_falls (Some path) before now (Why.TooMany held given) state k e = absurd e
end_falls (Some path) before now Why.AllLost state k e = absurd e
end_falls (Some path) before now (Why.NameClash kept given) state k e = absurd e
end_falls (Some path) before now (Why.ReadFault p) state k e = absurd e
end_falls (Some path) before now Why.WriteFault state k e = absurd e
end_falls (Some path) before now Why.Memory state k e = absurd e
end_falls (Some path) before now (Why.TooLongInput p at) state k e = absurd e
end_falls (Some path) before now (Why.TooDeepPlain depth) state k e = absurd e
end_falls (Some path) before now (Why.KeepFault p) state k e = absurd e
end_falls (Some path) before now (Why.BadLog p at) state k e = absurd e
end_falls (Some path) before now (Why.OtherJob p) state k e = absurd e
end_falls (Some path) before now (Why.LogFull p held) state k e = absurd e
end_falls (Some path) before now (Why.BadMemo p at) state k e = absurd e

-- an end of a job is one of its run
pub has_end : (content : List ℕ → Option (List ℕ)) (w : Words) (risen : Type 0) (J : List Entry) (why : Why) → CauseOf content w risen J why
    → EndsJob why → HasEnd (Err why)
has_end content w risen J (Why.Fault fault) c e = tt
has_end content w risen J Why.Done c e = absurd c
has_end content w risen J Why.Usage c e = absurd e
has_end content w risen J (Why.Syntax kind line col) c e = absurd e
has_end content w risen J (Why.Endless names) c e = absurd e
has_end content w risen J (Why.TooMany held given) c e = absurd e
has_end content w risen J Why.AllLost c e = absurd e
has_end content w risen J (Why.NameClash kept given) c e = absurd e
has_end content w risen J (Why.ReadFault p) c e = absurd e
has_end content w risen J Why.WriteFault c e = absurd e
has_end content w risen J Why.Memory c e = absurd e
has_end content w risen J (Why.TooLongInput p at) c e = absurd e
has_end content w risen J (Why.TooDeepPlain depth) c e = absurd e
has_end content w risen J (Why.KeepFault p) c e = absurd e
has_end content w risen J (Why.BadLog p at) c e = absurd e
has_end content w risen J (Why.OtherJob p) c e = absurd e
has_end content w risen J (Why.LogFull p held) c e = absurd e
has_end content w risen J (Why.BadMemo p at) c e = absurd e

-- ---- what the log's file tells

-- a part of what is known of the file
pub of_file : (files : Option Files) (path : List ℕ) (P Q : List ℕ → Type 0) → ((bytes : List ℕ) → P bytes → Q bytes)
    → IfSome files (λ fs. (HasDropped (bytes_at fs path) → ⊥) → P (bytes_at fs path))
    → IfSome files (λ fs. (HasDropped (bytes_at fs path) → ⊥) → Q (bytes_at fs path))
of_file None path P Q f t = tt
of_file (Some fs) path P Q f t = λ clean. f (bytes_at fs path) (t clean)

-- where the keeper failed in a run, its count rose
module _ (before now : KeeperSeen) (state : LogState) (result : Result (List ℕ) Why)
    (ran : (path : List ℕ) → KeepsLog (Some path) before now result state → AsksOnly path before.asked now.asked × StandsBy path before now state) where
  rises : (log : Option (List ℕ)) → KeepsLog log before now result state → state ≡ LogState.Failed → HasRisen before.faults now.faults
  rises None k e = let whole : LogState.Whole ≡ LogState.Failed = sym k.1 ∙ e in absurd cc
  rises (Some path) k e = subst (StandsBy path before now) e (ran path k).1

-- the bytes begin a log by another reason for which they may not be all of one
pub begins_so : (g : Gives) (w : Words) (source : List ℕ) (inputs : List Input) (J : List Entry) (broken breaks : Type 0) → (broken → breaks) → (bytes : List ℕ)
    → BeginsLog g w source inputs J broken bytes → BeginsLog g w source inputs J breaks bytes
begins_so g w source inputs J broken breaks f bytes (script, is, inl part) = (script, is, inl part)
begins_so g w source inputs J broken breaks f bytes (script, is, inr (x, before, number, count, part, same)) =
    (script, is, inr (f x, before, number, count, part, same))

module _ (g : Gives) (w : Words) (source : List ℕ) (inputs : List Input) (J : List Entry) (broken : Type 0) (files : Option Files) (state : LogState) where
  abbrev Known : Type 0
  Known = OfLog g w source inputs J files (Told g w source inputs J state)

  of_kind : (why : Why) → Kind (log_path w) state why → Known → LogSays g w source inputs J broken files why
  of_kind why (done e x) t =
      subst (LogSays g w source inputs J broken files) (sym e) (λ apart path n. of_file files path (Told g w source inputs J state) (IsLog g w source inputs J)
      (λ bytes k. k.1 (x path n)) (t path n))
  of_kind why (failed path n f e) t = subst (LogSays g w source inputs J broken files) (sym e) tt
  of_kind why (full path held n f e) t =
      subst (LogSays g w source inputs J broken files) (sym e) (λ p m. of_file files p (Told g w source inputs J state) (FillsLog g w source inputs J held)
      (λ bytes k. k.2 held f) (t p m))
  of_kind why (memory e) t = subst (LogSays g w source inputs J broken files) (sym e) tt
  of_kind why (unwritten e) t = subst (LogSays g w source inputs J broken files) (sym e) tt

  pub says : (why : Why) → Finished (log_path w) state why → Known → LogSays g w source inputs J broken files why
  says why f t = of_kind why (kind (log_path w) state why f) t

  begins : (state ≡ LogState.Failed → broken) → Known → OfLog g w source inputs J files (BeginsLog g w source inputs J broken)
  begins f t = λ path n. of_file files path (Told g w source inputs J state) (BeginsLog g w source inputs J broken)
      (λ bytes k. begins_so g w source inputs J (state ≡ LogState.Failed) broken f bytes k.0) (t path n)

  -- where the job has no answer
  pub says_so : (content : List ℕ → Option (List ℕ)) (risen : Type 0) (before now : KeeperSeen) (why : Why) → CauseOf content w risen J why
      → KeepsLog (log_path w) before now (Err why) state → (HasRisen before.faults now.faults → broken)
      → LogTold g w source inputs J files state (Err why) → LogSays g w source inputs J broken files why
  says_so content risen before now (Why.Fault fault) c k f t = λ apart. begins (λ e. f (rises before now state (Err (Why.Fault fault)) (λ p x. (x.0, x.1)) (log_path w) k e)) t
  says_so content risen before now (Why.Endless names) c k f t = begins (λ e. f (rises before now state (Err (Why.Endless names)) (λ p x. (x.0, x.1)) (log_path w) k e)) t
  says_so content risen before now Why.AllLost c k f t = begins (λ e. f (rises before now state (Err Why.AllLost) (λ p x. (x.0, x.1)) (log_path w) k e)) t
  says_so content risen before now Why.Done c k f t = absurd c
  says_so content risen before now (Why.LogFull path held) c k f t = absurd c
  says_so content risen before now Why.Usage c k f t = tt
  says_so content risen before now (Why.Syntax kind line col) c k f t = tt
  says_so content risen before now (Why.TooMany held given) c k f t = tt
  says_so content risen before now (Why.NameClash kept given) c k f t = tt
  says_so content risen before now (Why.ReadFault path) c k f t = tt
  says_so content risen before now Why.WriteFault c k f t = tt
  says_so content risen before now Why.Memory c k f t = tt
  says_so content risen before now (Why.TooLongInput path at) c k f t = tt
  says_so content risen before now (Why.TooDeepPlain depth) c k f t = tt
  says_so content risen before now (Why.KeepFault path) c k f t = tt
  says_so content risen before now (Why.BadLog path at) c k f t = tt
  says_so content risen before now (Why.OtherJob path) c k f t = tt
  says_so content risen before now (Why.BadMemo path at) c k f t = tt

-- ---- where the job has no answer

pub keep_named : (content : List ℕ → Option (List ℕ)) (w : Words) (risen : Type 0) (J : List Entry) (why : Why) → CauseOf content w risen J why
    → (path : List ℕ) → why ≡ Why.KeepFault path → log_path w ≡ Some path
keep_named content w risen J why c path e = (subst (CauseOf content w risen J) e c).1

pub none_begun : (content : List ℕ → Option (List ℕ)) (w : Words) (risen : Type 0) (J : List Entry) (why : Why) → CauseOf content w risen J why
    → (path : List ℕ) → why ≡ Why.KeepFault path → J ≡ []
none_begun content w risen J why c path e = (subst (CauseOf content w risen J) e c).2

-- ---- where the log couldn't be begun, or couldn't be kept

-- a fact of the end of a run whose log failed
given_failed : (log : Option (List ℕ)) (state : LogState) (why : Why) (F : Type 0) → Kind log state why
    → ((path : List ℕ) → log ≡ Some path → why ≡ Why.KeepFault path → F)
    → IfKeepFault why (λ path. F)
given_failed log state why F (done e x) f = subst (λ (y : Why). IfKeepFault y (λ path. F)) (sym e) tt
given_failed log state why F (failed path n t e) f = subst (λ (y : Why). IfKeepFault y (λ p. F)) (sym e) (f path n e)
given_failed log state why F (full path held n t e) f = subst (λ (y : Why). IfKeepFault y (λ p. F)) (sym e) tt
given_failed log state why F (memory e) f = subst (λ (y : Why). IfKeepFault y (λ path. F)) (sym e) tt
given_failed log state why F (unwritten e) f = subst (λ (y : Why). IfKeepFault y (λ path. F)) (sym e) tt

pub begun_then : (log : Option (List ℕ)) (state : LogState) (why : Why) (F : Type 0) → Finished log state why
    → ((path : List ℕ) → log ≡ Some path → why ≡ Why.KeepFault path → F) → IfKeepFault why (λ path. F)
begun_then log state why F f g = given_failed log state why F (kind log state why f) g

-- a fact of the end of a run whose log is full
given_full : (log : Option (List ℕ)) (state : LogState) (why : Why) (F : Type 0) → Kind log state why
    → ((path : List ℕ) (held : ℕ) → why ≡ Why.LogFull path held → F)
    → IfLogFull why (λ path held. F)
given_full log state why F (done e x) f = subst (λ (y : Why). IfLogFull y (λ p n. F)) (sym e) tt
given_full log state why F (failed path n t e) f = subst (λ (y : Why). IfLogFull y (λ p n. F)) (sym e) tt
given_full log state why F (full path held n t e) f = subst (λ (y : Why). IfLogFull y (λ p n. F)) (sym e) (f path held e)
given_full log state why F (memory e) f = subst (λ (y : Why). IfLogFull y (λ p n. F)) (sym e) tt
given_full log state why F (unwritten e) f = subst (λ (y : Why). IfLogFull y (λ p n. F)) (sym e) tt

pub full_then : (log : Option (List ℕ)) (state : LogState) (why : Why) (F : Type 0) → Finished log state why
    → ((path : List ℕ) (held : ℕ) → why ≡ Why.LogFull path held → F) → IfLogFull why (λ path held. F)
full_then log state why F f g = given_full log state why F (kind log state why f) g

-- no run began where the end says so, which it does behind an answer of a sequential run alone
none_began : (log : Option (List ℕ)) (state : LogState) (why : Why) (plain : Bool) → Kind log state why → NoRun plain why → plain ≡ true
none_began log state why plain (done e x) n = subst (NoRun plain) e n
none_began log state why plain (failed path m f e) n = subst (NoRun plain) e n
none_began log state why plain (full path held m f e) n = subst (NoRun plain) e n
none_began log state why plain (memory e) n = subst (NoRun plain) e n
none_began log state why plain (unwritten e) n = subst (NoRun plain) e n

pub no_run_is_plain : (log : Option (List ℕ)) (state : LogState) (why : Why) (plain : Bool) → Finished log state why → NoRun plain why → plain ≡ true
no_run_is_plain log state why plain f n = none_began log state why plain (kind log state why f) n

-- which files were asked: all of the line's
asks_files : (log : Option (List ℕ)) (state : LogState) (why : Why) (ps others : List (List ℕ)) (b n : Option (List (List ℕ))) → Kind log state why
    → Tells b n (ps ++ others) → AsksFor why ps others b n
asks_files log state why ps others b n (done e x) t = subst (λ (y : Why). AsksFor y ps others b n) (sym e) t
asks_files log state why ps others b n (failed path m f e) t = subst (λ (y : Why). AsksFor y ps others b n) (sym e) t
asks_files log state why ps others b n (full path held m f e) t = subst (λ (y : Why). AsksFor y ps others b n) (sym e) t
asks_files log state why ps others b n (memory e) t = subst (λ (y : Why). AsksFor y ps others b n) (sym e) (part_whole b n (ps ++ others) t)
asks_files log state why ps others b n (unwritten e) t = subst (λ (y : Why). AsksFor y ps others b n) (sym e) t

pub files_asked : (log : Option (List ℕ)) (state : LogState) (why : Why) (ps others : List (List ℕ)) (b n : Option (List (List ℕ)))
    → Finished log state why → Tells b n (ps ++ others) → AsksFor why ps others b n
files_asked log state why ps others b n f t = asks_files log state why ps others b n (kind log state why f) t

pub keep_fault_map : (why : Why) (P Q : List ℕ → Type 0) → ((path : List ℕ) → P path → Q path) → IfKeepFault why P → IfKeepFault why Q
keep_fault_map (Why.KeepFault path) P Q f p = f path p
keep_fault_map Why.Done P Q f p = tt
keep_fault_map Why.Usage P Q f p = tt
keep_fault_map (Why.Syntax kind line col) P Q f p = tt
keep_fault_map (Why.Fault fault) P Q f p = tt
keep_fault_map (Why.Endless names) P Q f p = tt
keep_fault_map (Why.TooMany held given) P Q f p = tt
keep_fault_map Why.AllLost P Q f p = tt
keep_fault_map (Why.NameClash kept given) P Q f p = tt
keep_fault_map (Why.ReadFault path) P Q f p = tt
keep_fault_map Why.WriteFault P Q f p = tt
keep_fault_map Why.Memory P Q f p = tt
keep_fault_map (Why.TooLongInput path at) P Q f p = tt
keep_fault_map (Why.TooDeepPlain depth) P Q f p = tt
keep_fault_map (Why.BadLog path at) P Q f p = tt
keep_fault_map (Why.OtherJob path) P Q f p = tt
keep_fault_map (Why.LogFull path held) P Q f p = tt
keep_fault_map (Why.BadMemo path at) P Q f p = tt

pub err_is : (a b : Why) (r : Result (List ℕ) Why) → r ≡ Err a → r ≡ Err b → a ≡ b
err_is a b r e f = cc

pub on_right : {A B C : Type 0} → (B → C) → A ⊎ B → A ⊎ C
on_right f (inl a) = inl a
on_right f (inr b) = inr (f b)
