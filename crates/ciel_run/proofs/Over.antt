-- From a line to the words that are it, and to each end's cause.
use Rattle.std.proofs.Common.{◌≡◌, ◌≢◌, ◌≤◌, ◌<◌, ◌⊎◌, inl, inr, ℕ, zero, suc, ◌+◌, List, [], ◌∷◌, ◌++◌, true, false, Option, Some, None, Result, Ok}
use Rattle.std.proofs.Common.{Err, OnErr, OnOk, Contains, length, take, refl, sym, ap, subst, ◌∙◌, arith}
use Rattle.std.proofs.lemmas.List.{append-nil, take_all}
use Rattle.std.specs.List.{IsDistinct}
use Rattle.sky_base.specs.See as s
use Rattle.sky_base.specs.See.{Answered}
use Rattle.sky_base.specs.Val.{same_text}
use Rattle.sky_base_law.specs.Tasks as t
use Rattle.sky_parse_law.specs.Orderly.{FunctionsAreOrderly}
use Rattle.sky_plain.specs.Needs as p
use Rattle.ciel_run_line.specs.Ended.{EndsSo, HasAnswer, ModestRunsAnswer, SomeStays}
use Rattle.ciel_master_board.specs.Ends.{AllAreLost}
use Rattle.ciel_run_line.specs.Ends.{IsModest, IsOrderly, MadeBy}
use Rattle.ciel_io.specs.Faults.{HasRisen}
use Rattle.ciel_io.specs.Tells.{Tells, TellsPart}
use Rattle.ciel_io.proofs.Joined.{part_whole, tells_more, tells_none}
use Rattle.ciel_journal.specs.Entries.{Entry}
use Rattle.ciel_journal.specs.Journals.{DrivenJournal}
use Rattle.ciel_run_load.specs.Found.{Holds}
use Rattle.ciel_run_load.specs.Line as files
use Rattle.ciel_run_load.specs.Line.{Input, keys_of}
use Rattle.ciel_run_load.specs.Syntax.{IsSyntaxFault}
use Rattle.ciel_run_load.specs.declared.script.SyntaxKind.{SyntaxKind}
use Rattle.ciel_run_line.specs.Seen.{most_descriptions}
use Rattle.ciel_run_line.specs.RunEnd.{RunEnd}
use Rattle.ciel_words.specs.Line.{line_of}
use Rattle.ciel_words.specs.declared.words.Words.{Words}
use Rattle.sky_base.specs.KitView.{Gives}
use Rattle.ciel_run_line.specs.Causes.{CauseOf, Clashes, GoesRound, HasBadMemo, HasBadRecord, HasOtherHeader, HasTooMany, IsTooDeep, JobCause, OfRun, TooLongBy}
use Rattle.ciel_run_line.specs.Causes.{TooLongOf}
use Rattle.ciel_run.specs.Ending.{Answers, ComesBy, EndCause, HasRun, IfEndless, IfFault, IfKeepFault, IfNameClash, IfReadFault, IfTooDeep, IfTooMany, IsAnswered}
use Rattle.ciel_run.specs.Ending.{IfBadLog, IfBadMemo, IfOtherJob, KeepsFiles, memo_of, recalled_of, IsExpected, LogTooLong, MayEnd, TellsParts, TooLongIn, Writes, WritesAnswer, WritesPart}
use Rattle.ciel_run_line.specs.Asked.{StopsFor}
use Rattle.ciel_run_line.specs.Line.{FitsIn, LogIsOwn, OfLine, OfSource, OverFiles, OverLine, SourceFits, SourceIn, Stands, StandsIn, Surely, files_of, is_plain, log_of}
use Rattle.ciel_run_line.specs.Given.{GivesAt, HasMemo, memo_path}
use Rattle.ciel_run_line.specs.Line.{paths, resume_of}
use Rattle.ciel_memo_file.specs.File.{most_of_a_file}
use Rattle.ciel_memo_file.specs.Laws.{NeverBoth}
use Rattle.ciel_run_load.specs.Found.{PassesIfTold}
use Rattle.ciel_words.specs.Sound.{LineIsSound}
use Rattle.std.specs.Prelude.{IfSome}
use Rattle.ciel_run_line.specs.Keeping.{header_of}
use Rattle.ciel_run_line.proofs.Own.{no_bad_record, not_other}
use Rattle.ciel_run_line.specs.Whole.{BeginsOther}
use Rattle.ciel_run_line.specs.Runs.{IsDriven, IsModestFor, digest_of, log_path, plan_of, told_of}
use Rattle.ciel_run_line.specs.Source.{IsAnswer, OfJob, job_of, around}
use Rattle.ciel_run_log.specs.Status.{status_of}
use Rattle.ciel_run_log.specs.declared.why.Why.{Why}
use Rattle.ciel_run.proofs.Exact.{same_script}

-- ---- the line that the words are

pub over_line : (words : List (List ℕ)) (line : Words) (P : Words → Type 0) → line_of words ≡ Some line → P line → (w : Words) → line_of words
    ≡ Some w → P w
over_line words line P e p w f =
    let both : Some line ≡ Some w = sym e ∙ f in
    let same : line ≡ w = cc in
    subst P same p

pub at_line : (words : List (List ℕ)) (line : Words) (P : Option Words → Type 0) → line_of words ≡ Some line → P (Some line) → P (line_of words)
at_line words line P e p = subst P (sym e) p

-- ---- counts of faults

same_or_below : (f z : ℕ) → f ≤ z → (f ≡ z) ⊎ (f < z)
same_or_below zero zero h = inl refl
same_or_below zero (suc z) h = inr (omega arith)
same_or_below (suc f) zero h = absurd (omega (arith, h))
same_or_below (suc f) (suc z) h = up (same_or_below f z (omega (arith, h)))
  where
    up : (f ≡ z) ⊎ (f < z) → (suc f ≡ suc z) ⊎ (suc f < suc z)
    up (inl e) = inl (ap suc e)
    up (inr l) = inr (omega (arith, l))

pub risen_on : (a f z : ℕ) → a ≤ f → f ≤ z → HasRisen a f → HasRisen a z
risen_on a f z k h (inl r) = inl (omega (arith, h, r))
risen_on a f z k h (inr r) = of (same_or_below f z h)
  where
    of : (f ≡ z) ⊎ (f < z) → HasRisen a z
    of (inl e) = inr (sym e ∙ r)
    of (inr l) = inl (omega (arith, k, l))

pub risen_since : (a f z : ℕ) → a ≤ f → HasRisen f z → HasRisen a z
risen_since a f z k (inl r) = inl (omega (arith, k, r))
risen_since a f z k (inr r) = inr r

-- ---- two texts on the log

module _ (b m n : Option (List ℕ)) (text more : List ℕ) where
  pub parts : TellsPart b m text → TellsPart m n more → TellsParts b n text more
  parts x y = (x.0, y.0, tells_more b m n (take x.0 text) (take y.0 more) x.1 y.1)

  part_then : {T E : Type 0} (r : Result T E) → OnOk r (Tells b m text) → OnErr r (TellsPart b m text) → TellsPart b m text
  part_then (Ok x) w p = part_whole b m text w
  part_then (Err x) w p = p

  part_last : {T E : Type 0} (r : Result T E) → OnOk r (Tells m n more) → OnErr r (TellsPart m n more) → TellsPart m n more
  part_last (Ok x) w p = part_whole m n more w
  part_last (Err x) w p = p

  pub both_parts : {T E U V : Type 0} (r : Result T E) (q : Result U V) → OnOk r (Tells b m text) → OnErr r (TellsPart b m text)
      → OnOk q (Tells m n more) → OnErr q (TellsPart m n more)
      → TellsParts b n text more
  both_parts r q w p x y = parts (part_then r w p) (part_last q x y)

  whole : {T E U V : Type 0} (r : Result T E) (q : Result U V) (a f z : ℕ) → f ≤ z → a ≤ f → OnOk r (Tells b m text) → OnErr r (HasRisen a f)
      → OnOk q (Tells m n more) → OnErr q (HasRisen f z)
      → ¬ HasRisen a z → Tells b n (text ++ more)
  whole (Ok x) (Ok y) a f z h k w p u v quiet = tells_more b m n text more w u
  whole (Err x) q a f z h k w p u v quiet = absurd (quiet (risen_on a f z k h p))
  whole (Ok x) (Err y) a f z h k w p u v quiet = absurd (quiet (risen_since a f z k v))

  pub both_whole : {T E U V : Type 0} (r : Result T E) (q : Result U V) (a f z : ℕ) → f ≤ z → a ≤ f → OnOk r (Tells b m text)
      → OnErr r (HasRisen a f) → OnOk q (Tells m n more) → OnErr q (HasRisen f z)
      → ¬ HasRisen a z → Tells b n (text ++ more)
  both_whole r q a f z h k w p u v quiet = whole r q a f z h k w p u v quiet

-- ---- what is written

-- a log that couldn't be begun isn't why a call ends
abbrev pub Begun : Why → Type 0
Begun why = (path : List ℕ) → why ≡ Why.KeepFault path → ⊥

-- it keeps a log or a memo
keeps_some : (o : Option Words) (w : Words) (path : List ℕ) → o ≡ Some w → (log_path w ≡ Some path) ⊎ (memo_path w ≡ Some path) → KeepsFiles o
keeps_some o w path line (inl e) = inl (λ none. let clash : None ≡ Some path = sym none ∙ ap log_of line ∙ e in cc)
keeps_some o w path line (inr e) = inr (λ none. let clash : None ≡ Some path = sym none ∙ ap memo_of line ∙ e in cc)

-- no log was refused, where one that is asked for has a keeper that did not fail
pub begun_of : (content : List ℕ → Option (List ℕ)) (w : Words) (risen failed : Type 0) (entries : List Entry) (why : Why) (o : Option Words)
    → o ≡ Some w → EndCause content w risen entries why → IfKeepFault why (λ path. failed) → (KeepsFiles o → ¬ failed) → Begun why
begun_of content w risen failed entries why o line cause fault quiet path e =
    let named = (subst (λ (y : Why). EndCause content w risen entries y) e cause).1 in
    let rose : failed = subst (λ (y : Why). IfKeepFault y (λ p. failed)) e fault in
    quiet (keeps_some o w path line named) rose

module _ (content : List ℕ → Option (List ℕ)) (w : Words) where
  -- the answer that is written is that of the script over the inputs
  pub writes : (b n : Option (List ℕ)) → Writes content w (Tells b n) → OfLine content w (λ h source inputs. WritesAnswer h w source inputs b n)
  writes b n x h given source inputs st = (x.0, (x.1 h given source inputs st).1, x.2)

  pub writes_part : (b n : Option (List ℕ)) → Writes content w (TellsPart b n) → OfLine content w (λ h source inputs. WritesPart h w source inputs b n)
  writes_part b n x h given source inputs st = (x.0, (x.1 h given source inputs st).1, x.2)

  -- ---- which end is expected

  -- a source that stands there stands with its inputs
  pub source_of : (f : Option files.Line) (g : Option ℕ) (source : List ℕ) (inputs : List Input) → StandsIn content f g source inputs
      → SourceIn content f g source
  source_of (Some f) g source inputs st = st.source_there
  source_of None (Some lines) source inputs st = st.0
  source_of None None source inputs st = absurd st

  pub too_long_in : (f : Option files.Line) (g : Option ℕ) (source : List ℕ) (inputs : List Input) (path : List ℕ) (at : ℕ)
      → StandsIn content f g source inputs → TooLongOf content f path at
      → TooLongIn f source inputs path at
  too_long_in None g source inputs path at st t = absurd t
  too_long_in (Some f) g source inputs path at st t = t.1 source inputs st

  -- a memo's file isn't too long
  pub memo_short : (path : List ℕ) → w.memo ≡ Some path → HasMemo content w.memo → PassesIfTold (content path) most_of_a_file → ⊥
  memo_short path e m passes =
      let there = m path e in
      let fits : length there.0 ≤ most_of_a_file = there.3.fits in
      let over : most_of_a_file < length there.0 = subst (λ (o : Option (List ℕ)). IfSome o (λ file. most_of_a_file < length file)) there.2 passes in
      omega (arith, fits, over)

  -- where files tell what the executors give, they tell the memo that is read, which is one
  pub has_memo : (memo : Option (List ℕ)) (g : Gives) → GivesAt content memo g → HasMemo content memo
  has_memo None g given path e = let bad : None ≡ Some path = e in absurd cc
  has_memo (Some p) g given path e =
      let same : p ≡ path = cc in
      (given.0, given.1, subst (λ (q : List ℕ). content q ≡ Some given.0) same given.2, given.3)

  too_long_by : (source : List ℕ) (inputs : List Input) (path : List ℕ) (at : ℕ) → StandsIn content (files_of w) w.generate source inputs
      → HasMemo content w.memo → TooLongBy content w path at → TooLongIn (files_of w) source inputs path at ⊎ LogTooLong w source inputs path at
  too_long_by source inputs path at st m (inl t) = inl (too_long_in (files_of w) w.generate source inputs path at st t)
  too_long_by source inputs path at st m (inr (inl t)) = absurd (memo_short path t.0 m t.2)
  too_long_by source inputs path at st m (inr (inr t)) = let y = t.3 source inputs st in inr (t.0, t.1, y.0, y.1)

  -- a log that is the line's own has its header
  pub own_header : (k : Gives) (path : List ℕ) → w.resume ≡ Some path → (source : List ℕ) (inputs : List Input) → FitsIn (files_of w) source inputs
      → OfJob source inputs (λ job. (bytes : List ℕ) → content path ≡ Some bytes → BeginsOther bytes (header_of w source inputs))
      → LogIsOwn k content w source inputs → ⊥
  own_header k path e source inputs fits o own =
      let b = own path e fits o.0 o.1 in not_other (digest_of w.names) (job_of o.0 inputs) k (plan_of w) (header_of w source inputs) b.0 b.2
      (o.2 b.0 b.1)

  module _ (both : NeverBoth) (risen : Type 0) (J : List Entry) where
    -- each end that isn't an answer written, by its cause
    expected_of : (why : Why) → CauseOf content w risen J why → ¬ risen → (why ≢ Why.WriteFault) → Begun why
        → OfLine content w (λ h source inputs. IsExpected h w source inputs why)
    expected_of (Why.Syntax kind l c) x quiet nw bg h given source inputs st = x source (source_of (files_of w) w.generate source inputs st.there)
    expected_of (Why.TooLongInput path at) x quiet nw bg h given source inputs st =
        too_long_by source inputs path at st.there (has_memo w.memo h given) x
    expected_of (Why.BadMemo path at) x quiet nw bg h given source inputs st =
        let there = has_memo w.memo h given path x.0 in absurd (both there.0 there.1 at there.3 (x.1.0 there.0 there.2))
    expected_of Why.Memory x quiet nw bg h given source inputs st = tt
    expected_of (Why.Fault fault) x quiet nw bg h given source inputs st = x h given source inputs st
    expected_of (Why.Endless names) x quiet nw bg h given source inputs st =
        let y = x.2 h given source inputs st in (y.0, (y.1.0, y.1.1, y.1.2.2))
    expected_of (Why.TooMany held None) x quiet nw bg h given source inputs st =
        let y = x.1 h given source inputs st in (y.0, (y.1.0, y.1.1, y.1.2.2))
    expected_of (Why.TooMany held (Some one)) x quiet nw bg h given source inputs st =
        let y = x.1 h given source inputs st in (y.0, (y.1.0, y.1.1, tt))
    expected_of Why.AllLost x quiet nw bg h given source inputs st = x.2 h given source inputs st
    expected_of (Why.NameClash kept one) x quiet nw bg h given source inputs st =
        let y = x.1 h given source inputs st in (y.0, (y.1.0, y.1.1, tt))
    expected_of (Why.TooDeepPlain depth) x quiet nw bg h given source inputs st =
        let y = x.1 h given source inputs st in (y.0, (y.1.0, y.1.1, y.1.2.2))
    expected_of (Why.ReadFault path) x quiet nw bg h given source inputs st = absurd (quiet x.1)
    expected_of (Why.KeepFault path) x quiet nw bg h given source inputs st = absurd (bg path refl)
    expected_of (Why.BadLog path at) x quiet nw bg h given source inputs st =
        absurd (no_bad_record content w path at x.1 x.3 h given source inputs st)
    expected_of (Why.OtherJob path) x quiet nw bg h given source inputs st =
        absurd (own_header h path x.1 source inputs (x.3 source inputs st.there).0 (x.3 source inputs st.there).1 st.own)
    expected_of (Why.LogFull path held) x quiet nw bg h given source inputs st = absurd x
    expected_of Why.Done x quiet nw bg h given source inputs st = absurd x
    expected_of Why.Usage x quiet nw bg h given source inputs st = absurd x
    expected_of Why.WriteFault x quiet nw bg h given source inputs st = absurd x

    done_expected : (b n : Option (List ℕ)) → Writes content w (Tells b n) → OfLine content w (λ h source inputs. IsExpected h w source inputs Why.Done)
    done_expected b n x h given source inputs st = ((x.1 h given source inputs st).0, (x.0, (x.1 h given source inputs st).1))

    pub expected : (why : Why) (b n : Option (List ℕ)) → EndCause content w risen J why → (why ≡ Why.Done → Writes content w (Tells b n))
        → ¬ risen → (why ≡ Why.WriteFault → ⊥) → Begun why
        → OfLine content w (λ h source inputs. IsExpected h w source inputs why)
    expected Why.Done b n c d quiet nw bg = done_expected b n (d refl)
    expected Why.WriteFault b n c d quiet nw bg = absurd (nw refl)
    expected (Why.Syntax kind l k) b n c d quiet nw bg = expected_of (Why.Syntax kind l k) c quiet nw bg
    expected (Why.BadMemo path at) b n c d quiet nw bg = expected_of (Why.BadMemo path at) c quiet nw bg
    expected (Why.TooLongInput path at) b n c d quiet nw bg = expected_of (Why.TooLongInput path at) c quiet nw bg
    expected Why.Memory b n c d quiet nw bg = expected_of Why.Memory c quiet nw bg
    expected (Why.Fault fault) b n c d quiet nw bg = expected_of (Why.Fault fault) c quiet nw bg
    expected (Why.Endless names) b n c d quiet nw bg = expected_of (Why.Endless names) c quiet nw bg
    expected (Why.TooMany held None) b n c d quiet nw bg = expected_of (Why.TooMany held None) c quiet nw bg
    expected (Why.TooMany held (Some given)) b n c d quiet nw bg = expected_of (Why.TooMany held (Some given)) c quiet nw bg
    expected Why.AllLost b n c d quiet nw bg = expected_of Why.AllLost c quiet nw bg
    expected (Why.NameClash kept given) b n c d quiet nw bg = expected_of (Why.NameClash kept given) c quiet nw bg
    expected (Why.TooDeepPlain depth) b n c d quiet nw bg = expected_of (Why.TooDeepPlain depth) c quiet nw bg
    expected (Why.ReadFault path) b n c d quiet nw bg = expected_of (Why.ReadFault path) c quiet nw bg
    expected Why.Usage b n c d quiet nw bg = expected_of Why.Usage c quiet nw bg
    expected (Why.KeepFault path) b n c d quiet nw bg = absurd (bg path refl)
    expected (Why.BadLog path at) b n c d quiet nw bg = expected_of (Why.BadLog path at) c quiet nw bg
    expected (Why.OtherJob path) b n c d quiet nw bg = expected_of (Why.OtherJob path) c quiet nw bg
    expected (Why.LogFull path held) b n c d quiet nw bg =
        λ h given source inputs st. ((c.2.1 h given source inputs st).0, (c.1, (c.2.0, (c.2.1 h given source inputs st).1)))

-- ---- causes, of the words

module _ (content : List ℕ → Option (List ℕ)) (words : List (List ℕ)) (line : Words) (e : line_of words ≡ Some line) (risen : Type 0)
    (J : List Entry) where
  pub too_deep : (why : Why) → EndCause content line risen J why
      → IfTooDeep why (λ depth. OverFiles content words (λ h w source inputs. OfJob source inputs (λ job. IsTooDeep h w J job depth)))
  too_deep Why.Done c = tt
  too_deep Why.Usage c = tt
  too_deep (Why.Syntax kind l k) c = tt
  too_deep (Why.Fault fault) c = tt
  too_deep (Why.Endless names) c = tt
  too_deep (Why.TooMany held given) c = tt
  too_deep Why.AllLost c = tt
  too_deep (Why.NameClash kept given) c = tt
  too_deep (Why.ReadFault path) c = tt
  too_deep Why.WriteFault c = tt
  too_deep Why.Memory c = tt
  too_deep (Why.TooLongInput path at) c = tt
  too_deep (Why.TooDeepPlain depth) c =
      over_line words line (λ w. OfLine content w (λ h source inputs. OfJob source inputs (λ job. IsTooDeep h w J job depth))) e
      (λ h given source inputs st. (c.1 h given source inputs st).1)
  too_deep (Why.KeepFault path) c = tt
  too_deep (Why.BadLog path at) c = tt
  too_deep (Why.OtherJob path) c = tt
  too_deep (Why.LogFull path held) c = tt
  too_deep (Why.BadMemo path at) c = tt

  pub read_fault : (why : Why) → EndCause content line risen J why → IfReadFault why (λ path. Contains (paths (line_of words)) path × risen)
  read_fault Why.Done c = tt
  read_fault Why.Usage c = tt
  read_fault (Why.Syntax kind l k) c = tt
  read_fault (Why.Fault fault) c = tt
  read_fault (Why.Endless names) c = tt
  read_fault (Why.TooMany held given) c = tt
  read_fault Why.AllLost c = tt
  read_fault (Why.NameClash kept given) c = tt
  read_fault (Why.ReadFault path) c = (at_line words line (λ o. Contains (paths o) path) e c.0, c.1)
  read_fault Why.WriteFault c = tt
  read_fault Why.Memory c = tt
  read_fault (Why.TooLongInput path at) c = tt
  read_fault (Why.TooDeepPlain depth) c = tt
  read_fault (Why.KeepFault path) c = tt
  read_fault (Why.BadLog path at) c = tt
  read_fault (Why.OtherJob path) c = tt
  read_fault (Why.LogFull path held) c = tt
  read_fault (Why.BadMemo path at) c = tt

  pub endless : (why : Why) → EndCause content line risen J why
      → IfEndless why (λ names. OverFiles content words (λ h w source inputs. OfJob source inputs (λ job. GoesRound h w J job names)))
  endless Why.Done c = tt
  endless Why.Usage c = tt
  endless (Why.Syntax kind l k) c = tt
  endless (Why.Fault fault) c = tt
  endless (Why.Endless names) c =
      over_line words line (λ w. OfLine content w (λ h source inputs. OfJob source inputs (λ job. GoesRound h w J job names))) e
      (λ h given source inputs st. (c.2 h given source inputs st).1)
  endless (Why.TooMany held None) c = tt
  endless (Why.TooMany held (Some given)) c = tt
  endless Why.AllLost c = tt
  endless (Why.NameClash kept given) c = tt
  endless (Why.ReadFault path) c = tt
  endless Why.WriteFault c = tt
  endless Why.Memory c = tt
  endless (Why.TooLongInput path at) c = tt
  endless (Why.TooDeepPlain depth) c = tt
  endless (Why.KeepFault path) c = tt
  endless (Why.BadLog path at) c = tt
  endless (Why.OtherJob path) c = tt
  endless (Why.LogFull path held) c = tt
  endless (Why.BadMemo path at) c = tt

  pub too_many : (why : Why) → EndCause content line risen J why
      → IfTooMany why (λ held given. OverFiles content words (λ h w source inputs. OfJob source inputs (λ job. HasTooMany h w J job held given)))
  too_many Why.Done c = tt
  too_many Why.Usage c = tt
  too_many (Why.Syntax kind l k) c = tt
  too_many (Why.Fault fault) c = tt
  too_many (Why.Endless names) c = tt
  too_many (Why.TooMany held None) c =
      over_line words line (λ w. OfLine content w (λ h source inputs. OfJob source inputs (λ job. HasTooMany h w J job held None))) e
      (λ h given source inputs st. (c.1 h given source inputs st).1)
  too_many (Why.TooMany held (Some given)) c =
      over_line words line (λ w. OfLine content w (λ h source inputs. OfJob source inputs (λ job. HasTooMany h w J job held (Some given)))) e
      (λ h given source inputs st. (c.1 h given source inputs st).1)
  too_many Why.AllLost c = tt
  too_many (Why.NameClash kept given) c = tt
  too_many (Why.ReadFault path) c = tt
  too_many Why.WriteFault c = tt
  too_many Why.Memory c = tt
  too_many (Why.TooLongInput path at) c = tt
  too_many (Why.TooDeepPlain depth) c = tt
  too_many (Why.KeepFault path) c = tt
  too_many (Why.BadLog path at) c = tt
  too_many (Why.OtherJob path) c = tt
  too_many (Why.LogFull path held) c = tt
  too_many (Why.BadMemo path at) c = tt

  pub name_clash : (why : Why) → EndCause content line risen J why
      → IfNameClash why (λ kept given. OverFiles content words (λ h w source inputs. OfJob source inputs (λ job. Clashes h w J job kept given)))
  name_clash Why.Done c = tt
  name_clash Why.Usage c = tt
  name_clash (Why.Syntax kind l k) c = tt
  name_clash (Why.Fault fault) c = tt
  name_clash (Why.Endless names) c = tt
  name_clash (Why.TooMany held None) c = tt
  name_clash (Why.TooMany held (Some given)) c = tt
  name_clash Why.AllLost c = tt
  name_clash (Why.NameClash kept given) c =
      over_line words line (λ w. OfLine content w (λ h source inputs. OfJob source inputs (λ job. Clashes h w J job kept given))) e
      (λ h given source inputs st. (c.1 h given source inputs st).1)
  name_clash (Why.ReadFault path) c = tt
  name_clash Why.WriteFault c = tt
  name_clash Why.Memory c = tt
  name_clash (Why.TooLongInput path at) c = tt
  name_clash (Why.TooDeepPlain depth) c = tt
  name_clash (Why.KeepFault path) c = tt
  name_clash (Why.BadLog path at) c = tt
  name_clash (Why.OtherJob path) c = tt
  name_clash (Why.LogFull path held) c = tt
  name_clash (Why.BadMemo path at) c = tt

  pub distinct : (why : Why) → EndCause content line risen J why
      → IfEndless why (λ names. OverLine content words (λ w. Surely content w (IsDistinct same_text names)))
  distinct Why.Done c = tt
  distinct Why.Usage c = tt
  distinct (Why.Syntax kind l k) c = tt
  distinct (Why.Fault fault) c = tt
  distinct (Why.Endless names) c = over_line words line (λ w. Surely content w (IsDistinct same_text names)) e c.1
  distinct (Why.TooMany held None) c = tt
  distinct (Why.TooMany held (Some given)) c = tt
  distinct Why.AllLost c = tt
  distinct (Why.NameClash kept given) c = tt
  distinct (Why.ReadFault path) c = tt
  distinct Why.WriteFault c = tt
  distinct Why.Memory c = tt
  distinct (Why.TooLongInput path at) c = tt
  distinct (Why.TooDeepPlain depth) c = tt
  distinct (Why.KeepFault path) c = tt
  distinct (Why.BadLog path at) c = tt
  distinct (Why.OtherJob path) c = tt
  distinct (Why.LogFull path held) c = tt
  distinct (Why.BadMemo path at) c = tt

  pub all_lost : (why : Why) → EndCause content line risen J why → why ≡ Why.AllLost
      → OverLine content words (λ w. (w.plain ≡ false) × Surely content w (AllAreLost (plan_of w) J))
  all_lost why c lost =
      let x = subst (EndCause content line risen J) lost c in
      over_line words line (λ w. (w.plain ≡ false) × Surely content w (AllAreLost (plan_of w) J)) e (x.0, x.1)

  pub fault : (why : Why) → EndCause content line risen J why
      → IfFault why (λ it. OverFiles content words (λ h w source inputs. IsAnswer h source inputs (Answered.fault it)))
  fault Why.Done c = tt
  fault Why.Usage c = tt
  fault (Why.Syntax kind l k) c = tt
  fault (Why.Fault it) c =
      over_line words line (λ w. OfLine content w (λ h source inputs. IsAnswer h source inputs (Answered.fault it))) e
      (λ h given source inputs st. (c h given source inputs st).1)
  fault (Why.Endless names) c = tt
  fault (Why.TooMany held given) c = tt
  fault Why.AllLost c = tt
  fault (Why.NameClash kept given) c = tt
  fault (Why.ReadFault path) c = tt
  fault Why.WriteFault c = tt
  fault Why.Memory c = tt
  fault (Why.TooLongInput path at) c = tt
  fault (Why.TooDeepPlain depth) c = tt
  fault (Why.KeepFault path) c = tt
  fault (Why.BadLog path at) c = tt
  fault (Why.OtherJob path) c = tt
  fault (Why.LogFull path held) c = tt
  fault (Why.BadMemo path at) c = tt

  pub bad_log : (why : Why) → EndCause content line risen J why
      → IfBadLog why (λ path at. (resume_of (line_of words) ≡ Some path) × OverLine content words (λ w. HasBadRecord content w path at))
  bad_log Why.Done c = tt
  bad_log Why.Usage c = tt
  bad_log (Why.Syntax kind l k) c = tt
  bad_log (Why.Fault fault) c = tt
  bad_log (Why.Endless names) c = tt
  bad_log (Why.TooMany held given) c = tt
  bad_log Why.AllLost c = tt
  bad_log (Why.NameClash kept given) c = tt
  bad_log (Why.ReadFault path) c = tt
  bad_log Why.WriteFault c = tt
  bad_log Why.Memory c = tt
  bad_log (Why.TooLongInput path at) c = tt
  bad_log (Why.TooDeepPlain depth) c = tt
  bad_log (Why.KeepFault path) c = tt
  bad_log (Why.BadLog path at) c =
      (at_line words line (λ o. resume_of o ≡ Some path) e c.1, over_line words line (λ w. HasBadRecord content w path at) e c.3)
  bad_log (Why.OtherJob path) c = tt
  bad_log (Why.LogFull path held) c = tt
  bad_log (Why.BadMemo path at) c = tt

  pub bad_memo : (why : Why) → EndCause content line risen J why
      → IfBadMemo why (λ path at. (recalled_of (line_of words) ≡ Some path) × OverLine content words (λ w. HasBadMemo content w path at))
  bad_memo Why.Done c = tt
  bad_memo Why.Usage c = tt
  bad_memo (Why.Syntax kind l k) c = tt
  bad_memo (Why.Fault fault) c = tt
  bad_memo (Why.Endless names) c = tt
  bad_memo (Why.TooMany held given) c = tt
  bad_memo Why.AllLost c = tt
  bad_memo (Why.NameClash kept given) c = tt
  bad_memo (Why.ReadFault path) c = tt
  bad_memo Why.WriteFault c = tt
  bad_memo Why.Memory c = tt
  bad_memo (Why.TooLongInput path at) c = tt
  bad_memo (Why.TooDeepPlain depth) c = tt
  bad_memo (Why.KeepFault path) c = tt
  bad_memo (Why.BadLog path at) c = tt
  bad_memo (Why.BadMemo path at) c =
      (at_line words line (λ o. recalled_of o ≡ Some path) e c.0, over_line words line (λ w. HasBadMemo content w path at) e c.1)
  bad_memo (Why.OtherJob path) c = tt
  bad_memo (Why.LogFull path held) c = tt

  pub other_job : (why : Why) → EndCause content line risen J why
      → IfOtherJob why (λ path. (resume_of (line_of words) ≡ Some path) × OverLine content words (λ w. HasOtherHeader content w path))
  other_job Why.Done c = tt
  other_job Why.Usage c = tt
  other_job (Why.Syntax kind l k) c = tt
  other_job (Why.Fault fault) c = tt
  other_job (Why.Endless names) c = tt
  other_job (Why.TooMany held given) c = tt
  other_job Why.AllLost c = tt
  other_job (Why.NameClash kept given) c = tt
  other_job (Why.ReadFault path) c = tt
  other_job Why.WriteFault c = tt
  other_job Why.Memory c = tt
  other_job (Why.TooLongInput path at) c = tt
  other_job (Why.TooDeepPlain depth) c = tt
  other_job (Why.KeepFault path) c = tt
  other_job (Why.BadLog path at) c = tt
  other_job (Why.OtherJob path) c =
      (at_line words line (λ o. resume_of o ≡ Some path) e c.1, over_line words line (λ w. HasOtherHeader content w path) e c.3)
  other_job (Why.LogFull path held) c = tt
  other_job (Why.BadMemo path at) c = tt

  -- which run it ends

  comes_by : LineIsSound line → (why : Why) → EndCause content line risen J why → ComesBy line.plain why
  comes_by s Why.Done c = tt
  comes_by s Why.Usage c = tt
  comes_by s (Why.Syntax kind l k) c = tt
  comes_by s (Why.Fault fault) c = tt
  comes_by s (Why.Endless names) c = c.0
  comes_by s (Why.TooMany held None) c = c.0
  comes_by s (Why.TooMany held (Some given)) c = c.0
  comes_by s Why.AllLost c = c.0
  comes_by s (Why.NameClash kept given) c = c.0
  comes_by s (Why.ReadFault path) c = tt
  comes_by s Why.WriteFault c = tt
  comes_by s Why.Memory c = tt
  comes_by s (Why.TooLongInput path at) c = tt
  comes_by s (Why.TooDeepPlain depth) c = c.0
  comes_by s (Why.KeepFault path) c = c.0
  comes_by s (Why.BadLog path at) c = c.0
  comes_by s (Why.OtherJob path) c = c.0
  comes_by s (Why.LogFull path held) c = c.0
  comes_by s (Why.BadMemo path at) c = (s.recalled path c.0).0

  pub way : LineIsSound line → (why : Why) → EndCause content line risen J why → ComesBy (is_plain (line_of words)) why
  way s why c = at_line words line (λ o. ComesBy (is_plain o) why) e (comes_by s why c)

  fits : (b n : Option (List ℕ)) (why : Why) → EndCause content line risen J why → (why ≡ Why.Done → Writes content line (Tells b n))
      → (why ≡ Why.WriteFault → Writes content line (TellsPart b n)) → HasRun why → OfLine content line (λ h source inputs. FitsIn (files_of line) source inputs)
  fits b n Why.Done c d p r = λ h given source inputs st. ((d refl).1 h given source inputs st).0
  fits b n Why.Usage c d p r = absurd r
  fits b n (Why.Syntax kind l k) c d p r = absurd r
  fits b n (Why.Fault fault) c d p r = λ h given source inputs st. (c h given source inputs st).0
  fits b n (Why.Endless names) c d p r = λ h given source inputs st. (c.2 h given source inputs st).0
  fits b n (Why.TooMany held None) c d p r = λ h given source inputs st. (c.1 h given source inputs st).0
  fits b n (Why.TooMany held (Some given)) c d p r = λ h given source inputs st. (c.1 h given source inputs st).0
  fits b n Why.AllLost c d p r = λ h given source inputs st. (c.2 h given source inputs st).0
  fits b n (Why.NameClash kept given) c d p r = λ h given source inputs st. (c.1 h given source inputs st).0
  fits b n (Why.ReadFault path) c d p r = absurd r
  fits b n Why.WriteFault c d p r = λ h given source inputs st. ((p refl).1 h given source inputs st).0
  fits b n Why.Memory c d p r = absurd r
  fits b n (Why.TooLongInput path at) c d p r = absurd r
  fits b n (Why.TooDeepPlain depth) c d p r = λ h given source inputs st. (c.1 h given source inputs st).0
  fits b n (Why.KeepFault path) c d p r = λ h given source inputs st. (c.2 h given source inputs st).0
  fits b n (Why.BadLog path at) c d p r = λ h given source inputs st. (c.3 h given source inputs st.there).0
  fits b n (Why.OtherJob path) c d p r = λ h given source inputs st. (c.3 source inputs st.there).0
  fits b n (Why.LogFull path held) c d p r = λ h given source inputs st. (c.2.1 h given source inputs st).0
  fits b n (Why.BadMemo path at) c d p r = λ h given source inputs st. (c.1.1 source inputs st.there).0

  pub limits : (b n : Option (List ℕ)) (why : Why) → EndCause content line risen J why → (why ≡ Why.Done → Writes content line (Tells b n))
      → (why ≡ Why.WriteFault → Writes content line (TellsPart b n)) → HasRun why
      → OverFiles content words (λ h w source inputs. FitsIn (files_of w) source inputs)
  limits b n why c d p r = over_line words line (λ w. OfLine content w (λ h source inputs. FitsIn (files_of w) source inputs)) e (fits b n why c d p r)

  pub not_usage : (why : Why) → EndCause content line risen J why → why ≡ Why.Usage → ⊥
  not_usage why c u = subst (EndCause content line risen J) u c

-- where neither count rose nothing failed to be written
pub no_write : (A X B : Type 0) → A ⊎ (X × B) → (A → ⊥) → (B → ⊥) → ⊥
no_write A X B (inl a) f g = f a
no_write A X B (inr b) f g = g b.1

module _ (content : List ℕ → Option (List ℕ)) (line : Words) (risen : Type 0) (J : List Entry) where
  -- what was written, or wasn't written whole, has no other cause
  pub written_cause : (why : Why) → (why ≡ Why.Done) ⊎ (why ≡ Why.WriteFault) → EndCause content line risen J why
  written_cause why (inl e) = subst (EndCause content line risen J) (sym e) tt
  written_cause why (inr e) = subst (EndCause content line risen J) (sym e) tt

  pub end_cause : (why : Why) → CauseOf content line risen J why → EndCause content line risen J why
  end_cause Why.Done c = tt
  end_cause Why.Usage c = c
  end_cause (Why.Syntax kind l k) c = c
  end_cause (Why.Fault fault) c = c
  end_cause (Why.Endless names) c = c
  end_cause (Why.TooMany held None) c = c
  end_cause (Why.TooMany held (Some given)) c = c
  end_cause Why.AllLost c = c
  end_cause (Why.NameClash kept given) c = c
  end_cause (Why.ReadFault path) c = c
  end_cause Why.WriteFault c = tt
  end_cause Why.Memory c = c
  end_cause (Why.TooLongInput path at) c = c
  end_cause (Why.TooDeepPlain depth) c = c
  end_cause (Why.KeepFault path) c = (c.0, inl c.1, c.3)
  end_cause (Why.BadMemo path at) c = c
  end_cause (Why.BadLog path at) c = c
  end_cause (Why.OtherJob path) c = c
  end_cause (Why.LogFull path held) c = absurd c

-- a text that was put whole, and nothing behind it
pub parts_whole : (b n : Option (List ℕ)) (text : List ℕ) → Tells b n text → TellsParts b n text []
parts_whole b n text t = parts b n n text [] (part_whole b n text t) (0, tells_none n)

-- ---- in which order

-- what was written, or wasn't written whole, has read all
pub written_order : (content : List ℕ → Option (List ℕ)) (f : Option files.Line) (memo resume : Option (List ℕ)) (b n : Option (List (List ℕ))) (why : Why)
    → (why ≡ Why.Done) ⊎ (why ≡ Why.WriteFault) → StopsFor content f memo resume b n why
written_order content f memo resume b n why (inl e) = subst (StopsFor content f memo resume b n) (sym e) tt
written_order content f memo resume b n why (inr e) = subst (StopsFor content f memo resume b n) (sym e) tt

-- where not all was written the answer was, or the output failed
pub first_of : (content : List ℕ → Option (List ℕ)) (words : List (List ℕ)) (line : Words) → line_of words ≡ Some line → (A : Type 0)
    (b n : Option (List ℕ)) → A ⊎ Writes content line (Tells b n) → A ⊎ OverFiles content words (λ h w source inputs. WritesAnswer h w source inputs b n)
first_of content words line e A b n (inl a) = inl a
first_of content words line e A b n (inr x) =
    inr (over_line words line (λ w. OfLine content w (λ h source inputs. WritesAnswer h w source inputs b n)) e (writes content line b n x))

-- ---- the status 0

pub done_at : (why : Why) → status_of why ≡ 0 → why ≡ Why.Done
done_at Why.Done e = refl
done_at Why.Usage e = absurd (omega (arith, e))
done_at (Why.Syntax kind line col) e = absurd (omega (arith, e))
done_at (Why.Fault fault) e = absurd (omega (arith, e))
done_at (Why.Endless names) e = absurd (omega (arith, e))
done_at (Why.TooMany held given) e = absurd (omega (arith, e))
done_at Why.AllLost e = absurd (omega (arith, e))
done_at (Why.NameClash kept given) e = absurd (omega (arith, e))
done_at (Why.ReadFault path) e = absurd (omega (arith, e))
done_at Why.WriteFault e = absurd (omega (arith, e))
done_at Why.Memory e = absurd (omega (arith, e))
done_at (Why.TooLongInput path at) e = absurd (omega (arith, e))
done_at (Why.TooDeepPlain depth) e = absurd (omega (arith, e))
done_at (Why.KeepFault path) e = absurd (omega (arith, e))
done_at (Why.BadLog path at) e = absurd (omega (arith, e))
done_at (Why.OtherJob path) e = absurd (omega (arith, e))
done_at (Why.LogFull path held) e = absurd (omega (arith, e))
done_at (Why.BadMemo path at) e = absurd (omega (arith, e))
