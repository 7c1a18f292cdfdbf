-- From what a job comes to what the line comes to whose job it is.
use Rattle.std.proofs.Common.{◌≡◌, ◌≢◌, ◌++◌, ℕ, List, [], ◌⊎◌, inl, inr, true, false, Option, Some, None, Result, Ok, Err, IfErr, IfOk, refl, sym, ap, subst, ◌∙◌}
use Rattle.sky_base.specs.KitView.{Gives}
use Rattle.sky_base.specs.See as s
use Rattle.sky_base.specs.See.{Answered}
use Rattle.ciel_io.specs.Tells.{Tells}
use Rattle.ciel_journal.specs.Entries.{Entry}
use Rattle.ciel_journal.specs.Journals.{DrivenJournal}
use Rattle.ciel_run_load.specs.Line as files
use Rattle.ciel_run_load.specs.Line.{Input}
use Rattle.ciel_run_load.specs.Loading.{IsOf}
use Rattle.ciel_words.specs.declared.words.Words.{Words}
use Rattle.ciel_run_line.specs.Causes.{AnswersSo, CauseOf, HasBadRecord, HasOtherHeader, JobCause, OfRun, OtherEnds, Way, WaySo}
use Rattle.ciel_run_line.specs.Asked.{AsksFor, AsksOf, NoRun, NoRunOf, ShowsResult, StopsFor}
use Rattle.ciel_run_line.specs.Given.{GivesOf}
use Rattle.ciel_run_line.specs.Line.{FitsIn, OfJobFiles, OfLine, Stands, StandsIn, Surely, SurelyAt, files_of, paths_in}
use Rattle.ciel_run_line.specs.Resuming.{IsBadRecord, RefusesLog}
use Rattle.ciel_run_line.specs.Runs.{EndsShown, IsDriven, RootEnds, digest_of, plan_of, told_of}
use Rattle.ciel_run_line.specs.Source.{OfJob, job_of, around}
use Rattle.ciel_run_log.specs.declared.why.Why.{Why}
use Rattle.ciel_log_file.specs.Whole.{BeginsOther}
use Rattle.ciel_log_refuses.specs.Refusals.{IsBadAt}
use Rattle.ciel_run_line.specs.Keeping.{header_of}
use Rattle.ciel_io.proofs.Joined.{part_whole}
use Rattle.ciel_run_line.proofs.Written.{bad_record}
use Rattle.ciel_words.specs.Sound.{LineIsSound}

abbrev Files : Type 0
Files = List ℕ → Option (List ℕ)

-- what is so of the job of a script over inputs is so of what the bytes mean
pub of_job : (source : List ℕ) (inputs : List Input) (job : s.Job) (P : s.Job → Type 0) → IsOf source inputs job → P job → OfJob source inputs P
of_job source inputs job P o p = (job.script, o.0, subst (λ (is : List Input). P (job_of job.script is)) o.1 p)

-- ---- facts that need the log's premise, where the run goes on from one

module _ (content : Files) (w : Words) where
  pub surely_of : (P : Type 0) → (w.resume ≡ None → P) → OfLine content w (λ g source inputs. P) → Surely content w P
  surely_of P alone onward = at w.resume refl
    where
      at : (o : Option (List ℕ)) → w.resume ≡ o → SurelyAt o P (OfLine content w (λ g source inputs. P))
      at None e = alone e
      at (Some path) e = onward

  pub surely_line : (P : Type 0) → Surely content w P → OfLine content w (λ g source inputs. P)
  surely_line P p = at w.resume p
    where
      at : (o : Option (List ℕ)) → SurelyAt o P (OfLine content w (λ g source inputs. P)) → OfLine content w (λ g source inputs. P)
      at None q = λ g given source inputs st. q
      at (Some path) q = q

  pub surely_map : (P Q : Type 0) → (P → Q) → Surely content w P → Surely content w Q
  surely_map P Q f p = at w.resume p
    where
      at : (o : Option (List ℕ)) → SurelyAt o P (OfLine content w (λ g source inputs. P)) → SurelyAt o Q (OfLine content w (λ g source inputs. Q))
      at None q = f q
      at (Some path) q = λ g given source inputs st. f (q g given source inputs st)

-- `g` is what the executors of the line give
module _ (g : Gives) (content : Files) (w : Words) (same : (h : Gives) → GivesOf content w h → h ≡ g) (risen : Type 0) (J : List Entry) (read : List ℕ)
    (job : s.Job) where
  abbrev IsTheJob : Type 0
  IsTheJob = OfJobFiles content w (λ source inputs. FitsIn (files_of w) source inputs × IsOf source inputs job × (read ≡ source))

  abbrev Sure : Type 0 → Type 0
  Sure P = Surely content w P

  pub of_run : (P : Gives → s.Job → Type 0) → IsTheJob → Sure (P g job) → OfRun content w risen J P
  of_run P t p = λ h given source inputs st. (
    (t source inputs st.there).0,
    of_job source inputs job (P h) (t source inputs st.there).1
        (subst (λ (k : Gives). P k job) (sym (same h given)) (surely_line content w (P g job) p h given source inputs st)),
  )

  -- that the job was read
  of_any : IsTheJob → OfRun content w risen J (λ h j. Unit {0})
  of_any t = λ h given source inputs st. (
    (t source inputs st.there).0,
    of_job source inputs job (λ j. Unit {0}) (t source inputs st.there).1 tt,
  )

  -- ---- causes

  abbrev Refused : Why → Type 0
  Refused (Why.BadLog path at) = w.resume ≡ Some path → HasBadRecord content w path at
  Refused (Why.OtherJob path) = w.resume ≡ Some path → HasOtherHeader content w path
  Refused _ = Unit {0}

  cause : IsTheJob → (why : Why) → Way w J why → Sure (JobCause g w J job why) → Refused why → CauseOf content w risen J why
  cause t (Why.Fault fault) v c r = of_run (λ h j. JobCause h w J j (Why.Fault fault)) t c
  cause t (Why.Endless names) v c r = (v, surely_map content w _ _ (λ x. x.3) c, of_run (λ h j. JobCause h w J j (Why.Endless names)) t c)
  cause t (Why.TooMany held None) v c r = (v, of_run (λ h j. JobCause h w J j (Why.TooMany held None)) t c)
  cause t (Why.TooMany held (Some given)) v c r = (v, of_run (λ h j. JobCause h w J j (Why.TooMany held (Some given))) t c)
  cause t Why.AllLost v c r = (v, surely_map content w _ _ (λ x. x.1) c, of_any t)
  cause t (Why.NameClash kept given) v c r = (v, of_run (λ h j. JobCause h w J j (Why.NameClash kept given)) t c)
  cause t (Why.TooDeepPlain depth) v c r = (v, of_run (λ h j. JobCause h w J j (Why.TooDeepPlain depth)) t c)
  cause t Why.Memory v c r = tt
  cause t Why.Done v c r = absurd v
  cause t Why.Usage v c r = absurd v
  cause t (Why.Syntax kind line col) v c r = absurd v
  cause t (Why.ReadFault path) v c r = absurd v
  cause t Why.WriteFault v c r = absurd v
  cause t (Why.TooLongInput path at) v c r = absurd v
  cause t (Why.KeepFault path) v c r = (v.0, v.1, v.2, of_any t)
  cause t (Why.BadLog path at) v c r = (v.0, v.1, v.2, r v.1)
  cause t (Why.OtherJob path) v c r = (v.0, v.1, v.2, r v.1)
  cause t (Why.LogFull path held) v c r = absurd v
  cause t (Why.BadMemo path at) v c r = absurd v

  -- what was refused of the log that was read is so of the file
  module _ (log : Option (List ℕ)) (some : (path bytes : List ℕ) → w.resume ≡ Some path → content path ≡ Some bytes → log ≡ Some bytes) where
    refused : LineIsSound w → IsTheJob → (why : Why) → RefusesLog g w read job log why → Refused why
    refused sound t (Why.BadLog path at) f = λ e h given source inputs st. (
      (t source inputs st).0,
      of_job source inputs job (λ j. (bytes : List ℕ) → content path ≡ Some bytes
          → IsBadRecord h w source inputs j bytes at) (t source inputs st).1
          (λ bytes there. bad_record content w sound h source inputs st (t source inputs st).0 job (t source inputs st).1.0 bytes at
          (subst (λ (k : Gives). IsBadAt (digest_of w.names) job k (plan_of w) (header_of w source inputs) bytes at)
          (sym (same h given))
          (subst (λ (x : List ℕ × List Input). IsBadAt (digest_of w.names) job g (plan_of w) (header_of w x.0 x.1) bytes at)
          (λ i. ((t source inputs st).2 i, (t source inputs st).1.1 i)) (f bytes (some path bytes e there))))),
    )
    refused sound t (Why.OtherJob path) f = λ e source inputs st. (
      (t source inputs st).0,
      of_job source inputs job (λ j. (bytes : List ℕ) → content path ≡ Some bytes → BeginsOther bytes (header_of w source inputs))
          (t source inputs st).1
          (λ bytes there. subst (λ (x : List ℕ × List Input). BeginsOther bytes (header_of w x.0 x.1))
          (λ i. ((t source inputs st).2 i, (t source inputs st).1.1 i)) (f bytes (some path bytes e there))),
    )
    refused sound t Why.Done f = tt
    refused sound t Why.Usage f = tt
    refused sound t (Why.Syntax kind line col) f = tt
    refused sound t (Why.Fault fault) f = tt
    refused sound t (Why.Endless names) f = tt
    refused sound t (Why.TooMany held given) f = tt
    refused sound t Why.AllLost f = tt
    refused sound t (Why.NameClash kept given) f = tt
    refused sound t (Why.ReadFault path) f = tt
    refused sound t Why.WriteFault f = tt
    refused sound t Why.Memory f = tt
    refused sound t (Why.TooLongInput path at) f = tt
    refused sound t (Why.TooDeepPlain depth) f = tt
    refused sound t (Why.KeepFault path) f = tt
    refused sound t (Why.LogFull path held) f = tt
    refused sound t (Why.BadMemo path at) f = tt

    pub causes : LineIsSound w → IsTheJob → (r : Result (List ℕ) Why) → WaySo w J r → Sure (AnswersSo g w J job r) → IfErr r (RefusesLog g w read job log)
        → IfErr r (CauseOf content w risen J)
    causes sound t (Ok b) v a f = tt
    causes sound t (Err why) v a f = cause t why v.way (surely_map content w _ _ (λ x. x.none) a) (refused sound t why f)

  pub bytes : IsTheJob → (r : Result (List ℕ) Why) → Sure (AnswersSo g w J job r)
      → IfOk r (λ b. OfRun content w risen J (λ h j. s.Means j (around h) (Answered.bytes b)))
  bytes t (Ok b) a = of_run (λ h j. s.Means j (around h) (Answered.bytes b)) t (surely_map content w _ _ (λ x. x.bytes) a)
  bytes t (Err why) a = tt

  -- ---- the journal

  driven_at : (source : List ℕ) (inputs : List Input) → IsOf source inputs job → (J ≡ []) ⊎ DrivenJournal (told_of g w job) (plan_of w) J
      → IsDriven g w source inputs J
  driven_at source inputs o (inl e) = inl e
  driven_at source inputs o (inr d) = inr (of_job source inputs job (λ j. DrivenJournal (told_of g w j) (plan_of w) J) o d)

  pub driven : IsTheJob → (r : Result (List ℕ) Why) → Sure (AnswersSo g w J job r) → OfLine content w (λ h source inputs. IsDriven h w source inputs J)
  driven t r a = λ h given source inputs st.
      subst (λ (k : Gives). IsDriven k w source inputs J) (sym (same h given))
      (driven_at source inputs (t source inputs st.there).1 (surely_line content w _ a h given source inputs st).driven)

  root_of : IsTheJob → OfLine content w (λ h source inputs. RootEnds g w J job) → OfLine content w (λ h source inputs. EndsShown h w source inputs J)
  root_of t x = λ h given source inputs st.
      subst (λ (k : Gives). EndsShown k w source inputs J) (sym (same h given))
      (of_job source inputs job (RootEnds g w J) (t source inputs st.there).1 (x h given source inputs st))

  pub root : IsTheJob → (r : Result (List ℕ) Why) → WaySo w J r → Sure (AnswersSo g w J job r) → w.plain ≡ false → ShowsResult r
      → OfLine content w (λ h source inputs. EndsShown h w source inputs J)
  root t (Ok b) v a p x = root_of t (λ h given source inputs st. (surely_line content w _ a h given source inputs st).root p)
  root t (Err (Why.Fault fault)) v a p x = root_of t (λ h given source inputs st. (surely_line content w _ a h given source inputs st).root p)
  root t (Err Why.Done) v a p x = absurd v.way
  root t (Err Why.WriteFault) v a p x = absurd v.way
  root t (Err Why.Usage) v a p x = absurd x
  root t (Err (Why.Syntax kind line col)) v a p x = absurd x
  root t (Err (Why.Endless names)) v a p x = absurd x
  root t (Err (Why.TooMany held given)) v a p x = absurd x
  root t (Err Why.AllLost) v a p x = absurd x
  root t (Err (Why.NameClash kept given)) v a p x = absurd x
  root t (Err (Why.ReadFault path)) v a p x = absurd x
  root t (Err Why.Memory) v a p x = absurd x
  root t (Err (Why.TooLongInput path at)) v a p x = absurd x
  root t (Err (Why.TooDeepPlain depth)) v a p x = absurd x
  root t (Err (Why.KeepFault path)) v a p x = absurd x
  root t (Err (Why.BadLog path at)) v a p x = absurd x
  root t (Err (Why.OtherJob path)) v a p x = absurd x
  root t (Err (Why.LogFull path held)) v a p x = absurd v.way
  root t (Err (Why.BadMemo path at)) v a p x = absurd x

  -- ---- the log

  -- what the log's file tells of the run of this job
  pub logged : (P : Gives → List ℕ → List Input → Type 0) → IsTheJob
      → OfLine content w (λ h source inputs. (is : List Input) → IsOf read is job → P g read is) → OfLine content w P
  logged P t told = λ h given source inputs st.
      let here = t source inputs st.there in
      subst (λ (k : Gives). P k source inputs) (sym (same h given))
      (subst (λ (bytes : List ℕ). P g bytes inputs) here.2
      (told h given source inputs st inputs (subst (λ (bytes : List ℕ). IsOf bytes inputs job) (sym here.2) here.1)))

-- where no run on the engine began, the line asks for the sequential interpreter; or its log couldn't be begun, or gone on from
pub no_run : (w : Words) (J : List Entry) (r : Result (List ℕ) Why) → WaySo w J r → NoRunOf w.plain r → J ≡ []
no_run w J (Ok b) a n = a.plain n
no_run w J (Err Why.Done) a n = a.plain n
no_run w J (Err Why.Usage) a n = absurd a.way
no_run w J (Err (Why.Syntax kind line col)) a n = absurd a.way
no_run w J (Err (Why.Fault fault)) a n = a.plain n
no_run w J (Err (Why.Endless names)) a n = a.plain n
no_run w J (Err (Why.TooMany held given)) a n = a.plain n
no_run w J (Err Why.AllLost) a n = a.plain n
no_run w J (Err (Why.NameClash kept given)) a n = a.plain n
no_run w J (Err (Why.ReadFault path)) a n = absurd a.way
no_run w J (Err Why.WriteFault) a n = a.plain n
no_run w J (Err Why.Memory) a n = a.plain n
no_run w J (Err (Why.TooLongInput path at)) a n = absurd a.way
no_run w J (Err (Why.TooDeepPlain depth)) a n = a.plain a.way
no_run w J (Err (Why.KeepFault path)) a n = a.way.2
no_run w J (Err (Why.BadLog path at)) a n = a.way.2
no_run w J (Err (Why.OtherJob path)) a n = a.way.2
no_run w J (Err (Why.LogFull path held)) a n = absurd a.way
no_run w J (Err (Why.BadMemo path at)) a n = absurd a.way

-- ---- which paths were asked

pub job_asks : (w : Words) (J : List Entry) (r : Result (List ℕ) Why) (ps others : List (List ℕ)) (b n : Option (List (List ℕ)))
    → WaySo w J r → Tells b n (ps ++ others) → AsksOf r ps others b n
job_asks w J (Ok x) ps others b n a t = t
job_asks w J (Err Why.Memory) ps others b n a t = part_whole b n (ps ++ others) t
job_asks w J (Err (Why.Syntax kind line col)) ps others b n a t = absurd a.way
job_asks w J (Err (Why.ReadFault path)) ps others b n a t = absurd a.way
job_asks w J (Err (Why.TooLongInput path at)) ps others b n a t = absurd a.way
job_asks w J (Err (Why.BadMemo path at)) ps others b n a t = absurd a.way
job_asks w J (Err Why.Done) ps others b n a t = t
job_asks w J (Err Why.Usage) ps others b n a t = t
job_asks w J (Err (Why.Fault fault)) ps others b n a t = t
job_asks w J (Err (Why.Endless names)) ps others b n a t = t
job_asks w J (Err (Why.TooMany held given)) ps others b n a t = t
job_asks w J (Err Why.AllLost) ps others b n a t = t
job_asks w J (Err (Why.NameClash kept given)) ps others b n a t = t
job_asks w J (Err Why.WriteFault) ps others b n a t = t
job_asks w J (Err (Why.TooDeepPlain depth)) ps others b n a t = t
job_asks w J (Err (Why.KeepFault path)) ps others b n a t = t
job_asks w J (Err (Why.BadLog path at)) ps others b n a t = t
job_asks w J (Err (Why.OtherJob path)) ps others b n a t = t
job_asks w J (Err (Why.LogFull path held)) ps others b n a t = t

-- a job that was read has no file that wasn't
pub job_order : (content : Files) (w : Words) (J : List Entry) (r : Result (List ℕ) Why) (f : Option files.Line) (memo resume : Option (List ℕ))
    (b n : Option (List (List ℕ))) → WaySo w J r → IfErr r (StopsFor content f memo resume b n)
job_order content w J (Ok x) f memo resume b n a = tt
job_order content w J (Err Why.Memory) f memo resume b n a = tt
job_order content w J (Err (Why.Syntax kind line col)) f memo resume b n a = tt
job_order content w J (Err (Why.ReadFault path)) f memo resume b n a = absurd a.way
job_order content w J (Err (Why.TooLongInput path at)) f memo resume b n a = absurd a.way
job_order content w J (Err Why.Done) f memo resume b n a = tt
job_order content w J (Err Why.Usage) f memo resume b n a = tt
job_order content w J (Err (Why.Fault fault)) f memo resume b n a = tt
job_order content w J (Err (Why.Endless names)) f memo resume b n a = tt
job_order content w J (Err (Why.TooMany held given)) f memo resume b n a = tt
job_order content w J (Err Why.AllLost) f memo resume b n a = tt
job_order content w J (Err (Why.NameClash kept given)) f memo resume b n a = tt
job_order content w J (Err Why.WriteFault) f memo resume b n a = tt
job_order content w J (Err (Why.TooDeepPlain depth)) f memo resume b n a = tt
job_order content w J (Err (Why.KeepFault path)) f memo resume b n a = tt
job_order content w J (Err (Why.BadLog path at)) f memo resume b n a = tt
job_order content w J (Err (Why.OtherJob path)) f memo resume b n a = tt
job_order content w J (Err (Why.LogFull path held)) f memo resume b n a = tt
job_order content w J (Err (Why.BadMemo path at)) f memo resume b n a = absurd a.way

-- ---- a log of another job

pub other_ends : (content : Files) (w : Words) (risen : Type 0) (path : List ℕ) (r : Result (List ℕ) Why)
    → (r ≡ Err (Why.OtherJob path)) ⊎ (r ≡ Err Why.Memory) → OtherEnds content w risen [] r path
other_ends content w risen path r (inl e) = inl e
other_ends content w risen path r (inr e) = inr (Why.Memory, e, tt)
