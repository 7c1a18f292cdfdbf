-- What a job comes to, by the sequential interpreter or on the engine, is what is said of a job that ran.
use Rattle.std.proofs.Common.{◌≡◌, ◌<◌, ◌≤◌, ◌^◌, ℕ, List, [], true, false, inl, inr, Option, Some, None, Result, Ok, Err, IfErr, IfOk, length, refl}
use Rattle.std.proofs.Common.{sym, ap, subst, ◌∙◌, arith}
use Rattle.sky_base.specs.KitView.{Gives}
use Rattle.sky_base.specs.See as s
use Rattle.sky_base.specs.See.{Answered}
use Rattle.ciel_run_logged.specs.Onward.{IsRead}
use Rattle.ciel_run_logged.specs.Ended.{EndsSo}
use Rattle.ciel_journal.specs.Entries.{Entry}
use Rattle.ciel_run_load.specs.Loading.{IsReadJob}
use Rattle.ciel_master.specs.declared.stop.RunEnd.{RunEnd}
use Rattle.ciel_task_order.specs.Shop.{InputsInOrder}
use Rattle.ciel_words.specs.declared.words.Words.{Words}
use Rattle.ciel_run_line.specs.Answering.{CanRunJob, PlainCause, end_view}
use Rattle.ciel_run_line.specs.Causes.{AnswersSo, JobCause, Way, WaySo}
use Rattle.ciel_run_line.specs.Runs.{digest_of, log_path, plan_of}
use Rattle.ciel_run_line.specs.Source.{around}
use Rattle.ciel_run_log.specs.declared.why.Why.{Why}

module _ (g : Gives) (w : Words) (job : s.Job) where
  plain_cause : w.plain ≡ true → (why : Why) → PlainCause g job why → JobCause g w [] job why
  plain_cause p (Why.Fault fault) c = c
  plain_cause p (Why.TooMany held None) c = (p, c.0, c.1)
  plain_cause p (Why.TooMany held (Some given)) c = absurd c
  plain_cause p (Why.TooDeepPlain depth) c = (p, c.0, c.1)
  plain_cause p Why.Memory c = tt
  plain_cause p Why.Done c = absurd c
  plain_cause p Why.Usage c = absurd c
  plain_cause p (Why.Syntax kind line col) c = absurd c
  plain_cause p (Why.Endless names) c = absurd c
  plain_cause p Why.AllLost c = absurd c
  plain_cause p (Why.NameClash kept given) c = absurd c
  plain_cause p (Why.ReadFault path) c = absurd c
  plain_cause p Why.WriteFault c = absurd c
  plain_cause p (Why.TooLongInput path at) c = absurd c
  plain_cause p (Why.KeepFault path) c = absurd c
  plain_cause p (Why.BadLog path at) c = absurd c
  plain_cause p (Why.BadMemo path at) c = absurd c
  plain_cause p (Why.OtherJob path) c = absurd c
  plain_cause p (Why.LogFull path held) c = absurd c

  -- by the sequential interpreter
  pub plain_answers : w.plain ≡ true → (r : Result (List ℕ) Why) → IfOk r (λ b. s.Means job (around g) (Answered.bytes b)) → IfErr r (PlainCause g job)
      → AnswersSo g w [] job r
  plain_answers p (Ok b) m c = record {
    bytes = m;
    none = tt;
    driven = inl refl;
    root = λ e. absurd cc;
  }
  plain_answers p (Err why) m c = record {
    bytes = tt;
    none = plain_cause p why c;
    driven = inl refl;
    root = λ e. absurd cc;
  }

  -- where no run began, for want of memory
  pub memory_answers : AnswersSo g w [] job (Err Why.Memory)
  memory_answers = record {
    bytes = tt;
    none = tt;
    driven = inl refl;
    root = λ e. tt;
  }

  -- where the log couldn't be begun
  pub unbegun_answers : (path : List ℕ) → AnswersSo g w [] job (Err (Why.KeepFault path))
  unbegun_answers path = record {
    bytes = tt;
    none = tt;
    driven = inl refl;
    root = λ q. tt;
  }

  module _ (J : List Entry) (p : w.plain ≡ false) where
    -- on the engine
    pub run_answers : (end : RunEnd) → EndsSo (digest_of w.names) job g (plan_of w) J end → AnswersSo g w J job (end_view end)
    run_answers (RunEnd.Answer text) e = record {
      bytes = e.cause.0;
      none = tt;
      driven = inr e.driven;
      root = λ q. (e.cause.1.history, e.cause.1.driven, e.cause.1.journal, e.cause.1.done);
    }
    run_answers (RunEnd.Fault fault) e = record {
      bytes = tt;
      none = e.cause.0;
      driven = inr e.driven;
      root = λ q. (e.cause.1.history, e.cause.1.driven, e.cause.1.journal, e.cause.1.done);
    }
    run_answers (RunEnd.Endless names) e = record {
      bytes = tt;
      none = (p, e.cause.0, e.cause.1, e.cause.2);
      driven = inr e.driven;
      root = λ q. tt;
    }
    run_answers (RunEnd.TooMany held given) e = record {
      bytes = tt;
      none = (p, e.cause.2.full, (e.cause.0, sym e.cause.1, e.cause.2));
      driven = inr e.driven;
      root = λ q. tt;
    }
    run_answers RunEnd.AllLost e = record {
      bytes = tt;
      none = (p, e.cause);
      driven = inr e.driven;
      root = λ q. tt;
    }
    run_answers (RunEnd.NameClash kept given) e = record {
      bytes = tt;
      none = (p, e.cause);
      driven = inr e.driven;
      root = λ q. tt;
    }
    run_answers RunEnd.Memory e = record {
      bytes = tt;
      none = tt;
      driven = inr e.driven;
      root = λ q. tt;
    }

-- ---- by which way

module _ (w : Words) where
  plain_way : (g : Gives) (job : s.Job) → w.plain ≡ true → (why : Why) → PlainCause g job why → Way w [] why
  plain_way g job p (Why.Fault fault) c = tt
  plain_way g job p (Why.TooMany held None) c = p
  plain_way g job p (Why.TooMany held (Some given)) c = absurd c
  plain_way g job p (Why.TooDeepPlain depth) c = p
  plain_way g job p Why.Memory c = tt
  plain_way g job p Why.Done c = absurd c
  plain_way g job p Why.Usage c = absurd c
  plain_way g job p (Why.Syntax kind line col) c = absurd c
  plain_way g job p (Why.Endless names) c = absurd c
  plain_way g job p Why.AllLost c = absurd c
  plain_way g job p (Why.NameClash kept given) c = absurd c
  plain_way g job p (Why.ReadFault path) c = absurd c
  plain_way g job p Why.WriteFault c = absurd c
  plain_way g job p (Why.TooLongInput path at) c = absurd c
  plain_way g job p (Why.KeepFault path) c = absurd c
  plain_way g job p (Why.BadLog path at) c = absurd c
  plain_way g job p (Why.BadMemo path at) c = absurd c
  plain_way g job p (Why.OtherJob path) c = absurd c
  plain_way g job p (Why.LogFull path held) c = absurd c

  pub plain_ways : (g : Gives) (job : s.Job) → w.plain ≡ true → (r : Result (List ℕ) Why) → IfErr r (PlainCause g job) → WaySo w [] r
  plain_ways g job p (Ok b) c = record { way = tt; plain = λ e. refl }
  plain_ways g job p (Err why) c = record { way = plain_way g job p why c; plain = λ e. refl }

  pub memory_ways : WaySo w [] (Err Why.Memory)
  memory_ways = record { way = tt; plain = λ e. refl }

  pub unbegun_ways : (path : List ℕ) → w.plain ≡ false → log_path w ≡ Some path → WaySo w [] (Err (Why.KeepFault path))
  unbegun_ways path p e = record { way = (p, e, refl); plain = λ q. refl }

  module _ (J : List Entry) (p : w.plain ≡ false) where
    end_way : (end : RunEnd) → IfErr (end_view end) (Way w J)
    end_way (RunEnd.Answer text) = tt
    end_way (RunEnd.Fault fault) = tt
    end_way (RunEnd.Endless names) = p
    end_way (RunEnd.TooMany held given) = p
    end_way RunEnd.AllLost = p
    end_way (RunEnd.NameClash kept given) = p
    end_way RunEnd.Memory = tt

    pub run_ways : (end : RunEnd) → WaySo w J (end_view end)
    run_ways end = record { way = end_way end; plain = λ q. let bad : false ≡ true = sym p ∙ q in absurd (no_both bad) }
      where
        no_both : false ≡ true → ⊥
        no_both e = cc

-- ---- a job that was read can be run

pub can_read : (job : s.Job) → CanRunJob job → IsRead job.script
can_read job c =
    let w = c.2.within in
    (c.1, c.0, c.2.is, omega (arith, w))

pub can_inputs : (job : s.Job) → CanRunJob job → InputsInOrder job
can_inputs job c = c.2.named ∙ sym (ap (λ sc. sc.keys) c.2.is.4)

pub can_keys : (job : s.Job) → CanRunJob job → length job.script.keys < 2 ^ 32
can_keys job c =
    let e = ap (λ sc. length sc.keys) c.2.is.4 in
    subst (λ n. n < 2 ^ 32) (sym e) c.3
