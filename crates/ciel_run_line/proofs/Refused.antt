-- What a line comes to whose log wasn't gone on from.
use Rattle.std.proofs.Common.{◌≡◌, ◌≢◌, ◌⊎◌, ⊎_elim, ℕ, List, [], true, false, ap, inl, inr, Option, Some, None, Result, Ok, Err, IfErr, refl, sym, subst, ◌∙◌}
use Rattle.sky_base.specs.KitView.{Gives}
use Rattle.sky_base.specs.See as s
use Rattle.ciel_journal.specs.Entries.{Entry}
use Rattle.ciel_log_file.specs.Whole.{BeginsOther}
use Rattle.ciel_log_refuses.specs.Refusals.{IsBadAt}
use Rattle.ciel_master.specs.declared.stop.RunEnd.{RunEnd}
use Rattle.ciel_run_line.specs.Answering.{WhyNot, end_view}
use Rattle.ciel_run_line.specs.Asked.{NoRunOf}
use Rattle.ciel_run_line.specs.Causes.{AnswersSo, Way, WaySo}
use Rattle.ciel_run_line.specs.Keeping.{header_of}
use Rattle.ciel_run_line.specs.Resuming.{RefusesLog}
use Rattle.ciel_run_line.specs.Runs.{digest_of, log_path, plan_of}
use Rattle.ciel_run_log.specs.declared.why.Why.{Why}
use Rattle.ciel_run_resumed.specs.declared.run.NotResumed.{NotResumed}
use Rattle.ciel_words.specs.declared.words.Words.{Words}

-- what is so of each end that it may have, by what was said of the log
pub by_why : (path : List ℕ) (P : NotResumed → Why → Type 0) → P NotResumed.OtherJob (Why.OtherJob path)
    → ((at : ℕ) → P (NotResumed.BadLog at) (Why.BadLog path at)) → P NotResumed.Failed (Why.KeepFault path)
    → ((not : NotResumed) → P not Why.Memory) → (not : NotResumed) (why : Why) → WhyNot not path why → P not why
by_why path P other bad failed memory NotResumed.OtherJob why (inl e) = subst (P NotResumed.OtherJob) (sym e) other
by_why path P other bad failed memory NotResumed.OtherJob why (inr e) = subst (P NotResumed.OtherJob) (sym e) (memory NotResumed.OtherJob)
by_why path P other bad failed memory (NotResumed.BadLog at) why (inl e) = subst (P (NotResumed.BadLog at)) (sym e) (bad at)
by_why path P other bad failed memory (NotResumed.BadLog at) why (inr e) = subst (P (NotResumed.BadLog at)) (sym e) (memory (NotResumed.BadLog at))
by_why path P other bad failed memory NotResumed.Failed why (inl e) = subst (P NotResumed.Failed) (sym e) failed
by_why path P other bad failed memory NotResumed.Failed why (inr e) = subst (P NotResumed.Failed) (sym e) (memory NotResumed.Failed)
by_why path P other bad failed memory NotResumed.Memory why e = subst (P NotResumed.Memory) (sym e) (memory NotResumed.Memory)

-- a run is no refusal, and a refusal is the one that it is
module _ {A E : Type 0} (result : Result A E) (one other : E) where
  pub ran_on : (ran : A) → result ≡ Ok ran → (result ≡ Err one) ⊎ (result ≡ Err other) → ⊥
  ran_on ran is (inl e) = let bad : Ok ran ≡ Err one = sym is ∙ e in cc
  ran_on ran is (inr e) = let bad : Ok ran ≡ Err other = sym is ∙ e in cc

  pub which_not : (not : E) → result ≡ Err not → (result ≡ Err one) ⊎ (result ≡ Err other) → (not ≡ one) ⊎ (not ≡ other)
  which_not not is (inl e) = let both : Err not ≡ Err one = sym is ∙ e in let same : not ≡ one = cc in inl same
  which_not not is (inr e) = let both : Err not ≡ Err other = sym is ∙ e in let same : not ≡ other = cc in inr same

-- it may be for want of memory, whatever was said
pub why_memory : (not : NotResumed) (path : List ℕ) → WhyNot not path Why.Memory
why_memory NotResumed.OtherJob path = inr refl
why_memory (NotResumed.BadLog at) path = inr refl
why_memory NotResumed.Failed path = inr refl
why_memory NotResumed.Memory path = refl

module _ (w : Words) (path : List ℕ) (not : NotResumed) (why : Why) (y : WhyNot not path why) where
  -- nothing is said of the job
  pub refused_answers : (g : Gives) (job : s.Job) → AnswersSo g w [] job (Err why)
  refused_answers g job =
      by_why path (λ n e. AnswersSo g w [] job (Err e)) (record { bytes = tt; none = tt; driven = inl refl; root = λ q. tt })
      (λ at. record { bytes = tt; none = tt; driven = inl refl; root = λ q. tt }) (record { bytes = tt; none = tt; driven = inl refl; root = λ q. tt })
      (λ n. record { bytes = tt; none = tt; driven = inl refl; root = λ q. tt }) not why y

  pub refused_ways : w.plain ≡ false → w.resume ≡ Some path → log_path w ≡ Some path → WaySo w [] (Err why)
  refused_ways plain resume named = record {
    way = by_why path (λ n e. Way w [] e) (plain, resume, refl) (λ at. (plain, resume, refl)) (plain, named, refl) (λ n. tt) not why y;
    plain = λ q. refl;
  }

  -- why the log wasn't gone on from
  module _ (g : Gives) (source : List ℕ) (job : s.Job) (log : List ℕ) (other : not ≡ NotResumed.OtherJob → BeginsOther log (header_of w source job.inputs))
      (bad : (at : ℕ) → not ≡ NotResumed.BadLog at
      → IsBadAt (digest_of w.names) job g (plan_of w) (header_of w source job.inputs) log at) where
    pub refused_cause : RefusesLog g w source job (Some log) why
    refused_cause =
        by_why path (λ n e. n ≡ not → RefusesLog g w source job (Some log) e)
        (λ is bytes same. subst (λ (b : List ℕ). BeginsOther b (header_of w source job.inputs)) (some_same log bytes same) (other (sym is)))
        (λ at is bytes same. subst (λ (b : List ℕ). IsBadAt (digest_of w.names) job g (plan_of w) (header_of w source job.inputs) b at)
        (some_same log bytes same) (bad at (sym is)))
        (λ is. tt) (λ n is. tt) not why y refl
      where
        some_same : (a b : List ℕ) → Some a ≡ Some b → a ≡ b
        some_same a b e = cc

  -- a log of another job is told as such, but for want of memory
  pub refused_other : (not ≡ NotResumed.OtherJob) ⊎ (not ≡ NotResumed.Memory) → (why ≡ Why.OtherJob path) ⊎ (why ≡ Why.Memory)
  refused_other (inl is) = subst (λ (n : NotResumed). WhyNot n path why) is y
  refused_other (inr is) = inr (subst (λ (n : NotResumed). WhyNot n path why) is y)

  pub other_ended : (r : Result (List ℕ) Why) → r ≡ Err why → (not ≡ NotResumed.OtherJob) ⊎ (not ≡ NotResumed.Memory)
      → (r ≡ Err (Why.OtherJob path)) ⊎ (r ≡ Err Why.Memory)
  other_ended r e x =
      ⊎_elim (λ o. inl (e ∙ ap (λ (z : Why). Err z) o)) (λ m. inr (e ∙ ap (λ (z : Why). Err z) m)) (refused_other x)

  -- but for want of memory no gate was touched
  memory_is : not ≡ NotResumed.Memory → why ≡ Why.Memory
  memory_is m = subst (λ (n : NotResumed). WhyNot n path why) m y

  pub refused_some : (r : Result (List ℕ) Why) → r ≡ Err why → r ≢ Err Why.Memory → not ≢ NotResumed.Memory
  refused_some r e n m = n (e ∙ ap (λ (x : Why). Err x) (memory_is m))

  pub refused_none : (r : Result (List ℕ) Why) → r ≡ Err why → NoRunOf false r → not ≢ NotResumed.Memory
  refused_none r e n m = no_both (subst (NoRunOf false) (e ∙ ap (λ (x : Why). Err x) (memory_is m)) n)
    where
      no_both : false ≡ true → ⊥
      no_both q = cc

-- of the end of a run nothing is said of the log
pub end_refuses : (g : Gives) (w : Words) (source : List ℕ) (job : s.Job) (log : Option (List ℕ)) (end : RunEnd) → IfErr (end_view end) (RefusesLog g w source job log)
end_refuses g w source job log (RunEnd.Answer text) = tt
end_refuses g w source job log (RunEnd.Fault fault) = tt
end_refuses g w source job log (RunEnd.Endless names) = tt
end_refuses g w source job log (RunEnd.TooMany held given) = tt
end_refuses g w source job log RunEnd.AllLost = tt
end_refuses g w source job log (RunEnd.NameClash kept given) = tt
end_refuses g w source job log RunEnd.Memory = tt

-- nor is any of a line that goes on from none
module _ (g : Gives) (w : Words) (J : List Entry) (alone : w.resume ≡ None) (source : List ℕ) (job : s.Job) (log : Option (List ℕ)) where
  none_named : (path : List ℕ) → w.resume ≡ Some path → ⊥
  none_named path e = let bad : None ≡ Some path = sym alone ∙ e in cc

  alone_why : (why : Why) → Way w J why → RefusesLog g w source job log why
  alone_why (Why.BadLog path at) v = absurd (none_named path v.1)
  alone_why (Why.OtherJob path) v = absurd (none_named path v.1)
  alone_why (Why.BadMemo path at) v = tt
  alone_why Why.Done v = tt
  alone_why Why.Usage v = tt
  alone_why (Why.Syntax kind line col) v = tt
  alone_why (Why.Fault fault) v = tt
  alone_why (Why.Endless names) v = tt
  alone_why (Why.TooMany held given) v = tt
  alone_why Why.AllLost v = tt
  alone_why (Why.NameClash kept given) v = tt
  alone_why (Why.ReadFault path) v = tt
  alone_why Why.WriteFault v = tt
  alone_why Why.Memory v = tt
  alone_why (Why.TooLongInput path at) v = tt
  alone_why (Why.TooDeepPlain depth) v = tt
  alone_why (Why.KeepFault path) v = tt
  alone_why (Why.LogFull path held) v = tt

  pub alone_refuses : (r : Result (List ℕ) Why) → WaySo w J r → IfErr r (RefusesLog g w source job log)
  alone_refuses (Ok b) x = tt
  alone_refuses (Err why) x = alone_why why x.way
