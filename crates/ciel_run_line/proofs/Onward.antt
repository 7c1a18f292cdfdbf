-- A line that goes on from a log, and what comes of the run that does.
use Rattle.std.proofs.Common.{◌≡◌, ◌≢◌, ◌∙◌, ◌⊎◌, inl, inr, ℕ, List, [], true, false, Option, Some, None, Result, Err, refl, sym, ap, subst}
use Rattle.std.proofs.lemmas.List.{append-nil}
use Rattle.sky_base.specs.KitView.{Gives}
use Rattle.sky_base.specs.See as s
use Rattle.sky_base.specs.declared.object.TaskId.{TaskId}
use Rattle.ciel_journal.specs.Entries.{Entry}
use Rattle.ciel_journal.specs.History.{Plan}
use Rattle.ciel_log_file.specs.Whole.{BeginsOther}
use Rattle.ciel_log_follows.specs.Begins.{BeginsLog}
use Rattle.ciel_log_refuses.specs.Refusals.{IsBadAt}
use Rattle.ciel_master.specs.declared.stop.RunEnd.{RunEnd}
use Rattle.ciel_run_line.specs.Answering.{end_view}
use Rattle.ciel_run_line.specs.Asked.{NoRunOf}
use Rattle.ciel_run_line.specs.Line.{SurelyAt}
use Rattle.ciel_run_line.specs.Keeping.{header_of}
use Rattle.ciel_run_line.specs.Resuming.{OnwardTold, OwnIfRead, ReplaysLog}
use Rattle.ciel_run_line.specs.Runs.{digest_of, log_at, log_path, plan_of}
use Rattle.ciel_run_log.specs.declared.why.Why.{Why}
use Rattle.ciel_run_logged.specs.Told.{ToldBy}
use Rattle.ciel_run_onward.specs.Gates.{ToldSince}
use Rattle.ciel_run_drive.specs.Told.{ToldOf}
use Rattle.ciel_task_crew.specs.Crews.{told_at}
use Rattle.ciel_run_resumed.specs.Resuming.{Replays}
use Rattle.ciel_words.specs.Sound.{LineIsSound}
use Rattle.ciel_words.specs.declared.words.Words.{Words}

none_some : (path : List ℕ) → Some path ≡ None → ⊥
none_some path e = cc

pub no_path : (o : Option (List ℕ)) (path : List ℕ) → o ≡ None → o ≡ Some path → ⊥
no_path o path n e = none_some path (sym e ∙ n)

-- ---- the line

module _ (w : Words) (sound : LineIsSound w) where
  -- its log is the one that it goes on from
  pub resumed_named : (path : List ℕ) → w.resume ≡ Some path → log_path w ≡ Some path
  resumed_named path e = subst (λ (o : Option (List ℕ)). log_at o w.resume ≡ Some path) (sym (sound.resumed path e).1) e

  -- one that begins a log, or is sequential, goes on from none
  pub logged_alone : (path : List ℕ) → w.log ≡ Some path → w.resume ≡ None
  logged_alone path e = at w.resume refl
    where
      at : (o : Option (List ℕ)) → w.resume ≡ o → w.resume ≡ None
      at None q = q
      at (Some p) q = absurd (none_some path (sym e ∙ (sound.resumed p q).1))

  pub plain_alone : w.plain ≡ true → w.resume ≡ None
  plain_alone e = at w.resume refl
    where
      clash : w.plain ≡ false → ⊥
      clash q = let bad : false ≡ true = sym q ∙ e in cc

      at : (o : Option (List ℕ)) → w.resume ≡ o → w.resume ≡ None
      at None q = q
      at (Some p) q = absurd (clash (sound.resumed p q).0)

  -- one that neither begins a log nor goes on from one has none
  pub unlogged : w.log ≡ None → w.resume ≡ None → log_path w ≡ None
  unlogged l r = subst (λ (o : Option (List ℕ)). log_at o w.resume ≡ None) (sym l) r

pub surely_alone : (resume : Option (List ℕ)) (A B : Type 0) → resume ≡ None → A → SurelyAt resume A B
surely_alone resume A B e a = subst (λ (o : Option (List ℕ)). SurelyAt o A B) (sym e) a

pub surely_onward : (resume : Option (List ℕ)) (A B : Type 0) (path : List ℕ) → resume ≡ Some path → B → SurelyAt resume A B
surely_onward resume A B path e b = subst (λ (o : Option (List ℕ)). SurelyAt o A B) (sym e) b

-- ---- the end of a run

-- a run on the engine began
pub end_ran : (end : RunEnd) → NoRunOf false (end_view end) → ⊥
end_ran (RunEnd.Answer text) n = cc
end_ran (RunEnd.Fault fault) n = cc
end_ran (RunEnd.Endless names) n = cc
end_ran (RunEnd.TooMany held given) n = cc
end_ran RunEnd.AllLost n = cc
end_ran (RunEnd.NameClash kept given) n = cc
end_ran RunEnd.Memory n = cc

pub end_some : (end : RunEnd) (r : Result (List ℕ) Why) → r ≡ end_view end → r ≢ Err Why.Memory → end ≢ RunEnd.Memory
end_some end r e n m = n (e ∙ ap end_view m)

-- ---- the log that was read, as the run sees it: its header, its bytes and the plan

module _ (g : Gives) (w : Words) (source : List ℕ) (job : s.Job) (log header bytes : List ℕ) (plan : Plan) (header_is : header ≡ header_of w source job.inputs)
    (bytes_is : bytes ≡ log) (plan_is : plan ≡ plan_of w) where
  pub begins_own : OwnIfRead g w source job.inputs job (Some log) → BeginsLog (digest_of w.names) job g plan header bytes
  begins_own own =
      subst (λ (x : Plan × List ℕ × List ℕ). BeginsLog (digest_of w.names) job g x.0 x.1 x.2)
      (λ i. (sym plan_is i, sym header_is i, sym bytes_is i)) (own log refl)

  pub replays_log : (entries : List Entry) → Replays (digest_of w.names) job g plan header bytes entries
      → ReplaysLog g w source job.inputs job log entries
  replays_log entries r =
      subst (λ (x : Plan × List ℕ × List ℕ). Replays (digest_of w.names) job g x.0 x.1 x.2 entries)
      (λ i. (plan_is i, header_is i, bytes_is i)) r

  pub other_header : BeginsOther log (header_of w source job.inputs) → BeginsOther bytes header
  other_header o = subst (λ (x : List ℕ × List ℕ). BeginsOther x.0 x.1) (λ i. (sym bytes_is i, sym header_is i)) o

  pub header_other : BeginsOther bytes header → BeginsOther log (header_of w source job.inputs)
  header_other o = subst (λ (x : List ℕ × List ℕ). BeginsOther x.0 x.1) (λ i. (bytes_is i, header_is i)) o

  pub bad_at : (at : ℕ) → IsBadAt (digest_of w.names) job g plan header bytes at
      → IsBadAt (digest_of w.names) job g (plan_of w) (header_of w source job.inputs) log at
  bad_at at o =
      subst (λ (x : Plan × List ℕ × List ℕ). IsBadAt (digest_of w.names) job g x.0 x.1 x.2 at)
      (λ i. (plan_is i, header_is i, bytes_is i)) o

  abbrev Lists : Type 0
  Lists = List (Option (List TaskId))

  -- what gates tell of a run that came to another end than want of memory
  pub onward_since : (J : List Entry) (before after : Lists)
      → (replayed : List Entry) × (BeginsLog (digest_of w.names) job g plan header bytes
      → Replays (digest_of w.names) job g plan header bytes replayed) × ToldSince replayed J before after
      → OnwardTold (λ replayed. OwnIfRead g w source job.inputs job (Some log) → ReplaysLog g w source job.inputs job log replayed) J before after
  onward_since J before after x = inr (x.0, λ own. replays_log x.0 (x.1 (begins_own own)), x.2)

-- ---- what gates tell, by the log that was read

still : (o : Option (List TaskId)) → ToldOf o [] o
still None = tt
still (Some ts) = (ts, refl, [], sym (append-nil ts), refl)

-- nothing, where nothing was started
pub told_still : (xs : List (Option (List TaskId))) → ToldBy [] xs xs
told_still xs = (refl, λ w l. still (told_at xs w))

module _ (g : Gives) (w : Words) (source : List ℕ) (job : s.Job) (log : Option (List ℕ)) (J : List Entry) (before after : List (Option (List TaskId))) where
  abbrev pub Replayed : List Entry → Type 0
  Replayed replayed = (bytes : List ℕ) → log ≡ Some bytes → OwnIfRead g w source job.inputs job log → ReplaysLog g w source job.inputs job bytes replayed

  pub told_alone : w.resume ≡ None → ToldBy J before after → SurelyAt w.resume (ToldBy J before after) (OnwardTold Replayed J before after)
  told_alone alone t = surely_alone w.resume (ToldBy J before after) (OnwardTold Replayed J before after) alone t

  module _ (path own : List ℕ) (onward : w.resume ≡ Some path) (is : log ≡ Some own) where
    some_same : (bytes : List ℕ) → Some own ≡ Some bytes → own ≡ bytes
    some_same bytes e = cc

    pub own_read : OwnIfRead g w source job.inputs job log → OwnIfRead g w source job.inputs job (Some own)
    own_read o = subst (OwnIfRead g w source job.inputs job) is o

    replayed : OnwardTold (λ es. OwnIfRead g w source job.inputs job (Some own) → ReplaysLog g w source job.inputs job own es) J before after
        → OnwardTold Replayed J before after
    replayed (inl n) = inl n
    replayed (inr x) = inr (
      x.0,
      λ bytes l o. subst (λ (b : List ℕ). ReplaysLog g w source job.inputs job b x.0) (some_same bytes (sym is ∙ l)) (x.1 (own_read o)),
      x.2,
    )

    pub told_onward : OnwardTold (λ es. OwnIfRead g w source job.inputs job (Some own) → ReplaysLog g w source job.inputs job own es) J before after
        → SurelyAt w.resume (ToldBy J before after) (OnwardTold Replayed J before after)
    told_onward t = surely_onward w.resume (ToldBy J before after) (OnwardTold Replayed J before after) path onward (replayed t)

-- a log of another job, as it was read
pub named_other : (header : List ℕ) (r : Result (List ℕ) Why) (resume log : Option (List ℕ)) (path own : List ℕ) → resume ≡ Some path → log ≡ Some own
    → (BeginsOther own header → (r ≡ Err (Why.OtherJob path)) ⊎ (r ≡ Err Why.Memory)) → (p bytes : List ℕ) → resume ≡ Some p → log ≡ Some bytes
    → BeginsOther bytes header → (r ≡ Err (Why.OtherJob p)) ⊎ (r ≡ Err Why.Memory)
named_other header r resume log path own is l ends p bytes q k o =
    let paths : Some path ≡ Some p = sym is ∙ q in
    let logs : Some bytes ≡ Some own = sym k ∙ l in
    let one : path ≡ p = cc in
    let same : bytes ≡ own = cc in
    subst (λ (x : List ℕ). (r ≡ Err (Why.OtherJob x)) ⊎ (r ≡ Err Why.Memory)) one
    (ends (subst (λ (b : List ℕ). BeginsOther b header) same o))
