-- From what a run with a log makes of its keeper, which began the log before, to what the line's call makes of it.
use Rattle.std.proofs.Common.{◌≡◌, ◌≢◌, ◌⊎◌, ◌≤◌, ◌+◌, ◌∙◌, ◌<◌, ℕ, List, [], ◌∷◌, true, false, Option, Some, None, Result, Ok, Err, length, replicate, refl, sym, ap, subst, arith}
use Rattle.std.proofs.Common.{inl, inr, ⊎_elim, suc}
use Rattle.std.specs.Prelude.{IfSome}
use Rattle.sky_base.specs.KitView.{Gives}
use Rattle.sky_base.specs.See as s
use Rattle.ciel_io.specs.Faults.{HasRisen}
use Rattle.ciel_io.specs.HeldFiles.{bytes_at}
use Rattle.ciel_io.specs.Kept.{Changes, Files, Replaced}
use Rattle.ciel_io.specs.Tells.{Tells}
use Rattle.ciel_io.proofs.Joined.{tells_none}
use Rattle.ciel_journal.specs.Entries.{Entry}
use Rattle.ciel_log.specs.Logs.{FullAt, HasDropped, LogWritten, Logs, WrittenPart}
use Rattle.ciel_log.specs.declared.state.LogState.{LogState}
use Rattle.ciel_log_records.specs.Records.{in_file}
use Rattle.ciel_master.specs.declared.stop.RunEnd.{RunEnd}
use Rattle.ciel_run_load.specs.Line.{Input}
use Rattle.ciel_run_load.specs.Loading.{IsOf}
use Rattle.ciel_run_logged.specs.Keeping.{AsksOnly, GrowsTo, IfOver, KeeperSeen, Keeps, StandsSo, ToldBefore}
use Rattle.ciel_run_line.specs.Answering.{WhyNot, end_view}
use Rattle.ciel_run_line.specs.Causes.{NoJobBy}
use Rattle.ciel_run_line.specs.Keeping.{HasBytes, KeepsLog, LogTold, OfLog, StandsBy, Told, header_of}
use Rattle.ciel_run_line.specs.Runs.{digest_of, log_at, log_path, plan_of}
use Rattle.ciel_run_resumed.proofs.Began.{asks, stands, stood}
use Rattle.ciel_run_resumed.specs.Keeping.{KeptBy}
use Rattle.ciel_run_resumed.specs.Resuming.{FileTells, RefusesSo}
use Rattle.ciel_run_resumed.specs.declared.run.NotResumed.{NotResumed}
use Rattle.ciel_run_log.specs.declared.why.Why.{Why}
use Rattle.ciel_words.specs.Sound.{LineIsSound}
use Rattle.ciel_words.specs.declared.words.Words.{Words}
use Rattle.ciel_run_line.proofs.Comes.{of_job}

-- ---- by the line

-- where the log couldn't be begun
pub unbegun_keeps : (log : Option (List ℕ)) (path : List ℕ) → log ≡ Some path → (old now : KeeperSeen) (why : Why) (state : LogState)
    → (why ≡ Why.Memory) ⊎ ((why ≡ Why.KeepFault path) × HasRisen old.faults now.faults × Tells old.asked now.asked (path ∷ []))
    → KeepsLog log old now (Err why) state
unbegun_keeps log path e old now why state (inl m) =
    subst (λ (x : Option (List ℕ) × Why). KeepsLog x.0 old now (Err x.1) state) (λ i. (sym e i, sym m i)) tt
unbegun_keeps log path e old now why state (inr f) =
    subst (λ (x : Option (List ℕ) × Why). KeepsLog x.0 old now (Err x.1) state) (λ i. (sym e i, sym f.0 i)) (refl, (1, f.2), f.1)

module _ (w : Words) (path : List ℕ) (named : log_path w ≡ Some path) (header : List ℕ) (old begun now : KeeperSeen)
    (placed : Changes old.files begun.files path (Replaced (in_file header))) (rises : old.faults ≤ begun.faults)
    (asked : Tells old.asked begun.asked (path ∷ [])) (held : ℕ) (size : held ≡ length (in_file header)) (state : LogState) where
  kept : Keeps path held begun now state → AsksOnly path old.asked now.asked × StandsBy path old now state × (old.faults ≤ now.faults)
  kept k = (
    asks path (in_file header) old begun now placed rises asked k.asked,
    stands path (in_file header) old begun now placed rises held size state k.stands,
    omega (arith, rises, k.never_falls),
  )

  -- what the run makes of the keeper, by its end
  by_end : (end : RunEnd) → (end ≢ RunEnd.Memory → Keeps path held begun now state) → KeepsLog (Some path) old now (end_view end) state
  by_end (RunEnd.Answer text) k = kept (k (λ e. cc))
  by_end (RunEnd.Fault fault) k = kept (k (λ e. cc))
  by_end (RunEnd.Endless names) k = kept (k (λ e. cc))
  by_end (RunEnd.TooMany count given) k = kept (k (λ e. cc))
  by_end RunEnd.AllLost k = kept (k (λ e. cc))
  by_end (RunEnd.NameClash one other) k = kept (k (λ e. cc))
  by_end RunEnd.Memory k = tt

  pub run_keeps : (end : RunEnd) → (end ≢ RunEnd.Memory → Keeps path held begun now state) → KeepsLog (log_path w) old now (end_view end) state
  run_keeps end k = subst (λ (x : Option (List ℕ)). KeepsLog x old now (end_view end) state) (sym named) (by_end end k)

  -- what the file tells of the run
  module _ (g : Gives) (source : List ℕ) (inputs : List Input) (J : List Entry) (job : s.Job) (of : IsOf source inputs job)
      (same : header ≡ header_of w source inputs) where
    abbrev Written : Type 0
    Written = LogWritten (digest_of w.names) job g (plan_of w) path held begun.files now.files J state

    abbrev Says : List ℕ → Type 0
    Says bytes = Told g w source inputs J state bytes

    at_path : (files : Option Files) → ToldBefore begun.files files
        → LogWritten (digest_of w.names) job g (plan_of w) path held begun.files files J state
        → IfSome files (λ fs. (HasDropped (bytes_at fs path) → ⊥) → Says (bytes_at fs path))
    at_path None t l = tt
    at_path (Some fs) t l = λ clean.
        let there : bytes_at t.0 path ≡ in_file (header_of w source inputs) =
        stood path (in_file header) old begun now placed rises t.0 t.1 ∙ ap in_file same in
        let told = l (header_of w source inputs) t.0 t.1 there clean in (
          of_job source inputs job
              (λ j. WrittenPart (digest_of w.names) j g (plan_of w) (header_of w source inputs) J (state ≡ LogState.Failed) (bytes_at fs path)) of told.0,
          λ whole. of_job source inputs job
              (λ j. Logs (digest_of w.names) j g (plan_of w) (header_of w source inputs) J (bytes_at fs path)) of (told.1 whole),
          λ has full. of_job source inputs job
              (λ j. FullAt (digest_of w.names) j g (plan_of w) (header_of w source inputs) J has (bytes_at fs path)) of
              (told.2 has full (size ∙ ap (λ h. length (in_file h)) same)),
        )

    of_log : ToldBefore begun.files now.files → Written → OfLog g w source inputs J now.files Says
    of_log t l p e =
        let both : Some path ≡ Some p = sym named ∙ e in
        let one : path ≡ p = cc in
        subst (λ (q : List ℕ). IfSome now.files (λ fs. (HasDropped (bytes_at fs q) → ⊥) → Says (bytes_at fs q))) one (at_path now.files t l)

    pub log_told : (end : RunEnd) → (end ≢ RunEnd.Memory → Keeps path held begun now state) → IfOver end Written
        → LogTold g w source inputs J now.files state (end_view end)
    log_told (RunEnd.Answer text) k l = of_log (k (λ e. cc)).told l
    log_told (RunEnd.Fault fault) k l = of_log (k (λ e. cc)).told l
    log_told (RunEnd.Endless names) k l = of_log (k (λ e. cc)).told l
    log_told RunEnd.AllLost k l = of_log (k (λ e. cc)).told l
    log_told (RunEnd.TooMany count given) k l = tt
    log_told (RunEnd.NameClash one other) k l = tt
    log_told RunEnd.Memory k l = tt

-- where the log couldn't be begun nothing is told
pub unbegun_told : (g : Gives) (w : Words) (source : List ℕ) (inputs : List Input) (J : List Entry) (files : Option Files) (state : LogState) (why : Why)
    (path : List ℕ) (A B : Type 0) → (why ≡ Why.Memory) ⊎ ((why ≡ Why.KeepFault path) × A × B) → LogTold g w source inputs J files state (Err why)
unbegun_told g w source inputs J files state why path A B (inl m) = subst (λ (y : Why). LogTold g w source inputs J files state (Err y)) (sym m) tt
unbegun_told g w source inputs J files state why path A B (inr f) = subst (λ (y : Why). LogTold g w source inputs J files state (Err y)) (sym f.0) tt

-- ---- where no log is asked for

pub plain_keeps : (log : Option (List ℕ)) → ((path : List ℕ) → log ≡ Some path → ⊥) → (k : KeeperSeen) (r : Result (List ℕ) Why)
    → KeepsLog log k k r LogState.Whole
plain_keeps None n k r = (refl, refl)
plain_keeps (Some path) n k r = absurd (n path refl)

-- a sequential run has none
pub plain_no_log : (w : Words) → LineIsSound w → w.plain ≡ true → (path : List ℕ) → log_path w ≡ Some path → ⊥
plain_no_log w s p path e = at w.log refl
  where
    clash : w.plain ≡ false → ⊥
    clash q = let bad : false ≡ true = sym q ∙ p in cc

    at : (o : Option (List ℕ)) → w.log ≡ o → ⊥
    at None n = clash (s.resumed path (sym (ap (λ (x : Option (List ℕ)). log_at x w.resume) n) ∙ e)).0
    at (Some q) y = clash (s.logged q y).0

pub untold : (g : Gives) (w : Words) (source : List ℕ) (inputs : List Input) (J : List Entry) (files : Option Files) (state : LogState)
    → ((path : List ℕ) → log_path w ≡ Some path → ⊥) → (r : Result (List ℕ) Why) → LogTold g w source inputs J files state r
untold g w source inputs J files state n (Ok a) = λ path e. absurd (n path e)
untold g w source inputs J files state n (Err (Why.Fault fault)) = λ path e. absurd (n path e)
untold g w source inputs J files state n (Err (Why.Endless names)) = λ path e. absurd (n path e)
untold g w source inputs J files state n (Err Why.AllLost) = λ path e. absurd (n path e)
untold g w source inputs J files state n (Err Why.Done) = tt
untold g w source inputs J files state n (Err Why.Usage) = tt
untold g w source inputs J files state n (Err (Why.Syntax kind line col)) = tt
untold g w source inputs J files state n (Err (Why.TooMany held given)) = tt
untold g w source inputs J files state n (Err (Why.NameClash one other)) = tt
untold g w source inputs J files state n (Err (Why.ReadFault path)) = tt
untold g w source inputs J files state n (Err Why.WriteFault) = tt
untold g w source inputs J files state n (Err Why.Memory) = tt
untold g w source inputs J files state n (Err (Why.TooLongInput path at)) = tt
untold g w source inputs J files state n (Err (Why.TooDeepPlain depth)) = tt
untold g w source inputs J files state n (Err (Why.KeepFault path)) = tt
untold g w source inputs J files state n (Err (Why.BadLog path at)) = tt
untold g w source inputs J files state n (Err (Why.BadMemo path at)) = tt
untold g w source inputs J files state n (Err (Why.OtherJob path)) = tt
untold g w source inputs J files state n (Err (Why.LogFull path held)) = tt

-- ---- where a log is gone on from

onward_end : (path : List ℕ) (old now : KeeperSeen) (state : LogState) (end : RunEnd) → (end ≢ RunEnd.Memory → KeptBy path old now state)
    → KeepsLog (Some path) old now (end_view end) state
onward_end path old now state (RunEnd.Answer text) k = let y = k (λ e. cc) in (y.asked, y.stands, y.never_falls)
onward_end path old now state (RunEnd.Fault fault) k = let y = k (λ e. cc) in (y.asked, y.stands, y.never_falls)
onward_end path old now state (RunEnd.Endless names) k = let y = k (λ e. cc) in (y.asked, y.stands, y.never_falls)
onward_end path old now state (RunEnd.TooMany count given) k = let y = k (λ e. cc) in (y.asked, y.stands, y.never_falls)
onward_end path old now state RunEnd.AllLost k = let y = k (λ e. cc) in (y.asked, y.stands, y.never_falls)
onward_end path old now state (RunEnd.NameClash one other) k = let y = k (λ e. cc) in (y.asked, y.stands, y.never_falls)
onward_end path old now state RunEnd.Memory k = tt

-- nothing was asked
unasked_same : (path : List ℕ) (old now : KeeperSeen) → now ≡ old → AsksOnly path old.asked now.asked × Unit {0} × (old.faults ≤ now.faults)
unasked_same path old now r =
    subst (λ (k : KeeperSeen). AsksOnly path old.asked k.asked × Unit {0} × (old.faults ≤ k.faults)) (sym r) ((0, tells_none old.asked), tt, omega arith)

refused_end : (path : List ℕ) (old now : KeeperSeen) (not : NotResumed) (why : Why) → WhyNot not path why → RefusesSo path old now not
    → KeepsLog (Some path) old now (Err why) LogState.Whole
refused_end path old now NotResumed.OtherJob why (inl e) r =
    subst (λ (y : Why). KeepsLog (Some path) old now (Err y) LogState.Whole) (sym e)
    (unasked_same path old now r)
refused_end path old now NotResumed.OtherJob why (inr e) r = subst (λ (y : Why). KeepsLog (Some path) old now (Err y) LogState.Whole) (sym e) tt
refused_end path old now (NotResumed.BadLog at) why (inl e) r =
    subst (λ (y : Why). KeepsLog (Some path) old now (Err y) LogState.Whole) (sym e)
    (unasked_same path old now r)
refused_end path old now (NotResumed.BadLog at) why (inr e) r = subst (λ (y : Why). KeepsLog (Some path) old now (Err y) LogState.Whole) (sym e) tt
refused_end path old now NotResumed.Failed why (inl e) r =
    subst (λ (y : Why). KeepsLog (Some path) old now (Err y) LogState.Whole) (sym e) (refl, (1, r.1), r.0)
refused_end path old now NotResumed.Failed why (inr e) r = subst (λ (y : Why). KeepsLog (Some path) old now (Err y) LogState.Whole) (sym e) tt
refused_end path old now NotResumed.Memory why e r = subst (λ (y : Why). KeepsLog (Some path) old now (Err y) LogState.Whole) (sym e) tt

module _ (w : Words) (path : List ℕ) (named : log_path w ≡ Some path) (old now : KeeperSeen) where
  pub onward_keeps : (state : LogState) (end : RunEnd) → (end ≢ RunEnd.Memory → KeptBy path old now state)
      → KeepsLog (log_path w) old now (end_view end) state
  onward_keeps state end k =
      subst (λ (x : Option (List ℕ)). KeepsLog x old now (end_view end) state) (sym named) (onward_end path old now state end k)

  pub refused_keeps : (not : NotResumed) (why : Why) → WhyNot not path why → RefusesSo path old now not
      → KeepsLog (log_path w) old now (Err why) LogState.Whole
  refused_keeps not why y r =
      subst (λ (x : Option (List ℕ)). KeepsLog x old now (Err why) LogState.Whole) (sym named) (refused_end path old now not why y r)

  -- what the file tells of the run
  module _ (g : Gives) (source : List ℕ) (inputs : List Input) (J : List Entry) (job : s.Job) (of : IsOf source inputs job) (state : LogState) where
    abbrev Tells_there : Type 0
    Tells_there = FileTells (digest_of w.names) job g (plan_of w) (header_of w source inputs) path now.files J state

    onward_path : (files : Option Files) → FileTells (digest_of w.names) job g (plan_of w) (header_of w source inputs) path files J state
        → IfSome files (λ fs. (HasDropped (bytes_at fs path) → ⊥) → Told g w source inputs J state (bytes_at fs path))
    onward_path None t = tt
    onward_path (Some fs) t = λ clean. let told = t clean in (
      of_job source inputs job
          (λ j. WrittenPart (digest_of w.names) j g (plan_of w) (header_of w source inputs) J (state ≡ LogState.Failed) (bytes_at fs path)) of told.0,
      λ whole. of_job source inputs job
          (λ j. Logs (digest_of w.names) j g (plan_of w) (header_of w source inputs) J (bytes_at fs path)) of (told.1 whole),
      λ has full. of_job source inputs job
          (λ j. FullAt (digest_of w.names) j g (plan_of w) (header_of w source inputs) J has (bytes_at fs path)) of (told.2 has full),
    )

    onward_log : Tells_there → OfLog g w source inputs J now.files (Told g w source inputs J state)
    onward_log t p e =
        let both : Some path ≡ Some p = sym named ∙ e in
        let one : path ≡ p = cc in
        subst (λ (q : List ℕ). IfSome now.files (λ fs. (HasDropped (bytes_at fs q) → ⊥) → Told g w source inputs J state (bytes_at fs q))) one
        (onward_path now.files t)

    pub onward_told : (end : RunEnd) → IfOver end Tells_there → LogTold g w source inputs J now.files state (end_view end)
    onward_told (RunEnd.Answer text) t = onward_log t
    onward_told (RunEnd.Fault fault) t = onward_log t
    onward_told (RunEnd.Endless names) t = onward_log t
    onward_told RunEnd.AllLost t = onward_log t
    onward_told (RunEnd.TooMany count given) t = tt
    onward_told (RunEnd.NameClash one other) t = tt
    onward_told RunEnd.Memory t = tt

-- where it wasn't gone on from nothing is told
pub refused_told : (g : Gives) (w : Words) (source : List ℕ) (inputs : List Input) (J : List Entry) (files : Option Files) (state : LogState) (path : List ℕ)
    (not : NotResumed) (why : Why) → WhyNot not path why → LogTold g w source inputs J files state (Err why)
refused_told g w source inputs J files state path NotResumed.OtherJob why (inl e) =
    subst (λ (y : Why). LogTold g w source inputs J files state (Err y)) (sym e) tt
refused_told g w source inputs J files state path NotResumed.OtherJob why (inr e) =
    subst (λ (y : Why). LogTold g w source inputs J files state (Err y)) (sym e) tt
refused_told g w source inputs J files state path (NotResumed.BadLog at) why (inl e) =
    subst (λ (y : Why). LogTold g w source inputs J files state (Err y)) (sym e) tt
refused_told g w source inputs J files state path (NotResumed.BadLog at) why (inr e) =
    subst (λ (y : Why). LogTold g w source inputs J files state (Err y)) (sym e) tt
refused_told g w source inputs J files state path NotResumed.Failed why (inl e) =
    subst (λ (y : Why). LogTold g w source inputs J files state (Err y)) (sym e) tt
refused_told g w source inputs J files state path NotResumed.Failed why (inr e) =
    subst (λ (y : Why). LogTold g w source inputs J files state (Err y)) (sym e) tt
refused_told g w source inputs J files state path NotResumed.Memory why e =
    subst (λ (y : Why). LogTold g w source inputs J files state (Err y)) (sym e) tt

-- where its run wasn't planned, for want of memory
pub unplanned_keeps : (log : Option (List ℕ)) (k : KeeperSeen) (state : LogState) → state ≡ LogState.Whole → KeepsLog log k k (Err Why.Memory) state
unplanned_keeps None k state e = (refl, e)
unplanned_keeps (Some path) k state e = tt

same_faults : (n : ℕ) → n ≤ n
same_faults n = omega arith

-- where what the line names wasn't read
pub unread_keeps : (content : List ℕ → Option (List ℕ)) (w : Words) (log : Option (List ℕ)) (risen : Type 0) (k : KeeperSeen) (why : Why)
    → NoJobBy content w risen [] why → (state : LogState) → state ≡ LogState.Whole → KeepsLog log k k (Err why) state
unread_keeps content w None risen k why n state e = (refl, e)
unread_keeps content w (Some path) risen k Why.Memory n state e = tt
unread_keeps content w (Some path) risen k (Why.Syntax kind line col) n state e =
    subst (KeepsLog (Some path) k k (Err (Why.Syntax kind line col))) (sym e) ((0, tells_none k.asked), tt, same_faults k.faults)
unread_keeps content w (Some path) risen k (Why.ReadFault p) n state e =
    subst (KeepsLog (Some path) k k (Err (Why.ReadFault p))) (sym e) ((0, tells_none k.asked), tt, same_faults k.faults)
unread_keeps content w (Some path) risen k (Why.TooLongInput p at) n state e =
    subst (KeepsLog (Some path) k k (Err (Why.TooLongInput p at))) (sym e) ((0, tells_none k.asked), tt, same_faults k.faults)
unread_keeps content w (Some path) risen k (Why.BadMemo p at) n state e =
    subst (KeepsLog (Some path) k k (Err (Why.BadMemo p at))) (sym e) ((0, tells_none k.asked), tt, same_faults k.faults)
unread_keeps content w (Some path) risen k Why.Done n state e = absurd n
unread_keeps content w (Some path) risen k Why.Usage n state e = absurd n
unread_keeps content w (Some path) risen k (Why.Fault fault) n state e = absurd n
unread_keeps content w (Some path) risen k (Why.Endless names) n state e = absurd n
unread_keeps content w (Some path) risen k (Why.TooMany held given) n state e = absurd n
unread_keeps content w (Some path) risen k Why.AllLost n state e = absurd n
unread_keeps content w (Some path) risen k (Why.NameClash one other) n state e = absurd n
unread_keeps content w (Some path) risen k Why.WriteFault n state e = absurd n
unread_keeps content w (Some path) risen k (Why.TooDeepPlain depth) n state e = absurd n
unread_keeps content w (Some path) risen k (Why.KeepFault p) n state e = absurd n
unread_keeps content w (Some path) risen k (Why.BadLog p at) n state e = absurd n
unread_keeps content w (Some path) risen k (Why.OtherJob p) n state e = absurd n
unread_keeps content w (Some path) risen k (Why.LogFull p held) n state e = absurd n
