-- A log of its own: it has the header of its run, and it is what was read.
use Rattle.std.proofs.Common.{◌≡◌, ◌++◌, ◌∙◌, ℕ, List, inl, inr, true, false, is_some, Option, Some, None, drop, refl, sym, ap, subst}
use Rattle.std.specs.Prelude.{IfSome}
use Rattle.std.proofs.lemmas.List.{append_assoc}
use Rattle.sky_base.specs.KitView.{Gives}
use Rattle.sky_base.specs.See as s
use Rattle.sky_base.specs.declared.object.TaskId.{TaskId}
use Rattle.ciel_journal.specs.Entries.{Entry}
use Rattle.ciel_journal.specs.History.{Plan}
use Rattle.ciel_log_file.specs.Whole.{BeginsOther}
use Rattle.ciel_log_readable.specs.Readable.{BeginsWritten}
use Rattle.ciel_log_records.specs.Records.{in_file}
use Rattle.ciel_log_read.proofs.Pieces.{blocks_free}
use Rattle.ciel_run_load.specs.Line.{Input}
use Rattle.ciel_run_load.specs.Loading.{IsOf}
use Rattle.ciel_run_logged.specs.Told.{ToldBy}
use Rattle.ciel_run_line.specs.Causes.{HasBadRecord}
use Rattle.ciel_run_line.specs.Gates.{GatesTell}
use Rattle.ciel_run_line.specs.Given.{GivesOf}
use Rattle.ciel_run_line.specs.Keeping.{header_of}
use Rattle.ciel_run_line.specs.Line.{FitsIn, OfJobFiles, OfLine, Stands, SurelyAt, files_of}
use Rattle.ciel_run_line.specs.Resuming.{IsOwnLog, OnwardTold, OwnIfRead, ReplaysLog}
use Rattle.ciel_run_line.specs.Runs.{digest_of, plan_of}
use Rattle.ciel_run_line.specs.Source.{OfJob, job_of}
use Rattle.ciel_run_line.proofs.Comes.{of_job}
use Rattle.ciel_run_line.proofs.Written.{none_bad, own_log}
use Rattle.ciel_words.specs.Sound.{LineIsSound}
use Rattle.ciel_words.specs.declared.words.Words.{Words}

-- a record that stands whole at the beginning of such a log is the header: no block begins another one
pub not_other : (digest : List ℕ → List ℕ) (job : s.Job) (g : Gives) (p : Plan) (header bytes : List ℕ)
    → BeginsWritten digest job g p header bytes → BeginsOther bytes header → ⊥
not_other digest job g p header bytes own other =
    let first = other.0 in
    let behind = drop other.1 bytes in
    let rest = own.prefix.0 in
    let same : in_file first ++ (behind ++ rest) ≡ in_file header ++ own.log.rest =
    sym (append_assoc (in_file first) behind rest) ∙ ap (λ (x : List ℕ). x ++ rest) (sym other.2.here) ∙ own.prefix.1 ∙ own.log.all in
    other.3 (blocks_free first header (behind ++ rest) own.log.rest other.2.fits own.short same).0

-- and none of its records is a bad one
pub no_bad_record : (content : List ℕ → Option (List ℕ)) (w : Words) (path : List ℕ) (at : ℕ) → w.resume ≡ Some path → HasBadRecord content w path at
    → (g : Gives) → GivesOf content w g → (source : List ℕ) (inputs : List Input) → Stands g content w source inputs → ⊥
no_bad_record content w path at e bad g given source inputs st =
    let x = bad g given source inputs st.there in
    let own = st.own path e x.0 x.1.0 x.1.1 in none_bad g w source inputs (job_of x.1.0 inputs) own.0 at (x.1.2 own.0 own.1) own.2

-- ---- the log that was read, where one was

module _ (g : Gives) (content : List ℕ → Option (List ℕ)) (w : Words) (sound : LineIsSound w) (read : List ℕ) (job : s.Job)
    (log : Option (List ℕ))
    (t : OfJobFiles content w (λ source inputs. FitsIn (files_of w) source inputs × IsOf source inputs job × (read ≡ source)))
    (some : is_some log ≡ is_some w.resume)
    (found : IfSome log (λ b. IfSome w.resume (λ path. IfSome (content path) (λ file. b ≡ file)))) where
  no_both : true ≡ false → ⊥
  no_both e = cc

  -- it is what stands at the path
  same_bytes : (path b file : List ℕ) → w.resume ≡ Some path → log ≡ Some b → content path ≡ Some file → b ≡ file
  same_bytes path b file e l there =
      let f : IfSome (content path) (λ x. b ≡ x) =
      subst (λ (x : Option (List ℕ) × Option (List ℕ)). IfSome x.0 (λ y. IfSome x.1 (λ p. IfSome (content p) (λ z. y ≡ z)))) (λ i. (l i, e i)) found in
      subst (λ (o : Option (List ℕ)). IfSome o (λ x. b ≡ x)) there f

  pub log_is : (path bytes : List ℕ) → w.resume ≡ Some path → content path ≡ Some bytes → log ≡ Some bytes
  log_is path bytes e there = at log refl
    where
      at : (o : Option (List ℕ)) → log ≡ o → log ≡ Some bytes
      at None q = absurd (no_both (sym (ap is_some e) ∙ sym some ∙ ap is_some q))
      at (Some b) q = q ∙ ap (λ (x : List ℕ). Some x) (same_bytes path b bytes e q there)

  -- nothing is asked of it where none is gone on from
  pub own_alone : w.resume ≡ None → OwnIfRead g w read job.inputs job log
  own_alone e bytes l = absurd (no_both (sym (ap is_some l) ∙ some ∙ ap is_some e))

  -- it is one of a run of the job that was read
  pub own_onward : (source : List ℕ) (inputs : List Input) → Stands g content w source inputs → OwnIfRead g w read job.inputs job log
  own_onward source inputs st bytes l = at w.resume refl
    where
      at : (o : Option (List ℕ)) → w.resume ≡ o → IsOwnLog g w read job.inputs job bytes
      at None e = own_alone e bytes l
      at (Some path) e =
          let here = t source inputs st.there in
          let o = st.own path e here.0 job.script here.1.0 in
          let same : bytes ≡ o.0 = same_bytes path bytes o.0 e l o.1 in
          subst (λ (x : List ℕ × List Input × List ℕ). IsOwnLog g w x.0 x.1 (job_of job.script x.1) x.2)
          (λ i. (sym here.2 i, sym here.1.1 i, sym same i))
          (own_log content w sound g source inputs st.there here.0 (job_of job.script inputs) here.1.0 o.0 o.2)

  -- ---- what gates tell

  abbrev Lists : Type 0
  Lists = List (Option (List TaskId))

  abbrev ReadReplays : List Entry → Type 0
  ReadReplays replayed = (bytes : List ℕ) → log ≡ Some bytes → OwnIfRead g w read job.inputs job log → ReplaysLog g w read job.inputs job bytes replayed

  abbrev FileReplays : List ℕ → List Input → List Entry → Type 0
  FileReplays source inputs replayed =
      OfJob source inputs (λ j. (path : List ℕ) (bytes : List ℕ) → w.resume ≡ Some path → content path ≡ Some bytes
      → ReplaysLog g w source inputs j bytes replayed)

  onward_of : (source : List ℕ) (inputs : List Input) → Stands g content w source inputs → (J : List Entry) (before after : Lists)
      → OnwardTold ReadReplays J before after → OnwardTold (FileReplays source inputs) J before after
  onward_of source inputs st J before after (inl n) = inl n
  onward_of source inputs st J before after (inr x) =
      let here = t source inputs st.there in
      inr (
        x.0,
        of_job source inputs job (λ j. (path : List ℕ) (bytes : List ℕ) → w.resume ≡ Some path → content path ≡ Some bytes
            → ReplaysLog g w source inputs j bytes x.0) here.1
            (λ path bytes e there. subst (λ (y : List ℕ × List Input). ReplaysLog g w y.0 y.1 job bytes x.0) (λ i. (here.2 i, here.1.1 i))
            (x.1 bytes (log_is path bytes e there) (own_onward source inputs st))),
        x.2,
      )

  module _ (same : (h : Gives) → GivesOf content w h → h ≡ g) where
    -- where files tell all that the line reads
    pub own_line : OfLine content w (λ h source inputs. OwnIfRead g w read job.inputs job log)
    own_line h given source inputs st =
        own_onward source inputs (subst (λ (k : Gives). Stands k content w source inputs) (same h given) st)

    abbrev ReplaysBy : Gives → List ℕ → List Input → List Entry → Type 0
    ReplaysBy h source inputs replayed =
        OfJob source inputs (λ j. (path : List ℕ) (bytes : List ℕ) → w.resume ≡ Some path → content path ≡ Some bytes
        → ReplaysLog h w source inputs j bytes replayed)

    pub gates_tell : (J : List Entry) (before after : Lists)
        → SurelyAt w.resume (ToldBy J before after) (OnwardTold ReadReplays J before after) → GatesTell content (Some w) J before after
    gates_tell J before after told = at w.resume told
      where
        at : (o : Option (List ℕ)) → SurelyAt o (ToldBy J before after) (OnwardTold ReadReplays J before after)
            → SurelyAt o (ToldBy J before after) (OfLine content w (λ h source inputs. OnwardTold (ReplaysBy h source inputs) J before after))
        at None x = x
        at (Some path) x = λ h given source inputs st.
            subst (λ (k : Gives). OnwardTold (ReplaysBy k source inputs) J before after) (sym (same h given))
            (onward_of source inputs (subst (λ (k : Gives). Stands k content w source inputs) (same h given) st) J before after x)
