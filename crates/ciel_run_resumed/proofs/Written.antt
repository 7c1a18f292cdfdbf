-- What the file of the log tells, by how the run that goes on from it ended.
use Rattle.std.proofs.Common.{◌≡◌, ◌≢◌, ◌∙◌, ℕ, List, Option, Some, None, length, sym, ap, subst}
use Rattle.sky_base.specs.KitView.{Gives}
use Rattle.sky_base.specs.See as s
use Rattle.ciel_io.specs.HeldFiles.{bytes_at}
use Rattle.ciel_io.specs.Kept.{Files}
use Rattle.ciel_journal.specs.Entries.{Entry}
use Rattle.ciel_journal.specs.History.{Plan}
use Rattle.ciel_log_law.specs.Logs.{Logs}
use Rattle.ciel_log_law.specs.LogState.{LogState}
use Rattle.ciel_log_law.specs.RunEnd.{RunEnd}
use Rattle.ciel_log_law.specs.Told.{LogContinued}
use Rattle.ciel_run_logged.specs.Keeping.{IfOver, KeeperSeen, Keeps, ToldBefore}
use Rattle.ciel_run_resumed.specs.Resuming.{BegunWith, FileTells}
use Rattle.ciel_run_resumed.proofs.Began.{stood}

-- the fact, where the run is over in this way, from another one; such a run didn't want memory
pub over_map : (end : RunEnd) (P Q : Type 0) → (end ≢ RunEnd.Memory → P → Q) → IfOver end P → IfOver end Q
over_map (RunEnd.Answer text) P Q f x = f (λ e. cc) x
over_map (RunEnd.Fault fault) P Q f x = f (λ e. cc) x
over_map (RunEnd.Endless names) P Q f x = f (λ e. cc) x
over_map RunEnd.AllLost P Q f x = f (λ e. cc) x
over_map (RunEnd.TooMany held more) P Q f x = tt
over_map (RunEnd.NameClash kept other) P Q f x = tt
over_map RunEnd.Memory P Q f x = tt

module _ (digest : List ℕ → List ℕ) (job : s.Job) (gives : Gives) (p : Plan) (path : List ℕ) where
  module _ (header : List ℕ) (R J : List Entry) (state : LogState) (held : ℕ) (old mid now : KeeperSeen)
      (b : BegunWith path old mid held (Logs digest job gives p header R)) where
    at_path : (files : Option Files) → ToldBefore mid.files files → LogContinued digest job gives p path held mid.files files R J state
        → FileTells digest job gives p header path files J state
    at_path None t l = tt
    at_path (Some fs) t l = λ clean.
        let there : bytes_at t.0 path ≡ b.bytes = stood path b.bytes old mid now b.put b.never_falls t.0 t.1 in
        let told = l header t.0 t.1 (subst (Logs digest job gives p header R) (sym there) b.are) clean in
        (told.0, told.1, λ has full. told.2 has full (b.size ∙ ap length (sym there)))

    pub file_tells : (end : RunEnd) → (end ≢ RunEnd.Memory → Keeps path held mid now state)
        → IfOver end (LogContinued digest job gives p path held mid.files now.files R J state)
        → IfOver end (FileTells digest job gives p header path now.files J state)
    file_tells end k l = over_map end _ _ (λ over c. at_path now.files (k over).told c) l
