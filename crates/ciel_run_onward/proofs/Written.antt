-- What the file of the log tells of a run that ends with its log.
use Rattle.std.proofs.Common.{◌≡◌, ℕ, List, [], Option, Some, None, inl, arith, length, refl, sym, subst}
use Rattle.std.specs.Prelude.{IfSome}
use Rattle.sky_base.specs.KitView.{Gives}
use Rattle.sky_base.specs.See as s
use Rattle.ciel_io.specs.HeldFiles.{bytes_at}
use Rattle.ciel_io.specs.Kept.{Files}
use Rattle.ciel_io.proofs.Joined.{tells_none}
use Rattle.ciel_journal.specs.Entries.{Entry}
use Rattle.ciel_journal.specs.History.{Plan}
use Rattle.std.proofs.lemmas.List.{append-nil}
use Rattle.ciel_log_law.specs.Logs.{FullAt, HasDropped, Logs, WrittenPart}
use Rattle.ciel_log_law.specs.LogState.{LogState}
use Rattle.ciel_log_law.specs.RunEnd.{RunEnd}
use Rattle.ciel_log_law.specs.Told.{LogContinued}
use Rattle.ciel_run_logged.specs.Keeping.{IfOver, KeeperSeen, Keeps, ToldBefore}

pub over_any : (end : RunEnd) (P : Type 0) → P → IfOver end P
over_any (RunEnd.Answer text) P x = x
over_any (RunEnd.Fault fault) P x = x
over_any (RunEnd.Endless names) P x = x
over_any RunEnd.AllLost P x = x
over_any (RunEnd.TooMany held more) P x = tt
over_any (RunEnd.NameClash kept other) P x = tt
over_any RunEnd.Memory P x = tt

-- a keeper that isn't asked keeps the log as it stands
pub kept_same : (path : List ℕ) (held : ℕ) (k : KeeperSeen) → Keeps path held k k LogState.Whole
kept_same path held k = record {
  asked = (0, tells_none k.asked);
  never_falls = omega arith;
  told = same k.files;
  stands = tt;
}
  where
    same : (files : Option Files) → ToldBefore files files
    same None = tt
    same (Some fs) = (fs, refl)

module _ (digest : List ℕ → List ℕ) (job : s.Job) (gives : Gives) (p : Plan) (path : List ℕ) where
  -- a file that isn't touched tells what it told
  pub untouched : (held : ℕ) (files : Option Files) (J : List Entry)
      → LogContinued digest job gives p path held files files J J LogState.Whole
  untouched held files J header was e logs =
      subst (λ (o : Option Files). IfSome o (λ fs. (HasDropped (bytes_at fs path) → ⊥)
      → WrittenPart digest job gives p header J (LogState.Whole ≡ LogState.Failed) (bytes_at fs path)
      × (LogState.Whole ≡ LogState.Whole → Logs digest job gives p header J (bytes_at fs path))
      × ((has : ℕ) → LogState.Whole ≡ LogState.Full has → held ≡ length (bytes_at was path)
      → FullAt digest job gives p header J has (bytes_at fs path)))) (sym e)
      (λ clean. (inl (bytes_at was path, logs, ([], append-nil (bytes_at was path))), λ same. logs, λ has full size. absurd (no_full has full)))
    where
      no_full : (has : ℕ) → LogState.Whole ≡ LogState.Full has → ⊥
      no_full has full = cc
