-- From what a run makes of its keeper, whose log was put in the place of a file before, to what both make of it.
use Rattle.std.proofs.Common.{◌≡◌, ◌≤◌, ◌<◌, ℕ, suc, List, [], ◌∷◌, Option, Some, None, length, replicate, ap, arith, inl, inr, ⊎_elim}
use Rattle.ciel_io.specs.Faults.{HasRisen}
use Rattle.ciel_io.specs.HeldFiles.{bytes_at}
use Rattle.ciel_io.specs.Kept.{Changes, Files, Replaced}
use Rattle.ciel_io.specs.Tells.{Tells}
use Rattle.ciel_io.proofs.Joined.{tells_more}
use Rattle.ciel_log_law.specs.LogState.{LogState}
use Rattle.ciel_log_law.proofs.Files.{changed_at}
use Rattle.ciel_run_logged.specs.Keeping.{AsksOnly, GrowsTo, KeeperSeen, Keeps, StandsSo}
use Rattle.ciel_run_resumed.specs.Keeping.{HasBytes, KeptBy, StandsBy}

-- these bytes were put there
module _ (path bytes : List ℕ) (old begun now : KeeperSeen) (placed : Changes old.files begun.files path (Replaced bytes))
    (rises : old.faults ≤ begun.faults) where
  -- so they stood there when the run began
  pub stood : (files : Files) → begun.files ≡ Some files → bytes_at files path ≡ bytes
  stood files e = (changed_at old.files begun.files path (Replaced bytes) placed files e).2

  risen : HasRisen begun.faults now.faults → HasRisen old.faults now.faults
  risen r = ⊎_elim (λ (less : begun.faults < now.faults). inl (omega (arith, rises, less))) (λ e. inr e) r

  grown : (held more : ℕ) → held ≡ length bytes → GrowsTo path held more begun.files now.files → HasBytes path now.files more
  grown held more e g = of now.files g
    where
      of : (o : Option Files) → GrowsTo path held more begun.files o → HasBytes path o more
      of None h = tt
      of (Some files) h =
          let was : length (bytes_at h.0 path) ≡ length bytes = ap length (stood h.0 h.1) in
          let all = h.2 in
          omega (arith, e, was, all)

  pub stands : (held : ℕ) → held ≡ length bytes → (state : LogState) → StandsSo path held begun now state → StandsBy path old now state
  stands held e LogState.Whole s = tt
  stands held e LogState.Failed s = risen s
  stands held e (LogState.Full more) s = (s.0, grown held more e s.1)
  stands held e LogState.Memory s = tt

  pub asks : Tells old.asked begun.asked (path ∷ []) → AsksOnly path begun.asked now.asked → AsksOnly path old.asked now.asked
  asks t a = (suc a.0, tells_more old.asked begun.asked now.asked (path ∷ []) (replicate a.0 path) t a.1)

  pub kept_by : Tells old.asked begun.asked (path ∷ []) → (held : ℕ) → held ≡ length bytes → (state : LogState) → Keeps path held begun now state
      → KeptBy path old now state
  kept_by t held e state k = record {
    asked = asks t k.asked;
    never_falls = omega (arith, rises, k.never_falls);
    stands = stands held e state k.stands;
  }
