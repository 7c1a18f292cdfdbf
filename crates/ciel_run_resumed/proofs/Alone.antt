-- A log that is a header alone, and the log that a file is begun again with.
use Rattle.std.proofs.Common.{◌≡◌, ℕ, zero, suc, List, [], ◌++◌, inl, inr, refl, subst, sym, take}
use Rattle.std.proofs.lemmas.List.{append-nil}
use Rattle.sky_base.specs.KitView.{Gives}
use Rattle.sky_base.specs.See as s
use Rattle.ciel_journal.specs.Entries.{Entry}
use Rattle.ciel_journal.specs.History.{Plan}
use Rattle.ciel_log_follows.specs.Begins.{IsTold}
use Rattle.ciel_log_law.specs.Logs as logs
use Rattle.ciel_log_law.specs.Logs.{Logs}
use Rattle.ciel_log_records.specs.Records.{in_file}
use Rattle.ciel_run_resumed.specs.Resuming.{standing_bytes}

-- it is a log of no entry
pub header_alone : (digest : List ℕ → List ℕ) (job : s.Job) (gives : Gives) (p : Plan) (header : List ℕ) → Logs digest job gives p header []
    (in_file header)
header_alone digest job gives p header = record {
  history = [];
  driven = tt;
  entries = refl;
  rest = [];
  records = logs.over;
  all = sym (append-nil (in_file header));
}

-- what stands in the file once it is begun again is a log of the entries that the whole records tell
pub standing_told : (digest : List ℕ → List ℕ) (job : s.Job) (gives : Gives) (p : Plan) (header log : List ℕ) (journal : List Entry) (whole : ℕ)
    → IsTold digest job gives p header journal whole (take whole log) → Logs digest job gives p header journal (standing_bytes header log whole)
standing_told digest job gives p header log journal zero (inl x) =
    subst (λ (es : List Entry). Logs digest job gives p header es (in_file header)) (sym x.1) (header_alone digest job gives p header)
standing_told digest job gives p header log journal zero (inr l) = absurd (not_empty l.rest l.all)
  where
    not_empty : (rest : List ℕ) → [] ≡ in_file header ++ rest → ⊥
    not_empty rest e = cc
standing_told digest job gives p header log journal (suc n) (inl x) = let bad : suc n ≡ 0 = x.0 in cc
standing_told digest job gives p header log journal (suc n) (inr l) = l
