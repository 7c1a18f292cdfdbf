-- What stands in the file once it is begun again.
use Rattle.std.proofs.Common.{◌≡◌, ◌≤◌, ℕ, zero, suc, inl, inr, List, [], ◌∷◌, IfOk, Result, Ok, Err, arith, length, refl, subst, sym, take}
use Rattle.std.proofs.lemmas.List.{length-take}
use Rattle.ciel_log_file.specs.Whole.{IsWhole, RecordsTo}
use Rattle.ciel_log_read.proofs.Files.{record_within}
use Rattle.ciel_log_records.specs.Records.{in_file}
use Rattle.ciel_run_resumed.specs.Resuming.{standing_bytes}

module _ (header log : List ℕ) where
  pub standing_none : (whole : ℕ) → whole ≡ 0 → in_file header ≡ standing_bytes header log whole
  standing_none whole e = subst (λ (n : ℕ). in_file header ≡ standing_bytes header log n) (sym e) refl

  pub standing_some : (whole : ℕ) → (whole ≡ 0 → ⊥) → take whole log ≡ standing_bytes header log whole
  standing_some zero some = absurd (some refl)
  standing_some (suc n) some = refl

-- so many bytes were put there, which are no more than there may be
pub within_of : {E : Type 0} (r : Result ℕ E) (bytes : List ℕ) (most : ℕ) → IfOk r (λ held. held ≡ length bytes) → length bytes ≤ most
    → IfOk r (λ held. held ≤ most)
within_of (Ok held) bytes most size fits = omega (arith, size, fits)
within_of (Err why) bytes most size fits = tt

pub taken_within : (whole most : ℕ) (log : List ℕ) → length log ≤ most → length (take whole log) ≤ most
taken_within whole most log fits = let t = length-take whole log in omega (arith, t, fits)

-- ---- what stands whole is within the log

records_within : (log : List ℕ) (at : ℕ) (xs : List (List ℕ)) (to : ℕ) → RecordsTo log at xs to → at ≤ length log → to ≤ length log
records_within log at [] to r h = subst (λ (n : ℕ). n ≤ length log) r h
records_within log at (x ∷ xs) to r h = records_within log r.0 xs to r.2 (record_within log at x r.0 r.1)

pub whole_within : (log header : List ℕ) (whole : ℕ) → IsWhole log header whole → whole ≤ length log
whole_within log header whole (inl n) = let e = n.1 in omega (arith, e)
whole_within log header whole (inr r) = records_within log 0 (header ∷ r.0) whole r.1 (omega arith)
