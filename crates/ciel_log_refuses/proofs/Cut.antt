-- A file that is cut behind some records: they stand there as before.
use Rattle.std.proofs.Common.{◌≡◌, ◌≤◌, ◌+◌, ◌-◌, ℕ, List, [], ◌∷◌, ◌++◌, drop, length, take, refl, ap, sym, ◌∙◌, arith}
use Rattle.std.proofs.Common.{append_assoc, length-append, take-append-drop}
use Rattle.std.proofs.Math.Seq.{take-append-add}
use Rattle.std.proofs.lemmas.List.{drop-take}
use Rattle.sky_base.specs.Name.{big_endian}
use Rattle.ciel_journal.specs.Job.{IsPrefix}
use Rattle.ciel_log_file.specs.Whole.{RecordsTo}
use Rattle.ciel_log_file.proofs.Places.{records_on}
use Rattle.ciel_log_read.specs.File.{RecordAt}
use Rattle.ciel_log_records.specs.Records.{in_file}

block_long : (bytes : List ℕ) → length (in_file bytes) ≡ 4 + length bytes
block_long bytes =
    let four : length (big_endian 4 (length bytes)) ≡ 4 = refl in
    let long : length (in_file bytes) ≡ length (big_endian 4 (length bytes)) + length bytes = length-append (big_endian 4 (length bytes)) bytes in
    omega (arith, four, long)

-- from one place on, so many
drop_in : (log : List ℕ) (at to : ℕ) → at ≤ to → drop at (take to log) ≡ take (to - at) (drop at log)
drop_in log at to l =
    let same : at + (to - at) ≡ to = omega (arith, l) in
    ap (λ n. drop at (take n log)) (sym same) ∙ drop-take at (to - at) log

pub record_cut : (log : List ℕ) (at : ℕ) (bytes : List ℕ) (next to : ℕ) → RecordAt log at bytes next → next ≤ to → RecordAt (take to log) at bytes next
record_cut log at bytes next to r l =
    let behind = r.behind in
    let long = block_long bytes in
    let same : to - at ≡ length (in_file bytes) + (to - next) = omega (arith, behind, long, l) in
    record {
      fits = r.fits;
      here = drop_in log at to (omega (arith, behind, l)) ∙ (ap (take (to - at)) r.here
          ∙ (ap (λ n. take n (in_file bytes ++ drop next log)) same ∙ (take-append-add (in_file bytes) (drop next log) (to - next)
          ∙ ap (λ z. in_file bytes ++ z) (sym (drop_in log next to l)))));
      behind = r.behind;
    }

pub records_cut : (log : List ℕ) (at : ℕ) (xs : List (List ℕ)) (here to : ℕ) → RecordsTo log at xs here → here ≤ to → RecordsTo (take to log) at xs here
records_cut log at [] here to e l = e
records_cut log at (x ∷ xs) here to r l =
    let on = records_on log r.0 xs here r.2 in
    (r.0, record_cut log at x r.0 to r.1 (omega (arith, on, l)), records_cut log r.0 xs here to r.2 l)

-- what begins some bytes, cut, begins them
pub cut_prefix : (log all : List ℕ) (n : ℕ) → IsPrefix log all → IsPrefix (take n log) all
cut_prefix log all n p =
    (drop n log ++ p.0, sym (append_assoc (take n log) (drop n log) p.0) ∙ (ap (λ z. z ++ p.0) (take-append-drop n log) ∙ p.1))
