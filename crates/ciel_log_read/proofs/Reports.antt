-- What a short record of a report tells has short parts and few of them.
use Rattle.std.proofs.Common.{◌≡◌, ◌<◌, ◌^◌, ◌+◌, ◌++◌, ℕ, List, [], ◌∷◌, length, arith}
use Rattle.std.proofs.lemmas.List.{length-append}
use Rattle.sky_base.specs.Name.{big_endian, canon, name_bytes}
use Rattle.sky_base.specs.Res.{Object}
use Rattle.sky_base.specs.Val.{Desc}
use Rattle.sky_base_law.specs.Tasks.{Each}
use Rattle.sky_frozen_bytes.specs.Codes.{Fits32}
use Rattle.ciel_name.specs.Descs.{IsDescData, IsObjectData}
use Rattle.ciel_name.specs.Object.{object_bytes}
use Rattle.ciel_log_read.specs.Recorded as read
use Rattle.ciel_log_read.specs.Recorded.{IsEnd, IsNamed, IsOutput, IsRecord, IsSpawned}
use Rattle.ciel_log_records.specs.Records.{HowEnded, block, counted, end_bytes, report_opening, report_record}
use Rattle.ciel_log_read.proofs.Sizes.{Short, back_short, counted_short, front_short, name_some, tail_short}

block_some : (bytes : List ℕ) → 0 < length (block bytes)
block_some bytes =
    let four : length (big_endian 4 (length bytes)) ≡ 4 = omega arith in
    let e = length-append (big_endian 4 (length bytes)) bytes in
    omega (arith, four, e)

-- ---- what was spawned and copied

each_spawned : (ds : List (Desc (List ℕ))) → Each IsDescData ds → Each (λ d. Short (block (canon d)) → IsSpawned d) ds
each_spawned [] h = tt
each_spawned (d ∷ ds) h = (λ l. (h.0, back_short (big_endian 4 (length (canon d))) (canon d) l), each_spawned ds h.1)

each_copied : (ns : List (List ℕ)) → Each IsNamed ns → Each (λ n. Short (name_bytes n) → IsNamed n) ns
each_copied [] h = tt
each_copied (n ∷ ns) h = (λ l. h.0, each_copied ns h.1)

each_output : (os : List (Object (List ℕ))) → Each IsObjectData os → Each (λ o. Short (block (object_bytes o)) → IsOutput o) os
each_output [] h = tt
each_output (o ∷ os) h = (λ l. (h.0, back_short (big_endian 4 (length (object_bytes o))) (object_bytes o) l), each_output os h.1)

-- ---- ends

pub made_fits : (os : List (Object (List ℕ))) → Each IsObjectData os → Short (end_bytes (HowEnded.made os)) → IsEnd (HowEnded.made os)
made_fits os h l =
    counted_short (λ o. block (object_bytes o)) IsOutput (λ o. block_some (object_bytes o)) os (each_output os h)
    (tail_short 1 (counted (λ o. block (object_bytes o)) os) l)

pub saved_fits : (j : ℕ) (stack : List ℕ) → Fits32 j → Short (end_bytes (HowEnded.saved j stack)) → IsEnd (HowEnded.saved j stack)
saved_fits j stack h l =
    let behind = back_short (big_endian 4 j) (block stack) (tail_short 2 (big_endian 4 j ++ block stack) l) in
    (h, back_short (big_endian 4 (length stack)) stack behind)

pub answered_fits : (bytes : List ℕ) → Short (end_bytes (HowEnded.answered bytes)) → IsEnd (HowEnded.answered bytes)
answered_fits bytes l = back_short (big_endian 4 (length bytes)) bytes (tail_short 3 (block bytes) l)

-- ---- reports

module _ (k : ℕ) (spawned : List (Desc (List ℕ))) (copied : List (List ℕ)) (how : HowEnded) where
  -- how it ended stands behind the opening
  pub end_short : Short (report_record k spawned copied how) → Short (end_bytes how)
  end_short l = back_short (report_opening k spawned copied) (end_bytes how) l

  pub report_fits : k < 2 ^ 64 → Each IsDescData spawned → Each IsNamed copied → IsEnd how → Short (report_record k spawned copied how)
      → IsRecord (read.reported k spawned copied how)
  report_fits number ds ns end l =
      let made : List ℕ = counted (λ d. block (canon d)) spawned in
      let copies : List ℕ = counted name_bytes copied in
      let opening = front_short (report_opening k spawned copied) (end_bytes how) l in
      let both = back_short (big_endian 8 k) (made ++ copies) (tail_short 82 (big_endian 8 k ++ (made ++ copies)) opening) in (
        number,
        (
          counted_short (λ d. block (canon d)) IsSpawned (λ d. block_some (canon d)) spawned (each_spawned spawned ds)
              (front_short made copies both),
          (counted_short name_bytes IsNamed name_some copied (each_copied copied ns) (back_short made copies both), end),
        ),
      )
