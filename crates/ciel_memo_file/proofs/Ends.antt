-- Bytes that stand in a file up to a place, and parts of the file that they are.
use Rattle.std.proofs.Common.{◌≡◌, ◌≤◌, ◌+◌, ◌-◌, ℕ, List, ◌++◌, drop, length, slice_range, take, ap, ap₂, sym, ◌∙◌, arith}
use Rattle.std.proofs.Common.{append_assoc, length-append, length-take-le}
use Rattle.std.proofs.Math.Seq.{drop-append_seam, take-append-add, take-append_seam}
use Rattle.std.proofs.lemmas.List.{take-take, take_all}
use Rattle.std.proofs.lemmas.Slice.{between_is}
use Rattle.ciel_memo_file.specs.Steps.{EndsWith}

-- what is left when the first bytes were read
pub behind : (file : List ℕ) (end : ℕ) (old read new : List ℕ) → EndsWith file end old → old ≡ read ++ new → EndsWith file end new
behind file end old read new h e = record {
  before = h.before ++ read;
  bytes = h.bytes ∙ ap (λ b. h.before ++ b) e ∙ sym (append_assoc h.before read new);
  within = h.within;
}

length_before : (file : List ℕ) (end : ℕ) (left : List ℕ) (h : EndsWith file end left) → end ≡ length h.before + length left
length_before file end left h = sym (length-take-le end file h.within) ∙ ap length h.bytes ∙ length-append h.before left

pub left_within : (file : List ℕ) (end : ℕ) (left : List ℕ) → EndsWith file end left → length left ≤ end
left_within file end left h = omega (arith, length_before file end left h)

pub held_within : (file : List ℕ) (end : ℕ) (held new : List ℕ) → EndsWith file end (held ++ new) → length held ≤ end - length new
held_within file end held new h = omega (arith, length_before file end (held ++ new) h, length-append held new)

pub end_within : (file : List ℕ) (end n : ℕ) (left : List ℕ) → EndsWith file end left → end - n ≤ length file
end_within file end n left h = omega (arith, h.within)

-- the bytes in front of what is left are a part of the file
pub part_held : (file : List ℕ) (end : ℕ) (held new : List ℕ) → EndsWith file end (held ++ new)
    → slice_range file (end - length new - length held) (end - length new) ≡ held
part_held file end held new h =
    let long = length_before file end (held ++ new) h in
    let two = length-append held new in
    let from : end - length new - length held ≡ length h.before = omega (arith, long, two) in
    let to : end - length new ≡ length (h.before ++ held) = omega (arith, long, two, length-append h.before held) in
    let below : length (h.before ++ held) ≤ end = omega (arith, long, two, length-append h.before held) in
    ap₂ (λ a b. slice_range file a b) from to
    ∙ between_is file (length h.before) (length (h.before ++ held))
    ∙ ap (drop (length h.before)) (
    sym (take-take (length (h.before ++ held)) end file below)
    ∙ ap (take (length (h.before ++ held))) (h.bytes ∙ sym (append_assoc h.before held new))
    ∙ take-append_seam (h.before ++ held) new
    )
    ∙ drop-append_seam h.before held

-- ---- what a file ends with

whole : (file front : List ℕ) (h : EndsWith file (length file) front) → file ≡ h.before ++ front
whole file front h = sym (take_all (length file) file (omega arith)) ∙ h.bytes

-- where it begins
pub place_before : (file front : List ℕ) (h : EndsWith file (length file) front) → length file - length front ≡ length h.before
place_before file front h = omega (arith, length_before file (length file) front h)

-- the first bytes of it are what the file ends with up to there
pub ends_front : (file front : List ℕ) (m end : ℕ) → EndsWith file (length file) front → m ≤ length front → end ≡ length file - length front + m
    → EndsWith file end (take m front)
ends_front file front m end h small is =
    let upto : end ≡ length h.before + m = omega (arith, is, place_before file front h) in
    record {
      before = h.before;
      bytes = ap₂ (λ (k : ℕ) (b : List ℕ). take k b) upto (whole file front h) ∙ take-append-add h.before front m;
      within = omega (arith, upto, small, length_before file (length file) front h);
    }

-- and they are a part of the file
pub part_front : (file front xs more : List ℕ) (at n : ℕ) → EndsWith file (length file) front → front ≡ xs ++ more → at ≡ length file - length front
    → n ≡ length xs → slice_range file at (at + n) ≡ xs
part_front file front xs more at n h e is long =
    let from : at ≡ length h.before = is ∙ place_before file front h in
    let many : at + n - at ≡ length xs = omega (arith, long) in
    ap₂ (λ (k : ℕ) (b : List ℕ). take k b) many
    (ap₂ (λ (k : ℕ) (b : List ℕ). drop k b) from (whole file front h) ∙ drop-append_seam h.before front ∙ e)
    ∙ take-append_seam xs more

pub ends_of : (file before front : List ℕ) → file ≡ before ++ front → EndsWith file (length file) front
ends_of file before front e = record { before = before; bytes = take_all (length file) file (omega arith) ∙ e; within = omega arith }
