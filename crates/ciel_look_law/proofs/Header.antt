-- Two headers that can be read are one where their bytes are.
use Rattle.std.proofs.Common.{◌≡◌, ℕ, List, [], ◌∷◌, ◌++◌, Bool, map, flat_map, refl, ap, ap₂, sym, ◌∙◌}
use Rattle.std.proofs.lemmas.List.{length-map}
use Rattle.sha1.specs.Sha1.{sha1}
use Rattle.sky_base.specs.Name.{big_endian}
use Rattle.sky_frozen_bytes.specs.Codes.{Counted, Fits32, Free}
use Rattle.sky_frozen_bytes.proofs.Codes.{both_free, counted_free, numbers_free}
use Rattle.ciel_log_records.specs.Records as records
use Rattle.ciel_log_records.specs.Records.{counted, header_record, loss_bytes}
use Rattle.ciel_log_read.specs.Recorded.{Fits64}
use Rattle.ciel_log_read.proofs.Pieces.{longs_free}
use Rattle.ciel_look_law.specs.Laws.{HeaderTold, head_of}
use Rattle.ciel_look_story.proofs.Heads.{inputs_free, losses_free, marks_free, namers_free}
use Rattle.ciel_look_told.specs.Head.{Head, IsHead, IsInput, IsMark, IsMarks, IsNamer, IsPlan, Marks, head_body, head_bytes, input_bytes, mark_bytes}
use Rattle.ciel_look_told.specs.Head.{marks_bytes, namer_bytes}

abbrev script_bytes : List ℕ × List (List ℕ × List ℕ) → List ℕ
script_bytes p = mark_bytes p.0 ++ counted input_bytes p.1

abbrev IsScript : List ℕ × List (List ℕ × List ℕ) → Type 0
IsScript p = IsMark p.0 × Counted IsInput p.1

all_marks_free : Free marks_bytes IsMarks
all_marks_free =
    both_free namer_bytes IsNamer script_bytes IsScript namers_free
    (both_free mark_bytes IsMark (counted input_bytes) (Counted IsInput) marks_free (counted_free input_bytes IsInput inputs_free))

abbrev planned_bytes : List (ℕ × ℕ) × Marks → List ℕ
planned_bytes p = counted loss_bytes p.0 ++ marks_bytes p.1

abbrev IsPlanned : List (ℕ × ℕ) × Marks → Type 0
IsPlanned p = IsPlan p.0 × IsMarks p.1

abbrev seeded_bytes : ℕ × (List (ℕ × ℕ) × Marks) → List ℕ
seeded_bytes p = big_endian 8 p.0 ++ planned_bytes p.1

abbrev IsSeeded : ℕ × (List (ℕ × ℕ) × Marks) → Type 0
IsSeeded p = Fits64 p.0 × IsPlanned p.1

heads_free : Free head_body IsHead
heads_free =
    both_free (big_endian 4) Fits32 seeded_bytes IsSeeded numbers_free
    (both_free (big_endian 8) Fits64 planned_bytes IsPlanned longs_free
    (both_free (counted loss_bytes) IsPlan marks_bytes IsMarks losses_free all_marks_free))

one_head : (a b : Head) → IsHead a → IsHead b → head_bytes a ≡ head_bytes b → a ≡ b
one_head a b p q e =
    let t : head_body a ≡ head_body b = cc in (heads_free a b [] [] p q (ap (λ z. z ++ []) t)).0

abbrev by_mark : List ℕ × List ℕ → List ℕ × List ℕ
by_mark input = (input.0, sha1 input.1)

inputs_are : (inputs : List (List ℕ × List ℕ)) → flat_map records.input_bytes inputs ≡ flat_map input_bytes (map by_mark inputs)
inputs_are [] = refl
inputs_are (i ∷ is) = ap (λ b. records.input_bytes i ++ b) (inputs_are is)

written : (workers seed : ℕ) (planned : List (ℕ × ℕ)) (short : Bool) (script : List ℕ) (inputs : List (List ℕ × List ℕ))
    → header_record workers seed planned short script inputs ≡ head_bytes (head_of workers seed planned short script inputs)
written workers seed planned short script inputs =
    ap (λ b. 72 ∷ (big_endian 4 workers ++ (big_endian 8 seed ++ (counted loss_bytes planned ++ (namer_bytes short ++ (sha1 script ++ b))))))
    (ap₂ (λ n b. big_endian 4 n ++ b) (sym (length-map inputs by_mark)) (inputs_are inputs))

pub header_told : HeaderTold
header_told workers seed planned short script inputs head p q e =
    one_head head (head_of workers seed planned short script inputs) q p (sym e ∙ written workers seed planned short script inputs)
