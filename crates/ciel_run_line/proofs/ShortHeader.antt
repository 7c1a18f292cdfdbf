-- The header of a line's log is short.
use Rattle.std.proofs.Common.{◌≡◌, ◌≤◌, ◌+◌, ◌*◌, ◌++◌, ℕ, List, [], ◌∷◌, Bool, length, map, refl, arith}
use Rattle.std.proofs.lemmas.List.{length-append}
use Rattle.std.specs.List.{AllByRecursion, flat_map}
use Rattle.sha1.specs.Sha1.{digest_bytes, sha1}
use Rattle.sky_base.specs.Name.{big_endian, bytes_of_text}
use Rattle.ciel_log_records.specs.Records.{counted, header_record, in_file, input_bytes, loss_bytes, namer_byte}

mark_length : (m : List ℕ) → length (sha1 m) ≡ 20
unfolding sha1 digest_bytes
mark_length m = refl

four : (n : ℕ) → length (big_endian 4 n) ≡ 4
four n = refl

eight : (n : ℕ) → length (big_endian 8 n) ≡ 8
eight n = refl

loss_lengths : (ls : List (ℕ × ℕ)) → length (flat_map loss_bytes ls) ≤ 8 * length ls
loss_lengths [] = omega arith
loss_lengths (l ∷ ls) =
    let rec = loss_lengths ls in
    let all : length (flat_map loss_bytes (l ∷ ls)) ≡ length (loss_bytes l) + length (flat_map loss_bytes ls) =
    length-append (loss_bytes l) (flat_map loss_bytes ls) in
    let one : length (loss_bytes l) ≡ 8 = refl in
    omega (arith, rec, all, one)

abbrev pub ShortKeys : List (List ℕ × List ℕ) → Type 0
ShortKeys is = AllByRecursion (λ (i : List ℕ × List ℕ). length i.0 ≤ 64) is

input_lengths : (is : List (List ℕ × List ℕ)) → ShortKeys is → length (flat_map input_bytes is) ≤ 88 * length is
input_lengths [] s = omega arith
input_lengths (i ∷ is) s =
    let rec = input_lengths is s.1 in
    let all : length (flat_map input_bytes (i ∷ is)) ≡ length (input_bytes i) + length (flat_map input_bytes is) =
    length-append (input_bytes i) (flat_map input_bytes is) in
    let one : length (input_bytes i) ≡ length (bytes_of_text i.0) + length (sha1 i.1) = length-append (bytes_of_text i.0) (sha1 i.1) in
    let text : length (bytes_of_text i.0) ≡ length (big_endian 4 (length i.0)) + length i.0 = length-append (big_endian 4 (length i.0)) i.0 in
    let key = s.0 in
    let mark = mark_length i.1 in
    let count = four (length i.0) in
    omega (arith, rec, all, one, text, key, mark, count)

counted_length : {A : Type 0} (spell : A → List ℕ) (xs : List A) → length (counted spell xs) ≡ 4 + length (flat_map spell xs)
counted_length spell xs =
    let all = length-append (big_endian 4 (length xs)) (flat_map spell xs) in
    let count = four (length xs) in
    omega (arith, all, count)

pub short_header : (workers seed : ℕ) (losses : List (ℕ × ℕ)) (short : Bool) (source : List ℕ) (inputs : List (List ℕ × List ℕ)) → length losses ≤ 64
    → length inputs ≤ 256 → ShortKeys inputs → length (in_file (header_record workers seed losses short source inputs)) ≤ 268435456
short_header workers seed losses short source inputs few_losses few_inputs keys =
    let last = sha1 source ++ counted input_bytes inputs in
    let middle = counted loss_bytes losses ++ (namer_byte short ∷ last) in
    let rest = big_endian 8 seed ++ middle in
    let whole = header_record workers seed losses short source inputs in
    let a : length last ≡ length (sha1 source) + length (counted input_bytes inputs) = length-append (sha1 source) (counted input_bytes inputs) in
    let b : length middle ≡ length (counted loss_bytes losses) + (1 + length last) =
    (let e = length-append (counted loss_bytes losses) (namer_byte short ∷ last) in omega (arith, e)) in
    let c : length rest ≡ 8 + length middle = (let e = length-append (big_endian 8 seed) middle in omega (arith, e, eight seed)) in
    let d : length whole ≡ 1 + (4 + length rest) =
    (let e = length-append (big_endian 4 workers) rest in omega (arith, e, four workers)) in
    let f : length (in_file whole) ≡ 4 + length whole =
    (let e = length-append (big_endian 4 (length whole)) whole in omega (arith, e, four (length whole))) in
    let mark = mark_length source in
    let ls = counted_length loss_bytes losses in
    let is = counted_length input_bytes inputs in
    let l = loss_lengths losses in
    let i = input_lengths inputs keys in
    omega (arith, a, b, c, d, f, mark, ls, is, l, i, few_losses, few_inputs)
