-- Entries that are read from a window.
use Rattle.std.proofs.Common.{◌≡◌, ◌≤◌, ◌<◌, ◌+◌, ◌-◌, min, ℕ, List, ◌++◌, drop, flat_map, get_or, length, take, ap, sym, ◌∙◌, arith}
use Rattle.std.proofs.Common.{append_assoc, length-append, length-take, take-append-drop}
use Rattle.std.proofs.Math.Seq.{drop-append_seam, take-append-add}
use Rattle.std.proofs.lemmas.List.{take_rest}
use Rattle.std.proofs.lemmas.List.Folds.{length-flat_map-take}
use Rattle.sky_base.specs.Name.{big_endian}
use Rattle.sky_frozen_bytes.specs.Codes.{NoneAs, ReadAs}
use Rattle.ciel_memo_key.specs.Keys.{block}
use Rattle.ciel_memo_file.specs.Entries.{Entry}
use Rattle.ciel_memo_file.specs.File.{IsSpelled, IsWhole, entry_bytes, key_bytes, most_of_an_entry}
use Rattle.ciel_memo_file.specs.Steps.{NextRead, NoneWithin}

-- the window
abbrev pub most : List ℕ → ℕ → ℕ
most front room = min (min (length front) room) most_of_an_entry

within : (front : List ℕ) (room : ℕ) (e : Entry) (more : List ℕ) → IsWhole e → length (entry_bytes e) ≤ room → front ≡ entry_bytes e ++ more
    → length (entry_bytes e) ≤ most front room
within front room e more w f h =
    let long : length front ≡ length (entry_bytes e) + length more = ap length h ∙ length-append (entry_bytes e) more in
    omega (arith, long, f, w.short)

pub none_within : (front : List ℕ) (room m : ℕ) → m ≡ most front room → NoneAs entry_bytes IsSpelled (take m front) → NoneWithin room front
none_within front room m is none e more w f h =
    let big : length (entry_bytes e) ≤ m = omega (arith, is, within front room e more w f h) in
    let split : m ≡ length (entry_bytes e) + (m - length (entry_bytes e)) = omega (arith, big) in
    none e (take (m - length (entry_bytes e)) more) w.spelled
    (ap (λ b. take m b) h ∙ ap (λ k. take k (entry_bytes e ++ more)) split ∙ take-append-add (entry_bytes e) more (m - length (entry_bytes e)))

-- an entry that stands in front of the window
pub short : (front : List ℕ) (m : ℕ) (e : Entry) (new : List ℕ) → take m front ≡ entry_bytes e ++ new → (length (entry_bytes e) ≤ m)
    × (length (entry_bytes e) ≤ length front)
short front m e new h =
    let long : length (take m front) ≡ length (entry_bytes e) + length new = ap length h ∙ length-append (entry_bytes e) new in
    let cut : length (take m front) ≡ min m (length front) = length-take m front in
    (omega (arith, long, cut), omega (arith, long, cut))

-- what stands in front of the window stands in front
pub front_is : (front : List ℕ) (m : ℕ) (e : Entry) (new : List ℕ) → take m front ≡ entry_bytes e ++ new → front ≡ entry_bytes e ++ (new ++ drop m front)
front_is front m e new h =
    sym (take-append-drop m front) ∙ ap (λ b. b ++ drop m front) h ∙ append_assoc (entry_bytes e) new (drop m front)

pub key_front : (front : List ℕ) (m : ℕ) (e : Entry) (new : List ℕ) → take m front ≡ entry_bytes e ++ new
    → front ≡ key_bytes e ++ (flat_map block e.made ++ (new ++ drop m front))
key_front front m e new h = front_is front m e new h ∙ append_assoc (key_bytes e) (flat_map block e.made) (new ++ drop m front)

-- how much of the window was read, and how much of that is the key
pub read_length : (front : List ℕ) (room m left n : ℕ) (e : Entry) (new : List ℕ) → m ≡ most front room → take m front ≡ entry_bytes e ++ new
    → left ≡ length new → n ≡ m - left → n ≡ length (entry_bytes e)
read_length front room m left n e new is h l d =
    let long : length (take m front) ≡ length (entry_bytes e) + length new = ap length h ∙ length-append (entry_bytes e) new in
    let cut : length (take m front) ≡ min m (length front) = length-take m front in
    omega (arith, is, long, cut, l, d)

pub key_length : (e : Entry) (n blocks k : ℕ) → n ≡ length (entry_bytes e) → blocks ≡ length (flat_map block e.made) → k ≡ n - blocks
    → k ≡ length (key_bytes e)
key_length e n blocks k h g d =
    let two : length (entry_bytes e) ≡ length (key_bytes e) + length (flat_map block e.made) =
    length-append (key_bytes e) (flat_map block e.made) in
    omega (arith, h, g, d, two)

pub next_read : (front : List ℕ) (room m : ℕ) (e : Entry) (new k : List ℕ) (n : ℕ) (rest : List ℕ) → m ≡ most front room
    → ReadAs entry_bytes IsSpelled (take m front) e new → k ≡ key_bytes e → n ≡ length (entry_bytes e)
    → rest ≡ take (length front - n) (drop n front) → NextRead room front e k rest
next_read front room m e new k n rest is r key long left =
    let whole = front_is front m e new r.0 in
    let behind : rest ≡ new ++ drop m front =
    left ∙ take_rest front n ∙ ap (λ i. drop i front) long ∙ ap (λ b. drop (length (entry_bytes e)) b) whole
    ∙ drop-append_seam (entry_bytes e) (new ++ drop m front) in
    record {
      bytes = whole ∙ ap (λ b. entry_bytes e ++ b) (sym behind);
      whole = record { spelled = r.1; short = omega (arith, is, (short front m e new r.0).0) };
      fits = omega (arith, is, (short front m e new r.0).0);
      key = key;
    }

-- ---- how many bytes blocks have

pub blocks_within : (bs : List (List ℕ)) (i : ℕ) (b : List ℕ) → i < length bs → b ≡ get_or bs i b
    → length (flat_map block (take i bs)) + (4 + length b) ≤ length (flat_map block bs)
blocks_within bs i b h is =
    let most = length-flat_map-take block bs i b h in
    let same : length (block (get_or bs i b)) ≡ 4 + length b =
    ap (λ x. length (block x)) (sym is) ∙ length-append (big_endian 4 (length b)) b in
    omega (arith, most, same)
