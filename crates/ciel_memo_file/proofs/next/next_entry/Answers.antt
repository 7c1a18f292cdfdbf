-- The window has the front of the bytes, as many as an entry may have there.
use Rattle.std.proofs.Common.{◌≡◌, ◌≤◌, ℕ, List, ◌+◌, ◌-◌, ◌++◌, drop, flat_map, length, take, refl, ap, sym, ◌∙◌, subst, arith}
use Rattle.ciel_name.proofs.DecodeSteps.{refuses_more}
use Rattle.sky_frozen_bytes.specs.Codes.{NoneAs}
use Rattle.ciel_memo_key.specs.Keys.{block}
use Rattle.ciel_memo_file.specs.Entries.{Entry, entry_view}
use Rattle.ciel_memo_file.specs.File.{IsSpelled, entry_bytes, key_bytes}
use Rattle.ciel_memo_file.specs.Steps.{EndsWith}
use Rattle.ciel_memo_file.proofs.Ends.{ends_front, part_front}
use Rattle.ciel_memo_file.proofs.Windows.{key_front, key_length, most, next_read, none_within, read_length}
use Rattle.ciel_memo_file.proofs.next.next_entry.Goals as goal

pub returns-in-Err-clause-refused : goal.returns-in-Err-clause-refused
returns-in-Err-clause-refused c =
    let m = c.min-most.result in
    let is : m ≡ most c.args.front.now c.args.room = omega (arith, c.min.ensures, c.min-most.ensures) in
    refuses_more c.in-Err.refusal (λ none. none_within c.args.front.now c.args.room m is
    (subst (NoneAs entry_bytes IsSpelled) c.new-reader.ensures none)) c.in-Err.ensures.refused

pub read_entry-requires : goal.read_entry-requires
read_entry-requires c =
    let file = c.args.file.now in
    let front = c.args.front.now in
    let m = c.min-most.result in
    let small : m ≤ length front = omega (arith, c.min.ensures, c.min-most.ensures) in
    let end : length c.as_slice.result.now - length front + m ≡ length file - length front + m =
    ap (λ (b : List ℕ). length b - length front + m) c.as_slice.ensures in
    subst (EndsWith file (length c.as_slice.result.now - length front + m)) (sym c.new-reader.ensures)
    (ends_front file front m (length c.as_slice.result.now - length front + m) c.requires small end)

pub returns-clause-next : goal.returns-clause-next
returns-clause-next c =
    let file = c.args.file.now in
    let front = c.args.front.now in
    let m = c.min-most.result in
    let is : m ≡ most front c.args.room = omega (arith, c.min.ensures, c.min-most.ensures) in
    let e : Entry = entry_view c.in-Ok.entry in
    let new = c.read_entry.new.reader in
    let r = c.in-Ok.ensures.entry in
    let read : take m front ≡ entry_bytes e ++ new = sym c.new-reader.ensures ∙ r.0 in
    let long : m - c.len.result ≡ length (entry_bytes e) =
    read_length front c.args.room m c.len.result (m - c.len.result) e new is read c.len.ensures refl in
    let blocks : c.blocks_length.result ≡ length (flat_map block e.made) =
    c.blocks_length.ensures.length ∙ ap (λ (b : List (List ℕ)). length (flat_map block b)) c.as_slice-2.ensures.value in
    let at = length c.as_slice.result.now - length front in
    let key_long : m - c.len.result - c.blocks_length.result ≡ length (key_bytes e) =
    key_length e (m - c.len.result) c.blocks_length.result (m - c.len.result - c.blocks_length.result) long blocks refl in
    let key : c.of-key.result ≡ key_bytes e =
    c.of-key.ensures.bytes ∙ c.in_ok-part.ensures.part
    ∙ part_front file front (key_bytes e) (flat_map block e.made ++ (new ++ drop m front)) at (m - c.len.result - c.blocks_length.result) c.requires
    (key_front front m e new read) (ap (λ (b : List ℕ). length b - length front) c.as_slice.ensures) key_long in
    next_read front c.args.room m e new c.of-key.result (m - c.len.result) _ is (read, r.1) key long refl
