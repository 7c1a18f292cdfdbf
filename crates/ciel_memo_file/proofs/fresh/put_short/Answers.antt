-- The entry is whole, and no entry of the memo has its key.
use Rattle.std.proofs.Common.{◌≡◌, ◌≤◌, ◌++◌, List, ℕ, ap, refl, sym, length, ◌∙◌, arith, length-append}
use Rattle.ciel_memo_file.specs.Added.Puts.{left, put}
use Rattle.ciel_memo_file.specs.Entries.{Entry, entry_view}
use Rattle.ciel_memo_file.specs.File.{IsWhole, entry_bytes, most_of_an_entry}
use Rattle.ciel_memo_file.proofs.Added.{held, none_if, not_held, whole_short}
use Rattle.ciel_memo_file.proofs.fresh.put_short.Goals as goal

pub returns : goal.returns
returns c =
    let e : Entry = entry_view c.args.entry.now in
    let bytes : c.as_slice-bytes.result.now ≡ entry_bytes e = c.as_slice-bytes.ensures ∙ c.in_ok-put_entry.ensures.bytes
    ∙ ap (λ (b : List ℕ). b ++ entry_bytes e) c.new-whole.ensures in
    let text : c.raw.new.self ≡ c.args.out.now ++ entry_bytes e = c.in_ok-raw.ensures ∙ ap (λ (b : List ℕ). c.args.out.now ++ b) bytes in
    let short : length (entry_bytes e) ≤ most_of_an_entry = omega (arith, ap length bytes, c.if-bytes-gt-MOST_OF_AN_ENTRY.false) in
    let whole : IsWhole e = whole_short e c.requires.text c.requires.args short in
    put text whole
    (omega (
      arith,
      ap length text,
      length-append c.args.out.now (entry_bytes e),
      ap length bytes,
      ap length c.as_slice.ensures,
      c.if-as_slice-bytes.false,
    ))
    (not_held c.args.memo.now e c.requires.memo.whole whole (none_if _ (sym c.is_held.ensures ∙ c.if-is_held.false)))

pub returns-then-is_held : goal.returns-then-is_held
returns-then-is_held c =
    left refl
    (λ whole other. absurd (other (held c.args.memo.now (entry_view c.args.entry.now) (sym c.is_held.ensures ∙ c.if-is_held.true))))
