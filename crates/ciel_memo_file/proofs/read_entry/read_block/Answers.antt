-- The part of the file is what was read.
use Rattle.std.proofs.Common.{rules, ◌≡◌, ◌++◌, ◌-◌, ℕ, List, ap, length, slice_range, subst, sym, ◌∙◌}
use Rattle.sky_base.specs.Name.{big_endian}
use Rattle.sky_frozen_bytes.specs.Codes.{ReadAs}
use Rattle.ciel_memo_key.specs.Keys.{block}
use Rattle.ciel_memo_file.specs.File.{IsBlock}
use Rattle.ciel_memo_file.specs.Steps.{EndsWith}
use Rattle.ciel_memo_file.proofs.Ends.{behind, part_held}
use Rattle.ciel_memo_file.proofs.read_entry.read_block.Goals as goal

pub returns-clause-block : goal.returns-clause-block
returns-clause-block c =
    let file = c.args.file.now in
    let held = c.in-Some-bytes.held.now in
    let new = c.bytes.new.self in
    let stands : EndsWith file c.args.end (held ++ new) =
    subst (EndsWith file c.args.end) c.in-Some-bytes.ensures.0
    (behind file c.args.end c.args.reader.now (big_endian 4 c.in-Some.count) c.number.new.self c.requires c.in-Some.ensures) in
    let is : c.in_ok-part.field-0 ≡ held =
    c.in_ok-part.ensures.part ∙ ap (λ (n : ℕ). slice_range file (c.args.end - n - length held) (c.args.end - n)) c.len.ensures
    ∙ part_held file c.args.end held new stands in
    let read : ReadAs block IsBlock c.args.reader.now held new = search rules in
    subst (λ (b : List ℕ). ReadAs block IsBlock c.args.reader.now b new) (sym is) read
