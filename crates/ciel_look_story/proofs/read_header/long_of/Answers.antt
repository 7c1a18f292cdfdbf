-- The bytes of the number are those that were read.
use Rattle.std.proofs.Common.{◌<◌, ◌≡◌, ℕ, length, get_or, rules, sym, ◌∙◌}
use Rattle.std.proofs.lemmas.Nat.{be_bytes_8}
use Rattle.ciel_name.proofs.Numbers.{high_first-is}
use Rattle.ciel_look_story.proofs.read_header.long_of.Goals as goal

pub returns : goal.returns
returns c =
    let n = c.from_be_bytes.result in
    let len : length c.args.bytes ≡ 8 = search rules in
    let small : (i : ℕ) → get_or c.args.bytes i 0 < 256 = search rules in
    sym (high_first-is 8 n) ∙ be_bytes_8 c.args.bytes n len small c.from_be_bytes.ensures
