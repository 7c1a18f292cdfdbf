-- The bytes of the number read are the bytes that it was read from.
use Rattle.std.proofs.Common.{rules, arith, ◌≡◌, ◌<◌, ◌^◌, ℕ, length, get_or, ap, ◌∙◌}
use Rattle.std.specs.Int.{w64, cast_signed, cast_unsigned}
use Rattle.sky_base.specs.Name.{bytes_of_int}
use Rattle.ciel_name.proofs.Numbers.{int_read, signed_twice}
use Rattle.ciel_name.proofs.reader.int_of.Goals as goal

pub returns : goal.returns
returns c =
    let n = c.from_be_bytes.result in
    let fits : n < 2 ^ 64 = search rules in
    let len : length c.args.bytes ≡ 8 = search rules in
    let small : (i : ℕ) → get_or c.args.bytes i 0 < 256 = search rules in
    ap (λ z. bytes_of_int (cast_signed w64 (cast_unsigned w64 z))) c.cast_signed.ensures
    ∙ ap bytes_of_int (signed_twice n fits)
    ∙ int_read c.args.bytes n len small fits c.from_be_bytes.ensures
