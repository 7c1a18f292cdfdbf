-- What stands first and passes a test passes it.
use Rattle.std.specs.Char.{is_ascii_digit}
use Rattle.sky_text.specs.Lexing.{goes_on_name}
use Rattle.sky_text.proofs.Leaves.{pass_while}
use Rattle.sky_text.proofs.scan.token.Goals as goal

pub name-requires : goal.name-requires
name-requires c = rw c.name_len-len.ensures (pass_while goes_on_name c.args.bytes.now)

pub number-requires : goal.number-requires
number-requires c = rw c.digits_len-len.ensures (pass_while is_ascii_digit c.args.bytes.now)
