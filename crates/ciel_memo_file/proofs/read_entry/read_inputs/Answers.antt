-- Where so many blocks don't stand behind their number, no such blocks do.
use Rattle.std.proofs.Common.{arith}
use Rattle.ciel_name.proofs.DecodeSteps.{refuses_more}
use Rattle.sky_base.specs.Name.{big_endian}
use Rattle.sky_frozen_bytes.proofs.Codes.{no_items}
use Rattle.ciel_memo_key.specs.Keys.{block}
use Rattle.ciel_memo_file.specs.File.{IsBlock}
use Rattle.ciel_memo_file.proofs.Ends.{behind}
use Rattle.ciel_memo_file.proofs.read_entry.read_inputs.Goals as goal

pub returns-in-Err-clause-refused : goal.returns-in-Err-clause-refused
returns-in-Err-clause-refused c =
    refuses_more c.in-Err.refusal (no_items block IsBlock c.args.reader.now c.in-Some.count c.number.new.self c.in-Some.ensures (omega arith))
    c.in-Err.ensures.refused

pub read_blocks-requires : goal.read_blocks-requires
read_blocks-requires c =
    behind c.args.file.now c.args.end c.args.reader.now (big_endian 4 c.in-Some.count) c.number.new.self c.requires c.in-Some.ensures
