-- Where one block less stands in front than were asked for, no such blocks do.
use Rattle.std.proofs.Common.{arith, flat_map}
use Rattle.ciel_name.proofs.DecodeSteps.{refuses_more}
use Rattle.sky_frozen_bytes.proofs.Codes.{list_none}
use Rattle.ciel_memo_key.specs.Keys.{block}
use Rattle.ciel_memo_file.specs.File.{IsBlock}
use Rattle.ciel_memo_file.proofs.Ends.{behind}
use Rattle.ciel_memo_file.proofs.Spelling.{blocks_free}
use Rattle.ciel_memo_file.proofs.read_entry.read_blocks.Goals as goal

pub returns-in-Err-clause-refused : goal.returns-in-Err-clause-refused
returns-in-Err-clause-refused c =
    let l = c.loop-one in
    refuses_more c.in-Err.refusal (λ none. list_none block IsBlock blocks_free l._one c.args.count c.args.reader.now l.blocks.items l.reader
    l.invariant (omega arith) none) c.in-Err.ensures.refused

pub read_block-requires : goal.read_block-requires
read_block-requires c =
    let l = c.loop-one in
    behind c.args.file.now c.args.end c.args.reader.now (flat_map block l.blocks.items) l.reader c.requires l.invariant.0
