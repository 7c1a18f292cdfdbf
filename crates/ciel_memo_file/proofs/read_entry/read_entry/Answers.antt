-- Where a part is lacking behind those that were read, no entry stands there.
use Rattle.std.proofs.Common.{arith}
use Rattle.sky_base.specs.Name.{big_endian, bytes, bytes_of_text}
use Rattle.sky_base.specs.View.{view}
use Rattle.sky_frozen_bytes.specs.Bytes.{counted}
use Rattle.ciel_memo_key.specs.Keys.{block}
use Rattle.ciel_name.proofs.DecodeSteps.{refuses_more}
use Rattle.ciel_memo_file.proofs.Ends.{behind}
use Rattle.ciel_memo_file.proofs.Spelling.{entry_read, no_args, no_inputs, no_made, no_number, no_text}
use Rattle.ciel_memo_file.proofs.read_entry.read_entry.Goals as goal

pub read_inputs-requires : goal.read_inputs-requires
read_inputs-requires c =
    let file = c.args.file.now in
    let end = c.args.end in
    let text = behind file end c.args.reader.now (bytes_of_text c.in-Ok.executor) c.read_text.new.reader c.requires c.in-Ok.ensures.text.0 in
    let args = behind file end c.read_text.new.reader (bytes (view c.in-Ok-read_args.args)) c.read_args.new.reader text c.in-Ok-read_args.ensures.value.0 in
    behind file end c.read_args.new.reader (big_endian 4 c.in-Some.outputs) c.number.new.self args c.in-Some.ensures

pub read_blocks-requires : goal.read_blocks-requires
read_blocks-requires c =
    let file = c.args.file.now in
    let end = c.args.end in
    let text = behind file end c.args.reader.now (bytes_of_text c.in-Ok.executor) c.read_text.new.reader c.requires c.in-Ok.ensures.text.0 in
    let args = behind file end c.read_text.new.reader (bytes (view c.in-Ok-read_args.args)) c.read_args.new.reader text c.in-Ok-read_args.ensures.value.0 in
    let number = behind file end c.read_args.new.reader (big_endian 4 c.in-Some.outputs) c.number.new.self args c.in-Some.ensures in
    behind file end c.number.new.self (counted block c.in-Ok-read_inputs.inputs.items) c.read_inputs.new.reader number c.in-Ok-read_inputs.ensures.blocks.0

pub returns-in-Err-clause-refused : goal.returns-in-Err-clause-refused
returns-in-Err-clause-refused c = refuses_more c.in-Err.refusal (no_text c.args.reader.now) c.in-Err.ensures.refused

pub returns-in-Err-read_args-clause-refused : goal.returns-in-Err-read_args-clause-refused
returns-in-Err-read_args-clause-refused c =
    refuses_more c.in-Err-read_args.refusal (no_args c.args.reader.now c.in-Ok.executor c.read_text.new.reader c.in-Ok.ensures.text)
    c.in-Err-read_args.ensures.refused

pub returns-in_default-clause-refused : goal.returns-in_default-clause-refused
returns-in_default-clause-refused c =
    no_number c.args.reader.now c.in-Ok.executor c.read_text.new.reader (view c.in-Ok-read_args.args) c.read_args.new.reader c.in-Ok.ensures.text
    c.in-Ok-read_args.ensures.value c.in_default.ensures

pub returns-in-Err-read_inputs-clause-refused : goal.returns-in-Err-read_inputs-clause-refused
returns-in-Err-read_inputs-clause-refused c =
    refuses_more c.in-Err-read_inputs.refusal (no_inputs c.args.reader.now c.in-Ok.executor c.read_text.new.reader
    (view c.in-Ok-read_args.args) c.read_args.new.reader c.in-Some.outputs c.number.new.self c.in-Ok.ensures.text
    c.in-Ok-read_args.ensures.value c.in-Some.ensures (omega arith)) c.in-Err-read_inputs.ensures.refused

pub returns-in-Err-read_blocks-clause-refused : goal.returns-in-Err-read_blocks-clause-refused
returns-in-Err-read_blocks-clause-refused c =
    refuses_more c.in-Err-read_blocks.refusal (no_made c.args.reader.now c.in-Ok.executor c.read_text.new.reader
    (view c.in-Ok-read_args.args) c.read_args.new.reader c.in-Some.outputs c.number.new.self c.in-Ok-read_inputs.inputs.items
    c.read_inputs.new.reader c.in-Ok.ensures.text c.in-Ok-read_args.ensures.value c.in-Some.ensures (omega arith)
    c.in-Ok-read_inputs.ensures.blocks) c.in-Err-read_blocks.ensures.refused

pub returns-clause-entry : goal.returns-clause-entry
returns-clause-entry c =
    entry_read c.args.reader.now c.in-Ok.executor c.read_text.new.reader (view c.in-Ok-read_args.args) c.read_args.new.reader
    c.in-Some.outputs c.number.new.self c.in-Ok-read_inputs.inputs.items c.read_inputs.new.reader c.in-Ok.ensures.text
    c.in-Ok-read_args.ensures.value c.in-Some.ensures (omega arith) c.in-Ok-read_inputs.ensures.blocks c.in-Ok-read_blocks.made.items
    c.read_blocks.new.reader c.in-Ok-read_blocks.ensures.blocks
