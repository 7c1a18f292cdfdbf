-- What was read so far stands in front.
use Rattle.sky_frozen_bytes.specs.Codes.{ListRead}
use Rattle.ciel_memo_key.specs.Keys.{block}
use Rattle.ciel_memo_file.specs.File.{IsBlock}
use Rattle.ciel_memo_file.proofs.read_entry.read_blocks.Given as goal

abbrev pub invariant-loop-one : goal.invariant-loop-one
invariant-loop-one l = ListRead block IsBlock l._one l.initial.reader l.blocks.items l.reader
