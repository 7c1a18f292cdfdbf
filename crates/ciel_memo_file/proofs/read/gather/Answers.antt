-- What is left is what the file ends with.
use Rattle.std.proofs.Common.{◌∙◌}
use Rattle.ciel_memo_file.specs.File.{file_bytes}
use Rattle.ciel_memo_file.specs.Steps.{seen}
use Rattle.ciel_memo_file.proofs.Ends.{ends_of}
use Rattle.ciel_memo_file.proofs.read.gather.Goals as goal

pub next-requires-clause-stands : goal.next-requires-clause-stands
next-requires-clause-stands c =
    ends_of c.args.file.now (file_bytes (seen c.loop-left.gathered)) c.loop-left.left.now (c.requires ∙ c.loop-left.invariant.bytes)
