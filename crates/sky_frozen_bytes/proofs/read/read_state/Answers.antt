use Rattle.std.proofs.Common.{◌≡◌, Bool, true, false, IsTrue, sym, ◌∙◌}
use Rattle.sky_state.specs.StateView.{stand_of}
use Rattle.sky_frozen_bytes.proofs.Parts.{no_stand, more_follows}
use Rattle.sky_frozen_bytes.proofs.read.read_state.Goals as goal

no_truth : (b : Bool) → b ≡ false → IsTrue b → ⊥
no_truth true e t = absurd cc
no_truth false e t = absurd cc

pub returns-else-is_empty-clause-refused : goal.returns-else-is_empty-clause-refused
returns-else-is_empty-clause-refused c =
    more_follows c.args.bytes.now c.in-Some.kind c.read_head.new.reader (stand_of c.in-Ok.state) c.read_kind.new.reader
    (sym c.new-reader.ensures ∙ c.in-Some.ensures) c.in-Ok.ensures.read
    (λ e. no_truth c.is_empty.result c.if-is_empty.false (c.is_empty.ensures.1 e))

pub returns-in-Err-NotValue-clause-refused : goal.returns-in-Err-NotValue-clause-refused
returns-in-Err-NotValue-clause-refused c =
    no_stand c.args.bytes.now c.in-Some.kind c.read_head.new.reader (sym c.new-reader.ensures ∙ c.in-Some.ensures)
    (rw c.in-Err-NotValue.field-0-is at c.in-Err-NotValue.ensures.refused)
