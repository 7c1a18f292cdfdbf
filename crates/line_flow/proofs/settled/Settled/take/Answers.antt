use Rattle.std.proofs.Common.{sym, subst}
use Rattle.line_flow.specs.Kept.{Keeps, KeptBlocks}
use Rattle.line_flow.specs.declared.settled.Settled.{Settled}
use Rattle.line_flow.proofs.KeptLaw.{seen-nothing}
use Rattle.line_flow.proofs.settled.Settled.take.Goals as goal

pub returns-in-Err-clause-keeps : goal.returns-in-Err-clause-keeps
returns-in-Err-clause-keeps c e args n drained seen some none h =
    let k = subst (λ (s : Settled). Keeps s e args n drained seen) c.in-Blocks.is h in
    subst (KeptBlocks c.take.new.self e args n drained) (sym (seen-nothing seen c.args.input)) (c.in-Err.ensures.err e args n drained seen k)
