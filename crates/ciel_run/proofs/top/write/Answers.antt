-- An answer that was put whole was put in part.
use Rattle.std.proofs.Common.{ℕ, List, subst}
use Rattle.ciel_io.specs.Tells.{TellsPart}
use Rattle.ciel_io.proofs.Joined.{part_whole}
use Rattle.ciel_run_log.specs.Summary.{output_of}
use Rattle.ciel_run.proofs.top.write.Goals as goal

pub returns-in-Ok-clause-part : goal.returns-in-Ok-clause-part
returns-in-Ok-clause-part g c = λ failed.
    subst (λ (a : List ℕ). TellsPart (g.O.Sink.written c.args.out.now) (g.O.Sink.written c.put_answer.new.out)
    (output_of c.args.line.now.generate a)) c.as_slice.ensures
    (part_whole _ _ _ c.in-Ok.ensures.written)
