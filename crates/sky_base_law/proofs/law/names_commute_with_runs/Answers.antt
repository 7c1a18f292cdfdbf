use Rattle.std.proofs.Common.{ap, List, ℕ}
use Rattle.sky_base.specs.Val.{known}
use Rattle.sky_base.specs.Res.{Res, others}
use Rattle.sky_base.specs.See.{world_of}
use Rattle.sky_base_law.specs.Lower.{named_as}
use Rattle.sky_base_law.specs.NamesLaws.{Tag, RunsAlike, no_name}
use Rattle.sky_base_law.proofs.Low.{tag_low}
use Rattle.sky_base_law.proofs.LowLaw.{Rel, rel_rest}
use Rattle.sky_base_law.proofs.LowStack.{job_low, stack_low, segment_low, first_end_low, first_halt_low}
use Rattle.sky_base_law.proofs.law.names_commute_with_runs.Goals as goal

alike : (tag : Tag) (r : Res ⊥) (q : Res (List ℕ)) → Rel no_name tag r q → RunsAlike tag r q
alike tag r q h =
    record { makes = segment_low no_name tag r q h; waits = first_halt_low no_name tag r q h; ends = first_end_low no_name tag r q h }

pub returns-clause-call : goal.returns-clause-call
returns-clause-call c tag job around read reads f ca vs = alike tag _ _ (job_low job around tag read reads f ca vs)

pub returns-clause-rest : goal.returns-clause-rest
returns-clause-rest c tag job around read reads h os =
    alike tag _ _ (rel_rest no_name tag (world_of job.script around) (named_as tag) read (λ d. ap known (tag_low tag d)) reads others h.wait
    h.forms h.st os)

pub returns-clause-stack : goal.returns-clause-stack
returns-clause-stack c tag f j h = stack_low no_name tag f j h
