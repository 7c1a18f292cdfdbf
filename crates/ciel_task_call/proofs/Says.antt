-- What goes through the waits of an order says what the job does.
use Rattle.std.proofs.Common.{refl}
use Rattle.sky_base.specs.Name.{digested}
use Rattle.ciel_journal_job.specs.Inner.{real_inner}
use Rattle.ciel_journal_job.specs.Real.{back}
use Rattle.ciel_task_inputs.specs.JournalWalksLaws.{lower, the}
use Rattle.ciel_task_inputs.proofs.WalkResults.{says_more, walks_true}
use Rattle.sky_machine_through.specs.Steps.{stop_of}
use Rattle.ciel_task_call.specs.Saying.{ThroughSays}
use Rattle.ciel_task_call.proofs.Walks.{walked}

pub says_where : ThroughSays
says_where digest mark frozen job around plain alike writes o finds old new s before after begins through =
    let w = walked digest job.script finds old new s before after through in
    let tag = digested digest in
    record {
      made = w.made;
      grew = w.grew;
      says = says_more (the tag mark frozen job around) (real_inner job around) (lower tag mark frozen job around) o _ _ _
          (λ h. (h.0, λ q p. h.1 q (w.passes job around (back o.task) refl alike writes q p)))
          (walks_true tag mark frozen job around plain o finds old begins w.made (stop_of s new)
          (w.walk job around (back o.task) refl alike writes));
    }
