use Rattle.sky_base_law.specs.Nodes.{node_at}
use Rattle.sky_machine_waits.proofs.Found.{found, found_low}
use Rattle.sky_machine_waits.proofs.law.waits_are_found.Goals as goal

pub returns-clause-wait : goal.returns-clause-wait
returns-clause-wait c job around see f args vs j h is = found job around see f args vs j h is

pub returns-clause-named : goal.returns-clause-named
returns-clause-named c tag job around see f args vs j h is =
    found_low tag (λ i. node_at job.script i) h.forms h.wait (found job around see f args vs j h is)
