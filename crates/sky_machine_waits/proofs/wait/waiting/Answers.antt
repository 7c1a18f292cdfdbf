use Rattle.std.proofs.Common.{◌≡◌, MatchOption, Some, None, sym, subst}
use Rattle.sky_machine_entries.specs.Entries.{wait_of}
use Rattle.sky_machine_waits.proofs.Innermost.{innermost}
use Rattle.sky_machine_waits.proofs.wait.waiting.Goals as goal

pub returns-in_ok-wait-in-Some : goal.returns-in_ok-wait-in-Some
returns-in_ok-wait-in-Some c =
    subst (λ x. MatchOption c.in_ok-wait-in-Some.wait (x ≡ None) (λ q. x ≡ Some (wait_of q)))
    (sym (innermost c.args.nodes.now c.args.entries.now c.in-Some.entry.now (sym c.in-Some.ensures.value))) c.in_ok-wait-in-Some.ensures
