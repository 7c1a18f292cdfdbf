use Rattle.std.proofs.Common.{ap, ◌∙◌}
use Rattle.ciel_journal.specs.History.{Plan}
use Rattle.ciel_log_file.specs.Sending.{nobody}
use Rattle.ciel_log_file.proofs.replay.replay_behind.Goals as goal

pub replay_from-requires-clause-nobody : goal.replay_from-requires-clause-nobody
replay_from-requires-clause-nobody g c =
    c.as_mut_slice-list.ensures.value ∙ (c.in_ok-out.ensures ∙ ap (λ (p : Plan). nobody p.workers) c.plan.ensures)
