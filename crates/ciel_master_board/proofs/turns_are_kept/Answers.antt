use Rattle.ciel_master_board.proofs.DueEvents.{loss_runs, missed_runs, report_runs, start_runs}
use Rattle.ciel_master_board.proofs.turns_are_kept.Goals as goal

pub returns : goal.returns
returns g c =
    record {
      start = λ s is h b sound runs going x w p. start_runs s is h b sound runs going x w p;
      report = λ s is h b sound runs going rest x o k spawned end taken none all lies. report_runs s is h b sound runs going rest x o k spawned
          end taken none all lies;
      missed = λ s is h b sound runs going rest x o k is_out is_open order name loss fits. missed_runs s is h b sound runs going rest x o k
          is_out is_open order name loss fits;
      loss = λ s is h b sound runs going w loss d. loss_runs s is h b sound runs going w loss d;
    }
