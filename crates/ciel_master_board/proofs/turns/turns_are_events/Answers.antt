use Rattle.ciel_master_board.proofs.HandedLemmas.{fewer_orders}
use Rattle.ciel_master_board.proofs.TurnEvents.{loss_turns, missed_turns, opened_runs, report_turns, start_turns}
use Rattle.ciel_master_board.proofs.turns.turns_are_events.Goals as goal

pub returns : goal.returns
returns g c =
    record {
      opened = λ s is p main named lower. opened_runs s is p main named lower;
      loss = λ s is h b going sound runs slots a loss w due. loss_turns s is h b going sound runs slots a loss w due;
      start = λ s is h b going sound runs slots handed a x w p. start_turns s is h b going sound runs slots handed a x w p;
      report = λ s is h b going sound runs rest slots a w x out spawned end p none all. report_turns s is h b going sound runs x out rest slots a w
          spawned end p none all;
      missed = λ s is h b going sound runs rest slots a w x out name loss m. missed_turns s is h b going sound runs x out rest slots a w name loss
          m;
      thrown = λ s h slots w a. fewer_orders s h h slots a (λ o j. j) w;
    }
