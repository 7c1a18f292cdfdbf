use Rattle.ciel_master_safe.proofs.TurnsLemmas.{loss_turns, missed_turns, opened_works, report_turns, start_turns, thrown_turns}
use Rattle.ciel_master_safe.proofs.turns_come_to_an_end.Goals as goal

pub returns : goal.returns
returns c =
    record {
      opened = λ digest shelves sc p main one named desc wide. opened_works digest shelves sc p main one named desc wide;
      loss = λ digest shelves sc inputs b slots a loss w due. loss_turns digest shelves sc inputs b slots a loss w due;
      start = λ digest shelves sc inputs b slots a task w run idle. start_turns digest shelves sc inputs b slots a task w run idle;
      thrown = λ digest shelves sc inputs b slots a w x i e. thrown_turns digest shelves sc inputs b slots a w x i e;
      report = λ digest shelves sc inputs b slots a w x i found spawned how f no all going. report_turns digest shelves sc inputs b slots a w x i
          found spawned how f no all going;
      missed = λ digest shelves sc inputs b slots a w x i found name loss m. missed_turns digest shelves sc inputs b slots a w x i found name loss m;
    }
