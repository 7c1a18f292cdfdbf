use Rattle.ciel_master_safe.proofs.SafeLemmas.{loss_safe, opened_safe, report_safe, start_safe}
use Rattle.ciel_master_safe.proofs.states_stay_safe.Goals as goal

pub returns : goal.returns
returns c =
    record {
      opened = λ digest shelves sc p main one named desc wide. opened_safe digest shelves sc p main one named desc wide;
      started = λ digest shelves sc inputs b s task w run idle. start_safe digest shelves sc inputs b s task w run idle;
      accepted = λ digest shelves sc inputs b s x k out spawned how f all. report_safe digest shelves sc inputs b s x k out spawned how f all;
      lost = λ digest shelves sc inputs b s w. loss_safe digest shelves sc inputs b s w;
    }
