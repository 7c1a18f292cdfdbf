use Rattle.ciel_master_board.proofs.EventsFollowed.{lost_follows}
use Rattle.ciel_master_board.proofs.ReportsFollowed.{clash_follows, overflow_follows, report_follows}
use Rattle.ciel_master_board.proofs.reports_follow.Goals as goal

pub returns : goal.returns
returns g c =
    record {
      accepted = λ s is h b sound f going x o k spawned end taken none all lies. report_follows s is h b sound f x o k spawned end taken going
          all none lies;
      clash = λ s is h b sound f going x o k spawned end taken given kept bytes w. clash_follows s is h b sound f x o k spawned end taken given
          kept bytes w;
      overflow = λ s is h b sound f going x o k spawned end taken given held w. overflow_follows s is h b sound f x o k spawned end taken given
          held w;
      lost = λ s is h b sound f going w loss count here planned reached. lost_follows s is h b sound f going w loss count here planned reached;
    }
