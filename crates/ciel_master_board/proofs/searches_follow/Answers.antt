use Rattle.ciel_master_board.proofs.SearchResults.{circle_follows, led_reached, runnable_ready}
use Rattle.ciel_master_board.proofs.searches_follow.Goals as goal

pub returns : goal.returns
returns g c =
    record {
      reached = λ s is h b sound f going x l. led_reached s is h b sound f x l;
      runnable = λ s is h b sound f going ts p. runnable_ready s is h b sound f ts p;
      circle = λ s is h b sound f going e ns c. circle_follows s is h b sound f e ns c;
    }
