use Rattle.ciel_journal.specs.Job.{In}
use Rattle.ciel_journal.proofs.Next.{not_end, one_list, one_wait}
use Rattle.ciel_journal.proofs.law.next_is_one.Goals as goal

pub returns : goal.returns
returns g c =
    record {
      one = λ job laws. record {
        wait = λ S t from j i r q a b. (one_wait job laws (λ d. In d S) t from j i r q a b, one_list job laws (λ d. In d S) t from j i r q a b);
        end = λ S t from j r a b. not_end job laws (λ d. In d S) t from j r a b;
      };
    }
