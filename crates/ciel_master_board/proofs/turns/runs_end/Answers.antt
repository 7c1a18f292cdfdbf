use Rattle.std.proofs.Common.{sym}
use Rattle.ciel_master_board.proofs.EndsLemmas.{clash_ends, lost_ends, overflow_ends}
use Rattle.ciel_master_board.proofs.TurnEvents.{shown_ends}
use Rattle.ciel_master_board.proofs.turns.runs_end.Goals as goal

pub returns : goal.returns
returns g c =
    record {
      shown = λ s is h b going sound runs rest x out root spawned cs p all. shown_ends s is h b going sound runs x out rest root spawned cs p all;
      clash = λ s is h b going sound runs x out spawned end p n kept given r. clash_ends s is h b sound runs x out spawned end p n kept given r;
      overflow = λ s is h b going sound runs x out spawned end p n held r. overflow_ends s is h b sound runs x out spawned end p n held r;
      lost = λ s is h b r all. lost_ends s is h b r all;
      driven = λ s h b r. (h, r.driven, sym r.follows.journal);
    }
