use Rattle.ciel_master_board.proofs.HandedLemmas.{had_out, none_out}
use Rattle.ciel_master_board.proofs.TurnEvents.{out_is_open, promised_taken}
use Rattle.ciel_master_board.proofs.turns.orders_are_kept.Goals as goal

pub returns : goal.returns
returns g c =
    record {
      out = λ b slots k w x y i e. had_out b slots k w x y i e;
      is_open = λ s is h b going sound runs slots a w x i e. out_is_open s is h b going sound runs slots a w x i e;
      taken = λ s h b x out spawned end p. promised_taken s h b x out spawned end p;
      none = λ b slots k e. none_out b slots k e;
    }
