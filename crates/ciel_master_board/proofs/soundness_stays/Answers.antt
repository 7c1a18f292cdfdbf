use Rattle.ciel_master_board.proofs.SoundLemmas.{accepted_sound, lost_sound, opened_sound, sound_whole, started_sound}
use Rattle.ciel_master_board.proofs.soundness_stays.Goals as goal

pub returns : goal.returns
returns g c =
    record {
      opened = λ digest at p keys main one m e. opened_sound digest at p keys main one m e;
      whole = λ digest at b s. sound_whole digest at b s;
      started = λ digest at b s x w r i. started_sound digest at b s x w r i;
      accepted = λ digest at b s x k out spawned end fits all. accepted_sound digest at b s x k out spawned end fits all;
      lost = λ digest at b s w. lost_sound digest at b s w;
    }
