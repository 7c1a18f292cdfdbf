use Rattle.ciel_memo.proofs.Plain.{none_is_plain, right_is_plain, right_stays}
use Rattle.ciel_memo.proofs.law.right_entries_change_nothing.Goals as goal

pub returns : goal.returns
returns c = record { none = none_is_plain; right = right_is_plain; stays = right_stays }
