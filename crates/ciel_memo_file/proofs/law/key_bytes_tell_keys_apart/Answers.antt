use Rattle.ciel_memo_file.proofs.Spelling.{one_key}
use Rattle.ciel_memo_file.proofs.law.key_bytes_tell_keys_apart.Goals as goal

pub returns : goal.returns
returns c = one_key
