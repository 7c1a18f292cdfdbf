use Rattle.ciel_memo_file.proofs.Files.{never_both, one_list, one_place}
use Rattle.ciel_memo_file.proofs.law.files_are_told_in_one_way.Goals as goal

pub returns : goal.returns
returns c = record { list = one_list; both = never_both; place = one_place }
