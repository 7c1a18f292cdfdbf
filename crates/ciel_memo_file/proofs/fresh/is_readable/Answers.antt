-- What was read is data, and it is what was written.
use Rattle.std.proofs.Common.{sym, ◌∙◌}
use Rattle.ciel_memo_file.proofs.Added.{read_again, same_args}
use Rattle.ciel_memo_file.proofs.fresh.is_readable.Goals as goal

pub returns-in-Ok-clause-args : goal.returns-in-Ok-clause-args
returns-in-Ok-clause-args c = λ h. same_args _ _ (sym c.is_same.ensures ∙ h) c.in-Ok.ensures.data

pub returns-in-Ok-clause-refused : goal.returns-in-Ok-clause-refused
returns-in-Ok-clause-refused c =
    λ none s. read_again _ _ c.is_same.result c.is_same.ensures
    (c.in-Ok.ensures.inverse _ s.args.spelled (sym (c.as_slice.ensures ∙ c.in_ok-bytes.ensures.bytes))) none
