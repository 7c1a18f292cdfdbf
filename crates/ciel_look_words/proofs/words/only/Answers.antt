-- Where there are several pairs.
use Rattle.std.proofs.Common.{ap, arith, sym, ◌∙◌}
use Rattle.ciel_look_words.specs.Words.{only}
use Rattle.ciel_look_words.proofs.KeptBytes.{only_many}
use Rattle.ciel_look_words.proofs.words.only.Goals as goal

pub returns-in_default-2 : goal.returns-in_default-2
returns-in_default-2 c =
    sym (ap only (sym c.as_slice.ensures.pairs) ∙ only_many c.as_slice.result.now (omega (arith, c.in_default.len_at_least)))
