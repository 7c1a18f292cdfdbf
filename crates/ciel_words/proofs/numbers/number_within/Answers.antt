use Rattle.std.proofs.Common.{◌≡◌, true, sym, ◌∙◌, arith}
use Rattle.ciel_words.specs.Values.{is_number}
use Rattle.ciel_words.proofs.Parsed.{not_parsed}
use Rattle.ciel_words.proofs.numbers.number_within.Goals as goal

pub returns-in_default-clause-value : goal.returns-in_default-clause-value
returns-in_default-clause-value c =
    let digits : is_number c.args.text.now ≡ true = sym c.is_number.ensures ∙ c.if-not-is_number.false in
    sym (not_parsed c.args.low c.args.high c.args.text.now c.parse.result _ digits (omega arith) c.parse.ensures.value.0 c.in_default.is)
