use Rattle.std.proofs.Common.{sym}
use Rattle.std.proofs.lemmas.Bool.{ne_eqb, eq-eqb}
use Rattle.std.proofs.lemmas.List.Sums.{position_or_len_is}
use Rattle.line_kit.specs.Numbers.{is_space}
use Rattle.line_kit.proofs.numbers.number_end.Goals as goal

pub returns : goal.returns
returns c =
    let line = c.args.line.now in
    let end = c.place_of.result in
    sym (position_or_len_is is_space line end 0 c.place_of.ensures.bound (λ k l. ne_eqb _ 32 (c.place_of.ensures.clean k l))
    (λ l. eq-eqb _ 32 (c.place_of.ensures.stops l)))
