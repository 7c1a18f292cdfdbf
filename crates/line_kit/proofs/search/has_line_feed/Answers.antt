use Rattle.std.proofs.Common.{ℕ, length, nat_lt, sym, ap, ◌∙◌}
use Rattle.std.proofs.lemmas.Bool.{ne_eqb, eq-eqb}
use Rattle.std.proofs.lemmas.List.Sums.{position_or_len_is}
use Rattle.line_kit.specs.Lines.{is_feed}
use Rattle.line_kit.proofs.Digits.{any_position}
use Rattle.line_kit.proofs.search.has_line_feed.Goals as goal

pub returns : goal.returns
returns c =
    let text = c.args.text.now in
    let place = c.place_of.result in
    ap (λ (i : ℕ). nat_lt i (length text)) (sym
    (position_or_len_is is_feed text place 0 c.place_of.ensures.bound (λ k l. ne_eqb _ 10 (c.place_of.ensures.clean k l))
    (λ l. eq-eqb _ 10 (c.place_of.ensures.stops l))))
    ∙ sym (any_position is_feed text)
