use Rattle.std.proofs.Common.{◌≡◌, ◌∷◌, ◌<◌, length, rules, sym, ap₂, ◌∙◌}
use Rattle.std.specs.List.{position_or_len, before_first, after_first}
use Rattle.ciel_words.specs.Values.{is_comma, pieces}
use Rattle.ciel_words.proofs.Pieces.{one_piece, more_pieces}
use Rattle.ciel_words.proofs.losses.first_piece.Goals as goal

pub returns-in-Some : goal.returns-in-Some
returns-in-Some c =
    let t = c.args.text.now in
    let piece : c.in-Some.piece.now ≡ before_first is_comma t = search rules in
    let rest : c.in-Some.rest.now ≡ after_first is_comma t = search rules in
    let there : position_or_len is_comma t < length t = search rules in
    record { pieces = more_pieces t there ∙ ap₂ (λ p r. p ∷ pieces r) (sym piece) (sym rest) }

pub returns-in-None : goal.returns-in-None
returns-in-None c =
    let t = c.args.text.now in
    let none : position_or_len is_comma t ≡ length t = search rules in
    record { pieces = one_piece t none }
