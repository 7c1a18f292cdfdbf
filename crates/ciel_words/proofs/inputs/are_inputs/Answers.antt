use Rattle.std.proofs.Common.{◌≡◌, ◌&&◌, length, map, nat_le, rules, ◌∙◌}
use Rattle.std.specs.List.{list_all}
use Rattle.ciel_words.specs.Inputs.{all_apart, is_input, key_in, most_inputs}
use Rattle.ciel_words.proofs.Mapped.{inputs_behind}
use Rattle.ciel_words.proofs.inputs.are_inputs.Goals as goal

pub returns-then-name_inputs : goal.returns-then-name_inputs
returns-then-name_inputs c =
    let ws = c.args.words.now in
    let test : c.are_apart.result ≡ (nat_le (length ws) most_inputs
    && (list_all (λ w. is_input w.now) ws && all_apart (map (λ w. key_in w.now) ws))) = search rules in
    test ∙ inputs_behind ws

pub returns-else-name_inputs : goal.returns-else-name_inputs
returns-else-name_inputs c =
    let ws = c.args.words.now in
    let test : c.if-words-le-MOST_INPUTS.value ≡ (nat_le (length ws) most_inputs
    && (list_all (λ w. is_input w.now) ws && all_apart (map (λ w. key_in w.now) ws))) = search rules in
    test ∙ inputs_behind ws
