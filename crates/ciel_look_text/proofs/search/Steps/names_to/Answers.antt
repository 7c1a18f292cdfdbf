-- Turned round.
use Rattle.std.proofs.Common.{ap, length, reverse, Some, sym, ◌∙◌}
use Rattle.ciel_look_text.specs.Steps.{named_from}
use Rattle.ciel_look_text.proofs.search.Steps.names_to.Goals as goal

pub returns : goal.returns
returns c =
    record {
      names = c.reverse.ensures.items
          ∙ ap reverse (c.in_ok-names.ensures.names ∙ ap (λ xs. named_from (length xs) xs (Some c.args.place)) c.as_slice.ensures.value);
    }
