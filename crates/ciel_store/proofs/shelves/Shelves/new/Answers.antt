use Rattle.std.proofs.Common.{◌∙◌}
use Rattle.ciel_store.proofs.Zeros.{opens_zeros}
use Rattle.ciel_store.proofs.shelves.Shelves.new.Goals as goal

pub of_words-requires : goal.of_words-requires
of_words-requires g c = opens_zeros c.from.result c.args.workers c.as_slice.result.now
    (c.as_slice.ensures.value ∙ c.in_ok-zeros.ensures.items_if_clones_equal (λ y e. e)) c.from.ensures
