use Rattle.std.proofs.Common.{rules, ap, ◌∙◌, not, nat_eq}
use Rattle.std.proofs.lemmas.Fn.{filter_same}
use Rattle.ciel_table.specs.Changes.{places_without}
use Rattle.ciel_table.proofs.row.Places.drop_worker.Goals as goal

pub returns : goal.returns
returns g c =
    filter_same _ (λ p. not (nat_eq c.args.worker (g.P.At.at p))) _ (λ x b f' k. search rules) _ _ c.retain.ensures.filtered
    ∙ ap (places_without g.P.At.at c.args.worker) c.self.view_is
