use Rattle.std.proofs.Common.{rules, not, nat_eq}
use Rattle.std.proofs.lemmas.Fn.{filter_same}
use Rattle.ciel_table.proofs.wait.take_away.Goals as goal

pub returns-clause-left : goal.returns-clause-left
returns-clause-left g c =
    filter_same _ (λ w. not (nat_eq c.args.worker (g.P.At.at w.place))) _ (λ x b f' k. search rules) _ _ c.retain.ensures.filtered
