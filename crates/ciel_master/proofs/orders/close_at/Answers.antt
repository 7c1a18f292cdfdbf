use Rattle.std.proofs.Common.{ap, map, not, nat_eq, ◌∙◌, rules}
use Rattle.std.proofs.lemmas.Fn.{filter_same}
use Rattle.ciel_master.specs.Views.{kept_view}
use Rattle.ciel_master.specs.declared.orders.OrderOut.{OrderOut}
use Rattle.ciel_master.proofs.Lists.{elsewhere_map}
use Rattle.ciel_master.proofs.orders.close_at.Goals as goal

pub returns : goal.returns
returns c =
    ap (map kept_view) (filter_same _ (λ (x : OrderOut). not (nat_eq c.args.worker x.worker)) _ (λ x b f k. search rules) _ _
    c.retain.ensures.filtered)
    ∙ elsewhere_map c.args.worker c.args.orders.now.items
