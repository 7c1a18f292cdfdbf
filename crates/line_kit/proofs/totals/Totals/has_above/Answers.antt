use Rattle.std.proofs.Common.{ℕ, List, nat_lt, ap, ◌∙◌}
use Rattle.std.specs.List.{list_any}
use Rattle.line_kit.proofs.Seen.{values-above}
use Rattle.line_kit.proofs.totals.Totals.has_above.Goals as goal

pub returns : goal.returns
returns c =
    c.is_any_above.ensures ∙ values-above c.args.most c.self.inside.sums.entries
    ∙ ap (λ (es : List (List ℕ × ℕ)). list_any (λ (e : List ℕ × ℕ). nat_lt c.args.most e.1) es) c.self.view_is
