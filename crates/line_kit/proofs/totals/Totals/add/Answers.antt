use Rattle.std.proofs.Common.{◌≡◌, ℕ, List, map, unwrap_or, ap, ◌∙◌, arith, rules}
use Rattle.line_kit.specs.Totals.{sum_at, with_more}
use Rattle.line_kit.proofs.Seen.{see, sum_at-seen, with_more-seen}
use Rattle.line_kit.proofs.totals.Totals.add.Goals as goal
use Rattle.line_kit.proofs.totals.Totals.add.Goals.{in-Ok, in-Err}

pub overflow_add-sum : goal.overflow_add-sum
overflow_add-sum c =
    let sum : c.unwrap_or-sum.result ≡ sum_at c.args.self.now c.args.line.now =
    c.unwrap_or-sum.ensures ∙ ap (λ o. unwrap_or o 0) (c.copied.ensures ∙ c.get.ensures.value) ∙ sum_at-seen c.self.inside.sums.entries c.args.line
    ∙ ap (λ (es : List (List ℕ × ℕ)). sum_at es c.args.line.now) c.self.view_is in
    omega (arith, sum, c.from.ensures, c.requires)

pub returns : goal.returns
returns c =
    let entries = c.self.inside.sums.entries in
    let sum : c.unwrap_or-sum.result ≡ sum_at (map see entries) c.args.line.now =
    c.unwrap_or-sum.ensures ∙ ap (λ o. unwrap_or o 0) (c.copied.ensures ∙ c.get.ensures.value) ∙ sum_at-seen entries c.args.line in
    elim c.match-insert.branch [
      | in-Ok w ↦ rw w.result-is (
          ap (map see) (search rules) ∙ with_more-seen entries c.args.line c.unwrap_or-sum.result c.args.number sum
          ∙ ap (λ (es : List (List ℕ × ℕ)). with_more es c.args.line.now c.args.number) c.self.view_is
          )
      | in-Err w ↦ rw w.result-is tt
    ]
