use Rattle.std.proofs.Common.{◌≡◌, ℕ, List, ◌++◌, sym, ap, ◌∙◌, append_assoc}
use Rattle.line_kit.specs.Lines.{lines, all_lines}
use Rattle.line_flow.specs.Kept.{seen_of}
use Rattle.line_flow.proofs.GrownInputs.{all-grow, all-more}
use Rattle.line_flow.proofs.StandsLaw.{gives_right}
use Rattle.line_flow.proofs.flow.Flow.is_over.Goals as goal

pub returns : goal.returns
returns c over t inputs more s same =
    let rest = c.args.self.now.rest.items in
    let fed : all_lines t.fed ≡ all_lines s.settled ++ lines rest = sym (all-more t.fed) ∙ ap all_lines s.fed
    ∙ all-grow t.last rest s.settled s.ends in
    let all : all_lines inputs ≡ all_lines s.settled ++ (lines rest ++ more) =
    same ∙ ap (λ (ls : List (List ℕ)). ls ++ more) fed ∙ append_assoc (all_lines s.settled) (lines rest) more in
    gives_right t.executor t.args t.outputs s.kind s.pairs inputs s.right
    ∙ c.is_over.ensures over s.kind s.pairs t.outputs t.drained (seen_of s.settled) inputs (lines rest ++ more) s.keeps all
