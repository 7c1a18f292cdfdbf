use Rattle.std.proofs.Common.{ℕ, List, sym, ap, ◌∙◌}
use Rattle.std.specs.List.{flat_map}
use Rattle.line_kit.specs.Lines.{joined}
use Rattle.line_kit.specs.Words.{words}
use Rattle.line_kit.specs.Written.{extended}
use Rattle.line_kit.proofs.WrittenLaw.{further, joined-append}
use Rattle.line_kit.proofs.words.words.Goals as goal

pub loop-line-preserved : goal.loop-line-preserved
loop-line-preserved c =
    let out = c.loop-line.out in
    let line = c.in-Some.line.now in
    let more = flat_map words c.next_line.new.self in
    further c.put_words.new.out out (joined (words line)) (joined more) c.in_ok-put_words.ensures
    ∙ ap (extended out) (sym (joined-append (words line) more))
    ∙ ap (λ (ls : List (List ℕ)). extended out (joined (flat_map words ls))) (sym c.in-Some.ensures) ∙ c.loop-line.invariant
