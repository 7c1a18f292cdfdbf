-- Each output in turn: one that is over ends the answer, and the others stand in it.
use Rattle.std.proofs.Common.{◌≡◌, ℕ, length, List, [], ◌∷◌, ◌++◌, Option, Some, None, sym, ap, ◌∙◌, arith, rules}
use Rattle.std.specs.Vec.Iter.{into_iter_items}
use Rattle.std.proofs.lemmas.List.{nil_from_length}
use Rattle.line_kit.specs.Written.{closed}
use Rattle.line_kit.proofs.WrittenLaw.{behind, closed-over, closed-more, behind-none}
use Rattle.line_kit.proofs.output.close.Goals as goal

pub returns-then-output : goal.returns-then-output
returns-then-output c =
    let done = c.loop-output.all.items in
    let more = into_iter_items c.next.new.self in
    let over : c.in-Some.output ≡ None = search rules in
    let first : into_iter_items c.loop-output.output-iterator ≡ None ∷ more = c.in-Some.ensures.steps.0
    ∙ ap (λ (o : Option (List ℕ)). o ∷ more) over in
    c.loop-output.invariant.rest ∙ ap (λ (os : List (Option (List ℕ))). behind done (closed os)) first ∙ closed-over done more

pub loop-output-preserved : goal.loop-output-preserved
loop-output-preserved c =
    let done = c.loop-output.all.items in
    let more = into_iter_items c.next.new.self in
    let bytes = c.output.inside.bytes.items in
    let fits : c.in-Some.output ≡ Some bytes = search rules in
    let first : into_iter_items c.loop-output.output-iterator ≡ Some bytes ∷ more = c.in-Some.ensures.steps.0
    ∙ ap (λ (o : Option (List ℕ)). o ∷ more) fits in
    let pushed : c.push.new.self.items ≡ done ++ bytes ∷ [] = search rules in
    record {
      rest =
          c.loop-output.invariant.rest ∙ ap (λ (os : List (Option (List ℕ))). behind done (closed os)) first
          ∙ closed-more done bytes more c.output.invariant
          ∙ ap (λ (all : List (List ℕ)). behind all (closed more)) (sym pushed);
      count = omega (arith, c.in-Some.ensures.steps.1, ap length first, c.loop-output.invariant.count);
    }

pub returns : goal.returns
returns c =
    let done = c.loop-output.all.items in
    let empty : into_iter_items c.loop-output.output-iterator ≡ [] =
    nil_from_length _ (sym c.loop-output.invariant.count ∙ c.in-None.ensures.steps.0) in
    c.loop-output.invariant.rest ∙ ap (λ (os : List (Option (List ℕ))). behind done (closed os)) empty ∙ behind-none done
