use Rattle.std.proofs.Common.{◌≡◌, ◌-◌, ◌<◌, ℕ, suc, List, ◌∷◌, take, drop, Option, sym, ap, ◌∙◌, arith}
use Rattle.line_kit.specs.Lines.{joined, ended}
use Rattle.line_kit.specs.Written.{extended}
use Rattle.line_kit.proofs.WrittenLaw.{extended-extended}
use Rattle.line_kit.proofs.picks.put_some.Goals as goal

take_first : (n : ℕ) (l : List ℕ) (ls : List (List ℕ)) → 0 < n → take n (l ∷ ls) ≡ l ∷ take (n - 1) ls
take_first n l ls h = let e : n ≡ suc (n - 1) = omega arith in ap (λ m. take m (l ∷ ls)) e

drop_first : (n : ℕ) (l : List ℕ) (ls : List (List ℕ)) → 0 < n → drop n (l ∷ ls) ≡ drop (n - 1) ls
drop_first n l ls h = let e : n ≡ suc (n - 1) = omega arith in ap (λ m. drop m (l ∷ ls)) e

pub loop-left-preserved : goal.loop-left-preserved
loop-left-preserved c =
    let n = c.loop-left.left in
    let out = c.loop-left.out in
    let line = c.in-Some.line.now in
    let more = c.next_line.new.self in
    let rest = joined (take (n - 1) more) in
    record {
      out =
          ap (λ (o : Option (List ℕ)). extended o rest) c.in_ok-put_line-in-Some.ensures ∙ extended-extended out (ended line) rest
          ∙ ap (λ (ls : List (List ℕ)). extended out (joined ls)) (sym (take_first n line more c.loop-left-test.true))
          ∙ ap (λ (ls : List (List ℕ)). extended out (joined (take n ls))) (sym c.in-Some.ensures) ∙ c.loop-left.invariant.out;
      lines = sym (drop_first n line more c.loop-left-test.true) ∙ ap (drop n) (sym c.in-Some.ensures) ∙ c.loop-left.invariant.lines;
    }
