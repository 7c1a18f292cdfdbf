-- One line more.
use Rattle.std.proofs.Common.{◌≡◌, ◌<◌, ◌+◌, ◌-◌, ℕ, suc, List, ◌++◌, ap, sym, ◌∙◌, append_assoc, arith}
use Rattle.ciel_run_load.specs.Lines.{line_of, lines_after, next}

pub one_more : (text all : List ℕ) (n i x : ℕ) → i < n → text ++ lines_after (n - i) x ≡ all → (text ++ line_of (next x))
    ++ lines_after (n - (i + 1)) (next x) ≡ all
one_more text all n i x lt e =
    let some : n - i ≡ suc (n - (i + 1)) = omega (arith, lt) in
    append_assoc text (line_of (next x)) (lines_after (n - (i + 1)) (next x))
    ∙ sym (ap (λ k. text ++ lines_after k x) some)
    ∙ e
