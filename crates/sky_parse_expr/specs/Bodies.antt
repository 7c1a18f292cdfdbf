-- What is asked of the function that reads the bodies of anonymous functions, which expressions are handed.
use Rattle.std.specs.Prelude.{ℕ, ◌<◌, List, ◌∷◌, length, Result, IfOk}
use Rattle.std.specs.Borrow.{Bor, MutBor}
use Rattle.sky_base.specs.Tree as run
use Rattle.sky_text.specs.declared.token.Token.{Token}
use Rattle.sky_parse_grammar.specs.Machine.{Item, kinds}
use Rattle.sky_parse_grammar.specs.Machine as machine
use Rattle.sky_parse_expr.specs.declared.look.Fail.{Fail}
use Rattle.sky_parse_held.specs.Held.{Held}
use Rattle.sky_parse_expr.specs.Reads.{ReadsBlock}
use Rattle.sky_parse_expr.specs.Runs.{Runs}

-- it may be called on fewer tokens than so many
abbrev pub CanRead : (MutBor Held → Bor (List Token) → Type 0) → ℕ → Type 0
CanRead pre n = (made : MutBor Held) (ts : Bor (List Token)) → length ts.now < n → pre made ts

-- it reads a block
abbrev pub ReadsBodies : (MutBor Held → Bor (List Token) → Result (run.Stms × Bor (List Token)) Fail → MutBor Held → Type 0) → Type 0
ReadsBodies post = (made : MutBor Held) (ts : Bor (List Token)) (r : Result (run.Stms × Bor (List Token)) Fail) (after : MutBor Held)
    → post made ts r after
    → Runs (λ x. x.1.now) (λ k. machine.run (Item.block ∷ k) (kinds ts.now)) r × IfOk r (λ x. ReadsBlock x.0 made.now after.now ts.now x.1.now)
    × IfOk r (λ x. length x.1.now < length ts.now)
