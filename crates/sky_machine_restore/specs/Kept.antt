-- How many values indices and calls keep.
use Rattle.std.specs.Prelude.{ℕ, zero, suc, ◌+◌}
use Rattle.sky_base.specs.Tree.{Exps, Steps}

-- at an argument, after these, of a call: the value before the call and the arguments so far; with `more` from behind the call on
abbrev pub kept_in_call : (before : ℕ) → Exps → ℕ → (ℕ → ℕ) → ℕ
kept_in_call before Exps.no_exps zero more = 0
kept_in_call before Exps.no_exps (suc i) more = more i
kept_in_call before (Exps.exp e es) zero more = 1 + before
kept_in_call before (Exps.exp e es) (suc i) more = kept_in_call (before + 1) es i more

-- after so many places
abbrev pub kept_after : Steps → ℕ → ℕ
kept_after Steps.no_steps i = 0
kept_after (Steps.index e p ss) zero = 1
kept_after (Steps.index e p ss) (suc i) = kept_after ss i
kept_after (Steps.call es p ss) i = kept_in_call 0 es i (λ j. kept_after ss j)
