-- A name that is not in the table has no executor.
use Rattle.std.proofs.Common.{◌≡◌, ℕ, List, false, Option, None, Some, is_some, sym, ap, ◌∙◌, refl}
use Rattle.line_kit.specs.Gives.{gives, with_executor}
use Rattle.line_kit.specs.Table.{executor_of}
use Rattle.line_kit.specs.declared.executor.Executor.{Executor}
use Rattle.line_kit.proofs.kit.LineKitKit.known.Goals as goal

none_there : (o : Option Executor) → is_some o ≡ false → o ≡ None
none_there None e = refl
none_there (Some x) e = absurd cc

pub returns-clause-unknown : goal.returns-clause-unknown
unfolding gives
returns-clause-unknown c off args inputs n =
    ap (λ o. with_executor o args inputs n) (none_there (executor_of c.args.executor.now)
    (ap (λ (t : List ℕ). is_some (executor_of t)) (sym c.as_str.ensures.value) ∙ ap is_some (sym c.executor_of.ensures)
    ∙ sym c.is_some.ensures ∙ off))
