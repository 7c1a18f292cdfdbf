-- What is refused whatever the inputs are.
use Rattle.std.specs.Prelude.{◌≡◌, ℕ, List, Option, Some, None, true, if◌then◌else◌}
use Rattle.sky_base.specs.Val.{Val, Pairs, dict}
use Rattle.sky_base.specs.declared.fault.FaultKind.{FaultKind}
use Rattle.sky_base.specs.declared.fault.FaultKind.TheVariants.{BadExec, BadCount, BadKind, NoKey}
use Rattle.line_kit.specs.Table.{executor_of, may_have, has_keys, all_fit}
use Rattle.line_kit.specs.declared.executor.Executor.{Executor}

-- arguments that are no dictionary, then a key that is missing, then another key or a value of another kind
abbrev pub wrong_args : Executor → Val (List ℕ) → Option FaultKind
wrong_args e (dict args) = if has_keys e args then (if all_fit e args then None else Some BadKind) else Some NoKey
wrong_args e _ = Some BadKind

-- another name, then another number of outputs, then wrong arguments
abbrev pub wrong_call : Option Executor → Val (List ℕ) → ℕ → Option FaultKind
wrong_call None args n = Some BadExec
wrong_call (Some e) args n = if may_have e n then wrong_args e args else Some BadCount

-- the fault of an executor's name, arguments and number of outputs, where they have one
abbrev pub refusal : List ℕ → Val (List ℕ) → ℕ → Option FaultKind
refusal name args n = wrong_call (executor_of name) args n

-- a right call: which executor it is, and the pairs of its arguments
pub record Right (name : List ℕ) (args : Val (List ℕ)) (n : ℕ) (e : Executor) (ps : Pairs (List ℕ)) : Type 0 where
  pub executor : executor_of name ≡ Some e
  pub count : may_have e n ≡ true
  pub args_are : args ≡ dict ps
  pub keys : has_keys e ps ≡ true
  pub fit : all_fit e ps ≡ true
