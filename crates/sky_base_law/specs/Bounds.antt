-- Loops that do something else where their bound is met: where that makes no difference, the bound is never met.
use Rattle.std.specs.Prelude.{ℕ, zero, suc}
use Rattle.sky_base.specs.Tree.{Place, Exp, Stms}
use Rattle.sky_base.specs.Res.{End, St, while_test, while_body, repeat_body, repeat_test, Res, Fin, then_do, on_got, on_goes}
use Rattle.sky_base.specs.Eval.{decide}

module _ {N : Type 0} (met : St N → Res N) where
  -- `turns`, with `met` in place of TooLong
  abbrev pub turns_or : ℕ → (n block : ℕ) → Place → Exp → Stms → (St N → Res N) → (St N → Res N) → St N → Res N
  turns_or zero n m p e b test run st = met st
  turns_or (suc f) n m p e b test run st =
      then_do (test st) (while_test n m p e b) (on_got
      (λ v s. decide v p s (λ t. then_do (run t) (while_body n m p e b) (on_goes (turns_or f n m p e b test run))) (λ t. Fin End.goes t)))

  -- `repeats`, with `met` in place of TooLong
  abbrev pub repeats_or : ℕ → (n test : ℕ) → Place → Stms → Exp → (St N → Res N) → (St N → Res N) → St N → Res N
  repeats_or zero n m p b e run test st = met st
  repeats_or (suc f) n m p b e run test st =
      then_do (run st) (repeat_body n m p b e) (on_goes
      (λ s. then_do (test s) (repeat_test n m p b e) (on_got (λ v t. decide v p t (repeats_or f n m p b e run test) (λ u. Fin End.goes u)))))
