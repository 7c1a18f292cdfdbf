use Rattle.std.proofs.Common.{◌≤◌, ◌-◌, ℕ, List, [], ◌++◌, take}
use Rattle.std.specs.Prelude.{replicate}
use Rattle.sky_base.specs.Val.{Val}
use Rattle.line_flow.specs.Told.{opened}
use Rattle.line_flow.specs.Stands.{Stands}
use Rattle.line_flow.proofs.kit.run_flow.Given as goal

abbrev pub invariant-loop-input : goal.invariant-loop-input
invariant-loop-input l =
    (executor : List ℕ) (args : Val (List ℕ)) (outputs : ℕ) → Stands l.fn.flow (opened executor args l.count outputs)
    → (last : ℕ) × (last ≤ l.input) × Stands l.flow record {
      executor = executor;
      args = args;
      outputs = outputs;
      fed = take l.input l.inputs ++ replicate (l.count - l.input) [];
      last = last;
      drained = replicate outputs [];
    }
