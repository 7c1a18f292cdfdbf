use Rattle.std.proofs.Common.{◌≡◌, drop}
use Rattle.sky_base.specs.See.{input_bytes}
use Rattle.sky_plain.proofs.settle.input.Given as goal

abbrev pub invariant-loop-input : goal.invariant-loop-input
invariant-loop-input l = record {
  rest : input_bytes l.key l.inputs ≡ input_bytes l.key (drop l.input-index l.input-items);
}
