use Rattle.std.proofs.Common.{arith}
use Rattle.sky_machine_waits.proofs.Signs.{nth_sign, no_sign_below, no_sign_above}
use Rattle.sky_machine_waits.proofs.wait.nth.Goals as goal

pub returns-then-step-lt2 : goal.returns-then-step-lt2
returns-then-step-lt2 c = no_sign_below c.args.signs.now c.args.step (omega arith)

pub returns-then-behind-step : goal.returns-then-behind-step
returns-then-behind-step c = no_sign_above c.args.signs.now c.args.step (omega arith)

pub returns : goal.returns
returns c = nth_sign c.args.signs.now c.args.step _ _ (omega arith) (omega arith) (omega arith)
