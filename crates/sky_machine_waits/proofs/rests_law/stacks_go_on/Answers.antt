use Rattle.sky_base.specs.Eval.{body_of}
use Rattle.sky_state.specs.Chained.{body_places}
use Rattle.sky_machine_waits.proofs.FitTaken.{fit_taken}
use Rattle.sky_machine_waits.proofs.RestLaw.{rest_chained}
use Rattle.sky_machine_waits.proofs.TakeLaw.{rest_taken}
use Rattle.sky_machine_waits.proofs.rests_law.stacks_go_on.Goals as goal

pub returns-clause-follows : goal.returns-clause-follows
returns-clause-follows c = λ w d f fr e st h follow opened is. rest_chained w d f fr e st h follow opened is

pub returns-clause-takes : goal.returns-clause-takes
returns-clause-takes c = λ w d f fr e st h follow opened is.
    let taken = fit_taken w.script fr (body_places (body_of f w.script)) follow opened in
    (taken, rest_taken w d fr e st h taken is)
