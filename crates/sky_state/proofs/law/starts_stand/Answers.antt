use Rattle.sky_state.proofs.FitsLaw.{start_of_call, start_of_show}
use Rattle.sky_state.proofs.law.starts_stand.Goals as goal

pub returns-clause-call : goal.returns-clause-call
returns-clause-call c = λ tag job around f ca vs s h. start_of_call tag job around f ca vs s h

pub returns-clause-show : goal.returns-clause-show
returns-clause-show c = λ tag job around. start_of_show tag job around
