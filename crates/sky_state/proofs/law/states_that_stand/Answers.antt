use Rattle.std.proofs.Common.{sym, subst}
use Rattle.sky_state.specs.Fits.{Fits}
use Rattle.sky_state.proofs.FitsLaw.{stands_fits}
use Rattle.sky_state.proofs.HeldLaw.{stands_pending, stands_holds}
use Rattle.sky_state.proofs.law.states_that_stand.Goals as goal

pub returns-clause-fits : goal.returns-clause-fits
returns-clause-fits c =
    λ tag job around s t j ds reads sound h w. subst (Fits job.script) (sym h.2) (stands_fits tag job around reads t j h.0 ds sound h.1 w)

pub returns-clause-pending : goal.returns-clause-pending
returns-clause-pending c = λ tag job around s t j ds h w n. stands_pending tag job around s t j ds h w n

pub returns-clause-holds : goal.returns-clause-holds
returns-clause-holds c = λ tag job around s t j ds h g n. stands_holds tag job around s t j ds h g n
