use Rattle.sky_state.proofs.FitsLaw.{show_stands, show_fits_any}
use Rattle.sky_state.proofs.state.State.start_show.Goals as goal

pub returns-clause-fits : goal.returns-clause-fits
returns-clause-fits c = show_fits_any c.args.main

pub returns-clause-stands : goal.returns-clause-stands
returns-clause-stands c = show_stands c.args.main
