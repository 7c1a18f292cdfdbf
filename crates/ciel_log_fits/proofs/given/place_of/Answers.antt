use Rattle.ciel_task_order.specs.declared.block.Spot.{Spot}
use Rattle.ciel_log_fits.proofs.Places.{an_input, no_spot, spot_there}
use Rattle.ciel_log_fits.proofs.given.place_of.Goals as goal

pub returns-in-Shelf : goal.returns-in-Shelf
returns-in-Shelf c =
    spot_there c.args.name.now c.args.inputs.now c.in-Some.held.now (Spot.Shelf c.in-Shelf.place) c.in-Some.ensures.found c.in-Shelf.is

pub returns-in-Input : goal.returns-in-Input
returns-in-Input c =
    an_input c.args.name.now c.args.inputs.now c.in-Input.field-0
    (spot_there c.args.name.now c.args.inputs.now c.in-Some.held.now (Spot.Input c.in-Input.field-0) c.in-Some.ensures.found c.in-Input.is)

pub returns-in-None : goal.returns-in-None
returns-in-None c = no_spot c.args.name.now c.args.inputs.now c.in-None.ensures.found
