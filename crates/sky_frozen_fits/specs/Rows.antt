-- What the rows of the code stand for.
use Rattle.std.specs.Prelude.{ℕ, ◌+◌, [], Option}
use Rattle.sky_base.specs.Tree.{nodes, exps_nodes}
use Rattle.sky_base.specs.TreeView.{at, exp_view, exps_view, steps_view}
use Rattle.sky_base.specs.StmtView.{stm_view}
use Rattle.sky_base_law.specs.Opened.{Node, HasExp, HasExps, HasSteps, HasStm}
use Rattle.sky_state.specs.Table as table
use Rattle.sky_state.specs.Table.{Row, stm_places}
use Rattle.sky_frozen_fits.specs.declared.row.RowAt.{RowAt}
use Rattle.sky_frozen_fits.specs.declared.walk.Spot.{Spot}

abbrev pub row_view : RowAt → Row
row_view (RowAt.Pending k m) = table.pending k m
row_view RowAt.Before = table.part 0 []
row_view (RowAt.Ran m s) = table.part 0 (stm_places m (stm_view s.now))
row_view (RowAt.Turn m) = table.turn m
row_view RowAt.Star = table.star
row_view RowAt.Outputs = table.outputs
row_view RowAt.OpenCall = table.open_call
row_view RowAt.NoStep = table.no_step

-- a statement that runs stands at its node
abbrev pub HasRow : (ℕ → Option Node) → RowAt → Type 0
HasRow at (RowAt.Ran m s) = HasStm at (stm_view s.now) m
HasRow at _ = Unit {0}

abbrev pub spot_view : Spot → table.Spot
spot_view Spot.Finished = table.finished
spot_view (Spot.Index m e l c ss) = table.in_index m (exp_view e.now) (at l c) (steps_view ss.now)
spot_view (Spot.Args m i es l c ss) = table.in_call m i (exps_view es.now) (at l c) (steps_view ss.now)

-- how many arguments came before
abbrev pub before : Spot → ℕ
before Spot.Finished = 0
before (Spot.Index m e l c ss) = 0
before (Spot.Args m i es l c ss) = i

-- the nodes that are still to come from a place on
abbrev pub HasSpot : (ℕ → Option Node) → table.Spot → Type 0
HasSpot at table.finished = Unit {0}
HasSpot at (table.in_index m e p ss) = HasExp at e m × HasSteps at ss (m + nodes e)
HasSpot at (table.in_call m i es p ss) = HasExps at es m × HasSteps at ss (m + exps_nodes es)
