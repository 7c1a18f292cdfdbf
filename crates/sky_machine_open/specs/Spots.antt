-- Places among indices and calls, and what an open call is taken up with.
use Rattle.std.specs.Prelude.{ℕ, ◌+◌, List, Bool, true, false, Option, Some, None}
use Rattle.sky_base.specs.Val.{Pairs}
use Rattle.sky_base.specs.Tree.{nodes, exps_nodes}
use Rattle.sky_base.specs.TreeView.{at, exp_view, exps_view, steps_view}
use Rattle.sky_base_law.specs.Opened.{Node, Pos, finished, in_index, in_args, HasExp, HasExps, HasSteps}
use Rattle.sky_machine_open.specs.declared.postfix.Spot.{Spot}
use Rattle.sky_machine_open.specs.declared.postfix.Caller.{Caller}

abbrev pub pos_view : Spot → Pos
pos_view Spot.Finished = finished
pos_view (Spot.Index m e l c ss) = in_index m (exp_view e.now) (at l c) (steps_view ss.now)
pos_view (Spot.Args m es l c ss) = in_args m (exps_view es.now) (at l c) (steps_view ss.now)

abbrev pub is_finished : Pos → Bool
is_finished finished = true
is_finished (in_index m e p ss) = false
is_finished (in_args m es p ss) = false

-- the nodes that are still to come from a place on
abbrev pub HasPos : (ℕ → Option Node) → Pos → Type 0
HasPos at finished = Unit {0}
HasPos at (in_index m e p ss) = HasExp at e m × HasSteps at ss (m + nodes e)
HasPos at (in_args m es p ss) = HasExps at es m × HasSteps at ss (m + exps_nodes es)

-- the function and the caller's variables
abbrev pub call_of : Option Caller → Option (List ℕ × Pairs (List ℕ))
call_of None = None
call_of (Some c) = Some (c.fun.now, c.vars.now)
