-- What comes of indices and calls from a place among them.
use Rattle.std.specs.Prelude.{ℕ, ◌+◌, ◌<◌, ◌^◌, List}
use Rattle.sky_base.specs.Val.{Vals}
use Rattle.sky_base.specs.Tree.{Place, Exps, Steps, exps_nodes}
use Rattle.sky_base.specs.TreeView.{at, exps_view, steps_view}
use Rattle.sky_base.specs.View.{view}
use Rattle.sky_base.specs.Eval.{World, enter, eval_args, eval_steps}
use Rattle.sky_base_scope.specs.Plain.{Val, Pairs, Vars, items}
use Rattle.sky_machine_entries.specs.Config.{Run}
use Rattle.sky_machine_entries.specs.Ready.{steps_left}
use Rattle.sky_machine_entries.specs.declared.entry.Arg.{Arg}
use Rattle.sky_machine_calls.specs.declared.postfix.Postfix.{Postfix}

module _ (w : World (List ℕ)) (body : List ℕ → Pairs → Vals (List ℕ) → Place → Vars → Run) where
  -- the call of a function, at a step and with the number of the node that comes next, and the steps after it
  abbrev pub called_from : Place → ℕ → Steps → ℕ → ℕ → List ℕ → Pairs → Vals (List ℕ) → Vars → Run
  called_from p n ss = λ l i f c us s. enter w body f c us p n l i ss s (λ y u. eval_steps w body ss n (l + 1) i y u)

  abbrev pub args_from : Arg → Vars → Run
  args_from a st =
      eval_args w body (exps_view a.more.now) a.node a.step a.next (at a.line a.col) (view a.fun) (items a.args) (steps_view a.rest.now)
      (called_from (at a.line a.col) a.node (steps_view a.rest.now)) st

  abbrev pub steps_from : Postfix → Val → Vars → Run
  steps_from p v st = eval_steps w body (steps_view p.rest.now) p.node p.step p.next v st

-- the numbers of the steps that are left fit
abbrev pub ArgsFit : ℕ → Exps → Steps → Type 0
ArgsFit k es ss = k + 1 + exps_nodes es + steps_left ss < 2 ^ 128

abbrev pub StepsFit : ℕ → Steps → Type 0
StepsFit k ss = k + steps_left ss < 2 ^ 128
