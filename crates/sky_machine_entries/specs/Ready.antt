-- What holds of the forms under way: the nodes that are still to come stand at their numbers in the script, values keep
-- the limits, and the numbers of steps fit.
use Rattle.std.specs.Prelude.{◌≡◌, ◌<◌, ◌≤◌, ◌+◌, ◌^◌, ℕ, List, [], ◌∷◌, length, Option, Some}
use Rattle.sky_base.specs.Val.{vals_of, list}
use Rattle.sky_base.specs.Tree.{Steps, Stms, Script, exps_nodes, block_nodes}
use Rattle.sky_base.specs.TreeView.{exp_view}
use Rattle.sky_base.specs.StmtView.{stm_view}
use Rattle.sky_base.specs.Kept.{Kept}
use Rattle.sky_base.specs.Res.{parens_in, part_at, chain_first, chain_more, logic_at, prefix_part, star_wait, postfix_first, index_at, arg_at}
use Rattle.sky_base.specs.Res.{call_open, exec_wait, set_part, add_part, put_index, put_value, return_part, just_part, arm_test, while_test}
use Rattle.sky_base.specs.Res.{while_body, repeat_body, repeat_test, for_list, for_body, block_at}
use Rattle.sky_base.specs.View.{view}
use Rattle.sky_base_law.specs.Opened.{Node, block_node, HasExp, HasExps, HasLinks, HasAnds, HasSteps, HasStm, HasStms, HasArms, HasElse}
use Rattle.sky_base_law.specs.Nodes.{node_at}
use Rattle.sky_machine_code.specs.RunView.{KeptVals, KeptPairs}
use Rattle.sky_machine_entries.specs.Entries.{Form, forms}
use Rattle.sky_machine_entries.specs.declared.control.End.{End}
use Rattle.sky_machine_entries.specs.declared.control.Control.{Control}
use Rattle.sky_machine_entries.specs.declared.entry.Entry as rust

-- how many steps come for these indices and calls
abbrev pub steps_left : Steps → ℕ
steps_left Steps.no_steps = 0
steps_left (Steps.index e p ss) = 1 + steps_left ss
steps_left (Steps.call es p ss) = 1 + (exps_nodes es + steps_left ss)

-- an end's value keeps the limits
abbrev pub EndReady : End → Type 0
EndReady End.Goes = Unit {0}
EndReady (End.Got v) = Kept (view v)
EndReady (End.Returned v) = Kept (view v)
EndReady (End.Failed f) = Unit {0}

module _ (at : ℕ → Option Node) where
  -- the nodes of a form that are still to come
  abbrev pub HasBlock : ℕ → Stms → Type 0
  HasBlock m b = (at m ≡ Some (block_node b)) × HasStms at b (m + 1)

  abbrev pub IsReady : Form → Type 0
  IsReady (parens_in n) = Unit {0}
  IsReady (part_at n k m o p vs es) = (k < m) × HasExps at es m × KeptVals (vals_of vs)
  IsReady (chain_first n m ls) = (1 < m) × HasLinks at ls m
  IsReady (chain_more n k m o p v ls) = (k < m) × HasLinks at ls m × Kept v
  IsReady (logic_at n k m j p ls) = (k < m) × HasAnds at ls m
  IsReady (prefix_part n ss) = Unit {0}
  IsReady (star_wait n k d ss) = k + 1 + length ss < 2 ^ 128
  IsReady (postfix_first n m ss) = HasSteps at ss m × (2 + steps_left ss < 2 ^ 128)
  IsReady (index_at n k m p v ss) = HasSteps at ss m × Kept v × (k + 1 + steps_left ss < 2 ^ 128)
  IsReady (arg_at n k m p f vs es ss) =
      HasExps at es m × HasSteps at ss (m + exps_nodes es) × Kept f × KeptVals (vals_of vs) × (k + 2 + exps_nodes es + steps_left ss < 2 ^ 128)
  IsReady (call_open n k m f xs ss) = HasSteps at ss m × KeptPairs xs × (k + 1 + steps_left ss < 2 ^ 128)
  IsReady (exec_wait n ds) = Unit {0}
  IsReady (set_part n x) = Unit {0}
  IsReady (add_part n x q p) = Unit {0}
  IsReady (put_index n m x q p e) = HasExp at e m
  IsReady (put_value n x q p v) = Kept v
  IsReady (return_part n) = Unit {0}
  IsReady (just_part n) = Unit {0}
  IsReady (arm_test n k m i p b arms els) = (k < m) × HasBlock m b × HasArms at arms (m + block_nodes b) × HasElse at els i
  IsReady (while_test n m p e b) = HasExp at e (n + 1) × HasBlock m b
  IsReady (while_body n m p e b) = HasExp at e (n + 1) × HasBlock m b
  IsReady (repeat_body n m p b e) = HasExp at e m × HasBlock (n + 1) b
  IsReady (repeat_test n m p b e) = HasExp at e m × HasBlock (n + 1) b
  IsReady (for_list n m p x b) = HasBlock m b
  IsReady (for_body n m t p x vs b) = HasBlock m b × Kept (list vs)
  IsReady (block_at n k m b) = (k ≤ m) × HasStms at b m

  abbrev pub AreReady : List Form → Type 0
  AreReady [] = Unit {0}
  AreReady (en ∷ fr) = IsReady en × AreReady fr

  abbrev pub CanGo : Control → Type 0
  CanGo (Control.Begin n e) = HasExp at (exp_view e.now) n
  CanGo (Control.Do n s) = HasStm at (stm_view s.now) n
  CanGo (Control.End e) = EndReady e
  CanGo (Control.Wait q) = Unit {0}

-- the nodes are those of a script
module _ (sc : Script) where
  abbrev pub Ready : Form → Type 0
  Ready en = IsReady (λ i. node_at sc i) en

  abbrev pub AllReady : List rust.Entry → Type 0
  AllReady es = AreReady (λ i. node_at sc i) (forms es)

  abbrev pub Goes : Control → Type 0
  Goes c = CanGo (λ i. node_at sc i) c
