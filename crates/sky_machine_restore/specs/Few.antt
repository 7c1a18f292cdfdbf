-- Signs, indices and calls are few enough for their steps to be numbered.
use Rattle.std.specs.Prelude.{◌<◌, ◌^◌, length}
use Rattle.sky_base.specs.Tree.{Exp}
use Rattle.sky_base_law.specs.Opened.{Node, exp_node, stm_node, block_node}
use Rattle.sky_machine_entries.specs.Ready.{steps_left}

abbrev pub FewSteps : Exp → Type 0
FewSteps (Exp.prefix ss e) = length ss < 2 ^ 64
FewSteps (Exp.postfix e ss) = steps_left ss < 2 ^ 65
FewSteps _ = Unit {0}

abbrev pub Few : Node → Type 0
Few (exp_node e) = FewSteps e
Few (stm_node a) = Unit {0}
Few (block_node b) = Unit {0}
