-- How wide a node is: of how many parts, operators, signs, places, arms or statements it is made.
use Rattle.std.specs.Prelude.{◌≡◌, ◌<◌, ◌+◌, ◌^◌, ℕ, suc, length, Some}
use Rattle.sky_base.specs.Tree.{Exp, Exps, Links, Ands, Steps, Stm, Stms, Arms, Script}
use Rattle.sky_base_law.specs.Opened.{Node, exp_node, stm_node, block_node}
use Rattle.sky_base_law.specs.Nodes.{node_at}

abbrev pub exps_width : Exps → ℕ
exps_width Exps.no_exps = 0
exps_width (Exps.exp e es) = suc (exps_width es)

abbrev pub links_width : Links → ℕ
links_width Links.no_links = 0
links_width (Links.link o p e ls) = suc (links_width ls)

abbrev pub ands_width : Ands → ℕ
ands_width Ands.no_ands = 0
ands_width (Ands.and p e ls) = suc (ands_width ls)

-- an index is one place, a call one for each argument and one for its body
abbrev pub steps_width : Steps → ℕ
steps_width Steps.no_steps = 0
steps_width (Steps.index e p ss) = suc (steps_width ss)
steps_width (Steps.call es p ss) = suc (exps_width es + steps_width ss)

abbrev pub arms_width : Arms → ℕ
arms_width Arms.no_arms = 0
arms_width (Arms.arm p e b arms) = suc (arms_width arms)

abbrev pub stms_width : Stms → ℕ
stms_width Stms.no_stms = 0
stms_width (Stms.stm a more) = suc (stms_width more)

abbrev pub exp_width : Exp → ℕ
exp_width (Exp.literal l p) = 0
exp_width (Exp.name x p) = 0
exp_width (Exp.func x p) = 0
exp_width (Exp.parens e) = 0
exp_width (Exp.parts o p es) = exps_width es
exp_width (Exp.chain e ls) = links_width ls
exp_width (Exp.logic j e ls) = ands_width ls
exp_width (Exp.prefix ss e) = length ss
exp_width (Exp.postfix e ss) = steps_width ss

abbrev pub stm_width : Stm → ℕ
stm_width (Stm.set x p e) = 0
stm_width (Stm.add x q p e) = 0
stm_width (Stm.put x q p i e) = 0
stm_width (Stm.return p e) = 0
stm_width (Stm.leave p) = 0
stm_width (Stm.cases p arms els) = arms_width arms
stm_width (Stm.while p e b) = 0
stm_width (Stm.repeat p b e) = 0
stm_width (Stm.for p x e b) = 0
stm_width (Stm.just p e) = 0

abbrev pub width : Node → ℕ
width (exp_node e) = exp_width e
width (stm_node a) = stm_width a
width (block_node b) = stms_width b

-- the steps of each node of a script fit 32 bits
abbrev pub Narrow : Script → Type 0
Narrow sc = (n : ℕ) (t : Node) → node_at sc n ≡ Some t → width t + 2 < 2 ^ 32
