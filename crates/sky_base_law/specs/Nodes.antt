-- The nodes of a script in preorder, by which they are numbered.
use Rattle.std.specs.Prelude.{ℕ, List, [], ◌∷◌, ◌++◌, Option, slice_get}
use Rattle.sky_base.specs.Tree.{Exp, Exps, Links, Ands, Steps, Stm, Stms, Arms, Else, FunDef, Script}
use Rattle.sky_base_law.specs.Opened.{Node, exp_node, stm_node, block_node}

abbrev mutual
  pub pre_exp : Exp → List Node
  pre_exp (Exp.literal l p) = exp_node (Exp.literal l p) ∷ []
  pre_exp (Exp.name x p) = exp_node (Exp.name x p) ∷ []
  pre_exp (Exp.func x p) = exp_node (Exp.func x p) ∷ []
  pre_exp (Exp.parens e) = exp_node (Exp.parens e) ∷ pre_exp e
  pre_exp (Exp.parts o p es) = exp_node (Exp.parts o p es) ∷ pre_exps es
  pre_exp (Exp.chain e ls) = exp_node (Exp.chain e ls) ∷ (pre_exp e ++ pre_links ls)
  pre_exp (Exp.logic j e ls) = exp_node (Exp.logic j e ls) ∷ (pre_exp e ++ pre_ands ls)
  pre_exp (Exp.prefix ss e) = exp_node (Exp.prefix ss e) ∷ pre_exp e
  pre_exp (Exp.postfix e ss) = exp_node (Exp.postfix e ss) ∷ (pre_exp e ++ pre_steps ss)

  pub pre_exps : Exps → List Node
  pre_exps Exps.no_exps = []
  pre_exps (Exps.exp e es) = pre_exp e ++ pre_exps es

  pub pre_links : Links → List Node
  pre_links Links.no_links = []
  pre_links (Links.link o p e ls) = pre_exp e ++ pre_links ls

  pub pre_ands : Ands → List Node
  pre_ands Ands.no_ands = []
  pre_ands (Ands.and p e ls) = pre_exp e ++ pre_ands ls

  pub pre_steps : Steps → List Node
  pre_steps Steps.no_steps = []
  pre_steps (Steps.index e p ss) = pre_exp e ++ pre_steps ss
  pre_steps (Steps.call es p ss) = pre_exps es ++ pre_steps ss

abbrev mutual
  pub pre_stm : Stm → List Node
  pre_stm (Stm.set x p e) = stm_node (Stm.set x p e) ∷ pre_exp e
  pre_stm (Stm.add x q p e) = stm_node (Stm.add x q p e) ∷ pre_exp e
  pre_stm (Stm.put x q p i e) = stm_node (Stm.put x q p i e) ∷ (pre_exp i ++ pre_exp e)
  pre_stm (Stm.return p e) = stm_node (Stm.return p e) ∷ pre_exp e
  pre_stm (Stm.leave p) = stm_node (Stm.leave p) ∷ []
  pre_stm (Stm.cases p arms els) = stm_node (Stm.cases p arms els) ∷ (pre_arms arms ++ pre_else els)
  pre_stm (Stm.while p e b) = stm_node (Stm.while p e b) ∷ (pre_exp e ++ (block_node b ∷ pre_stms b))
  pre_stm (Stm.repeat p b e) = stm_node (Stm.repeat p b e) ∷ ((block_node b ∷ pre_stms b) ++ pre_exp e)
  pre_stm (Stm.for p x e b) = stm_node (Stm.for p x e b) ∷ (pre_exp e ++ (block_node b ∷ pre_stms b))
  pre_stm (Stm.just p e) = stm_node (Stm.just p e) ∷ pre_exp e

  pub pre_stms : Stms → List Node
  pre_stms Stms.no_stms = []
  pre_stms (Stms.stm a more) = pre_stm a ++ pre_stms more

  pub pre_arms : Arms → List Node
  pre_arms Arms.no_arms = []
  pre_arms (Arms.arm p e b arms) = pre_exp e ++ ((block_node b ∷ pre_stms b) ++ pre_arms arms)

  pub pre_else : Else → List Node
  pre_else Else.no_else = []
  pre_else (Else.otherwise b) = block_node b ∷ pre_stms b

abbrev pub pre_block : Stms → List Node
pre_block b = block_node b ∷ pre_stms b

abbrev pub pre_funs : List FunDef → List Node
pre_funs [] = []
pre_funs (f ∷ fs) = pre_block f.body ++ pre_funs fs

-- first the block of `main` with all in it, then for each function its block with all in it
abbrev pub pre_script : Script → List Node
pre_script sc = pre_block sc.main ++ pre_funs sc.funs

abbrev pub node_at : Script → ℕ → Option Node
node_at sc i = slice_get (pre_script sc) i
