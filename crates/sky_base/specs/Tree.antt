-- The tree of a script, and the numbers of its nodes.
use Rattle.std.specs.Prelude.{ℕ, ◌+◌, List, [], ◌∷◌, Bool, ℤ}
use Rattle.sky_base.specs.Op.{Order}

-- a place in the script, from 1; 0 and 0 for no place
pub record Place : Type 0 where
  pub line : ℕ
  pub col : ℕ

abbrev pub nowhere : Place
nowhere = record { line = 0; col = 0 }

pub data Lit : Type 0 where
  null : Lit
  truth : Bool → Lit
  num : ℤ → Lit
  text : List ℕ → Lit

-- the operators of chains and comparisons
pub data Oper : Type 0 where
  plus : Oper
  minus : Oper
  times : Oper
  over : Oper
  rest : Oper
  compare : Order → Oper

-- `&&` and `||`
pub data Junction : Type 0 where
  both : Junction
  either : Junction

pub data Sign : Type 0 where
  not : Sign
  minus : Sign
  star : Sign

pub record SignAt : Type 0 where
  pub sign : Sign
  pub place : Place

-- the forms that are visited after all of their parts; the parts of a dictionary are its keys and values in turn
pub data Form : Type 0 where
  list : Form
  dict : Form
  spawn : Form
  spawn_exec : Form
  exec : Form
  ref : Form
  len : Form
  keys : Form
  has : Form
  range : Form

mutual
  pub data Exp : Type 0 where
    literal : Lit → Place → Exp
    name : List ℕ → Place → Exp
    -- an anonymous function by its name `#k`, with the place of its word; its body stands among the functions
    func : List ℕ → Place → Exp
    parens : Exp → Exp
    -- a list, a dictionary or a word with its parts
    parts : Form → Place → Exps → Exp
    -- a chain of `+ -` or of `* / %`, or a comparison, which has one operator
    chain : Exp → Links → Exp
    -- a chain of `&&` or of `||`
    logic : Junction → Exp → Ands → Exp
    -- the signs stand as in the text, the outermost first
    prefix : List SignAt → Exp → Exp
    postfix : Exp → Steps → Exp

  pub data Exps : Type 0 where
    no_exps : Exps
    exp : Exp → Exps → Exps

  -- operators, each with its right operand
  pub data Links : Type 0 where
    no_links : Links
    link : Oper → Place → Exp → Links → Links

  pub data Ands : Type 0 where
    no_ands : Ands
    and : Place → Exp → Ands → Ands

  -- the indices and calls of a postfix
  pub data Steps : Type 0 where
    no_steps : Steps
    index : Exp → Place → Steps → Steps
    call : Exps → Place → Steps → Steps

mutual
  pub data Stm : Type 0 where
    -- `x = e;` with the place of the name
    set : List ℕ → Place → Exp → Stm
    -- `x += e;` with the places of the name and of the `+=`
    add : List ℕ → Place → Place → Exp → Stm
    -- `x[i] = e;` with the places of the name and of the `[`
    put : List ℕ → Place → Place → Exp → Exp → Stm
    return : Place → Exp → Stm
    -- `return;`
    leave : Place → Stm
    cases : Place → Arms → Else → Stm
    while : Place → Exp → Stms → Stm
    -- `do`: the block, then the test, as in the text
    repeat : Place → Stms → Exp → Stm
    for : Place → List ℕ → Exp → Stms → Stm
    just : Place → Exp → Stm

  -- the statements of a block
  pub data Stms : Type 0 where
    no_stms : Stms
    stm : Stm → Stms → Stms

  -- the arms of a choice, each with the place of its `if`
  pub data Arms : Type 0 where
    no_arms : Arms
    arm : Place → Exp → Stms → Arms → Arms

  -- the block after the last `else`
  pub data Else : Type 0 where
    no_else : Else
    otherwise : Stms → Else

-- how many nodes a tree has: itself and the expressions and blocks in it
abbrev mutual
  pub nodes : Exp → ℕ
  nodes (Exp.literal v p) = 1
  nodes (Exp.name x p) = 1
  nodes (Exp.func x p) = 1
  nodes (Exp.parens e) = 1 + nodes e
  nodes (Exp.parts o p es) = 1 + exps_nodes es
  nodes (Exp.chain e ls) = 1 + (nodes e + links_nodes ls)
  nodes (Exp.logic j e ls) = 1 + (nodes e + ands_nodes ls)
  nodes (Exp.prefix ss e) = 1 + nodes e
  nodes (Exp.postfix e ss) = 1 + (nodes e + steps_nodes ss)

  pub exps_nodes : Exps → ℕ
  exps_nodes Exps.no_exps = 0
  exps_nodes (Exps.exp e es) = nodes e + exps_nodes es

  pub links_nodes : Links → ℕ
  links_nodes Links.no_links = 0
  links_nodes (Links.link o p e ls) = nodes e + links_nodes ls

  pub ands_nodes : Ands → ℕ
  ands_nodes Ands.no_ands = 0
  ands_nodes (Ands.and p e ls) = nodes e + ands_nodes ls

  pub steps_nodes : Steps → ℕ
  steps_nodes Steps.no_steps = 0
  steps_nodes (Steps.index e p ss) = nodes e + steps_nodes ss
  steps_nodes (Steps.call es p ss) = exps_nodes es + steps_nodes ss

-- a number that is smaller for each part of a tree
abbrev mutual
  pub weight : Exp → ℕ
  weight (Exp.literal v p) = 1
  weight (Exp.name x p) = 1
  weight (Exp.func x p) = 1
  weight (Exp.parens e) = 1 + weight e
  weight (Exp.parts o p es) = 1 + exps_weight es
  weight (Exp.chain e ls) = 1 + (weight e + links_weight ls)
  weight (Exp.logic j e ls) = 1 + (weight e + ands_weight ls)
  weight (Exp.prefix ss e) = 1 + weight e
  weight (Exp.postfix e ss) = 1 + (weight e + steps_weight ss)

  pub exps_weight : Exps → ℕ
  exps_weight Exps.no_exps = 0
  exps_weight (Exps.exp e es) = weight e + exps_weight es

  pub links_weight : Links → ℕ
  links_weight Links.no_links = 0
  links_weight (Links.link o p e ls) = weight e + links_weight ls

  pub ands_weight : Ands → ℕ
  ands_weight Ands.no_ands = 0
  ands_weight (Ands.and p e ls) = weight e + ands_weight ls

  pub steps_weight : Steps → ℕ
  steps_weight Steps.no_steps = 0
  steps_weight (Steps.index e p ss) = weight e + steps_weight ss
  steps_weight (Steps.call es p ss) = 1 + (exps_weight es + steps_weight ss)

abbrev mutual
  pub stm_nodes : Stm → ℕ
  stm_nodes (Stm.set x p e) = 1 + nodes e
  stm_nodes (Stm.add x q p e) = 1 + nodes e
  stm_nodes (Stm.put x q p i e) = 1 + (nodes i + nodes e)
  stm_nodes (Stm.return p e) = 1 + nodes e
  stm_nodes (Stm.leave p) = 1
  stm_nodes (Stm.cases p arms els) = 1 + (arms_nodes arms + else_nodes els)
  stm_nodes (Stm.while p e b) = 1 + (nodes e + (1 + stms_nodes b))
  stm_nodes (Stm.repeat p b e) = 1 + (1 + stms_nodes b + nodes e)
  stm_nodes (Stm.for p x e b) = 1 + (nodes e + (1 + stms_nodes b))
  stm_nodes (Stm.just p e) = 1 + nodes e

  pub stms_nodes : Stms → ℕ
  stms_nodes Stms.no_stms = 0
  stms_nodes (Stms.stm s ss) = stm_nodes s + stms_nodes ss

  pub arms_nodes : Arms → ℕ
  arms_nodes Arms.no_arms = 0
  arms_nodes (Arms.arm p e b arms) = nodes e + (1 + stms_nodes b + arms_nodes arms)

  pub else_nodes : Else → ℕ
  else_nodes Else.no_else = 0
  else_nodes (Else.otherwise b) = 1 + stms_nodes b

-- a number that is smaller for each part of a statement
abbrev mutual
  pub stm_weight : Stm → ℕ
  stm_weight (Stm.set x p e) = 1
  stm_weight (Stm.add x q p e) = 1
  stm_weight (Stm.put x q p i e) = 1
  stm_weight (Stm.return p e) = 1
  stm_weight (Stm.leave p) = 1
  stm_weight (Stm.cases p arms els) = 1 + (arms_weight arms + else_weight els)
  stm_weight (Stm.while p e b) = 1 + stms_weight b
  stm_weight (Stm.repeat p b e) = 1 + stms_weight b
  stm_weight (Stm.for p x e b) = 1 + stms_weight b
  stm_weight (Stm.just p e) = 1

  pub stms_weight : Stms → ℕ
  stms_weight Stms.no_stms = 0
  stms_weight (Stms.stm s ss) = stm_weight s + stms_weight ss

  pub arms_weight : Arms → ℕ
  arms_weight Arms.no_arms = 0
  arms_weight (Arms.arm p e b arms) = 1 + (stms_weight b + arms_weight arms)

  pub else_weight : Else → ℕ
  else_weight Else.no_else = 0
  else_weight (Else.otherwise b) = 1 + stms_weight b

-- the nodes of a block, itself included
abbrev pub block_nodes : Stms → ℕ
block_nodes b = 1 + stms_nodes b

-- a named function with the place of its name, or an anonymous one, whose name is `#k`, with the place of its word
pub record FunDef : Type 0 where
  pub name : List ℕ
  pub params : List (List ℕ)
  pub body : Stms
  pub place : Place
  -- the names that an anonymous one captures where they are set: those in its body that are no parameters; none for a named one
  pub uses : List (List ℕ)

pub record Script : Type 0 where
  pub funs : List FunDef
  pub main : Stms
  -- the names of the inputs
  pub keys : List (List ℕ)

-- the nodes of the functions' bodies
abbrev pub funs_nodes : List FunDef → ℕ
funs_nodes [] = 0
funs_nodes (f ∷ fs) = block_nodes f.body + funs_nodes fs

-- how many nodes a script has
abbrev pub script_nodes : Script → ℕ
script_nodes sc = block_nodes sc.main + funs_nodes sc.funs
