-- The trees of the text. The body of an anonymous function stands inside the expression; in the trees that are run it
-- stands among the functions, and the expression holds its number (`Lifted`).
use Rattle.std.specs.Prelude.{ℕ, suc, ◌+◌, List, [], ◌∷◌, Bool, true, false}
use Rattle.sky_base.specs.Tree.{Place, Lit, Oper, Junction, SignAt, Form}
use Rattle.sky_parse_grammar.specs.Levels.{oper_level, junction_level}

-- a parameter, with the place of its name
pub record Param : Type 0 where
  pub name : List ℕ
  pub place : Place

mutual
  pub data Exp : Type 0 where
    literal : Lit → Place → Exp
    name : List ℕ → Place → Exp
    -- an anonymous function, with the place of its word
    func : Place → List Param → Stms → Exp
    parens : Exp → Exp
    -- a list, a dictionary or a word with its parts
    parts : Form → Place → Exps → Exp
    -- a chain of `+ -` or of `* / %`, or a comparison, which has one operator
    chain : Exp → Links → Exp
    -- a chain of `&&` or of `||`
    logic : Junction → Exp → Ands → Exp
    -- the signs stand as in the text, the outermost first
    prefix : List SignAt → Exp → Exp
    postfix : Exp → Steps → Exp

  pub data Exps : Type 0 where
    no_exps : Exps
    exp : Exp → Exps → Exps

  -- operators, each with its right operand
  pub data Links : Type 0 where
    no_links : Links
    link : Oper → Place → Exp → Links → Links

  pub data Ands : Type 0 where
    no_ands : Ands
    and : Place → Exp → Ands → Ands

  -- the indices and calls of a postfix
  pub data Steps : Type 0 where
    no_steps : Steps
    index : Exp → Place → Steps → Steps
    call : Exps → Place → Steps → Steps

  pub data Stm : Type 0 where
    -- `x = e;` with the place of the name
    set : List ℕ → Place → Exp → Stm
    -- `x += e;` with the places of the name and of the `+=`
    add : List ℕ → Place → Place → Exp → Stm
    -- `x[i] = e;` with the places of the name and of the `[`
    put : List ℕ → Place → Place → Exp → Exp → Stm
    return : Place → Exp → Stm
    -- `return;`
    leave : Place → Stm
    cases : Place → Arms → Else → Stm
    while : Place → Exp → Stms → Stm
    -- `do`: the block, then the test, as in the text
    repeat : Place → Stms → Exp → Stm
    for : Place → List ℕ → Exp → Stms → Stm
    just : Place → Exp → Stm

  -- the statements of a block
  pub data Stms : Type 0 where
    no_stms : Stms
    stm : Stm → Stms → Stms

  -- the arms of a choice, each with the place of its `if`
  pub data Arms : Type 0 where
    no_arms : Arms
    arm : Place → Exp → Stms → Arms → Arms

  -- the block after the last `else`
  pub data Else : Type 0 where
    no_else : Else
    otherwise : Stms → Else

-- a number that is smaller for each part of a tree
abbrev mutual
  pub weight : Exp → ℕ
  weight (Exp.literal v p) = 1
  weight (Exp.name x p) = 1
  weight (Exp.func p xs b) = 1 + stms_weight b
  weight (Exp.parens e) = 1 + weight e
  weight (Exp.parts o p es) = 1 + exps_weight es
  weight (Exp.chain e ls) = 1 + (weight e + links_weight ls)
  weight (Exp.logic j e ls) = 1 + (weight e + ands_weight ls)
  weight (Exp.prefix ss e) = 1 + weight e
  weight (Exp.postfix e ss) = 1 + (weight e + steps_weight ss)

  pub exps_weight : Exps → ℕ
  exps_weight Exps.no_exps = 0
  exps_weight (Exps.exp e es) = weight e + exps_weight es

  pub links_weight : Links → ℕ
  links_weight Links.no_links = 0
  links_weight (Links.link o p e ls) = weight e + links_weight ls

  pub ands_weight : Ands → ℕ
  ands_weight Ands.no_ands = 0
  ands_weight (Ands.and p e ls) = weight e + ands_weight ls

  pub steps_weight : Steps → ℕ
  steps_weight Steps.no_steps = 0
  steps_weight (Steps.index e p ss) = weight e + steps_weight ss
  steps_weight (Steps.call es p ss) = 1 + (exps_weight es + steps_weight ss)

  pub stm_weight : Stm → ℕ
  stm_weight (Stm.set x p e) = 1 + weight e
  stm_weight (Stm.add x q p e) = 1 + weight e
  stm_weight (Stm.put x q p i e) = 1 + (weight i + weight e)
  stm_weight (Stm.return p e) = 1 + weight e
  stm_weight (Stm.leave p) = 1
  stm_weight (Stm.cases p arms els) = 1 + (arms_weight arms + else_weight els)
  stm_weight (Stm.while p e b) = 1 + (weight e + stms_weight b)
  stm_weight (Stm.repeat p b e) = 1 + (stms_weight b + weight e)
  stm_weight (Stm.for p x e b) = 1 + (weight e + stms_weight b)
  stm_weight (Stm.just p e) = 1 + weight e

  pub stms_weight : Stms → ℕ
  stms_weight Stms.no_stms = 0
  stms_weight (Stms.stm s ss) = stm_weight s + stms_weight ss

  pub arms_weight : Arms → ℕ
  arms_weight Arms.no_arms = 0
  arms_weight (Arms.arm p e b arms) = 1 + (weight e + (stms_weight b + arms_weight arms))

  pub else_weight : Else → ℕ
  else_weight Else.no_else = 0
  else_weight (Else.otherwise b) = 1 + stms_weight b

abbrev pub links_level : Links → ℕ
links_level Links.no_links = 0
links_level (Links.link o p e ls) = oper_level o

-- the level of the grammar at which a tree stands: a primary 7, a postfix 6, a prefix 5
abbrev pub level : Exp → ℕ
level (Exp.literal l p) = 7
level (Exp.name x p) = 7
level (Exp.func p xs b) = 7
level (Exp.parens e) = 7
level (Exp.parts o p es) = 7
level (Exp.chain e ls) = links_level ls
level (Exp.logic j e ls) = junction_level j
level (Exp.prefix ss e) = 5
level (Exp.postfix e ss) = 6

abbrev pub exps_count : Exps → ℕ
exps_count Exps.no_exps = 0
exps_count (Exps.exp e es) = suc (exps_count es)

-- a comparison has one operator, a chain at least one
abbrev pub links_enough : Links → Bool
links_enough Links.no_links = false
links_enough (Links.link (Oper.compare o) p e Links.no_links) = true
links_enough (Links.link (Oper.compare o) p e (Links.link q r f ls)) = false
links_enough (Links.link Oper.plus p e ls) = true
links_enough (Links.link Oper.minus p e ls) = true
links_enough (Links.link Oper.times p e ls) = true
links_enough (Links.link Oper.over p e ls) = true
links_enough (Links.link Oper.rest p e ls) = true

abbrev pub some_ands : Ands → Bool
some_ands Ands.no_ands = false
some_ands (Ands.and p e ls) = true

abbrev pub some_signs : List SignAt → Bool
some_signs [] = false
some_signs (s ∷ ss) = true

abbrev pub some_steps : Steps → Bool
some_steps Steps.no_steps = false
some_steps (Steps.index e p ss) = true
some_steps (Steps.call es p ss) = true
