-- From the trees of the text to those that are run. The anonymous functions are numbered in the order of their words:
-- each becomes an expression with its name, and a function of the script beside it.
use Rattle.std.specs.Prelude.{ℕ, suc, ◌+◌, Bool, true, false, List, [], ◌∷◌, ◌++◌}
use Rattle.std.specs.Fmt.{decimal}
use Rattle.std.specs.Ordering.{nat_cmp}
use Rattle.std.specs.BTreeSet.{insert_key}
use Rattle.std.specs.declared.cmp.Ordering.{Ordering}
use Rattle.std.specs.Cmp.Lexicographic.{slice_cmp}
use Rattle.sky_base.specs.Tree as run
use Rattle.sky_base.specs.Tree.{Place}
use Rattle.sky_base.specs.Eval.{is_one_of}
use Rattle.sky_parse_grammar.specs.Source.{Param, Exp, Exps, Links, Ands, Steps, Stm, Stms, Arms, Else}

-- the name of the anonymous function of a number: `#`, which begins no NAME, and its digits
abbrev pub number_name : ℕ → List ℕ
number_name k = 35 ∷ decimal k

abbrev pub param_names : List Param → List (List ℕ)
param_names [] = []
param_names (x ∷ xs) = x.name ∷ param_names xs

-- ---- the names that a body uses

-- texts by their bytes
abbrev pub text_cmp : List ℕ → List ℕ → Ordering
text_cmp = slice_cmp nat_cmp

abbrev pub use_unless : Bool → List (List ℕ) → List ℕ → List (List ℕ)
use_unless true us y = us
use_unless false us y = insert_key text_cmp us y

-- these, and of the names those that are no parameters, each once and rising
abbrev pub uses_from : List (List ℕ) → List (List ℕ) → List (List ℕ) → List (List ℕ)
uses_from xs us [] = us
uses_from xs us (y ∷ ys) = uses_from xs (use_unless (is_one_of y xs) us y) ys

-- the names without the parameters, each once and rising
abbrev pub uses_of : List (List ℕ) → List (List ℕ) → List (List ℕ)
uses_of xs ys = uses_from xs [] ys

-- the names that stand in a tree, as a name, a target or the name of a `for`, those in bodies of anonymous functions too
abbrev mutual
  pub names : Exp → List (List ℕ)
  names (Exp.literal v p) = []
  names (Exp.name x p) = x ∷ []
  names (Exp.func p xs b) = stms_names b
  names (Exp.parens e) = names e
  names (Exp.parts o p es) = exps_names es
  names (Exp.chain e ls) = names e ++ (links_names ls)
  names (Exp.logic j e ls) = names e ++ (ands_names ls)
  names (Exp.prefix ss e) = names e
  names (Exp.postfix e ss) = names e ++ (steps_names ss)

  pub exps_names : Exps → List (List ℕ)
  exps_names Exps.no_exps = []
  exps_names (Exps.exp e es) = names e ++ (exps_names es)

  pub links_names : Links → List (List ℕ)
  links_names Links.no_links = []
  links_names (Links.link o p e ls) = names e ++ (links_names ls)

  pub ands_names : Ands → List (List ℕ)
  ands_names Ands.no_ands = []
  ands_names (Ands.and p e ls) = names e ++ (ands_names ls)

  pub steps_names : Steps → List (List ℕ)
  steps_names Steps.no_steps = []
  steps_names (Steps.index e p ss) = names e ++ (steps_names ss)
  steps_names (Steps.call es p ss) = exps_names es ++ (steps_names ss)

  pub stm_names : Stm → List (List ℕ)
  stm_names (Stm.set x p e) = x ∷ names e
  stm_names (Stm.add x q p e) = x ∷ names e
  stm_names (Stm.put x q p i e) = x ∷ (names i ++ (names e))
  stm_names (Stm.return p e) = names e
  stm_names (Stm.leave p) = []
  stm_names (Stm.cases p arms els) = arms_names arms ++ (else_names els)
  stm_names (Stm.while p e b) = names e ++ (stms_names b)
  stm_names (Stm.repeat p b e) = stms_names b ++ (names e)
  stm_names (Stm.for p x e b) = x ∷ (names e ++ (stms_names b))
  stm_names (Stm.just p e) = names e

  pub stms_names : Stms → List (List ℕ)
  stms_names Stms.no_stms = []
  stms_names (Stms.stm s ss) = stm_names s ++ (stms_names ss)

  pub arms_names : Arms → List (List ℕ)
  arms_names Arms.no_arms = []
  arms_names (Arms.arm p e b arms) = names e ++ (stms_names b ++ (arms_names arms))

  pub else_names : Else → List (List ℕ)
  else_names Else.no_else = []
  else_names (Else.otherwise b) = stms_names b

-- ---- numbers

-- how many anonymous functions stand in a tree
abbrev mutual
  pub count : Exp → ℕ
  count (Exp.literal v p) = 0
  count (Exp.name x p) = 0
  count (Exp.func p xs b) = suc (stms_count b)
  count (Exp.parens e) = count e
  count (Exp.parts o p es) = exps_count es
  count (Exp.chain e ls) = count e + (links_count ls)
  count (Exp.logic j e ls) = count e + (ands_count ls)
  count (Exp.prefix ss e) = count e
  count (Exp.postfix e ss) = count e + (steps_count ss)

  pub exps_count : Exps → ℕ
  exps_count Exps.no_exps = 0
  exps_count (Exps.exp e es) = count e + (exps_count es)

  pub links_count : Links → ℕ
  links_count Links.no_links = 0
  links_count (Links.link o p e ls) = count e + (links_count ls)

  pub ands_count : Ands → ℕ
  ands_count Ands.no_ands = 0
  ands_count (Ands.and p e ls) = count e + (ands_count ls)

  pub steps_count : Steps → ℕ
  steps_count Steps.no_steps = 0
  steps_count (Steps.index e p ss) = count e + (steps_count ss)
  steps_count (Steps.call es p ss) = exps_count es + (steps_count ss)

  pub stm_count : Stm → ℕ
  stm_count (Stm.set x p e) = count e
  stm_count (Stm.add x q p e) = count e
  stm_count (Stm.put x q p i e) = count i + (count e)
  stm_count (Stm.return p e) = count e
  stm_count (Stm.leave p) = 0
  stm_count (Stm.cases p arms els) = arms_count arms + (else_count els)
  stm_count (Stm.while p e b) = count e + (stms_count b)
  stm_count (Stm.repeat p b e) = stms_count b + (count e)
  stm_count (Stm.for p x e b) = count e + (stms_count b)
  stm_count (Stm.just p e) = count e

  pub stms_count : Stms → ℕ
  stms_count Stms.no_stms = 0
  stms_count (Stms.stm s ss) = stm_count s + (stms_count ss)

  pub arms_count : Arms → ℕ
  arms_count Arms.no_arms = 0
  arms_count (Arms.arm p e b arms) = count e + (stms_count b + (arms_count arms))

  pub else_count : Else → ℕ
  else_count Else.no_else = 0
  else_count (Else.otherwise b) = stms_count b

-- the tree that is run, where so many anonymous functions stand before
abbrev mutual
  pub tree : ℕ → Exp → run.Exp
  tree n (Exp.literal v p) = run.Exp.literal v p
  tree n (Exp.name x p) = run.Exp.name x p
  tree n (Exp.func p xs b) = run.Exp.func (number_name n) p
  tree n (Exp.parens e) = run.Exp.parens (tree n e)
  tree n (Exp.parts o p es) = run.Exp.parts o p (exps_tree n es)
  tree n (Exp.chain e ls) = run.Exp.chain (tree n e) (links_tree (n + count e) ls)
  tree n (Exp.logic j e ls) = run.Exp.logic j (tree n e) (ands_tree (n + count e) ls)
  tree n (Exp.prefix ss e) = run.Exp.prefix ss (tree n e)
  tree n (Exp.postfix e ss) = run.Exp.postfix (tree n e) (steps_tree (n + count e) ss)

  pub exps_tree : ℕ → Exps → run.Exps
  exps_tree n Exps.no_exps = run.Exps.no_exps
  exps_tree n (Exps.exp e es) = run.Exps.exp (tree n e) (exps_tree (n + count e) es)

  pub links_tree : ℕ → Links → run.Links
  links_tree n Links.no_links = run.Links.no_links
  links_tree n (Links.link o p e ls) = run.Links.link o p (tree n e) (links_tree (n + count e) ls)

  pub ands_tree : ℕ → Ands → run.Ands
  ands_tree n Ands.no_ands = run.Ands.no_ands
  ands_tree n (Ands.and p e ls) = run.Ands.and p (tree n e) (ands_tree (n + count e) ls)

  pub steps_tree : ℕ → Steps → run.Steps
  steps_tree n Steps.no_steps = run.Steps.no_steps
  steps_tree n (Steps.index e p ss) = run.Steps.index (tree n e) p (steps_tree (n + count e) ss)
  steps_tree n (Steps.call es p ss) = run.Steps.call (exps_tree n es) p (steps_tree (n + exps_count es) ss)

  pub stm_tree : ℕ → Stm → run.Stm
  stm_tree n (Stm.set x p e) = run.Stm.set x p (tree n e)
  stm_tree n (Stm.add x q p e) = run.Stm.add x q p (tree n e)
  stm_tree n (Stm.put x q p i e) = run.Stm.put x q p (tree n i) (tree (n + count i) e)
  stm_tree n (Stm.return p e) = run.Stm.return p (tree n e)
  stm_tree n (Stm.leave p) = run.Stm.leave p
  stm_tree n (Stm.cases p arms els) = run.Stm.cases p (arms_tree n arms) (else_tree (n + arms_count arms) els)
  stm_tree n (Stm.while p e b) = run.Stm.while p (tree n e) (stms_tree (n + count e) b)
  stm_tree n (Stm.repeat p b e) = run.Stm.repeat p (stms_tree n b) (tree (n + stms_count b) e)
  stm_tree n (Stm.for p x e b) = run.Stm.for p x (tree n e) (stms_tree (n + count e) b)
  stm_tree n (Stm.just p e) = run.Stm.just p (tree n e)

  pub stms_tree : ℕ → Stms → run.Stms
  stms_tree n Stms.no_stms = run.Stms.no_stms
  stms_tree n (Stms.stm s ss) = run.Stms.stm (stm_tree n s) (stms_tree (n + stm_count s) ss)

  pub arms_tree : ℕ → Arms → run.Arms
  arms_tree n Arms.no_arms = run.Arms.no_arms
  arms_tree n (Arms.arm p e b arms) = run.Arms.arm p (tree n e) (stms_tree (n + count e) b) (arms_tree (n + count e + stms_count b) arms)

  pub else_tree : ℕ → Else → run.Else
  else_tree n Else.no_else = run.Else.no_else
  else_tree n (Else.otherwise b) = run.Else.otherwise (stms_tree n b)

abbrev pub closure : ℕ → Place → List (List ℕ) → run.Stms → List (List ℕ) → run.FunDef
closure n p xs b ys = record { name = number_name n; params = xs; body = b; place = p; uses = uses_of xs ys }

-- its anonymous functions, in the order of their words
abbrev mutual
  pub made : ℕ → Exp → List run.FunDef
  made n (Exp.literal v p) = []
  made n (Exp.name x p) = []
  made n (Exp.func p xs b) = closure n p (param_names xs) (stms_tree (n + 1) b) (stms_names b) ∷ stms_made (n + 1) b
  made n (Exp.parens e) = made n e
  made n (Exp.parts o p es) = exps_made n es
  made n (Exp.chain e ls) = made n e ++ (links_made (n + count e) ls)
  made n (Exp.logic j e ls) = made n e ++ (ands_made (n + count e) ls)
  made n (Exp.prefix ss e) = made n e
  made n (Exp.postfix e ss) = made n e ++ (steps_made (n + count e) ss)

  pub exps_made : ℕ → Exps → List run.FunDef
  exps_made n Exps.no_exps = []
  exps_made n (Exps.exp e es) = made n e ++ (exps_made (n + count e) es)

  pub links_made : ℕ → Links → List run.FunDef
  links_made n Links.no_links = []
  links_made n (Links.link o p e ls) = made n e ++ (links_made (n + count e) ls)

  pub ands_made : ℕ → Ands → List run.FunDef
  ands_made n Ands.no_ands = []
  ands_made n (Ands.and p e ls) = made n e ++ (ands_made (n + count e) ls)

  pub steps_made : ℕ → Steps → List run.FunDef
  steps_made n Steps.no_steps = []
  steps_made n (Steps.index e p ss) = made n e ++ (steps_made (n + count e) ss)
  steps_made n (Steps.call es p ss) = exps_made n es ++ (steps_made (n + exps_count es) ss)

  pub stm_made : ℕ → Stm → List run.FunDef
  stm_made n (Stm.set x p e) = made n e
  stm_made n (Stm.add x q p e) = made n e
  stm_made n (Stm.put x q p i e) = made n i ++ (made (n + count i) e)
  stm_made n (Stm.return p e) = made n e
  stm_made n (Stm.leave p) = []
  stm_made n (Stm.cases p arms els) = arms_made n arms ++ (else_made (n + arms_count arms) els)
  stm_made n (Stm.while p e b) = made n e ++ (stms_made (n + count e) b)
  stm_made n (Stm.repeat p b e) = stms_made n b ++ (made (n + stms_count b) e)
  stm_made n (Stm.for p x e b) = made n e ++ (stms_made (n + count e) b)
  stm_made n (Stm.just p e) = made n e

  pub stms_made : ℕ → Stms → List run.FunDef
  stms_made n Stms.no_stms = []
  stms_made n (Stms.stm s ss) = stm_made n s ++ (stms_made (n + stm_count s) ss)

  pub arms_made : ℕ → Arms → List run.FunDef
  arms_made n Arms.no_arms = []
  arms_made n (Arms.arm p e b arms) = made n e ++ (stms_made (n + count e) b ++ (arms_made (n + count e + stms_count b) arms))

  pub else_made : ℕ → Else → List run.FunDef
  else_made n Else.no_else = []
  else_made n (Else.otherwise b) = stms_made n b
