-- Numbering and lifting: the numbers rise with the words, and no node is lost.
use Rattle.std.proofs.Common.{◌≡◌, ℕ, zero, suc, ◌+◌, ◌^◌, ◌<◌, List, [], ◌∷◌, ◌++◌, length, refl, sym, ap, ◌∙◌, true, arith}
use Rattle.std.specs.Str.Parse.{digits_value}
use Rattle.std.proofs.lemmas.Fmt.{decimal_is_IsNumeral}
use Rattle.sky_base.specs.Name.{is_anonymous}
use Rattle.sky_base.specs.Tree as run
use Rattle.sky_parse_grammar.specs.Source.{Exp, Exps, Links, Ands, Steps, Stm, Stms, Arms, Else}
use Rattle.sky_parse_grammar.specs.Lifted.{number_name, count, exps_count, links_count, ands_count, steps_count, stm_count, stms_count, arms_count}
use Rattle.sky_parse_grammar.specs.Lifted.{else_count, tree, exps_tree, links_tree, ands_tree, steps_tree, stm_tree, stms_tree, arms_tree, else_tree, made}
use Rattle.sky_parse_grammar.specs.Lifted.{exps_made, links_made, ands_made, steps_made, stm_made, stms_made, arms_made, else_made}

-- so many names from a number on
abbrev pub numbered : ℕ → ℕ → List (List ℕ)
numbered n zero = []
numbered n (suc k) = number_name n ∷ numbered (n + 1) k

abbrev pub fun_names : List run.FunDef → List (List ℕ)
fun_names [] = []
fun_names (f ∷ fs) = f.name ∷ fun_names fs

names_append : (fs gs : List run.FunDef) → fun_names (fs ++ gs) ≡ fun_names fs ++ fun_names gs
names_append [] gs = refl
names_append (f ∷ fs) gs = ap (λ xs. f.name ∷ xs) (names_append fs gs)

numbered_append : (n k m : ℕ) → numbered n (k + m) ≡ numbered n k ++ numbered (n + k) m
numbered_append n zero m =
    let e : 0 + m ≡ m = omega arith in
    let f : n ≡ n + 0 = omega arith in
    ap (numbered n) e ∙ ap (λ i. numbered i m) f
numbered_append n (suc k) m =
    let e : suc k + m ≡ suc (k + m) = omega arith in
    let f : n + 1 + k ≡ n + suc k = omega arith in
    ap (numbered n) e ∙ ap (λ xs. number_name n ∷ xs) (numbered_append (n + 1) k m ∙ ap (λ i. numbered (n + 1) k ++ numbered i m) f)

pub both : (n k m : ℕ) (fs gs : List run.FunDef) → fun_names fs ≡ numbered n k → fun_names gs ≡ numbered (n + k) m → fun_names (fs ++ gs)
    ≡ numbered n (k + m)
both n k m fs gs e f = names_append fs gs ∙ (λ i. e i ++ f i) ∙ sym (numbered_append n k m)

pub names_length : (fs : List run.FunDef) → length fs ≡ length (fun_names fs)
names_length [] = refl
names_length (f ∷ fs) = ap suc (names_length fs)

pub numbered_length : (n k : ℕ) → length (numbered n k) ≡ k
numbered_length n zero = refl
numbered_length n (suc k) = ap suc (numbered_length (n + 1) k)

-- no name of an anonymous function is a NAME
pub name_anonymous : (k : ℕ) → is_anonymous (number_name k) ≡ true
name_anonymous k = refl

abbrev rest : List ℕ → List ℕ
rest [] = []
rest (d ∷ ds) = ds

-- no two numbers have one name
pub name_apart : (k m : ℕ) → k < 2 ^ 64 → m < 2 ^ 64 → number_name k ≡ number_name m → k ≡ m
name_apart k m h g e = sym ((decimal_is_IsNumeral k h).1) ∙ ap (λ ds. digits_value 10 (rest ds)) e ∙ (decimal_is_IsNumeral m g).1

-- the functions of a tree have the numbers from the one given on, in the order of their words
mutual
  pub in_order : (n : ℕ) (x : Exp) → fun_names (made n x) ≡ numbered n (count x)
  in_order n (Exp.literal v p) = refl
  in_order n (Exp.name x p) = refl
  in_order n (Exp.func p xs b) = ap (λ ys. number_name n ∷ ys) (stms_in_order (n + 1) b)
  in_order n (Exp.parens e) = in_order n e
  in_order n (Exp.parts o p es) = exps_in_order n es
  in_order n (Exp.chain e ls) = both n (count e) (links_count ls) (made n e) (links_made (n + count e) ls) (in_order n e)
      (links_in_order (n + count e) ls)
  in_order n (Exp.logic j e ls) = both n (count e) (ands_count ls) (made n e) (ands_made (n + count e) ls) (in_order n e)
      (ands_in_order (n + count e) ls)
  in_order n (Exp.prefix ss e) = in_order n e
  in_order n (Exp.postfix e ss) = both n (count e) (steps_count ss) (made n e) (steps_made (n + count e) ss) (in_order n e)
      (steps_in_order (n + count e) ss)

  pub exps_in_order : (n : ℕ) (x : Exps) → fun_names (exps_made n x) ≡ numbered n (exps_count x)
  exps_in_order n Exps.no_exps = refl
  exps_in_order n (Exps.exp e es) = both n (count e) (exps_count es) (made n e) (exps_made (n + count e) es) (in_order n e)
      (exps_in_order (n + count e) es)

  pub links_in_order : (n : ℕ) (x : Links) → fun_names (links_made n x) ≡ numbered n (links_count x)
  links_in_order n Links.no_links = refl
  links_in_order n (Links.link o p e ls) = both n (count e) (links_count ls) (made n e) (links_made (n + count e) ls) (in_order n e)
      (links_in_order (n + count e) ls)

  pub ands_in_order : (n : ℕ) (x : Ands) → fun_names (ands_made n x) ≡ numbered n (ands_count x)
  ands_in_order n Ands.no_ands = refl
  ands_in_order n (Ands.and p e ls) = both n (count e) (ands_count ls) (made n e) (ands_made (n + count e) ls) (in_order n e)
      (ands_in_order (n + count e) ls)

  pub steps_in_order : (n : ℕ) (x : Steps) → fun_names (steps_made n x) ≡ numbered n (steps_count x)
  steps_in_order n Steps.no_steps = refl
  steps_in_order n (Steps.index e p ss) = both n (count e) (steps_count ss) (made n e) (steps_made (n + count e) ss) (in_order n e)
      (steps_in_order (n + count e) ss)
  steps_in_order n (Steps.call es p ss) = both n (exps_count es) (steps_count ss) (exps_made n es) (steps_made (n + exps_count es) ss)
      (exps_in_order n es) (steps_in_order (n + exps_count es) ss)

  pub stm_in_order : (n : ℕ) (x : Stm) → fun_names (stm_made n x) ≡ numbered n (stm_count x)
  stm_in_order n (Stm.set x p e) = in_order n e
  stm_in_order n (Stm.add x q p e) = in_order n e
  stm_in_order n (Stm.put x q p i e) = both n (count i) (count e) (made n i) (made (n + count i) e) (in_order n i) (in_order (n + count i) e)
  stm_in_order n (Stm.return p e) = in_order n e
  stm_in_order n (Stm.leave p) = refl
  stm_in_order n (Stm.cases p arms els) = both n (arms_count arms) (else_count els) (arms_made n arms) (else_made (n + arms_count arms) els)
      (arms_in_order n arms) (else_in_order (n + arms_count arms) els)
  stm_in_order n (Stm.while p e b) = both n (count e) (stms_count b) (made n e) (stms_made (n + count e) b) (in_order n e)
      (stms_in_order (n + count e) b)
  stm_in_order n (Stm.repeat p b e) = both n (stms_count b) (count e) (stms_made n b) (made (n + stms_count b) e) (stms_in_order n b)
      (in_order (n + stms_count b) e)
  stm_in_order n (Stm.for p x e b) = both n (count e) (stms_count b) (made n e) (stms_made (n + count e) b) (in_order n e)
      (stms_in_order (n + count e) b)
  stm_in_order n (Stm.just p e) = in_order n e

  pub stms_in_order : (n : ℕ) (x : Stms) → fun_names (stms_made n x) ≡ numbered n (stms_count x)
  stms_in_order n Stms.no_stms = refl
  stms_in_order n (Stms.stm s ss) = both n (stm_count s) (stms_count ss) (stm_made n s) (stms_made (n + stm_count s) ss) (stm_in_order n s)
      (stms_in_order (n + stm_count s) ss)

  pub arms_in_order : (n : ℕ) (x : Arms) → fun_names (arms_made n x) ≡ numbered n (arms_count x)
  arms_in_order n Arms.no_arms = refl
  arms_in_order n (Arms.arm p e b arms) = both n (count e) (stms_count b + (arms_count arms)) (made n e)
      (stms_made (n + count e) b ++ (arms_made (n + count e + stms_count b) arms)) (in_order n e)
      (both (n + count e) (stms_count b) (arms_count arms) (stms_made (n + count e) b) (arms_made (n + count e + stms_count b) arms)
      (stms_in_order (n + count e) b) (arms_in_order (n + count e + stms_count b) arms))

  pub else_in_order : (n : ℕ) (x : Else) → fun_names (else_made n x) ≡ numbered n (else_count x)
  else_in_order n Else.no_else = refl
  else_in_order n (Else.otherwise b) = stms_in_order n b

-- ---- nodes

-- how many nodes a tree of the text has, the blocks of its anonymous functions with all in them too
abbrev mutual
  pub all_nodes : Exp → ℕ
  all_nodes (Exp.literal v p) = 1
  all_nodes (Exp.name x p) = 1
  all_nodes (Exp.func p xs b) = 1 + (1 + stms_all_nodes b)
  all_nodes (Exp.parens e) = 1 + (all_nodes e)
  all_nodes (Exp.parts o p es) = 1 + (exps_all_nodes es)
  all_nodes (Exp.chain e ls) = 1 + (all_nodes e + (links_all_nodes ls))
  all_nodes (Exp.logic j e ls) = 1 + (all_nodes e + (ands_all_nodes ls))
  all_nodes (Exp.prefix ss e) = 1 + (all_nodes e)
  all_nodes (Exp.postfix e ss) = 1 + (all_nodes e + (steps_all_nodes ss))

  pub exps_all_nodes : Exps → ℕ
  exps_all_nodes Exps.no_exps = 0
  exps_all_nodes (Exps.exp e es) = all_nodes e + (exps_all_nodes es)

  pub links_all_nodes : Links → ℕ
  links_all_nodes Links.no_links = 0
  links_all_nodes (Links.link o p e ls) = all_nodes e + (links_all_nodes ls)

  pub ands_all_nodes : Ands → ℕ
  ands_all_nodes Ands.no_ands = 0
  ands_all_nodes (Ands.and p e ls) = all_nodes e + (ands_all_nodes ls)

  pub steps_all_nodes : Steps → ℕ
  steps_all_nodes Steps.no_steps = 0
  steps_all_nodes (Steps.index e p ss) = all_nodes e + (steps_all_nodes ss)
  steps_all_nodes (Steps.call es p ss) = exps_all_nodes es + (steps_all_nodes ss)

  pub stm_all_nodes : Stm → ℕ
  stm_all_nodes (Stm.set x p e) = 1 + (all_nodes e)
  stm_all_nodes (Stm.add x q p e) = 1 + (all_nodes e)
  stm_all_nodes (Stm.put x q p i e) = 1 + (all_nodes i + (all_nodes e))
  stm_all_nodes (Stm.return p e) = 1 + (all_nodes e)
  stm_all_nodes (Stm.leave p) = 1
  stm_all_nodes (Stm.cases p arms els) = 1 + (arms_all_nodes arms + (else_all_nodes els))
  stm_all_nodes (Stm.while p e b) = 1 + (all_nodes e + ((1 + stms_all_nodes b)))
  stm_all_nodes (Stm.repeat p b e) = 1 + ((1 + stms_all_nodes b) + (all_nodes e))
  stm_all_nodes (Stm.for p x e b) = 1 + (all_nodes e + ((1 + stms_all_nodes b)))
  stm_all_nodes (Stm.just p e) = 1 + (all_nodes e)

  pub stms_all_nodes : Stms → ℕ
  stms_all_nodes Stms.no_stms = 0
  stms_all_nodes (Stms.stm s ss) = stm_all_nodes s + (stms_all_nodes ss)

  pub arms_all_nodes : Arms → ℕ
  arms_all_nodes Arms.no_arms = 0
  arms_all_nodes (Arms.arm p e b arms) = all_nodes e + ((1 + stms_all_nodes b) + (arms_all_nodes arms))

  pub else_all_nodes : Else → ℕ
  else_all_nodes Else.no_else = 0
  else_all_nodes (Else.otherwise b) = (1 + stms_all_nodes b)

pub funs_append : (fs gs : List run.FunDef) → run.funs_nodes (fs ++ gs) ≡ run.funs_nodes fs + run.funs_nodes gs
funs_append [] gs = omega arith
funs_append (f ∷ fs) gs = omega (arith, funs_append fs gs)

-- lifting keeps the number of nodes
mutual
  pub nodes_kept : (n : ℕ) (x : Exp) → run.nodes (tree n x) + run.funs_nodes (made n x) ≡ all_nodes x
  nodes_kept n (Exp.literal v p) = omega arith
  nodes_kept n (Exp.name x p) = omega arith
  nodes_kept n (Exp.func p xs b) = omega (arith, stms_nodes_kept (n + 1) b)
  nodes_kept n (Exp.parens e) = omega (arith, nodes_kept n e)
  nodes_kept n (Exp.parts o p es) = omega (arith, exps_nodes_kept n es)
  nodes_kept n (Exp.chain e ls) = omega (
    arith,
    nodes_kept n e,
    links_nodes_kept (n + count e) ls,
    funs_append (made n e) (links_made (n + count e) ls),
  )
  nodes_kept n (Exp.logic j e ls) = omega (
    arith,
    nodes_kept n e,
    ands_nodes_kept (n + count e) ls,
    funs_append (made n e) (ands_made (n + count e) ls),
  )
  nodes_kept n (Exp.prefix ss e) = omega (arith, nodes_kept n e)
  nodes_kept n (Exp.postfix e ss) = omega (
    arith,
    nodes_kept n e,
    steps_nodes_kept (n + count e) ss,
    funs_append (made n e) (steps_made (n + count e) ss),
  )

  pub exps_nodes_kept : (n : ℕ) (x : Exps) → run.exps_nodes (exps_tree n x) + run.funs_nodes (exps_made n x) ≡ exps_all_nodes x
  exps_nodes_kept n Exps.no_exps = omega arith
  exps_nodes_kept n (Exps.exp e es) = omega (
    arith,
    nodes_kept n e,
    exps_nodes_kept (n + count e) es,
    funs_append (made n e) (exps_made (n + count e) es),
  )

  pub links_nodes_kept : (n : ℕ) (x : Links) → run.links_nodes (links_tree n x) + run.funs_nodes (links_made n x) ≡ links_all_nodes x
  links_nodes_kept n Links.no_links = omega arith
  links_nodes_kept n (Links.link o p e ls) = omega
      (arith, nodes_kept n e, links_nodes_kept (n + count e) ls, funs_append (made n e) (links_made (n + count e) ls))

  pub ands_nodes_kept : (n : ℕ) (x : Ands) → run.ands_nodes (ands_tree n x) + run.funs_nodes (ands_made n x) ≡ ands_all_nodes x
  ands_nodes_kept n Ands.no_ands = omega arith
  ands_nodes_kept n (Ands.and p e ls) = omega
      (arith, nodes_kept n e, ands_nodes_kept (n + count e) ls, funs_append (made n e) (ands_made (n + count e) ls))

  pub steps_nodes_kept : (n : ℕ) (x : Steps) → run.steps_nodes (steps_tree n x) + run.funs_nodes (steps_made n x) ≡ steps_all_nodes x
  steps_nodes_kept n Steps.no_steps = omega arith
  steps_nodes_kept n (Steps.index e p ss) = omega
      (arith, nodes_kept n e, steps_nodes_kept (n + count e) ss, funs_append (made n e) (steps_made (n + count e) ss))
  steps_nodes_kept n (Steps.call es p ss) = omega
      (arith, exps_nodes_kept n es, steps_nodes_kept (n + exps_count es) ss, funs_append (exps_made n es) (steps_made (n + exps_count es) ss))

  pub stm_nodes_kept : (n : ℕ) (x : Stm) → run.stm_nodes (stm_tree n x) + run.funs_nodes (stm_made n x) ≡ stm_all_nodes x
  stm_nodes_kept n (Stm.set x p e) = omega (arith, nodes_kept n e)
  stm_nodes_kept n (Stm.add x q p e) = omega (arith, nodes_kept n e)
  stm_nodes_kept n (Stm.put x q p i e) = omega (arith, nodes_kept n i, nodes_kept (n + count i) e, funs_append (made n i) (made (n + count i) e))
  stm_nodes_kept n (Stm.return p e) = omega (arith, nodes_kept n e)
  stm_nodes_kept n (Stm.leave p) = omega arith
  stm_nodes_kept n (Stm.cases p arms els) = omega (
    arith,
    arms_nodes_kept n arms,
    else_nodes_kept (n + arms_count arms) els,
    funs_append (arms_made n arms) (else_made (n + arms_count arms) els),
  )
  stm_nodes_kept n (Stm.while p e b) = omega (
    arith,
    nodes_kept n e,
    stms_nodes_kept (n + count e) b,
    funs_append (made n e) (stms_made (n + count e) b),
  )
  stm_nodes_kept n (Stm.repeat p b e) = omega
      (arith, stms_nodes_kept n b, nodes_kept (n + stms_count b) e, funs_append (stms_made n b) (made (n + stms_count b) e))
  stm_nodes_kept n (Stm.for p x e b) = omega (
    arith,
    nodes_kept n e,
    stms_nodes_kept (n + count e) b,
    funs_append (made n e) (stms_made (n + count e) b),
  )
  stm_nodes_kept n (Stm.just p e) = omega (arith, nodes_kept n e)

  pub stms_nodes_kept : (n : ℕ) (x : Stms) → run.stms_nodes (stms_tree n x) + run.funs_nodes (stms_made n x) ≡ stms_all_nodes x
  stms_nodes_kept n Stms.no_stms = omega arith
  stms_nodes_kept n (Stms.stm s ss) = omega (
    arith,
    stm_nodes_kept n s,
    stms_nodes_kept (n + stm_count s) ss,
    funs_append (stm_made n s) (stms_made (n + stm_count s) ss),
  )

  pub arms_nodes_kept : (n : ℕ) (x : Arms) → run.arms_nodes (arms_tree n x) + run.funs_nodes (arms_made n x) ≡ arms_all_nodes x
  arms_nodes_kept n Arms.no_arms = omega arith
  arms_nodes_kept n (Arms.arm p e b arms) = omega (
    arith,
    nodes_kept n e,
    stms_nodes_kept (n + count e) b,
    arms_nodes_kept (n + count e + stms_count b) arms,
    funs_append (made n e) (stms_made (n + count e) b ++ (arms_made (n + count e + stms_count b) arms)),
    funs_append (stms_made (n + count e) b) (arms_made (n + count e + stms_count b) arms),
  )

  pub else_nodes_kept : (n : ℕ) (x : Else) → run.else_nodes (else_tree n x) + run.funs_nodes (else_made n x) ≡ else_all_nodes x
  else_nodes_kept n Else.no_else = omega arith
  else_nodes_kept n (Else.otherwise b) = omega (arith, stms_nodes_kept n b)
