-- Names that stand twice: a function's that is that of an earlier function, or a parameter's that is that
-- of an earlier parameter of the same function.
use Rattle.std.specs.Prelude.{ℕ, if◌then◌else◌, Bool, List, [], ◌∷◌, ◌++◌, Option, Some, None}
use Rattle.sky_base.specs.Tree.{Place}
use Rattle.sky_base.specs.Eval.{is_one_of}
use Rattle.sky_parse_grammar.specs.Source.{Param, Exp, Exps, Links, Ands, Steps, Stm, Stms, Arms, Else}
use Rattle.sky_parse_grammar.specs.Tops.{Top}

-- the first of two places
abbrev pub first_of : Option Place → Option Place → Option Place
first_of (Some p) q = Some p
first_of None q = q

-- a place, if the name that stands there stood before
abbrev pub at_twice : Bool → Place → Option Place
at_twice b p = if b then Some p else None

-- the place of the first parameter whose name is one of these, or that of an earlier parameter
abbrev pub same_params : List (List ℕ) → List Param → Option Place
same_params seen [] = None
same_params seen (x ∷ xs) = first_of (at_twice (is_one_of x.name seen) x.place) (same_params (seen ++ x.name ∷ []) xs)

-- the place of the first parameter of an anonymous function whose name an earlier one of it has
abbrev mutual
  pub same : Exp → Option Place
  same (Exp.literal v p) = None
  same (Exp.name x p) = None
  same (Exp.func p xs b) = first_of (same_params [] xs) (stms_same b)
  same (Exp.parens e) = same e
  same (Exp.parts o p es) = exps_same es
  same (Exp.chain e ls) = first_of (same e) (links_same ls)
  same (Exp.logic j e ls) = first_of (same e) (ands_same ls)
  same (Exp.prefix ss e) = same e
  same (Exp.postfix e ss) = first_of (same e) (steps_same ss)

  pub exps_same : Exps → Option Place
  exps_same Exps.no_exps = None
  exps_same (Exps.exp e es) = first_of (same e) (exps_same es)

  pub links_same : Links → Option Place
  links_same Links.no_links = None
  links_same (Links.link o p e ls) = first_of (same e) (links_same ls)

  pub ands_same : Ands → Option Place
  ands_same Ands.no_ands = None
  ands_same (Ands.and p e ls) = first_of (same e) (ands_same ls)

  pub steps_same : Steps → Option Place
  steps_same Steps.no_steps = None
  steps_same (Steps.index e p ss) = first_of (same e) (steps_same ss)
  steps_same (Steps.call es p ss) = first_of (exps_same es) (steps_same ss)

  pub stm_same : Stm → Option Place
  stm_same (Stm.set x p e) = same e
  stm_same (Stm.add x q p e) = same e
  stm_same (Stm.put x q p i e) = first_of (same i) (same e)
  stm_same (Stm.return p e) = same e
  stm_same (Stm.leave p) = None
  stm_same (Stm.cases p arms els) = first_of (arms_same arms) (else_same els)
  stm_same (Stm.while p e b) = first_of (same e) (stms_same b)
  stm_same (Stm.repeat p b e) = first_of (stms_same b) (same e)
  stm_same (Stm.for p x e b) = first_of (same e) (stms_same b)
  stm_same (Stm.just p e) = same e

  pub stms_same : Stms → Option Place
  stms_same Stms.no_stms = None
  stms_same (Stms.stm s ss) = first_of (stm_same s) (stms_same ss)

  pub arms_same : Arms → Option Place
  arms_same Arms.no_arms = None
  arms_same (Arms.arm p e b arms) = first_of (same e) (first_of (stms_same b) (arms_same arms))

  pub else_same : Else → Option Place
  else_same Else.no_else = None
  else_same (Else.otherwise b) = stms_same b

-- the place of the first name that stands twice, where functions of these names came before
abbrev pub same_names : List (List ℕ) → List Top → Option Place
same_names seen [] = None
same_names seen (Top.fun f ∷ ts) = first_of (at_twice (is_one_of f.name seen) f.place)
    (first_of (same_params [] f.params) (first_of (stms_same f.body) (same_names (seen ++ f.name ∷ []) ts)))
same_names seen (Top.stmt s ∷ ts) = first_of (stm_same s) (same_names seen ts)
