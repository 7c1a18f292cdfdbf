-- The parts of a script are written as the script is.
use Rattle.std.proofs.Common.{◌≡◌, ℕ, ◌+◌, Bool, true, false, List, [], ◌∷◌, Option, Some, None, IsSome, refl, sym, subst}
use Rattle.sky_base.specs.Val.{Desc, same_text}
use Rattle.sky_base.specs.Tree.{Lit, Exp, Exps, Links, Ands, Steps, Stm, Stms, Arms, Else, FunDef, Script, block_nodes}
use Rattle.sky_base.specs.Eval.{Body, find_fun, find_fun_if, find_body, find_body_if, body_of}
use Rattle.sky_base.proofs.Exact.{exact_text}
use Rattle.sky_base_law.specs.Tasks.{Each}
use Rattle.sky_base_law.specs.Sound.{IsFun}
use Rattle.sky_base_law.specs.Written.{ExpWritten, ExpsWritten, LinksWritten, AndsWritten, StepsWritten, StmWritten, StmsWritten, ArmsWritten, ElseWritten}
use Rattle.sky_base_law.specs.Written.{FunWritten, Written}

module _ (L : Lit → Type 0) (K : List ℕ → Type 0) where
  abbrev pub BodyWritten : Option Body → Type 0
  BodyWritten None = Unit {0}
  BodyWritten (Some b) = Each K b.params × StmsWritten L K b.block

  find_written : (x : List ℕ) (fs : List FunDef) (i : ℕ) → Each (FunWritten L K) fs → BodyWritten (find_body x fs i)
  find_written x [] i h = tt
  find_written x (f ∷ fs) i h = go (same_text x f.name) (find_written x fs (i + block_nodes f.body) h.1)
    where
      go : (b : Bool) → BodyWritten (find_body x fs (i + block_nodes f.body))
          → BodyWritten (find_body_if b f i (find_body x fs (i + block_nodes f.body)))
      go true r = (h.0.params, h.0.body)
      go false r = r

  pub body_written : (sc : Script) → Written L K sc → (x : List ℕ) → BodyWritten (body_of x sc)
  body_written sc h [] = (tt, h.main)
  body_written sc h (b ∷ bs) = find_written (b ∷ bs) sc.funs (block_nodes sc.main) h.funs

  name_found : (x : List ℕ) (fs : List FunDef) → Each (FunWritten L K) fs → IsSome (find_fun x fs) → K x
  name_found x [] h i = absurd cc
  name_found x (f ∷ fs) h i = go (same_text x f.name) refl i (name_found x fs h.1)
    where
      go : (b : Bool) → same_text x f.name ≡ b → IsSome (find_fun_if b f (find_fun x fs)) → (IsSome (find_fun x fs) → K x) → K x
      go true e j further = subst K (sym (exact_text x f.name e)) h.0.name
      go false e j further = further j

  -- the name of a function of the script is one of its names
  pub fun_name : (sc : Script) → Written L K sc → (x : List ℕ) → IsFun sc x → K x
  fun_name sc h x i = name_found x sc.funs h.funs i

-- ---- every script has literals and names

abbrev pub any_lit : Lit → Type 0
any_lit l = Unit {0}

abbrev pub any_made : {N : Type 0} → Desc N → Type 0
any_made d = Unit {0}

abbrev pub any_name : List ℕ → Type 0
any_name x = Unit {0}

mutual
  pub exp_any : (e : Exp) → ExpWritten any_lit any_name e
  exp_any (Exp.literal v p) = tt
  exp_any (Exp.name x p) = tt
  exp_any (Exp.func x p) = tt
  exp_any (Exp.parens e) = exp_any e
  exp_any (Exp.parts o p es) = exps_any es
  exp_any (Exp.chain e ls) = (exp_any e, links_any ls)
  exp_any (Exp.logic j e ls) = (exp_any e, ands_any ls)
  exp_any (Exp.prefix ss e) = exp_any e
  exp_any (Exp.postfix e ss) = (exp_any e, steps_any ss)

  pub exps_any : (es : Exps) → ExpsWritten any_lit any_name es
  exps_any Exps.no_exps = tt
  exps_any (Exps.exp e es) = (exp_any e, exps_any es)

  pub links_any : (ls : Links) → LinksWritten any_lit any_name ls
  links_any Links.no_links = tt
  links_any (Links.link o p e ls) = (exp_any e, links_any ls)

  pub ands_any : (ls : Ands) → AndsWritten any_lit any_name ls
  ands_any Ands.no_ands = tt
  ands_any (Ands.and p e ls) = (exp_any e, ands_any ls)

  pub steps_any : (ss : Steps) → StepsWritten any_lit any_name ss
  steps_any Steps.no_steps = tt
  steps_any (Steps.index e p ss) = (exp_any e, steps_any ss)
  steps_any (Steps.call es p ss) = (exps_any es, steps_any ss)

mutual
  pub stm_any : (s : Stm) → StmWritten any_lit any_name s
  stm_any (Stm.set x p e) = (tt, exp_any e)
  stm_any (Stm.add x q p e) = (tt, exp_any e)
  stm_any (Stm.put x q p i e) = (tt, exp_any i, exp_any e)
  stm_any (Stm.return p e) = exp_any e
  stm_any (Stm.leave p) = tt
  stm_any (Stm.cases p arms els) = (arms_any arms, else_any els)
  stm_any (Stm.while p e b) = (exp_any e, stms_any b)
  stm_any (Stm.repeat p b e) = (stms_any b, exp_any e)
  stm_any (Stm.for p x e b) = (tt, exp_any e, stms_any b)
  stm_any (Stm.just p e) = exp_any e

  pub stms_any : (ss : Stms) → StmsWritten any_lit any_name ss
  stms_any Stms.no_stms = tt
  stms_any (Stms.stm s ss) = (stm_any s, stms_any ss)

  pub arms_any : (arms : Arms) → ArmsWritten any_lit any_name arms
  arms_any Arms.no_arms = tt
  arms_any (Arms.arm p e b arms) = (exp_any e, stms_any b, arms_any arms)

  pub else_any : (els : Else) → ElseWritten any_lit any_name els
  else_any Else.no_else = tt
  else_any (Else.otherwise b) = stms_any b

each_name : (xs : List (List ℕ)) → Each any_name xs
each_name [] = tt
each_name (x ∷ xs) = (tt, each_name xs)

each_fun : (fs : List FunDef) → Each (FunWritten any_lit any_name) fs
each_fun [] = tt
each_fun (f ∷ fs) = (record { name = tt; params = each_name f.params; body = stms_any f.body }, each_fun fs)

pub written_any : (sc : Script) → Written any_lit any_name sc
written_any sc = record { funs = each_fun sc.funs; main = stms_any sc.main }
