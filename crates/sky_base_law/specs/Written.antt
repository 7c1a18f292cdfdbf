-- Scripts whose literals have one property, and whose names have another.
use Rattle.std.specs.Prelude.{ℕ, List}
use Rattle.sky_base.specs.Tree.{Lit, Exp, Exps, Links, Ands, Steps, Stm, Stms, Arms, Else, FunDef, Script}
use Rattle.sky_base_law.specs.Tasks.{Each}

-- L is asked of the literals, K of the names
module _ (L : Lit → Type 0) (K : List ℕ → Type 0) where
  abbrev mutual
    pub ExpWritten : Exp → Type 0
    ExpWritten (Exp.literal v p) = L v
    ExpWritten (Exp.name x p) = K x
    ExpWritten (Exp.func x p) = K x
    ExpWritten (Exp.parens e) = ExpWritten e
    ExpWritten (Exp.parts o p es) = ExpsWritten es
    ExpWritten (Exp.chain e ls) = ExpWritten e × LinksWritten ls
    ExpWritten (Exp.logic j e ls) = ExpWritten e × AndsWritten ls
    ExpWritten (Exp.prefix ss e) = ExpWritten e
    ExpWritten (Exp.postfix e ss) = ExpWritten e × StepsWritten ss

    pub ExpsWritten : Exps → Type 0
    ExpsWritten Exps.no_exps = Unit {0}
    ExpsWritten (Exps.exp e es) = ExpWritten e × ExpsWritten es

    pub LinksWritten : Links → Type 0
    LinksWritten Links.no_links = Unit {0}
    LinksWritten (Links.link o p e ls) = ExpWritten e × LinksWritten ls

    pub AndsWritten : Ands → Type 0
    AndsWritten Ands.no_ands = Unit {0}
    AndsWritten (Ands.and p e ls) = ExpWritten e × AndsWritten ls

    pub StepsWritten : Steps → Type 0
    StepsWritten Steps.no_steps = Unit {0}
    StepsWritten (Steps.index e p ss) = ExpWritten e × StepsWritten ss
    StepsWritten (Steps.call es p ss) = ExpsWritten es × StepsWritten ss

  abbrev mutual
    pub StmWritten : Stm → Type 0
    StmWritten (Stm.set x p e) = K x × ExpWritten e
    StmWritten (Stm.add x q p e) = K x × ExpWritten e
    StmWritten (Stm.put x q p i e) = K x × ExpWritten i × ExpWritten e
    StmWritten (Stm.return p e) = ExpWritten e
    StmWritten (Stm.leave p) = Unit {0}
    StmWritten (Stm.cases p arms els) = ArmsWritten arms × ElseWritten els
    StmWritten (Stm.while p e b) = ExpWritten e × StmsWritten b
    StmWritten (Stm.repeat p b e) = StmsWritten b × ExpWritten e
    StmWritten (Stm.for p x e b) = K x × ExpWritten e × StmsWritten b
    StmWritten (Stm.just p e) = ExpWritten e

    pub StmsWritten : Stms → Type 0
    StmsWritten Stms.no_stms = Unit {0}
    StmsWritten (Stms.stm s ss) = StmWritten s × StmsWritten ss

    pub ArmsWritten : Arms → Type 0
    ArmsWritten Arms.no_arms = Unit {0}
    ArmsWritten (Arms.arm p e b arms) = ExpWritten e × StmsWritten b × ArmsWritten arms

    pub ElseWritten : Else → Type 0
    ElseWritten Else.no_else = Unit {0}
    ElseWritten (Else.otherwise b) = StmsWritten b

  -- a function's name, its parameters and its body
  pub record FunWritten (f : FunDef) : Type 0 where
    pub name : K f.name
    pub params : Each K f.params
    pub body : StmsWritten f.body

  pub record Written (sc : Script) : Type 0 where
    pub funs : Each FunWritten sc.funs
    pub main : StmsWritten sc.main
