-- Scripts all of whose places have one property.
use Rattle.std.specs.Prelude.{List}
use Rattle.sky_base.specs.Tree.{Place, SignAt, Exp, Exps, Links, Ands, Steps, Stm, Stms, Arms, Else, FunDef, Script}
use Rattle.sky_base_law.specs.Tasks.{Each}

-- P is asked of the places
module _ (P : Place → Type 0) where
  abbrev pub SignsPlaced : List SignAt → Type 0
  SignsPlaced ss = Each (λ s. P s.place) ss

  abbrev mutual
    pub ExpPlaced : Exp → Type 0
    ExpPlaced (Exp.literal v p) = P p
    ExpPlaced (Exp.name x p) = P p
    ExpPlaced (Exp.func x p) = P p
    ExpPlaced (Exp.parens e) = ExpPlaced e
    ExpPlaced (Exp.parts o p es) = P p × ExpsPlaced es
    ExpPlaced (Exp.chain e ls) = ExpPlaced e × LinksPlaced ls
    ExpPlaced (Exp.logic j e ls) = ExpPlaced e × AndsPlaced ls
    ExpPlaced (Exp.prefix ss e) = SignsPlaced ss × ExpPlaced e
    ExpPlaced (Exp.postfix e ss) = ExpPlaced e × StepsPlaced ss

    pub ExpsPlaced : Exps → Type 0
    ExpsPlaced Exps.no_exps = Unit {0}
    ExpsPlaced (Exps.exp e es) = ExpPlaced e × ExpsPlaced es

    pub LinksPlaced : Links → Type 0
    LinksPlaced Links.no_links = Unit {0}
    LinksPlaced (Links.link o p e ls) = P p × ExpPlaced e × LinksPlaced ls

    pub AndsPlaced : Ands → Type 0
    AndsPlaced Ands.no_ands = Unit {0}
    AndsPlaced (Ands.and p e ls) = P p × ExpPlaced e × AndsPlaced ls

    pub StepsPlaced : Steps → Type 0
    StepsPlaced Steps.no_steps = Unit {0}
    StepsPlaced (Steps.index e p ss) = P p × ExpPlaced e × StepsPlaced ss
    StepsPlaced (Steps.call es p ss) = P p × ExpsPlaced es × StepsPlaced ss

  abbrev mutual
    pub StmPlaced : Stm → Type 0
    StmPlaced (Stm.set x p e) = P p × ExpPlaced e
    StmPlaced (Stm.add x q p e) = P q × P p × ExpPlaced e
    StmPlaced (Stm.put x q p i e) = P q × P p × ExpPlaced i × ExpPlaced e
    StmPlaced (Stm.return p e) = P p × ExpPlaced e
    StmPlaced (Stm.leave p) = P p
    StmPlaced (Stm.cases p arms els) = P p × ArmsPlaced arms × ElsePlaced els
    StmPlaced (Stm.while p e b) = P p × ExpPlaced e × StmsPlaced b
    StmPlaced (Stm.repeat p b e) = P p × StmsPlaced b × ExpPlaced e
    StmPlaced (Stm.for p x e b) = P p × ExpPlaced e × StmsPlaced b
    StmPlaced (Stm.just p e) = P p × ExpPlaced e

    pub StmsPlaced : Stms → Type 0
    StmsPlaced Stms.no_stms = Unit {0}
    StmsPlaced (Stms.stm s ss) = StmPlaced s × StmsPlaced ss

    pub ArmsPlaced : Arms → Type 0
    ArmsPlaced Arms.no_arms = Unit {0}
    ArmsPlaced (Arms.arm p e b arms) = P p × ExpPlaced e × StmsPlaced b × ArmsPlaced arms

    pub ElsePlaced : Else → Type 0
    ElsePlaced Else.no_else = Unit {0}
    ElsePlaced (Else.otherwise b) = StmsPlaced b

  -- the places in the bodies of functions and of the main part
  pub record Placed (sc : Script) : Type 0 where
    pub funs : Each (λ (f : FunDef). StmsPlaced f.body) sc.funs
    pub main : StmsPlaced sc.main
