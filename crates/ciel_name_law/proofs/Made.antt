-- The functions of a script that trees make: named ones use nothing, the others are anonymous.
use Rattle.std.proofs.Common.{ℕ, ◌+◌, List, [], ◌∷◌, ◌++◌, refl}
use Rattle.sky_base.specs.Tree.{FunDef}
use Rattle.sky_parse_grammar.specs.Source.{Exp, Exps, Links, Ands, Steps, Stm, Stms, Arms, Else}
use Rattle.sky_parse_grammar.specs.Lifted.{count, exps_count, stm_count, stms_count, arms_count, made, exps_made, links_made, ands_made, steps_made}
use Rattle.sky_parse_grammar.specs.Lifted.{stm_made, stms_made, arms_made, else_made}
use Rattle.sky_parse_grammar.specs.Tops.{Top, defs_of, made_of, script_of, top_count, top_made}
use Rattle.ciel_name_law.specs.Typed.{NamedUseNothing}

both : (fs gs : List FunDef) → NamedUseNothing fs → NamedUseNothing gs → NamedUseNothing (fs ++ gs)
both [] gs a b = b
both (f ∷ fs) gs a b = (a.0, both fs gs a.1 b)

mutual
  use_made : (n : ℕ) (e : Exp) → NamedUseNothing (made n e)
  use_made n (Exp.literal v p) = tt
  use_made n (Exp.name x p) = tt
  use_made n (Exp.func p xs b) = (λ e. cc, use_stms (n + 1) b)
  use_made n (Exp.parens e) = use_made n e
  use_made n (Exp.parts o p es) = use_exps n es
  use_made n (Exp.chain e ls) = both (made n e) (links_made (n + count e) ls) (use_made n e) (use_links (n + count e) ls)
  use_made n (Exp.logic j e ls) = both (made n e) (ands_made (n + count e) ls) (use_made n e) (use_ands (n + count e) ls)
  use_made n (Exp.prefix ss e) = use_made n e
  use_made n (Exp.postfix e ss) = both (made n e) (steps_made (n + count e) ss) (use_made n e) (use_steps (n + count e) ss)

  use_exps : (n : ℕ) (es : Exps) → NamedUseNothing (exps_made n es)
  use_exps n Exps.no_exps = tt
  use_exps n (Exps.exp e es) = both (made n e) (exps_made (n + count e) es) (use_made n e) (use_exps (n + count e) es)

  use_links : (n : ℕ) (ls : Links) → NamedUseNothing (links_made n ls)
  use_links n Links.no_links = tt
  use_links n (Links.link o p e ls) = both (made n e) (links_made (n + count e) ls) (use_made n e) (use_links (n + count e) ls)

  use_ands : (n : ℕ) (ls : Ands) → NamedUseNothing (ands_made n ls)
  use_ands n Ands.no_ands = tt
  use_ands n (Ands.and p e ls) = both (made n e) (ands_made (n + count e) ls) (use_made n e) (use_ands (n + count e) ls)

  use_steps : (n : ℕ) (ss : Steps) → NamedUseNothing (steps_made n ss)
  use_steps n Steps.no_steps = tt
  use_steps n (Steps.index e p ss) = both (made n e) (steps_made (n + count e) ss) (use_made n e) (use_steps (n + count e) ss)
  use_steps n (Steps.call es p ss) =
      both (exps_made n es) (steps_made (n + exps_count es) ss) (use_exps n es) (use_steps (n + exps_count es) ss)

  use_stm : (n : ℕ) (s : Stm) → NamedUseNothing (stm_made n s)
  use_stm n (Stm.set x p e) = use_made n e
  use_stm n (Stm.add x q p e) = use_made n e
  use_stm n (Stm.put x q p i e) = both (made n i) (made (n + count i) e) (use_made n i) (use_made (n + count i) e)
  use_stm n (Stm.return p e) = use_made n e
  use_stm n (Stm.leave p) = tt
  use_stm n (Stm.cases p arms els) =
      both (arms_made n arms) (else_made (n + arms_count arms) els) (use_arms n arms) (use_else (n + arms_count arms) els)
  use_stm n (Stm.while p e b) = both (made n e) (stms_made (n + count e) b) (use_made n e) (use_stms (n + count e) b)
  use_stm n (Stm.repeat p b e) = both (stms_made n b) (made (n + stms_count b) e) (use_stms n b) (use_made (n + stms_count b) e)
  use_stm n (Stm.for p x e b) = both (made n e) (stms_made (n + count e) b) (use_made n e) (use_stms (n + count e) b)
  use_stm n (Stm.just p e) = use_made n e

  use_stms : (n : ℕ) (ss : Stms) → NamedUseNothing (stms_made n ss)
  use_stms n Stms.no_stms = tt
  use_stms n (Stms.stm s ss) = both (stm_made n s) (stms_made (n + stm_count s) ss) (use_stm n s) (use_stms (n + stm_count s) ss)

  use_arms : (n : ℕ) (arms : Arms) → NamedUseNothing (arms_made n arms)
  use_arms n Arms.no_arms = tt
  use_arms n (Arms.arm p e b arms) =
      both (made n e) (stms_made (n + count e) b ++ arms_made (n + count e + stms_count b) arms) (use_made n e)
      (both (stms_made (n + count e) b) (arms_made (n + count e + stms_count b) arms) (use_stms (n + count e) b)
      (use_arms (n + count e + stms_count b) arms))

  use_else : (n : ℕ) (els : Else) → NamedUseNothing (else_made n els)
  use_else n Else.no_else = tt
  use_else n (Else.otherwise b) = use_stms n b

use_defs : (n : ℕ) (tops : List Top) → NamedUseNothing (defs_of n tops)
use_defs n [] = tt
use_defs n (Top.fun f ∷ ts) = (λ e. refl, use_defs (n + top_count (Top.fun f)) ts)
use_defs n (Top.stmt s ∷ ts) = use_defs (n + top_count (Top.stmt s)) ts

use_top : (n : ℕ) (t : Top) → NamedUseNothing (top_made n t)
use_top n (Top.fun f) = use_stms n f.body
use_top n (Top.stmt s) = use_stm n s

use_tops : (n : ℕ) (tops : List Top) → NamedUseNothing (made_of n tops)
use_tops n [] = tt
use_tops n (t ∷ ts) = both (top_made n t) (made_of (n + top_count t) ts) (use_top n t) (use_tops (n + top_count t) ts)

pub script_uses : (keys : List (List ℕ)) (tops : List Top) → NamedUseNothing (script_of keys tops).funs
script_uses keys tops = both (defs_of 0 tops) (made_of 0 tops) (use_defs 0 tops) (use_tops 0 tops)
