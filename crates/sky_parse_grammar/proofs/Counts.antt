-- A tree has at most as many nodes as tokens, so the nodes of a script can be counted.
use Rattle.std.proofs.Common.{◌≡◌, ℕ, suc, ◌+◌, ◌<◌, ◌≤◌, true, List, [], ◌∷◌, length, refl, ap, arith}
use Rattle.sky_base.specs.Tree as run
use Rattle.sky_base.specs.Tree.{Place, SignAt, Form, FunDef, Junction, funs_nodes, script_nodes}
use Rattle.sky_text.specs.declared.token.Sign.{Sign}
use Rattle.sky_text.specs.declared.token.Word.{Word}
use Rattle.sky_text.specs.declared.token.Token.{Token}
use Rattle.sky_parse_grammar.specs.Grammar.{Mark, sign, word, spell, spell_exps, spell_others, spell_pairs, spell_value, spell_other_pairs, spell_links}
use Rattle.sky_parse_grammar.specs.Grammar.{spell_ands, spell_steps, spell_signs, spell_stm, spell_stms, spell_arms, spell_other_arms, spell_else}
use Rattle.sky_parse_grammar.specs.Grammar.{spell_test, spell_block, spell_params, spell_other_params, started, some_arms, IsTree, AreTrees, AreLinks}
use Rattle.sky_parse_grammar.specs.Grammar.{AreAnds, AreSteps, IsStm, AreStms, AreArms, IsElse, Follows}
use Rattle.sky_parse_grammar.specs.Source.{Param}
use Rattle.sky_parse_grammar.specs.Tops.{Top, AreTops, Spells, spell_tops, defs_of, main_of, made_of, script_of}
use Rattle.sky_parse_grammar.specs.Lifted.{stm_count, stms_count, stm_made, stms_made}
use Rattle.sky_parse_grammar.proofs.LiftedLaw.{all_nodes, exps_all_nodes, links_all_nodes, ands_all_nodes, steps_all_nodes, stm_all_nodes, stms_all_nodes}
use Rattle.sky_parse_grammar.proofs.LiftedLaw.{arms_all_nodes, else_all_nodes, stm_nodes_kept, stms_nodes_kept, funs_append}
use Rattle.sky_parse_grammar.specs.Source.{Exp, Exps, Links, Ands, Steps, Stm, Stms, Arms, Else, links_enough, some_ands, some_signs, some_steps}

signs_fit : (ss : List SignAt) (ms : List Mark) → length ms ≤ length (spell_signs ss ms)
signs_fit [] ms = omega arith
signs_fit (s ∷ ss) ms = omega (arith, signs_fit ss ms)

signs_some : (ss : List SignAt) (ms : List Mark) → some_signs ss ≡ true → 1 + length ms ≤ length (spell_signs ss ms)
signs_some [] ms h = absurd cc
signs_some (s ∷ ss) ms h = omega (arith, signs_fit ss ms)

started_length : (p : Place) (ms : List Mark) → length (started p ms) ≡ length ms
started_length p [] = refl
started_length p (m ∷ ms) = refl

other_params_fit : (xs : List Param) (more : List Mark) → length more ≤ length (spell_other_params xs more)
other_params_fit [] more = omega arith
other_params_fit (x ∷ xs) more = omega (arith, other_params_fit xs more)

params_fit : (xs : List Param) (more : List Mark) → length more ≤ length (spell_params xs more)
params_fit [] more = omega arith
params_fit (x ∷ xs) more = omega (arith, other_params_fit xs more)

mutual
  exp_fits : (e : Exp) → IsTree e → (more : List Mark) → all_nodes e + length more ≤ length (spell e more)
  exp_fits (Exp.literal v p) h more = omega arith
  exp_fits (Exp.name x p) h more = omega arith
  exp_fits (Exp.func p xs b) h more = omega (
    arith,
    params_fit xs (sign Sign.CloseRound ∷ spell_block b more),
    stms_fit b h (sign Sign.CloseCurly ∷ more),
  )
  exp_fits (Exp.parens e) h more = omega (arith, exp_fits e h (sign Sign.CloseRound ∷ more))
  exp_fits (Exp.parts Form.list p es) h more = omega (arith, exps_fit es h.0 (sign Sign.CloseSquare ∷ more))
  exp_fits (Exp.parts Form.dict p es) h more = omega (arith, pairs_fit es h.0 (sign Sign.CloseCurly ∷ more))
  exp_fits (Exp.parts Form.spawn p es) h more = omega (arith, exps_fit es h.0 (sign Sign.CloseRound ∷ more))
  exp_fits (Exp.parts Form.spawn_exec p es) h more = omega (arith, exps_fit es h.0 (sign Sign.CloseRound ∷ more))
  exp_fits (Exp.parts Form.exec p es) h more = omega (arith, exps_fit es h.0 (sign Sign.CloseRound ∷ more))
  exp_fits (Exp.parts Form.ref p es) h more = omega (arith, exps_fit es h.0 (sign Sign.CloseRound ∷ more))
  exp_fits (Exp.parts Form.len p es) h more = omega (arith, exps_fit es h.0 (sign Sign.CloseRound ∷ more))
  exp_fits (Exp.parts Form.keys p es) h more = omega (arith, exps_fit es h.0 (sign Sign.CloseRound ∷ more))
  exp_fits (Exp.parts Form.has p es) h more = omega (arith, exps_fit es h.0 (sign Sign.CloseRound ∷ more))
  exp_fits (Exp.parts Form.range p es) h more = omega (arith, exps_fit es h.0 (sign Sign.CloseRound ∷ more))
  exp_fits (Exp.chain e ls) h more = omega (arith, exp_fits e h.0 (spell_links ls more), links_some _ ls h.2 h.3 more)
  exp_fits (Exp.logic j e ls) h more = omega (arith, exp_fits e h.0 (spell_ands j ls more), ands_some j _ ls h.2 h.3 more)
  exp_fits (Exp.prefix ss e) h more = omega (arith, exp_fits e h.0 more, signs_some ss (spell e more) h.2)
  exp_fits (Exp.postfix e ss) h more = omega (arith, exp_fits e h.0 (spell_steps ss more), steps_some ss h.2 h.3 more)

  exps_fit : (es : Exps) → AreTrees es → (more : List Mark) → exps_all_nodes es + length more ≤ length (spell_exps es more)
  exps_fit Exps.no_exps h more = omega arith
  exps_fit (Exps.exp e es) h more = omega (arith, exp_fits e h.0 (spell_others es more), others_fit es h.1 more)

  others_fit : (es : Exps) → AreTrees es → (more : List Mark) → exps_all_nodes es + length more ≤ length (spell_others es more)
  others_fit Exps.no_exps h more = omega arith
  others_fit (Exps.exp e es) h more = omega (arith, exp_fits e h.0 (spell_others es more), others_fit es h.1 more)

  pairs_fit : (es : Exps) → AreTrees es → (more : List Mark) → exps_all_nodes es + length more ≤ length (spell_pairs es more)
  pairs_fit Exps.no_exps h more = omega arith
  pairs_fit (Exps.exp k es) h more = omega (arith, exp_fits k h.0 (spell_value es more), value_fits es h.1 more)

  value_fits : (es : Exps) → AreTrees es → (more : List Mark) → exps_all_nodes es + length more ≤ length (spell_value es more)
  value_fits Exps.no_exps h more = omega arith
  value_fits (Exps.exp v es) h more = omega (arith, exp_fits v h.0 (spell_other_pairs es more), other_pairs_fit es h.1 more)

  other_pairs_fit : (es : Exps) → AreTrees es → (more : List Mark) → exps_all_nodes es + length more ≤ length (spell_other_pairs es more)
  other_pairs_fit Exps.no_exps h more = omega arith
  other_pairs_fit (Exps.exp k es) h more = omega (arith, exp_fits k h.0 (spell_value es more), value_fits es h.1 more)

  links_fit : (l : ℕ) (ls : Links) → AreLinks l ls → (more : List Mark) → links_all_nodes ls + length more ≤ length (spell_links ls more)
  links_fit l Links.no_links h more = omega arith
  links_fit l (Links.link o p e ls) h more = omega (arith, exp_fits e h.1 (spell_links ls more), links_fit l ls h.3 more)

  links_some : (l : ℕ) (ls : Links) → AreLinks l ls → links_enough ls ≡ true → (more : List Mark)
      → 1 + (links_all_nodes ls + length more) ≤ length (spell_links ls more)
  links_some l Links.no_links h g more = absurd cc
  links_some l (Links.link o p e ls) h g more = omega (arith, exp_fits e h.1 (spell_links ls more), links_fit l ls h.3 more)

  ands_fit : (j : Junction) (l : ℕ) (ls : Ands) → AreAnds l ls → (more : List Mark) → ands_all_nodes ls + length more ≤ length (spell_ands j ls more)
  ands_fit j l Ands.no_ands h more = omega arith
  ands_fit j l (Ands.and p e ls) h more = omega (arith, exp_fits e h.0 (spell_ands j ls more), ands_fit j l ls h.2 more)

  ands_some : (j : Junction) (l : ℕ) (ls : Ands) → AreAnds l ls → some_ands ls ≡ true → (more : List Mark)
      → 1 + (ands_all_nodes ls + length more) ≤ length (spell_ands j ls more)
  ands_some j l Ands.no_ands h g more = absurd cc
  ands_some j l (Ands.and p e ls) h g more = omega (arith, exp_fits e h.0 (spell_ands j ls more), ands_fit j l ls h.2 more)

  steps_fit : (ss : Steps) → AreSteps ss → (more : List Mark) → steps_all_nodes ss + length more ≤ length (spell_steps ss more)
  steps_fit Steps.no_steps h more = omega arith
  steps_fit (Steps.index e p ss) h more = omega (arith, exp_fits e h.0 (sign Sign.CloseSquare ∷ spell_steps ss more), steps_fit ss h.1 more)
  steps_fit (Steps.call es p ss) h more = omega (arith, exps_fit es h.0 (sign Sign.CloseRound ∷ spell_steps ss more), steps_fit ss h.1 more)

  steps_some : (ss : Steps) → AreSteps ss → some_steps ss ≡ true → (more : List Mark)
      → 1 + (steps_all_nodes ss + length more) ≤ length (spell_steps ss more)
  steps_some Steps.no_steps h g more = absurd cc
  steps_some (Steps.index e p ss) h g more = omega (arith, exp_fits e h.0 (sign Sign.CloseSquare ∷ spell_steps ss more), steps_fit ss h.1 more)
  steps_some (Steps.call es p ss) h g more = omega (arith, exps_fit es h.0 (sign Sign.CloseRound ∷ spell_steps ss more), steps_fit ss h.1 more)

  stm_fits : (s : Stm) → IsStm s → (more : List Mark) → stm_all_nodes s + length more ≤ length (spell_stm s more)
  stm_fits (Stm.set x p e) h more = omega (arith, exp_fits e h (sign Sign.Semicolon ∷ more))
  stm_fits (Stm.add x q p e) h more = omega (arith, exp_fits e h (sign Sign.Semicolon ∷ more))
  stm_fits (Stm.put x q p i e) h more = omega (
    arith,
    exp_fits i h.0 (sign Sign.CloseSquare ∷ sign Sign.Assign ∷ spell e (sign Sign.Semicolon ∷ more)),
    exp_fits e h.1 (sign Sign.Semicolon ∷ more),
  )
  stm_fits (Stm.return p e) h more = omega (arith, exp_fits e h (sign Sign.Semicolon ∷ more))
  stm_fits (Stm.leave p) h more = omega arith
  stm_fits (Stm.cases p arms els) h more = omega
      (arith, started_length p (spell_arms arms (spell_else els more)), arms_some arms h.0 h.1 (spell_else els more), else_fits els h.2 more)
  stm_fits (Stm.while p e b) h more = omega (
    arith,
    exp_fits e h.0 (sign Sign.CloseRound ∷ spell_block b more),
    stms_fit b h.1 (sign Sign.CloseCurly ∷ more),
  )
  stm_fits (Stm.repeat p b e) h more = omega (
    arith,
    stms_fit b h.0 (sign Sign.CloseCurly ∷ word Word.While ∷ spell_test e (sign Sign.Semicolon ∷ more)),
    exp_fits e h.1 (sign Sign.CloseRound ∷ sign Sign.Semicolon ∷ more),
  )
  stm_fits (Stm.for p x e b) h more = omega (
    arith,
    exp_fits e h.0 (sign Sign.CloseRound ∷ spell_block b more),
    stms_fit b h.1 (sign Sign.CloseCurly ∷ more),
  )
  stm_fits (Stm.just p e) h more = omega (arith, started_length p (spell e (sign Sign.Semicolon ∷ more)), exp_fits e h (sign Sign.Semicolon ∷ more))

  stms_fit : (ss : Stms) → AreStms ss → (more : List Mark) → stms_all_nodes ss + length more ≤ length (spell_stms ss more)
  stms_fit Stms.no_stms h more = omega arith
  stms_fit (Stms.stm s ss) h more = omega (arith, stm_fits s h.0 (spell_stms ss more), stms_fit ss h.1 more)

  arms_some : (arms : Arms) → AreArms arms → some_arms arms ≡ true → (more : List Mark)
      → 1 + (arms_all_nodes arms + length more) ≤ length (spell_arms arms more)
  arms_some Arms.no_arms h g more = absurd cc
  arms_some (Arms.arm p e b arms) h g more = omega (
    arith,
    exp_fits e h.0 (sign Sign.CloseRound ∷ spell_block b (spell_other_arms arms more)),
    stms_fit b h.1 (sign Sign.CloseCurly ∷ spell_other_arms arms more),
    arms_fit arms h.2 more,
  )

  arms_fit : (arms : Arms) → AreArms arms → (more : List Mark) → arms_all_nodes arms + length more ≤ length (spell_other_arms arms more)
  arms_fit Arms.no_arms h more = omega arith
  arms_fit (Arms.arm p e b arms) h more = omega (
    arith,
    exp_fits e h.0 (sign Sign.CloseRound ∷ spell_block b (spell_other_arms arms more)),
    stms_fit b h.1 (sign Sign.CloseCurly ∷ spell_other_arms arms more),
    arms_fit arms h.2 more,
  )

  else_fits : (els : Else) → IsElse els → (more : List Mark) → else_all_nodes els + length more ≤ length (spell_else els more)
  else_fits Else.no_else h more = omega arith
  else_fits (Else.otherwise b) h more = omega (arith, stms_fit b h (sign Sign.CloseCurly ∷ more))

-- the nodes of a script that is run are no more than the tokens
tops_fit : (n : ℕ) (tops : List Top) → AreTops tops → (more : List Mark)
    → run.stms_nodes (main_of n tops) + funs_nodes (defs_of n tops) + funs_nodes (made_of n tops) + length more ≤ length (spell_tops tops more)
tops_fit n [] h more = omega arith
tops_fit n (Top.fun f ∷ tops) h more = omega (
  arith,
  params_fit f.params (sign Sign.CloseRound ∷ spell_block f.body (spell_tops tops more)),
  stms_fit f.body h.0 (sign Sign.CloseCurly ∷ spell_tops tops more),
  tops_fit (n + stms_count f.body) tops h.1 more,
  stms_nodes_kept n f.body,
  funs_append (stms_made n f.body) (made_of (n + stms_count f.body) tops),
)
tops_fit n (Top.stmt s ∷ tops) h more = omega (
  arith,
  stm_fits s h.0 (spell_tops tops more),
  tops_fit (n + stm_count s) tops h.1 more,
  stm_nodes_kept n s,
  funs_append (stm_made n s) (made_of (n + stm_count s) tops),
)

follows_length : (ms : List Mark) (ts : List Token) → Follows ms ts → length ms ≡ length ts
follows_length [] [] f = refl
follows_length [] (t ∷ ts) f = absurd f
follows_length (m ∷ ms) [] f = absurd f
follows_length (m ∷ ms) (t ∷ ts) f = ap suc (follows_length ms ts f.1)

-- so the script of functions and statements that spell so many tokens can be numbered
pub script_fits : (tops : List Top) (ts : List Token) (keys : List (List ℕ)) → Spells tops ts → length ts ≤ 1048576
    → script_nodes (script_of keys tops) < 4294967296
script_fits tops ts keys s h =
    omega (arith, tops_fit 0 tops s.0 [], follows_length (spell_tops tops []) ts s.1, funs_append (defs_of 0 tops) (made_of 0 tops))
