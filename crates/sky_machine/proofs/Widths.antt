-- Each node of a script that trees make is at most as wide as there are marks of the trees.
use Rattle.std.proofs.Common.{◌≡◌, ◌≤◌, ◌+◌, ℕ, zero, suc, List, [], ◌∷◌, ◌++◌, length, Some, slice_get, arith}
use Rattle.sky_base.specs.Tree.{Form, FunDef, Junction}
use Rattle.sky_base_law.specs.Opened.{Node}
use Rattle.sky_base_law.specs.Nodes.{pre_exp, pre_exps, pre_links, pre_ands, pre_steps, pre_stm, pre_stms, pre_arms, pre_else, pre_block, pre_funs}
use Rattle.sky_base_law.specs.Nodes.{pre_script}
use Rattle.sky_base_law.specs.Tasks.{Each}
use Rattle.sky_base_law.proofs.Lists.{each_both}
use Rattle.sky_text.specs.declared.token.Sign.{Sign}
use Rattle.sky_text.specs.declared.token.Word.{Word}
use Rattle.sky_parse_grammar.specs.Levels.{junction_level}
use Rattle.sky_parse_grammar.specs.Grammar.{Mark, sign, word, IsTree, AreTrees, AreLinks, AreAnds, AreSteps, IsStm, AreStms, AreArms, IsElse, spell}
use Rattle.sky_parse_grammar.specs.Grammar.{spell_exps, spell_others, spell_pairs, spell_value, spell_other_pairs, spell_links, spell_ands, spell_steps}
use Rattle.sky_parse_grammar.specs.Grammar.{spell_stm, spell_stms, spell_arms, spell_other_arms, spell_else}
use Rattle.sky_parse_grammar.specs.Lifted.{count, exps_count, stm_count, stms_count, arms_count, tree, exps_tree, links_tree, ands_tree, steps_tree}
use Rattle.sky_parse_grammar.specs.Lifted.{stm_tree, stms_tree, arms_tree, else_tree, made, exps_made, links_made, ands_made, steps_made, stm_made}
use Rattle.sky_parse_grammar.specs.Lifted.{stms_made, arms_made, else_made}
use Rattle.sky_parse_grammar.specs.Source.{Exp, Exps, Links, Ands, Steps, Stm, Stms, Arms, Else, links_level}
use Rattle.sky_parse_grammar.specs.Tops.{Top, AreTops, defs_of, main_of, made_of, script_of, spell_tops, top_count}
use Rattle.sky_machine.specs.Width.{width, stms_width}
use Rattle.sky_machine.proofs.Lengths.{started_length, signs_long, params_long, exp_long, exps_long, pairs_long, links_long, ands_long, steps_long}
use Rattle.sky_machine.proofs.Lengths.{stm_long, stms_long, arms_long}

-- the marks behind a part: a closing bracket or a semicolon, and more
abbrev round : List Mark → List Mark
round more = sign Sign.CloseRound ∷ more

abbrev square : List Mark → List Mark
square more = sign Sign.CloseSquare ∷ more

abbrev curly : List Mark → List Mark
curly more = sign Sign.CloseCurly ∷ more

abbrev ended : List Mark → List Mark
ended more = sign Sign.Semicolon ∷ more

-- behind a test its block, behind a target's index its value, and behind the block of a `do` its test
abbrev then_block : Stms → List Mark → List Mark
then_block b more = round (sign Sign.OpenCurly ∷ spell_stms b (curly more))

abbrev then_value : Exp → List Mark → List Mark
then_value e more = square (sign Sign.Assign ∷ spell e (ended more))

abbrev then_test : Exp → List Mark → List Mark
then_test e more = curly (word Word.While ∷ sign Sign.OpenRound ∷ spell e (round (ended more)))

module _ (most : ℕ) where
  abbrev Within : Node → Type 0
  Within t = width t ≤ most

  abbrev FunWithin : FunDef → Type 0
  FunWithin f = Each Within (pre_block f.body)

  -- the marks are not more
  abbrev Few : List Mark → Type 0
  Few ms = length ms ≤ most

  -- the nodes of a tree, and those of the functions in it
  record Bounded (ns : List Node) (fs : List FunDef) : Type 0 where
    nodes : Each Within ns
    funs : Each FunWithin fs

  none : Bounded [] []
  none = record { nodes = tt; funs = tt }

  top : {t : Node} {ns : List Node} {fs : List FunDef} → width t ≤ most → Bounded ns fs → Bounded (t ∷ ns) fs
  top le b = record { nodes = (le, b.nodes); funs = b.funs }

  two : {ns ms : List Node} {fs gs : List FunDef} → Bounded ns fs → Bounded ms gs → Bounded (ns ++ ms) (fs ++ gs)
  two {ns = ns} {ms = ms} {fs = fs} {gs = gs} a b =
      record { nodes = each_both Within ns ms a.nodes b.nodes; funs = each_both FunWithin fs gs a.funs b.funs }

  -- a block with its statements
  blocked : (ss : Stms) (n : ℕ) (more : List Mark) → AreStms ss → Few (spell_stms ss more) → Bounded (pre_stms (stms_tree n ss)) (stms_made n ss)
      → Bounded (pre_block (stms_tree n ss)) (stms_made n ss)
  blocked ss n more h le inner = top (omega (arith, stms_long ss n more h, le)) inner

  mutual
    wide : (e : Exp) (n : ℕ) (more : List Mark) → IsTree e → Few (spell e more) → Bounded (pre_exp (tree n e)) (made n e)
    wide (Exp.literal v p) n more h le = top (omega arith) none
    wide (Exp.name x p) n more h le = top (omega arith) none
    wide (Exp.func p xs b) n more h le =
        let body : Few (spell_stms b (curly more)) = omega (arith, params_long xs (then_block b more), le) in
        let inner = wide_stms b (n + 1) (curly more) h body in
        record {
          nodes = (omega arith, tt);
          funs = ((omega (arith, stms_long b (n + 1) (curly more) h, body), inner.nodes), inner.funs);
        }
    wide (Exp.parens e) n more h le = top (omega arith) (wide e n (round more) h (omega (arith, le)))
    wide (Exp.parts Form.list p es) n more h le =
        top (omega (arith, exps_long es n (square more) h.0, le)) (wide_exps es n (square more) h.0 (omega (arith, le)))
    wide (Exp.parts Form.dict p es) n more h le =
        top (omega (arith, pairs_long es n (curly more) h.0, le)) (wide_pairs es n (curly more) h.0 (omega (arith, le)))
    wide (Exp.parts Form.spawn p es) n more h le =
        top (omega (arith, exps_long es n (round more) h.0, le)) (wide_exps es n (round more) h.0 (omega (arith, le)))
    wide (Exp.parts Form.spawn_exec p es) n more h le =
        top (omega (arith, exps_long es n (round more) h.0, le)) (wide_exps es n (round more) h.0 (omega (arith, le)))
    wide (Exp.parts Form.exec p es) n more h le =
        top (omega (arith, exps_long es n (round more) h.0, le)) (wide_exps es n (round more) h.0 (omega (arith, le)))
    wide (Exp.parts Form.ref p es) n more h le =
        top (omega (arith, exps_long es n (round more) h.0, le)) (wide_exps es n (round more) h.0 (omega (arith, le)))
    wide (Exp.parts Form.len p es) n more h le =
        top (omega (arith, exps_long es n (round more) h.0, le)) (wide_exps es n (round more) h.0 (omega (arith, le)))
    wide (Exp.parts Form.keys p es) n more h le =
        top (omega (arith, exps_long es n (round more) h.0, le)) (wide_exps es n (round more) h.0 (omega (arith, le)))
    wide (Exp.parts Form.has p es) n more h le =
        top (omega (arith, exps_long es n (round more) h.0, le)) (wide_exps es n (round more) h.0 (omega (arith, le)))
    wide (Exp.parts Form.range p es) n more h le =
        top (omega (arith, exps_long es n (round more) h.0, le)) (wide_exps es n (round more) h.0 (omega (arith, le)))
    wide (Exp.chain e ls) n more h le =
        let rest : Few (spell_links ls more) = omega (arith, exp_long e (spell_links ls more) h.0, le) in
        top (omega (arith, links_long (links_level ls) ls (n + count e) more h.2, rest))
        (two (wide e n (spell_links ls more) h.0 le) (wide_links (links_level ls) ls (n + count e) more h.2 rest))
    wide (Exp.logic j e ls) n more h le =
        let rest : Few (spell_ands j ls more) = omega (arith, exp_long e (spell_ands j ls more) h.0, le) in
        top (omega (arith, ands_long (junction_level j) j ls (n + count e) more h.2, rest))
        (two (wide e n (spell_ands j ls more) h.0 le) (wide_ands (junction_level j) j ls (n + count e) more h.2 rest))
    wide (Exp.prefix ss e) n more h le =
        top (omega (arith, signs_long ss (spell e more), le)) (wide e n more h.0 (omega (arith, signs_long ss (spell e more), le)))
    wide (Exp.postfix e ss) n more h le =
        let rest : Few (spell_steps ss more) = omega (arith, exp_long e (spell_steps ss more) h.0, le) in
        top (omega (arith, steps_long ss (n + count e) more h.2, rest))
        (two (wide e n (spell_steps ss more) h.0 le) (wide_steps ss (n + count e) more h.2 rest))

    wide_exps : (es : Exps) (n : ℕ) (more : List Mark) → AreTrees es → Few (spell_exps es more) → Bounded (pre_exps (exps_tree n es)) (exps_made n es)
    wide_exps Exps.no_exps n more h le = none
    wide_exps (Exps.exp e es) n more h le =
        two (wide e n (spell_others es more) h.0 le)
        (wide_others es (n + count e) more h.1 (omega (arith, exp_long e (spell_others es more) h.0, le)))

    wide_others : (es : Exps) (n : ℕ) (more : List Mark) → AreTrees es → Few (spell_others es more)
        → Bounded (pre_exps (exps_tree n es)) (exps_made n es)
    wide_others Exps.no_exps n more h le = none
    wide_others (Exps.exp e es) n more h le =
        two (wide e n (spell_others es more) h.0 (omega (arith, le)))
        (wide_others es (n + count e) more h.1 (omega (arith, exp_long e (spell_others es more) h.0, le)))

    wide_pairs : (es : Exps) (n : ℕ) (more : List Mark) → AreTrees es → Few (spell_pairs es more)
        → Bounded (pre_exps (exps_tree n es)) (exps_made n es)
    wide_pairs Exps.no_exps n more h le = none
    wide_pairs (Exps.exp e es) n more h le =
        two (wide e n (spell_value es more) h.0 le) (wide_value es (n + count e) more h.1 (omega (arith, exp_long e (spell_value es more) h.0, le)))

    wide_value : (es : Exps) (n : ℕ) (more : List Mark) → AreTrees es → Few (spell_value es more)
        → Bounded (pre_exps (exps_tree n es)) (exps_made n es)
    wide_value Exps.no_exps n more h le = none
    wide_value (Exps.exp e es) n more h le =
        two (wide e n (spell_other_pairs es more) h.0 (omega (arith, le)))
        (wide_other_pairs es (n + count e) more h.1 (omega (arith, exp_long e (spell_other_pairs es more) h.0, le)))

    wide_other_pairs : (es : Exps) (n : ℕ) (more : List Mark) → AreTrees es → Few (spell_other_pairs es more)
        → Bounded (pre_exps (exps_tree n es)) (exps_made n es)
    wide_other_pairs Exps.no_exps n more h le = none
    wide_other_pairs (Exps.exp e es) n more h le =
        two (wide e n (spell_value es more) h.0 (omega (arith, le)))
        (wide_value es (n + count e) more h.1 (omega (arith, exp_long e (spell_value es more) h.0, le)))

    wide_links : (l : ℕ) (ls : Links) (n : ℕ) (more : List Mark) → AreLinks l ls → Few (spell_links ls more)
        → Bounded (pre_links (links_tree n ls)) (links_made n ls)
    wide_links l Links.no_links n more h le = none
    wide_links l (Links.link o p e ls) n more h le =
        two (wide e n (spell_links ls more) h.1 (omega (arith, le)))
        (wide_links l ls (n + count e) more h.3 (omega (arith, exp_long e (spell_links ls more) h.1, le)))

    wide_ands : (l : ℕ) (j : Junction) (ls : Ands) (n : ℕ) (more : List Mark) → AreAnds l ls → Few (spell_ands j ls more)
        → Bounded (pre_ands (ands_tree n ls)) (ands_made n ls)
    wide_ands l j Ands.no_ands n more h le = none
    wide_ands l j (Ands.and p e ls) n more h le =
        two (wide e n (spell_ands j ls more) h.0 (omega (arith, le)))
        (wide_ands l j ls (n + count e) more h.2 (omega (arith, exp_long e (spell_ands j ls more) h.0, le)))

    wide_steps : (ss : Steps) (n : ℕ) (more : List Mark) → AreSteps ss → Few (spell_steps ss more)
        → Bounded (pre_steps (steps_tree n ss)) (steps_made n ss)
    wide_steps Steps.no_steps n more h le = none
    wide_steps (Steps.index e p ss) n more h le =
        two (wide e n (square (spell_steps ss more)) h.0 (omega (arith, le)))
        (wide_steps ss (n + count e) more h.1 (omega (arith, exp_long e (square (spell_steps ss more)) h.0, le)))
    wide_steps (Steps.call es p ss) n more h le =
        two (wide_exps es n (round (spell_steps ss more)) h.0 (omega (arith, le)))
        (wide_steps ss (n + exps_count es) more h.1 (omega (arith, exps_long es n (round (spell_steps ss more)) h.0, le)))

    wide_stm : (s : Stm) (n : ℕ) (more : List Mark) → IsStm s → Few (spell_stm s more) → Bounded (pre_stm (stm_tree n s)) (stm_made n s)
    wide_stm (Stm.set x p e) n more h le = top (omega arith) (wide e n (ended more) h (omega (arith, le)))
    wide_stm (Stm.add x q p e) n more h le = top (omega arith) (wide e n (ended more) h (omega (arith, le)))
    wide_stm (Stm.put x q p i e) n more h le =
        let first : Few (spell i (then_value e more)) = omega (arith, le) in
        let second : Few (spell e (ended more)) = omega (arith, exp_long i (then_value e more) h.0, first) in
        top (omega arith) (two (wide i n (then_value e more) h.0 first) (wide e (n + count i) (ended more) h.1 second))
    wide_stm (Stm.return p e) n more h le = top (omega arith) (wide e n (ended more) h (omega (arith, le)))
    wide_stm (Stm.leave p) n more h le = top (omega arith) none
    wide_stm (Stm.cases p arms els) n more h le =
        let all : Few (spell_arms arms (spell_else els more)) = omega (arith, started_length p (spell_arms arms (spell_else els more)), le) in
        let rest : Few (spell_else els more) = omega (arith, arms_long arms n (spell_else els more) h.0, all) in
        top (omega (arith, arms_long arms n (spell_else els more) h.0, all))
        (two (wide_arms arms n (spell_else els more) h.0 all) (wide_else els (n + arms_count arms) more h.2 rest))
    wide_stm (Stm.while p e b) n more h le =
        let all : Few (spell e (then_block b more)) = omega (arith, le) in
        let block : Few (spell_stms b (curly more)) = omega (arith, exp_long e (then_block b more) h.0, all) in
        top (omega arith)
        (two (wide e n (then_block b more) h.0 all)
        (blocked b (n + count e) (curly more) h.1 block (wide_stms b (n + count e) (curly more) h.1 block)))
    wide_stm (Stm.repeat p b e) n more h le =
        let all : Few (spell_stms b (then_test e more)) = omega (arith, le) in
        let test : Few (spell e (round (ended more))) = omega (arith, stms_long b n (then_test e more) h.0, all) in
        top (omega arith)
        (two (blocked b n (then_test e more) h.0 all (wide_stms b n (then_test e more) h.0 all))
        (wide e (n + stms_count b) (round (ended more)) h.1 test))
    wide_stm (Stm.for p x e b) n more h le =
        let all : Few (spell e (then_block b more)) = omega (arith, le) in
        let block : Few (spell_stms b (curly more)) = omega (arith, exp_long e (then_block b more) h.0, all) in
        top (omega arith)
        (two (wide e n (then_block b more) h.0 all)
        (blocked b (n + count e) (curly more) h.1 block (wide_stms b (n + count e) (curly more) h.1 block)))
    wide_stm (Stm.just p e) n more h le =
        top (omega arith) (wide e n (ended more) h (omega (arith, started_length p (spell e (ended more)), le)))

    wide_stms : (ss : Stms) (n : ℕ) (more : List Mark) → AreStms ss → Few (spell_stms ss more) → Bounded (pre_stms (stms_tree n ss)) (stms_made n ss)
    wide_stms Stms.no_stms n more h le = none
    wide_stms (Stms.stm s ss) n more h le =
        two (wide_stm s n (spell_stms ss more) h.0 le)
        (wide_stms ss (n + stm_count s) more h.1 (omega (arith, stm_long s (spell_stms ss more) h.0, le)))

    wide_arms : (arms : Arms) (n : ℕ) (more : List Mark) → AreArms arms → Few (spell_arms arms more)
        → Bounded (pre_arms (arms_tree n arms)) (arms_made n arms)
    wide_arms Arms.no_arms n more h le = none
    wide_arms (Arms.arm p e b arms) n more h le =
        let others : List Mark = curly (spell_other_arms arms more) in
        let all : Few (spell e (then_block b (spell_other_arms arms more))) = omega (arith, le) in
        let block : Few (spell_stms b others) = omega (arith, exp_long e (then_block b (spell_other_arms arms more)) h.0, all) in
        let rest : Few (spell_other_arms arms more) = omega (arith, stms_long b (n + count e) others h.1, block) in
        two (wide e n (then_block b (spell_other_arms arms more)) h.0 all)
        (two (blocked b (n + count e) others h.1 block (wide_stms b (n + count e) others h.1 block))
        (wide_other_arms arms (n + count e + stms_count b) more h.2 rest))

    wide_other_arms : (arms : Arms) (n : ℕ) (more : List Mark) → AreArms arms → Few (spell_other_arms arms more)
        → Bounded (pre_arms (arms_tree n arms)) (arms_made n arms)
    wide_other_arms Arms.no_arms n more h le = none
    wide_other_arms (Arms.arm p e b arms) n more h le =
        let others : List Mark = curly (spell_other_arms arms more) in
        let all : Few (spell e (then_block b (spell_other_arms arms more))) = omega (arith, le) in
        let block : Few (spell_stms b others) = omega (arith, exp_long e (then_block b (spell_other_arms arms more)) h.0, all) in
        let rest : Few (spell_other_arms arms more) = omega (arith, stms_long b (n + count e) others h.1, block) in
        two (wide e n (then_block b (spell_other_arms arms more)) h.0 all)
        (two (blocked b (n + count e) others h.1 block (wide_stms b (n + count e) others h.1 block))
        (wide_other_arms arms (n + count e + stms_count b) more h.2 rest))

    wide_else : (els : Else) (n : ℕ) (more : List Mark) → IsElse els → Few (spell_else els more)
        → Bounded (pre_else (else_tree n els)) (else_made n els)
    wide_else Else.no_else n more h le = none
    wide_else (Else.otherwise b) n more h le =
        let block : Few (spell_stms b (curly more)) = omega (arith, le) in
        blocked b n (curly more) h block (wide_stms b n (curly more) h block)

  -- ---- scripts

  -- the statements outside of functions, and the functions
  record Tops (n : ℕ) (tops : List Top) : Type 0 where
    main : Each Within (pre_stms (main_of n tops))
    few : stms_width (main_of n tops) ≤ length (spell_tops tops [])
    defs : Each FunWithin (defs_of n tops)
    closures : Each FunWithin (made_of n tops)

  wide_tops : (tops : List Top) (n : ℕ) → AreTops tops → Few (spell_tops tops []) → Tops n tops
  wide_tops [] n h le = record { main = tt; few = omega arith; defs = tt; closures = tt }
  wide_tops (Top.fun f ∷ ts) n h le =
      let others : List Mark = spell_tops ts [] in
      let body : Few (spell_stms f.body (curly others)) = omega (arith, params_long f.params (then_block f.body others), le) in
      let less : length others ≤ length (spell_tops (Top.fun f ∷ ts) []) =
      omega (arith, params_long f.params (then_block f.body others), stms_long f.body n (curly others) h.0) in
      let more = wide_tops ts (n + top_count (Top.fun f)) h.1 (omega (arith, less, le)) in
      let block = blocked f.body n (curly others) h.0 body (wide_stms f.body n (curly others) h.0 body) in
      record {
        main = more.main;
        few = omega (arith, more.few, less);
        defs = (block.nodes, more.defs);
        closures = each_both FunWithin (stms_made n f.body) (made_of (n + top_count (Top.fun f)) ts) block.funs more.closures;
      }
  wide_tops (Top.stmt s ∷ ts) n h le =
      let less : 1 + length (spell_tops ts []) ≤ length (spell_tops (Top.stmt s ∷ ts) []) = stm_long s (spell_tops ts []) h.0 in
      let more = wide_tops ts (n + top_count (Top.stmt s)) h.1 (omega (arith, less, le)) in
      let one = wide_stm s n (spell_tops ts []) h.0 le in
      record {
        main = each_both Within (pre_stm (stm_tree n s)) (pre_stms (main_of (n + top_count (Top.stmt s)) ts)) one.nodes more.main;
        few = omega (arith, more.few, less);
        defs = more.defs;
        closures = each_both FunWithin (stm_made n s) (made_of (n + top_count (Top.stmt s)) ts) one.funs more.closures;
      }

  in_funs : (fs : List FunDef) → Each FunWithin fs → Each Within (pre_funs fs)
  in_funs [] h = tt
  in_funs (f ∷ fs) h = each_both Within (pre_block f.body) (pre_funs fs) h.0 (in_funs fs h.1)

  at_each : (ns : List Node) (i : ℕ) (t : Node) → Each Within ns → slice_get ns i ≡ Some t → Within t
  at_each [] i t h e = cc
  at_each (x ∷ ns) zero t h e = let same : x ≡ t = cc in let wide : width x ≡ width t = (λ j. width (same j)) in omega (arith, h.0, wide)
  at_each (x ∷ ns) (suc i) t h e = at_each ns i t h.1 e

  -- each node of a script
  pub wide_script : (keys : List (List ℕ)) (tops : List Top) → AreTops tops → Few (spell_tops tops []) → (i : ℕ) (t : Node)
      → slice_get (pre_script (script_of keys tops)) i ≡ Some t → width t ≤ most
  wide_script keys tops h le i t e =
      let all = wide_tops tops 0 h le in
      let funs : List FunDef = defs_of 0 tops ++ made_of 0 tops in
      let block : Each Within (pre_block (main_of 0 tops)) = (omega (arith, all.few, le), all.main) in
      let functions : Each Within (pre_funs funs) = in_funs funs (each_both FunWithin (defs_of 0 tops) (made_of 0 tops) all.defs all.closures) in
      at_each (pre_script (script_of keys tops)) i t (each_both Within (pre_block (main_of 0 tops)) (pre_funs funs) block functions) e
