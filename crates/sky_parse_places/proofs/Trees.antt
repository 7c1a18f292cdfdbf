-- The places of a script that trees make are those of the tokens that the trees spell.
use Rattle.std.proofs.Common.{◌≡◌, ℕ, ◌+◌, true, List, [], ◌∷◌, ◌++◌, sym, subst}
use Rattle.sky_base.specs.Tree.{Place, SignAt, Form, FunDef, Junction}
use Rattle.sky_base_law.specs.Tasks.{Each}
use Rattle.sky_text.specs.declared.token.Token.{Token}
use Rattle.sky_parse_grammar.specs.Grammar.{Mark, Fits, Follows, place, spell, spell_signs, spell_exps, spell_others, spell_pairs, spell_value}
use Rattle.sky_parse_grammar.specs.Grammar.{spell_other_pairs, spell_links, spell_ands, spell_steps, spell_stm, spell_stms, spell_arms, spell_other_arms}
use Rattle.sky_parse_grammar.specs.Grammar.{spell_else, spell_params, spell_other_params, started, some_arms, IsTree, AreTrees, AreLinks, AreAnds}
use Rattle.sky_parse_grammar.specs.Grammar.{AreSteps, IsStm, AreStms, AreArms, IsElse}
use Rattle.sky_parse_grammar.specs.Lifted.{count, exps_count, stm_count, stms_count, arms_count, tree, exps_tree, links_tree}
use Rattle.sky_parse_grammar.specs.Lifted.{ands_tree, steps_tree, stm_tree, stms_tree, arms_tree, else_tree, made, exps_made, links_made, ands_made}
use Rattle.sky_parse_grammar.specs.Lifted.{steps_made, stm_made, stms_made, arms_made, else_made}
use Rattle.sky_parse_grammar.specs.Source.{Param, Exp, Exps, Links, Ands, Steps, Stm, Stms, Arms, Else}
use Rattle.sky_parse_grammar.specs.Tops.{Top, AreTops, defs_of, main_of, made_of, script_of, spell_tops, top_count}
use Rattle.sky_parse_places.specs.Placed.{AndsPlaced, ArmsPlaced, ElsePlaced, ExpPlaced, ExpsPlaced, LinksPlaced, Placed, SignsPlaced, StepsPlaced, StmPlaced}
use Rattle.sky_parse_places.specs.Placed.{StmsPlaced}

-- ---- some mark stands first

abbrev HasMark : List Mark → Type 0
HasMark [] = ⊥
HasMark (m ∷ ms) = Unit {0}

links_have : (ls : Links) (more : List Mark) → HasMark more → HasMark (spell_links ls more)
links_have Links.no_links more h = h
links_have (Links.link o p e ls) more h = tt

ands_have : (j : Junction) (ls : Ands) (more : List Mark) → HasMark more → HasMark (spell_ands j ls more)
ands_have j Ands.no_ands more h = h
ands_have j (Ands.and p e ls) more h = tt

steps_have : (ss : Steps) (more : List Mark) → HasMark more → HasMark (spell_steps ss more)
steps_have Steps.no_steps more h = h
steps_have (Steps.index e p ss) more h = tt
steps_have (Steps.call es p ss) more h = tt

signs_have : (ss : List SignAt) (more : List Mark) → HasMark more → HasMark (spell_signs ss more)
signs_have [] more h = h
signs_have (s ∷ ss) more h = tt

exp_has : (e : Exp) (more : List Mark) → HasMark more → HasMark (spell e more)
exp_has (Exp.literal v p) more h = tt
exp_has (Exp.name x p) more h = tt
exp_has (Exp.func p xs b) more h = tt
exp_has (Exp.parens e) more h = tt
exp_has (Exp.parts Form.list p es) more h = tt
exp_has (Exp.parts Form.dict p es) more h = tt
exp_has (Exp.parts Form.spawn p es) more h = tt
exp_has (Exp.parts Form.spawn_exec p es) more h = tt
exp_has (Exp.parts Form.exec p es) more h = tt
exp_has (Exp.parts Form.ref p es) more h = tt
exp_has (Exp.parts Form.len p es) more h = tt
exp_has (Exp.parts Form.keys p es) more h = tt
exp_has (Exp.parts Form.has p es) more h = tt
exp_has (Exp.parts Form.range p es) more h = tt
exp_has (Exp.chain e ls) more h = exp_has e (spell_links ls more) (links_have ls more h)
exp_has (Exp.logic j e ls) more h = exp_has e (spell_ands j ls more) (ands_have j ls more h)
exp_has (Exp.prefix ss e) more h = signs_have ss (spell e more) (exp_has e more h)
exp_has (Exp.postfix e ss) more h = exp_has e (spell_steps ss more) (steps_have ss more h)

arms_have : (arms : Arms) (more : List Mark) → some_arms arms ≡ true → HasMark (spell_arms arms more)
arms_have Arms.no_arms more h = absurd cc
arms_have (Arms.arm p e b arms) more h = tt

module _ (P : Place → Type 0) where
  -- ---- marks of tokens

  abbrev MarkPlaced : Mark → Type 0
  MarkPlaced (Mark.placed k p) = P p
  MarkPlaced (Mark.plain k) = Unit {0}
  MarkPlaced (Mark.also p m) = P p × MarkPlaced m

  abbrev Marks : List Mark → Type 0
  Marks ms = Each MarkPlaced ms

  fits_placed : (m : Mark) (t : Token) → Fits m t → P (place t) → MarkPlaced m
  fits_placed (Mark.placed k p) t h i = subst P (sym h.1) i
  fits_placed (Mark.plain k) t h i = tt
  fits_placed (Mark.also p m) t h i = (subst P (sym h.0) i, fits_placed m t h.1 i)

  marks_placed : (ms : List Mark) (ts : List Token) → Follows ms ts → Each (λ t. P (place t)) ts → Marks ms
  marks_placed [] ts h i = tt
  marks_placed (m ∷ ms) [] h i = absurd h
  marks_placed (m ∷ ms) (t ∷ ts) h i = (fits_placed m t h.0 i.0, marks_placed ms ts h.1 i.1)

  -- where the first mark has this place, and there is one
  started_placed : (p : Place) (ms : List Mark) → HasMark ms → Marks (started p ms) → P p × Marks ms
  started_placed p [] s h = absurd s
  started_placed p (m ∷ ms) s h = (h.0.0, (h.0.1, h.1))

  -- ---- trees

  abbrev Funs : List FunDef → Type 0
  Funs fs = Each (λ (f : FunDef). StmsPlaced P f.body) fs

  both : (fs gs : List FunDef) → Funs fs → Funs gs → Funs (fs ++ gs)
  both [] gs h i = i
  both (f ∷ fs) gs h i = (h.0, both fs gs h.1 i)

  -- what a tree has, the functions in it, and the marks behind it
  record Told (W : Type 0) (fs : List FunDef) (more : List Mark) : Type 0 where
    tree_is : W
    funs_are : Funs fs
    rest : Marks more

  pair : (A B : Type 0) (fs gs : List FunDef) (ms more : List Mark) → Told A fs ms → (Marks ms → Told B gs more) → Told (A × B) (fs ++ gs) more
  pair A B fs gs ms more a f =
      let b : Told B gs more = f a.rest in
      record { tree_is = (a.tree_is, b.tree_is); funs_are = both fs gs a.funs_are b.funs_are; rest = b.rest }

  signs_told : (ss : List SignAt) (more : List Mark) → Marks (spell_signs ss more) → SignsPlaced P ss × Marks more
  signs_told [] more h = (tt, h)
  signs_told (s ∷ ss) more h = let others = signs_told ss more h.1 in ((h.0, others.0), others.1)

  other_params : (xs : List Param) (more : List Mark) → Marks (spell_other_params xs more) → Marks more
  other_params [] more h = h
  other_params (x ∷ xs) more h = other_params xs more h.1.1

  params_told : (xs : List Param) (more : List Mark) → Marks (spell_params xs more) → Marks more
  params_told [] more h = h
  params_told (x ∷ xs) more h = other_params xs more h.1

  -- behind a mark that says nothing, and with a place in front
  pass : (A : Type 0) (fs : List FunDef) (m : Mark) (more : List Mark) → Told A fs (m ∷ more) → Told A fs more
  pass A fs m more a = record { tree_is = a.tree_is; funs_are = a.funs_are; rest = a.rest.1 }

  with_place : (A : Type 0) (p : Place) (fs : List FunDef) (more : List Mark) → P p → Told A fs more → Told (P p × A) fs more
  with_place A p fs more i a = record { tree_is = (i, a.tree_is); funs_are = a.funs_are; rest = a.rest }

  with_both : (A B : Type 0) (p : Place) (fs : List FunDef) (more : List Mark) → P p → Told (A × B) fs more → Told (P p × A × B) fs more
  with_both A B p fs more i a = record { tree_is = (i, a.tree_is.0, a.tree_is.1); funs_are = a.funs_are; rest = a.rest }

  with_three : (A B C : Type 0) (p : Place) (fs : List FunDef) (more : List Mark) → P p → Told (A × B × C) fs more → Told (P p × A × B × C) fs more
  with_three A B C p fs more i a =
      record { tree_is = (i, a.tree_is.0, a.tree_is.1, a.tree_is.2); funs_are = a.funs_are; rest = a.rest }

  -- an operator's place, its operand and those behind it; an arm's place, its test, its block and the arms behind it
  three : (A B C : Type 0) (fs gs hs : List FunDef) (ms ns more : List Mark) → Told A fs ms → (Marks ms → Told B gs ns)
      → (Marks ns → Told C hs more) → Told (A × B × C) (fs ++ (gs ++ hs)) more
  three A B C fs gs hs ms ns more a f g =
      let b : Told B gs ns = f a.rest in
      let c : Told C hs more = g b.rest in
      record { tree_is = (a.tree_is, b.tree_is, c.tree_is); funs_are = both fs (gs ++ hs) a.funs_are (both gs hs b.funs_are c.funs_are); rest = c.rest }

  mutual
    told : (e : Exp) → IsTree e → (n : ℕ) (more : List Mark) → Marks (spell e more) → Told (ExpPlaced P (tree n e)) (made n e) more
    told (Exp.literal v p) w n more h = record { tree_is = h.0; funs_are = tt; rest = h.1 }
    told (Exp.name x p) w n more h = record { tree_is = h.0; funs_are = tt; rest = h.1 }
    told (Exp.func p xs b) w n more h =
        let behind = params_told xs _ h.1.1 in
        let body = stms_told b w (n + 1) _ behind.1.1 in
        record { tree_is = h.0; funs_are = (body.tree_is, body.funs_are); rest = body.rest.1 }
    told (Exp.parens e) w n more h = pass _ _ _ more (told e w n _ h.1)
    told (Exp.parts Form.list p es) w n more h = with_place _ p _ more h.0 (pass _ _ _ more (exps_told es w.0 n _ h.1))
    told (Exp.parts Form.dict p es) w n more h = with_place _ p _ more h.0 (pass _ _ _ more (pairs_told es w.0 n _ h.1))
    told (Exp.parts Form.spawn p es) w n more h = with_place _ p _ more h.0 (pass _ _ _ more (exps_told es w.0 n _ h.1.1))
    told (Exp.parts Form.spawn_exec p es) w n more h = with_place _ p _ more h.0 (pass _ _ _ more (exps_told es w.0 n _ h.1.1))
    told (Exp.parts Form.exec p es) w n more h = with_place _ p _ more h.0 (pass _ _ _ more (exps_told es w.0 n _ h.1.1))
    told (Exp.parts Form.ref p es) w n more h = with_place _ p _ more h.0 (pass _ _ _ more (exps_told es w.0 n _ h.1.1))
    told (Exp.parts Form.len p es) w n more h = with_place _ p _ more h.0 (pass _ _ _ more (exps_told es w.0 n _ h.1.1))
    told (Exp.parts Form.keys p es) w n more h = with_place _ p _ more h.0 (pass _ _ _ more (exps_told es w.0 n _ h.1.1))
    told (Exp.parts Form.has p es) w n more h = with_place _ p _ more h.0 (pass _ _ _ more (exps_told es w.0 n _ h.1.1))
    told (Exp.parts Form.range p es) w n more h = with_place _ p _ more h.0 (pass _ _ _ more (exps_told es w.0 n _ h.1.1))
    told (Exp.chain e ls) w n more h = pair _ _ _ _ _ more (told e w.0 n _ h) (λ k. links_told _ ls w.2 (n + count e) more k)
    told (Exp.logic j e ls) w n more h = pair _ _ _ _ _ more (told e w.0 n _ h) (λ k. ands_told j _ ls w.2 (n + count e) more k)
    told (Exp.prefix ss e) w n more h =
        let signs = signs_told ss (spell e more) h in
        let part = told e w.0 n more signs.1 in
        record { tree_is = (signs.0, part.tree_is); funs_are = part.funs_are; rest = part.rest }
    told (Exp.postfix e ss) w n more h = pair _ _ _ _ _ more (told e w.0 n _ h) (λ k. steps_told ss w.2 (n + count e) more k)

    exps_told : (es : Exps) → AreTrees es → (n : ℕ) (more : List Mark) → Marks (spell_exps es more) → Told (ExpsPlaced P (exps_tree n es)) (exps_made n es) more
    exps_told Exps.no_exps w n more h = record { tree_is = tt; funs_are = tt; rest = h }
    exps_told (Exps.exp e es) w n more h = pair _ _ _ _ _ more (told e w.0 n _ h) (λ k. others_told es w.1 (n + count e) more k)

    others_told : (es : Exps) → AreTrees es → (n : ℕ) (more : List Mark) → Marks (spell_others es more)
        → Told (ExpsPlaced P (exps_tree n es)) (exps_made n es) more
    others_told Exps.no_exps w n more h = record { tree_is = tt; funs_are = tt; rest = h }
    others_told (Exps.exp e es) w n more h = pair _ _ _ _ _ more (told e w.0 n _ h.1) (λ k. others_told es w.1 (n + count e) more k)

    pairs_told : (es : Exps) → AreTrees es → (n : ℕ) (more : List Mark) → Marks (spell_pairs es more)
        → Told (ExpsPlaced P (exps_tree n es)) (exps_made n es) more
    pairs_told Exps.no_exps w n more h = record { tree_is = tt; funs_are = tt; rest = h }
    pairs_told (Exps.exp e es) w n more h = pair _ _ _ _ _ more (told e w.0 n _ h) (λ k. value_told es w.1 (n + count e) more k)

    value_told : (es : Exps) → AreTrees es → (n : ℕ) (more : List Mark) → Marks (spell_value es more)
        → Told (ExpsPlaced P (exps_tree n es)) (exps_made n es) more
    value_told Exps.no_exps w n more h = record { tree_is = tt; funs_are = tt; rest = h }
    value_told (Exps.exp e es) w n more h = pair _ _ _ _ _ more (told e w.0 n _ h.1) (λ k. other_pairs_told es w.1 (n + count e) more k)

    other_pairs_told : (es : Exps) → AreTrees es → (n : ℕ) (more : List Mark) → Marks (spell_other_pairs es more)
        → Told (ExpsPlaced P (exps_tree n es)) (exps_made n es) more
    other_pairs_told Exps.no_exps w n more h = record { tree_is = tt; funs_are = tt; rest = h }
    other_pairs_told (Exps.exp e es) w n more h = pair _ _ _ _ _ more (told e w.0 n _ h.1) (λ k. value_told es w.1 (n + count e) more k)

    links_told : (l : ℕ) (ls : Links) → AreLinks l ls → (n : ℕ) (more : List Mark) → Marks (spell_links ls more)
        → Told (LinksPlaced P (links_tree n ls)) (links_made n ls) more
    links_told l Links.no_links w n more h = record { tree_is = tt; funs_are = tt; rest = h }
    links_told l (Links.link o p e ls) w n more h =
        with_both _ _ p _ more h.0 (pair _ _ _ _ _ more (told e w.1 n _ h.1) (λ k. links_told l ls w.3 (n + count e) more k))

    ands_told : (j : Junction) (l : ℕ) (ls : Ands) → AreAnds l ls → (n : ℕ) (more : List Mark) → Marks (spell_ands j ls more)
        → Told (AndsPlaced P (ands_tree n ls)) (ands_made n ls) more
    ands_told j l Ands.no_ands w n more h = record { tree_is = tt; funs_are = tt; rest = h }
    ands_told j l (Ands.and p e ls) w n more h =
        with_both _ _ p _ more h.0 (pair _ _ _ _ _ more (told e w.0 n _ h.1) (λ k. ands_told j l ls w.2 (n + count e) more k))

    steps_told : (ss : Steps) → AreSteps ss → (n : ℕ) (more : List Mark) → Marks (spell_steps ss more)
        → Told (StepsPlaced P (steps_tree n ss)) (steps_made n ss) more
    steps_told Steps.no_steps w n more h = record { tree_is = tt; funs_are = tt; rest = h }
    steps_told (Steps.index e p ss) w n more h =
        with_both _ _ p _ more h.0 (pair _ _ _ _ _ more (pass _ _ _ _ (told e w.0 n _ h.1)) (λ k. steps_told ss w.1 (n + count e) more k))
    steps_told (Steps.call es p ss) w n more h =
        with_both _ _ p _ more h.0 (pair _ _ _ _ _ more (pass _ _ _ _ (exps_told es w.0 n _ h.1)) (λ k. steps_told ss w.1 (n + exps_count es) more k))

    stm_told : (s : Stm) → IsStm s → (n : ℕ) (more : List Mark) → Marks (spell_stm s more) → Told (StmPlaced P (stm_tree n s)) (stm_made n s) more
    stm_told (Stm.set x p e) w n more h = with_place _ p _ more h.0 (pass _ _ _ more (told e w n _ h.1.1))
    stm_told (Stm.add x q p e) w n more h = with_both _ _ q _ more h.0 (with_place _ p _ more h.1.0 (pass _ _ _ more (told e w n _ h.1.1)))
    stm_told (Stm.put x q p i e) w n more h =
        with_three _ _ _ q _ more h.0 (with_both _ _ p _ more h.1.0
        (pass _ _ _ more (pair _ _ _ _ _ _ (pass _ _ _ _ (pass _ _ _ _ (told i w.0 n _ h.1.1))) (λ k. told e w.1 (n + count i) _ k))))
    stm_told (Stm.return p e) w n more h = with_place _ p _ more h.0 (pass _ _ _ more (told e w n _ h.1))
    stm_told (Stm.leave p) w n more h = record { tree_is = h.0; funs_are = tt; rest = h.1.1 }
    stm_told (Stm.cases p arms els) w n more h =
        let first = started_placed p (spell_arms arms (spell_else els more)) (arms_have arms (spell_else els more) w.1) h in
        with_both _ _ p _ more first.0 (pair _ _ _ _ _ more (arms_told arms w.0 n _ first.1) (λ k. else_told els w.2 (n + arms_count arms) more k))
    stm_told (Stm.while p e b) w n more h =
        with_both _ _ p _ more h.0
        (pass _ _ _ more (pair _ _ _ _ _ _ (pass _ _ _ _ (pass _ _ _ _ (told e w.0 n _ h.1.1))) (λ k. stms_told b w.1 (n + count e) _ k)))
    stm_told (Stm.repeat p b e) w n more h =
        with_both _ _ p _ more h.0
        (pass _ _ _ more (pass _ _ _ _ (pair _ _ _ _ _ _ (pass _ _ _ _ (pass _ _ _ _ (pass _ _ _ _ (stms_told b w.0 n _ h.1.1))))
        (λ k. told e w.1 (n + stms_count b) _ k))))
    stm_told (Stm.for p x e b) w n more h =
        with_both _ _ p _ more h.0
        (pass _ _ _ more (pair _ _ _ _ _ _ (pass _ _ _ _ (pass _ _ _ _ (told e w.0 n _ h.1.1.1.1))) (λ k. stms_told b w.1 (n + count e) _ k)))
    stm_told (Stm.just p e) w n more h =
        let first = started_placed p (spell e _) (exp_has e _ tt) h in
        with_place _ p _ more first.0 (pass _ _ _ more (told e w n _ first.1))

    stms_told : (ss : Stms) → AreStms ss → (n : ℕ) (more : List Mark) → Marks (spell_stms ss more) → Told (StmsPlaced P (stms_tree n ss)) (stms_made n ss) more
    stms_told Stms.no_stms w n more h = record { tree_is = tt; funs_are = tt; rest = h }
    stms_told (Stms.stm s ss) w n more h = pair _ _ _ _ _ more (stm_told s w.0 n _ h) (λ k. stms_told ss w.1 (n + stm_count s) more k)

    arms_told : (arms : Arms) → AreArms arms → (n : ℕ) (more : List Mark) → Marks (spell_arms arms more)
        → Told (ArmsPlaced P (arms_tree n arms)) (arms_made n arms) more
    arms_told Arms.no_arms w n more h = record { tree_is = tt; funs_are = tt; rest = h }
    arms_told (Arms.arm p e b arms) w n more h =
        with_three _ _ _ p _ more h.0 (three _ _ _ _ _ _ _ _ more (told e w.0 n _ h.1.1) (λ k. stms_told b w.1 (n + count e) _ k.1.1)
        (λ k. other_arms_told arms w.2 (n + count e + stms_count b) more k.1))

    other_arms_told : (arms : Arms) → AreArms arms → (n : ℕ) (more : List Mark) → Marks (spell_other_arms arms more)
        → Told (ArmsPlaced P (arms_tree n arms)) (arms_made n arms) more
    other_arms_told Arms.no_arms w n more h = record { tree_is = tt; funs_are = tt; rest = h }
    other_arms_told (Arms.arm p e b arms) w n more h =
        with_three _ _ _ p _ more h.1.0 (three _ _ _ _ _ _ _ _ more (told e w.0 n _ h.1.1.1) (λ k. stms_told b w.1 (n + count e) _ k.1.1)
        (λ k. other_arms_told arms w.2 (n + count e + stms_count b) more k.1))

    else_told : (els : Else) → IsElse els → (n : ℕ) (more : List Mark) → Marks (spell_else els more)
        → Told (ElsePlaced P (else_tree n els)) (else_made n els) more
    else_told Else.no_else w n more h = record { tree_is = tt; funs_are = tt; rest = h }
    else_told (Else.otherwise b) w n more h = pass _ _ _ more (stms_told b w n _ h.1.1)

  -- ---- scripts

  tops_told : (n : ℕ) (tops : List Top) → AreTops tops → Marks (spell_tops tops []) → Funs (defs_of n tops) × StmsPlaced P (main_of n tops)
      × Funs (made_of n tops)
  tops_told n [] w h = (tt, tt, tt)
  tops_told n (Top.fun f ∷ ts) w h =
      let behind = params_told f.params _ h.1.1.1 in
      let body = stms_told f.body w.0 n _ behind.1.1 in
      let more = tops_told (n + top_count (Top.fun f)) ts w.1 body.rest.1 in (
        (body.tree_is, more.0),
        more.1,
        both (stms_made n f.body) (made_of (n + top_count (Top.fun f)) ts) body.funs_are more.2,
      )
  tops_told n (Top.stmt s ∷ ts) w h =
      let part = stm_told s w.0 n _ h in
      let more = tops_told (n + top_count (Top.stmt s)) ts w.1 part.rest in
      (more.0, (part.tree_is, more.1), both (stm_made n s) (made_of (n + top_count (Top.stmt s)) ts) part.funs_are more.2)

  -- where it holds of the places of the tokens
  pub script_placed : (keys : List (List ℕ)) (tops : List Top) (ts : List Token) → AreTops tops → Follows (spell_tops tops []) ts
      → Each (λ t. P (place t)) ts → Placed P (script_of keys tops)
  script_placed keys tops ts w f i =
      let all = tops_told 0 tops w (marks_placed (spell_tops tops []) ts f i) in
      record { funs = both (defs_of 0 tops) (made_of 0 tops) all.0 all.2; main = all.1 }
