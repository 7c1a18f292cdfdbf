-- Readings of expressions from those of their parts.
use Rattle.std.proofs.Common.{◌≡◌, ℕ, suc, ◌+◌, ◌≤◌, Bool, true, false, List, [], ◌∷◌, ◌++◌, length, length-append, append_assoc, append-nil, add-one}
use Rattle.std.proofs.Common.{refl, sym, ap, subst, ◌∙◌, arith}
use Rattle.std.specs.Prelude.{◌%◌, ◌==◌, if◌then◌else◌}
use Rattle.std.proofs.lemmas.Bool.{eqb-true, eqb-false}
use Rattle.sky_base.specs.Op.{Order}
use Rattle.sky_base.specs.Tree as run
use Rattle.sky_base.specs.Tree.{Place, Lit, Oper, Junction, SignAt, Form, nowhere}
use Rattle.sky_base.specs.TreeView.{exp_view, exps_view, signs_view}
use Rattle.sky_base.specs.declared.tree.Expr.{Expr}
use Rattle.sky_base.specs.declared.tree.SignAt.{SignAt as CodeSign}
use Rattle.sky_parse_grammar.specs.Levels.{oper_level, junction_level}
use Rattle.sky_text.specs.declared.token.Sign.{Sign}
use Rattle.sky_text.specs.declared.token.TokenKind.{TokenKind}
use Rattle.sky_text.specs.declared.token.Token.{Token}
use Rattle.sky_parse_grammar.specs.declared.parts.Shape.{Shape}
use Rattle.sky_parse_grammar.specs.declared.parts.Head.{Head}
use Rattle.sky_parse_grammar.specs.declared.parts.StepHead.{StepHead}
use Rattle.sky_parse_grammar.specs.Source.{Exp, Exps, Links, Ands, Steps, level, exps_count, links_enough}
use Rattle.sky_parse_grammar.specs.Lifted.{tree, exps_tree, links_tree, ands_tree, steps_tree}
use Rattle.sky_parse_grammar.specs.Lifted as lifted
use Rattle.sky_parse_grammar.specs.Grammar.{Mark, sign, sign_at, oper_sign, order_sign, junction_sign, lit_kind, name_at, spell, spell_exps, spell_value}
use Rattle.sky_parse_grammar.specs.Grammar.{spell_other_pairs, spell_links, spell_ands, spell_steps, spell_signs, IsTree, AreTrees, AreLinks, AreAnds}
use Rattle.sky_parse_grammar.specs.Grammar.{AreSteps, paired, valued, place, Fits, Follows, Spelled}
use Rattle.sky_parse_grammar.specs.Parts.{Has, separator, ready, closing, spell_head, spell_parts, head_shape, step_shape, step_sign}
use Rattle.sky_parse_expr.specs.Built as built
use Rattle.sky_parse_held.specs.Held.{Held, after, both, seen_name, exp_part, exps_part, links_part, ands_part, steps_part}
use Rattle.sky_parse_expr.specs.Reads.{Reads, ReadsExp, ReadsLinks, ReadsAnds, ReadsSteps, ReadsParts, ReadsMore}
use Rattle.sky_parse_held.proofs.HeldLaw.{exp_sized, exps_sized, both_nothing, after_nothing, after_name}
use Rattle.sky_parse_expr.proofs.ReadsLaw.{at_front, name_placed, behind, before, one, two}

-- ---- leaves

pub read_literal : (v : Lit) (p : Place) (h : Held) (ts rest : List Token) → Spelled (λ more. Mark.placed (lit_kind v) p ∷ more) ts rest
    → ReadsExp 7 (run.Exp.literal v p) h h ts rest
read_literal v p h ts rest f = record { text = Exp.literal v p; well = (tt, omega arith); runs = refl; adds = after_nothing h; spelled = f }

pub read_name : (x : List ℕ) (p : Place) (a b : Held) (ts rest : List Token) → b ≡ seen_name x a → Spelled (λ more. name_at x p ∷ more) ts rest
    → ReadsExp 7 (run.Exp.name x p) a b ts rest
read_name x p a b ts rest e f = record { text = Exp.name x p; well = (tt, omega arith); runs = refl; adds = e ∙ after_name x a; spelled = f }

-- a token that is an expression
pub leaf_literal : (v : Lit) (h : Held) (ts rest : List Token) (t : Token) → ts ≡ t ∷ rest → t.kind ≡ lit_kind v
    → ReadsExp 7 (run.Exp.literal v (place t)) h h ts rest
leaf_literal v h ts rest t e k = read_literal v (place t) h ts rest
    (λ more f. subst (λ us. Follows (Mark.placed (lit_kind v) (place t) ∷ more) us) (sym e) ((k, refl), f))

pub leaf_name : (x y : List ℕ) (a b : Held) (ts rest : List Token) (t : Token) → ts ≡ t ∷ rest → t.kind ≡ TokenKind.Name y → x ≡ y → b
    ≡ seen_name y a → ReadsExp 7 (run.Exp.name x (place t)) a b ts rest
leaf_name x y a b ts rest t e k n s = read_name x (place t) a b ts rest (s ∙ ap (λ z. seen_name z a) (sym n))
    (name_placed x ts rest t e (k ∙ ap TokenKind.Name (sym n)))

pub as_is : {l : ℕ} {x y : run.Exp} {a b : Held} {ts rest : List Token} → x ≡ y → ReadsExp l y a b ts rest → ReadsExp l x a b ts rest
as_is {l = l} {a = a} {b = b} {ts = ts} {rest = rest} e h = subst (λ z. ReadsExp l z a b ts rest) (sym e) h

pub lower : {m l : ℕ} {e : run.Exp} {a b : Held} {ts rest : List Token} → l ≤ m → ReadsExp m e a b ts rest → ReadsExp l e a b ts rest
lower h x = one (λ s. s) (λ r. r) (λ s w. (w.0, omega (arith, h, w.1))) (λ n s w. refl) (λ s w. refl) (λ s w more. refl) x

-- ---- chains

text_chained : Exp → Links → Exp
text_chained e Links.no_links = e
text_chained e (Links.link o p f ls) = Exp.chain e (Links.link o p f ls)

chained_tree : (n : ℕ) (e : Exp) (ls : Links) → built.chained (tree n e) (links_tree (n + lifted.count e) ls) ≡ tree n (text_chained e ls)
unfolding text_chained
chained_tree n e Links.no_links = refl
chained_tree n e (Links.link o p f ls) = refl

chained_part : (e : Exp) (ls : Links) → both (exp_part e) (links_part ls) ≡ exp_part (text_chained e ls)
unfolding text_chained
chained_part e Links.no_links = both_nothing (exp_part e)
chained_part e (Links.link o p f ls) = refl

chained_spelled : (e : Exp) (ls : Links) (more : List Mark) → spell e (spell_links ls more) ≡ spell (text_chained e ls) more
unfolding text_chained
chained_spelled e Links.no_links more = refl
chained_spelled e (Links.link o p f ls) more = refl

enough : (o : Oper) (p : Place) (e : Exp) (ls : Links) → 3 ≤ oper_level o → links_enough (Links.link o p e ls) ≡ true
enough Oper.plus p e ls h = refl
enough Oper.minus p e ls h = refl
enough Oper.times p e ls h = refl
enough Oper.over p e ls h = refl
enough Oper.rest p e ls h = refl
enough (Oper.compare o) p e ls h = absurd (omega arith)

chained_well : (l : ℕ) → 3 ≤ l → (e : Exp) (ls : Links) → IsTree e × (suc l ≤ level e) → AreLinks l ls → IsTree (text_chained e ls)
    × (l ≤ level (text_chained e ls))
unfolding text_chained
chained_well l h e Links.no_links w v = (w.0, omega (arith, w.1))
chained_well l h e (Links.link o p f ls) w v =
    let same = v.0 in (
      (w.0, omega (arith, w.1, same), subst (λ (m : ℕ). AreLinks m (Links.link o p f ls)) (sym same) v, enough o p f ls (omega (arith, h, same))),
      omega (arith, same),
    )

pub read_chained : (l : ℕ) {e : run.Exp} {ls : run.Links} {a b c : Held} {ts mid rest : List Token} → 3 ≤ l → ReadsExp (suc l) e a b ts mid
    → ReadsLinks l ls b c mid rest → ReadsExp l (built.chained e ls) a c ts rest
read_chained l h x y = two exp_sized text_chained built.chained (chained_well l h) chained_tree chained_part chained_spelled x y

pub read_link : (l : ℕ) (o : Oper) (p : Place) {e : run.Exp} {ls : run.Links} {a b c : Held} {ts us mid rest : List Token} → oper_level o ≡ l
    → Spelled (λ more. sign_at (oper_sign o) p ∷ more) ts us → ReadsExp (suc l) e a b us mid → ReadsLinks l ls b c mid rest
    → ReadsLinks l (run.Links.link o p e ls) a c ts rest
read_link l o p h f x y =
    two exp_sized (λ e ls. Links.link o p e ls) (λ e ls. run.Links.link o p e ls) (λ s t w v. (h, w.0, omega (arith, w.1), v)) (λ n s t. refl)
    (λ s t. refl) (λ s t more. refl) (behind (λ more. sign_at (oper_sign o) p ∷ more) f x) y

pub read_no_links : (l : ℕ) (h : Held) (ts : List Token) → ReadsLinks l run.Links.no_links h h ts ts
read_no_links l h ts = record { text = Links.no_links; well = tt; runs = refl; adds = after_nothing h; spelled = λ more f. f }

pub read_compared : (o : Order) (p : Place) {e d : run.Exp} {a b c : Held} {ts mid us rest : List Token} → ReadsExp 3 e a b ts mid
    → Spelled (λ more. sign_at (order_sign o) p ∷ more) mid us → ReadsExp 3 d b c us rest → ReadsExp 2 (built.compared e o p d) a c ts rest
read_compared o p x f y =
    two exp_sized (λ e d. Exp.chain e (Links.link (Oper.compare o) p d Links.no_links)) (λ e d. built.compared e o p d)
    (λ s t w v. ((w.0, omega (arith, w.1), (refl, v.0, omega (arith, v.1), tt), refl), omega arith))
    (λ n s t. refl) (λ s t. ap (both (exp_part s)) (sym (both_nothing (exp_part t)))) (λ s t more. refl) x
    (behind (λ more. sign_at (order_sign o) p ∷ more) f y)

-- ---- `&&` and `||`

text_joined : Junction → Exp → Ands → Exp
text_joined j e Ands.no_ands = e
text_joined j e (Ands.and p f ls) = Exp.logic j e (Ands.and p f ls)

joined_tree : (j : Junction) (n : ℕ) (e : Exp) (ls : Ands) → built.joined j (tree n e) (ands_tree (n + lifted.count e) ls)
    ≡ tree n (text_joined j e ls)
unfolding text_joined
joined_tree j n e Ands.no_ands = refl
joined_tree j n e (Ands.and p f ls) = refl

joined_part : (j : Junction) (e : Exp) (ls : Ands) → both (exp_part e) (ands_part ls) ≡ exp_part (text_joined j e ls)
unfolding text_joined
joined_part j e Ands.no_ands = both_nothing (exp_part e)
joined_part j e (Ands.and p f ls) = refl

joined_spelled : (j : Junction) (e : Exp) (ls : Ands) (more : List Mark) → spell e (spell_ands j ls more) ≡ spell (text_joined j e ls) more
unfolding text_joined
joined_spelled j e Ands.no_ands more = refl
joined_spelled j e (Ands.and p f ls) more = refl

joined_well : (j : Junction) (e : Exp) (ls : Ands) → IsTree e × (suc (junction_level j) ≤ level e) → AreAnds (junction_level j) ls
    → IsTree (text_joined j e ls) × (junction_level j ≤ level (text_joined j e ls))
unfolding text_joined
joined_well j e Ands.no_ands w v = (w.0, omega (arith, w.1))
joined_well j e (Ands.and p f ls) w v = ((w.0, omega (arith, w.1), v, refl), omega arith)

pub read_joined : (j : Junction) {e : run.Exp} {ls : run.Ands} {a b c : Held} {ts mid rest : List Token}
    → ReadsExp (suc (junction_level j)) e a b ts mid → ReadsAnds j ls b c mid rest
    → ReadsExp (junction_level j) (built.joined j e ls) a c ts rest
read_joined j x y = two exp_sized (text_joined j) (built.joined j) (joined_well j) (joined_tree j) (joined_part j) (joined_spelled j) x y

pub read_and : (j : Junction) (p : Place) {e : run.Exp} {ls : run.Ands} {a b c : Held} {ts us mid rest : List Token}
    → Spelled (λ more. sign_at (junction_sign j) p ∷ more) ts us → ReadsExp (suc (junction_level j)) e a b us mid → ReadsAnds j ls b c mid rest
    → ReadsAnds j (run.Ands.and p e ls) a c ts rest
read_and j p f x y =
    two exp_sized (λ e ls. Ands.and p e ls) (λ e ls. run.Ands.and p e ls) (λ s t w v. (w.0, omega (arith, w.1), v)) (λ n s t. refl) (λ s t. refl)
    (λ s t more. refl) (behind (λ more. sign_at (junction_sign j) p ∷ more) f x) y

pub read_no_ands : (j : Junction) (h : Held) (ts : List Token) → ReadsAnds j run.Ands.no_ands h h ts ts
read_no_ands j h ts = record { text = Ands.no_ands; well = tt; runs = refl; adds = after_nothing h; spelled = λ more f. f }

-- ---- signs, indices and calls

signs_push : (xs : List CodeSign) (x : CodeSign) (more : List Mark) → spell_signs (signs_view (xs ++ x ∷ [])) more
    ≡ spell_signs (signs_view xs) (spell_signs (signs_view (x ∷ [])) more)
signs_push [] x more = refl
signs_push (y ∷ xs) x more = rw (signs_push xs x more) refl

pub signs_spelled : (ts rest next : List Token) (xs : List CodeSign) (x : CodeSign) → Spelled (spell_signs (signs_view xs)) ts rest
    → Spelled (spell_signs (signs_view (x ∷ []))) rest next → Spelled (spell_signs (signs_view (xs ++ x ∷ []))) ts next
signs_spelled ts rest next xs x s g = λ more f. rw (signs_push xs x more) (s (spell_signs (signs_view (x ∷ [])) more) (g more f))

text_prefixed : List SignAt → Exp → Exp
text_prefixed [] e = e
text_prefixed (s ∷ ss) e = Exp.prefix (s ∷ ss) e

prefixed_tree : (ss : List SignAt) (n : ℕ) (e : Exp) → built.prefixed ss (tree n e) ≡ tree n (text_prefixed ss e)
unfolding text_prefixed
prefixed_tree [] n e = refl
prefixed_tree (s ∷ ss) n e = refl

prefixed_part : (ss : List SignAt) (e : Exp) → exp_part e ≡ exp_part (text_prefixed ss e)
unfolding text_prefixed
prefixed_part [] e = refl
prefixed_part (s ∷ ss) e = refl

prefixed_spelled : (ss : List SignAt) (e : Exp) (more : List Mark) → spell_signs ss (spell e more) ≡ spell (text_prefixed ss e) more
unfolding text_prefixed
prefixed_spelled [] e more = refl
prefixed_spelled (s ∷ ss) e more = refl

prefixed_well : (ss : List SignAt) (e : Exp) → IsTree e × (6 ≤ level e) → IsTree (text_prefixed ss e) × (5 ≤ level (text_prefixed ss e))
unfolding text_prefixed
prefixed_well [] e w = (w.0, omega (arith, w.1))
prefixed_well (s ∷ ss) e w = ((w.0, w.1, refl), omega arith)

pub read_prefixed : (ss : List SignAt) {e : run.Exp} {a b : Held} {ts mid rest : List Token} → Spelled (spell_signs ss) ts mid
    → ReadsExp 6 e a b mid rest → ReadsExp 5 (built.prefixed ss e) a b ts rest
read_prefixed ss f x = one (text_prefixed ss) (built.prefixed ss) (prefixed_well ss) (λ n s w. prefixed_tree ss n s) (λ s w. prefixed_part ss s)
    (λ s w more. prefixed_spelled ss s more) (behind (spell_signs ss) f x)

text_stepped : Exp → Steps → Exp
text_stepped e Steps.no_steps = e
text_stepped e (Steps.index i p ss) = Exp.postfix e (Steps.index i p ss)
text_stepped e (Steps.call es p ss) = Exp.postfix e (Steps.call es p ss)

stepped_tree : (n : ℕ) (e : Exp) (ss : Steps) → built.stepped (tree n e) (steps_tree (n + lifted.count e) ss) ≡ tree n (text_stepped e ss)
unfolding text_stepped
stepped_tree n e Steps.no_steps = refl
stepped_tree n e (Steps.index i p ss) = refl
stepped_tree n e (Steps.call es p ss) = refl

stepped_part : (e : Exp) (ss : Steps) → both (exp_part e) (steps_part ss) ≡ exp_part (text_stepped e ss)
unfolding text_stepped
stepped_part e Steps.no_steps = both_nothing (exp_part e)
stepped_part e (Steps.index i p ss) = refl
stepped_part e (Steps.call es p ss) = refl

stepped_spelled : (e : Exp) (ss : Steps) (more : List Mark) → spell e (spell_steps ss more) ≡ spell (text_stepped e ss) more
unfolding text_stepped
stepped_spelled e Steps.no_steps more = refl
stepped_spelled e (Steps.index i p ss) more = refl
stepped_spelled e (Steps.call es p ss) more = refl

stepped_well : (e : Exp) (ss : Steps) → IsTree e × (7 ≤ level e) → AreSteps ss → IsTree (text_stepped e ss) × (6 ≤ level (text_stepped e ss))
unfolding text_stepped
stepped_well e Steps.no_steps w v = (w.0, omega (arith, w.1))
stepped_well e (Steps.index i p ss) w v = ((w.0, w.1, v, refl), omega arith)
stepped_well e (Steps.call es p ss) w v = ((w.0, w.1, v, refl), omega arith)

pub read_stepped : {e : run.Exp} {ss : run.Steps} {a b c : Held} {ts mid rest : List Token} → ReadsExp 7 e a b ts mid
    → ReadsSteps ss b c mid rest → ReadsExp 6 (built.stepped e ss) a c ts rest
read_stepped x y = two exp_sized text_stepped built.stepped stepped_well stepped_tree stepped_part stepped_spelled x y

pub read_no_steps : (h : Held) (ts : List Token) → ReadsSteps run.Steps.no_steps h h ts ts
read_no_steps h ts = record { text = Steps.no_steps; well = tt; runs = refl; adds = after_nothing h; spelled = λ more f. f }

-- ---- parts

only : Exps → Exp
only Exps.no_exps = Exp.name [] nowhere
only (Exps.exp e es) = e

abbrev Single : Exps → Type 0
Single es = AreTrees es × (exps_count es ≡ 1)

-- one part alone
single : (s : Sign) {es : run.Exps} {a b : Held} {ts rest : List Token} → ReadsParts (Shape.Fixed 1 s) es a b ts rest
    → Reads (λ e. IsTree e × (0 ≤ level e)) tree exp_part (λ e more. spell e (sign s ∷ more)) (built.first_part es) a b ts rest
unfolding only
single s x = one only built.first_part well runs adds glue x
  where
    well : (es : Exps) → Single es → IsTree (only es) × (0 ≤ level (only es))
    well Exps.no_exps w = absurd (omega (arith, w.1))
    well (Exps.exp e es) w = (w.0.0, omega arith)

    runs : (n : ℕ) (es : Exps) → Single es → built.first_part (exps_tree n es) ≡ tree n (only es)
    runs n Exps.no_exps w = absurd (omega (arith, w.1))
    runs n (Exps.exp e es) w = refl

    adds : (es : Exps) → Single es → exps_part es ≡ exp_part (only es)
    adds Exps.no_exps w = absurd (omega (arith, w.1))
    adds (Exps.exp e Exps.no_exps) w = both_nothing (exp_part e)
    adds (Exps.exp e (Exps.exp d es)) w = absurd (omega (arith, w.1))

    glue : (es : Exps) → Single es → (more : List Mark) → spell_exps es (sign s ∷ more) ≡ spell (only es) (sign s ∷ more)
    glue Exps.no_exps w more = absurd (omega (arith, w.1))
    glue (Exps.exp e Exps.no_exps) w more = refl
    glue (Exps.exp e (Exps.exp d es)) w more = absurd (omega (arith, w.1))

pub read_formed : (h : Head) (p : Place) {es : run.Exps} {a b : Held} {ts mid rest : List Token} → Spelled (spell_head h p) ts mid
    → ReadsParts (head_shape h) es a b mid rest → ReadsExp 7 (built.formed h p es) a b ts rest
read_formed Head.Parens p f x = one Exp.parens run.Exp.parens (λ s w. (w.0, omega arith)) (λ n s w. refl) (λ s w. refl) (λ s w more. refl)
    (behind (spell_head Head.Parens p) f (single Sign.CloseRound x))
read_formed Head.List p f x = one (Exp.parts Form.list p) (run.Exp.parts Form.list p) (λ s w. (w, omega arith)) (λ n s w. refl) (λ s w. refl)
    (λ s w more. refl) (behind (spell_head Head.List p) f x)
read_formed Head.Dict p f x = one (Exp.parts Form.dict p) (run.Exp.parts Form.dict p) (λ s w. (w, omega arith)) (λ n s w. refl) (λ s w. refl)
    (λ s w more. refl) (behind (spell_head Head.Dict p) f x)
read_formed Head.Spawn p f x = one (Exp.parts Form.spawn p) (run.Exp.parts Form.spawn p) (λ s w. (w, omega arith)) (λ n s w. refl) (λ s w. refl)
    (λ s w more. refl) (behind (spell_head Head.Spawn p) f x)
read_formed Head.SpawnExec p f x = one (Exp.parts Form.spawn_exec p) (run.Exp.parts Form.spawn_exec p) (λ s w. (w, omega arith)) (λ n s w. refl)
    (λ s w. refl) (λ s w more. refl) (behind (spell_head Head.SpawnExec p) f x)
read_formed Head.Exec p f x = one (Exp.parts Form.exec p) (run.Exp.parts Form.exec p) (λ s w. (w, omega arith)) (λ n s w. refl) (λ s w. refl)
    (λ s w more. refl) (behind (spell_head Head.Exec p) f x)
read_formed Head.Ref p f x = one (Exp.parts Form.ref p) (run.Exp.parts Form.ref p) (λ s w. (w, omega arith)) (λ n s w. refl) (λ s w. refl)
    (λ s w more. refl) (behind (spell_head Head.Ref p) f x)
read_formed Head.Len p f x = one (Exp.parts Form.len p) (run.Exp.parts Form.len p) (λ s w. (w, omega arith)) (λ n s w. refl) (λ s w. refl)
    (λ s w more. refl) (behind (spell_head Head.Len p) f x)
read_formed Head.Keys p f x = one (Exp.parts Form.keys p) (run.Exp.parts Form.keys p) (λ s w. (w, omega arith)) (λ n s w. refl) (λ s w. refl)
    (λ s w more. refl) (behind (spell_head Head.Keys p) f x)
read_formed Head.Has p f x = one (Exp.parts Form.has p) (run.Exp.parts Form.has p) (λ s w. (w, omega arith)) (λ n s w. refl) (λ s w. refl)
    (λ s w more. refl) (behind (spell_head Head.Has p) f x)
read_formed Head.Range p f x = one (Exp.parts Form.range p) (run.Exp.parts Form.range p) (λ s w. (w, omega arith)) (λ n s w. refl) (λ s w. refl)
    (λ s w more. refl) (behind (spell_head Head.Range p) f x)

pub read_step : (h : StepHead) (p : Place) {es : run.Exps} {ss : run.Steps} {a b c : Held} {ts us mid rest : List Token}
    → Spelled (λ more. sign_at (step_sign h) p ∷ more) ts us → ReadsParts (step_shape h) es a b us mid → ReadsSteps ss b c mid rest
    → ReadsSteps (built.step_formed h p es ss) a c ts rest
read_step StepHead.Index p f x y =
    two exp_sized (λ e ss. Steps.index e p ss) (λ e ss. run.Steps.index e p ss) (λ s t w v. (w.0, v)) (λ n s t. refl) (λ s t. refl)
    (λ s t more. refl) (behind (λ more. sign_at Sign.OpenSquare p ∷ more) f (single Sign.CloseSquare x)) y
read_step StepHead.Call p f x y =
    two exps_sized (λ es ss. Steps.call es p ss) (λ es ss. run.Steps.call es p ss) (λ s t w v. (w.0, v)) (λ n s t. refl) (λ s t. refl)
    (λ s t more. refl) (behind (λ more. sign_at Sign.OpenRound p ∷ more) f x) y

-- an index behind its bracket
pub read_index : (p : Place) {i : run.Exp} {ss : run.Steps} {a b c : Held} {ts t1 t2 rest : List Token} (u : Token)
    → Fits (sign_at Sign.OpenSquare p) u → ReadsExp 0 i a b ts t1 → Spelled (λ more. sign Sign.CloseSquare ∷ more) t1 t2
    → ReadsSteps ss b c t2 rest → ReadsSteps (run.Steps.index i p ss) a c (u ∷ ts) rest
read_index p {ts = ts} u fit x f y =
    two exp_sized (λ e ss. Steps.index e p ss) (λ e ss. run.Steps.index e p ss) (λ s t w v. (w.0, v)) (λ n s t. refl) (λ s t. refl) (λ s t more. refl)
    (behind (λ more. sign_at Sign.OpenSquare p ∷ more) (at_front (sign_at Sign.OpenSquare p) u ts fit)
    (before (λ more. sign Sign.CloseSquare ∷ more) x f)) y

pub read_no_parts : (h : Shape) (k : Held) (ts rest : List Token) → Has h Exps.no_exps → Spelled (spell_parts h Exps.no_exps) ts rest
    → ReadsParts h run.Exps.no_exps k k ts rest
read_no_parts h k ts rest w f = record { text = Exps.no_exps; well = (tt, w); runs = refl; adds = after_nothing k; spelled = f }

pub read_first : (h : Shape) {e : run.Exp} {es : run.Exps} {a b c : Held} {ts mid rest : List Token} → ReadsExp 0 e a b ts mid
    → ReadsMore h 1 es b c mid rest → ReadsParts h (run.Exps.exp e es) a c ts rest
read_first (Shape.Many s) x y = two exp_sized Exps.exp run.Exps.exp (λ s t w v. ((w.0, v.0), tt)) (λ n s t. refl) (λ s t. refl) (λ s t more. refl) x y
read_first (Shape.Fixed m s) x y = two exp_sized Exps.exp run.Exps.exp (λ s t w v. ((w.0, v.0), omega (arith, v.1))) (λ n s t. refl)
    (λ s t. refl) (λ s t more. refl) x y
read_first Shape.Pairs x y = two exp_sized Exps.exp run.Exps.exp (λ s t w v. ((w.0, v.0), v.1)) (λ n s t. refl) (λ s t. refl) (λ s t more. refl) x y

-- behind so many parts a sign and one more
suc_odd : (n : ℕ) → (n % 2 == 1) ≡ true → (suc n % 2 == 1) ≡ false
suc_odd n h = let e : suc n % 2 ≡ 0 = omega (arith, eqb-true (n % 2) 1 h) in ap (λ (m : ℕ). m == 1) e

suc_even : (n : ℕ) → (n % 2 == 1) ≡ false → (suc n % 2 == 1) ≡ true
suc_even n h = let e : suc n % 2 ≡ 1 = omega (arith, eqb-false (n % 2) 1 h) in ap (λ (m : ℕ). m == 1) e

pairs_glue : (b c : Bool) (s : Exp) (t : Exps) (more : List Mark) → (b ≡ true → c ≡ false) → (b ≡ false → c ≡ true)
    → sign (if b then Sign.Colon else Sign.Comma)
    ∷ spell s (if c then spell_value t (sign Sign.CloseCurly ∷ more) else spell_other_pairs t (sign Sign.CloseCurly ∷ more))
    ≡ (if b then spell_value (Exps.exp s t) (sign Sign.CloseCurly ∷ more) else spell_other_pairs (Exps.exp s t) (sign Sign.CloseCurly ∷ more))
pairs_glue true c s t more f g = rw (f refl) refl
pairs_glue false c s t more f g = rw (g refl) refl

pairs_well : (b c : Bool) (s : Exp) (t : Exps) → (b ≡ true → c ≡ false) → (b ≡ false → c ≡ true) → (if c then valued t else paired t) ≡ true
    → (if b then valued (Exps.exp s t) else paired (Exps.exp s t)) ≡ true
pairs_well true true s t f g w = let e = f refl in absurd cc
pairs_well true false s t f g w = w
pairs_well false true s t f g w = w
pairs_well false false s t f g w = let e = g refl in absurd cc

pub read_more : (h : Shape) (n : ℕ) {e : run.Exp} {es : run.Exps} {a b c : Held} {ts us mid rest : List Token}
    → Spelled (λ more. sign (separator h n) ∷ more) ts us → ReadsExp 0 e a b us mid → ReadsMore h (suc n) es b c mid rest
    → ReadsMore h n (run.Exps.exp e es) a c ts rest
read_more (Shape.Many s) n f x y = two exp_sized Exps.exp run.Exps.exp (λ s t w v. ((w.0, v.0), tt)) (λ n s t. refl) (λ s t. refl)
    (λ s t more. refl) (behind (λ more. sign Sign.Comma ∷ more) f x) y
read_more (Shape.Fixed m s) n f x y = two exp_sized Exps.exp run.Exps.exp (λ s t w v. ((w.0, v.0), omega (arith, v.1))) (λ n s t. refl)
    (λ s t. refl) (λ s t more. refl) (behind (λ more. sign Sign.Comma ∷ more) f x) y
read_more Shape.Pairs n f x y =
    two exp_sized Exps.exp run.Exps.exp (λ s t w v. ((w.0, v.0), pairs_well (n % 2 == 1) (suc n % 2 == 1) s t (suc_odd n) (suc_even n) v.1))
    (λ n s t. refl) (λ s t. refl)
    (λ s t more. pairs_glue (n % 2 == 1) (suc n % 2 == 1) s t more (suc_odd n) (suc_even n))
    (behind (λ more. sign (separator Shape.Pairs n) ∷ more) f x) y

pub read_end : (h : Shape) (n : ℕ) (k : Held) (ts rest : List Token) → ready h n ≡ true → Spelled (λ more. sign (closing h) ∷ more) ts rest
    → ReadsMore h n run.Exps.no_exps k k ts rest
read_end (Shape.Many s) n k ts rest r f = record { text = Exps.no_exps; well = (tt, tt); runs = refl; adds = after_nothing k; spelled = f }
read_end (Shape.Fixed m s) n k ts rest r f =
    record { text = Exps.no_exps; well = (tt, omega (arith, eqb-true n m r)); runs = refl; adds = after_nothing k; spelled = f }
read_end Shape.Pairs n k ts rest r f =
    let even : (n % 2 == 1) ≡ false = ap (λ (m : ℕ). m == 1) (eqb-true (n % 2) 0 r) in
    record { text = Exps.no_exps; well = (tt, rw even refl); runs = refl; adds = after_nothing k; spelled = λ more g. rw even (f more g) }

-- the parts that were read so far
abbrev pub PartsSo : Shape → List Expr → Held → Held → List Token → List Token → Type 0
PartsSo h items a b ts rest = (ys : List Expr) (c : Held) (end : List Token) → ReadsMore h (length items) (exps_view ys) b c rest end
    → ReadsParts h (exps_view (items ++ ys)) a c ts end

pub parts_begun : (h : Shape) (items : List Expr) (e : Expr) (a b : Held) (ts mid : List Token) → items ≡ e ∷ []
    → ReadsExp 0 (exp_view e) a b ts mid → PartsSo h items a b ts mid
parts_begun h items e a b ts mid eq x = subst (λ xs. PartsSo h xs a b ts mid) (sym eq) (λ ys c end y. read_first h x y)

pub parts_next : (h : Shape) (items new : List Expr) (e : Expr) (a b c : Held) (ts rest after next : List Token) → new ≡ items ++ e ∷ []
    → Spelled (λ more. sign (separator h (length items)) ∷ more) rest after → ReadsExp 0 (exp_view e) b c after next
    → PartsSo h items a b ts rest → PartsSo h new a c ts next
parts_next h items new e a b c ts rest after next eq f x so = subst (λ xs. PartsSo h xs a c ts next) (sym eq) (λ ys d end y.
    subst (λ zs. ReadsParts h (exps_view zs) a d ts end) (sym (append_assoc items (e ∷ []) ys))
    (so (e ∷ ys) d end (read_more h (length items) f x
    (subst (λ n. ReadsMore h n (exps_view ys) c d next end) (length-append items (e ∷ []) ∙ add-one (length items)) y))))

pub parts_done : (h : Shape) (items : List Expr) (a b : Held) (ts rest end : List Token) → ready h (length items) ≡ true
    → Spelled (λ more. sign (closing h) ∷ more) rest end → PartsSo h items a b ts rest → ReadsParts h (exps_view items) a b ts end
parts_done h items a b ts rest end r f so = subst (λ zs. ReadsParts h (exps_view zs) a b ts end) (append-nil items)
    (so [] b end (read_end h (length items) b rest end r f))
