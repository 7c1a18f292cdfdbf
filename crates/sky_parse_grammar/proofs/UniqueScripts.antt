-- No two scripts spell the same tokens: statements, functions and the whole.
use Rattle.std.proofs.Common.{◌≡◌, ℕ, ◌≤◌, arith, Bool, true, false, List, [], ◌∷◌, refl, sym, ap, subst, ◌∙◌}
use Rattle.std.specs.Prelude.{if◌then◌else◌}
use Rattle.std.proofs.lemmas.Bool.{false≢true, or_left}
use Rattle.sky_base.specs.Tree.{Place, Lit, Form}
use Rattle.sky_text.specs.declared.token.Sign.{Sign}
use Rattle.sky_text.specs.declared.token.Word.{Word}
use Rattle.sky_text.specs.declared.token.TokenKind.{TokenKind}
use Rattle.sky_parse_grammar.specs.Signs.{is, is_word}
use Rattle.sky_parse_grammar.specs.Grammar.{Mark, Fun, sign, sign_at, word, word_at, name_at, started, spell, spell_links, spell_ands, spell_steps}
use Rattle.sky_parse_grammar.specs.Grammar.{spell_test, spell_block, spell_stm, spell_stms, spell_other_arms, spell_else, spell_fun, IsTree, IsStm, AreStms}
use Rattle.sky_parse_grammar.specs.Grammar.{AreArms, IsElse}
use Rattle.sky_parse_grammar.specs.Tops.{Top, spell_tops, AreTops}
use Rattle.sky_parse_grammar.specs.Machine.{kind}
use Rattle.sky_parse_grammar.specs.Laws.{OneScript}
use Rattle.sky_parse_grammar.proofs.Operands.{Closes, round, square, semicolon, closes_stop, first}
use Rattle.sky_parse_grammar.proofs.Statements.{outer, begins_outer, exp_inner, stm_inner, stops_assign, at_square, Behind, other, behind_stops}
use Rattle.sky_parse_grammar.proofs.Statements.{links_behind, ands_behind, steps_behind, ends_block, at_else, stms_not_else, at_round, starts_stmt}
use Rattle.sky_parse_grammar.proofs.Statements.{stm_starts}
use Rattle.sky_parse_grammar.proofs.Complete.{index_read, tops_not_else}
use Rattle.sky_parse_grammar.proofs.Aligned.{Both, swap, heads, peel, same_kind, same_place, no_end, unstarted, exp_peel, stms_peel, stm_peel}
use Rattle.sky_parse_grammar.proofs.UniqueExpressions.{apart, UniqueAt, UniqueStms, unique_params}
use Rattle.sky_parse_grammar.proofs.UniqueChains.{unique_all}
use Rattle.sky_parse_grammar.specs.Source.{Exp, Stm, Stms, Arms, Else, weight, stm_weight, stms_weight, arms_weight, else_weight}
use Rattle.sky_parse_grammar.specs.declared.level.Level.{Level}

after_exp : {e d : Exp} {a b : List Mark} → e ≡ d → Both (spell e a) (spell d b) → Both a b
after_exp {e = e} {d = d} {a = a} {b = b} same h = exp_peel e (subst (λ (x : Exp). Both (spell e a) (spell x b)) (sym same) h)

after_stms : {ss rs : Stms} {a b : List Mark} → ss ≡ rs → Both (spell_stms ss a) (spell_stms rs b) → Both a b
after_stms {ss = ss} {rs = rs} {a = a} {b = b} same h = stms_peel ss (subst (λ (x : Stms). Both (spell_stms ss a) (spell_stms x b)) (sym same) h)

after_stm : {s r : Stm} {a b : List Mark} → s ≡ r → Both (spell_stm s a) (spell_stm r b) → Both a b
after_stm {s = s} {r = r} {a = a} {b = b} same h = stm_peel s (subst (λ (x : Stm). Both (spell_stm s a) (spell_stm x b)) (sym same) h)

same_name : {x y : List ℕ} {p q : Place} {a b : List Mark} → Both (name_at x p ∷ a) (name_at y q ∷ b) → x ≡ y
same_name h = let e = same_kind h in cc

-- an expression and what closes it
unique_closed : (n : ℕ) → UniqueAt n Level.Either → {z : Sign} → Closes z → (e d : Exp) → IsTree e → IsTree d → weight e ≤ n → (a b : List Mark)
    → Both (spell e (sign z ∷ a)) (spell d (sign z ∷ b)) → e ≡ d
unique_closed n u {z = z} c e d t r w a b h = u e d t r (omega arith) (omega arith) w (sign z ∷ a) (sign z ∷ b) (closes_stop c a) (closes_stop c b) h

unique_test : (n : ℕ) → UniqueAt n Level.Either → (e d : Exp) → IsTree e → IsTree d → weight e ≤ n → (a b : List Mark)
    → Both (spell_test e a) (spell_test d b) → (e ≡ d) × Both a b
unique_test n u e d t r w a b h = let same = unique_closed n u round e d t r w a b (peel h) in (same, peel (after_exp same (peel h)))

-- A statement begins with no sign or word that is not its own.
not_inner : (m : Mark) (a ms : List Mark) → outer (kind m) ≡ true → begins_outer ms ≡ false → Both (m ∷ a) ms → ⊥
not_inner m a [] e f h = no_end (swap h)
not_inner m a (k ∷ ms) e f h = false≢true (sym f ∙ ap outer (sym (same_kind h)) ∙ e)

not_empty : (ms : List Mark) → begins_outer ms ≡ false → Both [] ms → ⊥
not_empty [] f h = absurd cc
not_empty (m ∷ ms) f h = no_end h

not_end : (a ms : List Mark) → ends_block a ≡ true → begins_outer ms ≡ false → Both a ms → ⊥
not_end [] ms e f h = not_empty ms f h
not_end (m ∷ a) ms e f h = not_inner m a ms (or_left (is Sign.CloseCurly (kind m)) (is_word Word.Else (kind m)) e) f h

not_else : (a b : List Mark) → at_else a ≡ false → Both a (word Word.Else ∷ b) → ⊥
not_else [] b e h = no_end h
not_else (m ∷ a) b e h = false≢true (sym e ∙ ap (is_word Word.Else) (same_kind h))

abbrev stmt_kind : TokenKind → Bool
stmt_kind (TokenKind.Word Word.Return) = true
stmt_kind (TokenKind.Word Word.If) = true
stmt_kind (TokenKind.Word Word.While) = true
stmt_kind (TokenKind.Word Word.Do) = true
stmt_kind (TokenKind.Word Word.For) = true
stmt_kind k = false

abbrev stmt_first : List Mark → Bool
stmt_first [] = false
stmt_first (m ∷ ms) = stmt_kind (kind m)

exp_first : (e : Exp) → IsTree e → (more : List Mark) → stmt_first (spell e more) ≡ false
exp_first (Exp.literal Lit.null p) t more = refl
exp_first (Exp.literal (Lit.truth true) p) t more = refl
exp_first (Exp.literal (Lit.truth false) p) t more = refl
exp_first (Exp.literal (Lit.num z) p) t more = refl
exp_first (Exp.literal (Lit.text x) p) t more = refl
exp_first (Exp.name x p) t more = refl
exp_first (Exp.func p xs b) t more = refl
exp_first (Exp.parens e) t more = refl
exp_first (Exp.parts Form.list p es) t more = refl
exp_first (Exp.parts Form.dict p es) t more = refl
exp_first (Exp.parts Form.spawn p es) t more = refl
exp_first (Exp.parts Form.spawn_exec p es) t more = refl
exp_first (Exp.parts Form.exec p es) t more = refl
exp_first (Exp.parts Form.ref p es) t more = refl
exp_first (Exp.parts Form.len p es) t more = refl
exp_first (Exp.parts Form.keys p es) t more = refl
exp_first (Exp.parts Form.has p es) t more = refl
exp_first (Exp.parts Form.range p es) t more = refl
exp_first (Exp.chain e ls) t more = exp_first e t.0 (spell_links ls more)
exp_first (Exp.logic j e ls) t more = exp_first e t.0 (spell_ands j ls more)
exp_first (Exp.prefix [] e) t more = absurd (false≢true t.2)
exp_first (Exp.prefix (s ∷ ss) e) t more = refl
exp_first (Exp.postfix e ss) t more = exp_first e t.0 (spell_steps ss more)

just_not_word : (p : Place) (x : List Mark) (m : Mark) (b : List Mark) → stmt_first x ≡ false → stmt_kind (kind m) ≡ true
    → Both (started p x) (m ∷ b) → ⊥
just_not_word p [] m b f g h = no_end h
just_not_word p (k ∷ x) m b f g h = false≢true (sym f ∙ ap stmt_kind (same_kind h) ∙ g)

-- what stands behind a name that begins an expression
named_behind : (n : ℕ) (e : Exp) → IsTree e → weight e ≤ n → (more : List Mark) → Behind n more → (x : List ℕ) (q : Place) (rest : List Mark)
    → Both (spell e more) (name_at x q ∷ rest) → (ms : List Mark) × Behind n ms × Both ms rest
named_behind n (Exp.literal Lit.null p) t w more b x q rest h = let k = same_kind h in absurd cc
named_behind n (Exp.literal (Lit.truth true) p) t w more b x q rest h = let k = same_kind h in absurd cc
named_behind n (Exp.literal (Lit.truth false) p) t w more b x q rest h = let k = same_kind h in absurd cc
named_behind n (Exp.literal (Lit.num z) p) t w more b x q rest h = let k = same_kind h in absurd cc
named_behind n (Exp.literal (Lit.text y) p) t w more b x q rest h = let k = same_kind h in absurd cc
named_behind n (Exp.name y p) t w more b x q rest h = (more, b, peel h)
named_behind n (Exp.func p xs y) t w more b x q rest h = let k = same_kind h in absurd cc
named_behind n (Exp.parens e) t w more b x q rest h = let k = same_kind h in absurd cc
named_behind n (Exp.parts Form.list p es) t w more b x q rest h = let k = same_kind h in absurd cc
named_behind n (Exp.parts Form.dict p es) t w more b x q rest h = let k = same_kind h in absurd cc
named_behind n (Exp.parts Form.spawn p es) t w more b x q rest h = let k = same_kind h in absurd cc
named_behind n (Exp.parts Form.spawn_exec p es) t w more b x q rest h = let k = same_kind h in absurd cc
named_behind n (Exp.parts Form.exec p es) t w more b x q rest h = let k = same_kind h in absurd cc
named_behind n (Exp.parts Form.ref p es) t w more b x q rest h = let k = same_kind h in absurd cc
named_behind n (Exp.parts Form.len p es) t w more b x q rest h = let k = same_kind h in absurd cc
named_behind n (Exp.parts Form.keys p es) t w more b x q rest h = let k = same_kind h in absurd cc
named_behind n (Exp.parts Form.has p es) t w more b x q rest h = let k = same_kind h in absurd cc
named_behind n (Exp.parts Form.range p es) t w more b x q rest h = let k = same_kind h in absurd cc
named_behind n (Exp.chain e ls) t w more b x q rest h =
    named_behind n e t.0 (omega (arith, w)) (spell_links ls more) (links_behind n ls more b) x q rest h
named_behind n (Exp.logic j e ls) t w more b x q rest h =
    named_behind n e t.0 (omega (arith, w)) (spell_ands j ls more) (ands_behind n j ls more b) x q rest h
named_behind n (Exp.prefix [] e) t w more b x q rest h = absurd (false≢true t.2)
named_behind n (Exp.prefix (s ∷ ss) e) t w more b x q rest h = let k = same_kind h in absurd cc
named_behind n (Exp.postfix e ss) t w more b x q rest h =
    named_behind n e t.0 (omega (arith, w)) (spell_steps ss more) (steps_behind n ss t.2 (omega (arith, w)) (index_read ss t.2) more b) x q rest
    h

no_assign : (ms : List Mark) (m : Mark) (rest : List Mark) → stops_assign ms ≡ true → stops_assign (m ∷ rest) ≡ false → Both ms (m ∷ rest) → ⊥
no_assign [] m rest s f h = no_end h
no_assign (k ∷ ms) m rest s f h = false≢true
    (sym f ∙ ap (λ (d : TokenKind). if is Sign.Assign d then false else if is Sign.AddAssign d then false else true) (sym (same_kind h)) ∙ s)

no_square : (ms : List Mark) (p : Place) (rest : List Mark) → at_square ms ≡ false → Both ms (sign_at Sign.OpenSquare p ∷ rest) → ⊥
no_square [] p rest f h = no_end h
no_square (m ∷ ms) p rest f h = false≢true (sym f ∙ ap (is Sign.OpenSquare) (same_kind h))

unstart_left : (p : Place) {x b : List Mark} → Both (started p x) b → Both x b
unstart_left p {x = x} h = record { rest = h.rest; left = unstarted p x h.rest h.left; right = h.right }

just_behind : (n : ℕ) (p : Place) (e : Exp) → IsTree e → weight e ≤ n → (a : List Mark) (x : List ℕ) (q : Place) (rest : List Mark)
    → Both (spell_stm (Stm.just p e) a) (name_at x q ∷ rest) → (ms : List Mark) × Behind n ms × Both ms rest
just_behind n p e t w a x q rest h = named_behind n e t w (sign Sign.Semicolon ∷ a) (other (sign Sign.Semicolon ∷ a) refl refl) x q rest
    (unstart_left p h)

just_not_set : (p : Place) (e : Exp) → IsTree e → (a : List Mark) (x : List ℕ) (q : Place) (m : Mark) (rest : List Mark)
    → stops_assign (m ∷ rest) ≡ false → Both (spell_stm (Stm.just p e) a) (name_at x q ∷ m ∷ rest) → ⊥
just_not_set p e t a x q m rest f h = let y = just_behind (weight e) p e t (omega arith) a x q (m ∷ rest) h in
    no_assign y.0 m rest (behind_stops (weight e) y.1) f y.2

-- an index that begins an expression statement is that of an assignment, if they spell the same
abbrev SameIndex : ℕ → Exp → List Mark → Type 0
SameIndex n i rest = (j : Exp) (ms : List Mark) → IsTree j → weight j ≤ n
    → Both (spell j (sign Sign.CloseSquare ∷ ms)) (spell i (sign Sign.CloseSquare ∷ rest)) → j ≡ i

not_put : (n : ℕ) {ms : List Mark} → Behind n ms → (q : Place) (i : Exp) (rest : List Mark) → SameIndex n i (sign Sign.Assign ∷ rest)
    → Both ms (sign_at Sign.OpenSquare q ∷ spell i (sign Sign.CloseSquare ∷ sign Sign.Assign ∷ rest)) → ⊥
not_put n (Behind.other ms s o) q i rest u h = no_square ms q (spell i (sign Sign.CloseSquare ∷ sign Sign.Assign ∷ rest)) o h
not_put n (Behind.index j p ms r w c s) q i rest u h =
    let same = u j ms r w (peel h) in
    no_assign ms (sign Sign.Assign) rest s refl (peel (after_exp same (peel h)))

just_not_put : (n : ℕ) (p : Place) (e : Exp) → IsTree e → weight e ≤ n → (a : List Mark) (x : List ℕ) (q o : Place) (i : Exp) (rest : List Mark)
    → SameIndex n i (sign Sign.Assign ∷ rest) → Both (spell_stm (Stm.just p e) a)
    (name_at x q ∷ sign_at Sign.OpenSquare o ∷ spell i (sign Sign.CloseSquare ∷ sign Sign.Assign ∷ rest)) → ⊥
just_not_put n p e t w a x q o i rest u h = let y =
    just_behind n p e t w a x q (sign_at Sign.OpenSquare o ∷ spell i (sign Sign.CloseSquare ∷ sign Sign.Assign ∷ rest)) h in
    not_put n y.1 o i rest u y.2

starts_same : (p q : Place) (x y : List Mark) → begins_outer x ≡ false → Both (started p x) (started q y) → p ≡ q
starts_same p q [] y f h = absurd cc
starts_same p q (m ∷ x) [] f h = absurd (no_end (swap h))
starts_same p q (m ∷ x) (n ∷ y) f h = let k = heads h in k.1.0 ∙ sym (k.2.0)

unstart_both : (p q : Place) {x y : List Mark} → Both (started p x) (started q y) → Both x y
unstart_both p q {x = x} {y = y} h = record { rest = h.rest; left = unstarted p x h.rest h.left; right = unstarted q y h.rest h.right }

-- the first word of a choice, with the place of the choice and of the arm
if_places : {p q r s : Place} {a b : List Mark} → Both (Mark.also p (word_at Word.If r) ∷ a) (Mark.also q (word_at Word.If s) ∷ b) → (p ≡ q) × (r ≡ s)
if_places h = let k = heads h in (k.1.0 ∙ sym (k.2.0), k.1.1.1 ∙ sym (k.2.1.1))

mutual
  unique_stm : (n : ℕ) → UniqueAt n Level.Either → (s r : Stm) → IsStm s → IsStm r → stm_weight s ≤ n → (a b : List Mark) → at_else a ≡ false
      → at_else b ≡ false → Both (spell_stm s a) (spell_stm r b) → s ≡ r
  unique_stm n u (Stm.set x p e) (Stm.set x2 p2 e2) t r w a b f g h =
      let same = unique_closed n u semicolon e e2 t r (omega (arith, w)) a b (peel (peel h)) in
      let ex = same_name h in
      let ep = same_place h in
      λ i. Stm.set (ex i) (ep i) (same i)
  unique_stm n u (Stm.add x q p e) (Stm.add x2 q2 p2 e2) t r w a b f g h =
      let same = unique_closed n u semicolon e e2 t r (omega (arith, w)) a b (peel (peel h)) in
      let ex = same_name h in
      let eq = same_place h in
      let ep = same_place (peel h) in
      λ i. Stm.add (ex i) (eq i) (ep i) (same i)
  unique_stm n u (Stm.put x q p i e) (Stm.put x2 q2 p2 i2 e2) t r w a b f g h =
      let k = peel (peel h) in
      let at = unique_closed n u square i i2 t.0 r.0 (omega (arith, w)) (sign Sign.Assign ∷ spell e (sign Sign.Semicolon ∷ a))
      (sign Sign.Assign ∷ spell e2 (sign Sign.Semicolon ∷ b)) k in
      let same = unique_closed n u semicolon e e2 t.1 r.1 (omega (arith, w)) a b (peel (peel (after_exp at k))) in
      let ex = same_name h in
      let eq = same_place h in
      let ep = same_place (peel h) in
      λ j. Stm.put (ex j) (eq j) (ep j) (at j) (same j)
  unique_stm n u (Stm.return p e) (Stm.return p2 e2) t r w a b f g h =
      let same = unique_closed n u semicolon e e2 t r (omega (arith, w)) a b (peel h) in
      let ep = same_place h in
      λ i. Stm.return (ep i) (same i)
  unique_stm n u (Stm.leave p) (Stm.leave p2) t r w a b f g h =
      let ep = same_place h in ap Stm.leave ep
  unique_stm n u (Stm.cases p (Arms.arm q e b0 arms) els) (Stm.cases p2 (Arms.arm q2 e2 b02 arms2) els2) t r w a b f g h =
      let rest = spell_other_arms arms (spell_else els a) in
      let rest2 = spell_other_arms arms2 (spell_else els2 b) in
      let places = if_places h in
      let test = unique_test n u e e2 t.0.0 r.0.0 (omega (arith, w)) (spell_block b0 rest) (spell_block b02 rest2) (peel h) in
      let body = unique_stms n u b0 b02 t.0.1 r.0.1 (omega (arith, w)) (sign Sign.CloseCurly ∷ rest) (sign Sign.CloseCurly ∷ rest2) refl refl
      (peel test.1) in
      let later : Both rest rest2 = peel (after_stms body (peel test.1)) in
      let more = unique_arms n u arms arms2 els els2 t.0.2 r.0.2 (omega (arith, w)) a b f g
      (unique_else n u els els2 t.2 r.2 (omega (arith, w)) a b f g) later in
      λ i. Stm.cases (places.0 i) (Arms.arm (places.1 i) (test.0 i) (body i) (more.0 i)) (more.1 i)
  unique_stm n u (Stm.while p e b0) (Stm.while p2 e2 b02) t r w a b f g h =
      let test = unique_test n u e e2 t.0 r.0 (omega (arith, w)) (spell_block b0 a) (spell_block b02 b) (peel h) in
      let body = unique_stms n u b0 b02 t.1 r.1 (omega (arith, w)) (sign Sign.CloseCurly ∷ a) (sign Sign.CloseCurly ∷ b) refl refl (peel test.1) in
      let ep = same_place h in
      λ i. Stm.while (ep i) (test.0 i) (body i)
  unique_stm n u (Stm.repeat p b0 e) (Stm.repeat p2 b02 e2) t r w a b f g h =
      let rest = word Word.While ∷ spell_test e (sign Sign.Semicolon ∷ a) in
      let rest2 = word Word.While ∷ spell_test e2 (sign Sign.Semicolon ∷ b) in
      let k = peel (peel h) in
      let body = unique_stms n u b0 b02 t.0 r.0 (omega (arith, w)) (sign Sign.CloseCurly ∷ rest) (sign Sign.CloseCurly ∷ rest2) refl refl k in
      let test = unique_test n u e e2 t.1 r.1 (omega (arith, w)) (sign Sign.Semicolon ∷ a) (sign Sign.Semicolon ∷ b)
      (peel (peel (after_stms body k))) in
      let ep = same_place h in
      λ i. Stm.repeat (ep i) (body i) (test.0 i)
  unique_stm n u (Stm.for p x e b0) (Stm.for p2 x2 e2 b02) t r w a b f g h =
      let k = peel (peel h) in
      let ex : x ≡ x2 = let n = same_kind k in cc in
      let each = unique_closed n u round e e2 t.0 r.0 (omega (arith, w)) (spell_block b0 a) (spell_block b02 b) (peel (peel k)) in
      let inside = peel (peel (after_exp each (peel (peel k)))) in
      let body = unique_stms n u b0 b02 t.1 r.1 (omega (arith, w)) (sign Sign.CloseCurly ∷ a) (sign Sign.CloseCurly ∷ b) refl refl inside in
      let ep = same_place h in
      λ i. Stm.for (ep i) (ex i) (each i) (body i)
  unique_stm n u (Stm.just p e) (Stm.just p2 e2) t r w a b f g h =
      let same = unique_closed n u semicolon e e2 t r (omega (arith, w)) a b (unstart_both p p2 h) in
      let ep = starts_same p p2 (spell e (sign Sign.Semicolon ∷ a)) (spell e2 (sign Sign.Semicolon ∷ b))
      (exp_inner e t (sign Sign.Semicolon ∷ a)) h in
      λ i. Stm.just (ep i) (same i)
  unique_stm n u (Stm.cases p Arms.no_arms els) s t r w a b f g h = absurd (false≢true t.1)
  unique_stm n u s (Stm.cases p Arms.no_arms els) t r w a b f g h = absurd (false≢true r.1)
  unique_stm n u (Stm.set x p e) (Stm.add x2 q2 p2 e2) t r w a b f g h = let k = same_kind (peel h) in absurd cc
  unique_stm n u (Stm.set x p e) (Stm.put x2 q2 p2 i2 e2) t r w a b f g h = let k = same_kind (peel h) in absurd cc
  unique_stm n u (Stm.set x p e) (Stm.return p2 e2) t r w a b f g h = let k = same_kind h in absurd cc
  unique_stm n u (Stm.set x p e) (Stm.leave p2) t r w a b f g h = let k = same_kind h in absurd cc
  unique_stm n u (Stm.set x p e) (Stm.cases p2 (Arms.arm q2 e2 b02 arms2) els2) t r w a b f g h = let k = same_kind h in absurd cc
  unique_stm n u (Stm.set x p e) (Stm.while p2 e2 b02) t r w a b f g h = let k = same_kind h in absurd cc
  unique_stm n u (Stm.set x p e) (Stm.repeat p2 b02 e2) t r w a b f g h = let k = same_kind h in absurd cc
  unique_stm n u (Stm.set x p e) (Stm.for p2 x2 e2 b02) t r w a b f g h = let k = same_kind h in absurd cc
  unique_stm n u (Stm.set x p e) (Stm.just p2 e2) t r w a b f g h = absurd (just_not_set p2 e2 r b x p (sign Sign.Assign) _ refl (swap h))
  unique_stm n u (Stm.add x q p e) (Stm.set x2 p2 e2) t r w a b f g h = let k = same_kind (peel h) in absurd cc
  unique_stm n u (Stm.add x q p e) (Stm.put x2 q2 p2 i2 e2) t r w a b f g h = let k = same_kind (peel h) in absurd cc
  unique_stm n u (Stm.add x q p e) (Stm.return p2 e2) t r w a b f g h = let k = same_kind h in absurd cc
  unique_stm n u (Stm.add x q p e) (Stm.leave p2) t r w a b f g h = let k = same_kind h in absurd cc
  unique_stm n u (Stm.add x q p e) (Stm.cases p2 (Arms.arm q2 e2 b02 arms2) els2) t r w a b f g h = let k = same_kind h in absurd cc
  unique_stm n u (Stm.add x q p e) (Stm.while p2 e2 b02) t r w a b f g h = let k = same_kind h in absurd cc
  unique_stm n u (Stm.add x q p e) (Stm.repeat p2 b02 e2) t r w a b f g h = let k = same_kind h in absurd cc
  unique_stm n u (Stm.add x q p e) (Stm.for p2 x2 e2 b02) t r w a b f g h = let k = same_kind h in absurd cc
  unique_stm n u (Stm.add x q p e) (Stm.just p2 e2) t r w a b f g h = absurd (just_not_set p2 e2 r b x q (sign_at Sign.AddAssign p) _ refl (swap h))
  unique_stm n u (Stm.put x q p i e) (Stm.set x2 p2 e2) t r w a b f g h = let k = same_kind (peel h) in absurd cc
  unique_stm n u (Stm.put x q p i e) (Stm.add x2 q2 p2 e2) t r w a b f g h = let k = same_kind (peel h) in absurd cc
  unique_stm n u (Stm.put x q p i e) (Stm.return p2 e2) t r w a b f g h = let k = same_kind h in absurd cc
  unique_stm n u (Stm.put x q p i e) (Stm.leave p2) t r w a b f g h = let k = same_kind h in absurd cc
  unique_stm n u (Stm.put x q p i e) (Stm.cases p2 (Arms.arm q2 e2 b02 arms2) els2) t r w a b f g h = let k = same_kind h in absurd cc
  unique_stm n u (Stm.put x q p i e) (Stm.while p2 e2 b02) t r w a b f g h = let k = same_kind h in absurd cc
  unique_stm n u (Stm.put x q p i e) (Stm.repeat p2 b02 e2) t r w a b f g h = let k = same_kind h in absurd cc
  unique_stm n u (Stm.put x q p i e) (Stm.for p2 x2 e2 b02) t r w a b f g h = let k = same_kind h in absurd cc
  unique_stm n u (Stm.put x q p i e) (Stm.just p2 e2) t r w a b f g h =
      absurd (just_not_put (weight e2) p2 e2 r (omega arith) b x q p i _
      (λ j ms tj wj k. sym (unique_closed n u square i j t.0 tj (omega (arith, w)) _ ms (swap k))) (swap h))
  unique_stm n u (Stm.return p e) (Stm.set x2 p2 e2) t r w a b f g h = let k = same_kind h in absurd cc
  unique_stm n u (Stm.return p e) (Stm.add x2 q2 p2 e2) t r w a b f g h = let k = same_kind h in absurd cc
  unique_stm n u (Stm.return p e) (Stm.put x2 q2 p2 i2 e2) t r w a b f g h = let k = same_kind h in absurd cc
  unique_stm n u (Stm.return p e) (Stm.leave p2) t r w a b f g h =
      absurd (apart (spell e (sign Sign.Semicolon ∷ a)) b (first semicolon e t (sign Sign.Semicolon ∷ a)) (peel h))
  unique_stm n u (Stm.return p e) (Stm.cases p2 (Arms.arm q2 e2 b02 arms2) els2) t r w a b f g h = let k = same_kind h in absurd cc
  unique_stm n u (Stm.return p e) (Stm.while p2 e2 b02) t r w a b f g h = let k = same_kind h in absurd cc
  unique_stm n u (Stm.return p e) (Stm.repeat p2 b02 e2) t r w a b f g h = let k = same_kind h in absurd cc
  unique_stm n u (Stm.return p e) (Stm.for p2 x2 e2 b02) t r w a b f g h = let k = same_kind h in absurd cc
  unique_stm n u (Stm.return p e) (Stm.just p2 e2) t r w a b f g h =
      absurd (just_not_word p2 (spell e2 (sign Sign.Semicolon ∷ b)) (word_at Word.Return p) _ (exp_first e2 r (sign Sign.Semicolon ∷ b)) refl
      (swap h))
  unique_stm n u (Stm.leave p) (Stm.set x2 p2 e2) t r w a b f g h = let k = same_kind h in absurd cc
  unique_stm n u (Stm.leave p) (Stm.add x2 q2 p2 e2) t r w a b f g h = let k = same_kind h in absurd cc
  unique_stm n u (Stm.leave p) (Stm.put x2 q2 p2 i2 e2) t r w a b f g h = let k = same_kind h in absurd cc
  unique_stm n u (Stm.leave p) (Stm.return p2 e2) t r w a b f g h =
      absurd (apart (spell e2 (sign Sign.Semicolon ∷ b)) a (first semicolon e2 r (sign Sign.Semicolon ∷ b)) (swap (peel h)))
  unique_stm n u (Stm.leave p) (Stm.cases p2 (Arms.arm q2 e2 b02 arms2) els2) t r w a b f g h = let k = same_kind h in absurd cc
  unique_stm n u (Stm.leave p) (Stm.while p2 e2 b02) t r w a b f g h = let k = same_kind h in absurd cc
  unique_stm n u (Stm.leave p) (Stm.repeat p2 b02 e2) t r w a b f g h = let k = same_kind h in absurd cc
  unique_stm n u (Stm.leave p) (Stm.for p2 x2 e2 b02) t r w a b f g h = let k = same_kind h in absurd cc
  unique_stm n u (Stm.leave p) (Stm.just p2 e2) t r w a b f g h =
      absurd (just_not_word p2 (spell e2 (sign Sign.Semicolon ∷ b)) (word_at Word.Return p) _ (exp_first e2 r (sign Sign.Semicolon ∷ b)) refl
      (swap h))
  unique_stm n u (Stm.cases p (Arms.arm q e b0 arms) els) (Stm.set x2 p2 e2) t r w a b f g h = let k = same_kind h in absurd cc
  unique_stm n u (Stm.cases p (Arms.arm q e b0 arms) els) (Stm.add x2 q2 p2 e2) t r w a b f g h = let k = same_kind h in absurd cc
  unique_stm n u (Stm.cases p (Arms.arm q e b0 arms) els) (Stm.put x2 q2 p2 i2 e2) t r w a b f g h = let k = same_kind h in absurd cc
  unique_stm n u (Stm.cases p (Arms.arm q e b0 arms) els) (Stm.return p2 e2) t r w a b f g h = let k = same_kind h in absurd cc
  unique_stm n u (Stm.cases p (Arms.arm q e b0 arms) els) (Stm.leave p2) t r w a b f g h = let k = same_kind h in absurd cc
  unique_stm n u (Stm.cases p (Arms.arm q e b0 arms) els) (Stm.while p2 e2 b02) t r w a b f g h = let k = same_kind h in absurd cc
  unique_stm n u (Stm.cases p (Arms.arm q e b0 arms) els) (Stm.repeat p2 b02 e2) t r w a b f g h = let k = same_kind h in absurd cc
  unique_stm n u (Stm.cases p (Arms.arm q e b0 arms) els) (Stm.for p2 x2 e2 b02) t r w a b f g h = let k = same_kind h in absurd cc
  unique_stm n u (Stm.cases p (Arms.arm q e b0 arms) els) (Stm.just p2 e2) t r w a b f g h =
      absurd (just_not_word p2 (spell e2 (sign Sign.Semicolon ∷ b)) (Mark.also p (word_at Word.If q)) _
      (exp_first e2 r (sign Sign.Semicolon ∷ b)) refl (swap h))
  unique_stm n u (Stm.while p e b0) (Stm.set x2 p2 e2) t r w a b f g h = let k = same_kind h in absurd cc
  unique_stm n u (Stm.while p e b0) (Stm.add x2 q2 p2 e2) t r w a b f g h = let k = same_kind h in absurd cc
  unique_stm n u (Stm.while p e b0) (Stm.put x2 q2 p2 i2 e2) t r w a b f g h = let k = same_kind h in absurd cc
  unique_stm n u (Stm.while p e b0) (Stm.return p2 e2) t r w a b f g h = let k = same_kind h in absurd cc
  unique_stm n u (Stm.while p e b0) (Stm.leave p2) t r w a b f g h = let k = same_kind h in absurd cc
  unique_stm n u (Stm.while p e b0) (Stm.cases p2 (Arms.arm q2 e2 b02 arms2) els2) t r w a b f g h = let k = same_kind h in absurd cc
  unique_stm n u (Stm.while p e b0) (Stm.repeat p2 b02 e2) t r w a b f g h = let k = same_kind h in absurd cc
  unique_stm n u (Stm.while p e b0) (Stm.for p2 x2 e2 b02) t r w a b f g h = let k = same_kind h in absurd cc
  unique_stm n u (Stm.while p e b0) (Stm.just p2 e2) t r w a b f g h =
      absurd (just_not_word p2 (spell e2 (sign Sign.Semicolon ∷ b)) (word_at Word.While p) _ (exp_first e2 r (sign Sign.Semicolon ∷ b)) refl
      (swap h))
  unique_stm n u (Stm.repeat p b0 e) (Stm.set x2 p2 e2) t r w a b f g h = let k = same_kind h in absurd cc
  unique_stm n u (Stm.repeat p b0 e) (Stm.add x2 q2 p2 e2) t r w a b f g h = let k = same_kind h in absurd cc
  unique_stm n u (Stm.repeat p b0 e) (Stm.put x2 q2 p2 i2 e2) t r w a b f g h = let k = same_kind h in absurd cc
  unique_stm n u (Stm.repeat p b0 e) (Stm.return p2 e2) t r w a b f g h = let k = same_kind h in absurd cc
  unique_stm n u (Stm.repeat p b0 e) (Stm.leave p2) t r w a b f g h = let k = same_kind h in absurd cc
  unique_stm n u (Stm.repeat p b0 e) (Stm.cases p2 (Arms.arm q2 e2 b02 arms2) els2) t r w a b f g h = let k = same_kind h in absurd cc
  unique_stm n u (Stm.repeat p b0 e) (Stm.while p2 e2 b02) t r w a b f g h = let k = same_kind h in absurd cc
  unique_stm n u (Stm.repeat p b0 e) (Stm.for p2 x2 e2 b02) t r w a b f g h = let k = same_kind h in absurd cc
  unique_stm n u (Stm.repeat p b0 e) (Stm.just p2 e2) t r w a b f g h =
      absurd (just_not_word p2 (spell e2 (sign Sign.Semicolon ∷ b)) (word_at Word.Do p) _ (exp_first e2 r (sign Sign.Semicolon ∷ b)) refl
      (swap h))
  unique_stm n u (Stm.for p x e b0) (Stm.set x2 p2 e2) t r w a b f g h = let k = same_kind h in absurd cc
  unique_stm n u (Stm.for p x e b0) (Stm.add x2 q2 p2 e2) t r w a b f g h = let k = same_kind h in absurd cc
  unique_stm n u (Stm.for p x e b0) (Stm.put x2 q2 p2 i2 e2) t r w a b f g h = let k = same_kind h in absurd cc
  unique_stm n u (Stm.for p x e b0) (Stm.return p2 e2) t r w a b f g h = let k = same_kind h in absurd cc
  unique_stm n u (Stm.for p x e b0) (Stm.leave p2) t r w a b f g h = let k = same_kind h in absurd cc
  unique_stm n u (Stm.for p x e b0) (Stm.cases p2 (Arms.arm q2 e2 b02 arms2) els2) t r w a b f g h = let k = same_kind h in absurd cc
  unique_stm n u (Stm.for p x e b0) (Stm.while p2 e2 b02) t r w a b f g h = let k = same_kind h in absurd cc
  unique_stm n u (Stm.for p x e b0) (Stm.repeat p2 b02 e2) t r w a b f g h = let k = same_kind h in absurd cc
  unique_stm n u (Stm.for p x e b0) (Stm.just p2 e2) t r w a b f g h =
      absurd (just_not_word p2 (spell e2 (sign Sign.Semicolon ∷ b)) (word_at Word.For p) _ (exp_first e2 r (sign Sign.Semicolon ∷ b)) refl
      (swap h))
  unique_stm n u (Stm.just p e) (Stm.set x2 p2 e2) t r w a b f g h = absurd (just_not_set p e t a x2 p2 (sign Sign.Assign) _ refl h)
  unique_stm n u (Stm.just p e) (Stm.add x2 q2 p2 e2) t r w a b f g h = absurd (just_not_set p e t a x2 q2 (sign_at Sign.AddAssign p2) _ refl h)
  unique_stm n u (Stm.just p e) (Stm.put x2 q2 p2 i2 e2) t r w a b f g h =
      absurd (just_not_put n p e t (omega (arith, w)) a x2 q2 p2 i2 _ (λ j ms tj wj k. unique_closed n u square j i2 tj r.0 wj ms _ k) h)
  unique_stm n u (Stm.just p e) (Stm.return p2 e2) t r w a b f g h =
      absurd (just_not_word p (spell e (sign Sign.Semicolon ∷ a)) (word_at Word.Return p2) _ (exp_first e t (sign Sign.Semicolon ∷ a)) refl h)
  unique_stm n u (Stm.just p e) (Stm.leave p2) t r w a b f g h =
      absurd (just_not_word p (spell e (sign Sign.Semicolon ∷ a)) (word_at Word.Return p2) _ (exp_first e t (sign Sign.Semicolon ∷ a)) refl h)
  unique_stm n u (Stm.just p e) (Stm.cases p2 (Arms.arm q2 e2 b02 arms2) els2) t r w a b f g h =
      absurd (just_not_word p (spell e (sign Sign.Semicolon ∷ a)) (Mark.also p2 (word_at Word.If q2)) _ (exp_first e t (sign Sign.Semicolon ∷ a))
      refl h)
  unique_stm n u (Stm.just p e) (Stm.while p2 e2 b02) t r w a b f g h =
      absurd (just_not_word p (spell e (sign Sign.Semicolon ∷ a)) (word_at Word.While p2) _ (exp_first e t (sign Sign.Semicolon ∷ a)) refl h)
  unique_stm n u (Stm.just p e) (Stm.repeat p2 b02 e2) t r w a b f g h =
      absurd (just_not_word p (spell e (sign Sign.Semicolon ∷ a)) (word_at Word.Do p2) _ (exp_first e t (sign Sign.Semicolon ∷ a)) refl h)
  unique_stm n u (Stm.just p e) (Stm.for p2 x2 e2 b02) t r w a b f g h =
      absurd (just_not_word p (spell e (sign Sign.Semicolon ∷ a)) (word_at Word.For p2) _ (exp_first e t (sign Sign.Semicolon ∷ a)) refl h)

  unique_stms : (n : ℕ) → UniqueAt n Level.Either → (ss rs : Stms) → AreStms ss → AreStms rs → stms_weight ss ≤ n → (a b : List Mark)
      → ends_block a ≡ true → ends_block b ≡ true → Both (spell_stms ss a) (spell_stms rs b) → ss ≡ rs
  unique_stms n u Stms.no_stms Stms.no_stms t r w a b f g h = refl
  unique_stms n u Stms.no_stms (Stms.stm z rs) t r w a b f g h =
      absurd (not_end a (spell_stm z (spell_stms rs b)) f (stm_inner z r.0 (spell_stms rs b)) h)
  unique_stms n u (Stms.stm s ss) Stms.no_stms t r w a b f g h =
      absurd (not_end b (spell_stm s (spell_stms ss a)) g (stm_inner s t.0 (spell_stms ss a)) (swap h))
  unique_stms n u (Stms.stm s ss) (Stms.stm z rs) t r w a b f g h =
      let same = unique_stm n u s z t.0 r.0 (omega (arith, w)) (spell_stms ss a) (spell_stms rs b) (stms_not_else ss t.1 a f)
      (stms_not_else rs r.1 b g) h in
      let rest = unique_stms n u ss rs t.1 r.1 (omega (arith, w)) a b f g (after_stm same h) in
      λ i. Stms.stm (same i) (rest i)

  unique_else : (n : ℕ) → UniqueAt n Level.Either → (el fl : Else) → IsElse el → IsElse fl → else_weight el ≤ n → (a b : List Mark) → at_else a
      ≡ false → at_else b ≡ false → Both (spell_else el a) (spell_else fl b) → el ≡ fl
  unique_else n u Else.no_else Else.no_else t r w a b f g h = refl
  unique_else n u Else.no_else (Else.otherwise c) t r w a b f g h = absurd (not_else a (spell_block c b) f h)
  unique_else n u (Else.otherwise c) Else.no_else t r w a b f g h = absurd (not_else b (spell_block c a) g (swap h))
  unique_else n u (Else.otherwise c) (Else.otherwise d) t r w a b f g h =
      ap Else.otherwise (unique_stms n u c d t r (omega (arith, w)) (sign Sign.CloseCurly ∷ a) (sign Sign.CloseCurly ∷ b) refl refl
      (peel (peel h)))

  unique_arms : (n : ℕ) → UniqueAt n Level.Either → (arms ks : Arms) (el fl : Else) → AreArms arms → AreArms ks → arms_weight arms ≤ n
      → (a b : List Mark) → at_else a ≡ false → at_else b ≡ false → (Both (spell_else el a) (spell_else fl b) → el ≡ fl)
      → Both (spell_other_arms arms (spell_else el a)) (spell_other_arms ks (spell_else fl b)) → (arms ≡ ks) × (el ≡ fl)
  unique_arms n u Arms.no_arms Arms.no_arms el fl t r w a b f g c h = (refl, c h)
  unique_arms n u Arms.no_arms (Arms.arm p e y ks) Else.no_else fl t r w a b f g c h = absurd (not_else a _ f h)
  unique_arms n u Arms.no_arms (Arms.arm p e y ks) (Else.otherwise d) fl t r w a b f g c h = let k = same_kind (peel h) in absurd cc
  unique_arms n u (Arms.arm p e y arms) Arms.no_arms el Else.no_else t r w a b f g c h = absurd (not_else b _ g (swap h))
  unique_arms n u (Arms.arm p e y arms) Arms.no_arms el (Else.otherwise d) t r w a b f g c h = let k = same_kind (peel h) in absurd cc
  unique_arms n u (Arms.arm p e y arms) (Arms.arm q d z ks) el fl t r w a b f g c h =
      let rest = spell_other_arms arms (spell_else el a) in
      let rest2 = spell_other_arms ks (spell_else fl b) in
      let ep = same_place (peel h) in
      let test = unique_test n u e d t.0 r.0 (omega (arith, w)) (spell_block y rest) (spell_block z rest2) (peel (peel h)) in
      let body = unique_stms n u y z t.1 r.1 (omega (arith, w)) (sign Sign.CloseCurly ∷ rest) (sign Sign.CloseCurly ∷ rest2) refl refl
      (peel test.1) in
      let later : Both rest rest2 = peel (after_stms body (peel test.1)) in
      let more = unique_arms n u arms ks el fl t.2 r.2 (omega (arith, w)) a b f g c later in
      ((λ i. Arms.arm (ep i) (test.0 i) (body i) (more.0 i)), more.1)

-- Functions and statements.
unique_bodies : (n : ℕ) → UniqueAt n Level.Either → UniqueStms n
unique_bodies n u ss rs t r w a b f g h = unique_stms n u ss rs t r w a b f g h

unique_any : (n : ℕ) → UniqueAt n Level.Either
unique_any n = unique_all unique_bodies n

unique_fun : (f g : Fun) → AreStms f.body → AreStms g.body → (a b : List Mark) → Both (spell_fun f a) (spell_fun g b) → (f ≡ g) × Both a b
unique_fun f g t r a b h =
    let en = same_name (peel h) in
    let ep = same_place (peel h) in
    let ps = unique_params f.params g.params (spell_block f.body a) (spell_block g.body b) (peel (peel (peel h))) in
    let body = unique_stms (stms_weight f.body) (unique_any (stms_weight f.body)) f.body g.body t r (omega arith) (sign Sign.CloseCurly ∷ a)
    (sign Sign.CloseCurly ∷ b) refl refl (peel ps.1) in
    ((λ i. record { name = en i; place = ep i; params = ps.0 i; body = body i }), peel (after_stms body (peel ps.1)))

-- a named function is no statement: behind its word stands no bracket
no_round : (m : Mark) (a ms : List Mark) → is Sign.OpenRound (kind m) ≡ false → at_round ms ≡ true → Both (m ∷ a) ms → ⊥
no_round m a [] e f h = no_end (swap h)
no_round m a (k ∷ ms) e f h = false≢true (sym e ∙ ap (is Sign.OpenRound) (same_kind h) ∙ f)

not_named : (m n : Mark) (a ms : List Mark) → is_word Word.Function (kind m) ≡ true → is Sign.OpenRound (kind n) ≡ false → starts_stmt ms ≡ true
    → Both (m ∷ n ∷ a) ms → ⊥
not_named m n a [] e o f h = no_end (swap h)
not_named m n a (k ∷ ms) e o f h =
    let word : is_word Word.Function (kind k) ≡ true = ap (is_word Word.Function) (sym (same_kind h)) ∙ e in
    no_round n a ms o (sym (ap (λ (c : Bool). if c then at_round ms else true) word) ∙ f) (peel h)

unique_tops : (tops us : List Top) → AreTops tops → AreTops us → Both (spell_tops tops []) (spell_tops us []) → tops ≡ us
unique_tops [] [] t r h = refl
unique_tops [] (Top.fun g ∷ us) t r h = absurd (no_end h)
unique_tops [] (Top.stmt z ∷ us) t r h = absurd (not_empty (spell_stm z (spell_tops us [])) (stm_inner z r.0 (spell_tops us [])) h)
unique_tops (Top.fun f ∷ tops) [] t r h = absurd (no_end (swap h))
unique_tops (Top.stmt s ∷ tops) [] t r h = absurd (not_empty (spell_stm s (spell_tops tops [])) (stm_inner s t.0 (spell_tops tops [])) (swap h))
unique_tops (Top.fun f ∷ tops) (Top.stmt z ∷ us) t r h =
    absurd (not_named (word Word.Function) _ _ (spell_stm z (spell_tops us [])) refl refl (stm_starts z r.0 (spell_tops us [])) h)
unique_tops (Top.stmt s ∷ tops) (Top.fun g ∷ us) t r h =
    absurd (not_named (word Word.Function) _ _ (spell_stm s (spell_tops tops [])) refl refl (stm_starts s t.0 (spell_tops tops [])) (swap h))
unique_tops (Top.fun f ∷ tops) (Top.fun g ∷ us) t r h =
    let same = unique_fun f g t.0 r.0 (spell_tops tops []) (spell_tops us []) h in
    let rest = unique_tops tops us t.1 r.1 same.1 in
    λ i. Top.fun (same.0 i) ∷ rest i
unique_tops (Top.stmt s ∷ tops) (Top.stmt z ∷ us) t r h =
    let same = unique_stm (stm_weight s) (unique_any (stm_weight s)) s z t.0 r.0 (omega arith) (spell_tops tops []) (spell_tops us [])
    (tops_not_else tops t.1) (tops_not_else us r.1) h in
    let rest = unique_tops tops us t.1 r.1 (after_stm same h) in
    λ i. Top.stmt (same i) ∷ rest i

pub one_script : OneScript
one_script = λ tops us ts s z. unique_tops tops us s.0 z.0 (record { rest = ts; left = s.1; right = z.1 })
