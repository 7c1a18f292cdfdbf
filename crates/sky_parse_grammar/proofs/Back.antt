-- Whatever was read, some tree goes on from it: if a step leads to a stack for which some tokens stand, then
-- those with the token in front of them stand for the stack before it.
use Rattle.std.proofs.Common.{◌≡◌, ℕ, zero, suc, ◌≤◌, ◌<◌, Bool, true, false, cond, List, [], ◌∷◌, Option, Some, None, refl, sym, ap, subst, arith}
use Rattle.std.specs.Prelude.{if◌then◌else◌, ◌&&◌, ◌||◌, ◌==◌, ◌%◌}
use Rattle.std.proofs.lemmas.Bool.{and_parts, eqb-true, eqb-false}
use Rattle.sky_base.specs.Op.{Order}
use Rattle.sky_base.specs.Tree.{Place, Lit, Form, Oper, Junction, SignAt}
use Rattle.sky_base.specs.Tree as tree
use Rattle.sky_parse_grammar.specs.Levels.{oper_level}
use Rattle.sky_text.specs.declared.token.Sign.{Sign}
use Rattle.sky_text.specs.declared.token.Word.{Word}
use Rattle.sky_text.specs.declared.token.TokenKind.{TokenKind}
use Rattle.sky_text.specs.declared.token.Token.{Token}
use Rattle.sky_parse_grammar.specs.declared.level.Level.{Level}
use Rattle.sky_parse_grammar.specs.declared.parts.Shape.{Shape}
use Rattle.sky_parse_grammar.specs.Signs.{is, is_word}
use Rattle.sky_parse_grammar.specs.Levels.{opens}
use Rattle.sky_parse_grammar.specs.Parts.{separator}
use Rattle.sky_parse_grammar.specs.Grammar.{Mark, sign, word, word_at, prefix_sign, oper_sign, spell, spell_links, spell_ands, spell_steps, spell_exps}
use Rattle.sky_parse_grammar.specs.Grammar.{spell_others, spell_value, spell_other_pairs, spell_test, spell_block, spell_stms, spell_other_arms, spell_else}
use Rattle.sky_parse_grammar.specs.Grammar.{spell_params, spell_other_params, Fills, place, Follows}
use Rattle.sky_parse_grammar.specs.Tops.{Top, spell_tops}
use Rattle.sky_parse_grammar.specs.Machine.{Item, tails, is_prefix, on_primary, on_stepped, on_prefix, on_level, on_exp, on_parts, on_others, on_stmt}
use Rattle.sky_parse_grammar.specs.Machine.{on_stmt_word, on_tail, on_steps, on_rest, on_name, step}
use Rattle.sky_parse_grammar.proofs.Tokens.{is_sign, is_that_word}
use Rattle.sky_parse_grammar.proofs.Means.{Pairs, Stack, lower, with_steps, with_sign, gather, unstack, single, test_of, just_of, rest_of, unplaced}
use Rattle.sky_parse_grammar.specs.Source.{Exp, Exps, Links, Ands, Steps, Stm, Stms, Arms, Else, exps_count}

abbrev pub Leads : Option (List Item) → List Token → Type 0 → Type 0
Leads None ts G = Unit {0}
Leads (Some l) ts G = Stack l ts → G

leads_map : {G H : Type 0} (o : Option (List Item)) (ts : List Token) → (G → H) → Leads o ts G → Leads o ts H
leads_map None ts f l = tt
leads_map (Some k) ts f l = λ s. f (l s)

leads_if : (G : Type 0) (b : Bool) (x y : Option (List Item)) (ts : List Token) → (b ≡ true → Leads x ts G) → (b ≡ false → Leads y ts G)
    → Leads (cond b x y) ts G
leads_if G true x y ts f g = f refl
leads_if G false x y ts f g = g refl

either : {X : Type 0} (a b : Bool) → (a || b) ≡ true → (a ≡ true → X) → (b ≡ true → X) → X
either true b e f g = f refl
either false b e f g = g e

-- a word with its parts
word_form : (w : Word) (o : Form) (m : ℕ) (k : List Item) (t : Token) (ts : List Token) → t.kind ≡ TokenKind.Word w → 1 ≤ m
    → ((es : Exps) → exps_count es ≡ m → Fills o es)
    → ((es : Exps) (p : Place) (more : List Mark) → spell (Exp.parts o p es) more ≡ word_at w p ∷ sign Sign.OpenRound
    ∷ spell_exps es (sign Sign.CloseRound ∷ more)) → Stack (Item.sign Sign.OpenRound ∷ Item.parts (Shape.Fixed m Sign.CloseRound) ∷ k) ts
    → Stack (Item.primary ∷ k) (t ∷ ts)
word_form w o m k t ts e h fills eq st =
    let x = st.2.1 h in (
      st.2.0,
      (
        Exp.parts o (place t) x.0,
        (x.1, fills x.0 x.2),
        omega arith,
        λ more f. subst (λ (ms : List Mark). Follows ms (t ∷ ts)) (sym (eq x.0 (place t) more))
            ((e, refl), st.1 (spell_exps x.0 (sign Sign.CloseRound ∷ more)) (x.3 more f)),
      ),
      st.2.2,
    )

back_word : (k : List Item) (w : Word) (t : Token) (ts : List Token) → t.kind ≡ TokenKind.Word w
    → Leads (on_primary k (TokenKind.Word w)) ts (Stack (Item.primary ∷ k) (t ∷ ts))
back_word k Word.Function t ts e = λ st.
    let ps = st.2.1 in
    let b = st.2.2.1 in (
      st.2.2.0,
      (
        Exp.func (place t) ps.0 b.0,
        b.1,
        omega arith,
        λ more f. let body = spell_block b.0 more in
            ((e, refl), st.1 (spell_params ps.0 (sign Sign.CloseRound ∷ body)) (ps.1 body (b.2 more f))),
      ),
      st.2.2.2,
    )
back_word k Word.Return t ts e = tt
back_word k Word.If t ts e = tt
back_word k Word.Else t ts e = tt
back_word k Word.While t ts e = tt
back_word k Word.Do t ts e = tt
back_word k Word.For t ts e = tt
back_word k Word.In t ts e = tt
back_word k Word.True t ts e = λ st. (ts, (Exp.literal (Lit.truth true) (place t), tt, omega arith, λ more f. ((e, refl), f)), st)
back_word k Word.False t ts e = λ st. (ts, (Exp.literal (Lit.truth false) (place t), tt, omega arith, λ more f. ((e, refl), f)), st)
back_word k Word.Null t ts e = λ st. (ts, (Exp.literal Lit.null (place t), tt, omega arith, λ more f. ((e, refl), f)), st)
back_word k Word.Spawn t ts e = word_form Word.Spawn Form.spawn 2 k t ts e (omega arith) (λ es h. h) (λ es p more. refl)
back_word k Word.SpawnExec t ts e = word_form Word.SpawnExec Form.spawn_exec 3 k t ts e (omega arith) (λ es h. h) (λ es p more. refl)
back_word k Word.Exec t ts e = word_form Word.Exec Form.exec 3 k t ts e (omega arith) (λ es h. h) (λ es p more. refl)
back_word k Word.Ref t ts e = word_form Word.Ref Form.ref 1 k t ts e (omega arith) (λ es h. h) (λ es p more. refl)
back_word k Word.Len t ts e = word_form Word.Len Form.len 1 k t ts e (omega arith) (λ es h. h) (λ es p more. refl)
back_word k Word.Keys t ts e = word_form Word.Keys Form.keys 1 k t ts e (omega arith) (λ es h. h) (λ es p more. refl)
back_word k Word.Has t ts e = word_form Word.Has Form.has 2 k t ts e (omega arith) (λ es h. h) (λ es p more. refl)
back_word k Word.Range t ts e = word_form Word.Range Form.range 2 k t ts e (omega arith) (λ es h. h) (λ es p more. refl)

back_bracket : (k : List Item) (s : Sign) (t : Token) (ts : List Token) → t.kind ≡ TokenKind.Sign s
    → Leads (on_primary k (TokenKind.Sign s)) ts (Stack (Item.primary ∷ k) (t ∷ ts))
back_bracket k Sign.OpenRound t ts e = λ st. let x = single Sign.CloseRound ts st.0 st.1 in
    (st.0, (Exp.parens x.0, x.1, omega arith, λ more f. (e, x.2 more f)), st.2)
back_bracket k Sign.CloseRound t ts e = tt
back_bracket k Sign.OpenCurly t ts e = λ st. let x = st.1 tt in
    (st.0, (Exp.parts Form.dict (place t) x.0, (x.1, x.2), omega arith, λ more f. ((e, refl), x.3 more f)), st.2)
back_bracket k Sign.CloseCurly t ts e = tt
back_bracket k Sign.OpenSquare t ts e = λ st. let x = st.1 tt in
    (st.0, (Exp.parts Form.list (place t) x.0, (x.1, tt), omega arith, λ more f. ((e, refl), x.3 more f)), st.2)
back_bracket k Sign.CloseSquare t ts e = tt
back_bracket k Sign.Comma t ts e = tt
back_bracket k Sign.Semicolon t ts e = tt
back_bracket k Sign.Colon t ts e = tt
back_bracket k Sign.Assign t ts e = tt
back_bracket k Sign.AddAssign t ts e = tt
back_bracket k Sign.Plus t ts e = tt
back_bracket k Sign.Minus t ts e = tt
back_bracket k Sign.Star t ts e = tt
back_bracket k Sign.Slash t ts e = tt
back_bracket k Sign.Percent t ts e = tt
back_bracket k Sign.Not t ts e = tt
back_bracket k Sign.Equal t ts e = tt
back_bracket k Sign.NotEqual t ts e = tt
back_bracket k Sign.Less t ts e = tt
back_bracket k Sign.LessEqual t ts e = tt
back_bracket k Sign.Greater t ts e = tt
back_bracket k Sign.GreaterEqual t ts e = tt
back_bracket k Sign.And t ts e = tt
back_bracket k Sign.Or t ts e = tt

back_primary : (k : List Item) (d : TokenKind) (t : Token) (ts : List Token) → t.kind ≡ d
    → Leads (on_primary k d) ts (Stack (Item.primary ∷ k) (t ∷ ts))
back_primary k (TokenKind.Name x) t ts e = λ st. (ts, (Exp.name x (place t), tt, omega arith, λ more f. ((e, refl), f)), st)
back_primary k (TokenKind.Number n) t ts e = λ st. (ts, (Exp.literal (Lit.num n) (place t), tt, omega arith, λ more f. ((e, refl), f)), st)
back_primary k (TokenKind.Text x) t ts e = λ st. (ts, (Exp.literal (Lit.text x) (place t), tt, omega arith, λ more f. ((e, refl), f)), st)
back_primary k (TokenKind.Word w) t ts e = back_word k w t ts e
back_primary k (TokenKind.Sign s) t ts e = back_bracket k s t ts e

back_stepped : (k : List Item) (t : Token) (ts : List Token) → Leads (on_stepped k t.kind) ts (Stack (Item.stepped ∷ k) (t ∷ ts))
back_stepped k t ts = leads_map (on_stepped k t.kind) ts (λ st. (st.2.0, with_steps (t ∷ ts) st.0 st.2.0 st.1 st.2.1, st.2.2))
    (back_primary (Item.steps ∷ k) t.kind t ts refl)

prefix_of : (d : TokenKind) → is_prefix d ≡ true → (s : tree.Sign) × (d ≡ TokenKind.Sign (prefix_sign s))
prefix_of d e = either (is Sign.Not d) (is Sign.Minus d || is Sign.Star d) e (λ a. (tree.Sign.not, is_sign Sign.Not d a))
    (λ b. either (is Sign.Minus d) (is Sign.Star d) b (λ a. (tree.Sign.minus, is_sign Sign.Minus d a)) (λ a. (tree.Sign.star, is_sign Sign.Star d a)))

back_prefix : (k : List Item) (t : Token) (ts : List Token) → Leads (on_prefix k t.kind) ts (Stack (Item.level Level.Prefix ∷ k) (t ∷ ts))
back_prefix k t ts = leads_if _ (is_prefix t.kind) _ _ ts
    (λ c. λ st. let s = prefix_of t.kind c in (st.0, with_sign (record { sign = s.0; place = place t }) t ts st.0 (s.1, refl) st.1, st.2))
    (λ c. leads_map (on_stepped k t.kind) ts (λ st. (st.0, lower 5 6 (t ∷ ts) st.0 (omega arith) st.1, st.2)) (back_stepped k t ts))

back_level : (l : Level) (k : List Item) (t : Token) (ts : List Token) → Leads (on_level l k t.kind) ts (Stack (Item.level l ∷ k) (t ∷ ts))
back_level l k t ts = leads_map (on_prefix (tails l k) t.kind) ts
    (λ st. let u = unstack l k st.0 st.2 in (u.0, gather l (t ∷ ts) st.0 u.0 st.1 u.1, u.2)) (back_prefix (tails l k) t ts)

back_exp : (k : List Item) (t : Token) (ts : List Token) → Leads (on_exp k t.kind) ts (Stack (Item.level Level.Either ∷ k) (t ∷ ts))
back_exp k t ts = back_level Level.Either k t ts

-- an operator of a level
abbrev Opened : ℕ → TokenKind → Type 0
Opened n d = (o : Oper) × (oper_level o ≡ n) × (d ≡ TokenKind.Sign (oper_sign o))

sum_of : (d : TokenKind) → opens Level.Sum d ≡ true → Opened 3 d
sum_of d e = either (is Sign.Plus d) (is Sign.Minus d) e (λ a. (Oper.plus, refl, is_sign Sign.Plus d a))
    (λ a. (Oper.minus, refl, is_sign Sign.Minus d a))

product_of : (d : TokenKind) → opens Level.Product d ≡ true → Opened 4 d
product_of d e = either (is Sign.Star d) (is Sign.Slash d || is Sign.Percent d) e (λ a. (Oper.times, refl, is_sign Sign.Star d a))
    (λ b. either (is Sign.Slash d) (is Sign.Percent d) b (λ a. (Oper.over, refl, is_sign Sign.Slash d a))
    (λ a. (Oper.rest, refl, is_sign Sign.Percent d a)))

comparison_of : (d : TokenKind) → opens Level.Comparison d ≡ true → Opened 2 d
comparison_of d e = either (is Sign.Equal d) _ e (λ a. (Oper.compare Order.eq, refl, is_sign Sign.Equal d a))
    (λ b. either (is Sign.NotEqual d) _ b (λ a. (Oper.compare Order.ne, refl, is_sign Sign.NotEqual d a))
    (λ b. either (is Sign.Less d) _ b (λ a. (Oper.compare Order.lt, refl, is_sign Sign.Less d a))
    (λ b. either (is Sign.LessEqual d) _ b (λ a. (Oper.compare Order.le, refl, is_sign Sign.LessEqual d a))
    (λ b. either (is Sign.Greater d) (is Sign.GreaterEqual d) b (λ a. (Oper.compare Order.gt, refl, is_sign Sign.Greater d a))
    (λ a. (Oper.compare Order.ge, refl, is_sign Sign.GreaterEqual d a))))))

back_tail : (l : Level) (k : List Item) (t : Token) (ts : List Token) (o : Option (List Item)) → Leads o ts (Stack k (t ∷ ts))
    → Leads (on_tail l k t.kind o) ts (Stack (Item.tail l ∷ k) (t ∷ ts))
back_tail Level.Either k t ts o b = leads_if _ (opens Level.Either t.kind) _ _ ts
    (λ c. λ st. (
      st.2.0,
      (
        Ands.and (place t) st.1.0 st.2.1.0,
        (st.1.1, omega (arith, st.1.2), st.2.1.1),
        λ more f. ((is_sign Sign.Or t.kind c, refl), st.1.3 (spell_ands Junction.either st.2.1.0 more) (st.2.1.2 more f)),
      ),
      st.2.2,
    ))
    (λ c. leads_map o ts (λ st. (t ∷ ts, (Ands.no_ands, tt, λ more f. f), st)) b)
back_tail Level.Both k t ts o b = leads_if _ (opens Level.Both t.kind) _ _ ts
    (λ c. λ st. (
      st.2.0,
      (
        Ands.and (place t) st.1.0 st.2.1.0,
        (st.1.1, omega (arith, st.1.2), st.2.1.1),
        λ more f. ((is_sign Sign.And t.kind c, refl), st.1.3 (spell_ands Junction.both st.2.1.0 more) (st.2.1.2 more f)),
      ),
      st.2.2,
    ))
    (λ c. leads_map o ts (λ st. (t ∷ ts, (Ands.no_ands, tt, λ more f. f), st)) b)
back_tail Level.Comparison k t ts o b = leads_if _ (opens Level.Comparison t.kind) _ _ ts
    (λ c. λ st. let x = comparison_of t.kind c in (
      st.0,
      (
        Links.link x.0 (place t) st.1.0 Links.no_links,
        (x.1, st.1.1, omega (arith, st.1.2), tt),
        refl,
        λ more f. ((x.2, refl), st.1.3 more f),
      ),
      st.2,
    ))
    (λ c. leads_map o ts (λ st. (t ∷ ts, (Links.no_links, tt, refl, λ more f. f), st)) b)
back_tail Level.Sum k t ts o b = leads_if _ (opens Level.Sum t.kind) _ _ ts
    (λ c. λ st. let x = sum_of t.kind c in (
      st.2.0,
      (
        Links.link x.0 (place t) st.1.0 st.2.1.0,
        (x.1, st.1.1, omega (arith, st.1.2), st.2.1.1),
        λ more f. ((x.2, refl), st.1.3 (spell_links st.2.1.0 more) (st.2.1.2 more f)),
      ),
      st.2.2,
    ))
    (λ c. leads_map o ts (λ st. (t ∷ ts, (Links.no_links, tt, λ more f. f), st)) b)
back_tail Level.Product k t ts o b = leads_if _ (opens Level.Product t.kind) _ _ ts
    (λ c. λ st. let x = product_of t.kind c in (
      st.2.0,
      (
        Links.link x.0 (place t) st.1.0 st.2.1.0,
        (x.1, st.1.1, omega (arith, st.1.2), st.2.1.1),
        λ more f. ((x.2, refl), st.1.3 (spell_links st.2.1.0 more) (st.2.1.2 more f)),
      ),
      st.2.2,
    ))
    (λ c. leads_map o ts (λ st. (t ∷ ts, (Links.no_links, tt, λ more f. f), st)) b)
back_tail Level.Prefix k t ts o b = leads_map o ts (λ st. (t ∷ ts, refl, st)) b

back_steps : (k : List Item) (t : Token) (ts : List Token) (o : Option (List Item)) → Leads o ts (Stack k (t ∷ ts))
    → Leads (on_steps k t.kind o) ts (Stack (Item.steps ∷ k) (t ∷ ts))
back_steps k t ts o b = leads_if _ (is Sign.OpenSquare t.kind) _ _ ts
    (λ c. λ st. let x = single Sign.CloseSquare ts st.0 st.1 in (
      st.2.0,
      (
        Steps.index x.0 (place t) st.2.1.0,
        (x.1, st.2.1.1),
        λ more f. ((is_sign Sign.OpenSquare t.kind c, refl), x.2 (spell_steps st.2.1.0 more) (st.2.1.2 more f)),
      ),
      st.2.2,
    ))
    (λ c0. leads_if _ (is Sign.OpenRound t.kind) _ _ ts
    (λ c. λ st. let x = st.1 tt in (
      st.2.0,
      (
        Steps.call x.0 (place t) st.2.1.0,
        (x.1, st.2.1.1),
        λ more f. ((is_sign Sign.OpenRound t.kind c, refl), x.3 (spell_steps st.2.1.0 more) (st.2.1.2 more f)),
      ),
      st.2.2,
    ))
    (λ c. leads_map o ts (λ st. (t ∷ ts, (Steps.no_steps, tt, λ more f. f), st)) b))

back_sign : (s : Sign) (k : List Item) (t : Token) (ts : List Token) → Leads (step (Item.sign s ∷ k) t.kind) ts (Stack (Item.sign s ∷ k) (t ∷ ts))
back_sign s k t ts = leads_if _ (is s t.kind) _ _ ts (λ c. λ st. (ts, λ more f. (is_sign s t.kind c, f), st)) (λ c. tt)

back_rest : (k : List Item) (t : Token) (ts : List Token)
    → Leads (on_rest k t.kind) ts (Stack (Item.steps ∷ tails Level.Either (Item.sign Sign.Semicolon ∷ k)) (t ∷ ts))
back_rest k t ts =
    let e = Item.sign Sign.Semicolon ∷ k in
    back_steps (tails Level.Either e) t ts _
    (back_tail Level.Product (Item.tail Level.Sum ∷ Item.tail Level.Comparison ∷ Item.tail Level.Both ∷ Item.tail Level.Either ∷ e) t ts _
    (back_tail Level.Sum (Item.tail Level.Comparison ∷ Item.tail Level.Both ∷ Item.tail Level.Either ∷ e) t ts _
    (back_tail Level.Comparison (Item.tail Level.Both ∷ Item.tail Level.Either ∷ e) t ts _
    (back_tail Level.Both (Item.tail Level.Either ∷ e) t ts _
    (back_tail Level.Either e t ts _ (back_sign Sign.Semicolon k t ts))))))

back_just : (k : List Item) (d : TokenKind) (t : Token) (ts : List Token) → t.kind ≡ d
    → Leads (on_exp (Item.sign Sign.Semicolon ∷ k) d) ts (Stack (Item.stmt ∷ k) (t ∷ ts))
back_just k d t ts e = subst (λ (x : TokenKind). Leads (on_exp (Item.sign Sign.Semicolon ∷ k) x) ts (Stack (Item.stmt ∷ k) (t ∷ ts))) e
    (leads_map (on_exp (Item.sign Sign.Semicolon ∷ k) t.kind) ts (λ st. (st.2.0, just_of t ts st.0 st.2.0 st.1 st.2.1, st.2.2))
    (back_exp (Item.sign Sign.Semicolon ∷ k) t ts))

back_stmt_word : (k : List Item) (w : Word) (t : Token) (ts : List Token) → t.kind ≡ TokenKind.Word w
    → Leads (on_stmt_word k w) ts (Stack (Item.stmt ∷ k) (t ∷ ts))
back_stmt_word k Word.Function t ts e = back_just k (TokenKind.Word Word.Function) t ts e
back_stmt_word k Word.Return t ts e = λ st. (st.0, st.1 t e, st.2)
back_stmt_word k Word.If t ts e = λ st.
    let x = test_of ts st.0 st.2.0 st.2.2.0 st.1 st.2.1 st.2.2.1 in
    let b = st.2.2.2.1 in
    let a = st.2.2.2.2.1 in (
      st.2.2.2.2.0,
      (
        Stm.cases (place t) (Arms.arm (place t) x.0 b.0 a.0) a.1,
        ((x.1, b.1, a.2), refl, a.3),
        λ more f.
            let rest = spell_other_arms a.0 (spell_else a.1 more) in
            ((refl, (e, refl)), x.2 (spell_block b.0 rest) (b.2 rest (a.4 more f))),
      ),
      st.2.2.2.2.2,
    )
back_stmt_word k Word.Else t ts e = back_just k (TokenKind.Word Word.Else) t ts e
back_stmt_word k Word.While t ts e = λ st.
    let x = test_of ts st.0 st.2.0 st.2.2.0 st.1 st.2.1 st.2.2.1 in
    let b = st.2.2.2.1 in
    (st.2.2.2.0, (Stm.while (place t) x.0 b.0, (x.1, b.1), λ more f. ((e, refl), x.2 (spell_block b.0 more) (b.2 more f))), st.2.2.2.2)
back_stmt_word k Word.Do t ts e = λ st.
    let b = st.1 in
    let x = test_of st.2.0 st.2.2.0 st.2.2.2.0 st.2.2.2.2.0 st.2.2.1 st.2.2.2.1 st.2.2.2.2.1 in (
      st.2.2.2.2.2.0,
      (
        Stm.repeat (place t) b.0 x.0,
        (b.1, x.1),
        λ more f.
            let rest = spell_test x.0 (sign Sign.Semicolon ∷ more) in
            ((e, refl), b.2 (word Word.While ∷ rest) (st.2.1 rest (x.2 (sign Sign.Semicolon ∷ more) (st.2.2.2.2.2.1 more f)))),
      ),
      st.2.2.2.2.2.2,
    )
back_stmt_word k Word.For t ts e = λ st.
    let x = st.2.1 in
    let y = st.2.2.2.1 in
    let b = st.2.2.2.2.2.1 in (
      st.2.2.2.2.2.0,
      (
        Stm.for (place t) x.0 y.0 b.0,
        (y.1, b.1),
        λ more f.
            let body = spell_block b.0 more in
            let test = spell y.0 (sign Sign.CloseRound ∷ body) in
            let name = Mark.plain (TokenKind.Name x.0) ∷ word Word.In ∷ test in (
              (e, refl),
              st.1 name (unplaced (TokenKind.Name x.0) x.1 (word Word.In ∷ test) st.0
                  (x.2 (word Word.In ∷ test) (st.2.2.1 test (y.3 (sign Sign.CloseRound ∷ body) (st.2.2.2.2.1 body (b.2 more f)))))),
            ),
      ),
      st.2.2.2.2.2.2,
    )
back_stmt_word k Word.In t ts e = back_just k (TokenKind.Word Word.In) t ts e
back_stmt_word k Word.True t ts e = back_just k (TokenKind.Word Word.True) t ts e
back_stmt_word k Word.False t ts e = back_just k (TokenKind.Word Word.False) t ts e
back_stmt_word k Word.Null t ts e = back_just k (TokenKind.Word Word.Null) t ts e
back_stmt_word k Word.Spawn t ts e = back_just k (TokenKind.Word Word.Spawn) t ts e
back_stmt_word k Word.SpawnExec t ts e = back_just k (TokenKind.Word Word.SpawnExec) t ts e
back_stmt_word k Word.Exec t ts e = back_just k (TokenKind.Word Word.Exec) t ts e
back_stmt_word k Word.Ref t ts e = back_just k (TokenKind.Word Word.Ref) t ts e
back_stmt_word k Word.Len t ts e = back_just k (TokenKind.Word Word.Len) t ts e
back_stmt_word k Word.Keys t ts e = back_just k (TokenKind.Word Word.Keys) t ts e
back_stmt_word k Word.Has t ts e = back_just k (TokenKind.Word Word.Has) t ts e
back_stmt_word k Word.Range t ts e = back_just k (TokenKind.Word Word.Range) t ts e

back_stmt : (k : List Item) (d : TokenKind) (t : Token) (ts : List Token) → t.kind ≡ d → Leads (on_stmt k d) ts (Stack (Item.stmt ∷ k) (t ∷ ts))
back_stmt k (TokenKind.Name x) t ts e = λ st. (st.0, st.1 x t e, st.2)
back_stmt k (TokenKind.Number n) t ts e = back_just k (TokenKind.Number n) t ts e
back_stmt k (TokenKind.Text x) t ts e = back_just k (TokenKind.Text x) t ts e
back_stmt k (TokenKind.Word w) t ts e = back_stmt_word k w t ts e
back_stmt k (TokenKind.Sign s) t ts e = back_just k (TokenKind.Sign s) t ts e

back_name : (k : List Item) (d : TokenKind) (t : Token) (ts : List Token) → t.kind ≡ d → Leads (on_name k d) ts (Stack (Item.name ∷ k) (t ∷ ts))
back_name k (TokenKind.Name x) t ts e = λ st. (ts, (x, place t, λ more f. ((e, refl), f)), st)
back_name k (TokenKind.Number n) t ts e = tt
back_name k (TokenKind.Text x) t ts e = tt
back_name k (TokenKind.Word w) t ts e = tt
back_name k (TokenKind.Sign s) t ts e = tt

back_parts : (h : Shape) (k : List Item) (t : Token) (ts : List Token) → Leads (on_parts h k t.kind) ts (Stack (Item.parts h ∷ k) (t ∷ ts))
back_parts (Shape.Many s) k t ts = leads_if _ (is s t.kind) _ _ ts
    (λ c. λ st. (ts, (λ u. (Exps.no_exps, tt, tt, λ more f. (is_sign s t.kind c, f))), st))
    (λ c. leads_map (on_exp (Item.others (Shape.Many s) 1 ∷ k) t.kind) ts
    (λ st. (
      st.2.0,
      (λ u. (
        Exps.exp st.1.0 st.2.1.0,
        (st.1.1, st.2.1.1),
        tt,
        λ more f. st.1.3 (spell_others st.2.1.0 (sign s ∷ more)) (st.2.1.2 more f),
      )),
      st.2.2,
    ))
    (back_exp (Item.others (Shape.Many s) 1 ∷ k) t ts))
back_parts (Shape.Fixed m s) k t ts = leads_map (on_exp (Item.others (Shape.Fixed m s) 1 ∷ k) t.kind) ts
    (λ st. (
      st.2.0,
      (λ u. let x = st.2.1 u in (
        Exps.exp st.1.0 x.0,
        (st.1.1, x.1),
        omega (arith, x.2),
        λ more f. st.1.3 (spell_others x.0 (sign s ∷ more)) (x.3 more f),
      )),
      st.2.2,
    )) (back_exp (Item.others (Shape.Fixed m s) 1 ∷ k) t ts)
back_parts Shape.Pairs k t ts = leads_if _ (is Sign.CloseCurly t.kind) _ _ ts
    (λ c. λ st. (ts, (λ u. (Exps.no_exps, tt, refl, λ more f. (is_sign Sign.CloseCurly t.kind c, f))), st))
    (λ c. leads_map (on_exp (Item.others Shape.Pairs 1 ∷ k) t.kind) ts
    (λ st. (
      st.2.0,
      (λ u. (
        Exps.exp st.1.0 st.2.1.0,
        (st.1.1, st.2.1.1),
        st.2.1.2,
        λ more f. st.1.3 (spell_value st.2.1.0 (sign Sign.CloseCurly ∷ more)) (st.2.1.3 more f),
      )),
      st.2.2,
    ))
    (back_exp (Item.others Shape.Pairs 1 ∷ k) t ts))

back_many : (s : Sign) (n : ℕ) (k : List Item) (t : Token) (ts : List Token)
    → Leads (on_others (Shape.Many s) n k t.kind) ts (Stack (Item.others (Shape.Many s) n ∷ k) (t ∷ ts))
back_many s n k t ts = leads_if _ (is Sign.Comma t.kind) _ _ ts
    (λ c. λ st. (
      st.2.0,
      (
        Exps.exp st.1.0 st.2.1.0,
        (st.1.1, st.2.1.1),
        λ more f. (is_sign Sign.Comma t.kind c, st.1.3 (spell_others st.2.1.0 (sign s ∷ more)) (st.2.1.2 more f)),
      ),
      st.2.2,
    ))
    (λ c0. leads_if _ (is s t.kind) _ _ ts (λ c. λ st. (ts, (Exps.no_exps, tt, λ more f. (is_sign s t.kind c, f)), st)) (λ c. tt))

close_fixed : (m n : ℕ) (s : Sign) (k : List Item) (t : Token) (ts : List Token)
    → Leads (if (n == m) && is s t.kind then Some k else None) ts (Stack (Item.others (Shape.Fixed m s) n ∷ k) (t ∷ ts))
close_fixed m n s k t ts = leads_if _ ((n == m) && is s t.kind) _ _ ts
    (λ c. λ st. let x = and_parts (n == m) (is s t.kind) c in
    (ts, (λ h. (Exps.no_exps, tt, omega (arith, eqb-true n m x.0), λ more f. (is_sign s t.kind x.1, f))), st)) (λ c. tt)

back_fixed : (m n : ℕ) (s : Sign) (k : List Item) (t : Token) (ts : List Token)
    → Leads (on_others (Shape.Fixed m s) n k t.kind) ts (Stack (Item.others (Shape.Fixed m s) n ∷ k) (t ∷ ts))
back_fixed m n s k t ts = leads_if _ (n == m) _ _ ts (λ c. close_fixed m n s k t ts)
    (λ ne. leads_if _ (is Sign.Comma t.kind) _ _ ts
    (λ c. λ st. (
      st.2.0,
      (λ h.
          let x = st.2.1 (less n m h (eqb-false n m ne)) in (
            Exps.exp st.1.0 x.0,
            (st.1.1, x.1),
            omega (arith, x.2),
            λ more f. (is_sign Sign.Comma t.kind c, st.1.3 (spell_others x.0 (sign s ∷ more)) (x.3 more f)),
          )),
      st.2.2,
    ))
    (λ c. close_fixed m n s k t ts))
  where
    less : (n m : ℕ) → n ≤ m → (n ≡ m → ⊥) → suc n ≤ m
    less zero zero h ne = absurd (ne refl)
    less zero (suc m) h ne = omega arith
    less (suc n) zero h ne = absurd (omega arith)
    less (suc n) (suc m) h ne = omega (arith, less n m (omega (arith, h)) (λ e. ne (ap suc e)))

zero_of : (m : ℕ) → m < 2 → (m == 1) ≡ false → m ≡ 0
zero_of zero h e = refl
zero_of (suc zero) h e = absurd cc
zero_of (suc (suc m)) h e = absurd (omega arith)

-- behind a key a colon and a value come, behind a value a comma and a key
back_pairs : (b : Bool) (n : ℕ) → (n % 2 == 1) ≡ b → (k : List Item) (t : Token) (ts : List Token)
    → Leads (on_others Shape.Pairs n k t.kind) ts (Stack (Item.others Shape.Pairs n ∷ k) (t ∷ ts))
back_pairs true n e k t ts =
    let odd : n % 2 ≡ 1 = eqb-true (n % 2) 1 e in
    let even : suc n % 2 ≡ 0 = omega (arith, odd) in
    let next : (suc n % 2 == 1) ≡ false = ap (λ (m : ℕ). m == 1) even in
    let shut : (n % 2 == 0) ≡ false = ap (λ (m : ℕ). m == 0) odd in
    leads_if _ (is (separator Shape.Pairs n) t.kind) _ _ ts
    (λ c. λ st.
    let x = subst (λ (b : Bool). Pairs b st.0 st.2.0) next st.2.1 in
    let colon = is_sign Sign.Colon t.kind (subst (λ (b : Bool). is (if b then Sign.Colon else Sign.Comma) t.kind ≡ true) e c) in
    let all : Pairs true (t ∷ ts) st.2.0 = (
      Exps.exp st.1.0 x.0,
      (st.1.1, x.1),
      x.2,
      λ more f. (colon, st.1.3 (spell_other_pairs x.0 (sign Sign.CloseCurly ∷ more)) (x.3 more f)),
    ) in
    (st.2.0, subst (λ (b : Bool). Pairs b (t ∷ ts) st.2.0) (sym e) all, st.2.2))
    (λ c0. leads_if _ ((n % 2 == 0) && is Sign.CloseCurly t.kind) _ _ ts
    (λ c. λ st. let d = (and_parts (n % 2 == 0) (is Sign.CloseCurly t.kind) c).0 in absurd (cc (d, shut))) (λ c. tt))
back_pairs false n e k t ts =
    let even : n % 2 ≡ 0 = zero_of (n % 2) (omega arith) e in
    let odd : suc n % 2 ≡ 1 = omega (arith, even) in
    let next : (suc n % 2 == 1) ≡ true = ap (λ (m : ℕ). m == 1) odd in
    leads_if _ (is (separator Shape.Pairs n) t.kind) _ _ ts
    (λ c. λ st.
    let x = subst (λ (b : Bool). Pairs b st.0 st.2.0) next st.2.1 in
    let comma = is_sign Sign.Comma t.kind (subst (λ (b : Bool). is (if b then Sign.Colon else Sign.Comma) t.kind ≡ true) e c) in
    let all : Pairs false (t ∷ ts) st.2.0 = (
      Exps.exp st.1.0 x.0,
      (st.1.1, x.1),
      x.2,
      λ more f. (comma, st.1.3 (spell_value x.0 (sign Sign.CloseCurly ∷ more)) (x.3 more f)),
    ) in
    (st.2.0, subst (λ (b : Bool). Pairs b (t ∷ ts) st.2.0) (sym e) all, st.2.2))
    (λ c0. leads_if _ ((n % 2 == 0) && is Sign.CloseCurly t.kind) _ _ ts
    (λ c. λ st.
    let all : Pairs false (t ∷ ts) ts = (
      Exps.no_exps,
      tt,
      refl,
      λ more f. (is_sign Sign.CloseCurly t.kind (and_parts (n % 2 == 0) (is Sign.CloseCurly t.kind) c).1, f),
    ) in
    (ts, subst (λ (b : Bool). Pairs b (t ∷ ts) ts) (sym e) all, st))
    (λ c. tt))

back_others : (h : Shape) (n : ℕ) (k : List Item) (t : Token) (ts : List Token)
    → Leads (on_others h n k t.kind) ts (Stack (Item.others h n ∷ k) (t ∷ ts))
back_others (Shape.Many s) n k t ts = back_many s n k t ts
back_others (Shape.Fixed m s) n k t ts = back_fixed m n s k t ts
back_others Shape.Pairs n k t ts = back_pairs (n % 2 == 1) n refl k t ts

pub back_step : (k : List Item) (t : Token) (ts : List Token) → Leads (step k t.kind) ts (Stack k (t ∷ ts))
back_step [] t ts = tt
back_step (Item.level l ∷ k) t ts = back_level l k t ts
back_step (Item.tail l ∷ k) t ts = back_tail l k t ts (step k t.kind) (back_step k t ts)
back_step (Item.stepped ∷ k) t ts = back_stepped k t ts
back_step (Item.primary ∷ k) t ts = back_primary k t.kind t ts refl
back_step (Item.steps ∷ k) t ts = back_steps k t ts (step k t.kind) (back_step k t ts)
back_step (Item.parts h ∷ k) t ts = back_parts h k t ts
back_step (Item.others h n ∷ k) t ts = back_others h n k t ts
back_step (Item.sign s ∷ k) t ts = back_sign s k t ts
back_step (Item.word w ∷ k) t ts = leads_if _ (is_word w t.kind) _ _ ts (λ c. λ st. (ts, λ more f. (is_that_word w t.kind c, f), st)) (λ c. tt)
back_step (Item.name ∷ k) t ts = back_name k t.kind t ts refl
back_step (Item.stmt ∷ k) t ts = back_stmt k t.kind t ts refl
back_step (Item.stmts ∷ k) t ts = leads_if _ (is Sign.CloseCurly t.kind) _ _ ts
    (λ c. leads_map (step k t.kind) ts (λ st. (t ∷ ts, (Stms.no_stms, tt, λ more f. f), st)) (back_step k t ts))
    (λ c. leads_map (on_stmt (Item.stmts ∷ k) t.kind) ts
    (λ st. (st.2.0, (Stms.stm st.1.0 st.2.1.0, (st.1.1, st.2.1.1), λ more f. st.1.2 (spell_stms st.2.1.0 more) (st.2.1.2 more f)), st.2.2))
    (back_stmt (Item.stmts ∷ k) t.kind t ts refl))
back_step (Item.named ∷ k) t ts = leads_if _ (is Sign.Assign t.kind) _ _ ts
    (λ c. λ st. (
      st.2.0,
      (λ x n e. (
        Stm.set x (place n) st.1.0,
        st.1.1,
        λ more f. ((e, refl), (is_sign Sign.Assign t.kind c, st.1.3 (sign Sign.Semicolon ∷ more) (st.2.1 more f))),
      )),
      st.2.2,
    ))
    (λ c0. leads_if _ (is Sign.AddAssign t.kind) _ _ ts
    (λ c. λ st. (
      st.2.0,
      (λ x n e. (
        Stm.add x (place n) (place t) st.1.0,
        st.1.1,
        λ more f. ((e, refl), ((is_sign Sign.AddAssign t.kind c, refl), st.1.3 (sign Sign.Semicolon ∷ more) (st.2.1 more f))),
      )),
      st.2.2,
    ))
    (λ c1. leads_if _ (is Sign.OpenSquare t.kind) _ _ ts
    (λ c. λ st. (
      st.2.2.0,
      (λ x n e. st.2.2.1 x n (t ∷ ts) (place t) st.1.0 e st.1.1
          (λ more f. ((is_sign Sign.OpenSquare t.kind c, refl), st.1.3 (sign Sign.CloseSquare ∷ more) (st.2.1 more f)))),
      st.2.2.2,
    ))
    (λ c2. leads_map (on_rest k t.kind) ts (λ st.
    let u = unstack Level.Either (Item.sign Sign.Semicolon ∷ k) st.0 st.2 in (
      u.2.0,
      (λ x n e. rest_of n (t ∷ ts) (t ∷ ts) st.0 u.0 u.2.0 (Exp.name x (place n), tt, omega arith, λ more f. ((e, refl), f)) st.1 u.1
          u.2.1),
      u.2.2,
    )) (back_rest k t ts))))
back_step (Item.indexed ∷ k) t ts = leads_if _ (is Sign.Assign t.kind) _ _ ts
    (λ c. λ st. (
      st.2.0,
      (λ x n from q i e ti si. (
        Stm.put x (place n) q i st.1.0,
        (ti, st.1.1),
        λ more f. (
          (e, refl),
          si (sign Sign.Assign ∷ spell st.1.0 (sign Sign.Semicolon ∷ more))
              (is_sign Sign.Assign t.kind c, st.1.3 (sign Sign.Semicolon ∷ more) (st.2.1 more f)),
        ),
      )),
      st.2.2,
    ))
    (λ c. leads_map (on_rest k t.kind) ts (λ st.
    let u = unstack Level.Either (Item.sign Sign.Semicolon ∷ k) st.0 st.2 in (
      u.2.0,
      (λ x n from q i e ti si. rest_of n from from st.0 u.0 u.2.0 (Exp.name x (place n), tt, omega arith, λ more f. ((e, refl), f))
          (Steps.index i q st.1.0, (ti, st.1.1), λ more f. si (spell_steps st.1.0 more) (st.1.2 more f)) u.1 u.2.1),
      u.2.2,
    )) (back_rest k t ts))
back_step (Item.back ∷ k) t ts = leads_if _ (is Sign.Semicolon t.kind) _ _ ts
    (λ c. λ st. (ts, (λ r e. (Stm.leave (place r), tt, λ more f. ((e, refl), (is_sign Sign.Semicolon t.kind c, f)))), st))
    (λ c. leads_map (on_exp (Item.sign Sign.Semicolon ∷ k) t.kind) ts
    (λ st. (
      st.2.0,
      (λ r e. (
        Stm.return (place r) st.1.0,
        st.1.1,
        λ more f. ((e, refl), st.1.3 (sign Sign.Semicolon ∷ more) (st.2.1 more f)),
      )),
      st.2.2,
    )) (back_exp (Item.sign Sign.Semicolon ∷ k) t ts))
back_step (Item.block ∷ k) t ts = leads_if _ (is Sign.OpenCurly t.kind) _ _ ts
    (λ c. λ st. (
      st.2.0,
      (st.1.0, st.1.1, λ more f. (is_sign Sign.OpenCurly t.kind c, st.1.2 (sign Sign.CloseCurly ∷ more) (st.2.1 more f))),
      st.2.2,
    )) (λ c. tt)
back_step (Item.arms ∷ k) t ts = leads_if _ (is_word Word.Else t.kind) _ _ ts
    (λ c. λ st. (st.0, st.1 t (is_that_word Word.Else t.kind c), st.2))
    (λ c. leads_map (step k t.kind) ts (λ st. (t ∷ ts, (Arms.no_arms, Else.no_else, tt, tt, λ more f. f), st)) (back_step k t ts))
back_step (Item.after_else ∷ k) t ts = leads_if _ (is_word Word.If t.kind) _ _ ts
    (λ c. λ st.
    let x = test_of ts st.0 st.2.0 st.2.2.0 st.1 st.2.1 st.2.2.1 in
    let b = st.2.2.2.1 in
    let a = st.2.2.2.2.1 in (
      st.2.2.2.2.0,
      (λ r e. (
        Arms.arm (place t) x.0 b.0 a.0,
        a.1,
        (x.1, b.1, a.2),
        a.3,
        λ more f.
            let rest = spell_other_arms a.0 (spell_else a.1 more) in
            (e, ((is_that_word Word.If t.kind c, refl), x.2 (spell_block b.0 rest) (b.2 rest (a.4 more f)))),
      )),
      st.2.2.2.2.2,
    ))
    (λ c0. leads_if _ (is Sign.OpenCurly t.kind) _ _ ts
    (λ c. λ st. (
      st.2.0,
      (λ r e. (
        Arms.no_arms,
        Else.otherwise st.1.0,
        tt,
        st.1.1,
        λ more f. (e, (is_sign Sign.OpenCurly t.kind c, st.1.2 (sign Sign.CloseCurly ∷ more) (st.2.1 more f))),
      )),
      st.2.2,
    )) (λ c. tt))
back_step (Item.tops ∷ k) t ts = leads_if _ (is_word Word.Function t.kind) _ _ ts
    (λ c. λ st. (st.0, st.1 t (is_that_word Word.Function t.kind c), st.2))
    (λ c. leads_map (on_stmt (Item.tops ∷ k) t.kind) ts
    (λ st. (st.2.0, (Top.stmt st.1.0 ∷ st.2.1.0, (st.1.1, st.2.1.1), λ more f. st.1.2 (spell_tops st.2.1.0 more) (st.2.1.2 more f)), st.2.2))
    (back_stmt (Item.tops ∷ k) t.kind t ts refl))
back_step (Item.after_function ∷ k) t ts = leads_if _ (is Sign.OpenRound t.kind) _ _ ts
    (λ c. λ st.
    let ps = st.1 in
    let b = st.2.1 in
    let u = unstack Level.Either (Item.sign Sign.Semicolon ∷ Item.tops ∷ k) st.2.2.0 st.2.2.2 in
    let later = u.2.2.1 in (
      u.2.2.0,
      (λ w e.
          let s = rest_of w (t ∷ ts) st.2.0 st.2.2.0 u.0 u.2.0 (
            Exp.func (place w) ps.0 b.0,
            b.1,
            omega arith,
            λ more f. let body = spell_block b.0 more in ((e, refl), (is_sign Sign.OpenRound t.kind c, ps.1 body (b.2 more f))),
          ) st.2.2.1 u.1 u.2.1 in
          (Top.stmt s.0 ∷ later.0, (s.1, later.1), λ more f. s.2 (spell_tops later.0 more) (later.2 more f))),
      u.2.2.2,
    ))
    (λ c. leads_map (on_name (Item.sign Sign.OpenRound ∷ Item.params ∷ Item.block ∷ Item.tops ∷ k) t.kind) ts
    (λ st.
    let x = st.1 in
    let ps = st.2.2.1 in
    let b = st.2.2.2.1 in
    let later = st.2.2.2.2.1 in (
      st.2.2.2.2.0,
      (λ w e. (
        Top.fun (record { name = x.0; place = x.1; params = ps.0; body = b.0 }) ∷ later.0,
        (b.1, later.1),
        λ more f.
            let end = spell_tops later.0 more in
            let body = spell_block b.0 end in
            let inner = spell_params ps.0 (sign Sign.CloseRound ∷ body) in
            (e, x.2 (sign Sign.OpenRound ∷ inner) (st.2.1 inner (ps.1 body (b.2 end (later.2 more f))))),
      )),
      st.2.2.2.2.2,
    )) (back_name (Item.sign Sign.OpenRound ∷ Item.params ∷ Item.block ∷ Item.tops ∷ k) t.kind t ts refl))
back_step (Item.params ∷ k) t ts = leads_if _ (is Sign.CloseRound t.kind) _ _ ts
    (λ c. λ st. (ts, ([], λ more f. (is_sign Sign.CloseRound t.kind c, f)), st))
    (λ c. leads_map (on_name (Item.other_params ∷ k) t.kind) ts
    (λ st. (
      st.2.0,
      (
        record { name = st.1.0; place = st.1.1 } ∷ st.2.1.0,
        λ more f. st.1.2 (spell_other_params st.2.1.0 (sign Sign.CloseRound ∷ more)) (st.2.1.1 more f),
      ),
      st.2.2,
    ))
    (back_name (Item.other_params ∷ k) t.kind t ts refl))
back_step (Item.other_params ∷ k) t ts = leads_if _ (is Sign.Comma t.kind) _ _ ts
    (λ c. λ st. (
      st.2.0,
      (
        record { name = st.1.0; place = st.1.1 } ∷ st.2.1.0,
        λ more f. (is_sign Sign.Comma t.kind c, st.1.2 (spell_other_params st.2.1.0 (sign Sign.CloseRound ∷ more)) (st.2.1.1 more f)),
      ),
      st.2.2,
    ))
    (λ c0. leads_if _ (is Sign.CloseRound t.kind) _ _ ts (λ c. λ st. (ts, ([], λ more f. (is_sign Sign.CloseRound t.kind c, f)), st)) (λ c. tt))
