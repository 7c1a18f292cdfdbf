-- What may stand for the items that are still to come, and how it is put together.
use Rattle.std.proofs.Common.{◌≡◌, ℕ, suc, ◌+◌, ◌≤◌, Bool, true, false, List, [], ◌∷◌, refl, sym, subst, arith}
use Rattle.std.specs.Prelude.{◌==◌, ◌%◌}
use Rattle.sky_base.specs.Tree.{Place, Oper, Junction, SignAt}
use Rattle.sky_parse_grammar.specs.Levels.{oper_level, junction_level}
use Rattle.sky_text.specs.declared.token.Sign.{Sign}
use Rattle.sky_text.specs.declared.token.Word.{Word}
use Rattle.sky_text.specs.declared.token.TokenKind.{TokenKind}
use Rattle.sky_text.specs.declared.token.Token.{Token}
use Rattle.sky_parse_grammar.specs.declared.level.Level.{Level}
use Rattle.sky_parse_grammar.specs.declared.parts.Shape.{Shape}
use Rattle.sky_parse_grammar.specs.Levels.{rank}
use Rattle.sky_parse_grammar.specs.Parts.{Has, spell_parts}
use Rattle.sky_parse_grammar.specs.Grammar.{started, Mark, sign, sign_at, word, name_at, prefix_sign, spell, spell_links, spell_ands, spell_steps}
use Rattle.sky_parse_grammar.specs.Grammar.{spell_exps, spell_others, spell_value, spell_other_pairs, spell_test, spell_block, spell_stm, spell_stms}
use Rattle.sky_parse_grammar.specs.Grammar.{spell_other_arms, spell_else, spell_params, spell_other_params, paired, valued, IsTree, AreTrees, AreLinks}
use Rattle.sky_parse_grammar.specs.Grammar.{AreAnds, AreSteps, IsStm, AreStms, AreArms, IsElse, place, Fits, Follows, Spelled}
use Rattle.sky_parse_grammar.specs.Source.{Param}
use Rattle.sky_parse_grammar.specs.Tops.{Top, spell_tops, AreTops}
use Rattle.sky_parse_grammar.specs.Machine.{Item, tails}
use Rattle.sky_parse_grammar.specs.Source.{Exp, Exps, Links, Ands, Steps, Stm, Stms, Arms, Else, level, links_level, exps_count, links_enough}

pub start_fits : (p : Place) (ms : List Mark) (t : Token) (ts : List Token) → p ≡ place t → Follows ms (t ∷ ts) → Follows (started p ms) (t ∷ ts)
start_fits p [] t ts e f = f
start_fits p (m ∷ ms) t ts e f = ((e, f.0), f.1)

-- an expression of at least this level
abbrev pub At : ℕ → List Token → List Token → Type 0
At n ts rest = (e : Exp) × IsTree e × (n ≤ level e) × Spelled (spell e) ts rest

-- what may follow an operand
abbrev pub Joins : Junction → List Token → List Token → Type 0
Joins j ts rest = (ls : Ands) × AreAnds (junction_level j) ls × Spelled (spell_ands j ls) ts rest

abbrev pub Chain : ℕ → List Token → List Token → Type 0
Chain n ts rest = (ls : Links) × AreLinks n ls × Spelled (spell_links ls) ts rest

-- a comparison has one operator
abbrev pub one_at_most : Links → Bool
one_at_most Links.no_links = true
one_at_most (Links.link o p e Links.no_links) = true
one_at_most (Links.link o p e (Links.link q r f ls)) = false

abbrev pub Tail : Level → List Token → List Token → Type 0
Tail Level.Either ts rest = Joins Junction.either ts rest
Tail Level.Both ts rest = Joins Junction.both ts rest
Tail Level.Comparison ts rest = (ls : Links) × AreLinks 2 ls × (one_at_most ls ≡ true) × Spelled (spell_links ls) ts rest
Tail Level.Sum ts rest = Chain 3 ts rest
Tail Level.Product ts rest = Chain 4 ts rest
Tail Level.Prefix ts rest = ts ≡ rest

-- the chains that may follow an operand, up to a level
abbrev pub ToSum : List Token → List Token → Type 0
ToSum ts rest = (a : List Token) × Tail Level.Product ts a × Tail Level.Sum a rest

abbrev pub ToComparison : List Token → List Token → Type 0
ToComparison ts rest = (a : List Token) × ToSum ts a × Tail Level.Comparison a rest

abbrev pub ToBoth : List Token → List Token → Type 0
ToBoth ts rest = (a : List Token) × ToComparison ts a × Tail Level.Both a rest

abbrev pub ToEither : List Token → List Token → Type 0
ToEither ts rest = (a : List Token) × ToBoth ts a × Tail Level.Either a rest

abbrev pub Chains : Level → List Token → List Token → Type 0
Chains Level.Prefix ts rest = ts ≡ rest
Chains Level.Product ts rest = Tail Level.Product ts rest
Chains Level.Sum ts rest = ToSum ts rest
Chains Level.Comparison ts rest = ToComparison ts rest
Chains Level.Both ts rest = ToBoth ts rest
Chains Level.Either ts rest = ToEither ts rest

abbrev pub StepsOf : List Token → List Token → Type 0
StepsOf ts rest = (ss : Steps) × AreSteps ss × Spelled (spell_steps ss) ts rest

-- a form that takes so many parts takes at least one
abbrev pub Possible : Shape → Type 0
Possible (Shape.Many s) = Unit {0}
Possible (Shape.Fixed m s) = 1 ≤ m
Possible Shape.Pairs = Unit {0}

abbrev pub Parts : Shape → List Token → List Token → Type 0
Parts h ts rest = Possible h → (es : Exps) × AreTrees es × Has h es × Spelled (spell_parts h es) ts rest

-- behind a key, or behind a value
abbrev pub Pairs : Bool → List Token → List Token → Type 0
Pairs true ts rest = (es : Exps) × AreTrees es × (valued es ≡ true) × Spelled (λ more. spell_value es (sign Sign.CloseCurly ∷ more)) ts rest
Pairs false ts rest = (es : Exps) × AreTrees es × (paired es ≡ true) × Spelled (λ more. spell_other_pairs es (sign Sign.CloseCurly ∷ more)) ts rest

-- behind so many parts
abbrev pub Others : Shape → ℕ → List Token → List Token → Type 0
Others (Shape.Many s) n ts rest = (es : Exps) × AreTrees es × Spelled (λ more. spell_others es (sign s ∷ more)) ts rest
Others (Shape.Fixed m s) n ts rest = n ≤ m → (es : Exps) × AreTrees es × (n + exps_count es ≡ m)
    × Spelled (λ more. spell_others es (sign s ∷ more)) ts rest
Others Shape.Pairs n ts rest = Pairs (n % 2 == 1) ts rest

abbrev pub ASign : Sign → List Token → List Token → Type 0
ASign s ts rest = Spelled (λ more. sign s ∷ more) ts rest

abbrev pub AWord : Word → List Token → List Token → Type 0
AWord w ts rest = Spelled (λ more. word w ∷ more) ts rest

abbrev pub AName : List Token → List Token → Type 0
AName ts rest = (x : List ℕ) × (p : Place) × Spelled (λ more. name_at x p ∷ more) ts rest

abbrev pub AStm : List Token → List Token → Type 0
AStm ts rest = (s : Stm) × IsStm s × Spelled (spell_stm s) ts rest

abbrev pub Block : List Token → List Token → Type 0
Block ts rest = (b : Stms) × AreStms b × Spelled (spell_block b) ts rest

abbrev pub OtherArms : List Token → List Token → Type 0
OtherArms ts rest = (arms : Arms) × (el : Else) × AreArms arms × IsElse el × Spelled (λ more. spell_other_arms arms (spell_else el more)) ts rest

-- What may stand for an item. Behind a word or a name that was taken already, it is what the whole may be with it.
abbrev pub Means : Item → List Token → List Token → Type 0
Means (Item.level l) ts rest = At (rank l) ts rest
Means (Item.tail l) ts rest = Tail l ts rest
Means Item.stepped ts rest = At 6 ts rest
Means Item.primary ts rest = At 7 ts rest
Means Item.steps ts rest = StepsOf ts rest
Means (Item.parts h) ts rest = Parts h ts rest
Means (Item.others h n) ts rest = Others h n ts rest
Means (Item.sign s) ts rest = ASign s ts rest
Means (Item.word w) ts rest = AWord w ts rest
Means Item.name ts rest = AName ts rest
Means Item.stmt ts rest = AStm ts rest
Means Item.stmts ts rest = (ss : Stms) × AreStms ss × Spelled (spell_stms ss) ts rest
Means Item.named ts rest = (x : List ℕ) (t : Token) → t.kind ≡ TokenKind.Name x → AStm (t ∷ ts) rest
Means Item.indexed ts rest = (x : List ℕ) (t : Token) (from : List Token) (q : Place) (i : Exp) → t.kind ≡ TokenKind.Name x → IsTree i
    → Spelled (λ more. sign_at Sign.OpenSquare q ∷ spell i (sign Sign.CloseSquare ∷ more)) from ts → AStm (t ∷ from) rest
Means Item.back ts rest = (t : Token) → t.kind ≡ TokenKind.Word Word.Return → AStm (t ∷ ts) rest
Means Item.block ts rest = Block ts rest
Means Item.arms ts rest = OtherArms ts rest
Means Item.after_else ts rest = (t : Token) → t.kind ≡ TokenKind.Word Word.Else → OtherArms (t ∷ ts) rest
Means Item.tops ts rest = (tops : List Top) × AreTops tops × Spelled (spell_tops tops) ts rest
Means Item.after_function ts rest = (t : Token) → t.kind ≡ TokenKind.Word Word.Function → (tops : List Top) × AreTops tops
    × Spelled (spell_tops tops) (t ∷ ts) rest
Means Item.params ts rest = (ps : List Param) × Spelled (λ more. spell_params ps (sign Sign.CloseRound ∷ more)) ts rest
Means Item.other_params ts rest = (ps : List Param) × Spelled (λ more. spell_other_params ps (sign Sign.CloseRound ∷ more)) ts rest

-- the tokens stand for the items, and end with them
abbrev pub Stack : List Item → List Token → Type 0
Stack [] ts = ts ≡ []
Stack (i ∷ k) ts = (rest : List Token) × Means i ts rest × Stack k rest

pub lower : (m n : ℕ) (a b : List Token) → m ≤ n → At n a b → At m a b
lower m n a b h p = (p.0, p.1, omega (arith, h, p.2), p.3)

pub with_steps : (a b c : List Token) → At 7 a b → StepsOf b c → At 6 a c
with_steps a b c p (Steps.no_steps, h, s) = (p.0, p.1, omega (arith, p.2), λ more f. p.3 more (s more f))
with_steps a b c p (Steps.index e q ss, h, s) =
    (Exp.postfix p.0 (Steps.index e q ss), (p.1, p.2, h, refl), omega arith, λ more f. p.3 (spell_steps (Steps.index e q ss) more) (s more f))
with_steps a b c p (Steps.call es q ss, h, s) =
    (Exp.postfix p.0 (Steps.call es q ss), (p.1, p.2, h, refl), omega arith, λ more f. p.3 (spell_steps (Steps.call es q ss) more) (s more f))

with_joins : (j : Junction) (a b c : List Token) → At (suc (junction_level j)) a b → Joins j b c → At (junction_level j) a c
with_joins j a b c p (Ands.no_ands, h, s) = (p.0, p.1, omega (arith, p.2), λ more f. p.3 more (s more f))
with_joins j a b c p (Ands.and q e ls, h, s) = (
  Exp.logic j p.0 (Ands.and q e ls),
  (p.1, omega (arith, p.2), h, refl),
  omega arith,
  λ more f. p.3 (spell_ands j (Ands.and q e ls) more) (s more f),
)

enough : (o : Oper) (p : Place) (e : Exp) (ls : Links) → 3 ≤ oper_level o → links_enough (Links.link o p e ls) ≡ true
enough Oper.plus p e ls h = refl
enough Oper.minus p e ls h = refl
enough Oper.times p e ls h = refl
enough Oper.over p e ls h = refl
enough Oper.rest p e ls h = refl
enough (Oper.compare o) p e ls h = absurd (omega arith)

with_chain : (n : ℕ) (a b c : List Token) → 3 ≤ n → At (suc n) a b → Chain n b c → At n a c
with_chain n a b c g p (Links.no_links, h, s) = (p.0, p.1, omega (arith, p.2), λ more f. p.3 more (s more f))
with_chain n a b c g p (Links.link o q e ls, h, s) =
    let same = h.0 in
    let links : AreLinks (oper_level o) (Links.link o q e ls) = subst (λ (m : ℕ). AreLinks m (Links.link o q e ls)) (sym same) h in (
      Exp.chain p.0 (Links.link o q e ls),
      (p.1, omega (arith, p.2, same), links, enough o q e ls (omega (arith, g, same))),
      omega (arith, same),
      λ more f. p.3 (spell_links (Links.link o q e ls) more) (s more f),
    )

with_comparison : (a b c : List Token) → At 3 a b → Tail Level.Comparison b c → At 2 a c
with_comparison a b c p (Links.no_links, h, one, s) = (p.0, p.1, omega (arith, p.2), λ more f. p.3 more (s more f))
with_comparison a b c p (Links.link o q e (Links.link r u g ls), h, one, s) = absurd cc
with_comparison a b c p (Links.link Oper.plus q e Links.no_links, h, one, s) = absurd (omega (arith, h.0))
with_comparison a b c p (Links.link Oper.minus q e Links.no_links, h, one, s) = absurd (omega (arith, h.0))
with_comparison a b c p (Links.link Oper.times q e Links.no_links, h, one, s) = absurd (omega (arith, h.0))
with_comparison a b c p (Links.link Oper.over q e Links.no_links, h, one, s) = absurd (omega (arith, h.0))
with_comparison a b c p (Links.link Oper.rest q e Links.no_links, h, one, s) = absurd (omega (arith, h.0))
with_comparison a b c p (Links.link (Oper.compare o) q e Links.no_links, h, one, s) = (
  Exp.chain p.0 (Links.link (Oper.compare o) q e Links.no_links),
  (p.1, omega (arith, p.2), h, refl),
  omega arith,
  λ more f. p.3 (spell_links (Links.link (Oper.compare o) q e Links.no_links) more) (s more f),
)

to_sum : (a b c : List Token) → At 5 a b → ToSum b c → At 3 a c
to_sum a b c p x = with_chain 3 a x.0 c (omega arith) (with_chain 4 a b x.0 (omega arith) p x.1) x.2

to_comparison : (a b c : List Token) → At 5 a b → ToComparison b c → At 2 a c
to_comparison a b c p x = with_comparison a x.0 c (to_sum a b x.0 p x.1) x.2

to_both : (a b c : List Token) → At 5 a b → ToBoth b c → At 1 a c
to_both a b c p x = with_joins Junction.both a x.0 c (to_comparison a b x.0 p x.1) x.2

-- an operand and what follows it are an expression of the level
pub gather : (l : Level) (a b c : List Token) → At 5 a b → Chains l b c → At (rank l) a c
gather Level.Prefix a b c p e = subst (λ (r : List Token). At 5 a r) e p
gather Level.Product a b c p t = with_chain 4 a b c (omega arith) p t
gather Level.Sum a b c p x = to_sum a b c p x
gather Level.Comparison a b c p x = to_comparison a b c p x
gather Level.Both a b c p x = to_both a b c p x
gather Level.Either a b c p x = with_joins Junction.either a x.0 c (to_both a b x.0 p x.1) x.2

abbrev pub Unstacked : Level → List Item → List Token → Type 0
Unstacked l k ts = (rest : List Token) × Chains l ts rest × Stack k rest

un_sum : (k : List Item) (ts : List Token) → Stack (tails Level.Sum k) ts → Unstacked Level.Sum k ts
un_sum k ts st = (st.2.0, (st.0, st.1, st.2.1), st.2.2)

un_comparison : (k : List Item) (ts : List Token) → Stack (tails Level.Comparison k) ts → Unstacked Level.Comparison k ts
un_comparison k ts st = let u = un_sum (Item.tail Level.Comparison ∷ k) ts st in (u.2.0, (u.0, u.1, u.2.1), u.2.2)

un_both : (k : List Item) (ts : List Token) → Stack (tails Level.Both k) ts → Unstacked Level.Both k ts
un_both k ts st = let u = un_comparison (Item.tail Level.Both ∷ k) ts st in (u.2.0, (u.0, u.1, u.2.1), u.2.2)

pub unstack : (l : Level) (k : List Item) (ts : List Token) → Stack (tails l k) ts → Unstacked l k ts
unstack Level.Prefix k ts st = (ts, refl, st)
unstack Level.Product k ts st = (st.0, st.1, st.2)
unstack Level.Sum k ts st = un_sum k ts st
unstack Level.Comparison k ts st = un_comparison k ts st
unstack Level.Both k ts st = un_both k ts st
unstack Level.Either k ts st = let u = un_both (Item.tail Level.Either ∷ k) ts st in (u.2.0, (u.0, u.1, u.2.1), u.2.2)

pub links_low : (ls : Links) → links_level ls ≤ 4
links_low Links.no_links = omega arith
links_low (Links.link Oper.plus p e ls) = omega arith
links_low (Links.link Oper.minus p e ls) = omega arith
links_low (Links.link Oper.times p e ls) = omega arith
links_low (Links.link Oper.over p e ls) = omega arith
links_low (Links.link Oper.rest p e ls) = omega arith
links_low (Links.link (Oper.compare o) p e ls) = omega arith

pub junction_low : (j : Junction) → junction_level j ≤ 1
junction_low Junction.both = omega arith
junction_low Junction.either = omega arith

one_sign : (s : SignAt) (t : Token) (ts rest : List Token) (e : Exp) → Fits (sign_at (prefix_sign s.sign) s.place) t → IsTree e → 6 ≤ level e
    → Spelled (spell e) ts rest → At 5 (t ∷ ts) rest
one_sign s t ts rest e fit h l g = (Exp.prefix (s ∷ []) e, (h, l, refl), omega arith, λ more f. (fit, g more f))

-- a sign in front of an operand
pub with_sign : (s : SignAt) (t : Token) (ts rest : List Token) → Fits (sign_at (prefix_sign s.sign) s.place) t → At 5 ts rest → At 5 (t ∷ ts) rest
with_sign s t ts rest fit (Exp.literal v p, h, l, g) = one_sign s t ts rest (Exp.literal v p) fit h (omega arith) g
with_sign s t ts rest fit (Exp.name x p, h, l, g) = one_sign s t ts rest (Exp.name x p) fit h (omega arith) g
with_sign s t ts rest fit (Exp.func p xs b, h, l, g) = one_sign s t ts rest (Exp.func p xs b) fit h (omega arith) g
with_sign s t ts rest fit (Exp.parens e, h, l, g) = one_sign s t ts rest (Exp.parens e) fit h (omega arith) g
with_sign s t ts rest fit (Exp.parts o p es, h, l, g) = one_sign s t ts rest (Exp.parts o p es) fit h (omega arith) g
with_sign s t ts rest fit (Exp.chain e ls, h, l, g) = absurd (omega (arith, l, links_low ls))
with_sign s t ts rest fit (Exp.logic j e ls, h, l, g) = absurd (omega (arith, l, junction_low j))
with_sign s t ts rest fit (Exp.prefix ss e, h, l, g) = (Exp.prefix (s ∷ ss) e, (h.0, h.1, refl), omega arith, λ more f. (fit, g more f))
with_sign s t ts rest fit (Exp.postfix e ss, h, l, g) = one_sign s t ts rest (Exp.postfix e ss) fit h (omega arith) g

-- one part alone
pub single : (s : Sign) (a b : List Token) → Parts (Shape.Fixed 1 s) a b → (e : Exp) × IsTree e × Spelled (λ more. spell e (sign s ∷ more)) a b
single s a b p = single_of s a b (p (omega arith))
  where
    single_of : (s : Sign) (a b : List Token) → (es : Exps) × AreTrees es × (exps_count es ≡ 1)
        × Spelled (λ more. spell_exps es (sign s ∷ more)) a b → (e : Exp) × IsTree e × Spelled (λ more. spell e (sign s ∷ more)) a b
    single_of s a b (Exps.no_exps, h, n, g) = absurd (omega (arith, n))
    single_of s a b (Exps.exp e Exps.no_exps, h, n, g) = (e, h.0, g)
    single_of s a b (Exps.exp e (Exps.exp f es), h, n, g) = absurd (omega (arith, n))

-- a test in parentheses
abbrev pub Test : List Token → List Token → Type 0
Test ts rest = (e : Exp) × IsTree e × Spelled (spell_test e) ts rest

pub test_of : (a b c d : List Token) → ASign Sign.OpenRound a b → At 0 b c → ASign Sign.CloseRound c d → Test a d
test_of a b c d o e s = (e.0, e.1, λ more f. o (spell e.0 (sign Sign.CloseRound ∷ more)) (e.3 (sign Sign.CloseRound ∷ more) (s more f)))

-- an expression and its semicolon are a statement
pub just_of : (t : Token) (ts a rest : List Token) → At 0 (t ∷ ts) a → ASign Sign.Semicolon a rest → AStm (t ∷ ts) rest
just_of t ts a rest e s = (
  Stm.just (place t) e.0,
  e.1,
  λ more f. start_fits (place t) (spell e.0 (sign Sign.Semicolon ∷ more)) t ts refl (e.3 (sign Sign.Semicolon ∷ more) (s more f)),
)

-- so they are where the expression begins with a name
pub rest_of : (t : Token) (from a b c rest : List Token) → At 7 (t ∷ from) a → StepsOf a b → Chains Level.Either b c
    → ASign Sign.Semicolon c rest → AStm (t ∷ from) rest
rest_of t from a b c rest p ss ls s = just_of t from c rest
    (gather Level.Either (t ∷ from) b c (lower 5 6 (t ∷ from) b (omega arith) (with_steps (t ∷ from) a b p ss)) ls) s

pub unplaced : (k : TokenKind) (p : Place) (more : List Mark) (ts : List Token) → Follows (Mark.placed k p ∷ more) ts
    → Follows (Mark.plain k ∷ more) ts
unplaced k p more [] f = absurd f
unplaced k p more (t ∷ ts) f = (f.0.0, f.1)
