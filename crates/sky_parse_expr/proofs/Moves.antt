-- What the machine does on the tokens, as the functions of the parser see it.
use Rattle.std.proofs.Common.{◌≡◌, ℕ, zero, suc, ◌+◌, ◌≤◌, Bool, true, false, cond, List, [], ◌∷◌, length, Option, Some, None, refl, sym, ap, subst}
use Rattle.std.proofs.Common.{◌∙◌, arith}
use Rattle.std.specs.Prelude.{◌&&◌, if◌then◌else◌, Result, Ok, Err, IsErrAnd}
use Rattle.sky_base.specs.TreeView.{arith_view, order_view, sign_view}
use Rattle.sky_parse_grammar.specs.Levels.{oper_level}
use Rattle.sky_base.specs.declared.tree.ArithOp.{ArithOp}
use Rattle.sky_base.specs.declared.tree.Cmp.{Cmp}
use Rattle.sky_base.specs.declared.tree.SignOp.{SignOp}
use Rattle.sky_text.specs.declared.token.Sign.{Sign}
use Rattle.sky_text.specs.declared.token.Word.{Word}
use Rattle.sky_text.specs.declared.token.TokenKind.{TokenKind}
use Rattle.sky_text.specs.declared.token.Token.{Token}
use Rattle.sky_parse_grammar.specs.declared.level.Level.{Level}
use Rattle.sky_parse_grammar.specs.declared.parts.Shape.{Shape}
use Rattle.sky_parse_grammar.specs.declared.parts.Head.{Head}
use Rattle.sky_parse_grammar.specs.declared.parts.StepHead.{StepHead}
use Rattle.sky_parse_expr.specs.declared.look.Fail.{Fail}
use Rattle.sky_parse_grammar.specs.Signs.{is, is_word, at_sign, at_word}
use Rattle.sky_parse_grammar.specs.Levels.{rank, tighter, join_sign, opens, at_oper}
use Rattle.sky_parse_grammar.specs.Parts.{separator, full, ready, closing, step_sign, step_shape, head_shape}
use Rattle.sky_parse_grammar.specs.Grammar.{oper_sign, order_sign, prefix_sign}
use Rattle.sky_parse_grammar.specs.Machine.{Item, Out, operand_of, again, tails, is_literal, is_function, word_head, sign_head, is_prefix, step, goes, run}
use Rattle.sky_parse_grammar.specs.Machine.{kinds}
use Rattle.sky_parse_expr.specs.Runs.{Stops, Goes, at_next}
use Rattle.sky_parse_grammar.proofs.Tokens.{is_sign}

pub length_kinds : (ts : List Token) → length (kinds ts) ≡ length ts
length_kinds [] = refl
length_kinds (t ∷ ts) = ap suc (length_kinds ts)

stuck_here : (n : ℕ) (ts : List Token) → n ≡ suc (length ts) → Out.stuck (suc (length (kinds ts))) ≡ Out.stuck n
stuck_here n ts e = ap Out.stuck (ap suc (length_kinds ts) ∙ sym e)

-- What a function that was called says is what its caller says, from where the machine stood before.
stops : (e : Fail) (f g : List Item → Out) (m : List Item → List Item) → ((k : List Item) → f k ≡ g (m k)) → Stops g e → Stops f e
stops Fail.Memory f g m h s = tt
stops (Fail.Stuck n) f g m h s = λ k. h k ∙ s (m k)

pub exit : {X : Type 0} (r : Result X Fail) (e : Fail) (to : X → List Item → Out) (f g : List Item → Out) (m : List Item → List Item)
    → IsErrAnd r (λ y. y ≡ e) → ((k : List Item) → f k ≡ g (m k)) → Stops g e → Goes to f r
exit (Ok x) e to f g m h a s = absurd h
exit (Err y) e to f g m h a s = subst (λ (z : Fail). Stops f z) (sym h) (stops e f g m a s)

pub passed : {X : Type 0} (r : Result X Fail) (to : X → List Item → Out) (f g : List Item → Out) → ((k : List Item) → f k ≡ g k) → Goes to g r
    → Goes to f r
passed (Ok x) to f g a s = λ k. a k ∙ s k
passed (Err Fail.Memory) to f g a s = tt
passed (Err (Fail.Stuck n)) to f g a s = λ k. a k ∙ s k

-- Signs, words and names that have to stand first.
pub sign_none : (s : Sign) (k : List Item) (ts : List Token) → at_sign s ts ≡ false → run (Item.sign s ∷ k) (kinds ts) ≡ Out.stuck (length ts)
sign_none s k [] h = refl
sign_none s k (t ∷ ts) h = rw h (stuck_here (suc (length ts)) ts refl)

pub sign_some : (s : Sign) (k : List Item) (ts rest : List Token) (t : Token) → ts ≡ t ∷ rest → is s t.kind ≡ true
    → run (Item.sign s ∷ k) (kinds ts) ≡ run k (kinds rest)
sign_some s k ts rest t r h = rw (r, h) refl

pub word_none : (w : Word) (k : List Item) (ts : List Token) → at_word w ts ≡ false → run (Item.word w ∷ k) (kinds ts) ≡ Out.stuck (length ts)
word_none w k [] h = refl
word_none w k (t ∷ ts) h = rw h (stuck_here (suc (length ts)) ts refl)

pub word_some : (w : Word) (k : List Item) (ts rest : List Token) (t : Token) → ts ≡ t ∷ rest → is_word w t.kind ≡ true
    → run (Item.word w ∷ k) (kinds ts) ≡ run k (kinds rest)
word_some w k ts rest t r h = rw (r, h) refl

pub ruleset signs = (sign_none, sign_some, word_none, word_some)

pub name_some : (x : List ℕ) (k : List Item) (ts rest : List Token) (t : Token) → ts ≡ t ∷ rest → t.kind ≡ TokenKind.Name x
    → run (Item.name ∷ k) (kinds ts) ≡ run k (kinds rest)
name_some x k ts rest t r h = rw (r, h) refl

kind_none : (d : TokenKind) (k : List Item) (ts : List Token) → ((x : List ℕ) → d ≡ TokenKind.Name x → ⊥) → run (Item.name ∷ k) (d ∷ kinds ts)
    ≡ Out.stuck (suc (length ts))
kind_none (TokenKind.Name x) k ts n = absurd (n x refl)
kind_none (TokenKind.Number z) k ts n = stuck_here (suc (length ts)) ts refl
kind_none (TokenKind.Text x) k ts n = stuck_here (suc (length ts)) ts refl
kind_none (TokenKind.Word w) k ts n = stuck_here (suc (length ts)) ts refl
kind_none (TokenKind.Sign s) k ts n = stuck_here (suc (length ts)) ts refl

pub name_none : (k : List Item) (ts rest : List Token) (t : Token) → ts ≡ t ∷ rest → ((x : List ℕ) → t.kind ≡ TokenKind.Name x → ⊥)
    → run (Item.name ∷ k) (kinds ts) ≡ Out.stuck (length ts)
name_none k ts rest t r n = rw r (kind_none t.kind k rest n)

-- The beginning of a primary.
pub leaf_word : (w : Word) (k : List Item) (ts : List Token) → is_literal w ≡ true → run (Item.primary ∷ k) (TokenKind.Word w ∷ kinds ts)
    ≡ run k (kinds ts)
leaf_word w k ts h = rw h refl

head_not_function : (w : Word) (h : Head) → word_head w ≡ Some h → is_function w ≡ false
head_not_function Word.Function h e = absurd cc
head_not_function w h e = refl

not_function : (w : Word) → (w ≡ Word.Function → ⊥) → is_function w ≡ false
not_function Word.Function n = absurd (n refl)
not_function w n = refl

pub head_word : (w : Word) (h : Head) (k : List Item) (ts : List Token) → is_literal w ≡ false → word_head w ≡ Some h
    → run (Item.primary ∷ k) (TokenKind.Word w ∷ kinds ts) ≡ run (Item.sign Sign.OpenRound ∷ Item.parts (head_shape h) ∷ k) (kinds ts)
head_word w h k ts e f = let g = head_not_function w h f in rw (e, g, f) refl

pub no_word : (w : Word) (k : List Item) (ts : List Token) (n : ℕ) → is_literal w ≡ false → (w ≡ Word.Function → ⊥) → word_head w ≡ None → n
    ≡ suc (length ts) → run (Item.primary ∷ k) (TokenKind.Word w ∷ kinds ts) ≡ Out.stuck n
no_word w k ts n e o f g = let c = not_function w o in rw (e, c, f) (stuck_here n ts g)

pub function_word : (w : Word) (k : List Item) (ts : List Token) → w ≡ Word.Function → run (Item.primary ∷ k) (TokenKind.Word w ∷ kinds ts)
    ≡ run (Item.sign Sign.OpenRound ∷ Item.params ∷ Item.block ∷ k) (kinds ts)
function_word w k ts e = rw e refl

pub head_sign : (s : Sign) (h : Head) (k : List Item) (ts : List Token) → sign_head s ≡ Some h
    → run (Item.primary ∷ k) (TokenKind.Sign s ∷ kinds ts) ≡ run (Item.parts (head_shape h) ∷ k) (kinds ts)
head_sign s h k ts f = rw f refl

pub no_sign : (s : Sign) (k : List Item) (ts : List Token) (n : ℕ) → sign_head s ≡ None → n ≡ suc (length ts)
    → run (Item.primary ∷ k) (TokenKind.Sign s ∷ kinds ts) ≡ Out.stuck n
no_sign s k ts n f g = rw f (stuck_here n ts g)

pub on_kind : (i : List Item) (ts rest : List Token) (t : Token) (d : TokenKind) → ts ≡ t ∷ rest → t.kind ≡ d → run i (kinds ts)
    ≡ run i (d ∷ kinds rest)
on_kind i ts rest t d r h = rw (r, h) refl

-- Indices and calls.
square_goes : (k : List Item) (d : TokenKind) (ts : List Token) → d ≡ TokenKind.Sign Sign.OpenSquare → run (Item.steps ∷ k) (d ∷ kinds ts)
    ≡ run (Item.parts (Shape.Fixed 1 Sign.CloseSquare) ∷ Item.steps ∷ k) (kinds ts)
square_goes k d ts h = rw h refl

round_goes : (k : List Item) (d : TokenKind) (ts : List Token) → d ≡ TokenKind.Sign Sign.OpenRound → run (Item.steps ∷ k) (d ∷ kinds ts)
    ≡ run (Item.parts (Shape.Many Sign.CloseRound) ∷ Item.steps ∷ k) (kinds ts)
round_goes k d ts h = rw h refl

pub step_goes : (h : StepHead) (k : List Item) (ts rest : List Token) (t : Token) → ts ≡ t ∷ rest → is (step_sign h) t.kind ≡ true
    → run (Item.steps ∷ k) (kinds ts) ≡ run (Item.parts (step_shape h) ∷ Item.steps ∷ k) (kinds rest)
step_goes StepHead.Index k ts rest t r e = rw r (square_goes k t.kind rest (is_sign Sign.OpenSquare t.kind e))
step_goes StepHead.Call k ts rest t r e = rw r (round_goes k t.kind rest (is_sign Sign.OpenRound t.kind e))

pub steps_end : (k : List Item) (ts : List Token) → at_sign Sign.OpenSquare ts ≡ false → at_sign Sign.OpenRound ts ≡ false
    → run (Item.steps ∷ k) (kinds ts) ≡ run k (kinds ts)
steps_end k [] g h = refl
steps_end k (t ∷ ts) g h = rw (g, h) refl

-- Parts in brackets.
pub many_empty : (s : Sign) (k : List Item) (ts rest : List Token) (t : Token) → ts ≡ t ∷ rest → is s t.kind ≡ true
    → run (Item.parts (Shape.Many s) ∷ k) (kinds ts) ≡ run k (kinds rest)
many_empty s k ts rest t r h = rw (r, h) refl

pub many_first : (s : Sign) (k : List Item) (ts : List Token) → at_sign s ts ≡ false → run (Item.parts (Shape.Many s) ∷ k) (kinds ts)
    ≡ run (Item.level Level.Either ∷ Item.others (Shape.Many s) 1 ∷ k) (kinds ts)
many_first s k [] h = refl
many_first s k (t ∷ ts) h = rw h refl

pub pairs_empty : (k : List Item) (ts rest : List Token) (t : Token) → ts ≡ t ∷ rest → is Sign.CloseCurly t.kind ≡ true
    → run (Item.parts Shape.Pairs ∷ k) (kinds ts) ≡ run k (kinds rest)
pairs_empty k ts rest t r h = rw (r, h) refl

pub pairs_first : (k : List Item) (ts : List Token) → at_sign Sign.CloseCurly ts ≡ false → run (Item.parts Shape.Pairs ∷ k) (kinds ts)
    ≡ run (Item.level Level.Either ∷ Item.others Shape.Pairs 1 ∷ k) (kinds ts)
pairs_first k [] h = refl
pairs_first k (t ∷ ts) h = rw h refl

pub fixed_first : (m : ℕ) (s : Sign) (k : List Item) (ts : List Token) → run (Item.parts (Shape.Fixed m s) ∷ k) (kinds ts)
    ≡ run (Item.level Level.Either ∷ Item.others (Shape.Fixed m s) 1 ∷ k) (kinds ts)
fixed_first m s k [] = refl
fixed_first m s k (t ∷ ts) = refl

pub others_goes : (h : Shape) (n : ℕ) (k : List Item) (ts rest : List Token) (t : Token) → full h n ≡ false → ts ≡ t ∷ rest
    → is (separator h n) t.kind ≡ true
    → run (Item.others h n ∷ k) (kinds ts) ≡ run (Item.level Level.Either ∷ Item.others h (suc n) ∷ k) (kinds rest)
others_goes h n k ts rest t f r e = rw (r, f, e) refl

pub full_ends : (h : Shape) (n : ℕ) (ts : List Token) → full h n ≡ true → at_next h n ts ≡ false
full_ends h n ts f = rw f refl

pub none_next : (h : Shape) (n : ℕ) (ts : List Token) → full h n ≡ false → at_sign (separator h n) ts ≡ false → at_next h n ts ≡ false
none_next h n ts f e = rw f e

-- behind the parts only the sign that closes them goes on, and only where they are enough
close_step : (b f g : Bool) (k l : List Item) → cond f false g ≡ false → cond f (cond b (Some k) None) (cond g (Some l) (cond b (Some k) None))
    ≡ cond b (Some k) None
close_step b true g k l e = refl
close_step b false true k l e = absurd cc
close_step b false false k l e = refl

closes_on : (h : Shape) (n : ℕ) (k : List Item) (t : Token) (ts : List Token) → at_next h n (t ∷ ts) ≡ false → step (Item.others h n ∷ k) t.kind
    ≡ (if ready h n && is (closing h) t.kind then Some k else None)
closes_on h n k t ts e = close_step (ready h n && is (closing h) t.kind) (full h n) (is (separator h n) t.kind) k
    (Item.level Level.Either ∷ Item.others h (suc n) ∷ k) e

pub close_goes : (h : Shape) (n : ℕ) (k : List Item) (ts : List Token) → at_next h n ts ≡ false → ready h n ≡ true
    → run (Item.others h n ∷ k) (kinds ts) ≡ run (Item.sign (closing h) ∷ k) (kinds ts)
close_goes h n k [] e r = refl
close_goes h n k (t ∷ ts) e r =
    let last : step (Item.others h n ∷ k) t.kind ≡ (if is (closing h) t.kind then Some k else None) = closes_on h n k t ts e
    ∙ ap (λ (b : Bool). if b && is (closing h) t.kind then Some k else None) r in
    ap (λ (o : Option (List Item)). goes o (λ l. run l (kinds ts)) (Out.stuck (suc (length (kinds ts))))) last

pub close_none : (h : Shape) (n : ℕ) (k : List Item) (ts : List Token) → at_next h n ts ≡ false → ready h n ≡ false
    → run (Item.others h n ∷ k) (kinds ts) ≡ Out.stuck (length ts)
close_none h n k [] e r = refl
close_none h n k (t ∷ ts) e r =
    let last : step (Item.others h n ∷ k) t.kind ≡ None = closes_on h n k t ts e
    ∙ ap (λ (b : Bool). if b && is (closing h) t.kind then Some k else None) r in
    ap (λ (o : Option (List Item)). goes o (λ l. run l (kinds ts)) (Out.stuck (suc (length (kinds ts))))) last ∙ stuck_here (suc (length ts)) ts refl

pub ruleset shapes = (many_empty, many_first, pairs_empty, pairs_first, fixed_first, full_ends, none_next, close_goes, close_none)

-- Signs of a prefix.
prefix_opens : (o : SignOp) → is_prefix (TokenKind.Sign (prefix_sign (sign_view o))) ≡ true
prefix_opens SignOp.Not = refl
prefix_opens SignOp.Minus = refl
prefix_opens SignOp.Star = refl

pub prefix_goes : (o : SignOp) (k : List Item) (ts rest : List Token) (t : Token) → ts ≡ t ∷ rest → is (prefix_sign (sign_view o)) t.kind ≡ true
    → run (Item.level Level.Prefix ∷ k) (kinds ts) ≡ run (Item.level Level.Prefix ∷ k) (kinds rest)
prefix_goes o k ts rest t r h = let d = is_sign (prefix_sign (sign_view o)) t.kind h in let p = prefix_opens o in rw (r, d, p) refl

pub prefix_ends : (k : List Item) (ts : List Token) → at_sign Sign.Not ts ≡ false → at_sign Sign.Minus ts ≡ false → at_sign Sign.Star ts ≡ false
    → run (Item.level Level.Prefix ∷ k) (kinds ts) ≡ run (Item.stepped ∷ k) (kinds ts)
prefix_ends k [] e f g = refl
prefix_ends k (t ∷ ts) e f g = rw (e, f, g) refl

pub stepped_is : (k : List Item) (ts : List Token) → run (Item.stepped ∷ k) (kinds ts) ≡ run (Item.primary ∷ Item.steps ∷ k) (kinds ts)
stepped_is k [] = refl
stepped_is k (t ∷ ts) = refl

-- Levels.
tails_of : Option Level → Level → List Item → List Item
tails_of None l k = k
tails_of (Some m) l k = tails m (Item.tail l ∷ k)

tails_are : (l : Level) (k : List Item) → tails l k ≡ tails_of (tighter l) l k
unfolding tails_of
tails_are Level.Either k = refl
tails_are Level.Both k = refl
tails_are Level.Comparison k = refl
tails_are Level.Sum k = refl
tails_are Level.Product k = refl
tails_are Level.Prefix k = refl

pub tails_on : (l m : Level) (k : List Item) → tighter l ≡ Some m → tails l k ≡ tails m (Item.tail l ∷ k)
unfolding tails_of
tails_on l m k e = tails_are l k ∙ ap (λ (o : Option Level). tails_of o l k) e

pub tails_end : (l : Level) (k : List Item) → tighter l ≡ None → tails l k ≡ k
unfolding tails_of
tails_end l k e = tails_are l k ∙ ap (λ (o : Option Level). tails_of o l k) e

ranked : ℕ → Level
ranked zero = Level.Either
ranked (suc zero) = Level.Both
ranked (suc (suc zero)) = Level.Comparison
ranked (suc (suc (suc zero))) = Level.Sum
ranked (suc (suc (suc (suc zero)))) = Level.Product
ranked (suc (suc (suc (suc (suc n))))) = Level.Prefix

ranked_is : (l : Level) → ranked (rank l) ≡ l
unfolding ranked
ranked_is Level.Either = refl
ranked_is Level.Both = refl
ranked_is Level.Comparison = refl
ranked_is Level.Sum = refl
ranked_is Level.Product = refl
ranked_is Level.Prefix = refl

ranked_next : (l : Level) → ranked (rank l + 1) ≡ operand_of l
unfolding ranked
ranked_next Level.Either = refl
ranked_next Level.Both = refl
ranked_next Level.Comparison = refl
ranked_next Level.Sum = refl
ranked_next Level.Product = refl
ranked_next Level.Prefix = refl

pub inner_is : (l m : Level) → rank m ≡ rank l + 1 → m ≡ operand_of l
inner_is l m e = sym (ranked_is m) ∙ ap ranked e ∙ ranked_next l

again_join : (l : Level) (k : List Item) → rank l ≤ 1 → again l k ≡ Item.tail l ∷ k
again_join Level.Either k h = refl
again_join Level.Both k h = refl
again_join Level.Comparison k h = absurd (omega (arith, h))
again_join Level.Sum k h = absurd (omega (arith, h))
again_join Level.Product k h = absurd (omega (arith, h))
again_join Level.Prefix k h = absurd (omega (arith, h))

again_link : (l : Level) (k : List Item) → 3 ≤ rank l → rank l ≤ 4 → again l k ≡ Item.tail l ∷ k
again_link Level.Either k h g = absurd (omega (arith, h))
again_link Level.Both k h g = absurd (omega (arith, h))
again_link Level.Comparison k h g = absurd (omega (arith, h))
again_link Level.Sum k h g = refl
again_link Level.Product k h g = refl
again_link Level.Prefix k h g = absurd (omega (arith, g))

oper_opens : (o : ArithOp) → opens (ranked (oper_level (arith_view o))) (TokenKind.Sign (oper_sign (arith_view o))) ≡ true
unfolding ranked
oper_opens ArithOp.Plus = refl
oper_opens ArithOp.Minus = refl
oper_opens ArithOp.Times = refl
oper_opens ArithOp.Over = refl
oper_opens ArithOp.Rest = refl

link_opens : (l : Level) (o : ArithOp) (d : TokenKind) → is (oper_sign (arith_view o)) d ≡ true → oper_level (arith_view o) ≡ rank l → opens l d
    ≡ true
link_opens l o d h e =
    let level : l ≡ ranked (oper_level (arith_view o)) = sym (ranked_is l) ∙ ap ranked (sym e) in
    let kind = is_sign (oper_sign (arith_view o)) d h in
    ap (λ (m : Level). opens m d) level ∙ ap (opens (ranked (oper_level (arith_view o)))) kind ∙ oper_opens o

order_opens : (o : Cmp) → opens Level.Comparison (TokenKind.Sign (order_sign (order_view o))) ≡ true
order_opens Cmp.Eq = refl
order_opens Cmp.Ne = refl
order_opens Cmp.Lt = refl
order_opens Cmp.Le = refl
order_opens Cmp.Gt = refl
order_opens Cmp.Ge = refl

join_opens : (l : Level) (d : TokenKind) → rank l ≤ 1 → is (join_sign l) d ≡ opens l d
join_opens Level.Either d h = refl
join_opens Level.Both d h = refl
join_opens Level.Comparison d h = absurd (omega (arith, h))
join_opens Level.Sum d h = absurd (omega (arith, h))
join_opens Level.Product d h = absurd (omega (arith, h))
join_opens Level.Prefix d h = absurd (omega (arith, h))

tail_goes : (l : Level) (k : List Item) (ts rest : List Token) (t : Token) → ts ≡ t ∷ rest → opens l t.kind ≡ true
    → run (Item.tail l ∷ k) (kinds ts) ≡ run (Item.level (operand_of l) ∷ again l k) (kinds rest)
tail_goes l k ts rest t r h = rw (r, h) refl

pub tail_ends : (l : Level) (k : List Item) (ts : List Token) → at_oper l ts ≡ false → run (Item.tail l ∷ k) (kinds ts) ≡ run k (kinds ts)
tail_ends l k [] h = refl
tail_ends l k (t ∷ ts) h = rw h refl

never : (ts : List Token) → at_oper Level.Prefix ts ≡ false
never [] = refl
never (t ∷ ts) = refl

pub prefix_tail : (l : Level) (k : List Item) (ts : List Token) → l ≡ Level.Prefix → run (Item.tail l ∷ k) (kinds ts) ≡ run k (kinds ts)
prefix_tail l k ts e = ap (λ (m : Level). run (Item.tail m ∷ k) (kinds ts)) e ∙ tail_ends Level.Prefix k ts (never ts)

pub link_goes : (l m : Level) (o : ArithOp) (k : List Item) (ts rest : List Token) (t : Token) → rank m ≡ rank l + 1 → 3 ≤ rank l → rank l ≤ 4
    → ts ≡ t ∷ rest → is (oper_sign (arith_view o)) t.kind ≡ true → oper_level (arith_view o) ≡ rank l
    → run (Item.tail l ∷ k) (kinds ts) ≡ run (Item.level m ∷ Item.tail l ∷ k) (kinds rest)
link_goes l m o k ts rest t e a b r h g = tail_goes l k ts rest t r (link_opens l o t.kind h g)
    ∙ ap (λ (n : Level). run (Item.level n ∷ again l k) (kinds rest)) (sym (inner_is l m e))
    ∙ ap (λ (i : List Item). run (Item.level m ∷ i) (kinds rest)) (again_link l k a b)

pub join_goes : (l m : Level) (k : List Item) (ts rest : List Token) (t : Token) → rank m ≡ rank l + 1 → rank l ≤ 1 → ts ≡ t ∷ rest
    → is (join_sign l) t.kind ≡ true
    → run (Item.tail l ∷ k) (kinds ts) ≡ run (Item.level m ∷ Item.tail l ∷ k) (kinds rest)
join_goes l m k ts rest t e a r h = tail_goes l k ts rest t r (sym (join_opens l t.kind a) ∙ h)
    ∙ ap (λ (n : Level). run (Item.level n ∷ again l k) (kinds rest)) (sym (inner_is l m e))
    ∙ ap (λ (i : List Item). run (Item.level m ∷ i) (kinds rest)) (again_join l k a)

join_at : (l : Level) (ts : List Token) → rank l ≤ 1 → at_sign (join_sign l) ts ≡ at_oper l ts
join_at l [] a = refl
join_at l (t ∷ ts) a = join_opens l t.kind a

pub join_ends : (l : Level) (k : List Item) (ts : List Token) → rank l ≤ 1 → at_sign (join_sign l) ts ≡ false → run (Item.tail l ∷ k) (kinds ts)
    ≡ run k (kinds ts)
join_ends l k ts a h = tail_ends l k ts (sym (join_at l ts a) ∙ h)

pub compare_goes : (m : Level) (o : Cmp) (k : List Item) (ts rest : List Token) (t : Token) → rank m ≡ 3 → ts ≡ t ∷ rest
    → is (order_sign (order_view o)) t.kind ≡ true
    → run (Item.tail Level.Comparison ∷ k) (kinds ts) ≡ run (Item.level m ∷ k) (kinds rest)
compare_goes m o k ts rest t e r h = tail_goes Level.Comparison k ts rest t r
    (ap (opens Level.Comparison) (is_sign (order_sign (order_view o)) t.kind h) ∙ order_opens o)
    ∙ ap (λ (n : Level). run (Item.level n ∷ k) (kinds rest)) (sym (inner_is Level.Comparison m e))
