-- What is still to come, from token to token: the grammar as a machine that takes one token a step. It is
-- structural on the tokens, so a reader that stops is stuck whatever follows.
use Rattle.std.specs.Prelude.{ℕ, suc, ◌&&◌, ◌||◌, if◌then◌else◌, Bool, true, false, List, [], ◌∷◌, length, Option, Some, None}
use Rattle.sky_text.specs.declared.token.Sign.{Sign}
use Rattle.sky_text.specs.declared.token.Word.{Word}
use Rattle.sky_text.specs.declared.token.TokenKind.{TokenKind}
use Rattle.sky_text.specs.declared.token.Token.{Token}
use Rattle.sky_parse_grammar.specs.declared.level.Level.{Level}
use Rattle.sky_parse_grammar.specs.declared.parts.Shape.{Shape}
use Rattle.sky_parse_grammar.specs.declared.parts.Head.{Head}
use Rattle.sky_parse_grammar.specs.Signs.{is, is_word}
use Rattle.sky_parse_grammar.specs.Levels.{opens}
use Rattle.sky_parse_grammar.specs.Parts.{separator, full, ready, closing, head_shape}
use Rattle.sky_parse_grammar.specs.Grammar.{Mark}

pub data Item : Type 0 where
  -- an expression of a level, and what may follow an operand of one
  level : Level → Item
  tail : Level → Item
  stepped : Item
  primary : Item
  steps : Item
  -- the parts of a form up to the closing sign, and behind so many of them
  parts : Shape → Item
  others : Shape → ℕ → Item
  sign : Sign → Item
  word : Word → Item
  name : Item
  stmt : Item
  stmts : Item
  -- behind a name that begins a statement, and behind its first index
  named : Item
  indexed : Item
  -- behind `return`
  back : Item
  block : Item
  arms : Item
  after_else : Item
  tops : Item
  -- behind `function` at the top of a script
  after_function : Item
  params : Item
  other_params : Item

-- the level of the operands, and the chain again, but for a comparison, which has one operator
abbrev pub operand_of : Level → Level
operand_of Level.Either = Level.Both
operand_of Level.Both = Level.Comparison
operand_of Level.Comparison = Level.Sum
operand_of Level.Sum = Level.Product
operand_of Level.Product = Level.Prefix
operand_of Level.Prefix = Level.Prefix

abbrev pub again : Level → List Item → List Item
again Level.Comparison k = k
again Level.Either k = Item.tail Level.Either ∷ k
again Level.Both k = Item.tail Level.Both ∷ k
again Level.Sum k = Item.tail Level.Sum ∷ k
again Level.Product k = Item.tail Level.Product ∷ k
again Level.Prefix k = k

-- the chains that may follow an operand, from the tightest to those of the level
abbrev pub tails : Level → List Item → List Item
tails Level.Either k = Item.tail Level.Product ∷ Item.tail Level.Sum ∷ Item.tail Level.Comparison ∷ Item.tail Level.Both ∷ Item.tail Level.Either ∷ k
tails Level.Both k = Item.tail Level.Product ∷ Item.tail Level.Sum ∷ Item.tail Level.Comparison ∷ Item.tail Level.Both ∷ k
tails Level.Comparison k = Item.tail Level.Product ∷ Item.tail Level.Sum ∷ Item.tail Level.Comparison ∷ k
tails Level.Sum k = Item.tail Level.Product ∷ Item.tail Level.Sum ∷ k
tails Level.Product k = Item.tail Level.Product ∷ k
tails Level.Prefix k = k

abbrev pub word_head : Word → Option Head
word_head Word.Spawn = Some Head.Spawn
word_head Word.SpawnExec = Some Head.SpawnExec
word_head Word.Exec = Some Head.Exec
word_head Word.Ref = Some Head.Ref
word_head Word.Len = Some Head.Len
word_head Word.Keys = Some Head.Keys
word_head Word.Has = Some Head.Has
word_head Word.Range = Some Head.Range
word_head _ = None

abbrev pub is_literal : Word → Bool
is_literal Word.True = true
is_literal Word.False = true
is_literal Word.Null = true
is_literal _ = false

abbrev pub is_function : Word → Bool
is_function Word.Function = true
is_function _ = false

abbrev pub sign_head : Sign → Option Head
sign_head Sign.OpenRound = Some Head.Parens
sign_head Sign.OpenSquare = Some Head.List
sign_head Sign.OpenCurly = Some Head.Dict
sign_head _ = None

abbrev pub opened : List Item → Option Head → Option (List Item)
opened k None = None
opened k (Some h) = Some (Item.parts (head_shape h) ∷ k)

abbrev pub worded : List Item → Option Head → Option (List Item)
worded k None = None
worded k (Some h) = Some (Item.sign Sign.OpenRound ∷ Item.parts (head_shape h) ∷ k)

abbrev pub on_primary : List Item → TokenKind → Option (List Item)
on_primary k (TokenKind.Name x) = Some k
on_primary k (TokenKind.Number n) = Some k
on_primary k (TokenKind.Text x) = Some k
on_primary k (TokenKind.Word w) = if is_literal w then Some k else if is_function w then Some
    (Item.sign Sign.OpenRound ∷ Item.params ∷ Item.block ∷ k) else worded k (word_head w)
on_primary k (TokenKind.Sign s) = opened k (sign_head s)

abbrev pub on_stepped : List Item → TokenKind → Option (List Item)
on_stepped k t = on_primary (Item.steps ∷ k) t

abbrev pub is_prefix : TokenKind → Bool
is_prefix t = is Sign.Not t || (is Sign.Minus t || is Sign.Star t)

abbrev pub on_prefix : List Item → TokenKind → Option (List Item)
on_prefix k t = if is_prefix t then Some (Item.level Level.Prefix ∷ k) else on_stepped k t

abbrev pub on_level : Level → List Item → TokenKind → Option (List Item)
on_level l k t = on_prefix (tails l k) t

abbrev pub on_exp : List Item → TokenKind → Option (List Item)
on_exp k t = on_level Level.Either k t

abbrev pub on_parts : Shape → List Item → TokenKind → Option (List Item)
on_parts (Shape.Many s) k t = if is s t then Some k else on_exp (Item.others (Shape.Many s) 1 ∷ k) t
on_parts (Shape.Fixed m s) k t = on_exp (Item.others (Shape.Fixed m s) 1 ∷ k) t
on_parts Shape.Pairs k t = if is Sign.CloseCurly t then Some k else on_exp (Item.others Shape.Pairs 1 ∷ k) t

abbrev pub on_close : Shape → ℕ → List Item → TokenKind → Option (List Item)
on_close h n k t = if ready h n && is (closing h) t then Some k else None

abbrev pub on_others : Shape → ℕ → List Item → TokenKind → Option (List Item)
on_others h n k t =
    if full h n then on_close h n k t
    else if is (separator h n) t then Some (Item.level Level.Either ∷ Item.others h (suc n) ∷ k)
    else on_close h n k t

-- a test in parentheses, and then k
abbrev pub test_then : List Item → List Item
test_then k = Item.sign Sign.OpenRound ∷ Item.level Level.Either ∷ Item.sign Sign.CloseRound ∷ k

abbrev pub ended : List Item → List Item
ended k = Item.level Level.Either ∷ Item.sign Sign.Semicolon ∷ k

abbrev pub on_stmt_word : List Item → Word → Option (List Item)
on_stmt_word k Word.Return = Some (Item.back ∷ k)
on_stmt_word k Word.If = Some (test_then (Item.block ∷ Item.arms ∷ k))
on_stmt_word k Word.While = Some (test_then (Item.block ∷ k))
on_stmt_word k Word.Do = Some (Item.block ∷ Item.word Word.While ∷ test_then (Item.sign Sign.Semicolon ∷ k))
on_stmt_word k Word.For = Some (Item.sign Sign.OpenRound ∷ Item.name ∷ Item.word Word.In ∷ Item.level Level.Either ∷ Item.sign Sign.CloseRound
    ∷ Item.block ∷ k)
on_stmt_word k w = on_exp (Item.sign Sign.Semicolon ∷ k) (TokenKind.Word w)

abbrev pub on_stmt : List Item → TokenKind → Option (List Item)
on_stmt k (TokenKind.Name x) = Some (Item.named ∷ k)
on_stmt k (TokenKind.Number n) = on_exp (Item.sign Sign.Semicolon ∷ k) (TokenKind.Number n)
on_stmt k (TokenKind.Text x) = on_exp (Item.sign Sign.Semicolon ∷ k) (TokenKind.Text x)
on_stmt k (TokenKind.Word w) = on_stmt_word k w
on_stmt k (TokenKind.Sign s) = on_exp (Item.sign Sign.Semicolon ∷ k) (TokenKind.Sign s)

-- one more operator of a level, or else what stands behind the chain
abbrev pub on_tail : Level → List Item → TokenKind → Option (List Item) → Option (List Item)
on_tail l k t other = if opens l t then Some (Item.level (operand_of l) ∷ again l k) else other

abbrev pub on_steps : List Item → TokenKind → Option (List Item) → Option (List Item)
on_steps k t other =
    if is Sign.OpenSquare t then Some (Item.parts (Shape.Fixed 1 Sign.CloseSquare) ∷ Item.steps ∷ k)
    else if is Sign.OpenRound t then Some (Item.parts (Shape.Many Sign.CloseRound) ∷ Item.steps ∷ k)
    else other

-- behind a name that begins an expression statement: as behind the steps, the chains and the semicolon
abbrev pub on_rest : List Item → TokenKind → Option (List Item)
on_rest k t =
    let e = Item.sign Sign.Semicolon ∷ k in
    on_steps (tails Level.Either e) t
    (on_tail Level.Product (Item.tail Level.Sum ∷ Item.tail Level.Comparison ∷ Item.tail Level.Both ∷ Item.tail Level.Either ∷ e) t
    (on_tail Level.Sum (Item.tail Level.Comparison ∷ Item.tail Level.Both ∷ Item.tail Level.Either ∷ e) t
    (on_tail Level.Comparison (Item.tail Level.Both ∷ Item.tail Level.Either ∷ e) t
    (on_tail Level.Both (Item.tail Level.Either ∷ e) t
    (on_tail Level.Either e t
    (if is Sign.Semicolon t then Some k else None))))))

abbrev pub on_name : List Item → TokenKind → Option (List Item)
on_name k (TokenKind.Name x) = Some k
on_name k (TokenKind.Number n) = None
on_name k (TokenKind.Text x) = None
on_name k (TokenKind.Word w) = None
on_name k (TokenKind.Sign s) = None

abbrev pub step : List Item → TokenKind → Option (List Item)
step [] t = None
step (Item.level l ∷ k) t = on_level l k t
step (Item.tail l ∷ k) t = on_tail l k t (step k t)
step (Item.stepped ∷ k) t = on_stepped k t
step (Item.primary ∷ k) t = on_primary k t
step (Item.steps ∷ k) t = on_steps k t (step k t)
step (Item.parts h ∷ k) t = on_parts h k t
step (Item.others h n ∷ k) t = on_others h n k t
step (Item.sign s ∷ k) t = if is s t then Some k else None
step (Item.word w ∷ k) t = if is_word w t then Some k else None
step (Item.name ∷ k) t = on_name k t
step (Item.stmt ∷ k) t = on_stmt k t
step (Item.stmts ∷ k) t = if is Sign.CloseCurly t then step k t else on_stmt (Item.stmts ∷ k) t
step (Item.named ∷ k) t =
    if is Sign.Assign t then Some (ended k)
    else if is Sign.AddAssign t then Some (ended k)
    else if is Sign.OpenSquare t then Some (Item.level Level.Either ∷ Item.sign Sign.CloseSquare ∷ Item.indexed ∷ k)
    else on_rest k t
step (Item.indexed ∷ k) t = if is Sign.Assign t then Some (ended k) else on_rest k t
step (Item.back ∷ k) t = if is Sign.Semicolon t then Some k else on_exp (Item.sign Sign.Semicolon ∷ k) t
step (Item.block ∷ k) t = if is Sign.OpenCurly t then Some (Item.stmts ∷ Item.sign Sign.CloseCurly ∷ k) else None
step (Item.arms ∷ k) t = if is_word Word.Else t then Some (Item.after_else ∷ k) else step k t
step (Item.after_else ∷ k) t =
    if is_word Word.If t then Some (test_then (Item.block ∷ Item.arms ∷ k))
    else if is Sign.OpenCurly t then Some (Item.stmts ∷ Item.sign Sign.CloseCurly ∷ k)
    else None
step (Item.tops ∷ k) t =
    if is_word Word.Function t then Some (Item.after_function ∷ k)
    else on_stmt (Item.tops ∷ k) t
step (Item.after_function ∷ k) t =
    if is Sign.OpenRound t then Some (Item.params ∷ Item.block ∷ Item.steps ∷ tails Level.Either (Item.sign Sign.Semicolon ∷ Item.tops ∷ k))
    else on_name (Item.sign Sign.OpenRound ∷ Item.params ∷ Item.block ∷ Item.tops ∷ k) t
step (Item.params ∷ k) t = if is Sign.CloseRound t then Some k else on_name (Item.other_params ∷ k) t
step (Item.other_params ∷ k) t =
    if is Sign.Comma t then Some (Item.name ∷ Item.other_params ∷ k)
    else if is Sign.CloseRound t then Some k
    else None

-- Whether the tokens may end here.
abbrev pub may_be_empty : Item → Bool
may_be_empty (Item.tail l) = true
may_be_empty Item.steps = true
may_be_empty Item.stmts = true
may_be_empty Item.arms = true
may_be_empty Item.tops = true
may_be_empty _ = false

abbrev pub ends : List Item → Bool
ends [] = true
ends (i ∷ k) = may_be_empty i && ends k

-- What comes of it: all the tokens are taken, or it stops before so many.
pub data Out : Type 0 where
  done : Out
  stuck : ℕ → Out

abbrev pub goes : Option (List Item) → (List Item → Out) → Out → Out
goes (Some k) next other = next k
goes None next other = other

abbrev pub run : List Item → List TokenKind → Out
run k [] = if ends k then Out.done else Out.stuck 0
run k (t ∷ ts) = goes (step k t) (λ l. run l ts) (Out.stuck (suc (length ts)))

abbrev pub kind : Mark → TokenKind
kind (Mark.placed k p) = k
kind (Mark.plain k) = k
kind (Mark.also p m) = kind m

abbrev pub kinds_of : List Mark → List TokenKind
kinds_of [] = []
kinds_of (m ∷ ms) = kind m ∷ kinds_of ms

abbrev pub kinds : List Token → List TokenKind
kinds [] = []
kinds (t ∷ ts) = t.kind ∷ kinds ts
