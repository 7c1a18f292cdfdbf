-- What the machine does at statements and at functions, as the functions of the parser see it.
use Rattle.std.proofs.Common.{◌≡◌, ℕ, ◌<◌, Bool, true, false, cond, List, [], ◌∷◌, length, refl, sym, subst, ◌∙◌, arith}
use Rattle.std.specs.Prelude.{◌==◌}
use Rattle.std.proofs.lemmas.Bool.{eqb-true}
use Rattle.sky_text.specs.declared.token.Sign.{Sign}
use Rattle.sky_text.specs.declared.token.Word.{Word}
use Rattle.sky_text.specs.declared.token.TokenKind.{TokenKind}
use Rattle.sky_text.specs.declared.token.Token.{Token}
use Rattle.sky_parse_grammar.specs.declared.level.Level.{Level}
use Rattle.sky_parse_grammar.specs.Signs.{is, is_word, at_sign, at_word}
use Rattle.sky_parse_grammar.specs.Machine.{Item, tails, test_then, run, kinds}
use Rattle.sky_parse.specs.Scripts.{no_function}
use Rattle.sky_parse_grammar.proofs.Tokens.{is_sign, is_that_word}

-- Behind a name that begins a statement.
pub set_goes : (k : List Item) (ts rest : List Token) (t : Token) → ts ≡ t ∷ rest → is Sign.Assign t.kind ≡ true
    → run (Item.named ∷ k) (kinds ts) ≡ run (Item.level Level.Either ∷ Item.sign Sign.Semicolon ∷ k) (kinds rest)
set_goes k ts rest t r h = rw (r, h) refl

pub add_goes : (k : List Item) (ts rest : List Token) (t : Token) → ts ≡ t ∷ rest → is Sign.AddAssign t.kind ≡ true
    → run (Item.named ∷ k) (kinds ts) ≡ run (Item.level Level.Either ∷ Item.sign Sign.Semicolon ∷ k) (kinds rest)
add_goes k ts rest t r h = let d = is_sign Sign.AddAssign t.kind h in rw (r, d) refl

pub index_goes : (k : List Item) (ts rest : List Token) (t : Token) → ts ≡ t ∷ rest → is Sign.OpenSquare t.kind ≡ true
    → run (Item.named ∷ k) (kinds ts) ≡ run (Item.level Level.Either ∷ Item.sign Sign.CloseSquare ∷ Item.indexed ∷ k) (kinds rest)
index_goes k ts rest t r h = let d = is_sign Sign.OpenSquare t.kind h in rw (r, d) refl

pub named_else : (k : List Item) (ts : List Token) → at_sign Sign.Assign ts ≡ false → at_sign Sign.AddAssign ts ≡ false
    → at_sign Sign.OpenSquare ts ≡ false → run (Item.named ∷ k) (kinds ts)
    ≡ run (Item.steps ∷ tails Level.Either (Item.sign Sign.Semicolon ∷ k)) (kinds ts)
named_else k [] e f g = refl
named_else k (t ∷ ts) e f g = rw (e, f, g) refl

pub put_goes : (k : List Item) (ts rest : List Token) (t : Token) → ts ≡ t ∷ rest → is Sign.Assign t.kind ≡ true
    → run (Item.indexed ∷ k) (kinds ts) ≡ run (Item.level Level.Either ∷ Item.sign Sign.Semicolon ∷ k) (kinds rest)
put_goes k ts rest t r h = rw (r, h) refl

pub indexed_else : (k : List Item) (ts : List Token) → at_sign Sign.Assign ts ≡ false → run (Item.indexed ∷ k) (kinds ts)
    ≡ run (Item.steps ∷ tails Level.Either (Item.sign Sign.Semicolon ∷ k)) (kinds ts)
indexed_else k [] e = refl
indexed_else k (t ∷ ts) e = rw e refl

-- Behind `return`.
pub back_ends : (k : List Item) (ts rest : List Token) (t : Token) → ts ≡ t ∷ rest → is Sign.Semicolon t.kind ≡ true
    → run (Item.back ∷ k) (kinds ts) ≡ run (k) (kinds rest)
back_ends k ts rest t r h = rw (r, h) refl

pub back_else : (k : List Item) (ts : List Token) → at_sign Sign.Semicolon ts ≡ false → run (Item.back ∷ k) (kinds ts)
    ≡ run (Item.level Level.Either ∷ Item.sign Sign.Semicolon ∷ k) (kinds ts)
back_else k [] e = refl
back_else k (t ∷ ts) e = rw e refl

-- The first token of a statement.
pub stmt_name : (x : List ℕ) (k : List Item) (ts rest : List Token) (t : Token) → ts ≡ t ∷ rest → t.kind ≡ TokenKind.Name x
    → run (Item.stmt ∷ k) (kinds ts) ≡ run (Item.named ∷ k) (kinds rest)
stmt_name x k ts rest t r h = rw (r, h) refl

pub stmt_return : (k : List Item) (ts rest : List Token) (t : Token) → ts ≡ t ∷ rest → is_word Word.Return t.kind ≡ true
    → run (Item.stmt ∷ k) (kinds ts) ≡ run (Item.back ∷ k) (kinds rest)
stmt_return k ts rest t r h = let d = is_that_word Word.Return t.kind h in rw (r, d) refl

pub stmt_if : (k : List Item) (ts rest : List Token) (t : Token) → ts ≡ t ∷ rest → is_word Word.If t.kind ≡ true → run (Item.stmt ∷ k) (kinds ts)
    ≡ run (test_then (Item.block ∷ Item.arms ∷ k)) (kinds rest)
stmt_if k ts rest t r h = let d = is_that_word Word.If t.kind h in rw (r, d) refl

pub stmt_while : (k : List Item) (ts rest : List Token) (t : Token) → ts ≡ t ∷ rest → is_word Word.While t.kind ≡ true
    → run (Item.stmt ∷ k) (kinds ts) ≡ run (test_then (Item.block ∷ k)) (kinds rest)
stmt_while k ts rest t r h = let d = is_that_word Word.While t.kind h in rw (r, d) refl

pub stmt_do : (k : List Item) (ts rest : List Token) (t : Token) → ts ≡ t ∷ rest → is_word Word.Do t.kind ≡ true → run (Item.stmt ∷ k) (kinds ts)
    ≡ run (Item.block ∷ Item.word Word.While ∷ test_then (Item.sign Sign.Semicolon ∷ k)) (kinds rest)
stmt_do k ts rest t r h = let d = is_that_word Word.Do t.kind h in rw (r, d) refl

pub stmt_for : (k : List Item) (ts rest : List Token) (t : Token) → ts ≡ t ∷ rest → is_word Word.For t.kind ≡ true
    → run (Item.stmt ∷ k) (kinds ts) ≡ run (Item.sign Sign.OpenRound ∷ Item.name ∷ Item.word Word.In ∷ Item.level Level.Either
    ∷ Item.sign Sign.CloseRound ∷ Item.block ∷ k) (kinds rest)
stmt_for k ts rest t r h = let d = is_that_word Word.For t.kind h in rw (r, d) refl

other_word : (w : Word) (k : List Item) (ts : List Token) → is_word Word.Return (TokenKind.Word w) ≡ false → is_word Word.If (TokenKind.Word w)
    ≡ false → is_word Word.While (TokenKind.Word w) ≡ false → is_word Word.Do (TokenKind.Word w) ≡ false → is_word Word.For (TokenKind.Word w)
    ≡ false → run (Item.stmt ∷ k) (TokenKind.Word w ∷ kinds ts)
    ≡ run (Item.level Level.Either ∷ Item.sign Sign.Semicolon ∷ k) (TokenKind.Word w ∷ kinds ts)
other_word Word.Function k ts a b c d e = refl
other_word Word.Return k ts a b c d e = absurd cc
other_word Word.If k ts a b c d e = absurd cc
other_word Word.Else k ts a b c d e = refl
other_word Word.While k ts a b c d e = absurd cc
other_word Word.Do k ts a b c d e = absurd cc
other_word Word.For k ts a b c d e = absurd cc
other_word Word.In k ts a b c d e = refl
other_word Word.True k ts a b c d e = refl
other_word Word.False k ts a b c d e = refl
other_word Word.Null k ts a b c d e = refl
other_word Word.Spawn k ts a b c d e = refl
other_word Word.SpawnExec k ts a b c d e = refl
other_word Word.Exec k ts a b c d e = refl
other_word Word.Ref k ts a b c d e = refl
other_word Word.Len k ts a b c d e = refl
other_word Word.Keys k ts a b c d e = refl
other_word Word.Has k ts a b c d e = refl
other_word Word.Range k ts a b c d e = refl

other_kind : (d : TokenKind) (k : List Item) (ts : List Token) → ((x : List ℕ) → d ≡ TokenKind.Name x → ⊥) → is_word Word.Return d ≡ false
    → is_word Word.If d ≡ false → is_word Word.While d ≡ false → is_word Word.Do d ≡ false → is_word Word.For d ≡ false
    → run (Item.stmt ∷ k) (d ∷ kinds ts) ≡ run (Item.level Level.Either ∷ Item.sign Sign.Semicolon ∷ k) (d ∷ kinds ts)
other_kind (TokenKind.Name x) k ts n a b c d e = absurd (n x refl)
other_kind (TokenKind.Number z) k ts n a b c d e = refl
other_kind (TokenKind.Text x) k ts n a b c d e = refl
other_kind (TokenKind.Word w) k ts n a b c d e = other_word w k ts a b c d e
other_kind (TokenKind.Sign s) k ts n a b c d e = refl

pub stmt_else : (k : List Item) (ts rest : List Token) (t : Token) → ts ≡ t ∷ rest → ((x : List ℕ) → t.kind ≡ TokenKind.Name x → ⊥)
    → is_word Word.Return t.kind ≡ false → is_word Word.If t.kind ≡ false → is_word Word.While t.kind ≡ false → is_word Word.Do t.kind ≡ false
    → is_word Word.For t.kind ≡ false → run (Item.stmt ∷ k) (kinds ts) ≡ run (Item.level Level.Either ∷ Item.sign Sign.Semicolon ∷ k) (kinds ts)
stmt_else k ts rest t r n a b c d e = rw r (other_kind t.kind k rest n a b c d e)

-- Blocks and choices.
pub block_is : (k : List Item) (ts : List Token) → run (Item.block ∷ k) (kinds ts)
    ≡ run (Item.sign Sign.OpenCurly ∷ Item.stmts ∷ Item.sign Sign.CloseCurly ∷ k) (kinds ts)
block_is k [] = refl
block_is k (t ∷ ts) = refl

pub stmts_goes : (k : List Item) (ts : List Token) → at_sign Sign.CloseCurly ts ≡ false
    → run (Item.stmts ∷ Item.sign Sign.CloseCurly ∷ k) (kinds ts) ≡ run (Item.stmt ∷ Item.stmts ∷ Item.sign Sign.CloseCurly ∷ k) (kinds ts)
stmts_goes k [] h = refl
stmts_goes k (t ∷ ts) h = rw h refl

pub stmts_end : (k : List Item) (ts : List Token) → at_sign Sign.CloseCurly ts ≡ true
    → run (Item.stmts ∷ Item.sign Sign.CloseCurly ∷ k) (kinds ts) ≡ run (Item.sign Sign.CloseCurly ∷ k) (kinds ts)
stmts_end k [] h = absurd cc
stmts_end k (t ∷ ts) h = rw h refl

pub arms_go : (k : List Item) (ts rest : List Token) (t : Token) → ts ≡ t ∷ rest → is_word Word.Else t.kind ≡ true
    → run (Item.arms ∷ k) (kinds ts) ≡ run (Item.after_else ∷ k) (kinds rest)
arms_go k ts rest t r h = rw (r, h) refl

pub arms_end : (k : List Item) (ts : List Token) → at_word Word.Else ts ≡ false → run (Item.arms ∷ k) (kinds ts) ≡ run (k) (kinds ts)
arms_end k [] e = refl
arms_end k (t ∷ ts) e = rw e refl

pub after_else_if : (k : List Item) (ts rest : List Token) (t : Token) → ts ≡ t ∷ rest → is_word Word.If t.kind ≡ true
    → run (Item.after_else ∷ k) (kinds ts) ≡ run (test_then (Item.block ∷ Item.arms ∷ k)) (kinds rest)
after_else_if k ts rest t r h = rw (r, h) refl

pub after_else_block : (k : List Item) (ts : List Token) → at_word Word.If ts ≡ false → run (Item.after_else ∷ k) (kinds ts)
    ≡ run (Item.block ∷ k) (kinds ts)
after_else_block k [] e = refl
after_else_block k (t ∷ ts) e = rw e refl

-- Functions.
named_word : (k : List Item) (ts : List Token) → at_sign Sign.OpenRound ts ≡ false → run (Item.after_function ∷ k) (kinds ts)
    ≡ run (Item.name ∷ Item.sign Sign.OpenRound ∷ Item.params ∷ Item.block ∷ Item.tops ∷ k) (kinds ts)
named_word k [] e = refl
named_word k (t ∷ ts) e = rw e refl

pub top_fun : (k : List Item) (ts rest : List Token) (t : Token) → ts ≡ t ∷ rest → is_word Word.Function t.kind ≡ true
    → at_sign Sign.OpenRound rest ≡ false → run (Item.tops ∷ k) (kinds ts)
    ≡ run (Item.name ∷ Item.sign Sign.OpenRound ∷ Item.params ∷ Item.block ∷ Item.tops ∷ k) (kinds rest)
top_fun k ts rest t r h e = first ∙ named_word k rest e
  where
    first : run (Item.tops ∷ k) (kinds ts) ≡ run (Item.after_function ∷ k) (kinds rest)
    first = rw (r, h) refl

anonymous_word : (k : List Item) (ts : List Token) → at_sign Sign.OpenRound ts ≡ true
    → run (Item.tops ∷ k) (TokenKind.Word Word.Function ∷ kinds ts) ≡ run (Item.stmt ∷ Item.tops ∷ k) (TokenKind.Word Word.Function ∷ kinds ts)
anonymous_word k [] e = absurd cc
anonymous_word k (t ∷ ts) e = rw e refl

pub top_stmt : (k : List Item) (ts : List Token) → 0 < length ts → no_function ts ≡ true → run (Item.tops ∷ k) (kinds ts)
    ≡ run (Item.stmt ∷ Item.tops ∷ k) (kinds ts)
top_stmt k [] n h = absurd (omega arith)
top_stmt k (t ∷ ts) n h = either (is_word Word.Function t.kind) refl h
  where
    either : (c : Bool) → is_word Word.Function t.kind ≡ c → cond c (at_sign Sign.OpenRound ts) true ≡ true
        → run (Item.tops ∷ k) (t.kind ∷ kinds ts) ≡ run (Item.stmt ∷ Item.tops ∷ k) (t.kind ∷ kinds ts)
    either true c e = subst (λ (d : TokenKind). run (Item.tops ∷ k) (d ∷ kinds ts) ≡ run (Item.stmt ∷ Item.tops ∷ k) (d ∷ kinds ts))
        (sym (is_that_word Word.Function t.kind c)) (anonymous_word k ts e)
    either false c e = rw c refl

pub tops_end : (k : List Item) (ts : List Token) → (length ts == 0) ≡ true → run (Item.tops ∷ k) (kinds ts) ≡ run k []
tops_end k [] h = refl
tops_end k (t ∷ ts) h = absurd (omega (arith, eqb-true (length (t ∷ ts)) 0 h))
