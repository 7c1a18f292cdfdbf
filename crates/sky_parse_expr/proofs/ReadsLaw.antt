-- What was read of the parts of a form makes what was read of the form: the ways to put readings together.
use Rattle.std.proofs.Common.{◌≡◌, ℕ, ◌+◌, List, [], ◌∷◌, ◌++◌, length, append_assoc, append-nil, refl, sym, ap, subst, ◌∙◌, true}
use Rattle.std.specs.Prelude.{Result, Ok, Err, IfOk}
use Rattle.sky_text.specs.declared.token.Sign.{Sign}
use Rattle.sky_text.specs.declared.token.Word.{Word}
use Rattle.sky_text.specs.declared.token.TokenKind.{TokenKind}
use Rattle.sky_text.specs.declared.token.Token.{Token}
use Rattle.sky_parse_grammar.specs.Signs.{is, is_word}
use Rattle.sky_parse_grammar.specs.Grammar.{Mark, sign, sign_at, word, word_at, name_at, place, Fits, Follows, Spelled}
use Rattle.sky_parse_grammar.proofs.Tokens.{is_sign, is_that_word}
use Rattle.sky_parse_held.specs.Held.{Held, Part, after, both, named_first, seen_name}
use Rattle.sky_parse_expr.specs.Reads.{Reads, Onto}
use Rattle.sky_parse_expr.specs.declared.look.Fail.{Fail}
use Rattle.sky_parse_held.proofs.HeldLaw.{Sized, join, number, named_then}

-- ---- tokens alone

pub at_front : (m : Mark) (t : Token) (ts : List Token) → Fits m t → Spelled (λ more. m ∷ more) (t ∷ ts) ts
at_front m t ts fit = λ more f. (fit, f)

pub sign_front : (s : Sign) (ts rest : List Token) (t : Token) → ts ≡ t ∷ rest → is s t.kind ≡ true → Spelled (λ more. sign s ∷ more) ts rest
sign_front s ts rest t e h = λ more f. subst (λ us. Follows (sign s ∷ more) us) (sym e) (is_sign s t.kind h, f)

pub sign_placed : (s : Sign) (ts rest : List Token) (t : Token) → ts ≡ t ∷ rest → is s t.kind ≡ true
    → Spelled (λ more. sign_at s (place t) ∷ more) ts rest
sign_placed s ts rest t e h = λ more f. subst (λ us. Follows (sign_at s (place t) ∷ more) us) (sym e) ((is_sign s t.kind h, refl), f)

pub word_front : (w : Word) (ts rest : List Token) (t : Token) → ts ≡ t ∷ rest → is_word w t.kind ≡ true → Spelled (λ more. word w ∷ more) ts rest
word_front w ts rest t e h = λ more f. subst (λ us. Follows (word w ∷ more) us) (sym e) (is_that_word w t.kind h, f)

pub word_placed : (w : Word) (ts rest : List Token) (t : Token) → ts ≡ t ∷ rest → is_word w t.kind ≡ true
    → Spelled (λ more. word_at w (place t) ∷ more) ts rest
word_placed w ts rest t e h = λ more f. subst (λ us. Follows (word_at w (place t) ∷ more) us) (sym e) ((is_that_word w t.kind h, refl), f)

pub name_front : (x : List ℕ) (ts rest : List Token) (t : Token) → ts ≡ t ∷ rest → t.kind ≡ TokenKind.Name x
    → Spelled (λ more. Mark.plain (TokenKind.Name x) ∷ more) ts rest
name_front x ts rest t e k = λ more f. subst (λ us. Follows (Mark.plain (TokenKind.Name x) ∷ more) us) (sym e) (k, f)

pub name_placed : (x : List ℕ) (ts rest : List Token) (t : Token) → ts ≡ t ∷ rest → t.kind ≡ TokenKind.Name x
    → Spelled (λ more. name_at x (place t) ∷ more) ts rest
name_placed x ts rest t e k = λ more f. subst (λ us. Follows (name_at x (place t) ∷ more) us) (sym e) ((k, refl), f)

-- ---- one reading with tokens beside it

module _ {S R : Type 0} {good : S → Type 0} {tree : ℕ → S → R} {part : S → Part} {spell : S → List Mark → List Mark} {r : R} where
  -- with tokens in front of it
  pub behind : {a b : Held} {ts mid rest : List Token} (front : List Mark → List Mark) → Spelled front ts mid
      → Reads good tree part spell r a b mid rest → Reads good tree part (λ s more. front (spell s more)) r a b ts rest
  behind front f x = record {
    text = x.text;
    well = x.well;
    runs = x.runs;
    adds = x.adds;
    spelled =
        λ more g. f (spell x.text more) (x.spelled more g);
  }

  -- with tokens behind it
  pub before : {a b : Held} {ts mid rest : List Token} (back : List Mark → List Mark) → Reads good tree part spell r a b ts mid
      → Spelled back mid rest → Reads good tree part (λ s more. spell s (back more)) r a b ts rest
  before back x f = record { text = x.text; well = x.well; runs = x.runs; adds = x.adds; spelled = λ more g. x.spelled (back more) (f more g) }

  -- with a name in front of it that is held
  pub named : {a b c : Held} {ts rest : List Token} (x : List ℕ) → b ≡ seen_name x a → Reads good tree part spell r b c ts rest
      → Reads good tree (λ s. named_first x (part s)) spell r a c ts rest
  named {a = a} x e y = record {
    text = y.text;
    well = y.well;
    runs = y.runs ∙ ap (λ (h : Held). tree (length h.funs) y.text) e;
    adds =
        named_then a x (part y.text) e y.adds;
    spelled = y.spelled;
  }

-- ---- a form of one part, and one of two

module _ {S T R Q : Type 0} {good : S → Type 0} {tree : ℕ → S → R} {part : S → Part} {spell : S → List Mark → List Mark} {well : T → Type 0}
    {runs : ℕ → T → Q} {adds : T → Part} {spells : T → List Mark → List Mark} where
  pub one : {r : R} {a b : Held} {ts rest : List Token} (make : S → T) (build : R → Q) → ((s : S) → good s → well (make s))
      → ((n : ℕ) (s : S) → good s → build (tree n s) ≡ runs n (make s)) → ((s : S) → good s → part s ≡ adds (make s))
      → ((s : S) → good s → (more : List Mark) → spell s more ≡ spells (make s) more) → Reads good tree part spell r a b ts rest
      → Reads well runs adds spells (build r) a b ts rest
  one {a = a} {ts = ts} make build w t p g x = record {
    text = make x.text;
    well = w x.text x.well;
    runs = ap build x.runs ∙ t (length a.funs) x.text x.well;
    adds = x.adds ∙ ap (after a) (p x.text x.well);
    spelled = λ more f. subst (λ ms. Follows ms ts) (g x.text x.well more) (x.spelled more f);
  }

module _ {S T U R Q P : Type 0} {good1 : S → Type 0} {tree1 : ℕ → S → R} {part1 : S → Part} {spell1 : S → List Mark → List Mark}
    {good2 : T → Type 0} {tree2 : ℕ → T → Q} {part2 : T → Part} {spell2 : T → List Mark → List Mark} {well : U → Type 0} {runs : ℕ → U → P}
    {adds : U → Part} {spells : U → List Mark → List Mark} where
  pub two : {r : R} {q : Q} {a b c : Held} {ts mid rest : List Token} → ((s : S) → Sized (part1 s)) → (make : S → T → U) (build : R → Q → P)
      → ((s : S) (t : T) → good1 s → good2 t → well (make s t))
      → ((n : ℕ) (s : S) (t : T) → build (tree1 n s) (tree2 (n + (part1 s).count) t) ≡ runs n (make s t))
      → ((s : S) (t : T) → both (part1 s) (part2 t) ≡ adds (make s t))
      → ((s : S) (t : T) (more : List Mark) → spell1 s (spell2 t more) ≡ spells (make s t) more)
      → Reads good1 tree1 part1 spell1 r a b ts mid → Reads good2 tree2 part2 spell2 q b c mid rest
      → Reads well runs adds spells (build r q) a c ts rest
  two {a = a} {ts = ts} sized make build w t p g x y =
      let n = number a (part1 x.text) (sized x.text) x.adds in
      record {
        text = make x.text y.text;
        well = w x.text y.text x.well y.well;
        runs = (λ i. build (x.runs i) ((y.runs ∙ ap (λ m. tree2 m y.text) n) i)) ∙ t (length a.funs) x.text y.text;
        adds = join a (part1 x.text) (part2 y.text) (sized x.text) x.adds y.adds ∙ ap (after a) (p x.text y.text);
        spelled = λ more f. subst (λ ms. Follows ms ts) (g x.text y.text more) (x.spelled (spell2 y.text more) (y.spelled more f));
      }

-- ---- lists

module _ {X : Type 0} (V : List X → Held → Held → List Token → List Token → Type 0) where
  pub onto_none : (a : Held) (ts : List Token) → Onto V [] a a ts ts
  onto_none a ts = λ ys c end h. h

  pub onto_one : (xs : List X) (a b c : Held) (ts mid rest : List Token) (x : X) → Onto V xs a b ts mid
      → ((ys : List X) (d : Held) (end : List Token) → V ys c d rest end → V (x ∷ ys) b d mid end) → Onto V (xs ++ x ∷ []) a c ts rest
  onto_one xs a b c ts mid rest x o f = λ ys d end h. subst (λ zs. V zs a d ts end) (sym (append_assoc xs (x ∷ []) ys))
      (o (x ∷ ys) d end (f ys d end h))

  pub onto_end : (xs : List X) (a b : Held) (ts rest : List Token) → Onto V xs a b ts rest → V [] b b rest rest → V xs a b ts rest
  onto_end xs a b ts rest o h = subst (λ zs. V zs a b ts rest) (append-nil xs) (o [] b rest h)

pub ok_map : {X : Type 0} (r : Result X Fail) {P Q : X → Type 0} → ((x : X) → P x → Q x) → IfOk r P → IfOk r Q
ok_map (Ok x) f h = f x h
ok_map (Err e) f h = tt
