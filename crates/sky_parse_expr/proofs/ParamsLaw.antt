-- Parameters: what the machine does at them, and their spelling as they are read one behind the other.
use Rattle.std.proofs.Common.{◌≡◌, ℕ, ◌<◌, true, false, List, [], ◌∷◌, ◌++◌, length, refl, ap, arith}
use Rattle.sky_base.specs.TreeView.{at}
use Rattle.sky_text.specs.declared.token.Sign.{Sign}
use Rattle.sky_text.specs.declared.token.Token.{Token}
use Rattle.sky_parse_grammar.specs.Signs.{is, at_sign}
use Rattle.sky_parse_grammar.specs.Machine.{Item, run, kinds}
use Rattle.sky_parse_grammar.specs.Grammar.{Mark, sign, name_at, spell_params, spell_other_params, Follows, Spelled}
use Rattle.sky_parse_grammar.proofs.Tokens.{is_sign}
use Rattle.sky_parse_held.specs.declared.made.Parameter.{Parameter}
use Rattle.sky_parse_held.specs.Params.{params_view}

pub params_empty : (k : List Item) (ts rest : List Token) (t : Token) → ts ≡ t ∷ rest → is Sign.CloseRound t.kind ≡ true
    → run (Item.params ∷ k) (kinds ts) ≡ run (k) (kinds rest)
params_empty k ts rest t r h = rw (r, h) refl

pub params_first : (k : List Item) (ts : List Token) → at_sign Sign.CloseRound ts ≡ false → run (Item.params ∷ k) (kinds ts)
    ≡ run (Item.name ∷ Item.other_params ∷ k) (kinds ts)
params_first k [] e = refl
params_first k (t ∷ ts) e = rw e refl

pub params_go : (k : List Item) (ts rest : List Token) (t : Token) → ts ≡ t ∷ rest → is Sign.Comma t.kind ≡ true
    → run (Item.other_params ∷ k) (kinds ts) ≡ run (Item.name ∷ Item.other_params ∷ k) (kinds rest)
params_go k ts rest t r h = rw (r, h) refl

pub params_end : (k : List Item) (ts : List Token) → at_sign Sign.Comma ts ≡ false → run (Item.other_params ∷ k) (kinds ts)
    ≡ run (Item.sign Sign.CloseRound ∷ k) (kinds ts)
params_end k [] e = refl
params_end k (t ∷ ts) e = rw e refl

other_params_push : (xs : List Parameter) (x : Parameter) (more : List Mark) → spell_other_params (params_view (xs ++ x ∷ [])) more
    ≡ spell_other_params (params_view xs) (sign Sign.Comma ∷ name_at x.name (at x.line x.col) ∷ more)
other_params_push [] x more = refl
other_params_push (y ∷ xs) x more = ap (λ (ms : List Mark). sign Sign.Comma ∷ name_at y.name (at y.line y.col) ∷ ms) (other_params_push xs x more)

params_push : (xs : List Parameter) (x : Parameter) (more : List Mark) → 0 < length xs → spell_params (params_view (xs ++ x ∷ [])) more
    ≡ spell_params (params_view xs) (sign Sign.Comma ∷ name_at x.name (at x.line x.col) ∷ more)
params_push [] x more h = absurd (omega arith)
params_push (y ∷ xs) x more h = ap (λ (ms : List Mark). name_at y.name (at y.line y.col) ∷ ms) (other_params_push xs x more)

pub params_spelled : (ts rest after next : List Token) (t : Token) (xs : List Parameter) (x : Parameter) → 0 < length xs
    → Spelled (spell_params (params_view xs)) ts rest → rest ≡ t ∷ after → is Sign.Comma t.kind ≡ true
    → Spelled (λ more. name_at x.name (at x.line x.col) ∷ more) after next → Spelled (spell_params (params_view (xs ++ x ∷ []))) ts next
params_spelled ts rest after next t xs x some s r h g = λ more f.
    let one : Follows (sign Sign.Comma ∷ name_at x.name (at x.line x.col) ∷ more) rest = rw r (is_sign Sign.Comma t.kind h, g more f) in
    rw (params_push xs x more some) (s (sign Sign.Comma ∷ name_at x.name (at x.line x.col) ∷ more) one)
