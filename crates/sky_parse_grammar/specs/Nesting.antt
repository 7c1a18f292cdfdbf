-- How deep brackets are nested, over the tokens alone.
use Rattle.std.specs.Prelude.{ℕ, suc, ◌-◌, ◌==◌, ◌||◌, if◌then◌else◌, Bool, List, [], ◌∷◌, Option, Some, None}
use Rattle.sky_base.specs.Tree.{Place}
use Rattle.sky_base.specs.TreeView.{at}
use Rattle.sky_text.specs.declared.token.Sign.{Sign}
use Rattle.sky_text.specs.declared.token.TokenKind.{TokenKind}
use Rattle.sky_text.specs.declared.token.Token.{Token}
use Rattle.sky_parse_grammar.specs.Signs.{is}
use Rattle.sky_parse_grammar.specs.Grammar.{place}

abbrev pub opening : TokenKind → Bool
opening k = is Sign.OpenRound k || (is Sign.OpenSquare k || is Sign.OpenCurly k)

abbrev pub closing : TokenKind → Bool
closing k = is Sign.CloseRound k || (is Sign.CloseSquare k || is Sign.CloseCurly k)

-- the open brackets behind a token, unless it opens the 65th
abbrev pub open_after : ℕ → TokenKind → Option ℕ
open_after n k =
    if opening k then (if n == 64 then None else Some (suc n))
    else if closing k then Some (n - 1)
    else Some n

abbrev pub nested_on : Option ℕ → Place → (ℕ → Option Place) → Option Place
nested_on None p next = Some p
nested_on (Some n) p next = next n

-- the place of the first opening sign at which 64 brackets are open already, where so many are open in front
abbrev pub too_nested : ℕ → List Token → Option Place
too_nested n [] = None
too_nested n (t ∷ ts) = nested_on (open_after n t.kind) (place t) (λ m. too_nested m ts)

abbrev pub place_of : Option (ℕ × ℕ) → Option Place
place_of None = None
place_of (Some p) = Some (at p.0 p.1)
