-- The levels of chains: which operators each has, and which level its operands have.
use Rattle.std.specs.Prelude.{ℕ, Bool, false, ◌||◌, List, [], ◌∷◌, Option, Some, None}
use Rattle.sky_base.specs.Tree.{Oper, Junction}
use Rattle.sky_text.specs.declared.token.Sign.{Sign}
use Rattle.sky_text.specs.declared.token.TokenKind.{TokenKind}
use Rattle.sky_text.specs.declared.token.Token.{Token}
use Rattle.sky_parse_grammar.specs.declared.level.Level.{Level}
use Rattle.sky_parse_grammar.specs.Signs.{is}

-- how tightly an operator binds: a comparison 2, a sum 3, a product 4
abbrev pub oper_level : Oper → ℕ
oper_level Oper.plus = 3
oper_level Oper.minus = 3
oper_level Oper.times = 4
oper_level Oper.over = 4
oper_level Oper.rest = 4
oper_level (Oper.compare o) = 2

abbrev pub junction_level : Junction → ℕ
junction_level Junction.either = 0
junction_level Junction.both = 1

-- the level of the chains in the grammar
abbrev pub rank : Level → ℕ
rank Level.Either = 0
rank Level.Both = 1
rank Level.Comparison = 2
rank Level.Sum = 3
rank Level.Product = 4
rank Level.Prefix = 5

abbrev pub tighter : Level → Option Level
tighter Level.Either = Some Level.Both
tighter Level.Both = Some Level.Comparison
tighter Level.Comparison = Some Level.Sum
tighter Level.Sum = Some Level.Product
tighter Level.Product = Some Level.Prefix
tighter Level.Prefix = None

abbrev pub junction : Level → Junction
junction Level.Either = Junction.either
junction Level.Both = Junction.both
junction Level.Comparison = Junction.either
junction Level.Sum = Junction.either
junction Level.Product = Junction.either
junction Level.Prefix = Junction.either

abbrev pub join_sign : Level → Sign
join_sign Level.Either = Sign.Or
join_sign Level.Both = Sign.And
join_sign Level.Comparison = Sign.Or
join_sign Level.Sum = Sign.Or
join_sign Level.Product = Sign.Or
join_sign Level.Prefix = Sign.Or

abbrev pub orders : TokenKind → Bool
orders k = is Sign.Less k || (is Sign.LessEqual k || (is Sign.Greater k || is Sign.GreaterEqual k))

-- whether a token is an operator of the level
abbrev pub opens : Level → TokenKind → Bool
opens Level.Either k = is Sign.Or k
opens Level.Both k = is Sign.And k
opens Level.Comparison k = is Sign.Equal k || (is Sign.NotEqual k || orders k)
opens Level.Sum k = is Sign.Plus k || is Sign.Minus k
opens Level.Product k = is Sign.Star k || (is Sign.Slash k || is Sign.Percent k)
opens Level.Prefix k = false

abbrev pub at_order : List Token → Bool
at_order [] = false
at_order (t ∷ ts) = orders t.kind

-- whether an operator of the level stands first
abbrev pub at_oper : Level → List Token → Bool
at_oper l [] = false
at_oper l (t ∷ ts) = opens l t.kind
