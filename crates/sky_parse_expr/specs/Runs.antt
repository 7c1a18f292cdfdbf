-- What the functions of the parser say of the machine, for all that is to come behind what they read.
use Rattle.std.specs.Prelude.{◌≡◌, ℕ, if◌then◌else◌, Bool, false, List, ◌∷◌, Option, Some, None, Result, Ok, Err}
use Rattle.sky_text.specs.declared.token.Sign.{Sign}
use Rattle.sky_text.specs.declared.token.Token.{Token}
use Rattle.sky_parse_expr.specs.declared.look.Fail.{Fail}
use Rattle.sky_parse_expr.specs.declared.begin.Opening.{Opening}
use Rattle.sky_parse_grammar.specs.declared.parts.Shape.{Shape}
use Rattle.sky_parse_grammar.specs.Signs.{at_sign}
use Rattle.sky_parse_grammar.specs.Parts.{head_shape, separator, full}
use Rattle.sky_parse_grammar.specs.Machine.{Item, Out, run, kinds}

-- The machine stops with so many tokens left, or there is no memory.
abbrev pub Stops : (List Item → Out) → Fail → Type 0
Stops from Fail.Memory = Unit {0}
Stops from (Fail.Stuck n) = (k : List Item) → from k ≡ Out.stuck n

-- Where something was read, the machine goes on as said; else it stops there too.
abbrev pub Goes : {X : Type 0} → (X → List Item → Out) → (List Item → Out) → Result X Fail → Type 0
Goes to from (Ok x) = (k : List Item) → from k ≡ to x k
Goes to from (Err e) = Stops from e

-- The machine goes on with the tokens that are left.
abbrev pub Runs : {X : Type 0} → (X → List Token) → (List Item → Out) → Result X Fail → Type 0
Runs rest from r = Goes (λ x k. run k (kinds (rest x))) from r

-- Where something stands first, the machine goes on behind it, else as without it.
abbrev pub Takes : {X : Type 0} → (X → List Item → Out) → (List Item → Out) → (List Item → Out) → Option X → Type 0
Takes to without from (Some x) = (k : List Item) → from k ≡ to x k
Takes to without from None = (k : List Item) → from k ≡ without k

-- what is to come behind the beginning of a primary
abbrev pub behind : Opening → List Item → List Item
behind (Opening.Leaf e) k = k
behind (Opening.Open h l c) k = Item.parts (head_shape h) ∷ k
behind (Opening.Function l c) k = Item.sign Sign.OpenRound ∷ Item.params ∷ Item.block ∷ k

-- whether the sign stands first behind which one more part follows
abbrev pub at_next : Shape → ℕ → List Token → Bool
at_next h n ts = if full h n then false else at_sign (separator h n) ts
