-- What the beginning of a primary says: the whole of it, or the tokens in front of its parts.
use Rattle.std.specs.Prelude.{◌≡◌, List, ◌∷◌}
use Rattle.sky_base.specs.TreeView.{at, exp_view}
use Rattle.sky_text.specs.declared.token.Word.{Word}
use Rattle.sky_text.specs.declared.token.Token.{Token}
use Rattle.sky_parse_grammar.specs.Grammar.{Fits, Spelled, word_at}
use Rattle.sky_parse_grammar.specs.Parts.{spell_head}
use Rattle.sky_parse_expr.specs.declared.begin.Opening.{Opening}
use Rattle.sky_parse_held.specs.Held.{Held}
use Rattle.sky_parse_expr.specs.Reads.{ReadsExp}

abbrev pub Begun : Opening → Held → Held → List Token → List Token → Type 0
Begun (Opening.Leaf e) old new ts rest = ReadsExp 7 (exp_view e) old new ts rest
Begun (Opening.Open h l c) old new ts rest = (new ≡ old) × Spelled (spell_head h (at l c)) ts rest
Begun (Opening.Function l c) old new ts rest = (new ≡ old) × ((t : Token) × (ts ≡ t ∷ rest) × Fits (word_at Word.Function (at l c)) t)
