-- What stands between brackets, for each form with brackets.
use Rattle.std.specs.Prelude.{◌≡◌, ℕ, ◌==◌, ◌%◌, if◌then◌else◌, Bool, true, false, List, ◌∷◌}
use Rattle.sky_base.specs.Tree.{Place}
use Rattle.sky_text.specs.declared.token.Sign.{Sign}
use Rattle.sky_text.specs.declared.token.Word.{Word}
use Rattle.sky_parse_grammar.specs.declared.parts.Shape.{Shape}
use Rattle.sky_parse_grammar.specs.declared.parts.Head.{Head}
use Rattle.sky_parse_grammar.specs.declared.parts.StepHead.{StepHead}
use Rattle.sky_parse_grammar.specs.Grammar.{Mark, sign, sign_at, word_at, spell_exps, spell_pairs, paired}
use Rattle.sky_parse_grammar.specs.Source.{Exps, exps_count}

abbrev pub head_shape : Head → Shape
head_shape Head.Parens = Shape.Fixed 1 Sign.CloseRound
head_shape Head.List = Shape.Many Sign.CloseSquare
head_shape Head.Dict = Shape.Pairs
head_shape Head.Spawn = Shape.Fixed 2 Sign.CloseRound
head_shape Head.SpawnExec = Shape.Fixed 3 Sign.CloseRound
head_shape Head.Exec = Shape.Fixed 3 Sign.CloseRound
head_shape Head.Ref = Shape.Fixed 1 Sign.CloseRound
head_shape Head.Len = Shape.Fixed 1 Sign.CloseRound
head_shape Head.Keys = Shape.Fixed 1 Sign.CloseRound
head_shape Head.Has = Shape.Fixed 2 Sign.CloseRound
head_shape Head.Range = Shape.Fixed 2 Sign.CloseRound

abbrev pub separator : Shape → ℕ → Sign
separator (Shape.Many s) n = Sign.Comma
separator (Shape.Fixed m s) n = Sign.Comma
separator Shape.Pairs n = if n % 2 == 1 then Sign.Colon else Sign.Comma

abbrev pub full : Shape → ℕ → Bool
full (Shape.Many s) n = false
full (Shape.Fixed m s) n = n == m
full Shape.Pairs n = false

abbrev pub ready : Shape → ℕ → Bool
ready (Shape.Many s) n = true
ready (Shape.Fixed m s) n = n == m
ready Shape.Pairs n = n % 2 == 0

abbrev pub closing : Shape → Sign
closing (Shape.Many s) = s
closing (Shape.Fixed m s) = s
closing Shape.Pairs = Sign.CloseCurly

-- the parts that a shape takes
abbrev pub Has : Shape → Exps → Type 0
Has (Shape.Many s) es = Unit {0}
Has (Shape.Fixed m s) es = exps_count es ≡ m
Has Shape.Pairs es = paired es ≡ true

-- the parts with the signs between them
abbrev pub spell_open : Shape → Exps → List Mark → List Mark
spell_open (Shape.Many s) es more = spell_exps es more
spell_open (Shape.Fixed m s) es more = spell_exps es more
spell_open Shape.Pairs es more = spell_pairs es more

-- and then the sign that closes them
abbrev pub spell_parts : Shape → Exps → List Mark → List Mark
spell_parts h es more = spell_open h es (sign (closing h) ∷ more)

-- the tokens in front of the parts
abbrev pub spell_head : Head → Place → List Mark → List Mark
spell_head Head.Parens p more = sign Sign.OpenRound ∷ more
spell_head Head.List p more = sign_at Sign.OpenSquare p ∷ more
spell_head Head.Dict p more = sign_at Sign.OpenCurly p ∷ more
spell_head Head.Spawn p more = word_at Word.Spawn p ∷ sign Sign.OpenRound ∷ more
spell_head Head.SpawnExec p more = word_at Word.SpawnExec p ∷ sign Sign.OpenRound ∷ more
spell_head Head.Exec p more = word_at Word.Exec p ∷ sign Sign.OpenRound ∷ more
spell_head Head.Ref p more = word_at Word.Ref p ∷ sign Sign.OpenRound ∷ more
spell_head Head.Len p more = word_at Word.Len p ∷ sign Sign.OpenRound ∷ more
spell_head Head.Keys p more = word_at Word.Keys p ∷ sign Sign.OpenRound ∷ more
spell_head Head.Has p more = word_at Word.Has p ∷ sign Sign.OpenRound ∷ more
spell_head Head.Range p more = word_at Word.Range p ∷ sign Sign.OpenRound ∷ more

abbrev pub step_shape : StepHead → Shape
step_shape StepHead.Index = Shape.Fixed 1 Sign.CloseSquare
step_shape StepHead.Call = Shape.Many Sign.CloseRound

abbrev pub step_sign : StepHead → Sign
step_sign StepHead.Index = Sign.OpenSquare
step_sign StepHead.Call = Sign.OpenRound
