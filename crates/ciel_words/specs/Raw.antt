-- What a line says whose words were taken apart, and the one case that can't be told any more then.
use Rattle.std.specs.Borrow.{Bor}
use Rattle.std.specs.List.{list_any}
use Rattle.std.specs.Prelude.{List, [], ◌∷◌, ◌++◌, ◌&&◌, ◌||◌, Bool, false, Option, codes, if◌then◌else◌, map, option_map}
use Rattle.std.specs.Str.{bytes_eq}
use Rattle.ciel_words.specs.Parts.{Text, dashes, valued}
use Rattle.ciel_words.specs.Line.{line_said}
use Rattle.ciel_words.specs.declared.raw.Raw.{Raw}
use Rattle.ciel_words.specs.declared.words.Words.{Words}

abbrev pub text_of : Option (Bor Text) → Option Text
text_of value = option_map (λ t. t.now) value

abbrev pub said_by : Raw → Option Words
said_by r =
    let texts = map (λ w. w.now) r.words.items in
    line_said (text_of r.workers) (text_of r.seed) (text_of r.lose) (text_of r.names) (text_of r.log) (text_of r.resume)
    (text_of r.steal) (text_of r.memo_new) (text_of r.memo) (text_of r.generate) r.trace r.plain r.stream texts

-- an option with a value, as it stands where its value is the next word
abbrev pub takes_next : Text → Bool
takes_next w = list_any (λ n. bytes_eq w (dashes ++ n)) valued

-- whether the value of an option is the next word and is `-`, which no line has: taken apart, it is as if it stood behind `=`. `waits` says whether
-- the first word may be such a value
abbrev pub dash_behind : (waits : Bool) → List Text → Bool
dash_behind waits [] = false
dash_behind waits (w ∷ ws) =
    if bytes_eq w dashes then false
    else (waits && bytes_eq w (codes "-")) || dash_behind (takes_next w) ws
