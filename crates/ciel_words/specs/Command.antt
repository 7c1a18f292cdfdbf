-- The command that the words are taken apart by, in clap's own terms.
use Rattle.std.specs.Prelude.{◌≡◌, List, Option, Some, codes, Bool, true, false}
use Rattle.clap.specs.Walk.{Row, Rule, Text}
use Rattle.clap.specs.Simple.{App, new_app, new_rule, with_rule, matches_of, on_top}
use Rattle.clap.specs.declared.builder.action.ArgAction.TheVariants.{Set, SetTrue, Append}

abbrev pub option_rule : Text → Rule
option_rule name = record (new_rule name) { long = Some name; action = Some Set }

abbrev pub flag_rule : Text → Rule
flag_rule name = record (new_rule name) { long = Some name; action = Some SetTrue }

abbrev pub words_rule : Rule
words_rule = record (new_rule (codes "words")) { action = Some Append }

-- no help, no version, and no name of the program before the words
abbrev pub bare : Text → App
bare name = on_top (λ s. record s { no_binary_name = true; disable_help_flag = true; disable_version_flag = true }) (new_app name)

abbrev pub with_option : Text → App → App
with_option name app = with_rule app (option_rule name)

abbrev pub with_flag : Text → App → App
with_flag name app = with_rule app (flag_rule name)

abbrev pub command : App
command =
    let numbers = with_option (codes "lose") (with_option (codes "seed") (with_option (codes "workers") (bare (codes "ciel")))) in
    let logs = with_option (codes "resume") (with_option (codes "log") (with_option (codes "names") numbers)) in
    let memos = with_option (codes "memo") (with_option (codes "memo-new") (with_option (codes "steal") logs)) in
    let options = with_option (codes "generate") memos in
    with_rule (with_flag (codes "stream") (with_flag (codes "plain") (with_flag (codes "trace") options))) words_rule

-- what clap reads of the words
abbrev pub rows : List Text → List Row
rows words = matches_of command words

-- what a flag's text says
abbrev pub FlagSays : Option Text → Bool → Type 0
FlagSays text b = (text ≡ Some (codes "true") → b ≡ true) × (text ≡ Some (codes "false") → b ≡ false)
