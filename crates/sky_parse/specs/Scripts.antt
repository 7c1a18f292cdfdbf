-- What the code holds of a script that was read so far.
use Rattle.std.specs.Prelude.{◌≡◌, ℕ, List, [], ◌∷◌, ◌++◌, length, Bool, true, if◌then◌else◌}
use Rattle.sky_base.specs.Eval.{is_one_of}
use Rattle.sky_base.specs.Tree as run
use Rattle.sky_base.specs.StmtView.{stms_view}
use Rattle.sky_base.specs.ScriptView.{funs_view}
use Rattle.sky_base.specs.declared.stmt.Stmt.{Stmt}
use Rattle.sky_base.specs.declared.script.FunDef.{FunDef as Def}
use Rattle.sky_text.specs.declared.token.Sign.{Sign}
use Rattle.sky_text.specs.declared.token.Word.{Word}
use Rattle.sky_text.specs.declared.token.Token.{Token}
use Rattle.sky_parse_grammar.specs.Signs.{at_sign, is_word}
use Rattle.sky_parse_grammar.specs.Grammar.{Fun, sign, name_at, spell_params, spell_block, AreStms, Spelled}
use Rattle.sky_parse_grammar.specs.Names.{first_of, at_twice, same_params, same_names}
use Rattle.sky_parse_grammar.specs.Tops.{Top, spell_tops, AreTops, def_of, defs_of, main_of, made_of}
use Rattle.sky_parse_held.specs.Held.{Held, after, seen_twice, stms_part}
use Rattle.sky_parse.specs.declared.script.Read.{Read}

-- a named function was read behind its word, where functions of these names came before
pub record ReadsFun (d : run.FunDef) (known : List (List ℕ)) (old new : Held) (ts rest : List Token) : Type 0 where
  pub text : Fun
  pub well : AreStms text.body
  pub runs : d ≡ def_of (length old.funs) text
  pub adds : new ≡ after (seen_twice (same_params [] text.params) (seen_twice (at_twice (is_one_of text.name known) text.place) old))
      (stms_part text.body)
  pub spelled : Spelled (λ more. name_at text.name text.place ∷ sign Sign.OpenRound
      ∷ spell_params text.params (sign Sign.CloseRound ∷ spell_block text.body more)) ts rest

-- the functions and statements of a script, behind those that were read: with these the script is of those that were read and these
abbrev pub Goes : List (List ℕ) → Read → List Token → List Token → Type 0
Goes seen r ts rest = (us : List Top) (fs : List Def) (ms : List Stmt) → AreTops us → Spelled (spell_tops us) rest [] → funs_view fs
    ≡ defs_of (length r.made.funs) us → stms_view ms ≡ main_of (length r.made.funs) us
    → (tops : List Top) × AreTops tops × Spelled (spell_tops tops) ts [] × (defs_of 0 tops ≡ funs_view (r.funs.items ++ fs))
    × (main_of 0 tops ≡ stms_view (r.main.items ++ ms)) × (made_of 0 tops ≡ r.made.funs ++ made_of (length r.made.funs) us)
    × (same_names [] tops ≡ first_of r.made.same (same_names seen us))

-- so far this was read; the names of functions that stood are known
pub record SoFar (r : Read) (ts rest : List Token) : Type 0 where
  pub seen : List (List ℕ)
  pub known : (x : List ℕ) → is_one_of x r.known ≡ is_one_of x seen
  pub goes : Goes seen r ts rest

-- all was read
abbrev pub IsRead : Read → List Top → Type 0
IsRead r tops = (funs_view r.funs.items ≡ defs_of 0 tops) × (stms_view r.main.items ≡ main_of 0 tops) × (r.made.funs ≡ made_of 0 tops)
    × (r.made.same ≡ same_names [] tops)

-- no named function stands first: a word `function` has a bracket behind it
abbrev pub no_function : List Token → Bool
no_function [] = true
no_function (t ∷ ts) = if is_word Word.Function t.kind then at_sign Sign.OpenRound ts else true
