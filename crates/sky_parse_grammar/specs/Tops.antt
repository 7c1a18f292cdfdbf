-- A script as a whole: functions and statements, in the order of the text.
use Rattle.std.specs.Prelude.{ℕ, ◌+◌, List, [], ◌∷◌, ◌++◌}
use Rattle.sky_base.specs.Tree as run
use Rattle.sky_base.specs.Tree.{FunDef, Script}
use Rattle.sky_parse_grammar.specs.Lifted.{param_names, stm_count, stms_count, stm_tree, stms_tree, stm_made, stms_made}
use Rattle.sky_text.specs.declared.token.Token.{Token}
use Rattle.sky_parse_grammar.specs.Grammar.{Mark, Fun, spell_fun, spell_stm, IsStm, AreStms, Follows}
use Rattle.sky_parse_grammar.specs.Source.{Stm}

pub data Top : Type 0 where
  fun : Fun → Top
  stmt : Stm → Top

abbrev pub spell_top : Top → List Mark → List Mark
spell_top (Top.fun f) more = spell_fun f more
spell_top (Top.stmt s) more = spell_stm s more

abbrev pub spell_tops : List Top → List Mark → List Mark
spell_tops [] more = more
spell_tops (t ∷ ts) more = spell_top t (spell_tops ts more)

abbrev pub IsTop : Top → Type 0
IsTop (Top.fun f) = AreStms f.body
IsTop (Top.stmt s) = IsStm s

abbrev pub AreTops : List Top → Type 0
AreTops [] = Unit {0}
AreTops (t ∷ ts) = IsTop t × AreTops ts

-- The functions and statements spell the tokens.
abbrev pub Spells : List Top → List Token → Type 0
Spells tops ts = AreTops tops × Follows (spell_tops tops []) ts

-- ---- the script that is run

-- how many anonymous functions stand in a script
abbrev pub top_count : Top → ℕ
top_count (Top.fun f) = stms_count f.body
top_count (Top.stmt s) = stm_count s

abbrev pub def_of : ℕ → Fun → FunDef
def_of n f = record { name = f.name; params = param_names f.params; body = stms_tree n f.body; place = f.place; uses = [] }

abbrev pub top_defs : ℕ → Top → List FunDef → List FunDef
top_defs n (Top.fun f) rest = def_of n f ∷ rest
top_defs n (Top.stmt s) rest = rest

abbrev pub top_main : ℕ → Top → run.Stms → run.Stms
top_main n (Top.fun f) rest = rest
top_main n (Top.stmt s) rest = run.Stms.stm (stm_tree n s) rest

abbrev pub top_made : ℕ → Top → List FunDef
top_made n (Top.fun f) = stms_made n f.body
top_made n (Top.stmt s) = stm_made n s

-- the named functions, where so many anonymous ones stand before
abbrev pub defs_of : ℕ → List Top → List FunDef
defs_of n [] = []
defs_of n (t ∷ ts) = top_defs n t (defs_of (n + top_count t) ts)

-- the statements outside of functions
abbrev pub main_of : ℕ → List Top → run.Stms
main_of n [] = run.Stms.no_stms
main_of n (t ∷ ts) = top_main n t (main_of (n + top_count t) ts)

-- the anonymous functions, in the order of their words
abbrev pub made_of : ℕ → List Top → List FunDef
made_of n [] = []
made_of n (t ∷ ts) = top_made n t ++ made_of (n + top_count t) ts

abbrev pub script_of : List (List ℕ) → List Top → Script
script_of keys tops = record { funs = defs_of 0 tops ++ made_of 0 tops; main = main_of 0 tops; keys = keys }
