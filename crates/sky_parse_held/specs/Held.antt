-- What is held of the text while it is read, and what a tree adds to it.
use Rattle.std.specs.Prelude.{ℕ, zero, suc, ◌+◌, List, [], ◌∷◌, ◌++◌, drop, length, Option, None, refl}
use Rattle.std.specs.Coded.{Coded, code_by, coded×, coded_ℕ, coded_list, coded_option}
use Rattle.sky_base.specs.Tree as run
use Rattle.sky_base.specs.Tree.{Place}
use Rattle.sky_base.specs.ScriptCode.{text_code, funs_code}
use Rattle.sky_parse_grammar.specs.Source.{Exp, Exps, Links, Ands, Steps, Stm, Stms, Arms, Else}
use Rattle.sky_parse_grammar.specs.Lifted.{names, exps_names, links_names, ands_names, steps_names, stm_names, stms_names, arms_names, else_names, count}
use Rattle.sky_parse_grammar.specs.Lifted.{exps_count, links_count, ands_count, steps_count, stm_count, stms_count, arms_count, else_count, made, exps_made}
use Rattle.sky_parse_grammar.specs.Lifted.{links_made, ands_made, steps_made, stm_made, stms_made, arms_made, else_made, number_name, uses_of}
use Rattle.sky_parse_grammar.specs.Names.{first_of, same, exps_same, links_same, ands_same, steps_same, stm_same, stms_same, arms_same, else_same}

-- the anonymous functions so far, the names that stood, and the place of the first name that stands twice
pub record Held : Type 0 where
  pub funs : List run.FunDef
  pub names : List (List ℕ)
  pub same : Option Place

abbrev pub place_code : Coded Place
place_code = code_by (ℕ × ℕ) (coded× coded_ℕ coded_ℕ) (λ p. (p.line, p.col)) (λ p. record { line = p.0; col = p.1 }) (λ _. refl)

abbrev pub held_code : Coded Held
held_code =
    code_by (List run.FunDef × (List (List ℕ) × Option Place)) (coded× funs_code (coded× (coded_list text_code) (coded_option place_code)))
    (λ h. (h.funs, (h.names, h.same))) (λ p. record { funs = p.0; names = p.1.0; same = p.1.1 }) (λ _. refl)

abbrev pub nothing_held : Held
nothing_held = record { funs = []; names = []; same = None }

-- What a tree adds: so many anonymous functions, which they are where so many stand before, the names in it, and the
-- place of a parameter that stands twice.
pub record Part : Type 0 where
  pub count : ℕ
  pub made : ℕ → List run.FunDef
  pub names : List (List ℕ)
  pub same : Option Place

abbrev pub after : Held → Part → Held
after h p = record { funs = h.funs ++ p.made (length h.funs); names = h.names ++ p.names; same = first_of h.same p.same }

abbrev pub nothing : Part
nothing = record { count = 0; made = λ n. []; names = []; same = None }

-- one part and then another
abbrev pub both : Part → Part → Part
both p q = record {
  count = p.count + q.count;
  made = λ n. p.made n ++ q.made (n + p.count);
  names = p.names ++ q.names;
  same =
      first_of p.same q.same;
}

-- a name, and then a part
abbrev pub named_first : List ℕ → Part → Part
named_first x p = record { count = p.count; made = p.made; names = x ∷ p.names; same = p.same }

abbrev pub seen_name : List ℕ → Held → Held
seen_name x h = record { funs = h.funs; names = h.names ++ x ∷ []; same = h.same }

abbrev pub seen_twice : Option Place → Held → Held
seen_twice p h = record { funs = h.funs; names = h.names; same = first_of h.same p }

abbrev pub exp_part : Exp → Part
exp_part e = record { count = count e; made = λ n. made n e; names = names e; same = same e }

abbrev pub exps_part : Exps → Part
exps_part es = record { count = exps_count es; made = λ n. exps_made n es; names = exps_names es; same = exps_same es }

abbrev pub links_part : Links → Part
links_part ls = record { count = links_count ls; made = λ n. links_made n ls; names = links_names ls; same = links_same ls }

abbrev pub ands_part : Ands → Part
ands_part ls = record { count = ands_count ls; made = λ n. ands_made n ls; names = ands_names ls; same = ands_same ls }

abbrev pub steps_part : Steps → Part
steps_part ss = record { count = steps_count ss; made = λ n. steps_made n ss; names = steps_names ss; same = steps_same ss }

abbrev pub stm_part : Stm → Part
stm_part s = record { count = stm_count s; made = λ n. stm_made n s; names = stm_names s; same = stm_same s }

abbrev pub stms_part : Stms → Part
stms_part ss = record { count = stms_count ss; made = λ n. stms_made n ss; names = stms_names ss; same = stms_same ss }

abbrev pub arms_part : Arms → Part
arms_part arms = record { count = arms_count arms; made = λ n. arms_made n arms; names = arms_names arms; same = arms_same arms }

abbrev pub else_part : Else → Part
else_part el = record { count = else_count el; made = λ n. else_made n el; names = else_names el; same = else_same el }

-- ---- anonymous functions, while their bodies are read

abbrev pub opened : ℕ → Place → List (List ℕ) → run.FunDef
opened n p xs = record { name = number_name n; params = xs; body = run.Stms.no_stms; place = p; uses = [] }

abbrev pub with_body : run.Stms → List (List ℕ) → run.FunDef → run.FunDef
with_body b ys f = record { name = f.name; params = f.params; body = b; place = f.place; uses = uses_of f.params ys }

-- the list in which the function of this number has this body, in which these names stand
abbrev pub closed_at : ℕ → run.Stms → List (List ℕ) → List run.FunDef → List run.FunDef
closed_at n b ys [] = []
closed_at zero b ys (f ∷ fs) = with_body b ys f ∷ fs
closed_at (suc n) b ys (f ∷ fs) = f ∷ closed_at n b ys fs

abbrev pub open_in : Place → List (List ℕ) → Held → Held
open_in p xs h = record { funs = h.funs ++ opened (length h.funs) p xs ∷ []; names = h.names; same = h.same }

abbrev pub close_in : ℕ → ℕ → run.Stms → Held → Held
close_in n from b h = record { funs = closed_at n b (drop from h.names) h.funs; names = h.names; same = h.same }
