-- The reading of an anonymous function from those of its parts.
use Rattle.std.proofs.Common.{◌≡◌, ℕ, ◌+◌, List, [], ◌∷◌, ◌++◌, length, length-append, append_assoc, drop, refl, ap, ◌∙◌, arith}
use Rattle.std.proofs.lemmas.List.{drop_at}
use Rattle.sky_base.specs.Tree as run
use Rattle.sky_base.specs.Tree.{Place}
use Rattle.sky_text.specs.declared.token.Sign.{Sign}
use Rattle.sky_text.specs.declared.token.Word.{Word}
use Rattle.sky_text.specs.declared.token.Token.{Token}
use Rattle.sky_parse_grammar.specs.Source.{Param, Exp, Stms}
use Rattle.sky_parse_grammar.specs.Lifted.{number_name, param_names, closure, stms_names, stms_tree, stms_made}
use Rattle.sky_parse_grammar.specs.Grammar.{sign, word_at, spell_params, spell_block, Fits, Spelled}
use Rattle.sky_parse_grammar.specs.Names.{same_params, stms_same}
use Rattle.sky_parse_held.specs.Held.{Held, after, seen_twice, exp_part, stms_part, opened, with_body, closed_at, open_in, close_in}
use Rattle.sky_parse_expr.specs.Reads.{ReadsExp, ReadsBlock}
use Rattle.sky_parse_held.proofs.HeldLaw.{first_assoc}

-- a function behind others gets its body
closed_last : (fs : List run.FunDef) (f : run.FunDef) (gs : List run.FunDef) (b : run.Stms) (ys : List (List ℕ))
    → closed_at (length fs) b ys (fs ++ f ∷ gs) ≡ fs ++ with_body b ys f ∷ gs
closed_last [] f gs b ys = refl
closed_last (h ∷ fs) f gs b ys = ap (λ ks. h ∷ ks) (closed_last fs f gs b ys)

-- what is held while the body is read
abbrev pub inside : Place → List Param → Held → Held
inside p ps a = seen_twice (same_params [] ps) (open_in p (param_names ps) a)

closed_adds : (a h2 h3 : Held) (p : Place) (ps : List Param) (s : Stms) (number from : ℕ) (b : run.Stms) → h3 ≡ close_in number from b h2
    → number ≡ length a.funs → from ≡ length a.names → h2 ≡ after (inside p ps a) (stms_part s) → b ≡ stms_tree (length (inside p ps a).funs) s
    → h3 ≡ after a (exp_part (Exp.func p ps s))
closed_adds a h2 h3 p ps s number from b e num fro e2 eb =
    let n = length a.funs in
    let xs = param_names ps in
    let o = opened n p xs in
    let k : length (a.funs ++ o ∷ []) ≡ n + 1 = length-append a.funs (o ∷ []) in
    let body = stms_tree (n + 1) s in
    let ys = stms_names s in
    let tree : b ≡ body = eb ∙ ap (λ m. stms_tree m s) k in
    let dropped : drop (length a.names) (a.names ++ ys) ≡ ys = drop_at a.names ys (length a.names) refl in
    let funs : closed_at n body (drop (length a.names) (a.names ++ ys)) ((a.funs ++ o ∷ []) ++ stms_made (length (a.funs ++ o ∷ [])) s) ≡ a.funs
    ++ (closure n p xs body ys ∷ stms_made (n + 1) s) =
    (λ i. closed_at n body (dropped i) ((a.funs ++ o ∷ []) ++ stms_made (k i) s))
    ∙ ap (closed_at n body ys) (append_assoc a.funs (o ∷ []) (stms_made (n + 1) s)) ∙ closed_last a.funs o (stms_made (n + 1) s) body ys in
    e ∙ (λ i. close_in (num i) (fro i) (tree i) (e2 i))
    ∙ (λ i. record { funs = funs i; names = a.names ++ ys; same = first_assoc a.same (same_params [] ps) (stms_same s) i })

pub read_function : (x : List ℕ) (p : Place) (ps : List Param) (b : run.Stms) (a h1 h2 h3 : Held) (t : Token) (ts us mid rest : List Token)
    (number from : ℕ) → x ≡ number_name (length a.funs) → number ≡ length a.funs → from ≡ length a.names → h1 ≡ inside p ps a → h3
    ≡ close_in number from b h2
    → Fits (word_at Word.Function p) t → Spelled (λ more. sign Sign.OpenRound ∷ more) ts us
    → Spelled (λ more. spell_params ps (sign Sign.CloseRound ∷ more)) us mid → ReadsBlock b h1 h2 mid rest
    → ReadsExp 7 (run.Exp.func x p) a h3 (t ∷ ts) rest
read_function x p ps b a h1 h2 h3 t ts us mid rest number from ex num fro e1 e3 fit bracket params y = record {
  text = Exp.func p ps y.text;
  well = (y.well, omega arith);
  runs = ap (λ z. run.Exp.func z p) ex;
  adds = closed_adds a h2 h3 p ps y.text number from b e3 num fro (y.adds ∙ ap (λ h. after h (stms_part y.text)) e1)
      (y.runs ∙ ap (λ (h : Held). stms_tree (length h.funs) y.text) e1);
  spelled = λ more f. (
    fit,
    bracket (spell_params ps (sign Sign.CloseRound ∷ spell_block y.text more))
        (params (spell_block y.text more) (y.spelled more f)),
  );
}
