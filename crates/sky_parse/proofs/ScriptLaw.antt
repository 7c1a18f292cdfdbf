-- Parameters, functions and statements at the top of a script, as they are read one behind the other.
use Rattle.std.proofs.Common.{◌≡◌, ℕ, ◌+◌, true, List, [], ◌∷◌, ◌++◌, length, append_assoc, append-nil, Option, refl, sym, ap, subst, ◌∙◌}
use Rattle.std.specs.BTreeSet.{insert_key}
use Rattle.sky_base.specs.Eval.{is_one_of}
use Rattle.sky_base.specs.Tree as run
use Rattle.sky_base.specs.Tree.{Place}
use Rattle.sky_base.specs.StmtView.{stm_view, stms_view}
use Rattle.sky_base.specs.ScriptView.{fun_view, funs_view}
use Rattle.sky_base.specs.declared.stmt.Stmt.{Stmt}
use Rattle.sky_base.specs.declared.script.FunDef.{FunDef as Def}
use Rattle.sky_text.specs.declared.token.Sign.{Sign}
use Rattle.sky_text.specs.declared.token.Word.{Word}
use Rattle.sky_text.specs.declared.token.Token.{Token}
use Rattle.sky_parse_grammar.specs.Source.{Param}
use Rattle.sky_parse_grammar.specs.Lifted.{text_cmp, param_names, stms_tree, stm_count, stms_count, stm_made, stms_made}
use Rattle.sky_parse_grammar.specs.Names.{first_of, at_twice, same_params, stm_same, stms_same, same_names}
use Rattle.sky_parse_grammar.specs.Tops.{Top, Spells, spell_tops, defs_of, main_of, made_of}
use Rattle.sky_parse_grammar.specs.Signs.{is_word}
use Rattle.sky_parse_grammar.specs.Grammar.{sign, name_at, spell_params, spell_block, Follows, Spelled}
use Rattle.sky_parse_grammar.proofs.Tokens.{is_that_word}
use Rattle.sky_parse.specs.declared.script.Read.{Read}
use Rattle.sky_parse_held.specs.Held.{Held, after, seen_twice, stm_part, stms_part, nothing_held}
use Rattle.sky_parse_expr.specs.Reads.{ReadsBlock}
use Rattle.sky_parse.specs.Statements.{ReadsStm}
use Rattle.sky_parse.specs.Scripts.{ReadsFun, SoFar, IsRead}
use Rattle.sky_parse_held.proofs.HeldLaw.{first_assoc, first_none, number, stm_sized, stms_sized}
use Rattle.sky_parse_held.proofs.NamesLaw.{known_more}

-- ---- named functions

pub read_fun : (x : List ℕ) (p : Place) (ps : List Param) (params : List (List ℕ)) (b : run.Stms) (uses known : List (List ℕ))
    (a h1 h2 h3 : Held) (ts t1 t2 t3 rest : List Token) (found same : Option Place) → params ≡ param_names ps → uses ≡ [] → found
    ≡ at_twice (is_one_of x known) p → same ≡ same_params [] ps
    → h1 ≡ seen_twice found a → h2 ≡ seen_twice same h1 → Spelled (λ more. name_at x p ∷ more) ts t1
    → Spelled (λ more. sign Sign.OpenRound ∷ more) t1 t2 → Spelled (λ more. spell_params ps (sign Sign.CloseRound ∷ more)) t2 t3
    → ReadsBlock b h2 h3 t3 rest
    → ReadsFun (record { name = x; params = params; body = b; place = p; uses = uses }) known a h3 ts rest
read_fun x p ps params b uses known a h1 h2 h3 ts t1 t2 t3 rest found same ep eu ef es e1 e2 fn fo fp y =
    let inside : h2 ≡ seen_twice (same_params [] ps) (seen_twice (at_twice (is_one_of x known) p) a) = e2 ∙ (λ i. seen_twice (es i) (e1 i))
    ∙ ap (λ o. seen_twice (same_params [] ps) (seen_twice o a)) ef in
    let body : b ≡ stms_tree (length a.funs) y.text = y.runs ∙ ap (λ (h : Held). stms_tree (length h.funs) y.text) inside in
    record {
      text = record { name = x; place = p; params = ps; body = y.text };
      well = y.well;
      runs = λ i. record { name = x; params = ep i; body = body i; place = p; uses = eu i };
      adds = y.adds ∙ ap (λ h. after h (stms_part y.text)) inside;
      spelled = λ more f. fn (sign Sign.OpenRound ∷ spell_params ps (sign Sign.CloseRound ∷ spell_block y.text more))
          (fo (spell_params ps (sign Sign.CloseRound ∷ spell_block y.text more)) (fp (spell_block y.text more) (y.spelled more f)));
    }

-- ---- one more function or statement

four : (r a b c d : Option Place) → first_of r (first_of a (first_of b (first_of c d))) ≡ first_of (first_of (first_of (first_of r a) b) c) d
four r a b c d = sym (first_assoc r a (first_of b (first_of c d))) ∙ sym (first_assoc (first_of r a) b (first_of c d))
    ∙ sym (first_assoc (first_of (first_of r a) b) c d)

pub so_fun : (r s : Read) (d : Def) (start ts after_word rest : List Token) → s.funs.items ≡ r.funs.items ++ d ∷ [] → s.main.items ≡ r.main.items
    → s.known ≡ insert_key text_cmp r.known d.name → ReadsFun (fun_view d) r.known r.made s.made after_word rest
    → (t : Token) × (ts ≡ t ∷ after_word) × (is_word Word.Function t.kind ≡ true) → SoFar r start ts → SoFar s start rest
so_fun r s d start ts after_word rest ef em ek y word so =
    let f = y.text in
    let n = length r.made.funs in
    let name : d.name ≡ f.name = ap (λ (g : run.FunDef). g.name) y.runs in
    let inside = seen_twice (same_params [] f.params) (seen_twice (at_twice (is_one_of f.name r.known) f.place) r.made) in
    let count : length s.made.funs ≡ n + stms_count f.body = number inside (stms_part f.body) (stms_sized f.body) y.adds in
    let same : s.made.same ≡ first_of (first_of (first_of r.made.same (at_twice (is_one_of f.name r.known) f.place)) (same_params [] f.params))
    (stms_same f.body) = ap (λ (h : Held). h.same) y.adds in
    let funs : s.made.funs ≡ r.made.funs ++ stms_made n f.body = ap (λ (h : Held). h.funs) y.adds in
    record {
      seen = so.seen ++ f.name ∷ [];
      known = λ z. known_more d.name r.known s.known so.seen ek so.known z ∙ ap (λ x. is_one_of z (so.seen ++ x ∷ [])) name;
      goes = λ us fs ms t sp vf vm.
          let spelled : Spelled (spell_tops (Top.fun f ∷ us)) ts [] =
          λ more g. subst (λ ts. Follows (spell_tops (Top.fun f ∷ us) more) ts) (sym word.1)
          (is_that_word Word.Function word.0.kind word.2, y.spelled (spell_tops us more) (sp more g)) in
          let x = so.goes (Top.fun f ∷ us) (d ∷ fs) ms (y.well, t) spelled (λ i. y.runs i ∷ (vf ∙ ap (λ m. defs_of m us) count) i)
          (vm ∙ ap (λ m. main_of m us) count) in (
            x.0,
            x.1,
            x.2,
            x.3 ∙ ap funs_view (sym (append_assoc r.funs.items (d ∷ []) fs)) ∙ ap (λ ds. funs_view (ds ++ fs)) (sym ef),
            x.4 ∙ ap (λ ss. stms_view (ss ++ ms)) (sym em),
            x.5 ∙ sym (append_assoc r.made.funs (stms_made n f.body) (made_of (n + stms_count f.body) us))
                ∙ (λ i. sym funs i ++ made_of (sym count i) us),
            x.6 ∙ ap (λ b. first_of r.made.same (first_of (at_twice b f.place)
                (first_of (same_params [] f.params) (first_of (stms_same f.body) (same_names (so.seen ++ f.name ∷ []) us)))))
                (sym (so.known f.name))
                ∙ four r.made.same (at_twice (is_one_of f.name r.known) f.place) (same_params [] f.params) (stms_same f.body)
                (same_names (so.seen ++ f.name ∷ []) us) ∙ ap (λ o. first_of o (same_names (so.seen ++ f.name ∷ []) us)) (sym same),
          );
    }

pub so_stmt : (r s : Read) (c : Stmt) (start ts rest : List Token) → s.funs.items ≡ r.funs.items → s.main.items ≡ r.main.items ++ c ∷ []
    → s.known ≡ r.known → ReadsStm (stm_view c) r.made s.made ts rest → SoFar r start ts → SoFar s start rest
so_stmt r s c start ts rest ef em ek y so =
    let f = y.text in
    let n = length r.made.funs in
    let count : length s.made.funs ≡ n + stm_count f = number r.made (stm_part f) (stm_sized f) y.adds in
    let same : s.made.same ≡ first_of r.made.same (stm_same f) = ap (λ (h : Held). h.same) y.adds in
    let funs : s.made.funs ≡ r.made.funs ++ stm_made n f = ap (λ (h : Held). h.funs) y.adds in
    record {
      seen = so.seen;
      known = λ z. ap (is_one_of z) ek ∙ so.known z;
      goes = λ us fs ms t sp vf vm.
          let x = so.goes (Top.stmt f ∷ us) fs (c ∷ ms) (y.well, t) (λ more g. y.spelled (spell_tops us more) (sp more g))
          (vf ∙ ap (λ m. defs_of m us) count) (λ i. run.Stms.stm (y.runs i) ((vm ∙ ap (λ m. main_of m us) count) i)) in (
            x.0,
            x.1,
            x.2,
            x.3 ∙ ap (λ ds. funs_view (ds ++ fs)) (sym ef),
            x.4 ∙ ap stms_view (sym (append_assoc r.main.items (c ∷ []) ms)) ∙ ap (λ ss. stms_view (ss ++ ms)) (sym em),
            x.5 ∙ sym (append_assoc r.made.funs (stm_made n f) (made_of (n + stm_count f) us)) ∙ (λ i. sym funs i ++ made_of (sym count i) us),
            x.6 ∙ sym (first_assoc r.made.same (stm_same f) (same_names so.seen us)) ∙ ap (λ o. first_of o (same_names so.seen us)) (sym same),
          );
    }

pub so_none : (r : Read) (ts : List Token) → r.funs.items ≡ [] → r.main.items ≡ [] → r.known ≡ [] → r.made ≡ nothing_held → SoFar r ts ts
so_none r ts ef em ek eh = record {
  seen = [];
  known = λ z. ap (is_one_of z) ek;
  goes = λ us fs ms t sp vf vm.
      let zero_made : length r.made.funs ≡ 0 = ap (λ (h : Held). length h.funs) eh in (
        us,
        t,
        sp,
        sym (ap (λ ds. funs_view (ds ++ fs)) ef ∙ vf ∙ ap (λ m. defs_of m us) zero_made),
        sym (ap (λ ss. stms_view (ss ++ ms)) em ∙ vm ∙ ap (λ m. main_of m us) zero_made),
        sym ((λ i. (eh i).funs ++ made_of (length (eh i).funs) us)),
        sym (ap (λ (h : Held). first_of h.same (same_names [] us)) eh),
      );
}

pub so_all : (r : Read) (ts : List Token) → SoFar r ts [] → (tops : List Top) × IsRead r tops × Spells tops ts
so_all r ts so =
    let x = so.goes [] [] [] tt (λ more f. f) refl refl in (
      x.0,
      (
        sym (x.3 ∙ ap funs_view (append-nil r.funs.items)),
        sym (x.4 ∙ ap stms_view (append-nil r.main.items)),
        sym (x.5 ∙ append-nil r.made.funs),
        sym (x.6 ∙ first_none r.made.same),
      ),
      (x.1, x.2 [] tt),
    )
