-- What is answered for functions and statements that were read, and for tokens that are none.
use Rattle.std.proofs.Common.{◌≡◌, ℕ, ◌-◌, List, [], ◌∷◌, ◌++◌, length, Option, Some, None, refl, sym, ap, subst, ◌∙◌}
use Rattle.std.specs.Prelude.{Result, Ok, Err, IfOk}
use Rattle.sky_base.specs.Tree.{Place, FunDef, Script}
use Rattle.sky_base.specs.Tree as run
use Rattle.sky_base.specs.TreeView.{at}
use Rattle.sky_base.specs.StmtView.{stms_view}
use Rattle.sky_base.specs.ScriptView.{fun_view, funs_view}
use Rattle.sky_base.specs.declared.script.FunDef.{FunDef as Def}
use Rattle.sky_text.specs.declared.token.Token.{Token}
use Rattle.sky_parse_grammar.specs.Machine.{Item, Out, kinds}
use Rattle.sky_parse_grammar.specs.Machine as machine
use Rattle.sky_parse_grammar.specs.Names.{same_names}
use Rattle.sky_parse_grammar.specs.Nesting.{too_nested}
use Rattle.sky_parse_grammar.specs.Tops.{Top, Spells, script_of}
use Rattle.sky_parse_grammar.proofs.Exact.{exact}
use Rattle.sky_parse_grammar.proofs.UniqueScripts.{one_script}
use Rattle.sky_parse.specs.Parsed.{IsSpelled, IsValid, Gives, IsTwice, Named, Nested, Refused, RefusedAt, made_if, place_at}
use Rattle.sky_parse.specs.Scripts.{IsRead}
use Rattle.sky_parse.specs.declared.script.Read.{Read}
use Rattle.sky_parse.specs.declared.script.ParseRefusal.{ParseRefusal}

funs_append : (xs ys : List Def) → funs_view (xs ++ ys) ≡ funs_view xs ++ funs_view ys
funs_append [] ys = refl
funs_append (x ∷ xs) ys = ap (λ fs. fun_view x ∷ fs) (funs_append xs ys)

-- the parts of the script that was read
pub whole_script : (r : Read) (tops : List Top) (keys : List (List ℕ)) (all made : List Def) (funs : List FunDef) (main : run.Stms)
    → IsRead r tops → funs_view made ≡ r.made.funs → all ≡ r.funs.items ++ made → funs ≡ funs_view all → main ≡ stms_view r.main.items
    → (let s : Script = record { funs = funs; main = main; keys = keys } in s) ≡ script_of keys tops
whole_script r tops keys all made funs main h em ea ef es =
    let both = ef ∙ ap funs_view ea ∙ funs_append r.funs.items made ∙ (λ i. h.0 i ++ (em ∙ h.2) i) in
    λ i. record { funs = both i; main = (es ∙ h.1) i; keys = keys }

pub made_twice : (o : Option Place) (keys : List (List ℕ)) (tops : List Top) (l c : ℕ) → o ≡ Some (at l c)
    → made_if o keys tops (Err (ParseRefusal.SameName l c))
made_twice o keys tops l c e = subst (λ p. made_if p keys tops (Err (ParseRefusal.SameName l c))) (sym e) refl

pub made_script : (o : Option Place) (keys : List (List ℕ)) (tops : List Top) (s : Script) → o ≡ None → s ≡ script_of keys tops
    → made_if o keys tops (Ok s)
made_script o keys tops s e h = subst (λ p. made_if p keys tops (Ok s)) (sym e) h

pub made_memory : (o : Option Place) (keys : List (List ℕ)) (tops : List Top) → made_if o keys tops (Err ParseRefusal.Memory)
made_memory (Some p) keys tops = tt
made_memory None keys tops = tt

-- ---- the clauses of `parse`, where functions and statements were read

module _ (keys : List (List ℕ)) (ts : List Token) (tops : List Top) (spells : Spells tops ts) where
  pub is_valid : (r : Result Script ParseRefusal) → made_if (same_names [] tops) keys tops r → (us : List Top) → IsValid us ts → Gives keys us r
  is_valid r m us v =
      let same = one_script us tops ts v.0 spells in
      let none : same_names [] tops ≡ None = ap (same_names []) (sym same) ∙ v.2 in
      subst (λ xs. Gives keys xs r) (sym same) (subst (λ o. made_if o keys tops r) none m)

  pub is_spelled : (r : Result Script ParseRefusal) → made_if (same_names [] tops) keys tops r → IfOk r (λ s. IsSpelled keys ts s)
  is_spelled (Err e) m = tt
  is_spelled (Ok s) m = go (same_names [] tops) refl m
    where
      go : (o : Option Place) → same_names [] tops ≡ o → made_if o keys tops (Ok s) → IsSpelled keys ts s
      go (Some p) e h = absurd h
      go None e h = (tops, spells, e, h)

  pub is_named : (r : Result Script ParseRefusal) → made_if (same_names [] tops) keys tops r → Named ts r
  is_named (Ok s) m = tt
  is_named (Err (ParseRefusal.TooNested l c)) m = tt
  is_named (Err (ParseRefusal.NoSentence l c)) m = tt
  is_named (Err ParseRefusal.Memory) m = tt
  is_named (Err (ParseRefusal.SameName l c)) m = go (same_names [] tops) refl m
    where
      go : (o : Option Place) → same_names [] tops ≡ o → made_if o keys tops (Err (ParseRefusal.SameName l c))
          → Named ts (Err (ParseRefusal.SameName l c))
      go (Some p) e h = (tops, spells, e ∙ ap Some (sym h))
      go None e h = absurd h

  pub is_twice : (r : Result Script ParseRefusal) → made_if (same_names [] tops) keys tops r → (us : List Top) (p : Place) → Spells us ts
      → same_names [] us ≡ Some p → IsTwice p r
  is_twice r m us p s e =
      let same = one_script us tops ts s spells in
      subst (λ o. made_if o keys tops r) (ap (same_names []) (sym same) ∙ e) m

  pub is_refused : (end : Place) (r : Result Script ParseRefusal) → made_if (same_names [] tops) keys tops r → Refused ts end r
  is_refused end (Ok s) m = tt
  is_refused end (Err (ParseRefusal.TooNested l c)) m = tt
  is_refused end (Err (ParseRefusal.SameName l c)) m = tt
  is_refused end (Err ParseRefusal.Memory) m = tt
  is_refused end (Err (ParseRefusal.NoSentence l c)) m = go (same_names [] tops) m
    where
      go : (o : Option Place) → made_if o keys tops (Err (ParseRefusal.NoSentence l c))
          → Refused {X = Script} ts end (Err (ParseRefusal.NoSentence l c))
      go (Some p) h = absurd h
      go None h = absurd h

  pub is_nested : (r : Result Script ParseRefusal) → made_if (same_names [] tops) keys tops r → too_nested 0 ts ≡ None → Nested ts r
  is_nested (Ok s) m n = n
  is_nested (Err (ParseRefusal.NoSentence l c)) m n = n
  is_nested (Err (ParseRefusal.SameName l c)) m n = n
  is_nested (Err ParseRefusal.Memory) m n = n
  is_nested (Err (ParseRefusal.TooNested l c)) m n = go (same_names [] tops) m
    where
      go : (o : Option Place) → made_if o keys tops (Err (ParseRefusal.TooNested l c)) → Nested {X = Script} ts (Err (ParseRefusal.TooNested l c))
      go (Some p) h = absurd h
      go None h = absurd h

-- ---- where none were

pub refused_at : (ts : List Token) (end p : Place) (n : ℕ) → machine.run (Item.tops ∷ []) (kinds ts) ≡ Out.stuck n → p
    ≡ place_at ts (length ts - n) end → RefusedAt ts end p
refused_at ts end p n e h = (length ts - n, exact ts n e, h)
