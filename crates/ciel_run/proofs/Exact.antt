-- The causes of refusals exclude each other, and a script: the bytes have one list of tokens or one refusal, the tokens one
-- first bracket that is nested too deep, one place where they go wrong or one script, the script one first name that stands
-- twice, and the inputs one that is too long first.
use Rattle.std.proofs.Common.{◌≡◌, ◌⊎◌, inl, inr, ℕ, ◌≤◌, ◌<◌, List, [], ◌∷◌, length, Option, Some, None, Result, Ok, Err, refl, sym, ap, subst, ◌∙◌}
use Rattle.std.proofs.Common.{arith}
use Rattle.sky_base.specs.See.{Answered, Desc, Job, Means, Never}
use Rattle.sky_base.specs.Tree.{Place, Script}
use Rattle.sky_base.specs.TreeView.{at}
use Rattle.sky_text.specs.Lexing.{tokens_of}
use Rattle.sky_text.specs.Place.{place_of}
use Rattle.sky_text.specs.declared.lex.LexRefusal.{LexRefusal}
use Rattle.sky_text.specs.declared.token.Token.{Token}
use Rattle.sky_parse_grammar.specs.Names.{same_names}
use Rattle.sky_parse_grammar.specs.Nesting.{too_nested}
use Rattle.sky_parse.specs.Parsed.{RefusedAt, IsValid, place_at}
use Rattle.sky_parse_grammar.specs.Reading.{IsRefused}
use Rattle.sky_parse_grammar.specs.Tops.{Top, Spells, script_of}
use Rattle.sky_parse_grammar.proofs.Exact.{spelled_or_refused}
use Rattle.sky_parse_grammar.proofs.UniqueScripts.{one_script}
use Rattle.sky_plain.specs.Needs.{Chain, MakesMany}
use Rattle.sky_base_law.proofs.SeenLaw.{means_one}
use Rattle.sky_parse.specs.Source.{IsScript, end_of}
use Rattle.ciel_run_load.specs.Line as files
use Rattle.ciel_run_load.specs.Line.{Input, keys_of}
use Rattle.ciel_words.specs.declared.words.Words.{Words}
use Rattle.sky_base.specs.KitView.{Gives}
use Rattle.ciel_run_line.specs.Line.{FitsIn, SourceFits, files_of}
use Rattle.ciel_run_line.specs.Source.{IsAnswer, IsSource, OfJob, job_of, around}
use Rattle.ciel_run_load.specs.Syntax.{IsSyntaxFault}
use Rattle.ciel_run_load.specs.Found.{AllWithin, Fits, IsFirstOver, IsTooLong, input_limit, limit}
use Rattle.ciel_run.specs.Ending.{IsExpected, MayEnd, TooLongIn}
use Rattle.ciel_run.specs.Laws.{EndsSo, NoScriptIsRefused, EndsScript, ScriptIsRun, TooLongIsRefused, TooLongInputIsRefused, MeansOneAnswer}
use Rattle.ciel_run_load.specs.declared.script.SyntaxKind.{SyntaxKind}
use Rattle.ciel_run_log.specs.declared.why.Why.{Why}

-- ---- what the bytes come to, stage by stage: the end that refuses them, or none for a script

-- how bytes that have no tokens are refused
abbrev lexed : LexRefusal → List ℕ → Why
lexed (LexRefusal.BadByte byte) source = Why.Syntax SyntaxKind.BadByte (place_of source byte).0 (place_of source byte).1
lexed (LexRefusal.OpenText byte) source = Why.Syntax SyntaxKind.OpenText (place_of source byte).0 (place_of source byte).1
lexed (LexRefusal.BadEscape byte) source = Why.Syntax SyntaxKind.BadEscape (place_of source byte).0 (place_of source byte).1
lexed (LexRefusal.BigNumber byte) source = Why.Syntax SyntaxKind.BigNumber (place_of source byte).0 (place_of source byte).1
lexed LexRefusal.Memory source = Why.Memory

abbrev syntax : SyntaxKind → Place → Option Why
syntax kind p = Some (Why.Syntax kind p.line p.col)

-- where a name stands twice, and where none does
abbrev ByNames : Option Place → Option Why → Type 0
ByNames (Some p) o = o ≡ syntax SyntaxKind.SameName p
ByNames None o = o ≡ None

-- where brackets are nested too deep, and where they aren't
abbrev ByNesting : List ℕ → List Token → Option Place → Option Why → Type 0
ByNesting source ts (Some p) o = o ≡ syntax SyntaxKind.TooNested p
ByNesting source ts None o =
    ((p : Place) × RefusedAt ts (end_of source) p × (o ≡ syntax SyntaxKind.NoSentence p))
    ⊎ ((tops : List Top) × Spells tops ts × ByNames (same_names [] tops) o)

-- where there are tokens, and where there are none
abbrev ByTokens : List ℕ → Result (List Token) LexRefusal → Option Why → Type 0
ByTokens source (Ok ts) o = ByNesting source ts (too_nested 0 ts) o
ByTokens source (Err e) o = o ≡ Some (lexed e source)

-- ---- the bytes come to one end

one_by_names : (q : Option Place) (a b : Option Why) → ByNames q a → ByNames q b → a ≡ b
one_by_names (Some p) a b x y = x ∙ sym y
one_by_names None a b x y = x ∙ sym y

-- tokens that some script spells are refused nowhere, and others at one place
one_refusal : (ts : List Token) (end p q : Place) → RefusedAt ts end p → RefusedAt ts end q → p ≡ q
one_refusal ts end p q x y = of (spelled_or_refused ts)
  where
    of : ((tops : List Top) × Spells tops ts) ⊎ ((n : ℕ) × IsRefused ts n × ((m : ℕ) → IsRefused ts m → m ≡ n)) → p ≡ q
    of (inl s) = absurd (x.1.none s.0 s.1)
    of (inr r) = x.2 ∙ ap (λ n. place_at ts n end) (r.2 x.0 x.1 ∙ sym (r.2 y.0 y.1)) ∙ sym y.2

one_by_nesting : (source : List ℕ) (ts : List Token) (q : Option Place) (a b : Option Why) → ByNesting source ts q a → ByNesting source ts q b → a ≡ b
one_by_nesting source ts (Some p) a b x y = x ∙ sym y
one_by_nesting source ts None a b (inl x) (inl y) = x.2 ∙ ap (syntax SyntaxKind.NoSentence) (one_refusal ts (end_of source) x.0 y.0 x.1 y.1) ∙ sym y.2
one_by_nesting source ts None a b (inl x) (inr y) = absurd (x.1.1.none y.0 y.1)
one_by_nesting source ts None a b (inr x) (inl y) = absurd (y.1.1.none x.0 x.1)
one_by_nesting source ts None a b (inr x) (inr y) =
    let same : x.0 ≡ y.0 = one_script x.0 y.0 ts x.1 y.1 in
    one_by_names (same_names [] y.0) a b (subst (λ (tops : List Top). ByNames (same_names [] tops) a) same x.2) y.2

one_by_tokens : (source : List ℕ) (r : Result (List Token) LexRefusal) (a b : Option Why) → ByTokens source r a → ByTokens source r b → a ≡ b
one_by_tokens source (Ok ts) a b x y = one_by_nesting source ts (too_nested 0 ts) a b x y
one_by_tokens source (Err e) a b x y = x ∙ sym y

abbrev Ends : List ℕ → Option Why → Type 0
Ends source o = ByTokens source (tokens_of source) o

one_end : (source : List ℕ) (a b : Option Why) → Ends source a → Ends source b → a ≡ b
one_end source a b x y = one_by_tokens source (tokens_of source) a b x y

-- ---- each cause is what the bytes come to

of_refusal : (source : List ℕ) (e : LexRefusal) (end : Why) → tokens_of source ≡ Err e → end ≡ lexed e source → Ends source (Some end)
of_refusal source e end t h = subst (λ (r : Result (List Token) LexRefusal). ByTokens source r (Some end)) (sym t) (ap Some h)

of_tokens : (source : List ℕ) (ts : List Token) (o : Option Why) → tokens_of source ≡ Ok ts → ByNesting source ts (too_nested 0 ts) o → Ends source o
of_tokens source ts o t x = subst (λ (r : Result (List Token) LexRefusal). ByTokens source r o) (sym t) x

of_flat : (source : List ℕ) (ts : List Token) (o : Option Why) → tokens_of source ≡ Ok ts → too_nested 0 ts ≡ None → ByNesting source ts None o
    → Ends source o
of_flat source ts o t n x = of_tokens source ts o t (subst (λ (q : Option Place). ByNesting source ts q o) (sym n) x)

of_syntax : (source : List ℕ) (kind : SyntaxKind) (line col : ℕ) → IsSyntaxFault source kind line col → Ends source (Some (Why.Syntax kind line col))
of_syntax source SyntaxKind.BadByte line col x =
    of_refusal source (LexRefusal.BadByte x.0) (Why.Syntax SyntaxKind.BadByte line col) x.1
    (ap (λ (p : ℕ × ℕ). Why.Syntax SyntaxKind.BadByte p.0 p.1) (sym x.2))
of_syntax source SyntaxKind.OpenText line col x =
    of_refusal source (LexRefusal.OpenText x.0) (Why.Syntax SyntaxKind.OpenText line col) x.1
    (ap (λ (p : ℕ × ℕ). Why.Syntax SyntaxKind.OpenText p.0 p.1) (sym x.2))
of_syntax source SyntaxKind.BadEscape line col x =
    of_refusal source (LexRefusal.BadEscape x.0) (Why.Syntax SyntaxKind.BadEscape line col) x.1
    (ap (λ (p : ℕ × ℕ). Why.Syntax SyntaxKind.BadEscape p.0 p.1) (sym x.2))
of_syntax source SyntaxKind.BigNumber line col x =
    of_refusal source (LexRefusal.BigNumber x.0) (Why.Syntax SyntaxKind.BigNumber line col) x.1
    (ap (λ (p : ℕ × ℕ). Why.Syntax SyntaxKind.BigNumber p.0 p.1) (sym x.2))
of_syntax source SyntaxKind.TooNested line col x =
    let o : Option Why = syntax SyntaxKind.TooNested (at line col) in
    of_tokens source x.0 o x.1 (subst (λ (q : Option Place). ByNesting source x.0 q o) (sym x.2) refl)
of_syntax source SyntaxKind.NoSentence line col x =
    of_flat source x.0 (syntax SyntaxKind.NoSentence (at line col)) x.1 x.2 (inl (at line col, x.3, refl))
of_syntax source SyntaxKind.SameName line col x =
    let o : Option Why = syntax SyntaxKind.SameName (at line col) in
    of_flat source x.0 o x.2 x.3 (inr (x.1, x.4, subst (λ (q : Option Place). ByNames q o) (sym x.5) refl))

of_script : (source : List ℕ) (keys : List (List ℕ)) (script : Script) → IsScript source keys script → Ends source None
of_script source keys script x =
    let v : IsValid x.1 x.0 = x.3 in
    of_flat source x.0 None x.2 v.1 (inr (x.1, v.0, subst (λ (q : Option Place). ByNames q None) (sym v.2) refl))

-- ---- the inputs have one that is too long first, or none

one_over : (is : List (List ℕ × List ℕ)) (bs : List Input) (p q : List ℕ) → IsFirstOver is bs p → IsFirstOver is bs q → p ≡ q
one_over [] bs p q x y = absurd x
one_over (i ∷ is) [] p q x y = absurd x
one_over (i ∷ is) (b ∷ bs) p q (inl x) (inl y) = x.0 ∙ sym y.0
one_over (i ∷ is) (b ∷ bs) p q (inl x) (inr y) = absurd (omega (arith, x.1, y.0))
one_over (i ∷ is) (b ∷ bs) p q (inr x) (inl y) = absurd (omega (arith, x.0, y.1))
one_over (i ∷ is) (b ∷ bs) p q (inr x) (inr y) = one_over is bs p q x.1 y.1

none_over : (is : List (List ℕ × List ℕ)) (bs : List Input) (p : List ℕ) → IsFirstOver is bs p → AllWithin bs → ⊥
none_over [] bs p x w = x
none_over (i ∷ is) [] p x w = x
none_over (i ∷ is) (b ∷ bs) p (inl x) w = omega (arith, x.1, w.0)
none_over (i ∷ is) (b ∷ bs) p (inr x) w = none_over is bs p x.1 w.1

-- ---- the laws

-- bytes that are refused so are no script
no_script : (source : List ℕ) (end : Why) (keys : List (List ℕ)) (script : Script) → Ends source (Some end) → IsScript source keys script → ⊥
no_script source end keys script x s = let e = one_end source (Some end) None x (of_script source keys script s) in absurd cc

pub no_syntax : (source : List ℕ) (inputs : List Input) (kind : SyntaxKind) (l c : ℕ) → IsSource source inputs → IsSyntaxFault source kind l c → ⊥
no_syntax source inputs kind l c s x = no_script source (Why.Syntax kind l c) (keys_of inputs) s.0 (of_syntax source kind l c x) s.1

same_end : (source : List ℕ) (end why : Why) → Ends source (Some end) → Ends source (Some why) → why ≡ end
same_end source end why x y = let e = one_end source (Some end) (Some why) x y in cc

-- a run's end speaks of a script
end_script : (g : Gives) (w : Words) (source : List ℕ) (inputs : List Input) (why : Why) → MayEnd g w source inputs why → IsSource source inputs
end_script g w source inputs (Why.TooMany held None) m = (m.0, m.1, tt)
end_script g w source inputs (Why.TooMany held (Some given)) m = m
end_script g w source inputs Why.Done m = (m.1.0, m.1.1, tt)
end_script g w source inputs (Why.Fault fault) m = (m.0, m.1, tt)
end_script g w source inputs (Why.Endless names) m = (m.0, m.1, tt)
end_script g w source inputs Why.AllLost m = m
end_script g w source inputs (Why.NameClash kept given) m = m
end_script g w source inputs (Why.TooDeepPlain depth) m = (m.0, m.1, tt)
end_script g w source inputs (Why.BadLog path at) m = absurd m
end_script g w source inputs (Why.OtherJob path) m = absurd m
end_script g w source inputs (Why.LogFull path held) m = (m.1.1.0, m.1.1.1, tt)
end_script g w source inputs (Why.BadMemo path at) m = absurd m
end_script g w source inputs (Why.KeepFault path) m = absurd m
end_script g w source inputs Why.Usage m = absurd m
end_script g w source inputs (Why.Syntax kind l c) m = absurd m
end_script g w source inputs (Why.ReadFault path) m = absurd m
end_script g w source inputs Why.WriteFault m = absurd m
end_script g w source inputs Why.Memory m = absurd m
end_script g w source inputs (Why.TooLongInput path at) m = absurd m

-- where it is none, or too long, no run ends
no_end : (g : Gives) (w : Words) (source : List ℕ) (inputs : List Input) (why : Why) → (IsSource source inputs → ⊥) → MayEnd g w source inputs why → ⊥
no_end g w source inputs why n m = n (end_script g w source inputs why m)

-- what is too long stands in a file, and the script isn't too long
too_long_script : (f : Option files.Line) (source : List ℕ) (inputs : List Input) (path : List ℕ) (at : ℕ) → SourceFits f source
    → TooLongIn f source inputs path at
    → (script : Script) × IsScript source (keys_of inputs) script
too_long_script None source inputs path at h t = absurd t
too_long_script (Some f) source inputs path at h (inl t) = absurd (omega (arith, h, t.2))
too_long_script (Some f) source inputs path at h (inr t) = t.1

refused_so : (w : Words) (source : List ℕ) (inputs : List Input) (end : Why) → Ends source (Some end) → SourceFits (files_of w) source
    → EndsSo w source inputs end
refused_so w source inputs end x h g why y = of why y
  where
    none : IsSource source inputs → ⊥
    none s = no_script source end (keys_of inputs) s.0 x s.1

    of : (why : Why) → IsExpected g w source inputs why → (why ≡ Why.Memory) ⊎ (why ≡ end)
    of (Why.Syntax kind l c) y = inr (same_end source end (Why.Syntax kind l c) x (of_syntax source kind l c y.1))
    of (Why.TooLongInput path at) (inl y) =
        let s = too_long_script (files_of w) source inputs path at h y in
        absurd (no_script source end (keys_of inputs) s.0 x s.1)
    of (Why.TooLongInput path at) (inr y) = absurd (none y.3)
    of Why.Memory y = inl refl
    of (Why.TooMany held None) y = absurd (no_end g w source inputs (Why.TooMany held None) none y.1)
    of (Why.TooMany held (Some given)) y = absurd (no_end g w source inputs (Why.TooMany held (Some given)) none y.1)
    of Why.Done y = absurd (no_end g w source inputs Why.Done none y.1)
    of (Why.Fault fault) y = absurd (no_end g w source inputs (Why.Fault fault) none y.1)
    of (Why.Endless names) y = absurd (no_end g w source inputs (Why.Endless names) none y.1)
    of Why.AllLost y = absurd (no_end g w source inputs Why.AllLost none y.1)
    of (Why.NameClash kept given) y = absurd (no_end g w source inputs (Why.NameClash kept given) none y.1)
    of (Why.TooDeepPlain depth) y = absurd (no_end g w source inputs (Why.TooDeepPlain depth) none y.1)
    of (Why.BadLog path at) y = absurd y.1
    of (Why.OtherJob path) y = absurd y.1
    of (Why.LogFull path held) y = absurd (no_end g w source inputs (Why.LogFull path held) none y.1)
    of (Why.KeepFault path) y = absurd y.1
    of Why.Usage y = absurd y.1
    of (Why.ReadFault path) y = absurd y.1
    of Why.WriteFault y = absurd y.1
    of (Why.BadMemo path at) y = absurd y.1

pub no_script_is_refused : NoScriptIsRefused
no_script_is_refused = λ w source inputs kind l c x h. refused_so w source inputs (Why.Syntax kind l c) (of_syntax source kind l c x) h

-- bytes are no two scripts
pub same_script : (source : List ℕ) (keys : List (List ℕ)) (a b : Script) → IsScript source keys a → IsScript source keys b → a ≡ b
same_script source keys a b x y =
    let t = x.2 in
    let u = y.2 in
    let tokens : x.0 ≡ y.0 = cc in
    let v : Spells x.1 y.0 = subst (λ (ts : List Token). Spells x.1 ts) tokens x.3.0 in
    x.4 ∙ ap (script_of keys) (one_script x.1 y.1 y.0 v y.3.0) ∙ sym y.4

-- what is said of a job of the bytes is said of that of this script
as_script : (source : List ℕ) (inputs : List Input) (script : Script) (P : Job → Type 0) → IsScript source (keys_of inputs) script
    → OfJob source inputs P
    → P (job_of script inputs)
as_script source inputs script P s o =
    subst (λ (t : Script). P (job_of t inputs)) (same_script source (keys_of inputs) o.0 script o.1 s) o.2

-- a script within the limits isn't too long
pub not_too_long : (f : Option files.Line) (source : List ℕ) (inputs : List Input) (path : List ℕ) (at : ℕ) → FitsIn f source inputs
    → TooLongIn f source inputs path at → ⊥
not_too_long None source inputs path at h t = t
not_too_long (Some f) source inputs path at h (inl t) = let k = h.0 in omega (arith, k, t.2)
not_too_long (Some f) source inputs path at h (inr t) = none_over f.inputs inputs path t.3 h.1

script_ends : (g : Gives) (w : Words) (source : List ℕ) (inputs : List Input) (script : Script) → IsScript source (keys_of inputs) script
    → FitsIn (files_of w) source inputs → (why : Why) → IsExpected g w source inputs why → EndsScript g w script inputs why
script_ends g w source inputs script s h Why.Done y =
    (y.1.0, as_script source inputs script (λ j. Means j (around g) (Answered.bytes y.1.0)) s y.1.1)
script_ends g w source inputs script s h (Why.Fault fault) y = as_script source inputs script (λ j. Means j (around g) (Answered.fault fault)) s y.1
script_ends g w source inputs script s h (Why.Endless names) y = as_script source inputs script (λ j. Never j (around g)) s y.1
script_ends g w source inputs script s h (Why.TooMany held None) y = as_script source inputs script (λ j. MakesMany j (around g) 65537) s y.1
script_ends g w source inputs script s h (Why.TooMany held (Some given)) y = tt
script_ends g w source inputs script s h Why.AllLost y = tt
script_ends g w source inputs script s h (Why.NameClash kept given) y = tt
script_ends g w source inputs script s h (Why.TooDeepPlain depth) y = as_script source inputs script (λ j. (d : Desc) × Chain j (around g) 4096 d) s y.1
script_ends g w source inputs script s h (Why.LogFull path held) y =
    (y.1.1.0, as_script source inputs script (λ j. Means j (around g) (Answered.bytes y.1.1.0)) s y.1.1.1)
script_ends g w source inputs script s h (Why.KeepFault path) y = absurd y.1
script_ends g w source inputs script s h Why.Memory y = tt
script_ends g w source inputs script s h (Why.Syntax kind l c) y =
    absurd (no_script source (Why.Syntax kind l c) (keys_of inputs) script (of_syntax source kind l c y.1) s)
script_ends g w source inputs script s h (Why.TooLongInput path at) (inl y) = absurd (not_too_long (files_of w) source inputs path at h y)
script_ends g w source inputs script s h (Why.TooLongInput path at) (inr y) = y.0
script_ends g w source inputs script s h (Why.BadLog path at) y = absurd y.1
script_ends g w source inputs script s h (Why.OtherJob path) y = absurd y.1
script_ends g w source inputs script s h Why.Usage y = absurd y.1
script_ends g w source inputs script s h (Why.ReadFault path) y = absurd y.1
script_ends g w source inputs script s h Why.WriteFault y = absurd y.1
script_ends g w source inputs script s h (Why.BadMemo path at) y = absurd y.1

pub script_is_run : ScriptIsRun
script_is_run = λ g w source inputs script s h why y. script_ends g w source inputs script s h why y

-- ---- what is too long

-- where it is too long, no end of a run and no refusal of the bytes is expected
module _ (w : Words) (f : files.Line) (is : files_of w ≡ Some f) (source : List ℕ) (inputs : List Input) where
  fit_of : (P : Option files.Line → Type 0) → P (files_of w) → P (Some f)
  fit_of P p = subst P is p

  one_end_of : (end : Why) → (FitsIn (Some f) source inputs → ⊥)
      → ((kind : SyntaxKind) (l c : ℕ) → SourceFits (Some f) source × IsSyntaxFault source kind l c → ⊥)
      → ((path : List ℕ) (at : ℕ) → TooLongIn (Some f) source inputs path at → Why.TooLongInput path at ≡ end) → EndsSo w source inputs end
  one_end_of end none no_kind same k why y = of why y
    where
      unfit : FitsIn (files_of w) source inputs → ⊥
      unfit h = none (fit_of (λ g. FitsIn g source inputs) h)

      of : (why : Why) → IsExpected k w source inputs why → (why ≡ Why.Memory) ⊎ (why ≡ end)
      of (Why.Syntax kind l c) y = absurd (no_kind kind l c (fit_of (λ g. SourceFits g source × IsSyntaxFault source kind l c) y))
      of (Why.TooLongInput path at) (inl y) = inr (same path at (fit_of (λ g. TooLongIn g source inputs path at) y))
      of (Why.TooLongInput path at) (inr y) = absurd (unfit y.2)
      of (Why.BadLog path at) y = absurd (unfit y.0)
      of (Why.OtherJob path) y = absurd (unfit y.0)
      of Why.Memory y = inl refl
      of (Why.TooMany held None) y = absurd (unfit y.0)
      of (Why.TooMany held (Some given)) y = absurd (unfit y.0)
      of Why.Done y = absurd (unfit y.0)
      of (Why.Fault fault) y = absurd (unfit y.0)
      of (Why.Endless names) y = absurd (unfit y.0)
      of Why.AllLost y = absurd (unfit y.0)
      of (Why.NameClash kept given) y = absurd (unfit y.0)
      of (Why.TooDeepPlain depth) y = absurd (unfit y.0)
      of (Why.LogFull path held) y = absurd (unfit y.0)
      of (Why.KeepFault path) y = absurd y.1
      of Why.Usage y = absurd y.1
      of (Why.ReadFault path) y = absurd y.1
      of Why.WriteFault y = absurd y.1
      of (Why.BadMemo path at) y = absurd y.1

  too_long : limit < length source → EndsSo w source inputs (Why.TooLongInput f.script limit)
  too_long h =
      one_end_of (Why.TooLongInput f.script limit) (λ k. let a = k.0 in omega (arith, h, a)) (λ kind l c k. let a = k.0 in omega (arith, h, a)) same
    where
      same : (path : List ℕ) (at : ℕ) → TooLongIn (Some f) source inputs path at → Why.TooLongInput path at ≡ Why.TooLongInput f.script limit
      same path at (inl t) = λ i. Why.TooLongInput (t.0 i) (t.1 i)
      same path at (inr t) = absurd (omega (arith, h, t.0))

  too_long_input : (script : Script) (path : List ℕ) → IsScript source (keys_of inputs) script → length source ≤ limit
      → IsFirstOver f.inputs inputs path
      → EndsSo w source inputs (Why.TooLongInput path input_limit)
  too_long_input script path s h o =
      one_end_of (Why.TooLongInput path input_limit) (λ k. none_over f.inputs inputs path o k.1)
      (λ kind l c k. no_script source (Why.Syntax kind l c) (keys_of inputs) script (of_syntax source kind l c k.1) s) same
    where
      same : (at : List ℕ) (most : ℕ) → TooLongIn (Some f) source inputs at most → Why.TooLongInput at most ≡ Why.TooLongInput path input_limit
      same at most (inl t) = absurd (omega (arith, h, t.2))
      same at most (inr t) = λ i. Why.TooLongInput (one_over f.inputs inputs at path t.3 o i) (t.2 i)

pub too_long_is_refused : TooLongIsRefused
too_long_is_refused = λ w f is source inputs h. too_long w f is source inputs h

pub too_long_input_is_refused : TooLongInputIsRefused
too_long_input_is_refused = λ w f is source inputs script path s h o. too_long_input w f is source inputs script path s h o

pub means_one_answer : MeansOneAnswer
means_one_answer g source inputs a b x y =
    means_one (job_of x.0 inputs) (around g) a b x.2
    (subst (λ (s : Script). Means (job_of s inputs) (around g) b) (same_script source (keys_of inputs) y.0 x.0 y.1 x.1) y.2)
