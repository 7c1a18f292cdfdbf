-- No two expressions of the grammar spell the same tokens: lists in brackets, and primaries.
use Rattle.std.proofs.Common.{◌≡◌, ◌⊎◌, inl, inr, ℕ, suc, ◌<◌, ◌≤◌, Bool, true, false, List, [], ◌∷◌, refl, sym, ap, subst, ◌∙◌, arith}
use Rattle.std.proofs.lemmas.Bool.{false≢true, eq-eqb}
use Rattle.sky_base.specs.Tree.{Place, Lit, Form, nowhere}
use Rattle.sky_text.specs.declared.token.Sign.{Sign}
use Rattle.sky_text.specs.declared.token.Word.{Word}
use Rattle.sky_text.specs.declared.token.TokenKind.{TokenKind}
use Rattle.sky_parse_grammar.specs.declared.level.Level.{Level}
use Rattle.sky_parse_grammar.specs.declared.parts.Shape.{Shape}
use Rattle.sky_parse_grammar.specs.declared.parts.Head.{Head}
use Rattle.sky_parse_grammar.specs.Signs.{is, is_word}
use Rattle.sky_parse_grammar.specs.Levels.{rank}
use Rattle.sky_parse_grammar.specs.Parts.{Has, head_shape, spell_head, spell_parts}
use Rattle.sky_parse_grammar.specs.Grammar.{Mark, sign, sign_at, word_at, name_at, spell, spell_exps, spell_others, spell_params, spell_other_params}
use Rattle.sky_parse_grammar.specs.Grammar.{spell_block, spell_stms, AreStms, spell_pairs, spell_value, spell_other_pairs, paired, valued, AreTrees, IsTree}
use Rattle.sky_parse_grammar.specs.Machine.{is_literal, kind, kinds_of}
use Rattle.sky_parse_grammar.proofs.Operands.{stops, Closes, round, square, curly, semicolon, others_stop, value_stop, pairs_stop, begins, first}
use Rattle.sky_parse_grammar.proofs.Statements.{ends_block}
use Rattle.sky_parse_grammar.proofs.Means.{links_low, junction_low}
use Rattle.sky_parse_grammar.proofs.Aligned.{Both, swap, peel, same_kind, same_place, no_end, exp_peel}
use Rattle.sky_parse_grammar.specs.Source.{Param, Exp, Exps, Stms, weight, exps_weight, stms_weight, level}

-- Two trees of a level that spell the same tokens are one, if no more than so much weighs the first and nothing that
-- follows them goes on them.
abbrev pub UniqueAt : ℕ → Level → Type 0
UniqueAt n l = (e d : Exp) → IsTree e → IsTree d → rank l ≤ level e → rank l ≤ level d → weight e ≤ n → (a b : List Mark) → stops l a ≡ true
    → stops l b ≡ true → Both (spell e a) (spell d b) → e ≡ d

-- the same of primaries, whatever follows them
abbrev pub Unique : ℕ → ℕ → Type 0
Unique n l = (e d : Exp) → IsTree e → IsTree d → l ≤ level e → l ≤ level d → weight e ≤ n → (a b : List Mark) → Both (spell e a) (spell d b) → e ≡ d

-- marks that begin with a sign and marks that don't spell no tokens in common
pub apart : {s : Sign} (ks : List Mark) (b : List Mark) → begins s (kinds_of ks) ≡ false → Both ks (sign s ∷ b) → ⊥
apart [] b e h = no_end h
apart {s = s} (m ∷ ks) b e h = false≢true (sym e ∙ ap (is s) (same_kind h) ∙ self s)
  where
    self : (s : Sign) → is s (TokenKind.Sign s) ≡ true
    self s = eq-eqb _ _ refl

-- Lists in brackets.
not_comma : {s : Sign} → Closes s → (a b : List Mark) → Both (sign s ∷ a) (sign Sign.Comma ∷ b) → ⊥
not_comma round a b h = let e = same_kind h in absurd cc
not_comma square a b h = let e = same_kind h in absurd cc
not_comma curly a b h = let e = same_kind h in absurd cc
not_comma semicolon a b h = let e = same_kind h in absurd cc

unique_others : (n : ℕ) → UniqueAt n Level.Either → {s : Sign} → Closes s → (es ds : Exps) → AreTrees es → AreTrees ds → exps_weight es ≤ n
    → (a b : List Mark) → Both (spell_others es (sign s ∷ a)) (spell_others ds (sign s ∷ b)) → es ≡ ds
unique_others n u c Exps.no_exps Exps.no_exps t r w a b h = refl
unique_others n u c Exps.no_exps (Exps.exp d ds) t r w a b h = absurd (not_comma c a _ h)
unique_others n u c (Exps.exp e es) Exps.no_exps t r w a b h = absurd (not_comma c b _ (swap h))
unique_others n u {s = s} c (Exps.exp e es) (Exps.exp d ds) t r w a b h =
    let g = peel h in
    let same = u e d t.0 r.0 (omega arith) (omega arith) (omega (arith, w)) (spell_others es (sign s ∷ a)) (spell_others ds (sign s ∷ b))
    (others_stop c es a) (others_stop c ds b) g in
    let later = exp_peel e (subst (λ (x : Exp). Both (spell e (spell_others es (sign s ∷ a))) (spell x (spell_others ds (sign s ∷ b))))
    (sym same) g) in
    let rest = unique_others n u c es ds t.1 r.1 (omega (arith, w)) a b later in
    λ i. Exps.exp (same i) (rest i)

pub unique_exps : (n : ℕ) → UniqueAt n Level.Either → {s : Sign} → Closes s → (es ds : Exps) → AreTrees es → AreTrees ds → exps_weight es ≤ n
    → (a b : List Mark) → Both (spell_exps es (sign s ∷ a)) (spell_exps ds (sign s ∷ b)) → es ≡ ds
unique_exps n u c Exps.no_exps Exps.no_exps t r w a b h = refl
unique_exps n u {s = s} c Exps.no_exps (Exps.exp d ds) t r w a b h =
    absurd (apart (spell d (spell_others ds (sign s ∷ b))) a (first c d r.0 (spell_others ds (sign s ∷ b))) (swap h))
unique_exps n u {s = s} c (Exps.exp e es) Exps.no_exps t r w a b h =
    absurd (apart (spell e (spell_others es (sign s ∷ a))) b (first c e t.0 (spell_others es (sign s ∷ a))) h)
unique_exps n u {s = s} c (Exps.exp e es) (Exps.exp d ds) t r w a b h =
    let same = u e d t.0 r.0 (omega arith) (omega arith) (omega (arith, w)) (spell_others es (sign s ∷ a)) (spell_others ds (sign s ∷ b))
    (others_stop c es a) (others_stop c ds b) h in
    let later = exp_peel e (subst (λ (x : Exp). Both (spell e (spell_others es (sign s ∷ a))) (spell x (spell_others ds (sign s ∷ b))))
    (sym same) h) in
    let rest = unique_others n u c es ds t.1 r.1 (omega (arith, w)) a b later in
    λ i. Exps.exp (same i) (rest i)

abbrev end_curly : List Mark → List Mark
end_curly a = sign Sign.CloseCurly ∷ a

mutual
  unique_value : (n : ℕ) → UniqueAt n Level.Either → (es ds : Exps) → AreTrees es → AreTrees ds → valued es ≡ true → valued ds ≡ true
      → exps_weight es ≤ n → (a b : List Mark) → Both (spell_value es (end_curly a)) (spell_value ds (end_curly b)) → es ≡ ds
  unique_value n u Exps.no_exps ds t r v x w a b h = absurd (false≢true v)
  unique_value n u (Exps.exp e es) Exps.no_exps t r v x w a b h = absurd (false≢true x)
  unique_value n u (Exps.exp e es) (Exps.exp d ds) t r v x w a b h =
      let g = peel h in
      let same = u e d t.0 r.0 (omega arith) (omega arith) (omega (arith, w)) (spell_other_pairs es (end_curly a))
      (spell_other_pairs ds (end_curly b)) (pairs_stop es a) (pairs_stop ds b) g in
      let later = exp_peel e (subst (λ (y : Exp). Both (spell e (spell_other_pairs es (end_curly a)))
      (spell y (spell_other_pairs ds (end_curly b)))) (sym same) g) in
      let rest = unique_other_pairs n u es ds t.1 r.1 v x (omega (arith, w)) a b later in
      λ i. Exps.exp (same i) (rest i)

  unique_other_pairs : (n : ℕ) → UniqueAt n Level.Either → (es ds : Exps) → AreTrees es → AreTrees ds → paired es ≡ true → paired ds ≡ true
      → exps_weight es ≤ n → (a b : List Mark) → Both (spell_other_pairs es (end_curly a)) (spell_other_pairs ds (end_curly b)) → es ≡ ds
  unique_other_pairs n u Exps.no_exps Exps.no_exps t r v x w a b h = refl
  unique_other_pairs n u Exps.no_exps (Exps.exp d ds) t r v x w a b h = absurd (not_comma curly a _ h)
  unique_other_pairs n u (Exps.exp e es) Exps.no_exps t r v x w a b h = absurd (not_comma curly b _ (swap h))
  unique_other_pairs n u (Exps.exp e es) (Exps.exp d ds) t r v x w a b h =
      let g = peel h in
      let same = u e d t.0 r.0 (omega arith) (omega arith) (omega (arith, w)) (spell_value es (end_curly a)) (spell_value ds (end_curly b))
      (value_stop es (end_curly a) v) (value_stop ds (end_curly b) x) g in
      let later = exp_peel e (subst (λ (y : Exp). Both (spell e (spell_value es (end_curly a))) (spell y (spell_value ds (end_curly b))))
      (sym same) g) in
      let rest = unique_value n u es ds t.1 r.1 v x (omega (arith, w)) a b later in
      λ i. Exps.exp (same i) (rest i)

unique_pairs : (n : ℕ) → UniqueAt n Level.Either → (es ds : Exps) → AreTrees es → AreTrees ds → paired es ≡ true → paired ds ≡ true
    → exps_weight es ≤ n → (a b : List Mark) → Both (spell_pairs es (end_curly a)) (spell_pairs ds (end_curly b)) → es ≡ ds
unique_pairs n u Exps.no_exps Exps.no_exps t r v x w a b h = refl
unique_pairs n u Exps.no_exps (Exps.exp d ds) t r v x w a b h =
    absurd (apart (spell d (spell_value ds (end_curly b))) a (first curly d r.0 (spell_value ds (end_curly b))) (swap h))
unique_pairs n u (Exps.exp e es) Exps.no_exps t r v x w a b h =
    absurd (apart (spell e (spell_value es (end_curly a))) b (first curly e t.0 (spell_value es (end_curly a))) h)
unique_pairs n u (Exps.exp e es) (Exps.exp d ds) t r v x w a b h =
    let same = u e d t.0 r.0 (omega arith) (omega arith) (omega (arith, w)) (spell_value es (end_curly a)) (spell_value ds (end_curly b))
    (value_stop es (end_curly a) v) (value_stop ds (end_curly b) x) h in
    let later = exp_peel e (subst (λ (y : Exp). Both (spell e (spell_value es (end_curly a))) (spell y (spell_value ds (end_curly b))))
    (sym same) h) in
    let rest = unique_value n u es ds t.1 r.1 v x (omega (arith, w)) a b later in
    λ i. Exps.exp (same i) (rest i)

abbrev ClosesShape : Shape → Type 0
ClosesShape (Shape.Many s) = Closes s
ClosesShape (Shape.Fixed m s) = Closes s
ClosesShape Shape.Pairs = Unit {0}

unique_parts : (n : ℕ) → UniqueAt n Level.Either → (h : Shape) → ClosesShape h → (es ds : Exps) → AreTrees es → AreTrees ds → Has h es → Has h ds
    → exps_weight es ≤ n → (a b : List Mark) → Both (spell_parts h es a) (spell_parts h ds b) → es ≡ ds
unique_parts n u (Shape.Many s) c es ds t r p q w a b h = unique_exps n u c es ds t r w a b h
unique_parts n u (Shape.Fixed m s) c es ds t r p q w a b h = unique_exps n u c es ds t r w a b h
unique_parts n u Shape.Pairs c es ds t r p q w a b h = unique_pairs n u es ds t r p q w a b h

-- Primaries: a token alone, or parts in brackets.
abbrev is_leaf : TokenKind → Bool
is_leaf (TokenKind.Name x) = true
is_leaf (TokenKind.Number n) = true
is_leaf (TokenKind.Text x) = true
is_leaf (TokenKind.Word w) = is_literal w
is_leaf (TokenKind.Sign s) = false

word_leaf : Word → Place → Exp
word_leaf Word.True p = Exp.literal (Lit.truth true) p
word_leaf Word.False p = Exp.literal (Lit.truth false) p
word_leaf w p = Exp.literal Lit.null p

leaf_of : TokenKind → Place → Exp
leaf_of (TokenKind.Name x) p = Exp.name x p
leaf_of (TokenKind.Number n) p = Exp.literal (Lit.num n) p
leaf_of (TokenKind.Text x) p = Exp.literal (Lit.text x) p
leaf_of (TokenKind.Word w) p = word_leaf w p
leaf_of (TokenKind.Sign s) p = Exp.name [] p

only : Exps → Exp
only (Exps.exp e Exps.no_exps) = e
only es = Exp.name [] nowhere

abbrev made : Head → Place → Exps → Exp
made Head.Parens p es = Exp.parens (only es)
made Head.List p es = Exp.parts Form.list p es
made Head.Dict p es = Exp.parts Form.dict p es
made Head.Spawn p es = Exp.parts Form.spawn p es
made Head.SpawnExec p es = Exp.parts Form.spawn_exec p es
made Head.Exec p es = Exp.parts Form.exec p es
made Head.Ref p es = Exp.parts Form.ref p es
made Head.Len p es = Exp.parts Form.len p es
made Head.Keys p es = Exp.parts Form.keys p es
made Head.Has p es = Exp.parts Form.has p es
made Head.Range p es = Exp.parts Form.range p es

abbrev Leaf : Exp → Type 0
Leaf e = (k : TokenKind) × (p : Place) × (is_leaf k ≡ true) × (e ≡ leaf_of k p) × ((more : List Mark) → spell e more ≡ Mark.placed k p ∷ more)

abbrev Opened : Exp → Type 0
Opened e = (h : Head) × (p : Place) × (es : Exps) × AreTrees es × Has (head_shape h) es × (e ≡ made h p es) × (exps_weight es < weight e)
    × ((more : List Mark) → spell e more ≡ spell_head h p (spell_parts (head_shape h) es more))

-- an anonymous function
abbrev Nested : Exp → Type 0
Nested e = (p : Place) × (xs : List Param) × (b : Stms) × AreStms b × (e ≡ Exp.func p xs b) × (stms_weight b < weight e)
    × ((more : List Mark) → spell e more ≡ word_at Word.Function p ∷ sign Sign.OpenRound
    ∷ spell_params xs (sign Sign.CloseRound ∷ spell_block b more))

primary_view : (e : Exp) → IsTree e → 7 ≤ level e → Leaf e ⊎ (Opened e ⊎ Nested e)
unfolding leaf_of word_leaf only
primary_view (Exp.literal Lit.null p) t l = inl (TokenKind.Word Word.Null, p, refl, refl, λ more. refl)
primary_view (Exp.literal (Lit.truth true) p) t l = inl (TokenKind.Word Word.True, p, refl, refl, λ more. refl)
primary_view (Exp.literal (Lit.truth false) p) t l = inl (TokenKind.Word Word.False, p, refl, refl, λ more. refl)
primary_view (Exp.literal (Lit.num z) p) t l = inl (TokenKind.Number z, p, refl, refl, λ more. refl)
primary_view (Exp.literal (Lit.text x) p) t l = inl (TokenKind.Text x, p, refl, refl, λ more. refl)
primary_view (Exp.name x p) t l = inl (TokenKind.Name x, p, refl, refl, λ more. refl)
primary_view (Exp.func p xs b) t l = inr (inr (p, xs, b, t, refl, omega arith, λ more. refl))
primary_view (Exp.parens e) t l = inr (inl (Head.Parens, nowhere, Exps.exp e Exps.no_exps, (t, tt), refl, refl, omega arith, λ more. refl))
primary_view (Exp.parts Form.list p es) t l = inr (inl (Head.List, p, es, t.0, tt, refl, omega arith, λ more. refl))
primary_view (Exp.parts Form.dict p es) t l = inr (inl (Head.Dict, p, es, t.0, t.1, refl, omega arith, λ more. refl))
primary_view (Exp.parts Form.spawn p es) t l = inr (inl (Head.Spawn, p, es, t.0, t.1, refl, omega arith, λ more. refl))
primary_view (Exp.parts Form.spawn_exec p es) t l = inr (inl (Head.SpawnExec, p, es, t.0, t.1, refl, omega arith, λ more. refl))
primary_view (Exp.parts Form.exec p es) t l = inr (inl (Head.Exec, p, es, t.0, t.1, refl, omega arith, λ more. refl))
primary_view (Exp.parts Form.ref p es) t l = inr (inl (Head.Ref, p, es, t.0, t.1, refl, omega arith, λ more. refl))
primary_view (Exp.parts Form.len p es) t l = inr (inl (Head.Len, p, es, t.0, t.1, refl, omega arith, λ more. refl))
primary_view (Exp.parts Form.keys p es) t l = inr (inl (Head.Keys, p, es, t.0, t.1, refl, omega arith, λ more. refl))
primary_view (Exp.parts Form.has p es) t l = inr (inl (Head.Has, p, es, t.0, t.1, refl, omega arith, λ more. refl))
primary_view (Exp.parts Form.range p es) t l = inr (inl (Head.Range, p, es, t.0, t.1, refl, omega arith, λ more. refl))
primary_view (Exp.chain e ls) t l = absurd (omega (arith, l, links_low ls))
primary_view (Exp.logic j e ls) t l = absurd (omega (arith, l, junction_low j))
primary_view (Exp.prefix ss e) t l = absurd (omega arith)
primary_view (Exp.postfix e ss) t l = absurd (omega arith)

-- the first token of a form with brackets
abbrev First : Head → List Mark → Type 0
First h ms = (m : Mark) × (rest : List Mark) × (ms ≡ m ∷ rest) × (is_leaf (kind m) ≡ false) × (is_word Word.Function (kind m) ≡ false)

head_first : (h : Head) (p : Place) (more : List Mark) → First h (spell_head h p more)
head_first Head.Parens p more = (sign Sign.OpenRound, more, refl, refl, refl)
head_first Head.List p more = (sign_at Sign.OpenSquare p, more, refl, refl, refl)
head_first Head.Dict p more = (sign_at Sign.OpenCurly p, more, refl, refl, refl)
head_first Head.Spawn p more = (word_at Word.Spawn p, sign Sign.OpenRound ∷ more, refl, refl, refl)
head_first Head.SpawnExec p more = (word_at Word.SpawnExec p, sign Sign.OpenRound ∷ more, refl, refl, refl)
head_first Head.Exec p more = (word_at Word.Exec p, sign Sign.OpenRound ∷ more, refl, refl, refl)
head_first Head.Ref p more = (word_at Word.Ref p, sign Sign.OpenRound ∷ more, refl, refl, refl)
head_first Head.Len p more = (word_at Word.Len p, sign Sign.OpenRound ∷ more, refl, refl, refl)
head_first Head.Keys p more = (word_at Word.Keys p, sign Sign.OpenRound ∷ more, refl, refl, refl)
head_first Head.Has p more = (word_at Word.Has p, sign Sign.OpenRound ∷ more, refl, refl, refl)
head_first Head.Range p more = (word_at Word.Range p, sign Sign.OpenRound ∷ more, refl, refl, refl)

leaf_not_head : (k : TokenKind) (p q : Place) (h : Head) (a more : List Mark) → is_leaf k ≡ true
    → Both (Mark.placed k p ∷ a) (spell_head h q more) → ⊥
leaf_not_head k p q h a more e b =
    let x = head_first h q more in
    let c = subst (λ (ms : List Mark). Both (Mark.placed k p ∷ a) ms) x.2 b in
    false≢true (sym (x.3) ∙ ap is_leaf (sym (same_kind c)) ∙ e)

sign_opens : Sign → Head
sign_opens Sign.OpenSquare = Head.List
sign_opens Sign.OpenCurly = Head.Dict
sign_opens s = Head.Parens

word_opens : Word → Head
word_opens Word.Spawn = Head.Spawn
word_opens Word.SpawnExec = Head.SpawnExec
word_opens Word.Exec = Head.Exec
word_opens Word.Ref = Head.Ref
word_opens Word.Len = Head.Len
word_opens Word.Keys = Head.Keys
word_opens Word.Has = Head.Has
word_opens w = Head.Range

kind_opens : TokenKind → Head
kind_opens (TokenKind.Sign s) = sign_opens s
kind_opens (TokenKind.Word w) = word_opens w
kind_opens k = Head.Parens

head_of : List Mark → Head
head_of [] = Head.Parens
head_of (m ∷ ms) = kind_opens (kind m)

head_back : (h : Head) (p : Place) (more : List Mark) → head_of (spell_head h p more) ≡ h
unfolding head_of kind_opens word_opens sign_opens
head_back Head.Parens p more = refl
head_back Head.List p more = refl
head_back Head.Dict p more = refl
head_back Head.Spawn p more = refl
head_back Head.SpawnExec p more = refl
head_back Head.Exec p more = refl
head_back Head.Ref p more = refl
head_back Head.Len p more = refl
head_back Head.Keys p more = refl
head_back Head.Has p more = refl
head_back Head.Range p more = refl

same_heads : (a b : List Mark) → Both a b → head_of a ≡ head_of b
unfolding head_of
same_heads [] [] h = refl
same_heads [] (m ∷ b) h = absurd (no_end h)
same_heads (m ∷ a) [] h = absurd (no_end (swap h))
same_heads (m ∷ a) (n ∷ b) h = ap kind_opens (same_kind h)

abbrev Same : Head → Place → Place → List Mark → List Mark → Type 0
Same h p q a b = ((es : Exps) → made h p es ≡ made h q es) × Both a b

word_same : (w : Word) (o : Form) (p q : Place) (a b : List Mark)
    → Both (word_at w p ∷ sign Sign.OpenRound ∷ a) (word_at w q ∷ sign Sign.OpenRound ∷ b) → ((es : Exps) → Exp.parts o p es ≡ Exp.parts o q es)
    × Both a b
word_same w o p q a b h = let e = same_place h in ((λ es. ap (λ (r : Place). Exp.parts o r es) e), peel (peel h))

open_same : (h : Head) (p q : Place) (a b : List Mark) → Both (spell_head h p a) (spell_head h q b) → Same h p q a b
open_same Head.Parens p q a b h = ((λ es. refl), peel h)
open_same Head.List p q a b h = let e = same_place h in ((λ es. ap (λ (r : Place). Exp.parts Form.list r es) e), peel h)
open_same Head.Dict p q a b h = let e = same_place h in ((λ es. ap (λ (r : Place). Exp.parts Form.dict r es) e), peel h)
open_same Head.Spawn p q a b h = word_same Word.Spawn Form.spawn p q a b h
open_same Head.SpawnExec p q a b h = word_same Word.SpawnExec Form.spawn_exec p q a b h
open_same Head.Exec p q a b h = word_same Word.Exec Form.exec p q a b h
open_same Head.Ref p q a b h = word_same Word.Ref Form.ref p q a b h
open_same Head.Len p q a b h = word_same Word.Len Form.len p q a b h
open_same Head.Keys p q a b h = word_same Word.Keys Form.keys p q a b h
open_same Head.Has p q a b h = word_same Word.Has Form.has p q a b h
open_same Head.Range p q a b h = word_same Word.Range Form.range p q a b h

head_closes : (h : Head) → ClosesShape (head_shape h)
head_closes Head.Parens = round
head_closes Head.List = square
head_closes Head.Dict = tt
head_closes Head.Spawn = round
head_closes Head.SpawnExec = round
head_closes Head.Exec = round
head_closes Head.Ref = round
head_closes Head.Len = round
head_closes Head.Keys = round
head_closes Head.Has = round
head_closes Head.Range = round

pub both_via : (e d : Exp) (a b x y : List Mark) → spell e a ≡ x → spell d b ≡ y → Both (spell e a) (spell d b) → Both x y
both_via e d a b x y f g h = subst (λ (m : List Mark). Both m y) f (subst (λ (m : List Mark). Both (spell e a) m) g h)

same_opened : (n : ℕ) → UniqueAt n Level.Either → (h g : Head) → h ≡ g → (p q : Place) (es ds : Exps) → AreTrees es → AreTrees ds
    → Has (head_shape h) es → Has (head_shape g) ds → exps_weight es ≤ n → (a b : List Mark)
    → Both (spell_head h p (spell_parts (head_shape h) es a)) (spell_head g q (spell_parts (head_shape g) ds b)) → made h p es ≡ made g q ds
same_opened n u h g same p q es ds t r x y w a b k =
    let back = sym same in
    let y2 : Has (head_shape h) ds = subst (λ (z : Head). Has (head_shape z) ds) back y in
    let k2 : Both (spell_head h p (spell_parts (head_shape h) es a)) (spell_head h q (spell_parts (head_shape h) ds b)) =
    subst (λ (z : Head). Both (spell_head h p (spell_parts (head_shape h) es a)) (spell_head z q (spell_parts (head_shape z) ds b))) back
    k in
    let o = open_same h p q (spell_parts (head_shape h) es a) (spell_parts (head_shape h) ds b) k2 in
    let parts = unique_parts n u (head_shape h) (head_closes h) es ds t r x y2 w a b o.1 in
    o.0 es ∙ ap (made h q) parts ∙ ap (λ (z : Head). made z q ds) same

-- Parameters.
same_name : {x y : List ℕ} {p q : Place} {a b : List Mark} → Both (name_at x p ∷ a) (name_at y q ∷ b) → x ≡ y
same_name h = let e = same_kind h in cc

unique_other_params : (ps qs : List Param) (a b : List Mark)
    → Both (spell_other_params ps (sign Sign.CloseRound ∷ a)) (spell_other_params qs (sign Sign.CloseRound ∷ b)) → (ps ≡ qs) × Both a b
unique_other_params [] [] a b h = (refl, peel h)
unique_other_params [] (q ∷ qs) a b h = let k = same_kind h in absurd cc
unique_other_params (p ∷ ps) [] a b h = let k = same_kind h in absurd cc
unique_other_params (p ∷ ps) (q ∷ qs) a b h =
    let en = same_name (peel h) in
    let ep = same_place (peel h) in
    let rest = unique_other_params ps qs a b (peel (peel h)) in
    ((λ i. record { name = en i; place = ep i } ∷ rest.0 i), rest.1)

pub unique_params : (ps qs : List Param) (a b : List Mark)
    → Both (spell_params ps (sign Sign.CloseRound ∷ a)) (spell_params qs (sign Sign.CloseRound ∷ b)) → (ps ≡ qs) × Both a b
unique_params [] [] a b h = (refl, peel h)
unique_params [] (q ∷ qs) a b h = let k = same_kind h in absurd cc
unique_params (p ∷ ps) [] a b h = let k = same_kind h in absurd cc
unique_params (p ∷ ps) (q ∷ qs) a b h =
    let en = same_name h in
    let ep = same_place h in
    let rest = unique_other_params ps qs a b (peel h) in
    ((λ i. record { name = en i; place = ep i } ∷ rest.0 i), rest.1)

-- the same of the statements of a block, where their block ends behind them
abbrev pub UniqueStms : ℕ → Type 0
UniqueStms n = (ss rs : Stms) → AreStms ss → AreStms rs → stms_weight ss ≤ n → (a b : List Mark) → ends_block a ≡ true → ends_block b ≡ true
    → Both (spell_stms ss a) (spell_stms rs b) → ss ≡ rs

leaf_not_function : (k : TokenKind) (p q : Place) (a more : List Mark) → is_leaf k ≡ true
    → Both (Mark.placed k p ∷ a) (word_at Word.Function q ∷ more) → ⊥
leaf_not_function k p q a more e h = false≢true (ap is_leaf (sym (same_kind h)) ∙ e)

head_not_function : (h : Head) (p q : Place) (a more : List Mark) → Both (spell_head h p a) (word_at Word.Function q ∷ more) → ⊥
head_not_function h p q a more b =
    let x = head_first h p a in
    let c = subst (λ (ms : List Mark). Both ms (word_at Word.Function q ∷ more)) x.2 b in
    false≢true (sym x.4 ∙ ap (is_word Word.Function) (same_kind c))

same_nested : (n : ℕ) → UniqueStms n → (p q : Place) (xs ys : List Param) (b d : Stms) → AreStms b → AreStms d → stms_weight b ≤ n → (a c : List Mark)
    → Both (word_at Word.Function p ∷ sign Sign.OpenRound ∷ spell_params xs (sign Sign.CloseRound ∷ spell_block b a))
    (word_at Word.Function q ∷ sign Sign.OpenRound ∷ spell_params ys (sign Sign.CloseRound ∷ spell_block d c)) → Exp.func p xs b
    ≡ Exp.func q ys d
same_nested n v p q xs ys b d t r w a c h =
    let ep = same_place h in
    let ps = unique_params xs ys (spell_block b a) (spell_block d c) (peel (peel h)) in
    let body = v b d t r w (sign Sign.CloseCurly ∷ a) (sign Sign.CloseCurly ∷ c) refl refl (peel ps.1) in
    λ i. Exp.func (ep i) (ps.0 i) (body i)

same_primary : (n : ℕ) → UniqueAt n Level.Either → UniqueStms n → (e d : Exp) → weight e ≤ suc n → (a b : List Mark) → Leaf e
    ⊎ (Opened e ⊎ Nested e) → Leaf d ⊎ (Opened d ⊎ Nested d) → Both (spell e a) (spell d b) → e ≡ d
same_primary n u v e d w a b (inl x) (inl y) h =
    let k = both_via e d a b (Mark.placed x.0 x.1 ∷ a) (Mark.placed y.0 y.1 ∷ b) (x.4 a) (y.4 b) h in
    let ek = same_kind k in
    let ep = same_place k in
    x.3 ∙ (λ i. leaf_of (ek i) (ep i)) ∙ sym (y.3)
same_primary n u v e d w a b (inl x) (inr (inl y)) h =
    let rest = spell_parts (head_shape y.0) y.2 b in
    absurd (leaf_not_head x.0 x.1 y.1 y.0 a rest x.2 (both_via e d a b (Mark.placed x.0 x.1 ∷ a) (spell_head y.0 y.1 rest) (x.4 a) (y.7 b) h))
same_primary n u v e d w a b (inr (inl x)) (inl y) h =
    let rest = spell_parts (head_shape x.0) x.2 a in
    absurd (leaf_not_head y.0 y.1 x.1 x.0 b rest y.2 (swap (both_via e d a b (spell_head x.0 x.1 rest) (Mark.placed y.0 y.1 ∷ b) (x.7 a) (y.4 b) h)))
same_primary n u v e d w a b (inr (inl x)) (inr (inl y)) h =
    let mx = spell_head x.0 x.1 (spell_parts (head_shape x.0) x.2 a) in
    let my = spell_head y.0 y.1 (spell_parts (head_shape y.0) y.2 b) in
    let k = both_via e d a b mx my (x.7 a) (y.7 b) h in
    let same : x.0 ≡ y.0 = sym (head_back x.0 x.1 (spell_parts (head_shape x.0) x.2 a)) ∙ same_heads mx my k
    ∙ head_back y.0 y.1 (spell_parts (head_shape y.0) y.2 b) in
    x.5 ∙ same_opened n u x.0 y.0 same x.1 y.1 x.2 y.2 x.3 y.3 x.4 y.4 (omega (arith, w, x.6)) a b k ∙ sym (y.5)
same_primary n u v e d w a b (inl x) (inr (inr y)) h =
    let rest = sign Sign.OpenRound ∷ spell_params y.1 (sign Sign.CloseRound ∷ spell_block y.2 b) in
    absurd (leaf_not_function x.0 x.1 y.0 a rest x.2
    (both_via e d a b (Mark.placed x.0 x.1 ∷ a) (word_at Word.Function y.0 ∷ rest) (x.4 a) (y.6 b) h))
same_primary n u v e d w a b (inr (inr x)) (inl y) h =
    let rest = sign Sign.OpenRound ∷ spell_params x.1 (sign Sign.CloseRound ∷ spell_block x.2 a) in
    absurd (leaf_not_function y.0 y.1 x.0 b rest y.2
    (swap (both_via e d a b (word_at Word.Function x.0 ∷ rest) (Mark.placed y.0 y.1 ∷ b) (x.6 a) (y.4 b) h)))
same_primary n u v e d w a b (inr (inl x)) (inr (inr y)) h =
    let parts = spell_parts (head_shape x.0) x.2 a in
    let rest = sign Sign.OpenRound ∷ spell_params y.1 (sign Sign.CloseRound ∷ spell_block y.2 b) in
    absurd (head_not_function x.0 x.1 y.0 parts rest
    (both_via e d a b (spell_head x.0 x.1 parts) (word_at Word.Function y.0 ∷ rest) (x.7 a) (y.6 b) h))
same_primary n u v e d w a b (inr (inr x)) (inr (inl y)) h =
    let parts = spell_parts (head_shape y.0) y.2 b in
    let rest = sign Sign.OpenRound ∷ spell_params x.1 (sign Sign.CloseRound ∷ spell_block x.2 a) in
    absurd (head_not_function y.0 y.1 x.0 parts rest
    (swap (both_via e d a b (word_at Word.Function x.0 ∷ rest) (spell_head y.0 y.1 parts) (x.6 a) (y.7 b) h)))
same_primary n u v e d w a b (inr (inr x)) (inr (inr y)) h =
    let mx = word_at Word.Function x.0 ∷ sign Sign.OpenRound ∷ spell_params x.1 (sign Sign.CloseRound ∷ spell_block x.2 a) in
    let my = word_at Word.Function y.0 ∷ sign Sign.OpenRound ∷ spell_params y.1 (sign Sign.CloseRound ∷ spell_block y.2 b) in
    x.4 ∙ same_nested n v x.0 y.0 x.1 y.1 x.2 y.2 x.3 y.3 (omega (arith, w, x.5)) a b (both_via e d a b mx my (x.6 a) (y.6 b) h) ∙ sym (y.4)

pub unique_primary : (n : ℕ) → UniqueAt n Level.Either → UniqueStms n → Unique (suc n) 7
unique_primary n u v e d t r l m w a b h = same_primary n u v e d w a b (primary_view e t l) (primary_view d r m) h
