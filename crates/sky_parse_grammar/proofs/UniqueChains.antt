-- No two expressions of the grammar spell the same tokens: steps, signs and chains, level by level.
use Rattle.std.proofs.Common.{◌≡◌, ◌⊎◌, inl, inr, ℕ, zero, suc, ◌<◌, ◌≤◌, Bool, true, false, cond, List, [], ◌∷◌, refl, sym, ap, subst, ◌∙◌, arith}
use Rattle.std.specs.Prelude.{if◌then◌else◌}
use Rattle.std.proofs.lemmas.Bool.{false≢true, cases_order}
use Rattle.sky_base.specs.Op.{Order}
use Rattle.sky_base.specs.Tree.{Place, Lit, Form, Oper, Junction, SignAt}
use Rattle.sky_base.specs.Tree as tree
use Rattle.sky_parse_grammar.specs.Levels.{oper_level, junction_level}
use Rattle.sky_text.specs.declared.token.Sign.{Sign}
use Rattle.sky_text.specs.declared.token.TokenKind.{TokenKind}
use Rattle.sky_parse_grammar.specs.declared.level.Level.{Level}
use Rattle.sky_parse_grammar.specs.Levels.{rank, opens}
use Rattle.sky_parse_grammar.specs.Grammar.{Mark, sign, sign_at, prefix_sign, oper_sign, junction_sign, spell, spell_signs, spell_links, spell_ands}
use Rattle.sky_parse_grammar.specs.Grammar.{spell_steps, spell_exps, AreLinks, AreAnds, AreSteps, IsTree}
use Rattle.sky_parse_grammar.specs.Machine.{is_prefix, kind, operand_of}
use Rattle.sky_parse_grammar.proofs.Operands.{stops, stops_steps, stops_here, links_stop, ands_stop, rank_step, same_level, oper_opens, level_of_junction}
use Rattle.sky_parse_grammar.proofs.Operands.{round}
use Rattle.sky_parse_grammar.proofs.Means.{links_low, junction_low}
use Rattle.sky_parse_grammar.proofs.Aligned.{Both, swap, peel, same_kind, same_place, no_end, exp_peel, exps_peel}
use Rattle.sky_parse_grammar.proofs.UniqueExpressions.{UniqueAt, UniqueStms, unique_exps, unique_primary, both_via}
use Rattle.sky_parse_grammar.specs.Source.{Exp, Exps, Links, Ands, Steps, weight, links_weight, ands_weight, steps_weight, level}

-- the same of prefixes and postfixes, where no index and no call follows
abbrev UniqueTo : ℕ → ℕ → Type 0
UniqueTo n l = (e d : Exp) → IsTree e → IsTree d → l ≤ level e → l ≤ level d → weight e ≤ n → (a b : List Mark) → stops_steps a ≡ true
    → stops_steps b ≡ true → Both (spell e a) (spell d b) → e ≡ d

-- Steps.
no_square : (a : List Mark) (p : Place) (b : List Mark) → stops_steps a ≡ true → Both a (sign_at Sign.OpenSquare p ∷ b) → ⊥
no_square [] p b s h = no_end h
no_square (m ∷ a) p b s h = false≢true (sym (stopped (same_kind h)) ∙ s)
  where
    stopped : kind m ≡ TokenKind.Sign Sign.OpenSquare → stops_steps (m ∷ a) ≡ false
    stopped e = rw e refl

no_round : (a : List Mark) (p : Place) (b : List Mark) → stops_steps a ≡ true → Both a (sign_at Sign.OpenRound p ∷ b) → ⊥
no_round [] p b s h = no_end h
no_round (m ∷ a) p b s h = false≢true (sym (stopped (same_kind h)) ∙ s)
  where
    stopped : kind m ≡ TokenKind.Sign Sign.OpenRound → stops_steps (m ∷ a) ≡ false
    stopped e = rw e refl

not_both : {p q : Place} {a b : List Mark} → Both (sign_at Sign.OpenSquare p ∷ a) (sign_at Sign.OpenRound q ∷ b) → ⊥
not_both h = let e = same_kind h in absurd cc

unique_steps : (n : ℕ) → UniqueAt n Level.Either → (ss rs : Steps) → AreSteps ss → AreSteps rs → steps_weight ss ≤ n → (a b : List Mark)
    → stops_steps a ≡ true → stops_steps b ≡ true → Both (spell_steps ss a) (spell_steps rs b) → ss ≡ rs
unique_steps n u Steps.no_steps Steps.no_steps t r w a b s z h = refl
unique_steps n u Steps.no_steps (Steps.index d q rs) t r w a b s z h = absurd (no_square a q _ s h)
unique_steps n u Steps.no_steps (Steps.call ds q rs) t r w a b s z h = absurd (no_round a q _ s h)
unique_steps n u (Steps.index e p ss) Steps.no_steps t r w a b s z h = absurd (no_square b p _ z (swap h))
unique_steps n u (Steps.call es p ss) Steps.no_steps t r w a b s z h = absurd (no_round b p _ z (swap h))
unique_steps n u (Steps.index e p ss) (Steps.call ds q rs) t r w a b s z h = absurd (not_both h)
unique_steps n u (Steps.call es p ss) (Steps.index d q rs) t r w a b s z h = absurd (not_both (swap h))
unique_steps n u (Steps.index e p ss) (Steps.index d q rs) t r w a b s z h =
    let x = sign Sign.CloseSquare ∷ spell_steps ss a in
    let y = sign Sign.CloseSquare ∷ spell_steps rs b in
    let ep = same_place h in
    let same = u e d t.0 r.0 (omega arith) (omega arith) (omega (arith, w)) x y refl refl (peel h) in
    let later : Both x y = exp_peel e (subst (λ (o : Exp). Both (spell e x) (spell o y)) (sym same) (peel h)) in
    let rest = unique_steps n u ss rs t.1 r.1 (omega (arith, w)) a b s z (peel later) in
    λ i. Steps.index (same i) (ep i) (rest i)
unique_steps n u (Steps.call es p ss) (Steps.call ds q rs) t r w a b s z h =
    let x = spell_steps ss a in
    let y = spell_steps rs b in
    let ep = same_place h in
    let same = unique_exps n u round es ds t.0 r.0 (omega (arith, w)) x y (peel h) in
    let later : Both (sign Sign.CloseRound ∷ x) (sign Sign.CloseRound ∷ y) =
    exps_peel es (subst (λ (o : Exps). Both (spell_exps es (sign Sign.CloseRound ∷ x)) (spell_exps o (sign Sign.CloseRound ∷ y))) (sym same)
    (peel h)) in
    let rest = unique_steps n u ss rs t.1 r.1 (omega (arith, w)) a b s z (peel later) in
    λ i. Steps.call (same i) (ep i) (rest i)

-- a postfix is a primary and its steps; a primary alone has none
stepped : Exp → Steps → Exp
stepped e Steps.no_steps = e
stepped e (Steps.index i p ss) = Exp.postfix e (Steps.index i p ss)
stepped e (Steps.call es p ss) = Exp.postfix e (Steps.call es p ss)

abbrev Stepped : ℕ → Exp → Type 0
Stepped n e = (f : Exp) × (ss : Steps) × IsTree f × (7 ≤ level f) × AreSteps ss × (e ≡ stepped f ss)
    × ((more : List Mark) → spell e more ≡ spell f (spell_steps ss more)) × (weight f ≤ suc n) × (steps_weight ss ≤ n)

alone_stepped : (n : ℕ) (e : Exp) → IsTree e → 7 ≤ level e → weight e ≤ suc n → Stepped n e
unfolding stepped
alone_stepped n e t l w = (e, Steps.no_steps, t, l, tt, refl, (λ more. refl), w, omega arith)

stepped_view : (n : ℕ) (e : Exp) → IsTree e → 6 ≤ level e → weight e ≤ suc n → Stepped n e
unfolding stepped
stepped_view n (Exp.literal v p) t l w = alone_stepped n (Exp.literal v p) t (omega arith) w
stepped_view n (Exp.name x p) t l w = alone_stepped n (Exp.name x p) t (omega arith) w
stepped_view n (Exp.func p xs b) t l w = alone_stepped n (Exp.func p xs b) t (omega arith) w
stepped_view n (Exp.parens e) t l w = alone_stepped n (Exp.parens e) t (omega arith) w
stepped_view n (Exp.parts o p es) t l w = alone_stepped n (Exp.parts o p es) t (omega arith) w
stepped_view n (Exp.chain e ls) t l w = absurd (omega (arith, l, links_low ls))
stepped_view n (Exp.logic j e ls) t l w = absurd (omega (arith, l, junction_low j))
stepped_view n (Exp.prefix ss e) t l w = absurd (omega arith)
stepped_view n (Exp.postfix e Steps.no_steps) t l w = absurd (false≢true t.3)
stepped_view n (Exp.postfix e (Steps.index i p ss)) t l w =
    (e, Steps.index i p ss, t.0, t.1, t.2, refl, (λ more. refl), omega (arith, w), omega (arith, w))
stepped_view n (Exp.postfix e (Steps.call es p ss)) t l w =
    (e, Steps.call es p ss, t.0, t.1, t.2, refl, (λ more. refl), omega (arith, w), omega (arith, w))

abbrev Stepwise : Exp → Type 0
Stepwise d = (f : Exp) × (ss : Steps) × IsTree f × (7 ≤ level f) × AreSteps ss × (d ≡ stepped f ss)
    × ((more : List Mark) → spell d more ≡ spell f (spell_steps ss more))

stepwise : (d : Exp) → IsTree d → 6 ≤ level d → Stepwise d
stepwise d r m = let x = stepped_view (weight d) d r m (omega arith) in (x.0, x.1, x.2, x.3, x.4, x.5, x.6)

unique_stepped : (n : ℕ) → UniqueAt n Level.Either → UniqueStms n → UniqueTo (suc n) 6
unique_stepped n u v e d t r l m w a b s z h =
    let x = stepped_view n e t l w in
    let y = stepwise d r m in
    let k = both_via e d a b (spell x.0 (spell_steps x.1 a)) (spell y.0 (spell_steps y.1 b)) (x.6 a) (y.6 b) h in
    let first = unique_primary n u v x.0 y.0 x.2 y.2 x.3 y.3 x.7 (spell_steps x.1 a) (spell_steps y.1 b) k in
    let later = exp_peel x.0 (subst (λ (o : Exp). Both (spell x.0 (spell_steps x.1 a)) (spell o (spell_steps y.1 b))) (sym first) k) in
    let steps = unique_steps n u x.1 y.1 x.4 y.4 x.8 a b s z later in
    x.5 ∙ (λ i. stepped (first i) (steps i)) ∙ sym (y.5)

-- Signs in front of an operand.
abbrev plain_first : List Mark → Bool
plain_first [] = true
plain_first (m ∷ ms) = if is_prefix (kind m) then false else true

primary_plain : (e : Exp) → IsTree e → 6 ≤ level e → (more : List Mark) → plain_first (spell e more) ≡ true
primary_plain (Exp.literal Lit.null p) t l more = refl
primary_plain (Exp.literal (Lit.truth true) p) t l more = refl
primary_plain (Exp.literal (Lit.truth false) p) t l more = refl
primary_plain (Exp.literal (Lit.num z) p) t l more = refl
primary_plain (Exp.literal (Lit.text x) p) t l more = refl
primary_plain (Exp.name x p) t l more = refl
primary_plain (Exp.func p xs b) t l more = refl
primary_plain (Exp.parens e) t l more = refl
primary_plain (Exp.parts Form.list p es) t l more = refl
primary_plain (Exp.parts Form.dict p es) t l more = refl
primary_plain (Exp.parts Form.spawn p es) t l more = refl
primary_plain (Exp.parts Form.spawn_exec p es) t l more = refl
primary_plain (Exp.parts Form.exec p es) t l more = refl
primary_plain (Exp.parts Form.ref p es) t l more = refl
primary_plain (Exp.parts Form.len p es) t l more = refl
primary_plain (Exp.parts Form.keys p es) t l more = refl
primary_plain (Exp.parts Form.has p es) t l more = refl
primary_plain (Exp.parts Form.range p es) t l more = refl
primary_plain (Exp.chain e ls) t l more = absurd (omega (arith, l, links_low ls))
primary_plain (Exp.logic j e ls) t l more = absurd (omega (arith, l, junction_low j))
primary_plain (Exp.prefix ss e) t l more = absurd (omega arith)
primary_plain (Exp.postfix e ss) t l more = primary_plain e t.0 (omega (arith, t.1)) (spell_steps ss more)

no_sign : (a : List Mark) (s : tree.Sign) (p : Place) (b : List Mark) → plain_first a ≡ true → Both a (sign_at (prefix_sign s) p ∷ b) → ⊥
no_sign [] s p b g h = no_end h
no_sign (m ∷ a) s p b g h = false≢true (sym (stopped s (same_kind h)) ∙ g)
  where
    stopped : (s : tree.Sign) → kind m ≡ TokenKind.Sign (prefix_sign s) → plain_first (m ∷ a) ≡ false
    stopped tree.Sign.not e = rw e refl
    stopped tree.Sign.minus e = rw e refl
    stopped tree.Sign.star e = rw e refl

sign_of : TokenKind → tree.Sign
sign_of (TokenKind.Sign Sign.Not) = tree.Sign.not
sign_of (TokenKind.Sign Sign.Minus) = tree.Sign.minus
sign_of k = tree.Sign.star

sign_back : (s : tree.Sign) → sign_of (TokenKind.Sign (prefix_sign s)) ≡ s
unfolding sign_of
sign_back tree.Sign.not = refl
sign_back tree.Sign.minus = refl
sign_back tree.Sign.star = refl

unique_signs : (ss rs : List SignAt) (x y : List Mark) → plain_first x ≡ true → plain_first y ≡ true → Both (spell_signs ss x) (spell_signs rs y)
    → (ss ≡ rs) × Both x y
unique_signs [] [] x y g k h = (refl, h)
unique_signs [] (r ∷ rs) x y g k h = absurd (no_sign x r.sign r.place _ g h)
unique_signs (s ∷ ss) [] x y g k h = absurd (no_sign y s.sign s.place _ k (swap h))
unique_signs (s ∷ ss) (r ∷ rs) x y g k h =
    let ep = same_place h in
    let es : s.sign ≡ r.sign = sym (sign_back s.sign) ∙ ap sign_of (same_kind h) ∙ sign_back r.sign in
    let rest = unique_signs ss rs x y g k (peel h) in
    ((λ i. record { sign = es i; place = ep i } ∷ rest.0 i), rest.1)

-- an operand with the signs in front of it, which may be none
prefixed : List SignAt → Exp → Exp
prefixed [] e = e
prefixed (s ∷ ss) e = Exp.prefix (s ∷ ss) e

abbrev Prefixed : ℕ → Exp → Type 0
Prefixed n e = (ss : List SignAt) × (f : Exp) × IsTree f × (6 ≤ level f) × (e ≡ prefixed ss f)
    × ((more : List Mark) → spell e more ≡ spell_signs ss (spell f more)) × (weight f ≤ n)

alone_prefixed : (n : ℕ) (e : Exp) → IsTree e → 6 ≤ level e → weight e ≤ n → Prefixed n e
unfolding prefixed
alone_prefixed n e t l w = ([], e, t, l, refl, (λ more. refl), w)

prefixed_view : (n : ℕ) (e : Exp) → IsTree e → 5 ≤ level e → weight e ≤ n → Prefixed n e
unfolding prefixed
prefixed_view n (Exp.literal v p) t l w = alone_prefixed n (Exp.literal v p) t (omega arith) w
prefixed_view n (Exp.name x p) t l w = alone_prefixed n (Exp.name x p) t (omega arith) w
prefixed_view n (Exp.func p xs b) t l w = alone_prefixed n (Exp.func p xs b) t (omega arith) w
prefixed_view n (Exp.parens e) t l w = alone_prefixed n (Exp.parens e) t (omega arith) w
prefixed_view n (Exp.parts o p es) t l w = alone_prefixed n (Exp.parts o p es) t (omega arith) w
prefixed_view n (Exp.chain e ls) t l w = absurd (omega (arith, l, links_low ls))
prefixed_view n (Exp.logic j e ls) t l w = absurd (omega (arith, l, junction_low j))
prefixed_view n (Exp.prefix [] e) t l w = absurd (false≢true t.2)
prefixed_view n (Exp.prefix (s ∷ ss) e) t l w = (s ∷ ss, e, t.0, t.1, refl, (λ more. refl), omega (arith, w))
prefixed_view n (Exp.postfix e ss) t l w = alone_prefixed n (Exp.postfix e ss) t (omega arith) w

unique_prefix : (n : ℕ) → UniqueTo n 6 → UniqueAt n Level.Prefix
unique_prefix n u e d t r l m w a b s z h =
    let x = prefixed_view n e t l w in
    let y = prefixed_view (weight d) d r m (omega arith) in
    let k = both_via e d a b (spell_signs x.0 (spell x.1 a)) (spell_signs y.0 (spell y.1 b)) (x.5 a) (y.5 b) h in
    let signs = unique_signs x.0 y.0 (spell x.1 a) (spell y.1 b) (primary_plain x.1 x.2 x.3 a) (primary_plain y.1 y.2 y.3 b) k in
    let same = u x.1 y.1 x.2 y.2 x.3 y.3 x.6 a b s z signs.1 in
    x.4 ∙ (λ i. prefixed (signs.0 i) (same i)) ∙ sym (y.4)

-- Chains of one level.
no_oper : (l : Level) (a : List Mark) (m : Mark) (b : List Mark) → stops l a ≡ true → opens l (kind m) ≡ true → Both a (m ∷ b) → ⊥
no_oper l [] m b s o h = no_end h
no_oper l (x ∷ a) m b s o h = none (opens l (kind x)) (ap (opens l) (same_kind h) ∙ o) (stops_here l (x ∷ a) s)
  where
    none : (c : Bool) → c ≡ true → cond c false true ≡ true → ⊥
    none true e f = false≢true f
    none false e f = false≢true e

oper_of : Sign → Oper
oper_of Sign.Plus = Oper.plus
oper_of Sign.Minus = Oper.minus
oper_of Sign.Star = Oper.times
oper_of Sign.Slash = Oper.over
oper_of Sign.Percent = Oper.rest
oper_of Sign.Equal = Oper.compare Order.eq
oper_of Sign.NotEqual = Oper.compare Order.ne
oper_of Sign.Less = Oper.compare Order.lt
oper_of Sign.LessEqual = Oper.compare Order.le
oper_of Sign.Greater = Oper.compare Order.gt
oper_of s = Oper.compare Order.ge

kind_oper : TokenKind → Oper
kind_oper (TokenKind.Sign s) = oper_of s
kind_oper k = Oper.plus

oper_back : (o : Oper) → kind_oper (TokenKind.Sign (oper_sign o)) ≡ o
unfolding kind_oper oper_of
oper_back Oper.plus = refl
oper_back Oper.minus = refl
oper_back Oper.times = refl
oper_back Oper.over = refl
oper_back Oper.rest = refl
oper_back (Oper.compare Order.eq) = refl
oper_back (Oper.compare Order.ne) = refl
oper_back (Oper.compare Order.lt) = refl
oper_back (Oper.compare Order.le) = refl
oper_back (Oper.compare Order.gt) = refl
oper_back (Oper.compare Order.ge) = refl

opens_of : (l : Level) (o : Oper) → oper_level o ≡ rank l → opens l (TokenKind.Sign (oper_sign o)) ≡ true
opens_of l o e = subst (λ (m : Level). opens m (TokenKind.Sign (oper_sign o)) ≡ true) (same_level o l e) (oper_opens o)

unique_links : (l : Level) (n : ℕ) → UniqueAt n (operand_of l) → (ls ks : Links) → AreLinks (rank l) ls → AreLinks (rank l) ks
    → links_weight ls ≤ n → (a b : List Mark) → stops l a ≡ true → stops l b ≡ true → Both (spell_links ls a) (spell_links ks b) → ls ≡ ks
unique_links l n u Links.no_links Links.no_links t r w a b s z h = refl
unique_links l n u Links.no_links (Links.link q c d ks) t r w a b s z h = absurd (no_oper l a (sign_at (oper_sign q) c) _ s (opens_of l q r.0) h)
unique_links l n u (Links.link o p e ls) Links.no_links t r w a b s z h =
    absurd (no_oper l b (sign_at (oper_sign o) p) _ z (opens_of l o t.0) (swap h))
unique_links l n u (Links.link o p e ls) (Links.link q c d ks) t r w a b s z h =
    let x = spell_links ls a in
    let y = spell_links ks b in
    let eo : o ≡ q = sym (oper_back o) ∙ ap kind_oper (same_kind h) ∙ oper_back q in
    let ep = same_place h in
    let up = rank_step l in
    let same = u e d t.1 r.1 (omega (arith, up, t.2)) (omega (arith, up, r.2)) (omega (arith, w)) x y (links_stop l ls a t.3 s)
    (links_stop l ks b r.3 z) (peel h) in
    let later : Both x y = exp_peel e (subst (λ (f : Exp). Both (spell e x) (spell f y)) (sym same) (peel h)) in
    let rest = unique_links l n u ls ks t.3 r.3 (omega (arith, w)) a b s z later in
    λ i. Links.link (eo i) (ep i) (same i) (rest i)

-- an operand with the operators behind it, which may be none
chained : Exp → Links → Exp
chained e Links.no_links = e
chained e (Links.link o p f ls) = Exp.chain e (Links.link o p f ls)

abbrev Chained : Level → ℕ → Exp → Type 0
Chained l n e = (f : Exp) × (ls : Links) × IsTree f × (rank (operand_of l) ≤ level f) × AreLinks (rank l) ls × (e ≡ chained f ls)
    × ((more : List Mark) → spell e more ≡ spell f (spell_links ls more)) × (weight f ≤ n) × (links_weight ls ≤ n)

alone_chained : (l : Level) (n : ℕ) (e : Exp) → IsTree e → rank (operand_of l) ≤ level e → weight e ≤ n → Chained l n e
unfolding chained
alone_chained l n e t g w = (e, Links.no_links, t, g, tt, refl, (λ more. refl), w, omega arith)

abbrev IsChain : Level → Type 0
IsChain l = (2 ≤ rank l) × (rank l ≤ 4)

chain_view : (l : Level) (n : ℕ) (f : Exp) (o : Oper) (p : Place) (g : Exp) (ls : Links) → IsTree (Exp.chain f (Links.link o p g ls))
    → weight (Exp.chain f (Links.link o p g ls)) ≤ n → (oper_level o ≡ rank l) ⊎ (rank l < oper_level o)
    → Chained l n (Exp.chain f (Links.link o p g ls))
unfolding chained
chain_view l n f o p g ls t w (inl e) =
    let up = rank_step l in (
      f,
      Links.link o p g ls,
      t.0,
      omega (arith, up, e, t.1),
      subst (λ (m : ℕ). AreLinks m (Links.link o p g ls)) e t.2,
      refl,
      (λ more. refl),
      omega (arith, w),
      omega (arith, w),
    )
chain_view l n f o p g ls t w (inr e) = let up = rank_step l in alone_chained l n (Exp.chain f (Links.link o p g ls)) t (omega (arith, up, e)) w

at_or_above : (m n : ℕ) → n ≤ m → (m ≡ n) ⊎ (n < m)
at_or_above m n h = pick (cases_order m n)
  where
    pick : (m ≡ n) ⊎ ((m < n) ⊎ (n < m)) → (m ≡ n) ⊎ (n < m)
    pick (inl e) = inl e
    pick (inr (inl k)) = absurd (omega (arith, h, k))
    pick (inr (inr k)) = inr k

chained_view : (l : Level) (n : ℕ) → IsChain l → (e : Exp) → IsTree e → rank l ≤ level e → weight e ≤ n → Chained l n e
chained_view l n c (Exp.literal v p) t g w = let up = rank_step l in alone_chained l n (Exp.literal v p) t (omega (arith, up, c.1)) w
chained_view l n c (Exp.name x p) t g w = let up = rank_step l in alone_chained l n (Exp.name x p) t (omega (arith, up, c.1)) w
chained_view l n c (Exp.func p xs b) t g w = let up = rank_step l in alone_chained l n (Exp.func p xs b) t (omega (arith, up, c.1)) w
chained_view l n c (Exp.parens e) t g w = let up = rank_step l in alone_chained l n (Exp.parens e) t (omega (arith, up, c.1)) w
chained_view l n c (Exp.parts o p es) t g w = let up = rank_step l in alone_chained l n (Exp.parts o p es) t (omega (arith, up, c.1)) w
chained_view l n c (Exp.chain e Links.no_links) t g w = absurd (false≢true t.3)
chained_view l n c (Exp.chain e (Links.link o p f ls)) t g w = chain_view l n e o p f ls t w (at_or_above (oper_level o) (rank l) g)
chained_view l n c (Exp.logic j e ls) t g w = absurd (omega (arith, g, c.0, junction_low j))
chained_view l n c (Exp.prefix ss e) t g w = let up = rank_step l in alone_chained l n (Exp.prefix ss e) t (omega (arith, up, c.1)) w
chained_view l n c (Exp.postfix e ss) t g w = let up = rank_step l in alone_chained l n (Exp.postfix e ss) t (omega (arith, up, c.1)) w

unique_chain : (l : Level) (n : ℕ) → IsChain l → UniqueAt n (operand_of l) → UniqueAt n l
unique_chain l n c u e d t r g m w a b s z h =
    let x = chained_view l n c e t g w in
    let y = chained_view l (weight d) c d r m (omega arith) in
    let ma = spell_links x.1 a in
    let mb = spell_links y.1 b in
    let k = both_via e d a b (spell x.0 ma) (spell y.0 mb) (x.6 a) (y.6 b) h in
    let first = u x.0 y.0 x.2 y.2 x.3 y.3 x.7 ma mb (links_stop l x.1 a x.4 s) (links_stop l y.1 b y.4 z) k in
    let later : Both ma mb = exp_peel x.0 (subst (λ (o : Exp). Both (spell x.0 ma) (spell o mb)) (sym first) k) in
    let links = unique_links l n u x.1 y.1 x.4 y.4 x.8 a b s z later in
    x.5 ∙ (λ i. chained (first i) (links i)) ∙ sym (y.5)

-- Chains of `&&` and of `||`.
junction_opens : (j : Junction) → opens (level_of_junction j) (TokenKind.Sign (junction_sign j)) ≡ true
junction_opens Junction.both = refl
junction_opens Junction.either = refl

operand_rank : (j : Junction) → rank (operand_of (level_of_junction j)) ≡ suc (junction_level j)
operand_rank Junction.both = refl
operand_rank Junction.either = refl

unique_ands : (j : Junction) (n : ℕ) → UniqueAt n (operand_of (level_of_junction j)) → (ls ks : Ands) → AreAnds (junction_level j) ls
    → AreAnds (junction_level j) ks → ands_weight ls ≤ n → (a b : List Mark) → stops (level_of_junction j) a ≡ true
    → stops (level_of_junction j) b ≡ true → Both (spell_ands j ls a) (spell_ands j ks b) → ls ≡ ks
unique_ands j n u Ands.no_ands Ands.no_ands t r w a b s z h = refl
unique_ands j n u Ands.no_ands (Ands.and c d ks) t r w a b s z h =
    absurd (no_oper (level_of_junction j) a (sign_at (junction_sign j) c) _ s (junction_opens j) h)
unique_ands j n u (Ands.and p e ls) Ands.no_ands t r w a b s z h =
    absurd (no_oper (level_of_junction j) b (sign_at (junction_sign j) p) _ z (junction_opens j) (swap h))
unique_ands j n u (Ands.and p e ls) (Ands.and c d ks) t r w a b s z h =
    let x = spell_ands j ls a in
    let y = spell_ands j ks b in
    let ep = same_place h in
    let up = operand_rank j in
    let same = u e d t.0 r.0 (omega (arith, up, t.1)) (omega (arith, up, r.1)) (omega (arith, w)) x y (ands_stop j ls a s) (ands_stop j ks b z)
    (peel h) in
    let later : Both x y = exp_peel e (subst (λ (f : Exp). Both (spell e x) (spell f y)) (sym same) (peel h)) in
    let rest = unique_ands j n u ls ks t.2 r.2 (omega (arith, w)) a b s z later in
    λ i. Ands.and (ep i) (same i) (rest i)

-- an operand with the `&&` or `||` behind it, which may be none
joined : Junction → Exp → Ands → Exp
joined j e Ands.no_ands = e
joined j e (Ands.and p f ls) = Exp.logic j e (Ands.and p f ls)

abbrev Joined : Junction → ℕ → Exp → Type 0
Joined j n e = (f : Exp) × (ls : Ands) × IsTree f × (rank (operand_of (level_of_junction j)) ≤ level f) × AreAnds (junction_level j) ls
    × (e ≡ joined j f ls) × ((more : List Mark) → spell e more ≡ spell f (spell_ands j ls more)) × (weight f ≤ n) × (ands_weight ls ≤ n)

alone_joined : (j : Junction) (n : ℕ) (e : Exp) → IsTree e → 2 ≤ level e → weight e ≤ n → Joined j n e
unfolding joined
alone_joined j n e t g w = let up = operand_rank j in let low = junction_low j in
    (e, Ands.no_ands, t, omega (arith, up, low, g), tt, refl, (λ more. refl), w, omega arith)

oper_high : (o : Oper) → 2 ≤ oper_level o
oper_high Oper.plus = omega arith
oper_high Oper.minus = omega arith
oper_high Oper.times = omega arith
oper_high Oper.over = omega arith
oper_high Oper.rest = omega arith
oper_high (Oper.compare o) = omega arith

joined_view : (j : Junction) (n : ℕ) (e : Exp) → IsTree e → junction_level j ≤ level e → weight e ≤ n → Joined j n e
unfolding joined
joined_view j n (Exp.literal v p) t g w = alone_joined j n (Exp.literal v p) t (omega arith) w
joined_view j n (Exp.name x p) t g w = alone_joined j n (Exp.name x p) t (omega arith) w
joined_view j n (Exp.func p xs b) t g w = alone_joined j n (Exp.func p xs b) t (omega arith) w
joined_view j n (Exp.parens e) t g w = alone_joined j n (Exp.parens e) t (omega arith) w
joined_view j n (Exp.parts o p es) t g w = alone_joined j n (Exp.parts o p es) t (omega arith) w
joined_view j n (Exp.chain e Links.no_links) t g w = absurd (false≢true t.3)
joined_view j n (Exp.chain e (Links.link o p f ls)) t g w = alone_joined j n (Exp.chain e (Links.link o p f ls)) t (oper_high o) w
joined_view Junction.either n (Exp.logic Junction.both e ls) t g w =
    (Exp.logic Junction.both e ls, Ands.no_ands, t, omega arith, tt, refl, (λ more. refl), w, omega arith)
joined_view Junction.both n (Exp.logic Junction.either e ls) t g w = absurd (omega arith)
joined_view j n (Exp.logic i e Ands.no_ands) t g w = absurd (false≢true t.3)
joined_view Junction.both n (Exp.logic Junction.both e (Ands.and p f ls)) t g w =
    (e, Ands.and p f ls, t.0, omega (arith, t.1), t.2, refl, (λ more. refl), omega (arith, w), omega (arith, w))
joined_view Junction.either n (Exp.logic Junction.either e (Ands.and p f ls)) t g w =
    (e, Ands.and p f ls, t.0, omega (arith, t.1), t.2, refl, (λ more. refl), omega (arith, w), omega (arith, w))
joined_view j n (Exp.prefix ss e) t g w = alone_joined j n (Exp.prefix ss e) t (omega arith) w
joined_view j n (Exp.postfix e ss) t g w = alone_joined j n (Exp.postfix e ss) t (omega arith) w

unique_junction : (j : Junction) (n : ℕ) → UniqueAt n (operand_of (level_of_junction j)) → (e d : Exp) → IsTree e → IsTree d
    → junction_level j ≤ level e → junction_level j ≤ level d → weight e ≤ n → (a b : List Mark) → stops (level_of_junction j) a ≡ true
    → stops (level_of_junction j) b ≡ true → Both (spell e a) (spell d b) → e ≡ d
unique_junction j n u e d t r g m w a b s z h =
    let x = joined_view j n e t g w in
    let y = joined_view j (weight d) d r m (omega arith) in
    let ma = spell_ands j x.1 a in
    let mb = spell_ands j y.1 b in
    let k = both_via e d a b (spell x.0 ma) (spell y.0 mb) (x.6 a) (y.6 b) h in
    let first = u x.0 y.0 x.2 y.2 x.3 y.3 x.7 ma mb (ands_stop j x.1 a s) (ands_stop j y.1 b z) k in
    let later : Both ma mb = exp_peel x.0 (subst (λ (o : Exp). Both (spell x.0 ma) (spell o mb)) (sym first) k) in
    let ands = unique_ands j n u x.1 y.1 x.4 y.4 x.8 a b s z later in
    x.5 ∙ (λ i. joined j (first i) (ands i)) ∙ sym (y.5)

some_weight : (e : Exp) → 1 ≤ weight e
some_weight (Exp.literal v p) = omega arith
some_weight (Exp.name x p) = omega arith
some_weight (Exp.func p xs b) = omega arith
some_weight (Exp.parens e) = omega arith
some_weight (Exp.parts o p es) = omega arith
some_weight (Exp.chain e ls) = omega arith
some_weight (Exp.logic j e ls) = omega arith
some_weight (Exp.prefix ss e) = omega arith
some_weight (Exp.postfix e ss) = omega arith

-- No two expressions spell the same tokens, if no two blocks of so much less do.
pub unique_all : ((n : ℕ) → UniqueAt n Level.Either → UniqueStms n) → (n : ℕ) → UniqueAt n Level.Either
unique_all f zero = λ e d t r g m w a b s z h. absurd (omega (arith, w, some_weight e))
unique_all f (suc n) =
    let u = unique_all f n in
    let prefix = unique_prefix (suc n) (unique_stepped n u (f n u)) in
    let product = unique_chain Level.Product (suc n) (omega arith, omega arith) prefix in
    let sum = unique_chain Level.Sum (suc n) (omega arith, omega arith) product in
    let comparison = unique_chain Level.Comparison (suc n) (omega arith, omega arith) sum in
    let both : UniqueAt (suc n) Level.Both = unique_junction Junction.both (suc n) comparison in
    unique_junction Junction.either (suc n) both
