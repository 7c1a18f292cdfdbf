-- Where reading stops is the place of the first token with which the tokens begin no sentence.
use Rattle.std.proofs.Common.{◌≡◌, ◌⊎◌, inl, inr, ℕ, suc, ◌+◌, ◌-◌, ◌≤◌, ◌<◌, Bool, true, false, cond, List, [], ◌∷◌, ◌++◌, length, take, drop}
use Rattle.std.proofs.Common.{Option, Some, None, refl, sym, ap, subst, ◌∙◌, arith, append_assoc, length-append}
use Rattle.std.proofs.Math.Seq.{take-append_seam, take-append-add}
use Rattle.std.proofs.lemmas.List.{take-take, take-append-drop}
use Rattle.std.proofs.lemmas.Bool.{cases_order}
use Rattle.sky_text.specs.declared.token.TokenKind.{TokenKind}
use Rattle.sky_text.specs.declared.token.Token.{Token}
use Rattle.sky_parse_grammar.specs.Grammar.{Mark, Fits, Follows}
use Rattle.sky_parse_grammar.specs.Tops.{Top, spell_tops, Spells}
use Rattle.sky_parse_grammar.specs.Machine.{Item, Out, step, ends, goes, run, kind, kinds_of, kinds}
use Rattle.sky_parse_grammar.specs.Reading.{Begins, IsRefused}
use Rattle.sky_parse_grammar.specs.Laws.{SpelledOrRefused}
use Rattle.sky_parse_grammar.proofs.Complete.{tops_claim}
use Rattle.sky_parse_grammar.proofs.Means.{Stack}
use Rattle.sky_parse_grammar.proofs.Back.{Leads, back_step}
use Rattle.sky_parse_grammar.proofs.Fill.{fill, ends_empty}

pub length_kinds : (ts : List Token) → length (kinds ts) ≡ length ts
length_kinds [] = refl
length_kinds (t ∷ ts) = ap suc (length_kinds ts)

pub fits_kind : (m : Mark) (t : Token) → Fits m t → t.kind ≡ kind m
fits_kind (Mark.placed k p) t f = f.0
fits_kind (Mark.plain k) t f = f
fits_kind (Mark.also p m) t f = fits_kind m t f.1

pub follows_kinds : (ms : List Mark) (ts : List Token) → Follows ms ts → kinds ts ≡ kinds_of ms
follows_kinds [] [] f = refl
follows_kinds [] (t ∷ ts) f = absurd f
follows_kinds (m ∷ ms) [] f = absurd f
follows_kinds (m ∷ ms) (t ∷ ts) f = let g = follows_kinds ms ts f.1 in let h = fits_kind m t f.0 in cc (g, h)

kinds_append : (a b : List Token) → kinds (a ++ b) ≡ kinds a ++ kinds b
kinds_append [] b = refl
kinds_append (t ∷ a) b = ap (λ (ks : List TokenKind). t.kind ∷ ks) (kinds_append a b)

-- what some script spells is read to the end
pub accepted : (tops : List Top) (ts : List Token) → Spells tops ts → run (Item.tops ∷ []) (kinds ts) ≡ Out.done
accepted tops ts s = ap (run (Item.tops ∷ [])) (follows_kinds (spell_tops tops []) ts s.1) ∙ tops_claim tops s.0

spells_of : (ts : List Token) → Stack (Item.tops ∷ []) ts → (tops : List Top) × Spells tops ts
spells_of ts s = (s.1.0, (s.1.1, s.1.2 [] (subst (λ (r : List Token). Follows [] r) (sym s.2) tt)))

pub begins : (front more : List Token) → Stack (Item.tops ∷ []) (front ++ more) → Begins front
begins front more s = let x = spells_of (front ++ more) s in (x.0, more, x.1)

done_end : (b : Bool) (k : List Item) → (b ≡ true → Stack k []) → cond b Out.done (Out.stuck 0) ≡ Out.done → Stack k []
done_end true k f e = f refl
done_end false k f e = absurd cc

done_step : (k : List Item) (t : Token) (us : List Token) (o : Option (List Item))
    → goes o (λ l. run l (kinds us)) (Out.stuck (suc (length (kinds us)))) ≡ Out.done
    → ((l : List Item) → run l (kinds us) ≡ Out.done → Stack l us) → Leads o us (Stack k (t ∷ us)) → Stack k (t ∷ us)
done_step k t us None e ih back = absurd cc
done_step k t us (Some l) e ih back = back (ih l e)

all_read : (k : List Item) (ts : List Token) → run k (kinds ts) ≡ Out.done → Stack k ts
all_read k [] e = done_end (ends k) k (ends_empty k) e
all_read k (t ∷ us) e = done_step k t us (step k t.kind) e (λ l r. all_read l us r) (back_step k t us)

-- what is read to the end is what some script spells
pub spelled : (ts : List Token) → run (Item.tops ∷ []) (kinds ts) ≡ Out.done → (tops : List Top) × Spells tops ts
spelled ts e = spells_of ts (all_read (Item.tops ∷ []) ts e)

abbrev Refused : List Item → List Token → ℕ → Type 0
Refused k ts n = (front : List Token) × (rest : List Token) × (ts ≡ front ++ rest) × (length rest ≡ n)
    × ((more : List Token) × Stack k (front ++ more))
    × ((t : Token) (after : List Token) → rest ≡ t ∷ after → (more : List TokenKind) → run k (kinds front ++ t.kind ∷ more) ≡ Out.done → ⊥)

refused_end : (b : Bool) (k : List Item) (n : ℕ) → cond b Out.done (Out.stuck 0) ≡ Out.stuck n → Refused k [] n
refused_end true k n e = absurd cc
refused_end false k n e =
    let same : ◌≡◌ {A = ℕ} 0 n = cc in
    ([], [], refl, same, fill k, λ t after h more r. absurd cc)

refused_step : (k : List Item) (t : Token) (us : List Token) (n : ℕ) (o : Option (List Item)) → step k t.kind ≡ o
    → goes o (λ l. run l (kinds us)) (Out.stuck (suc (length (kinds us)))) ≡ Out.stuck n
    → ((l : List Item) → run l (kinds us) ≡ Out.stuck n → Refused l us n) → ((more : List Token) → Leads o more (Stack k (t ∷ more)))
    → Refused k (t ∷ us) n
refused_step k t us n None e r ih back =
    let same : suc (length (kinds us)) ≡ n = cc in (
      [],
      t ∷ us,
      refl,
      omega (arith, same, length_kinds us),
      fill k,
      λ v after h more d.
          let head : v ≡ t = cc in
          let none : run k (v.kind ∷ more) ≡ Out.stuck (suc (length more)) = rw (head, e) refl in
          absurd (cc (none, d)),
    )
refused_step k t us n (Some l) e r ih back =
    let x = ih l r in (
      t ∷ x.0,
      x.1,
      ap (λ (ts : List Token). t ∷ ts) x.2,
      x.3,
      (x.4.0, back (x.0 ++ x.4.0) x.4.1),
      λ v after h more done.
          let on : run k (t.kind ∷ (kinds x.0 ++ v.kind ∷ more)) ≡ run l (kinds x.0 ++ v.kind ∷ more) = rw e refl in
          x.5 v after h more (sym on ∙ done),
    )

refused : (k : List Item) (ts : List Token) (n : ℕ) → run k (kinds ts) ≡ Out.stuck n → Refused k ts n
refused k [] n e = refused_end (ends k) k n e
refused k (t ∷ us) n e = refused_step k t us n (step k t.kind) refl e (λ l r. refused l us n r) (λ more. back_step k t more)

-- with the token at which reading stops, the tokens begin no sentence
dead : (front rest : List Token) → ((t : Token) (after : List Token) → rest ≡ t ∷ after → (more : List TokenKind)
    → run (Item.tops ∷ []) (kinds front ++ t.kind ∷ more) ≡ Out.done → ⊥)
    → length front < length (front ++ rest) → Begins (take (length front + 1) (front ++ rest)) → ⊥
dead front [] d h b = absurd (omega (arith, length-append front []))
dead front (t ∷ after) d h b =
    let cut : take (length front + 1) (front ++ t ∷ after) ≡ front ++ t ∷ [] = take-append-add front (t ∷ after) 1 in
    let s : Spells b.0 ((front ++ t ∷ []) ++ b.1) = subst (λ (ts : List Token). Spells b.0 (ts ++ b.1)) cut b.2 in
    let all : kinds ((front ++ t ∷ []) ++ b.1) ≡ kinds front ++ t.kind ∷ kinds b.1 = rw append_assoc (kinds_append front (t ∷ b.1)) in
    d t after refl (kinds b.1) (sym (ap (run (Item.tops ∷ [])) all) ∙ accepted b.0 ((front ++ t ∷ []) ++ b.1) s)

placed : (ts front rest : List Token) (n : ℕ) → ts ≡ front ++ rest → length rest ≡ n → Begins front
    → ((t : Token) (after : List Token) → rest ≡ t ∷ after → (more : List TokenKind) → run (Item.tops ∷ []) (kinds front ++ t.kind ∷ more)
    ≡ Out.done → ⊥)
    → ((tops : List Top) → Spells tops ts → ⊥) → IsRefused ts (length ts - n)
placed ts front rest n e l b d none =
    let count : length ts - n ≡ length front = omega (arith, ap length e, length-append front rest, l) in
    rw count (record {
      within = omega (arith, ap length e, length-append front rest);
      before = rw (e, take-append_seam front rest) b;
      here = rw e (dead front rest d);
      none = none;
    })

-- Where reading stops the refusal is exact.
pub exact : (ts : List Token) (n : ℕ) → run (Item.tops ∷ []) (kinds ts) ≡ Out.stuck n → IsRefused ts (length ts - n)
exact ts n e =
    let x = refused (Item.tops ∷ []) ts n e in
    placed ts x.0 x.1 n x.2 x.3 (begins x.0 x.4.0 x.4.1) x.5 (λ f s. absurd (cc (e, accepted f ts s)))

-- no more tokens are left than there are
pub stuck_within : (ts : List Token) (n : ℕ) → run (Item.tops ∷ []) (kinds ts) ≡ Out.stuck n → n ≤ length ts
stuck_within ts n e = let x = refused (Item.tops ∷ []) ts n e in omega (arith, ap length x.2, length-append x.0 x.1, x.3)

-- The refusal at the place where reading stops with so many tokens left.
begins_less : (ts : List Token) (m n : ℕ) → m ≤ n → Begins (take n ts) → Begins (take m ts)
begins_less ts m n h b =
    let front : take m (take n ts) ≡ take m ts = take-take m n ts h in
    let split : take m ts ++ drop m (take n ts) ≡ take n ts =
    subst (λ (us : List Token). us ++ drop m (take n ts) ≡ take n ts) front (take-append-drop m (take n ts)) in
    let all : take m ts ++ (drop m (take n ts) ++ b.1) ≡ take n ts ++ b.1 = sym (append_assoc (take m ts) (drop m (take n ts)) b.1)
    ∙ ap (λ (us : List Token). us ++ b.1) split in
    (b.0, drop m (take n ts) ++ b.1, subst (λ (us : List Token). Spells b.0 us) (sym all) b.2)

not_before : (ts : List Token) (m n : ℕ) → IsRefused ts m → IsRefused ts n → m < n → ⊥
not_before ts m n p q h = p.here (omega (arith, h, q.within)) (begins_less ts (m + 1) n (omega (arith, h)) q.before)

one_place : (ts : List Token) (m n : ℕ) → IsRefused ts m → IsRefused ts n → m ≡ n
one_place ts m n p q = one_of (cases_order m n)
  where
    one_of : (m ≡ n) ⊎ ((m < n) ⊎ (n < m)) → m ≡ n
    one_of (inl e) = e
    one_of (inr (inl h)) = absurd (not_before ts m n p q h)
    one_of (inr (inr h)) = absurd (not_before ts n m q p h)

either_way : (ts : List Token) (o : Out) → run (Item.tops ∷ []) (kinds ts) ≡ o → ((tops : List Top) × Spells tops ts)
    ⊎ ((n : ℕ) × IsRefused ts n × ((m : ℕ) → IsRefused ts m → m ≡ n))
either_way ts Out.done e = inl (spelled ts e)
either_way ts (Out.stuck n) e = let x = exact ts n e in inr (length ts - n, x, λ m y. one_place ts m (length ts - n) y x)

pub spelled_or_refused : SpelledOrRefused
spelled_or_refused = λ ts. either_way ts (run (Item.tops ∷ []) (kinds ts)) refl
