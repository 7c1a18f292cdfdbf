-- Each step on a word keeps the rule.
use Rattle.std.proofs.Common.{◌≡◌, ◌≢◌, ℕ, zero, suc, ◌+◌, ◌-◌, ◌<◌, ◌==◌, ◌^◌, true, false, List, [], ◌∷◌, ◌++◌, length, set, get_or, sym, refl, ap}
use Rattle.std.proofs.Common.{◌∙◌, subst, arith, ⊎_elim, length-set}
use Rattle.std.proofs.lemmas.List.{set-get_or, get_or-set_same, get_or-set_other}
use Rattle.std.proofs.lemmas.Bool.Decides.{nat_tests}
use mathlib.Core.Option.{some, some-injective, some-ne-none}
use native.Mathlib.Decide.{ℕ_discrete}
use lib.ListN.{get_elem?}
use prog.Atomic.{either}
use Rattle.atomic_table.specs.Table.{State, Me, Act, keeps, Allows, Splits, Joins, Valid, stepped, carried_after, opening}
use Rattle.atomic_table.proofs.Lists.{at_set, at_snoc, at_longer, at_last}
use Rattle.ciel_store.specs.declared.loss.Loss.{Loss}
use Rattle.ciel_store.specs.declared.loss.View.{View}
use Rattle.ciel_store.specs.Words.{loss, marker, eye, Has, AllIn, Fits, Kept, HasMarked, HasLooked}

has_longer : (xs ys : List Loss) (l : Loss) → Has xs l → Has (xs ++ ys) l
has_longer xs ys l h = (h.0, at_longer xs ys h.0 l h.1)

has_last : (xs : List Loss) (l : Loss) → Has (xs ++ l ∷ []) l
has_last xs l = (length xs, at_last xs l (length xs) refl)

-- what is in a list that is longer by one
in_longer : (xs ys : List Loss) (l : Loss) → AllIn xs ys → Has ys l → AllIn (xs ++ l ∷ []) ys
in_longer xs ys l all has x h = ⊎_elim (λ (e : get_elem? xs h.0 ≡ some x). all x (h.0, e)) (λ (e : l ≡ x). subst (λ (z : Loss). Has ys z) e has)
    (at_snoc xs l x h.0 h.1)

none_in : (ys : List Loss) → AllIn [] ys
none_in ys l h = absurd (some-ne-none l (sym h.1))

-- the views after a step
each_set : (views : List View) (seat id : ℕ) (losses losses' : List Loss) (w : View)
    → ((j : ℕ) (v : View) → get_elem? views j ≡ some v → j ≢ id → Fits seat losses' j v) → Fits seat losses' id w
    → (j : ℕ) (v : View) → get_elem? (set views id w) j ≡ some v → Fits seat losses' j v
each_set views seat id losses losses' w others mine j v e = ⊎_elim
    (λ (x : (j ≡ id) × (w ≡ v)). subst (λ (y : ℕ). Fits seat losses' y v) (sym x.0) (subst (λ (y : View). Fits seat losses' id y) x.1 mine))
    (λ (x : (j ≢ id) × (get_elem? views j ≡ some v)). others j v x.1 x.0)
    (at_set views id j w v e)

is_zero : (r : ℕ) → r ≡ 0 → (r == 0) ≡ true
is_zero r e = grind (arith, nat_tests)

not_zero : (r : ℕ) → 0 < r → (r == 0) ≡ false
not_zero r e = grind (arith, nat_tests)

either_same : (r a : ℕ) → r ≡ 0 → either (r == 0) a r ≡ a
either_same r a e = rw (is_zero r e)

either_other : (r a : ℕ) → 0 < r → either (r == 0) a r ≡ r
either_other r a l = rw (not_zero r l)

-- the words after the worker's loss was stored
said_after : (ws : List ℕ) (losses : List Loss) (i number : ℕ) → i < length ws → number < 2 ^ 32 → get_or ws i 0 ≡ 0
    → ((l : Loss) → Has losses l → (get_or ws l.worker 0 ≡ l.number + 1) × (l.number < 2 ^ 32))
    → (l : Loss) → Has (losses ++ loss (number + 1 - 1) i ∷ []) l → (get_or (set ws i (number + 1)) l.worker 0 ≡ l.number + 1) × (l.number < 2 ^ 32)
said_after ws losses i number lt small z said l h = ⊎_elim
    (λ (x : get_elem? losses h.0 ≡ some l).
    let was = said l (h.0, x) in
    let ne : l.worker ≢ i = (λ e. let f : get_or ws i 0 ≡ l.number + 1 = subst (λ (w : ℕ). get_or ws w 0 ≡ l.number + 1) e was.0 in omega arith) in
    (get_or-set_other ws i l.worker (number + 1) 0 ne ∙ was.0, was.1))
    (λ (x : loss (number + 1 - 1) i ≡ l).
    subst (λ (y : Loss). (get_or (set ws i (number + 1)) y.worker 0 ≡ y.number + 1) × (y.number < 2 ^ 32)) x
    (get_or-set_same ws i (number + 1) 0 lt ∙ omega arith, omega arith))
    (at_snoc losses (loss (number + 1 - 1) i) l h.0 h.1)

meant_after : (ws : List ℕ) (losses : List Loss) (i number : ℕ) → i < length ws
    → ((w : ℕ) → 0 < get_or ws w 0 → Has losses (loss (get_or ws w 0 - 1) w))
    → (w : ℕ) → Dec (w ≡ i) → 0 < get_or (set ws i (number + 1)) w 0
    → Has (losses ++ loss (number + 1 - 1) i ∷ []) (loss (get_or (set ws i (number + 1)) w 0 - 1) w)
meant_after ws losses i number lt meant w (yes e) pos =
    let r : get_or (set ws i (number + 1)) w 0 ≡ number + 1 =
    subst (λ (j : ℕ). get_or (set ws i (number + 1)) j 0 ≡ number + 1) (sym e) (get_or-set_same ws i (number + 1) 0 lt) in
    subst (λ (y : Loss). Has (losses ++ loss (number + 1 - 1) i ∷ []) y) (λ k. loss (sym r k - 1) (sym e k))
    (has_last losses (loss (number + 1 - 1) i))
meant_after ws losses i number lt meant w (no ne) pos =
    let r : get_or (set ws i (number + 1)) w 0 ≡ get_or ws w 0 = get_or-set_other ws i w (number + 1) 0 ne in
    subst (λ (x : ℕ). Has (losses ++ loss (number + 1 - 1) i ∷ []) (loss (x - 1) w)) (sym r)
    (has_longer losses (loss (number + 1 - 1) i ∷ []) (loss (get_or ws w 0 - 1) w) (meant w (omega arith)))

one_view : (v u : View) (j : ℕ) → get_elem? (v ∷ []) j ≡ some u → (j ≡ 0) × (v ≡ u)
one_view v u zero e = (refl, some-injective v u e)
one_view v u (suc j) e = absurd (some-ne-none u (sym e))

module _ {S : Type 0} where
  -- a load, after which the seat has some view that fits
  pub loads : (n slots id i : ℕ) (me : Me S View) (then : ℕ → Me S View → Type 0)
      → ((s : State S View) → (k : Kept n s) → get_elem? s.views id ≡ some me.0 → (w : View) × Fits k.seat k.losses id w
      × then (get_or s.words i 0) (w, me.1))
      → Allows (Kept n) slots id me i (λ x. x) then
  loads n slots id i me then f s k len at small = let r = f s k at in let same = set-get_or s.words i 0 in (
    r.0,
    keeps,
    tt,
    record {
      seat = k.seat;
      losses = k.losses;
      wide = length-set s.words i (get_or s.words i 0) ∙ k.wide;
      each = each_set s.views k.seat id k.losses k.losses r.0 (λ j v e _. k.each j v e) r.1;
      said = subst (λ (ws : List ℕ). (l : Loss) → Has k.losses l → (get_or ws l.worker 0 ≡ l.number + 1) × (l.number < 2 ^ 32)) (sym same) k.said;
      meant = subst (λ (ws : List ℕ). (w : ℕ) → 0 < get_or ws w 0 → Has k.losses (loss (get_or ws w 0 - 1) w)) (sym same) k.meant;
    },
    r.2,
  )

  seen_before : (n : ℕ) (s : State S View) (k : Kept n s) (id i : ℕ) (v : View) → Fits k.seat k.losses id v → (l : Loss) → Has v.own l → l.worker
      ≡ i → get_or s.words i 0 ≡ l.number + 1
  seen_before n s k id i v fit l h e = subst (λ (w : ℕ). get_or s.words w 0 ≡ l.number + 1) e (k.said l (fit.own l h)).0

  look : (n : ℕ) (s : State S View) (k : Kept n s) (id i : ℕ) (me : Me S View) → me.0.marks ≡ false → get_elem? s.views id ≡ some me.0
      → Dec (get_or s.words i 0 ≡ 0)
      → (w : View) × Fits k.seat k.losses id w × (HasLooked i me.0 (get_or s.words i 0) w × (me.1 ≡ me.1))
  look n s k id i me plain at (yes e) = let fit = k.each id me.0 at in (
    me.0,
    fit,
    (record { none = λ _. refl; some_loss = λ lt. absurd (omega arith); small = omega arith; before = seen_before n s k id i me.0 fit }, refl),
  )
  look n s k id i me plain at (no ne) = let fit = k.each id me.0 at in
      let pos : 0 < get_or s.words i 0 = omega arith in
      let has = k.meant i pos in
      let said = k.said (loss (get_or s.words i 0 - 1) i) has in (
        record me.0 { own = me.0.own ++ loss (get_or s.words i 0 - 1) i ∷ [] },
        record { one = λ m. absurd cc; own = in_longer me.0.own k.losses (loss (get_or s.words i 0 - 1) i) fit.own has; beside = fit.beside },
        (record { none = λ z. absurd (ne z); some_loss = λ _. refl; small = omega (arith, said.1); before = seen_before n s k id i me.0 fit }, refl),
      )

  pub looks : (n slots id i : ℕ) (me : Me S View) → me.0.marks ≡ false
      → Allows (Kept n) slots id me i (λ x. x) (λ r m. HasLooked i me.0 r m.0 × (m.1 ≡ me.1))
  looks n slots id i me plain = loads n slots id i me (λ r m. HasLooked i me.0 r m.0 × (m.1 ≡ me.1))
      (λ s k at. look n s k id i me plain at (ℕ_discrete (get_or s.words i 0) 0))

  pub confirms : (n slots id i : ℕ) (me : Me S View) → me.0.marks ≡ true
      → Allows (Kept n) slots id me i (λ x. x) (λ r m. (m ≡ me) × AllIn me.0.beside me.0.own)
  confirms n slots id i me marks = loads n slots id i me (λ r m. (m ≡ me) × AllIn me.0.beside me.0.own)
      (λ s k at. let fit = k.each id me.0 at in (
        me.0,
        fit,
        (refl, subst (λ (xs : List Loss). AllIn me.0.beside xs) (sym (fit.one marks).1) fit.beside),
      ))

  abbrev Marked : (n i number : ℕ) (s : State S View) (id : ℕ) (me : Me S View) → Type 0
  Marked n i number s id me = (w : View) × (a : Act S) × Valid s.homes me.1 a
      × Kept n (stepped s i (either (get_or s.words i 0 == 0) (number + 1) (get_or s.words i 0)) id me.1 w a)
      × (HasMarked i (number + 1) me.0 (get_or s.words i 0) w × (carried_after me.1 a ≡ me.1))

  mark : (n id i number : ℕ) (me : Me S View) → me.0.marks ≡ true → i < n → number < 2 ^ 32 → (s : State S View) → (k : Kept n s)
      → get_elem? s.views id ≡ some me.0 → Dec (get_or s.words i 0 ≡ 0) → Marked n i number s id me
  mark n id i number me is lt small s k at (yes z) =
      let fit = k.each id me.0 at in
      let mine = fit.one is in
      let l : Loss = loss (number + 1 - 1) i in
      let longer : List Loss = k.losses ++ loss (number + 1 - 1) i ∷ [] in
      let w : View = record me.0 { own = me.0.own ++ loss (number + 1 - 1) i ∷ [] } in
      let becomes = either_same (get_or s.words i 0) (number + 1) z in
      let short : i < length s.words = omega (arith, k.wide) in (
        w,
        keeps,
        tt,
        subst (λ (x : ℕ). Kept n record { words = set s.words i x; homes = s.homes; views = set s.views id w }) (sym becomes) record {
          seat = k.seat;
          losses = longer;
          wide = length-set s.words i (number + 1) ∙ k.wide;
          each = each_set s.views k.seat id k.losses longer w
              (λ j v e ne. let f = k.each j v e in record {
                one = λ m. absurd (ne ((f.one m).0 ∙ sym mine.0));
                own = λ x h. has_longer k.losses (l ∷ []) x (f.own x h);
                beside = λ x h. has_longer k.losses (l ∷ []) x (f.beside x h);
              })
              record {
                one = λ _. (mine.0, ap (λ (xs : List Loss). xs ++ loss (number + 1 - 1) i ∷ []) mine.1);
                own = subst (λ (xs : List Loss). AllIn (xs ++ loss (number + 1 - 1) i ∷ []) longer) (sym mine.1) (λ x h. h);
                beside = λ x h. has_longer k.losses (l ∷ []) x (fit.beside x h);
              };
          said = said_after s.words k.losses i number short small z k.said;
          meant = λ x. meant_after s.words k.losses i number short k.meant x (ℕ_discrete x i);
        },
        (
          record {
            fresh = λ _. (refl, λ x h e. let f = seen_before n s k id i me.0 fit x h e in omega arith);
            stale = λ pos. absurd (omega arith);
          },
          refl,
        ),
      )
  mark n id i number me is lt small s k at (no ne) =
      let fit = k.each id me.0 at in
      let pos : 0 < get_or s.words i 0 = omega arith in
      let becomes = either_other (get_or s.words i 0) (number + 1) pos in
      let same : set s.words i (either (get_or s.words i 0 == 0) (number + 1) (get_or s.words i 0)) ≡ s.words =
      ap (λ (x : ℕ). set s.words i x) becomes ∙ set-get_or s.words i 0 in
      let has = k.meant i pos in (
        me.0,
        keeps,
        tt,
        subst (λ (ws : List ℕ). Kept n record { words = ws; homes = s.homes; views = set s.views id me.0 }) (sym same) record {
          seat = k.seat;
          losses = k.losses;
          wide = k.wide;
          each = each_set s.views k.seat id k.losses k.losses me.0 (λ j v e _. k.each j v e) fit;
          said = k.said;
          meant = k.meant;
        },
        (
          record {
            fresh = λ z. absurd (ne z);
            stale =
                λ _. (refl, subst (λ (xs : List Loss). Has xs (loss (get_or s.words i 0 - 1) i)) (sym (fit.one is).1) has);
          },
          refl,
        ),
      )

  pub marks : (n slots id i number : ℕ) (me : Me S View) → me.0.marks ≡ true → i < n → number < 2 ^ 32
      → Allows (Kept n) slots id me i (λ x. either (x == 0) (number + 1) x) (λ r m. HasMarked i (number + 1) me.0 r m.0 × (m.1 ≡ me.1))
  marks n slots id i number me is lt small s k len at _ = mark n id i number me is lt small s k at (ℕ_discrete (get_or s.words i 0) 0)

  split_off : (n : ℕ) (s : State S View) (k : Kept n s) (id : ℕ) (v : View) (xs : List Loss) → get_elem? s.views id ≡ some v → AllIn xs k.losses
      → (j : ℕ) (u : View) → get_elem? (set s.views id v ++ eye xs ∷ []) j ≡ some u → Fits k.seat k.losses j u
  split_off n s k id v xs at all j u e = ⊎_elim
      (λ (x : get_elem? (set s.views id v) j ≡ some u). each_set s.views k.seat id k.losses k.losses v (λ i y f _. k.each i y f) (k.each id v at)
      j u x)
      (λ (x : eye xs ≡ u). subst (λ (y : View). Fits k.seat k.losses j y) x record { one = λ m. absurd cc; own = all; beside = none_in k.losses })
      (at_snoc (set s.views id v) (eye xs) u j e)

  pub begins_eye : (n id : ℕ) (v : View) → Splits (Kept {S = S} n) id v v (eye [])
  begins_eye n id v s k at = record {
    seat = k.seat;
    losses = k.losses;
    wide = k.wide;
    each = split_off n s k id v [] at (none_in k.losses);
    said = k.said;
    meant = k.meant;
  }

  pub shows : (n id : ℕ) (v : View) → Splits (Kept {S = S} n) id v v (eye v.own)
  shows n id v s k at = record {
    seat = k.seat;
    losses = k.losses;
    wide = k.wide;
    each = split_off n s k id v v.own at (k.each id v at).own;
    said = k.said;
    meant = k.meant;
  }

  pub takes : (n id : ℕ) (v : View) (other : ℕ) (w : View) → v.marks ≡ true → Joins (Kept {S = S} n) id v other w (marker v.own w.own) (eye [])
  takes n id v other w is s k at apart at' =
      let fit = k.each id v at in
      let theirs : get_elem? s.views other ≡ some w =
      ⊎_elim (λ (x : (other ≡ id) × (marker v.own w.own ≡ w)). absurd (apart x.0))
      (λ (x : (other ≢ id) × (get_elem? s.views other ≡ some w)). x.1) (at_set s.views id other (marker v.own w.own) w at') in
      record {
        seat = k.seat;
        losses = k.losses;
        wide = k.wide;
        each = each_set (set s.views id (marker v.own w.own)) k.seat other k.losses k.losses (eye [])
            (λ j u e _. each_set s.views k.seat id k.losses k.losses (marker v.own w.own) (λ i y f _. k.each i y f)
            record { one = λ _. fit.one is; own = fit.own; beside = (k.each other w theirs).own } j u e)
            record { one = λ m. absurd cc; own = none_in k.losses; beside = none_in k.losses };
        said = k.said;
        meant = k.meant;
      }

  pub opens : (words : List ℕ) → ((w : ℕ) → get_or words w 0 ≡ 0) → Kept {S = S} (length words) (opening words [] (marker [] []))
  opens words zeros = record {
    seat = 0;
    losses = [];
    wide = refl;
    each = λ j v e. let r = one_view (marker [] []) v j e in
        subst (λ (y : View). Fits 0 [] j y) r.1 record { one = λ _. (r.0, refl); own = λ l h. h; beside = λ l h. h };
    said = λ l h. absurd (some-ne-none l (sym h.1));
    meant = λ w pos. absurd (let z = zeros w in omega arith);
  }
