-- A node goes on, as the calls leave the marks.
use Rattle.std.proofs.Common.{◌≡◌, ℕ, List, ◌∷◌, true, false, not, ◌&&◌, ◌⊎◌, inl, inr, ap, sym, ◌∙◌, subst, refl, slice_get, Some, None}
use Rattle.ciel_journal.specs.Job.{In}
use Rattle.ciel_want_marks.specs.Lists.{at, flag}
use Rattle.ciel_want_marks.specs.Marks.{Active, Counted, MarksSeen, Needs, Stands}
use Rattle.ciel_want_marks.specs.Moves.{HasSome, ListedAt, SettledAt, watched}
use Rattle.ciel_want_marks.proofs.Slots.{both_true, not_true}
use Rattle.ciel_want_marks.proofs.KeptMarks.{counted_still, go_listed, go_watching, lacking_listed, lacking_watching}

pub is_active : (m : MarksSeen) (u : ℕ) → flag m.wanted u && not (flag m.out u) ≡ true → Active m u
is_active m u e =
    let q = both_true (flag m.wanted u) (not (flag m.out u)) e in (q.0, not_true (flag m.out u) q.1)

pub not_active : (m : MarksSeen) (u : ℕ) → flag m.wanted u && not (flag m.out u) ≡ false → Active m u → ⊥
not_active m u e a =
    let t : flag m.wanted u && not (flag m.out u) ≡ true = ap (λ b. b && not (flag m.out u)) a.0 ∙ ap (λ b. true && not b) a.1 in
    let x : true ≡ false = sym t ∙ e in
    cc

module _ (m n p : MarksSeen) (u : ℕ) (needs : Needs) (fresh late : List ℕ) (counted : Active m u → Counted m needs (u ∷ late) u)
    (s : Stands m needs fresh (u ∷ late)) (a : Active m u) where
  pub goes_listed : SettledAt m n u None → ListedAt n p u → Stands p needs fresh late
  goes_listed q l =
      let e : p ≡ lacking_listed m u q.0 l.0 = l.1 ∙ ap (λ (x : MarksSeen). record x { list = l.0 }) q.1 in
      let k : HasSome (slice_get (at m.makes u) 0) m.list l.0 = subst (λ (x : MarksSeen). HasSome (slice_get (at x.makes u) 0) x.list l.0) q.1 l.2 in
      subst (λ x. Stands x needs fresh late) (sym e) (go_listed m u q.0 needs fresh late a s (counted a) l.0 q.2 k)

  pub goes_watching : (r : ℕ) → SettledAt m n u (Some r) → p ≡ watched r u n → Stands p needs fresh late
  goes_watching r q l =
      let e : p ≡ lacking_watching m u q.0 r = l ∙ ap (watched r u) q.1 in
      subst (λ x. Stands x needs fresh late) (sym e) (go_watching m u q.0 needs fresh late a s (counted a) r q.2)

-- one that isn't wanted, or is out, isn't late
pub goes_not : (m : MarksSeen) (u : ℕ) (needs : Needs) (fresh late : List ℕ) → (Active m u → ⊥) → Stands m needs fresh (u ∷ late)
    → Stands m needs fresh late
goes_not m u needs fresh late f s =
    record {
      shape = s.shape;
      filed = s.filed;
      root = s.root;
      justified = s.justified;
      counted = λ w a. turn w a (s.counted w a);
      ready = s.ready;
    }
  where
    other : (w : ℕ) → Active m w → In w (u ∷ late) → In w late
    other w a (inl e) = absurd (f (subst (Active m) e a))
    other w a (inr h) = h

    turn : (w : ℕ) → Active m w → (Counted m needs (u ∷ late) w ⊎ (In w m.todo ⊎ In w fresh)) → Counted m needs late w ⊎ (In w m.todo ⊎ In w fresh)
    turn w a (inl c) =
        inl (counted_still m m needs needs (u ∷ late) late w refl (λ d y. y) (λ d q. inr q) refl (λ q. q) (λ x. inl x) (other w a) c)
    turn w a (inr h) = inr h
