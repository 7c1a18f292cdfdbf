-- How a story grows: loss by loss, and record by record.
use Rattle.std.proofs.Common.{◌≡◌, ◌≤◌, ◌<◌, ◌+◌, ℕ, zero, suc, List, [], ◌∷◌, ◌++◌, Bool, true, false, cond, refl, ap, sym, ◌∙◌, subst, arith}
use Rattle.std.proofs.Common.{append_assoc, append-nil, nat_eq, ◌||◌, Some, slice_get}
use Rattle.std.specs.List.{list_any}
use Rattle.std.proofs.lemmas.List.Folds.{list_any-append}
use Rattle.std.proofs.lemmas.Bool.{eq-eqb}
use Rattle.sky_base_law.specs.Tasks.{Each}
use Rattle.ciel_journal.specs.Turns.{FirstDue}
use Rattle.ciel_log_read.specs.File.{RecordAt}
use Rattle.ciel_log_read.specs.Recorded.{IsRecord, Recorded}
use Rattle.ciel_look_story.specs.Inside.{Goes, left}
use Rattle.ciel_look_story.specs.Story.{Rests, Stand, StandUpTo, Story, after, lose, tell}
use Rattle.ciel_look_told.specs.Told as told
use Rattle.ciel_look_told.specs.Told.{Told}

module _ (planned : List (ℕ × ℕ)) where
  -- ---- what was told so far

  pub goes_none : (v : Stand) (before : List Told) → Goes planned v [] before before v
  goes_none v before = record { told = []; grew = sym (append-nil before); path = λ more then s. s }

  pub goes_loss : {v w : Stand} {rs : List Recorded} {before mid : List Told} → Goes planned v rs before mid w
      → (loss worker : ℕ) → w.over ≡ false → FirstDue planned w.closes w.gone loss worker
      → Goes planned v rs before (mid ++ told.lost worker w.closes ∷ []) (lose w worker)
  goes_loss {v} {w} {rs} {before} {mid} g loss worker o d =
      let one : Told = told.lost worker w.closes in
      record {
        told = g.told ++ one ∷ [];
        grew = ap (λ ts. ts ++ one ∷ []) g.grew ∙ append_assoc before g.told (one ∷ []);
        path = λ more then s. subst (Story planned v (rs ++ more)) (sym (append_assoc g.told (one ∷ []) then))
            (g.path more (one ∷ then) (Story.loses loss worker o d s));
      }

  pub goes_record : {v w : Stand} {rs : List Recorded} {before mid : List Told} → Goes planned v rs before mid w
      → (r : Recorded) → Rests planned w → Goes planned v (rs ++ r ∷ []) before (mid ++ tell w r ∷ []) (after w r)
  goes_record {v} {w} {rs} {before} {mid} g r rests =
      let one : Told = tell w r in
      record {
        told = g.told ++ one ∷ [];
        grew = ap (λ ts. ts ++ one ∷ []) g.grew ∙ append_assoc before g.told (one ∷ []);
        path = λ more then s. subst (λ xs. Story planned v xs ((g.told ++ one ∷ []) ++ then)) (sym (append_assoc rs (r ∷ []) more))
            (subst (Story planned v (rs ++ (r ∷ more))) (sym (append_assoc g.told (one ∷ []) then))
            (g.path (r ∷ more) (one ∷ then) (Story.tells r rests s)));
      }

  -- one telling behind another
  pub goes_on : {u v w : Stand} {rs qs : List Recorded} {a b c : List Told} → Goes planned u rs a b v → Goes planned v qs b c w
      → Goes planned u (rs ++ qs) a c w
  goes_on {u} {v} {w} {rs} {qs} {a} {b} {c} g h =
      record {
        told = g.told ++ h.told;
        grew = h.grew ∙ ap (λ ts. ts ++ h.told) g.grew ∙ append_assoc a g.told h.told;
        path = λ more then s. subst (λ xs. Story planned u xs ((g.told ++ h.told) ++ then)) (sym (append_assoc rs qs more))
            (subst (Story planned u (rs ++ (qs ++ more))) (sym (append_assoc g.told h.told then))
            (g.path (qs ++ more) (h.told ++ then) (h.path more then s)));
      }

  -- where nothing more comes, it is a story
  pub goes_all : {v w : Stand} {rs : List Recorded} {ts : List Told} → Goes planned v rs [] ts w → Rests planned w → Story planned v rs ts
  goes_all {v} {w} {rs} {ts} g rests =
      subst (λ xs. Story planned v xs ts) (append-nil rs)
      (subst (Story planned v (rs ++ [])) (append-nil g.told ∙ sym g.grew) (g.path [] [] (Story.ends rests)))

-- ---- a loss less is left

step_le : (a b : Bool) (m n : ℕ) → (a ≡ true → b ≡ true) → m ≤ n → cond b m (m + 1) ≤ cond a n (n + 1)
step_le true true m n h l = l
step_le true false m n h l = let e : false ≡ true = h refl in absurd cc
step_le false true m n h l = omega arith
step_le false false m n h l = omega arith

step_lt : (a b : Bool) (m n : ℕ) → (a ≡ true → b ≡ true) → m < n → cond b m (m + 1) < cond a n (n + 1)
step_lt true true m n h l = l
step_lt true false m n h l = let e : false ≡ true = h refl in absurd cc
step_lt false true m n h l = omega arith
step_lt false false m n h l = omega arith

step_here : (a b : Bool) (m n : ℕ) → a ≡ false → b ≡ true → m ≤ n → cond b m (m + 1) < cond a n (n + 1)
step_here true b m n h g l = absurd cc
step_here false false m n h g l = absurd cc
step_here false true m n h g l = omega arith

or_left : (a b : Bool) → a ≡ true → (a || b) ≡ true
or_left true b h = refl
or_left false b h = absurd cc

or_right : (a b : Bool) → b ≡ true → (a || (b || false)) ≡ true
or_right true b h = refl
or_right false true h = refl
or_right false false h = absurd cc

stays : (gone : List ℕ) (w u : ℕ) → list_any (nat_eq u) gone ≡ true → list_any (nat_eq u) (gone ++ w ∷ []) ≡ true
stays gone w u h = list_any-append (nat_eq u) gone (w ∷ []) ∙ or_left (list_any (nat_eq u) gone) (list_any (nat_eq u) (w ∷ [])) h

comes : (gone : List ℕ) (w : ℕ) → list_any (nat_eq w) (gone ++ w ∷ []) ≡ true
comes gone w =
    list_any-append (nat_eq w) gone (w ∷ []) ∙ or_right (list_any (nat_eq w) gone) (nat_eq w w) (eq-eqb w w refl)

left_le : (xs : List (ℕ × ℕ)) (gone : List ℕ) (w : ℕ) → left xs (gone ++ w ∷ []) ≤ left xs gone
left_le [] gone w = omega arith
left_le (x ∷ xs) gone w =
    step_le (list_any (nat_eq x.1) gone) (list_any (nat_eq x.1) (gone ++ w ∷ [])) (left xs (gone ++ w ∷ [])) (left xs gone)
    (stays gone w x.1) (left_le xs gone w)

pub left_less : (xs : List (ℕ × ℕ)) (gone : List ℕ) (loss count w : ℕ) → slice_get xs loss ≡ Some (count, w) → list_any (nat_eq w) gone ≡ false
    → left xs (gone ++ w ∷ []) < left xs gone
left_less [] gone loss count w e h = absurd cc
left_less (x ∷ xs) gone zero count w e h =
    let same : x ≡ (count, w) = cc in
    let worker : x.1 ≡ w = ap (λ y. y.1) same in
    step_here (list_any (nat_eq x.1) gone) (list_any (nat_eq x.1) (gone ++ w ∷ [])) (left xs (gone ++ w ∷ [])) (left xs gone)
    (ap (λ u. list_any (nat_eq u) gone) worker ∙ h) (ap (λ u. list_any (nat_eq u) (gone ++ w ∷ [])) worker ∙ comes gone w) (left_le xs gone w)
left_less (x ∷ xs) gone (suc loss) count w e h =
    step_lt (list_any (nat_eq x.1) gone) (list_any (nat_eq x.1) (gone ++ w ∷ [])) (left xs (gone ++ w ∷ [])) (left xs gone)
    (stays gone w x.1) (left_less xs gone loss count w e h)

-- ---- one record more stands there

pub stand_more : (log : List ℕ) (at : ℕ) (bs : List (List ℕ)) (end : ℕ) (bytes : List ℕ) (next : ℕ) → StandUpTo log at bs end
    → RecordAt log end bytes next → StandUpTo log at (bs ++ bytes ∷ []) next
stand_more log at [] end bytes next e r = (next, subst (λ a. RecordAt log a bytes next) (sym e) r, refl)
stand_more log at (b ∷ bs) end bytes next s r = (s.0, s.1, stand_more log s.0 bs end bytes next s.2 r)

pub each_more : (rs : List Recorded) (r : Recorded) → Each IsRecord rs → IsRecord r → Each IsRecord (rs ++ r ∷ [])
each_more [] r h p = (p, tt)
each_more (q ∷ rs) r h p = (h.0, each_more rs r h.1 p)
