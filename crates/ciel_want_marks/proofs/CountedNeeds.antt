-- The needs of a node are looked at.
use Rattle.std.proofs.Common.{◌≡◌, ◌≤◌, ℕ, zero, suc, ◌<◌, List, [], ◌∷◌, length, length-set, Bool, true, false, refl, ap, sym, ◌∙◌, subst, arith}
use Rattle.std.proofs.Common.{◌⊎◌, inl, inr, Option, Some, None}
use Rattle.ciel_journal.specs.Graph.{Led, root, through}
use Rattle.ciel_journal.specs.Job.{In}
use Rattle.ciel_want_marks.specs.Lists.{at, entry, flag}
use Rattle.ciel_want_marks.specs.Marks.{Active, Counted, Justified, LacksIt, Listed, MarksSeen, Needs, Stands, is_live, net}
use Rattle.ciel_want_marks.specs.Moves.{AreDead, SameGraph, lacking, left_of, wants, wants_makers, wants_some}
use Rattle.ciel_want_marks.proofs.Slots.{at_here, at_other, flag_within, nat_cases, not_both}
use Rattle.ciel_want_marks.proofs.KeptMarks.{counted_still}
use Rattle.ciel_want_marks.proofs.WantedMakers.{Makers, makers_wanted, wants_is}

-- what is wanted changes nothing of the graph
pub makers_graph : (rows : List ℕ) (m : MarksSeen) → SameGraph m (wants_makers rows m)
makers_graph [] m = record { live = refl; makers = refl; out = refl }
makers_graph (x ∷ xs) m =
    let n = wants_makers xs m in
    let a = makers_graph xs m in
    let b = some n (entry n.makers x) in
    record { live = b.live ∙ a.live; makers = b.makers ∙ a.makers; out = b.out ∙ a.out }
  where
    one : (n : MarksSeen) (u : ℕ) (b : Bool) → flag n.wanted u ≡ b → SameGraph n (wants u n)
    one n u true e =
        subst (SameGraph n) (sym (wants_is u n true e)) (record { live = refl; makers = refl; out = refl })
    one n u false e =
        subst (SameGraph n) (sym (wants_is u n false e)) (record { live = refl; makers = refl; out = refl })

    some : (n : MarksSeen) (o : Option ℕ) → SameGraph n (wants_some o n)
    some n None = record { live = refl; makers = refl; out = refl }
    some n (Some u) = one n u (flag n.wanted u) refl

module _ (m : MarksSeen) (u : ℕ) (rows : List ℕ) (needs : Needs) (a : Active m u) (dead : AreDead needs m u rows)
    (s : Stands m needs (u ∷ []) []) where
  led : Led (net needs m.live m.makers m.out) u
  led = turn (s.justified u a.0)
    where
      turn : Justified m needs u → Led (net needs m.live m.makers m.out) u
      turn (inl l) = l
      turn (inr o) = not_both (flag m.out u) o.0 a.1

  led_maker : (r v : ℕ) → In r rows → entry m.makers r ≡ Some v → Led (net needs m.live m.makers m.out) v
  led_maker r v h e = let q = dead.only r h in through led a.1 (Some r) q.0 q.2 e

  -- with their makers wanted
  abbrev pub wider : MarksSeen
  wider = wants_makers rows m

  q : Makers needs (u ∷ []) [] rows m wider
  q = makers_wanted needs (u ∷ []) [] rows m s led_maker

  pub left_wider : left_of wider ≤ left_of m
  left_wider = q.wider.left

  long : u < length wider.lacks
  long =
      let l = flag_within m.wanted u a.0 in
      let x = s.shape.wanted in
      let y = s.shape.lacks in
      let e = ap length q.wider.lacks in
      omega (arith, l, x, y, e)

  some_maker : (r : ℕ) → In r rows → (v : ℕ) × (entry m.makers r ≡ Some v)
  some_maker r h = turn (entry m.makers r) refl
    where
      turn : (o : Option ℕ) → entry m.makers r ≡ o → (v : ℕ) × (entry m.makers r ≡ Some v)
      turn (Some v) e = (v, e)
      turn None e =
          let d = dead.only r h in
          not_both (flag m.live r) (s.filed.orphan r d.1 e).0 d.2

  pub counted_now : Counted (lacking wider u rows) needs (u ∷ []) u
  counted_now =
      record {
        known = λ d i. known d (dead.all d i);
        lacked = λ r h. (dead.only r (subst (In r) (at_here wider.lacks u rows long) h)).0;
        next = inr (inr (inl refl));
      }
    where
      known : (d : Option ℕ) → ((is_live m.live d ≡ true) ⊎ ((r : ℕ) × (d ≡ Some r) × In r rows)) → (is_live wider.live d ≡ true)
          ⊎ LacksIt (lacking wider u rows) u d
      known d (inl y) = inl (ap (λ fs. is_live fs d) q.wider.graph.live ∙ y)
      known d (inr x) =
          let v = some_maker x.0 x.2 in
          inr (
            x.0,
            v.0,
            x.1,
            subst (In x.0) (sym (at_here wider.lacks u rows long)) x.2,
            ap (λ es. entry es x.0) q.wider.graph.makers ∙ v.1,
            q.all x.0 v.0 x.2 v.1,
          )

  pub stands_now : Stands (lacking wider u rows) needs [] (u ∷ [])
  stands_now =
      record {
        shape = record {
          makers = q.stands.shape.makers;
          watchers = q.stands.shape.watchers;
          wanted = q.stands.shape.wanted;
          out = q.stands.shape.out;
          touched = q.stands.shape.touched;
          makes = q.stands.shape.makes;
          lacks = length-set wider.lacks u rows ∙ q.stands.shape.lacks;
          nodes = q.stands.shape.nodes;
        };
        filed = q.stands.filed;
        root = q.stands.root;
        justified = q.stands.justified;
        counted = λ w b. counted w (nat_cases w u) (q.stands.counted w b);
        ready = q.stands.ready;
      }
    where
      other : (w : ℕ) → (w ≡ u → ⊥) → at (lacking wider u rows).lacks w ≡ at wider.lacks w
      other w f = at_other wider.lacks u w rows f

      listed : (w : ℕ) → Listed wider w → Listed (lacking wider u rows) w
      listed zero l = tt
      listed (suc e) l = l

      counted : (w : ℕ) → ((w ≡ u) ⊎ (w ≡ u → ⊥)) → (Counted wider needs [] w ⊎ (In w wider.todo ⊎ In w (u ∷ [])))
          → Counted (lacking wider u rows) needs (u ∷ []) w ⊎ (In w wider.todo ⊎ In w [])
      counted w (inl e) o = inl (subst (Counted (lacking wider u rows) needs (u ∷ [])) (sym e) counted_now)
      counted w (inr f) (inl c) =
          inl (counted_still wider (lacking wider u rows) needs needs [] (u ∷ []) w refl (λ d y. y)
          (λ d x. inr (x.0, x.1, x.2, subst (In x.0) (sym (other w f)) x.3, x.4, x.5)) (other w f) (λ x. (other w f ∙ x.0, listed w x.1))
          (λ x. inl (x.0, subst (In x.0) (sym (other w f)) x.1, x.2, x.3)) (λ h. absurd h) c)
      counted w (inr f) (inr (inl h)) = inr (inl h)
      counted w (inr f) (inr (inr (inl e))) = absurd (f e)
      counted w (inr f) (inr (inr (inr h))) = absurd h

-- ---- as the calls leave the marks

module _ (m m1 m2 m3 : MarksSeen) (u : ℕ) (rows given : List ℕ) (wanted : m1 ≡ wants_makers given m) (same : given ≡ rows)
    (lacks : m2 ≡ lacking m1 u rows) where
  now : m2 ≡ lacking (wants_makers rows m) u rows
  now = lacks ∙ ap (λ x. lacking x u rows) (wanted ∙ ap (λ xs. wants_makers xs m) same)

  pub counts_same : SameGraph m2 m3 → SameGraph m m3
  counts_same g =
      let a = makers_graph rows m in
      record {
        live = g.live ∙ (ap (λ (x : MarksSeen). x.live) now ∙ a.live);
        makers = g.makers ∙ (ap (λ (x : MarksSeen). x.makers) now ∙ a.makers);
        out = g.out ∙ (ap (λ (x : MarksSeen). x.out) now ∙ a.out);
      }

  pub counts : left_of m3 ≡ left_of m2 → ((needs : Needs) (fresh late : List ℕ) → (Active m2 u → Counted m2 needs (u ∷ late) u)
      → Stands m2 needs fresh (u ∷ late) → Stands m3 needs fresh late) → (needs : Needs) → Active m u → AreDead needs m u rows
      → Stands m needs (u ∷ []) [] → Stands m3 needs [] [] × (left_of m3 ≤ left_of m)
  counts left go needs a dead s =
      let l = left_wider m u rows needs a dead s in
      let e : left_of m3 ≡ left_of (wants_makers rows m) = left ∙ ap left_of now in (
        go needs [] [] (λ b. subst (λ x. Counted x needs (u ∷ []) u) (sym now) (counted_now m u rows needs a dead s))
            (subst (λ x. Stands x needs [] (u ∷ [])) (sym now) (stands_now m u rows needs a dead s)),
        omega (arith, l, e),
      )
