-- A row becomes live.
use Rattle.std.proofs.Common.{◌≡◌, ◌≤◌, ℕ, zero, suc, List, [], ◌∷◌, ◌++◌, length-set, true, false, refl, ap, sym, ◌∙◌, subst, arith, ◌⊎◌, inl, inr}
use Rattle.std.proofs.Common.{Option, Some, None}
use Rattle.ciel_journal.specs.Graph.{Led, root, through}
use Rattle.ciel_journal.specs.Job.{In}
use Rattle.ciel_journal.proofs.Members.{bool_cases}
use Rattle.ciel_want_marks.specs.Lists.{at, entry, flag}
use Rattle.ciel_want_marks.specs.Marks.{Active, Counted, Filed, Justified, Listed, MarksSeen, Needs, Right, Stands, Watches, is_live, maker, net}
use Rattle.ciel_want_marks.specs.Moves.{NotPlaced, Placed, SameGraph, made_live}
use Rattle.ciel_want_marks.proofs.Slots.{at_other, flag_here, flag_kept, flag_other, in_push, nat_cases}
use Rattle.ciel_want_marks.proofs.KeptMarks.{all_counted, counted_still, led_wanted, stands_late}

module _ (m : MarksSeen) (r v : ℕ) where
  abbrev pub placed : MarksSeen
  placed = made_live r v m

  module _ (needs : Needs) (right : Right m needs) (dead : flag m.live r ≡ false) (by : entry m.makers r ≡ Some v) (idle : Active m v → ⊥) where
    s : Stands m needs [] []
    s = right.0

    live_more : (d : Option ℕ) → is_live m.live d ≡ true → is_live placed.live d ≡ true
    live_more None y = y
    live_more (Some x) y = flag_kept m.live r x y

    touched_now : flag placed.touched v ≡ true
    touched_now =
        let n = s.shape.nodes r v by in
        let a = n.1 in
        let b = s.shape.touched in
        flag_here m.touched v true (omega (arith, a, b))

    -- what was reached is so still, but for the maker
    led : (w : ℕ) → Led (net needs m.live m.makers m.out) w → (w ≡ v) ⊎ Led (net needs placed.live m.makers m.out) w
    led w (root) = inr root
    led w (through {t = x} l o d i f k) = turn (led x l)
      where
        row : (e : Option ℕ) → d ≡ e → Led (net needs placed.live m.makers m.out) x → (w ≡ v) ⊎ Led (net needs placed.live m.makers m.out) w
        row None e p = let z : None ≡ Some w = ap (maker m.makers) (sym e) ∙ k in cc
        row (Some y) e p = pick (nat_cases y r)
          where
            pick : ((y ≡ r) ⊎ (y ≡ r → ⊥)) → (w ≡ v) ⊎ Led (net needs placed.live m.makers m.out) w
            pick (inl q) =
                let z : Some w ≡ Some v = sym k ∙ (ap (maker m.makers) (e ∙ ap (λ n. Some n) q) ∙ by) in
                let p : w ≡ v = cc in
                inl p
            pick (inr g) =
                inr (through p o d i (ap (is_live placed.live) e ∙ (flag_other m.live r y true g ∙ (ap (is_live m.live) (sym e) ∙ f))) k)

        turn : ((x ≡ v) ⊎ Led (net needs placed.live m.makers m.out) x) → (w ≡ v) ⊎ Led (net needs placed.live m.makers m.out) w
        turn (inl e) =
            absurd (idle (subst (Active m) e (led_wanted m needs right x l, o)))
        turn (inr p) = row d refl p

    justified : (w : ℕ) → flag m.wanted w ≡ true → Justified m needs w → Justified placed needs w
    justified w h (inr o) = inr (o.0, flag_kept m.touched v w o.1)
    justified w h (inl l) = turn (led w l)
      where
        out_now : ((flag m.out v ≡ true) ⊎ (flag m.out v ≡ false)) → w ≡ v → flag m.out v ≡ true
        out_now (inl o) e = o
        out_now (inr o) e = absurd (idle (subst (λ x. flag m.wanted x ≡ true) e h, o))

        turn : ((w ≡ v) ⊎ Led (net needs placed.live m.makers m.out) w) → Justified placed needs w
        turn (inl e) =
            inr (subst (λ x. (flag m.out x ≡ true) × (flag placed.touched x ≡ true)) (sym e) (out_now (bool_cases (flag m.out v)) e, touched_now))
        turn (inr p) = inl p

    listed : (w : ℕ) → Listed m w → Listed placed w
    listed zero l = tt
    listed (suc e) l = l

    watches : (w : ℕ) → Watches m w → Watches placed w ⊎ In w (at m.watchers r)
    watches w x = turn (nat_cases x.0 r)
      where
        turn : ((x.0 ≡ r) ⊎ (x.0 ≡ r → ⊥)) → Watches placed w ⊎ In w (at m.watchers r)
        turn (inl e) = inr (subst (λ y. In w (at m.watchers y)) e x.3)
        turn (inr f) =
            inl (x.0, x.1, flag_other m.live r x.0 true f ∙ x.2, subst (In w) (sym (at_other m.watchers r x.0 [] f)) x.3)

    pub placed_stands : Stands placed needs [] (at m.watchers r)
    placed_stands =
        record {
          shape = record {
            makers = s.shape.makers ∙ sym (length-set m.live r true);
            watchers = length-set m.watchers r [] ∙ (s.shape.watchers ∙ sym (length-set m.live r true));
            wanted = s.shape.wanted ∙ ap suc (sym (length-set m.live r true));
            out = s.shape.out ∙ ap suc (sym (length-set m.live r true));
            touched = length-set m.touched v true ∙ (s.shape.touched ∙ ap suc (sym (length-set m.live r true)));
            makes = s.shape.makes ∙ ap suc (sym (length-set m.live r true));
            lacks = s.shape.lacks ∙ ap suc (sym (length-set m.live r true));
            nodes = λ x u e. let q = s.shape.nodes x u e in
                (q.0, subst (λ n. u ≤ n) (sym (length-set m.live r true)) q.1);
          };
          filed = subst (λ n. Filed n placed.live m.makers m.makes m.orphans) (sym (length-set m.live r true)) (record {
            makes_it = s.filed.makes_it;
            made = s.filed.made;
            least = s.filed.least;
            orphan = λ x l e. let q = s.filed.orphan x l e in (flag_kept m.live r x q.0, q.1);
          });
          root = s.root;
          justified = λ w h. justified w h (s.justified w h);
          counted = λ w a. inl (counted_still m placed needs needs [] (at m.watchers r) w refl live_more (λ d x. inr x) refl
              (λ x. (x.0, listed w x.1)) (watches w) (λ h. absurd h) (all_counted m needs right w a));
          ready = λ x h. let q = s.ready x h in (q.0, q.1, q.2, λ d i. live_more d (q.3 d i));
        }

-- ---- those that waited for it go on

module _ (m n : MarksSeen) (u : ℕ) (waiting rest : List ℕ) (last : waiting ≡ rest ++ u ∷ []) (needs : Needs) (none : m.todo ≡ []) where
  pub goes_next : ((needs : Needs) (fresh late : List ℕ) → (Active m u → Counted m needs (u ∷ late) u) → Stands m needs fresh (u ∷ late)
      → Stands n needs fresh late) → Stands m needs [] waiting → Stands n needs [] rest
  goes_next go s = go needs [] rest (λ a. counted (t.counted u a)) t
    where
      is_late : (w : ℕ) → (In w rest ⊎ (w ≡ u)) → In w (u ∷ rest)
      is_late w (inl h) = inr h
      is_late w (inr e) = inl e

      t : Stands m needs [] (u ∷ rest)
      t = stands_late m needs [] waiting (u ∷ rest) (λ w h. is_late w (in_push rest u w (subst (In w) last h))) s

      counted : (Counted m needs (u ∷ rest) u ⊎ (In u m.todo ⊎ In u [])) → Counted m needs (u ∷ rest) u
      counted (inl c) = c
      counted (inr (inl h)) = absurd (subst (In u) none h)
      counted (inr (inr h)) = absurd h

-- what goes on leaves the graph
pub placed_more : (l m n : MarksSeen) (r : ℕ) → Placed r l m → SameGraph m n → Placed r l n
placed_more l m n r p g =
    record { live = g.live ∙ p.live; makers = g.makers ∙ p.makers; out = g.out ∙ p.out }

-- a row is placed where the node that makes it isn't wanted, or is out
pub placed_why : (m : MarksSeen) (r v : ℕ) → entry m.makers r ≡ Some v → (Active m v → ⊥) → NotPlaced r m → ⊥
placed_why m r v e f (inl n) = let p : Some v ≡ None = sym e ∙ n in cc
placed_why m r v e f (inr q) =
    let p : Some q.0 ≡ Some v = sym q.1 ∙ e in
    let s : q.0 ≡ v = cc in
    f (subst (Active m) s q.2)
