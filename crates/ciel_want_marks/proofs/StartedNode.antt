-- A node that can run is out.
use Rattle.std.proofs.Common.{◌≡◌, ℕ, zero, suc, ◌<◌, List, [], ◌∷◌, length, length-set, true, false, set, slice_get, refl, ap, sym, ◌∙◌, subst}
use Rattle.std.proofs.Common.{arith, ◌⊎◌, inl, inr, Option, Some, None, Bool, not, ◌&&◌, ◌↔◌}
use Rattle.ciel_journal.specs.Graph.{Led, root, through}
use Rattle.ciel_journal.specs.Job.{In}
use Rattle.ciel_want_marks.specs.Lists.{at, flag}
use Rattle.ciel_want_marks.specs.Marks.{Active, Justified, LacksIt, Least, Listed, MarksSeen, Needs, Ready, Right, Stands, is_live, net}
use Rattle.ciel_want_marks.specs.Moves.{CanGoOut, CanRun, HasNot, UnlistedAt, is_none}
use Rattle.ciel_want_marks.proofs.Slots.{flag_here, flag_kept, flag_other, flag_within, not_both}
use Rattle.ciel_want_marks.proofs.KeptMarks.{all_counted, counted_still, least_in}

-- ---- which nodes can run

pub root_can_run : (out : Bool) (lacks : List ℕ) → (not out && is_none lacks ≡ true) ↔ ((out ≡ false) × (lacks ≡ []))
root_can_run true lacks = (λ e. cc, λ q. let e = q.0 in cc)
root_can_run false [] = (λ e. (refl, refl), λ q. refl)
root_can_run false (x ∷ xs) = (λ e. cc, λ q. let e = q.1 in cc)

pub root_can_go_out : (m : MarksSeen) (u : ℕ) (b : Bool) → u ≡ 0 → b ≡ not (flag m.out 0) && is_none (at m.lacks 0) → (b ≡ true) ↔ CanGoOut u m
root_can_go_out m zero b z e =
    let q = root_can_run (flag m.out 0) (at m.lacks 0) in (λ t. q.0 (sym e ∙ t), λ c. e ∙ q.1 c)
root_can_go_out m (suc v) b z e = cc

pub node_can_run : (m : MarksSeen) (u r : ℕ) → (u ≡ 0 → ⊥) → Least m.makes u r → CanRun m u ↔ In r m.list
node_can_run m zero r f l = absurd (f refl)
node_can_run m (suc v) r f l = (λ c. subst (λ x. In x m.list) (same c.0 c.1) c.2, λ h. (r, l, h))
  where
    same : (x : ℕ) → Least m.makes (suc v) x → x ≡ r
    same x k = let p : Some x ≡ Some r = sym k ∙ l in cc

pub makes_none : (m : MarksSeen) (u : ℕ) → (u ≡ 0 → ⊥) → slice_get (at m.makes u) 0 ≡ None → CanRun m u → ⊥
makes_none m zero f e c = f refl
makes_none m (suc v) f e c = let p : None ≡ Some c.0 = sym e ∙ c.1 in cc

-- ---- one that can run is out

module _ (m : MarksSeen) (u : ℕ) (list : List ℕ) where
  -- it is out, and the list is this one
  abbrev pub begun : MarksSeen
  begun = record m { out = set m.out u true; list = list }

  module _ (needs : Needs) (right : Right m needs) (off : flag m.out u ≡ false) (can : CanRun m u)
      (k : HasNot (slice_get (at m.makes u) 0) m.list list) where
    s : Stands m needs [] []
    s = right.0

    made_one : (r x y : ℕ) → In r (at m.makes x) → In r (at m.makes y) → x ≡ y
    made_one r x y a b =
        let p : Some x ≡ Some y = sym (s.filed.made r x a).1 ∙ (s.filed.made r y b).1 in
        cc

    -- all that it waits for is live
    met : (Active m u) × ((d : Option ℕ) → In d (needs u) → is_live m.live d ≡ true)
    met = turn u refl can
      where
        kept : Active m u → at m.lacks u ≡ [] → (d : Option ℕ) → In d (needs u) → is_live m.live d ≡ true
        kept a e d i = turn ((all_counted m needs right u a).known d i)
          where
            turn : ((is_live m.live d ≡ true) ⊎ LacksIt m u d) → is_live m.live d ≡ true
            turn (inl y) = y
            turn (inr q) = absurd (subst (In q.0) e q.3)

        turn : (x : ℕ) → x ≡ u → CanRun m x → (Active m u) × ((d : Option ℕ) → In d (needs u) → is_live m.live d ≡ true)
        turn zero e c =
            let a : Active m u = (subst (λ x. flag m.wanted x ≡ true) e s.root, off) in
            (a, kept a (ap (at m.lacks) (sym e) ∙ c))
        turn (suc x) e c =
            let q = s.ready c.0 c.2 in
            let p : q.0 ≡ u = made_one c.0 q.0 (suc x) (least_in m needs (at m.makes q.0) c.0 q.2) (least_in m needs (at m.makes (suc x)) c.0 c.1)
            ∙ e in
            subst (λ x. (Active m x) × ((d : Option ℕ) → In d (needs x) → is_live m.live d ≡ true)) p (q.1, q.3)

    long : u < length m.out
    long =
        let l = flag_within m.wanted u met.0.0 in
        let a = s.shape.wanted in
        let b = s.shape.out in
        omega (arith, l, a, b)

    out_now : flag begun.out u ≡ true
    out_now = flag_here m.out u true long

    -- one that is wanted and not out now was so before, and is another one
    was : (w : ℕ) → Active begun w → (w ≡ u → ⊥) × Active m w
    was w a =
        let f : w ≡ u → ⊥ = λ e. not_both (flag begun.out w) (subst (λ x. flag begun.out x ≡ true) (sym e) out_now) a.1 in
        (f, (a.0, sym (flag_other m.out u w true f) ∙ a.1))

    is : (w : ℕ) → (w ≡ u → ⊥) → Active m w → Active begun w
    is w f a = (a.0, flag_other m.out u w true f ∙ a.1)

    -- nothing is reached through it
    led : (w : ℕ) → Led (net needs m.live m.makers m.out) w → Led (net needs m.live m.makers begun.out) w
    led w (root) = root
    led w (through {t = x} l o d i v z) = through (led x l) (flag_other m.out u x true other ∙ o) d i v z
      where
        other : x ≡ u → ⊥
        other e = not_both (is_live m.live d) (met.1 d (subst (λ y. In d (needs y)) e i)) v

    justified : (w : ℕ) → Justified m needs w → Justified begun needs w
    justified w (inl l) = inl (led w l)
    justified w (inr o) = inr (flag_kept m.out u w o.0, o.1)

    -- another one is listed still
    in_list : (o : Option ℕ) → slice_get (at m.makes u) 0 ≡ o → HasNot o m.list list → (y w : ℕ) → (w ≡ u → ⊥) → Least m.makes w y → In y m.list
        → In y list
    in_list None e z y w f l h = subst (In y) (sym z) h
    in_list (Some r) e z y w f l h =
        (z y).1 (
          h,
          λ p. f (made_one y w u (least_in m needs (at m.makes w) y l)
              (subst (λ x. In x (at m.makes u)) (sym p) (least_in m needs (at m.makes u) r e))),
        )

    listed : (w : ℕ) → (w ≡ u → ⊥) → Listed m w → Listed begun w
    listed zero f l = tt
    listed (suc e) f l = (l.0, l.1, in_list (slice_get (at m.makes u) 0) refl k l.0 (suc e) f l.1 l.2)

    out_list : (o : Option ℕ) → slice_get (at m.makes u) 0 ≡ o → HasNot o m.list list → (y : ℕ) → In y list → In y m.list × (Least m.makes u y → ⊥)
    out_list None e z y h = (subst (In y) z h, λ l. let p : None ≡ Some y = sym e ∙ l in cc)
    out_list (Some r) e z y h =
        (((z y).0 h).0, λ l. let p : Some r ≡ Some y = sym e ∙ l in let q : y ≡ r = cc in ((z y).0 h).1 q)

    ready : (y : ℕ) → In y list → Ready begun needs y
    ready y h =
        let q = out_list (slice_get (at m.makes u) 0) refl k y h in
        let r = s.ready y q.0 in
        (r.0, is r.0 (λ e. q.1 (subst (λ x. Least m.makes x y) e r.2)) r.1, r.2, r.3)

    pub starts_right : Right begun needs
    starts_right = (
      record {
        shape = record {
          makers = s.shape.makers;
          watchers = s.shape.watchers;
          wanted = s.shape.wanted;
          out = length-set m.out u true ∙ s.shape.out;
          touched = s.shape.touched;
          makes = s.shape.makes;
          lacks = s.shape.lacks;
          nodes = s.shape.nodes;
        };
        filed = s.filed;
        root = s.root;
        justified = λ w h. justified w (s.justified w h);
        counted = λ w a. let q = was w a in
            inl (counted_still m begun needs needs [] [] w refl (λ d y. y) (λ d x. inr x) refl (λ x. (x.0, listed w q.0 x.1)) (λ x. inl x)
            (λ x. x) (all_counted m needs right w q.1));
        ready = ready;
      },
      right.1,
    )

-- ---- as the calls leave the marks

pub starts : (m n p : MarksSeen) (u : ℕ) → n ≡ record m { out = set m.out u true } → UnlistedAt n p u → (flag m.out u ≡ false) × CanRun m u
    → (needs : Needs) → Right m needs → Right p needs
starts m n p u e q can needs r =
    let z : p ≡ begun m u q.0 = q.1 ∙ ap (λ (x : MarksSeen). record x { list = q.0 }) e in
    subst (λ x. Right x needs) (sym z) (starts_right m u q.0 needs r can.0 can.1
    (subst (λ (x : MarksSeen). HasNot (slice_get (at x.makes u) 0) x.list q.0) e q.2))
