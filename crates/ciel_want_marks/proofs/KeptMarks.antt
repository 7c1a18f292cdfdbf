-- What the changes of marks keep.
use Rattle.std.proofs.Common.{◌≡◌, ℕ, zero, suc, ◌<◌, List, [], ◌∷◌, ◌++◌, length, length-set, true, false, set, slice_get, refl, ap, sym, ◌∙◌, subst}
use Rattle.std.proofs.Common.{arith, ◌⊎◌, inl, inr, Option, Some, None}
use Rattle.ciel_journal.specs.Graph.{Led, root, through}
use Rattle.ciel_journal.specs.Job.{In}
use Rattle.ciel_want_marks.specs.Lists.{Settled, at, entry, flag}
use Rattle.ciel_want_marks.specs.Marks.{Active, Counted, Justified, LacksIt, Listed, MarksSeen, Needs, Ready, Right, Stands, Watches, is_live, maker, net}
use Rattle.ciel_want_marks.specs.Moves.{HasSome, lacking}
use Rattle.ciel_want_marks.proofs.Slots.{at_here, at_other, at_pushed, entry_within, flag_within, in_last, nat_cases, not_both}

module _ (m : MarksSeen) (needs : Needs) where
  -- where the marks are right, the needs of each node that is wanted and not out were looked at
  pub all_counted : Right m needs → (u : ℕ) → Active m u → Counted m needs [] u
  all_counted r u a = turn (r.0.counted u a)
    where
      turn : (Counted m needs [] u ⊎ (In u m.todo ⊎ In u [])) → Counted m needs [] u
      turn (inl c) = c
      turn (inr (inl h)) = absurd (subst (In u) r.1 h)
      turn (inr (inr h)) = absurd h

  -- and each reached node is wanted
  pub led_wanted : Right m needs → (u : ℕ) → Led (net needs m.live m.makers m.out) u → flag m.wanted u ≡ true
  led_wanted r u (root) = r.0.root
  led_wanted r u (through {t = x} l o d i v k) =
      turn ((all_counted r x (led_wanted r x l, o)).known d i)
    where
      turn : ((is_live m.live d ≡ true) ⊎ LacksIt m x d) → flag m.wanted u ≡ true
      turn (inl y) = not_both (is_live m.live d) y v
      turn (inr q) =
          let same : Some q.1 ≡ Some u = sym q.4 ∙ (ap (maker m.makers) (sym q.2) ∙ k) in
          let s : q.1 ≡ u = cc in
          subst (λ x. flag m.wanted x ≡ true) s q.5

  -- a row that is lacked and isn't live has a maker
  pub lack_made : (late : List ℕ) (u r : ℕ) → Counted m needs late u → In r (at m.lacks u) → flag m.live r ≡ false → (v : ℕ)
      × (entry m.makers r ≡ Some v)
  lack_made late u r c h f = turn (c.known (Some r) (c.lacked r h))
    where
      turn : ((is_live m.live (Some r) ≡ true) ⊎ LacksIt m u (Some r)) → (v : ℕ) × (entry m.makers r ≡ Some v)
      turn (inl y) = not_both (flag m.live r) y f
      turn (inr q) =
          let s : q.0 ≡ r = let t = q.2 in cc in
          (q.1, subst (λ x. entry m.makers x ≡ Some q.1) s q.4)

  -- the least row of a node is one that it makes
  pub least_in : (us : List ℕ) (r : ℕ) → slice_get us 0 ≡ Some r → In r us
  least_in [] r h = cc
  least_in (x ∷ xs) r h = let s : x ≡ r = cc in inl (sym s)

-- what was counted stays so where it lacks the same
pub counted_still : (m n : MarksSeen) (before after : Needs) (late later : List ℕ) (u : ℕ) → after u ≡ before u
    → ((d : Option ℕ) → is_live m.live d ≡ true → is_live n.live d ≡ true)
    → ((d : Option ℕ) → LacksIt m u d → (is_live n.live d ≡ true) ⊎ LacksIt n u d) → at n.lacks u ≡ at m.lacks u
    → (((at m.lacks u ≡ []) × Listed m u) → ((at n.lacks u ≡ []) × Listed n u)) → (Watches m u → Watches n u ⊎ In u later)
    → (In u late → In u later) → Counted m before late u → Counted n after later u
counted_still m n before after late later u e live lack same listed watches is_late c =
    record {
      known = λ d i. known d (c.known d (subst (In d) e i));
      lacked = λ r h. subst (In (Some r)) (sym e) (c.lacked r (subst (In r) same h));
      next = next c.next;
    }
  where
    known : (d : Option ℕ) → ((is_live m.live d ≡ true) ⊎ LacksIt m u d) → (is_live n.live d ≡ true) ⊎ LacksIt n u d
    known d (inl y) = inl (live d y)
    known d (inr q) = lack d q

    next : (((at m.lacks u ≡ []) × Listed m u) ⊎ (Watches m u ⊎ In u late)) → ((at n.lacks u ≡ []) × Listed n u) ⊎ (Watches n u ⊎ In u later)
    next (inl q) = inl (listed q)
    next (inr (inl w)) = inr (watches w)
    next (inr (inr h)) = inr (inr (is_late h))

-- the late ones may be more
pub stands_late : (m : MarksSeen) (needs : Needs) (fresh late later : List ℕ) → ((u : ℕ) → In u late → In u later) → Stands m needs fresh late
    → Stands m needs fresh later
stands_late m needs fresh late later f s =
    record {
      shape = s.shape;
      filed = s.filed;
      root = s.root;
      justified = s.justified;
      counted = λ u a. turn u (s.counted u a);
      ready = s.ready;
    }
  where
    turn : (u : ℕ) → (Counted m needs late u ⊎ (In u m.todo ⊎ In u fresh)) → Counted m needs later u ⊎ (In u m.todo ⊎ In u fresh)
    turn u (inl c) =
        inl (counted_still m m needs needs late later u refl (λ d y. y) (λ d q. inr q) refl (λ q. q) (λ w. inl w) (f u) c)
    turn u (inr h) = inr h

-- ---- a node goes on to the next of what it lacks

module _ (m : MarksSeen) (u : ℕ) (left : List ℕ) where
  -- and its least row is listed
  abbrev pub lacking_listed : List ℕ → MarksSeen
  lacking_listed list = record m { lacks = set m.lacks u left; list = list }

  -- or it waits for a row
  abbrev pub lacking_watching : ℕ → MarksSeen
  lacking_watching r = record m { lacks = set m.lacks u left; watchers = set m.watchers r (at m.watchers r ++ u ∷ []) }

  module _ (needs : Needs) (fresh late : List ℕ) (a : Active m u) (s : Stands m needs fresh (u ∷ late)) (c : Counted m needs (u ∷ late) u) where
    in_range : u < length m.lacks
    in_range =
        let l = flag_within m.wanted u a.0 in
        let x = s.shape.wanted in
        let y = s.shape.lacks in
        omega (arith, l, x, y)

    here : at (lacking m u left).lacks u ≡ left
    here = at_here m.lacks u left in_range

    lack_other : (w : ℕ) → (w ≡ u → ⊥) → (n : MarksSeen) → n.lacks ≡ (lacking m u left).lacks → at n.lacks w ≡ at m.lacks w
    lack_other w f n e = ap (λ ls. at ls w) e ∙ at_other m.lacks u w left f

    -- all that it waits for is live or left
    known_left : (top : Option ℕ) → Settled m.live (at m.lacks u) left top → (d : Option ℕ) → In d (needs u) → (is_live m.live d ≡ true)
        ⊎ LacksIt (lacking m u left) u d
    known_left top t d i = turn (c.known d i)
      where
        still : (q : LacksIt m u d) → (In q.0 left ⊎ (flag m.live q.0 ≡ true)) → (is_live m.live d ≡ true) ⊎ LacksIt (lacking m u left) u d
        still q (inl h) = inr (q.0, q.1, q.2, subst (In q.0) (sym here) h, q.4, q.5)
        still q (inr y) = inl (subst (λ x. is_live m.live x ≡ true) (sym q.2) y)

        turn : ((is_live m.live d ≡ true) ⊎ LacksIt m u d) → (is_live m.live d ≡ true) ⊎ LacksIt (lacking m u left) u d
        turn (inl y) = inl y
        turn (inr q) = still q (t.left q.0 q.3)

    lacked_left : (top : Option ℕ) → Settled m.live (at m.lacks u) left top → (r : ℕ) → In r (at (lacking m u left).lacks u) → In (Some r) (needs u)
    lacked_left top t r h = c.lacked r (t.inside r (subst (In r) here h))

    -- nothing is left: it is listed
    pub go_listed : (list : List ℕ) → Settled m.live (at m.lacks u) left None → HasSome (slice_get (at m.makes u) 0) m.list list
        → Stands (lacking_listed list) needs fresh late
    go_listed list t k =
        record {
          shape = record {
            makers = s.shape.makers;
            watchers = s.shape.watchers;
            wanted = s.shape.wanted;
            out = s.shape.out;
            touched = s.shape.touched;
            makes = s.shape.makes;
            lacks = length-set m.lacks u left ∙ s.shape.lacks;
            nodes = s.shape.nodes;
          };
          filed = s.filed;
          root = s.root;
          justified = s.justified;
          counted = λ w b. counted w (nat_cases w u) (s.counted w b);
          ready = λ r h. ready_some (slice_get (at m.makes u) 0) refl k r h;
        }
      where
        none : left ≡ []
        none = t.ends

        all_live : (d : Option ℕ) → In d (needs u) → is_live m.live d ≡ true
        all_live d i = turn (known_left None t d i)
          where
            turn : ((is_live m.live d ≡ true) ⊎ LacksIt (lacking m u left) u d) → is_live m.live d ≡ true
            turn (inl y) = y
            turn (inr q) = absurd (subst (In q.0) (here ∙ none) q.3)

        ready_some : (o : Option ℕ) → slice_get (at m.makes u) 0 ≡ o → HasSome o m.list list → (r : ℕ) → In r list
            → Ready (lacking_listed list) needs r
        ready_some None e k r h = s.ready r (subst (In r) k h)
        ready_some (Some x) e k r h = turn ((k r).0 h)
          where
            turn : ((r ≡ x) ⊎ In r m.list) → Ready (lacking_listed list) needs r
            turn (inl y) = (u, a, e ∙ ap (λ z. Some z) (sym y), all_live)
            turn (inr y) = s.ready r y

        more_some : (o : Option ℕ) → HasSome o m.list list → (r : ℕ) → In r m.list → In r list
        more_some None k r h = subst (In r) (sym k) h
        more_some (Some x) k r h = (k r).1 (inr h)

        more : (w : ℕ) → Listed m w → Listed (lacking_listed list) w
        more zero l = tt
        more (suc e) l = (l.0, l.1, more_some (slice_get (at m.makes u) 0) k l.0 l.2)

        -- a node that can run makes some row
        listed_now : (w : ℕ) → w ≡ u → Listed (lacking_listed list) w
        listed_now zero e = tt
        listed_now (suc e) y = first (slice_get (at m.makes (suc e)) 0) refl
          where
            put : (o : Option ℕ) (r : ℕ) → o ≡ Some r → HasSome o m.list list → In r list
            put None r q z = cc
            put (Some x) r q z = let p : r ≡ x = cc in (z r).1 (inl p)

            made : Led (net needs m.live m.makers m.out) (suc e) → (r : ℕ) × (entry m.makers r ≡ Some (suc e))
            made (through {t = x} l o d i v q) = row d q
              where
                row : (d : Option ℕ) → maker m.makers d ≡ Some (suc e) → (r : ℕ) × (entry m.makers r ≡ Some (suc e))
                row None q = cc
                row (Some r) q = (r, q)

            some : (r : ℕ) → entry m.makers r ≡ Some (suc e) → slice_get (at m.makes (suc e)) 0 ≡ None → Listed (lacking_listed list) (suc e)
            some r q z =
                let l = entry_within m.makers r (suc e) q in
                let x = s.shape.makers in
                absurd (nothing (at m.makes (suc e)) z r (s.filed.makes_it r (suc e) (omega (arith, l, x)) q))
              where
                nothing : (xs : List ℕ) → slice_get xs 0 ≡ None → (r : ℕ) → In r xs → ⊥
                nothing [] z r h = h
                nothing (x ∷ xs) z r h = cc

            why : Justified m needs (suc e) → slice_get (at m.makes (suc e)) 0 ≡ None → Listed (lacking_listed list) (suc e)
            why (inl l) z = let q = made l in some q.0 q.1 z
            why (inr o) z =
                not_both (flag m.out (suc e)) o.0 (subst (λ x. flag m.out x ≡ false) (sym y) a.1)

            first : (o : Option ℕ) → slice_get (at m.makes (suc e)) 0 ≡ o → Listed (lacking_listed list) (suc e)
            first None z =
                why (s.justified (suc e) (subst (λ x. flag m.wanted x ≡ true) (sym y) a.0)) z
            first (Some r) z =
                (r, z, put (slice_get (at m.makes u) 0) r (ap (λ x. slice_get (at m.makes x) 0) (sym y) ∙ z) k)

        counted : (w : ℕ) → ((w ≡ u) ⊎ (w ≡ u → ⊥)) → (Counted m needs (u ∷ late) w ⊎ (In w m.todo ⊎ In w fresh))
            → Counted (lacking_listed list) needs late w ⊎ (In w m.todo ⊎ In w fresh)
        counted w (inl y) o =
            inl (subst (Counted (lacking_listed list) needs late) (sym y) (record {
              known = known_left None t;
              lacked = lacked_left None t;
              next = inl (here ∙ none, listed_now u refl);
            }))
        counted w (inr f) (inl q) =
            inl (counted_still m (lacking_listed list) needs needs (u ∷ late) late w refl (λ d y. y)
            (λ d x. inr (x.0, x.1, x.2, subst (In x.0) (sym (lack_other w f (lacking_listed list) refl)) x.3, x.4, x.5))
            (lack_other w f (lacking_listed list) refl) (λ x. (lack_other w f (lacking_listed list) refl ∙ x.0, more w x.1))
            (λ x. inl (x.0, subst (In x.0) (sym (lack_other w f (lacking_listed list) refl)) x.1, x.2, x.3)) late_other q)
          where
            late_other : In w (u ∷ late) → In w late
            late_other (inl y) = absurd (f y)
            late_other (inr h) = h
        counted w (inr f) (inr h) = inr h

    -- one is left that isn't live: it waits for that
    pub go_watching : (r : ℕ) → Settled m.live (at m.lacks u) left (Some r) → Stands (lacking_watching r) needs fresh late
    go_watching r t =
        record {
          shape = record {
            makers = s.shape.makers;
            watchers = length-set m.watchers r (at m.watchers r ++ u ∷ []) ∙ s.shape.watchers;
            wanted = s.shape.wanted;
            out = s.shape.out;
            touched = s.shape.touched;
            makes = s.shape.makes;
            lacks = length-set m.lacks u left ∙ s.shape.lacks;
            nodes = s.shape.nodes;
          };
          filed = s.filed;
          root = s.root;
          justified = s.justified;
          counted = λ w b. counted w (nat_cases w u) (s.counted w b);
          ready = s.ready;
        }
      where
        here_now : In u (at (lacking_watching r).watchers r)
        here_now =
            let v = lack_made m needs (u ∷ late) u r c (t.inside r t.ends.0) t.ends.1 in
            let l = entry_within m.makers r v.0 v.1 in
            let x = s.shape.makers in
            let y = s.shape.watchers in
            subst (In u) (sym (at_here m.watchers r (at m.watchers r ++ u ∷ []) (omega (arith, l, x, y)))) (in_last (at m.watchers r) u)

        counted : (w : ℕ) → ((w ≡ u) ⊎ (w ≡ u → ⊥)) → (Counted m needs (u ∷ late) w ⊎ (In w m.todo ⊎ In w fresh))
            → Counted (lacking_watching r) needs late w ⊎ (In w m.todo ⊎ In w fresh)
        counted w (inl y) o =
            inl (subst (Counted (lacking_watching r) needs late) (sym y) (record {
              known = known_left (Some r) t;
              lacked = lacked_left (Some r) t;
              next = inr (inl (r, subst (In r) (sym here) t.ends.0, t.ends.1, here_now));
            }))
        counted w (inr f) (inl q) =
            inl (counted_still m (lacking_watching r) needs needs (u ∷ late) late w refl (λ d y. y)
            (λ d x. inr (x.0, x.1, x.2, subst (In x.0) (sym (lack_other w f (lacking_watching r) refl)) x.3, x.4, x.5))
            (lack_other w f (lacking_watching r) refl) (λ x. (lack_other w f (lacking_watching r) refl ∙ x.0, x.1))
            (λ x. inl (x.0, subst (In x.0) (sym (lack_other w f (lacking_watching r) refl)) x.1, x.2, at_pushed m.watchers r x.0 u w x.3))
            late_other q)
          where
            late_other : In w (u ∷ late) → In w late
            late_other (inl y) = absurd (f y)
            late_other (inr h) = h
        counted w (inr f) (inr h) = inr h

-- ---- the needs of what isn't wanted, or is out, may be others

module _ (m : MarksSeen) (before after : Needs) (right : Right m before) (same : (u : ℕ) → Active m u → after u ≡ before u) where
  led_needs : (u : ℕ) → Led (net before m.live m.makers m.out) u → Led (net after m.live m.makers m.out) u
  led_needs u (root) = root
  led_needs u (through {t = x} l o d i v k) =
      through (led_needs x l) o d (subst (In d) (sym (same x (led_wanted m before right x l, o))) i) v k

  pub right_needs : Right m after
  right_needs = (
    record {
      shape = right.0.shape;
      filed = right.0.filed;
      root = right.0.root;
      justified = λ u h. justified u (right.0.justified u h);
      counted = λ u a. inl (counted_still m m before after [] [] u (same u a) (λ d y. y) (λ d q. inr q) refl (λ q. q) (λ w. inl w) (λ h. h)
          (all_counted m before right u a));
      ready = λ r h. let q = right.0.ready r h in
          (q.0, q.1, q.2, λ d i. q.3 d (subst (In d) (same q.0 q.1) i));
    },
    right.1,
  )
    where
      justified : (u : ℕ) → Justified m before u → Justified m after u
      justified u (inl l) = inl (led_needs u l)
      justified u (inr o) = inr o
