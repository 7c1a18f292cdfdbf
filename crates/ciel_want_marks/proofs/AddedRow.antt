-- One row more.
use Rattle.std.proofs.Common.{◌≡◌, ◌≤◌, ◌+◌, ℕ, zero, suc, ◌<◌, List, [], ◌∷◌, ◌++◌, length, length-set, length-append, Bool, true, false, not, ◌||◌}
use Rattle.std.proofs.Common.{◌&&◌, set, slice_get, refl, ap, sym, ◌∙◌, subst, arith, ◌⊎◌, ◌↔◌, inl, inr, Option, Some, None, is_some}
use Rattle.std.specs.Option.{option_map_or, option_and_then}
use Rattle.ciel_journal.specs.Graph.{Led, root, through}
use Rattle.ciel_journal.specs.Job.{In}
use Rattle.ciel_want_marks.specs.Lists.{at, entry, flag}
use Rattle.ciel_want_marks.specs.Marks.{Active, Counted, Filed, Justified, LacksIt, Least, Listed, MarksSeen, Needs, Right, Stands, Watches, is_live}
use Rattle.ciel_want_marks.specs.Marks.{maker, net}
use Rattle.ciel_want_marks.specs.Moves.{Added, IsNode, NotAdded, SameNeeds, filed, grown}
use Rattle.ciel_want_marks.proofs.Slots.{at_here, at_more, at_other, entry_within, flag_more, flag_within, get_before, get_last, in_last, in_left, in_push}
use Rattle.ciel_want_marks.proofs.Slots.{nat_cases, not_both, set_last}
use Rattle.ciel_want_marks.proofs.KeptMarks.{all_counted, counted_still, lack_made, least_in, led_wanted}

-- the lists of a graph with one row more
flag_last : (fs : List Bool) (b : Bool) → flag (fs ++ b ∷ []) (length fs) ≡ b
flag_last fs b = ap (λ o. option_map_or (λ b. b) o false) (get_last fs b)

flag_before : (fs : List Bool) (b : Bool) (i : ℕ) → i < length fs → flag (fs ++ b ∷ []) i ≡ flag fs i
flag_before fs b i l = ap (λ o. option_map_or (λ b. b) o false) (get_before fs b i l)

entry_last : (es : List (Option ℕ)) (o : Option ℕ) → entry (es ++ o ∷ []) (length es) ≡ o
entry_last es o = ap (option_and_then (λ o. o)) (get_last es o)

entry_before : (es : List (Option ℕ)) (o : Option ℕ) (i : ℕ) → i < length es → entry (es ++ o ∷ []) i ≡ entry es i
entry_before es o i l = ap (option_and_then (λ o. o)) (get_before es o i l)

last_or_before : (n i : ℕ) → i < suc n → (i < n) ⊎ (i ≡ n)
last_or_before n i l = grind (arith, l)

first_kept : (xs : List ℕ) (k r : ℕ) → slice_get xs 0 ≡ Some r → slice_get (xs ++ k ∷ []) 0 ≡ Some r
first_kept [] k r e = cc
first_kept (x ∷ xs) k r e = e

-- the first of a list with one more is its first, or there was none
first_was : (xs : List ℕ) (k r : ℕ) → slice_get (xs ++ k ∷ []) 0 ≡ Some r → (slice_get xs 0 ≡ Some r) ⊎ ((r ≡ k) × (xs ≡ []))
first_was [] k r e = let s : k ≡ r = cc in inr (sym s, refl)
first_was (x ∷ xs) k r e = inl e

module _ (m : MarksSeen) (is : Bool) (by : Option ℕ) where
  -- the marks, where the row is made by a node, or by none
  abbrev pub more : List (List ℕ) → Bool → MarksSeen
  more makes orphans =
      record m {
        live = m.live ++ is ∷ [];
        makers = m.makers ++ by ∷ [];
        watchers = m.watchers ++ [] ∷ [];
        wanted = m.wanted ++ false ∷ [];
        out = m.out ++ false ∷ [];
        touched = m.touched ++ false ∷ [];
        makes = makes;
        lacks = m.lacks ++ [] ∷ [];
        orphans = orphans;
      }

  module _ (before after : Needs) (right : Right m before) (node : IsNode (suc (length m.live)) by) (same : SameNeeds m before after)
      (known : m.orphans ≡ false) (makes : List (List ℕ)) (orphans : Bool) (fit : (by ≡ None) → (is ≡ true) × (orphans ≡ true))
      (longs : length makes ≡ suc (suc (length m.live))) (pushed : (u : ℕ) → (by ≡ Some u) → at makes u ≡ at m.makes u ++ length m.live ∷ [])
      (kept : (u : ℕ) → ((by ≡ Some u) → ⊥) → at makes u ≡ at m.makes u) where
    s : Stands m before [] []
    s = right.0

    abbrev n : ℕ
    n = length m.live

    one_more : length (m.live ++ is ∷ []) ≡ suc n
    one_more = length-append m.live (is ∷ []) ∙ omega arith

    one_of : {A : Type 0} (xs : List A) (x : A) (z : ℕ) → length xs ≡ z → length (xs ++ x ∷ []) ≡ suc z
    one_of xs x z e =
        let l : length (xs ++ x ∷ []) ≡ length xs + 1 = length-append xs (x ∷ []) in
        omega (arith, l, e)

    -- rows before
    live_before : (r : ℕ) → r < n → flag (m.live ++ is ∷ []) r ≡ flag m.live r
    live_before r l = flag_before m.live is r l

    maker_before : (r : ℕ) → r < n → entry (m.makers ++ by ∷ []) r ≡ entry m.makers r
    maker_before r l = let e = s.shape.makers in entry_before m.makers by r (omega (arith, l, e))

    maker_last : entry (m.makers ++ by ∷ []) n ≡ by
    maker_last = ap (entry (m.makers ++ by ∷ [])) (sym s.shape.makers) ∙ entry_last m.makers by

    maker_within : (r v : ℕ) → entry m.makers r ≡ Some v → r < n
    maker_within r v e = let l = entry_within m.makers r v e in let a = s.shape.makers in omega (arith, l, a)

    active_before : (w : ℕ) → Active (more makes orphans) w → Active m w
    active_before w a = (sym (flag_more m.wanted w) ∙ a.0, sym (flag_more m.out w) ∙ a.1)

    active_after : (w : ℕ) → Active m w → Active (more makes orphans) w
    active_after w a = (flag_more m.wanted w ∙ a.0, flag_more m.out w ∙ a.1)

    live_after : (d : Option ℕ) → is_live m.live d ≡ true → is_live (m.live ++ is ∷ []) d ≡ true
    live_after None y = y
    live_after (Some r) y = live_before r (flag_within m.live r y) ∙ y

    led : (w : ℕ) → Led (net before m.live m.makers m.out) w → Led (net after (m.live ++ is ∷ []) (m.makers ++ by ∷ []) (m.out ++ false ∷ [])) w
    led w (root) = root
    led w (through {t = x} l o d i f z) = row d refl z (led x l)
      where
        here : In d (after x)
        here = subst (In d) (sym (same x (led_wanted m before right x l, o))) i

        row : (e : Option ℕ) → d ≡ e → maker m.makers d ≡ Some w
            → Led (net after (m.live ++ is ∷ []) (m.makers ++ by ∷ []) (m.out ++ false ∷ [])) x
            → Led (net after (m.live ++ is ∷ []) (m.makers ++ by ∷ []) (m.out ++ false ∷ [])) w
        row None e z g = let p : None ≡ Some w = ap (maker m.makers) (sym e) ∙ z in cc
        row (Some r) e z g =
            let y : entry m.makers r ≡ Some w = ap (maker m.makers) (sym e) ∙ z in
            let b = maker_within r w y in
            through g (flag_more m.out x ∙ o) d here (ap (is_live (m.live ++ is ∷ [])) e ∙ (live_before r b ∙ (ap (is_live m.live) (sym e) ∙ f)))
            (ap (maker (m.makers ++ by ∷ [])) e ∙ (maker_before r b ∙ y))

    -- what a node makes
    in_makes : (w r : ℕ) → In r (at m.makes w) → In r (at makes w)
    in_makes w r h = turn by refl
      where
        apart : (v : ℕ) → by ≡ Some v → (w ≡ v → ⊥) → by ≡ Some w → ⊥
        apart v e f q = let p : Some v ≡ Some w = sym e ∙ q in let z : w ≡ v = cc in f z

        turn : (o : Option ℕ) → by ≡ o → In r (at makes w)
        turn None e =
            subst (In r) (sym (kept w (λ q. let p : None ≡ Some w = sym e ∙ q in cc))) h
        turn (Some v) e = pick (nat_cases w v)
          where
            pick : ((w ≡ v) ⊎ (w ≡ v → ⊥)) → In r (at makes w)
            pick (inl y) =
                subst (In r) (sym (pushed w (e ∙ ap (λ x. Some x) (sym y)))) (in_left (at m.makes w) (n ∷ []) r h)
            pick (inr f) = subst (In r) (sym (kept w (apart v e f))) h

    -- whether the row is made by a node
    by_cases : (w : ℕ) → (by ≡ Some w) ⊎ (by ≡ Some w → ⊥)
    by_cases w = turn by refl
      where
        turn : (o : Option ℕ) → by ≡ o → (by ≡ Some w) ⊎ (by ≡ Some w → ⊥)
        turn None e = inr (λ q. let p : None ≡ Some w = sym e ∙ q in cc)
        turn (Some v) e = pick (nat_cases v w)
          where
            pick : ((v ≡ w) ⊎ (v ≡ w → ⊥)) → (by ≡ Some w) ⊎ (by ≡ Some w → ⊥)
            pick (inl y) = inl (e ∙ ap (λ x. Some x) y)
            pick (inr f) = inr (λ q. let p : Some v ≡ Some w = sym e ∙ q in let z : v ≡ w = cc in f z)

    -- a row that it makes now is one that it made, or the last
    of_makes : (w r : ℕ) → In r (at makes w) → In r (at m.makes w) ⊎ ((r ≡ n) × (by ≡ Some w))
    of_makes w r h = turn (by_cases w)
      where
        last : by ≡ Some w → (In r (at m.makes w) ⊎ (r ≡ n)) → In r (at m.makes w) ⊎ ((r ≡ n) × (by ≡ Some w))
        last b (inl x) = inl x
        last b (inr e) = inr (e, b)

        turn : ((by ≡ Some w) ⊎ (by ≡ Some w → ⊥)) → In r (at m.makes w) ⊎ ((r ≡ n) × (by ≡ Some w))
        turn (inl b) = last b (in_push (at m.makes w) n r (subst (In r) (pushed w b) h))
        turn (inr f) = inl (subst (In r) (kept w f) h)

    least_after : (w r : ℕ) → Least m.makes w r → Least makes w r
    least_after w r l = turn (by_cases w)
      where
        turn : ((by ≡ Some w) ⊎ (by ≡ Some w → ⊥)) → Least makes w r
        turn (inl b) = ap (λ xs. slice_get xs 0) (pushed w b) ∙ first_kept (at m.makes w) n r l
        turn (inr f) = ap (λ xs. slice_get xs 0) (kept w f) ∙ l

    least_was : (w r : ℕ) → Least makes w r → Least m.makes w r ⊎ ((r ≡ n) × (at m.makes w ≡ []))
    least_was w r l = turn (by_cases w)
      where
        turn : ((by ≡ Some w) ⊎ (by ≡ Some w → ⊥)) → Least m.makes w r ⊎ ((r ≡ n) × (at m.makes w ≡ []))
        turn (inl b) = first_was (at m.makes w) n r (ap (λ xs. slice_get xs 0) (sym (pushed w b)) ∙ l)
        turn (inr f) = inl (ap (λ xs. slice_get xs 0) (sym (kept w f)) ∙ l)

    filed_more : Filed (suc n) (m.live ++ is ∷ []) (m.makers ++ by ∷ []) makes orphans
    filed_more =
        record {
          makes_it = λ r u l e. makes_it r u (last_or_before n r l) e;
          made = λ r u h. made r u (of_makes u r h);
          least = λ r x u l h. least r x u (least_was u r l) (of_makes u x h);
          orphan = λ r l e. orphan r (last_or_before n r l) e;
        }
      where
        makes_it : (r u : ℕ) → ((r < n) ⊎ (r ≡ n)) → entry (m.makers ++ by ∷ []) r ≡ Some u → In r (at makes u)
        makes_it r u (inl l) e = in_makes u r (s.filed.makes_it r u l (sym (maker_before r l) ∙ e))
        makes_it r u (inr y) e =
            let b : by ≡ Some u = sym maker_last ∙ (ap (entry (m.makers ++ by ∷ [])) (sym y) ∙ e) in
            subst (λ x. In x (at makes u)) (sym y) (subst (In n) (sym (pushed u b)) (in_last (at m.makes u) n))

        made : (r u : ℕ) → (In r (at m.makes u) ⊎ ((r ≡ n) × (by ≡ Some u))) → (r < suc n) × (entry (m.makers ++ by ∷ []) r ≡ Some u)
        made r u (inl h) =
            let q = s.filed.made r u h in
            let l = q.0 in
            (omega (arith, l), maker_before r q.0 ∙ q.1)
        made r u (inr h) =
            let e = h.0 in
            (omega (arith, e), ap (entry (m.makers ++ by ∷ [])) h.0 ∙ (maker_last ∙ h.1))

        least : (r x u : ℕ) → (Least m.makes u r ⊎ ((r ≡ n) × (at m.makes u ≡ []))) → (In x (at m.makes u) ⊎ ((x ≡ n) × (by ≡ Some u))) → r ≤ x
        least r x u (inl l) (inl h) = s.filed.least r x u l h
        least r x u (inl l) (inr h) =
            let q = (s.filed.made r u (least_in m before (at m.makes u) r l)).0 in
            let e = h.0 in
            omega (arith, q, e)
        least r x u (inr l) (inl h) = absurd (subst (In x) l.1 h)
        least r x u (inr l) (inr h) = let a = l.0 in let b = h.0 in omega (arith, a, b)

        orphan : (r : ℕ) → ((r < n) ⊎ (r ≡ n)) → entry (m.makers ++ by ∷ []) r ≡ None → (flag (m.live ++ is ∷ []) r ≡ true) × (orphans ≡ true)
        orphan r (inl l) e =
            not_both m.orphans (s.filed.orphan r l (sym (maker_before r l) ∙ e)).1 known
        orphan r (inr y) e =
            let q = fit (sym maker_last ∙ (ap (entry (m.makers ++ by ∷ [])) (sym y) ∙ e)) in
            (ap (flag (m.live ++ is ∷ [])) y ∙ (flag_last m.live is ∙ q.0), q.1)

    listed : (w : ℕ) → Listed m w → Listed (more makes orphans) w
    listed zero l = tt
    listed (suc e) l = (l.0, least_after (suc e) l.0 l.1, l.2)

    counted : (w : ℕ) → Active m w → Counted m before [] w → Counted (more makes orphans) after [] w
    counted w a c =
        counted_still m (more makes orphans) before after [] [] w (same w a) live_after lack (at_more m.lacks w)
        (λ x. (at_more m.lacks w ∙ x.0, listed w x.1)) watch (λ h. h) c
      where
        lack : (d : Option ℕ) → LacksIt m w d → (is_live (m.live ++ is ∷ []) d ≡ true) ⊎ LacksIt (more makes orphans) w d
        lack d x =
            inr (
              x.0,
              x.1,
              x.2,
              subst (In x.0) (sym (at_more m.lacks w)) x.3,
              maker_before x.0 (maker_within x.0 x.1 x.4) ∙ x.4,
              flag_more m.wanted x.1 ∙ x.5,
            )

        watch : Watches m w → Watches (more makes orphans) w ⊎ In w []
        watch x =
            let v = lack_made m before [] w x.0 c x.1 x.2 in
            let l = maker_within x.0 v.0 v.1 in
            inl (x.0, subst (In x.0) (sym (at_more m.lacks w)) x.1, live_before x.0 l ∙ x.2, subst (In w) (sym (at_more m.watchers x.0)) x.3)

    justified : (w : ℕ) → Justified m before w → Justified (more makes orphans) after w
    justified w (inl l) = inl (led w l)
    justified w (inr o) = inr (flag_more m.out w ∙ o.0, flag_more m.touched w ∙ o.1)

    nodes : (r u : ℕ) → entry (m.makers ++ by ∷ []) r ≡ Some u → (0 < u) × (u ≤ length (m.live ++ is ∷ []))
    nodes r u e = turn (last_or_before n r (omega (arith, long, one)))
      where
        long : r < length (m.makers ++ by ∷ [])
        long = entry_within (m.makers ++ by ∷ []) r u e

        one : length (m.makers ++ by ∷ []) ≡ suc n
        one = one_of m.makers by n s.shape.makers

        last : (o : Option ℕ) → o ≡ Some u → IsNode (suc n) o → (0 < u) × (u ≤ length (m.live ++ is ∷ []))
        last None e q = cc
        last (Some v) e q =
            let p : v ≡ u = cc in
            subst (λ x. (0 < x) × (x ≤ length (m.live ++ is ∷ []))) p (q.0, subst (λ z. v ≤ z) (sym one_more) q.1)

        turn : ((r < n) ⊎ (r ≡ n)) → (0 < u) × (u ≤ length (m.live ++ is ∷ []))
        turn (inl l) =
            let q = s.shape.nodes r u (sym (maker_before r l) ∙ e) in
            let b = q.1 in
            let o = one_more in
            (q.0, omega (arith, b, o))
        turn (inr y) =
            last by (sym maker_last ∙ (ap (entry (m.makers ++ by ∷ [])) (sym y) ∙ e)) node

    pub adds_right : Right (more makes orphans) after
    adds_right = (
      record {
        shape = record {
          makers = one_of m.makers by n s.shape.makers ∙ sym one_more;
          watchers = one_of m.watchers [] n s.shape.watchers ∙ sym one_more;
          wanted = one_of m.wanted false (suc n) s.shape.wanted ∙ ap suc (sym one_more);
          out = one_of m.out false (suc n) s.shape.out ∙ ap suc (sym one_more);
          touched = one_of m.touched false (suc n) s.shape.touched ∙ ap suc (sym one_more);
          makes = longs ∙ ap suc (sym one_more);
          lacks = one_of m.lacks [] (suc n) s.shape.lacks ∙ ap suc (sym one_more);
          nodes = nodes;
        };
        filed = subst (λ z. Filed z (m.live ++ is ∷ []) (m.makers ++ by ∷ []) makes orphans) (sym one_more) filed_more;
        root = flag_more m.wanted 0 ∙ s.root;
        justified = λ w h. justified w (s.justified w (sym (flag_more m.wanted w) ∙ h));
        counted = λ w a. let b = active_before w a in inl (counted w b (all_counted m before right w b));
        ready = λ r h. let q = s.ready r h in
            (q.0, active_after q.0 q.1, least_after q.0 r q.2, λ d i. live_after d (q.3 d (subst (In d) (same q.0 q.1) i)));
      },
      right.1,
    )

-- ---- as the calls leave the marks

-- the rows by their makers, and whether one is made by none
makes_of : List (List ℕ) → ℕ → Option ℕ → List (List ℕ)
makes_of ls k None = ls ++ [] ∷ []
makes_of ls k (Some u) = set (ls ++ [] ∷ []) u (at (ls ++ [] ∷ []) u ++ k ∷ [])

orphans_of : Bool → Option ℕ → Bool
orphans_of b None = true
orphans_of b (Some u) = b

pub not_full : (orphans is : Bool) (by : Option ℕ) → orphans || (not is && not (is_some by)) ≡ false → (orphans ≡ false) × ((by ≡ None) → is ≡ true)
not_full true is by e = cc
not_full false true by e = (refl, λ z. refl)
not_full false false None e = cc
not_full false false (Some u) e = (refl, λ z. cc)

module _ (m : MarksSeen) (is : Bool) (by : Option ℕ) where
  more_is : length m.makers ≡ length m.live → filed (length m.live) is by (grown m)
      ≡ more m is by (makes_of m.makes (length m.live) by) (orphans_of m.orphans by)
  unfolding makes_of orphans_of
  more_is e = turn by refl
    where
      live_is : set (m.live ++ false ∷ []) (length m.live) is ≡ m.live ++ is ∷ []
      live_is = set_last m.live false is

      makers_is : (o : Option ℕ) → set (m.makers ++ None ∷ []) (length m.live) o ≡ m.makers ++ o ∷ []
      makers_is o = ap (λ i. set (m.makers ++ None ∷ []) i o) (sym e) ∙ set_last m.makers None o

      turn : (o : Option ℕ) → by ≡ o → filed (length m.live) is o (grown m)
          ≡ more m is o (makes_of m.makes (length m.live) o) (orphans_of m.orphans o)
      turn None z =
          ap (λ ls. record (grown m) { live = ls; makers = set (m.makers ++ None ∷ []) (length m.live) None; orphans = true }) live_is
          ∙ ap (λ ms. record (grown m) { live = m.live ++ is ∷ []; makers = ms; orphans = true }) (makers_is None)
      turn (Some u) z =
          ap (λ ls. record (grown m) {
            live = ls;
            makers = set (m.makers ++ None ∷ []) (length m.live) (Some u);
            makes =
                set (m.makes ++ [] ∷ []) u (at (m.makes ++ [] ∷ []) u ++ length m.live ∷ []);
          }) live_is
          ∙ ap (λ ms. record (grown m) {
            live = m.live ++ is ∷ [];
            makers = ms;
            makes =
                set (m.makes ++ [] ∷ []) u (at (m.makes ++ [] ∷ []) u ++ length m.live ∷ []);
          }) (makers_is (Some u))

  pub adds : (n p : MarksSeen) (r : ℕ) → m.orphans || (not is && not (is_some by)) ≡ false → r ≡ length m.live → n ≡ grown m → p
      ≡ filed r is by n → (before after : Needs) → IsNode (suc (length m.live)) by → SameNeeds m before after → Right m before → Added is by m p
      × Right p after
  unfolding makes_of orphans_of
  adds n p r full row grew file before after node same right = (
    record {
      known = q.0;
      live = ap (λ (x : MarksSeen). x.live) z;
      makers = ap (λ (x : MarksSeen). x.makers) z;
      out = ap (λ (x : MarksSeen). x.out) z;
    },
    subst (λ x. Right x after) (sym z) (adds_right m is by before after right node same q.0 (makes_of m.makes (length m.live) by)
        (orphans_of m.orphans by) (λ e. (q.1 e, ap (orphans_of m.orphans) e)) (longs by) (λ u e. pushed by u node e) (λ u f. kept by u f)),
  )
    where
      s : Stands m before [] []
      s = right.0

      q : (m.orphans ≡ false) × ((by ≡ None) → is ≡ true)
      q = not_full m.orphans is by full

      z : p ≡ more m is by (makes_of m.makes (length m.live) by) (orphans_of m.orphans by)
      z =
          file ∙ (ap (λ x. filed r is by x) grew ∙ (ap (λ i. filed i is by (grown m)) row ∙ more_is s.shape.makers))

      one : length (m.makes ++ [] ∷ []) ≡ suc (suc (length m.live))
      one =
          let l : length (m.makes ++ [] ∷ []) ≡ length m.makes + 1 = length-append m.makes ([] ∷ []) in
          let e = s.shape.makes in
          omega (arith, l, e)

      longs : (o : Option ℕ) → length (makes_of m.makes (length m.live) o) ≡ suc (suc (length m.live))
      longs None = one
      longs (Some u) =
          length-set (m.makes ++ [] ∷ []) u (at (m.makes ++ [] ∷ []) u ++ length m.live ∷ []) ∙ one

      pushed : (o : Option ℕ) (u : ℕ) → IsNode (suc (length m.live)) o → o ≡ Some u → at (makes_of m.makes (length m.live) o) u ≡ at m.makes u
          ++ length m.live ∷ []
      pushed None u i e = cc
      pushed (Some v) u i e =
          let y : v ≡ u = cc in
          let l = i.1 in
          let o = one in
          ap (at (set (m.makes ++ [] ∷ []) v (at (m.makes ++ [] ∷ []) v ++ length m.live ∷ []))) (sym y)
          ∙ (at_here (m.makes ++ [] ∷ []) v (at (m.makes ++ [] ∷ []) v ++ length m.live ∷ []) (omega (arith, l, o))
          ∙ (ap (λ xs. xs ++ length m.live ∷ []) (at_more m.makes v) ∙ ap (λ x. at m.makes x ++ length m.live ∷ []) y))

      kept : (o : Option ℕ) (u : ℕ) → (o ≡ Some u → ⊥) → at (makes_of m.makes (length m.live) o) u ≡ at m.makes u
      kept None u f = at_more m.makes u
      kept (Some v) u f =
          at_other (m.makes ++ [] ∷ []) v u (at (m.makes ++ [] ∷ []) v ++ length m.live ∷ []) (λ e. f (ap (λ x. Some x) (sym e)))
          ∙ at_more m.makes u

-- ---- where none is added

pub not_added : (m : MarksSeen) (is : Bool) (by : Option ℕ) → (m.orphans || (not is && not (is_some by)) ≡ true) ↔ NotAdded is by m
not_added m is by = turn m.orphans is by
  where
    turn : (o is : Bool) (by : Option ℕ) → (o || (not is && not (is_some by)) ≡ true) ↔ ((o ≡ true) ⊎ ((is ≡ false) × (by ≡ None)))
    turn true is by = (λ e. inl refl, λ q. refl)
    turn false true by = (λ e. cc, λ q. none q)
      where
        none : ((false ≡ true) ⊎ ((true ≡ false) × (by ≡ None))) → false ≡ true
        none (inl e) = e
        none (inr q) = let e = q.0 in cc
    turn false false None = (λ e. inr (refl, refl), λ q. refl)
    turn false false (Some u) = (λ e. cc, λ q. none q)
      where
        none : ((false ≡ true) ⊎ ((false ≡ false) × (Some u ≡ None))) → false ≡ true
        none (inl e) = e
        none (inr q) = let e = q.1 in cc
