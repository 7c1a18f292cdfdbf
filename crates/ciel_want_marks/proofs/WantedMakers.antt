-- The makers of what a node lacks are wanted.
use Rattle.std.proofs.Common.{◌≡◌, ◌≤◌, ◌+◌, ℕ, zero, suc, ◌<◌, List, [], ◌∷◌, ◌++◌, cond, length, length-set, length-append, Bool, true, false, set}
use Rattle.std.proofs.Common.{refl, ap, sym, ◌∙◌, subst, arith, ◌⊎◌, inl, inr, Option, Some, None}
use Rattle.ciel_journal.specs.Graph.{Led, root}
use Rattle.ciel_journal.specs.Job.{In}
use Rattle.ciel_journal.proofs.Members.{bool_cases}
use Rattle.ciel_want_marks.specs.Lists.{entry, flag}
use Rattle.ciel_want_marks.specs.Marks.{Active, Counted, Justified, Listed, MarksSeen, Needs, Stands, net}
use Rattle.ciel_want_marks.specs.Moves.{SameGraph, left_of, unset, wants, wants_makers, wants_some}
use Rattle.ciel_want_marks.proofs.Slots.{flag_here, flag_kept, flag_other, in_last, in_left, nat_cases}
use Rattle.ciel_want_marks.proofs.KeptMarks.{counted_still}

-- more are wanted, and all else is the same; a search isn't longer
pub record Wider (m n : MarksSeen) : Type 0 where
  pub graph : SameGraph m n
  pub lacks : n.lacks ≡ m.lacks
  pub wanted : (u : ℕ) → flag m.wanted u ≡ true → flag n.wanted u ≡ true
  pub long : length n.wanted ≡ length m.wanted
  pub left : left_of n ≤ left_of m

wider_none : (m : MarksSeen) → Wider m m
wider_none m =
    record {
      graph = record { live = refl; makers = refl; out = refl };
      lacks = refl;
      wanted = λ u h. h;
      long = refl;
      left = omega arith;
    }

wider_more : (m n p : MarksSeen) → Wider m n → Wider n p → Wider m p
wider_more m n p a b =
    let x = a.left in
    let y = b.left in
    record {
      graph = record {
        live = b.graph.live ∙ a.graph.live;
        makers = b.graph.makers ∙ a.graph.makers;
        out = b.graph.out ∙ a.graph.out;
      };
      lacks = b.lacks ∙ a.lacks;
      wanted = λ u h. b.wanted u (a.wanted u h);
      long = b.long ∙ a.long;
      left = omega (arith, x, y);
    }

-- one flag more is one fewer that isn't set
pub unset_set : (fs : List Bool) (i : ℕ) → i < length fs → flag fs i ≡ false → unset (set fs i true) + 1 ≡ unset fs
unset_set [] i l f = absurd (omega (arith, l))
unset_set (true ∷ fs) zero l f = cc
unset_set (false ∷ fs) zero l f = omega arith
unset_set (true ∷ fs) (suc i) l f = unset_set fs i (omega (arith, l)) f
unset_set (false ∷ fs) (suc i) l f = let e = unset_set fs i (omega (arith, l)) f in omega (arith, e)

module _ (v : ℕ) (m : MarksSeen) where
  -- with the node wanted and to be looked at
  abbrev pub marked : MarksSeen
  marked = record m { wanted = set m.wanted v true; todo = m.todo ++ v ∷ [] }

  pub wants_is : (b : Bool) → flag m.wanted v ≡ b → wants v m ≡ cond b m marked
  wants_is b e = ap (λ c. cond c m marked) e

  module _ (long : v < length m.wanted) where
    wider_marked : flag m.wanted v ≡ false → Wider m marked
    wider_marked f =
        let e = unset_set m.wanted v long f in
        let l : length (m.todo ++ v ∷ []) ≡ length m.todo + 1 = length-append m.todo (v ∷ []) in
        record {
          graph = record { live = refl; makers = refl; out = refl };
          lacks = refl;
          wanted = λ u h. flag_kept m.wanted v u h;
          long = length-set m.wanted v true;
          left = omega (arith, e, l);
        }

    pub wants_wider : Wider m (wants v m) × (flag (wants v m).wanted v ≡ true)
    wants_wider = turn (bool_cases (flag m.wanted v))
      where
        turn : ((flag m.wanted v ≡ true) ⊎ (flag m.wanted v ≡ false)) → Wider m (wants v m) × (flag (wants v m).wanted v ≡ true)
        turn (inl t) =
            subst (λ n. Wider m n × (flag n.wanted v ≡ true)) (sym (wants_is true t)) (wider_none m, t)
        turn (inr f) =
            subst (λ n. Wider m n × (flag n.wanted v ≡ true)) (sym (wants_is false f)) (wider_marked f, flag_here m.wanted v true long)

  module _ (needs : Needs) (fresh late : List ℕ) (s : Stands m needs fresh late) (l : Led (net needs m.live m.makers m.out) v)
      (long : v < length m.wanted) where
    justified : (w : ℕ) → ((w ≡ v) ⊎ (w ≡ v → ⊥)) → flag marked.wanted w ≡ true → Justified marked needs w
    justified w (inl e) h = inl (subst (Led (net needs m.live m.makers m.out)) (sym e) l)
    justified w (inr f) h = s.justified w (sym (flag_other m.wanted v w true f) ∙ h)

    still : (w : ℕ) → (Counted m needs late w ⊎ (In w m.todo ⊎ In w fresh)) → Counted marked needs late w ⊎ (In w marked.todo ⊎ In w fresh)
    still w (inl c) =
        inl (counted_still m marked needs needs late late w refl (λ d y. y) (λ d q. inr (q.0, q.1, q.2, q.3, q.4, flag_kept m.wanted v q.1 q.5))
        refl (λ q. (q.0, listed w q.1)) (λ x. inl x) (λ x. x) c)
      where
        listed : (w : ℕ) → Listed m w → Listed marked w
        listed zero x = tt
        listed (suc e) x = x
    still w (inr (inl h)) = inr (inl (in_left m.todo (v ∷ []) w h))
    still w (inr (inr h)) = inr (inr h)

    counted : (w : ℕ) → ((w ≡ v) ⊎ (w ≡ v → ⊥)) → Active marked w → Counted marked needs late w ⊎ (In w marked.todo ⊎ In w fresh)
    counted w (inl e) a = inr (inl (subst (λ x. In x (m.todo ++ v ∷ [])) (sym e) (in_last m.todo v)))
    counted w (inr f) a = still w (s.counted w (sym (flag_other m.wanted v w true f) ∙ a.0, a.1))

    stands_marked : Stands marked needs fresh late
    stands_marked =
        record {
          shape = record {
            makers = s.shape.makers;
            watchers = s.shape.watchers;
            wanted = length-set m.wanted v true ∙ s.shape.wanted;
            out = s.shape.out;
            touched = s.shape.touched;
            makes = s.shape.makes;
            lacks = s.shape.lacks;
            nodes = s.shape.nodes;
          };
          filed = s.filed;
          root = flag_kept m.wanted v 0 s.root;
          justified = λ w h. justified w (nat_cases w v) h;
          counted = λ w a. counted w (nat_cases w v) a;
          ready = λ r h. let q = s.ready r h in (q.0, (flag_kept m.wanted v q.0 q.1.0, q.1.1), q.2, q.3);
        }

    pub wants_stands : Stands (wants v m) needs fresh late
    wants_stands = turn (bool_cases (flag m.wanted v))
      where
        turn : ((flag m.wanted v ≡ true) ⊎ (flag m.wanted v ≡ false)) → Stands (wants v m) needs fresh late
        turn (inl t) = subst (λ n. Stands n needs fresh late) (sym (wants_is true t)) s
        turn (inr f) = subst (λ n. Stands n needs fresh late) (sym (wants_is false f)) stands_marked

-- ---- the makers of rows

node_long : (m : MarksSeen) (needs : Needs) (fresh late : List ℕ) → Stands m needs fresh late → (r v : ℕ) → entry m.makers r ≡ Some v
    → v < length m.wanted
node_long m needs fresh late s r v e =
    let l = (s.shape.nodes r v e).1 in
    let a = s.shape.wanted in
    omega (arith, l, a)

module _ (needs : Needs) (fresh late : List ℕ) where
  -- what comes of all of them
  pub record Makers (rows : List ℕ) (m n : MarksSeen) : Type 0 where
    pub wider : Wider m n
    pub stands : Stands n needs fresh late
    pub all : (r v : ℕ) → In r rows → entry m.makers r ≡ Some v → flag n.wanted v ≡ true

  -- the maker of one row more
  one_more : (x : ℕ) (xs : List ℕ) (m n : MarksSeen) (q : Makers xs m n) (o : Option ℕ) → entry n.makers x ≡ o
      → ((v : ℕ) → entry n.makers x ≡ Some v → Led (net needs n.live n.makers n.out) v) → Makers (x ∷ xs) m (wants_some o n)
  one_more x xs m n q None e led =
      record { wider = q.wider; stands = q.stands; all = all }
    where
      all : (r v : ℕ) → In r (x ∷ xs) → entry m.makers r ≡ Some v → flag n.wanted v ≡ true
      all r v (inl s) y =
          let p : None ≡ Some v = sym e ∙ (ap (entry n.makers) (sym s) ∙ (ap (λ es. entry es r) q.wider.graph.makers ∙ y)) in cc
      all r v (inr h) y = q.all r v h y
  one_more x xs m n q (Some u) e led =
      let l = node_long n needs fresh late q.stands x u e in
      let w = wants_wider u n l in
      record {
        wider = wider_more m n (wants u n) q.wider w.0;
        stands = wants_stands u n needs fresh late q.stands (led u e) l;
        all = λ r v h y. all w.0 w.1 r v h y;
      }
    where
      all : Wider n (wants u n) → flag (wants u n).wanted u ≡ true → (r v : ℕ) → In r (x ∷ xs) → entry m.makers r ≡ Some v
          → flag (wants u n).wanted v ≡ true
      all w t r v (inl s) y =
          let p : Some u ≡ Some v = sym e ∙ (ap (entry n.makers) (sym s) ∙ (ap (λ es. entry es r) q.wider.graph.makers ∙ y)) in
          let z : u ≡ v = cc in
          subst (λ a. flag (wants u n).wanted a ≡ true) z t
      all w t r v (inr h) y = w.wanted v (q.all r v h y)

  pub makers_wanted : (rows : List ℕ) (m : MarksSeen) → Stands m needs fresh late
      → ((r v : ℕ) → In r rows → entry m.makers r ≡ Some v → Led (net needs m.live m.makers m.out) v) → Makers rows m (wants_makers rows m)
  makers_wanted [] m s f = record { wider = wider_none m; stands = s; all = λ r v h e. absurd h }
  makers_wanted (x ∷ xs) m s f =
      let n = wants_makers xs m in
      let q = makers_wanted xs m s (λ r v h. f r v (inr h)) in
      one_more x xs m n q (entry n.makers x) refl
      (λ v e. led n q.wider.graph v (f x v (inl refl) (ap (λ es. entry es x) (sym q.wider.graph.makers) ∙ e)))
    where
      led : (n : MarksSeen) → SameGraph m n → (v : ℕ) → Led (net needs m.live m.makers m.out) v → Led (net needs n.live n.makers n.out) v
      led n g v l =
          subst (λ fs. Led (net needs fs n.makers n.out) v) (sym g.live)
          (subst (λ es. Led (net needs m.live es n.out) v) (sym g.makers) (subst (λ fs. Led (net needs m.live m.makers fs) v) (sym g.out) l))
