-- Nodes are looked at one after the other, and the least row of those that follow a task is held.
use Rattle.std.proofs.Common.{◌≡◌, ◌≤◌, ◌<◌, ◌+◌, ℕ, suc, true, List, [], ◌∷◌, length, drop, drop-cons, add-one, get_or, min, refl, ap, sym, ◌∙◌, subst, arith}
use Rattle.std.proofs.Common.{◌⊎◌, inl, inr, Option, Some, None, IfSome, slice_get}
use Rattle.sky_base.specs.declared.object.TaskId.{TaskId}
use Rattle.ciel_journal.specs.Job.{In}
use Rattle.ciel_want_marks.specs.Lists.{at, flag}
use Rattle.ciel_want_marks.specs.Marks.{Least, MarksSeen}
use Rattle.ciel_want_ready.specs.Fits.{node_of}
use Rattle.ciel_want_ready.specs.Following.{Behind, Better, LeastFollows, MayFollow, Near, NodeFollows, Runs, Waits, lesser}
use Rattle.ciel_table.specs.Seen.{TableSeen}
use Rattle.ciel_want.proofs.FlaggedTasks.{drop_end}

-- ---- the lesser of two

kept_lesser : (o : Option ℕ) (y z : ℕ) → Behind o z → Behind (lesser o y) z
kept_lesser None y z h = absurd h
kept_lesser (Some x) y z h = omega (arith, h)

row_lesser : (o : Option ℕ) (y : ℕ) → Behind (lesser o y) y
row_lesser None y = omega arith
row_lesser (Some x) y = omega arith

min_cases : (x y : ℕ) → (min x y ≡ x) ⊎ (min x y ≡ y)
min_cases x y = grind arith

some_lesser : (Q : ℕ → Type 0) (o : Option ℕ) (y : ℕ) → IfSome o Q → Q y → IfSome (lesser o y) Q
some_lesser Q None y h q = q
some_lesser Q (Some x) y h q = turn (min_cases x y)
  where
    turn : ((min x y ≡ x) ⊎ (min x y ≡ y)) → Q (min x y)
    turn (inl e) = subst Q (sym e) h
    turn (inr e) = subst Q (sym e) q

-- ---- what waits for a row of a node, or can run where one is live

module _ (m : MarksSeen) (u : ℕ) (rows : List ℕ) (e : rows ≡ at m.makes u) where
  pub near_some : (v : ℕ) → Near m u v → ((r : ℕ) × In r rows × Waits m r v) ⊎ Runs m v
  near_some v q = turn q.2
    where
      turn : Waits m q.0 v ⊎ ((flag m.live q.0 ≡ true) × Runs m v) → ((r : ℕ) × In r rows × Waits m r v) ⊎ Runs m v
      turn (inl w) = inl (q.0, subst (In q.0) (sym e) q.1, w)
      turn (inr l) = inr l.1

  pub near_waits : ((r : ℕ) → In r rows → flag m.live r ≡ true → ⊥) → (v : ℕ) → Near m u v → (r : ℕ) × In r rows × Waits m r v
  near_waits none v q = turn q.2
    where
      i : In q.0 rows
      i = subst (In q.0) (sym e) q.1

      turn : Waits m q.0 v ⊎ ((flag m.live q.0 ≡ true) × Runs m v) → (r : ℕ) × In r rows × Waits m r v
      turn (inl w) = (q.0, i, w)
      turn (inr l) = absurd (none q.0 i l.0)

module _ {P : Type 0} (t : TableSeen P) (task : TaskId) (m : MarksSeen) where
  pub may_near : (u : ℕ) → node_of t task ≡ Some u → (v : ℕ) → MayFollow t task m v → Near m u v
  may_near u e v q =
      let s : Some q.0 ≡ Some u = sym q.1 ∙ e in
      let p : q.0 ≡ u = cc in
      subst (λ x. Near m x v) p q.2

  -- ---- one node

  pub better_fewer : (few many : ℕ → Type 0) (o n : Option ℕ) → ((v : ℕ) → few v → many v) → Better t task m many o n → Better t task m few o n
  better_fewer few many o n f b = record { some = b.some; kept = b.kept; all = λ v z a. b.all v z (f v a) }

  pub better_same : (among : ℕ → Type 0) (o : Option ℕ) → ((v : ℕ) → among v → NodeFollows t task m v → (z : ℕ) → Least m.makes v z → ⊥)
      → Better t task m among o o
  better_same among o f = record { some = λ h. h; kept = λ z h. h; all = λ v z a n l. absurd (f v a n z l) }

  pub better_node : (node row : ℕ) (o n : Option ℕ) → NodeFollows t task m node → Least m.makes node row → n ≡ lesser o row
      → Better t task m (λ v. v ≡ node) o n
  better_node node row o n f l e =
      record {
        some = λ h. subst (λ x. IfSome x (LeastFollows t task m)) (sym e)
            (some_lesser (LeastFollows t task m) o row h (node, f, l));
        kept = λ z h. subst (λ x. Behind x z) (sym e) (kept_lesser o row z h);
        all = λ v z a g k. all v z a k;
      }
    where
      all : (v z : ℕ) → v ≡ node → Least m.makes v z → Behind n z
      all v z a k =
          let s : Some z ≡ Some row = sym k ∙ (ap (λ x. slice_get (at m.makes x) 0) a ∙ l) in
          let p : row ≡ z = cc in
          subst (λ x. Behind x z) (sym e) (subst (Behind (lesser o row)) p (row_lesser o row))

  -- first some, then others
  pub better_both : (first then both : ℕ → Type 0) (a b c : Option ℕ) → ((v : ℕ) → both v → first v ⊎ then v) → Better t task m first a b
      → Better t task m then b c → Better t task m both a c
  better_both first then both a b c f p q =
      record {
        some = λ h. q.some (p.some h);
        kept = λ z h. q.kept z (p.kept z h);
        all = λ v z w n l. all v z n l (f v w);
      }
    where
      all : (v z : ℕ) → NodeFollows t task m v → Least m.makes v z → first v ⊎ then v → Behind c z
      all v z n l (inl x) = q.kept z (p.all v z x n l)
      all v z n l (inr x) = q.all v z x n l

  -- ---- those that belong to each of some numbers

  module _ (among : ℕ → ℕ → Type 0) (xs : List ℕ) where
    -- those of the first of the numbers were looked at
    pub record Looked (i : ℕ) (old best : Option ℕ) : Type 0 where
      pub some : IfSome old (LeastFollows t task m) → IfSome best (LeastFollows t task m)
      pub kept : (z : ℕ) → Behind old z → Behind best z
      pub all : (x v z : ℕ) → In x xs → among x v → NodeFollows t task m v → Least m.makes v z → Behind best z ⊎ In x (drop i xs)

    pub looked_none : (o : Option ℕ) → Looked 0 o o
    looked_none o = record { some = λ h. h; kept = λ z h. h; all = λ x v z h a n l. inr h }

    pub looked_more : (i : ℕ) (old best new : Option ℕ) → i < length xs → Better t task m (among (get_or xs i 0)) best new → Looked i old best
        → Looked (i + 1) old new
    looked_more i old best new l b k =
        record {
          some = λ h. b.some (k.some h);
          kept = λ z h. b.kept z (k.kept z h);
          all = λ x v z h a n e. all x v z a n e (k.all x v z h a n e);
        }
      where
        cut : drop i xs ≡ get_or xs i 0 ∷ drop (i + 1) xs
        cut = drop-cons xs i 0 l ∙ ap (λ j. get_or xs i 0 ∷ drop j xs) (sym (add-one i))

        next : (x v z : ℕ) → among x v → NodeFollows t task m v → Least m.makes v z → In x (get_or xs i 0 ∷ drop (i + 1) xs) → Behind new z
            ⊎ In x (drop (i + 1) xs)
        next x v z a n e (inl s) = inl (b.all v z (subst (λ y. among y v) s a) n e)
        next x v z a n e (inr h) = inr h

        all : (x v z : ℕ) → among x v → NodeFollows t task m v → Least m.makes v z → Behind best z ⊎ In x (drop i xs) → Behind new z
            ⊎ In x (drop (i + 1) xs)
        all x v z a n e (inl h) = inl (b.kept z h)
        all x v z a n e (inr h) = next x v z a n e (subst (In x) cut h)

    pub looked_all : (i : ℕ) (old best : Option ℕ) → length xs ≤ i → Looked i old best
        → Better t task m (λ v. (x : ℕ) × In x xs × among x v) old best
    looked_all i old best l k =
        record {
          some = k.some;
          kept = k.kept;
          all = λ v z q n e. done q.0 z (k.all q.0 v z q.1 q.2 n e);
        }
      where
        done : (x z : ℕ) → Behind best z ⊎ In x (drop i xs) → Behind best z
        done x z (inl h) = h
        done x z (inr h) = absurd (subst (In x) (drop_end xs i l) h)
