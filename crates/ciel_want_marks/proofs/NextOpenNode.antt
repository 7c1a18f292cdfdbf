-- The next node whose needs are to be looked at.
use Rattle.std.proofs.Common.{◌≡◌, ◌≤◌, ◌+◌, arith, length, length-append, ℕ, zero, suc, List, [], ◌∷◌, ◌++◌, refl, ap, sym, ◌∙◌, subst, ◌⊎◌, inl}
use Rattle.std.proofs.Common.{inr}
use Rattle.ciel_journal.specs.Job.{In}
use Rattle.ciel_want_marks.specs.Marks.{Active, Counted, Listed, MarksSeen, Needs, Right, Stands}
use Rattle.ciel_want_marks.proofs.Slots.{in_push}
use Rattle.ciel_want_marks.proofs.KeptMarks.{counted_still}

module _ (m n : MarksSeen) (needs : Needs) (same : n ≡ record m { todo = n.todo }) where
  -- where what was to be looked at still is, or is this one
  opened : (fresh : List ℕ) → Stands m needs [] [] → ((w : ℕ) → Active m w → In w m.todo → In w n.todo ⊎ In w fresh) → Stands n needs fresh []
  opened fresh s f =
      subst (λ x. Stands x needs fresh []) (sym same) (record {
        shape = record {
          makers = s.shape.makers;
          watchers = s.shape.watchers;
          wanted = s.shape.wanted;
          out = s.shape.out;
          touched = s.shape.touched;
          makes = s.shape.makes;
          lacks = s.shape.lacks;
          nodes = s.shape.nodes;
        };
        filed = s.filed;
        root = s.root;
        justified = s.justified;
        counted = λ w a. turn w a (s.counted w a);
        ready = s.ready;
      })
    where
      listed : (w : ℕ) → Listed m w → Listed (record m { todo = n.todo }) w
      listed zero l = tt
      listed (suc e) l = l

      turn : (w : ℕ) → Active m w → (Counted m needs [] w ⊎ (In w m.todo ⊎ In w [])) → Counted (record m { todo = n.todo }) needs [] w
          ⊎ (In w n.todo ⊎ In w fresh)
      turn w a (inl c) =
          inl (counted_still m (record m { todo = n.todo }) needs needs [] [] w refl (λ d y. y) (λ d q. inr q) refl (λ q. (q.0, listed w q.1))
          (λ x. inl x) (λ h. h) c)
      turn w a (inr (inl h)) = inr (f w a h)
      turn w a (inr (inr h)) = absurd h

  module _ (u : ℕ) (last : m.todo ≡ n.todo ++ u ∷ []) where
    pub opens_some : Stands m needs [] [] → Stands n needs (u ∷ []) []
    opens_some s = opened (u ∷ []) s (λ w a h. turn w (in_push n.todo u w (subst (In w) last h)))
      where
        turn : (w : ℕ) → (In w n.todo ⊎ (w ≡ u)) → In w n.todo ⊎ In w (u ∷ [])
        turn w (inl h) = inl h
        turn w (inr e) = inr (inl e)

    pub opens_not : (Active m u → ⊥) → Stands m needs [] [] → Stands n needs [] []
    opens_not g s = opened [] s (λ w a h. turn w a (in_push n.todo u w (subst (In w) last h)))
      where
        turn : (w : ℕ) → Active m w → (In w n.todo ⊎ (w ≡ u)) → In w n.todo ⊎ In w []
        turn w a (inl h) = inl h
        turn w a (inr e) = absurd (g (subst (Active m) e a))

  pub opens_none : m.todo ≡ [] → n.todo ≡ [] → Stands m needs [] [] → Right n needs
  opens_none e f s = (opened [] s (λ w a h. absurd (subst (In w) e h)), f)

-- one after another
pub pops_same : (l m n : MarksSeen) → m ≡ record l { todo = m.todo } → n ≡ record m { todo = n.todo } → n ≡ record l { todo = n.todo }
pops_same l m n a b = b ∙ ap (λ (x : MarksSeen). record x { todo = n.todo }) a

pub pops_fewer : (l m n : MarksSeen) (u : ℕ) → m.todo ≡ n.todo ++ u ∷ [] → length m.todo ≤ length l.todo → length n.todo ≤ length l.todo
pops_fewer l m n u e a =
    let x = ap length e in
    let y : length (n.todo ++ u ∷ []) ≡ length n.todo + 1 = length-append n.todo (u ∷ []) in
    omega (arith, x, y, a)

pub was_idle : (m n : MarksSeen) (u : ℕ) → n ≡ record m { todo = n.todo } → (Active n u → ⊥) → Active m u → ⊥
was_idle m n u e f a = f (subst (λ x. Active x u) (sym e) a)
