-- What an order brings along, and from where.
use Rattle.std.proofs.Common.{◌≡◌, ℕ, List, [], ◌∷◌, Bool, true, false, cond, ◌||◌, map, nat_eq, nat_lt, eqb-true, Option, Some, None, ◌⊎◌, inl, inr}
use Rattle.std.proofs.Common.{refl, ap, sym, ◌∙◌, subst}
use Rattle.std.specs.List.{AllByRecursion, list_any}
use Rattle.std.specs.Option.{option_map}
use Rattle.sky_base.specs.Val.{same_text}
use Rattle.sky_base.proofs.Exact.{exact_text, self_text}
use Rattle.ciel_journal.specs.Job.{Digest, In}
use Rattle.ciel_journal.specs.Lawful.{least, least_with}
use Rattle.ciel_journal.proofs.Members.{bool_cases}
use Rattle.ciel_table.specs.Seen.{TableSeen}
use Rattle.ciel_master_board.specs.Board.{Spot, brought, brought_names, least_place, lesser, or_least, place_at, place_for, spot_for, spot_of, with_spot}
use Rattle.ciel_master_board.specs.Follows.{FetchedAt, worker_for}
use Rattle.ciel_master_board.specs.Setting.{HasObject, Setting}

-- ---- the spot of a name

module _ {P : Type 0} (at : P → ℕ) (keys : List (List ℕ)) (w : ℕ) (t : TableSeen P) where
  not_brought : (n : Digest) (ns : List Digest) → spot_for at keys w t n ≡ None → spot_of n (brought at keys w t ns) ≡ None
  not_brought n [] e = refl
  not_brought n (m ∷ ms) e = pick (spot_for at keys w t m) refl (not_brought n ms e)
    where
      pick : (o : Option (Spot P)) → spot_for at keys w t m ≡ o → spot_of n (brought at keys w t ms) ≡ None
          → spot_of n (with_spot at m o (brought at keys w t ms)) ≡ None
      pick None f r = r
      pick (Some u) f r = turn (bool_cases (same_text n m))
        where
          turn : ((same_text n m ≡ true) ⊎ (same_text n m ≡ false)) → spot_of n (with_spot at m (Some u) (brought at keys w t ms)) ≡ None
          turn (inl y) =
              let k : None ≡ Some u = sym e ∙ (ap (spot_for at keys w t) (exact_text n m y) ∙ f) in cc
          turn (inr y) = ap (λ b. cond b (Some u) (spot_of n (brought at keys w t ms))) y ∙ r

  -- a name of the list stands where it is taken from, if it is live
  pub spot_brought : (n : Digest) (ns : List Digest) → In n ns → spot_of n (brought at keys w t ns) ≡ spot_for at keys w t n
  spot_brought n [] i = absurd i
  spot_brought n (m ∷ ms) i = pick (spot_for at keys w t m) refl i (spot_brought n ms)
    where
      pick : (o : Option (Spot P)) → spot_for at keys w t m ≡ o → In n (m ∷ ms)
          → (In n ms → spot_of n (brought at keys w t ms) ≡ spot_for at keys w t n) → spot_of n (with_spot at m o (brought at keys w t ms))
          ≡ spot_for at keys w t n
      pick None f (inl y) r =
          let k : spot_for at keys w t n ≡ None = ap (spot_for at keys w t) y ∙ f in not_brought n ms k ∙ sym k
      pick None f (inr j) r = r j
      pick (Some u) f (inl y) r =
          ap (λ b. cond b (Some u) (spot_of n (brought at keys w t ms))) (subst (λ z. same_text n z ≡ true) y (self_text n))
          ∙ sym (ap (spot_for at keys w t) y ∙ f)
      pick (Some u) f (inr j) r = turn (bool_cases (same_text n m))
        where
          turn : ((same_text n m ≡ true) ⊎ (same_text n m ≡ false)) → spot_of n (with_spot at m (Some u) (brought at keys w t ms))
              ≡ spot_for at keys w t n
          turn (inl y) =
              ap (λ b. cond b (Some u) (spot_of n (brought at keys w t ms))) y ∙ sym (ap (spot_for at keys w t) (exact_text n m y) ∙ f)
          turn (inr y) = ap (λ b. cond b (Some u) (spot_of n (brought at keys w t ms))) y ∙ r j

  -- what is brought stands in the list
  pub brought_in : (n : Digest) (ns : List Digest) → In n (brought_names (brought at keys w t ns)) → In n ns
  brought_in n [] i = absurd i
  brought_in n (m ∷ ms) i = pick (spot_for at keys w t m) i (brought_in n ms)
    where
      pick : (o : Option (Spot P)) → In n (brought_names (with_spot at m o (brought at keys w t ms)))
          → (In n (brought_names (brought at keys w t ms)) → In n ms) → In n (m ∷ ms)
      pick None j r = inr (r j)
      pick (Some u) (inl y) r = inl y
      pick (Some u) (inr j) r = inr (r j)

-- ---- the place that is taken

module _ {D P B : Type 0} (s : Setting D P B) (d : D) where
  abbrev Has : P → Type 0
  Has p = HasObject s p d

  -- at this worker there is none, or this one
  abbrev At : ℕ → List P → Type 0
  At w ps =
      ((place_at s.at w ps ≡ None) × (list_any (nat_eq w) (map s.at ps) ≡ false))
      ⊎ ((p : P) × (place_at s.at w ps ≡ Some p) × (list_any (nat_eq w) (map s.at ps) ≡ true) × (s.at p ≡ w) × Has p)

  at_is : (w : ℕ) (ps : List P) → AllByRecursion Has ps → At w ps
  at_is w [] a = inl (refl, refl)
  at_is w (p ∷ ps) a = pick (bool_cases (nat_eq w (s.at p))) (at_is w ps a.1)
    where
      other : nat_eq w (s.at p) ≡ false → At w ps → At w (p ∷ ps)
      other n (inl q) = inl (ap (λ b. cond b (Some p) (place_at s.at w ps)) n ∙ q.0, ap (λ b. b || list_any (nat_eq w) (map s.at ps)) n ∙ q.1)
      other n (inr q) = inr (
        q.0,
        ap (λ b. cond b (Some p) (place_at s.at w ps)) n ∙ q.1,
        ap (λ b. b || list_any (nat_eq w) (map s.at ps)) n
            ∙ q.2,
        q.3,
        q.4,
      )

      pick : ((nat_eq w (s.at p) ≡ true) ⊎ (nat_eq w (s.at p) ≡ false)) → At w ps → At w (p ∷ ps)
      pick (inl y) r = inr (
        p,
        ap (λ b. cond b (Some p) (place_at s.at w ps)) y,
        ap (λ b. b || list_any (nat_eq w) (map s.at ps)) y,
        sym (eqb-true w (s.at p) y),
        a.0,
      )
      pick (inr n) r = other n r

  -- there is none, or this one at the least worker
  abbrev Least : List P → Type 0
  Least ps =
      ((least_place s.at ps ≡ None) × (least s.job (map s.at ps) ≡ None))
      ⊎ ((p : P) × (least_place s.at ps ≡ Some p) × (least s.job (map s.at ps) ≡ Some (s.at p)) × Has p)

  least_is : (ps : List P) → AllByRecursion Has ps → Least ps
  least_is [] a = inl (refl, refl)
  least_is (p ∷ ps) a = pick (least_is ps a.1)
    where
      turn : (b : Bool) (q : P) → nat_lt (s.at q) (s.at p) ≡ b → least_place s.at ps ≡ Some q → least s.job (map s.at ps) ≡ Some (s.at q) → Has q
          → Least (p ∷ ps)
      turn true q e f g k = inr (
        q,
        ap (lesser s.at p) f ∙ ap (λ b. cond b (Some q) (Some p)) e,
        ap (least_with s.job (s.at p)) g
            ∙ ap (λ b. cond b (Some (s.at q)) (Some (s.at p))) e,
        k,
      )
      turn false q e f g k = inr (
        p,
        ap (lesser s.at p) f ∙ ap (λ b. cond b (Some q) (Some p)) e,
        ap (least_with s.job (s.at p)) g
            ∙ ap (λ b. cond b (Some (s.at q)) (Some (s.at p))) e,
        a.0,
      )

      pick : Least ps → Least (p ∷ ps)
      pick (inl q) = inr (p, ap (lesser s.at p) q.0, ap (least_with s.job (s.at p)) q.1, a.0)
      pick (inr q) = turn (nat_lt (s.at q.0) (s.at p)) q.0 refl q.1 q.2 q.3

  abbrev Goal : Option ℕ → Option P → Type 0
  Goal u o = FetchedAt s d u (option_map Spot.shelf o)

  -- the object lies at the place that an order takes, which is at the worker that the journal says
  pub fetched : (w : ℕ) (ps : List P) → AllByRecursion Has ps
      → FetchedAt s d (worker_for s.job w (map s.at ps)) (option_map Spot.shelf (place_for s.at w ps))
  fetched w ps a = pick (at_is w ps a) (least_is ps a)
    where
      answer : (u : Option ℕ) (o : Option P) → worker_for s.job w (map s.at ps) ≡ u → place_for s.at w ps ≡ o → Goal u o
          → Goal (worker_for s.job w (map s.at ps)) (place_for s.at w ps)
      answer u o e f g = subst (λ z. Goal z (place_for s.at w ps)) (sym e) (subst (Goal u) (sym f) g)

      pick : At w ps → Least ps → Goal (worker_for s.job w (map s.at ps)) (place_for s.at w ps)
      pick (inr p) r = answer (Some w) (Some p.0) (ap (λ b. cond b (Some w) (least s.job (map s.at ps))) p.2) (ap (λ o. or_least s.at o ps) p.1)
          (p.0, refl, p.3, p.4)
      pick (inl n) (inl q) = answer None None (ap (λ b. cond b (Some w) (least s.job (map s.at ps))) n.1 ∙ q.1)
          (ap (λ o. or_least s.at o ps) n.0 ∙ q.0) refl
      pick (inl n) (inr q) = answer (Some (s.at q.0)) (Some q.0) (ap (λ b. cond b (Some w) (least s.job (map s.at ps))) n.1 ∙ q.2)
          (ap (λ o. or_least s.at o ps) n.0 ∙ q.1) (q.0, refl, refl, q.3)
