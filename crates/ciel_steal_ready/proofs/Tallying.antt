-- What a seat has taken, after a step.
use Rattle.std.proofs.Common.{◌≡◌, ℕ, zero, suc, ◌+◌, List, [], ◌∷◌, ◌++◌, set, sym, refl, ap, ◌∙◌, subst, arith, Some}
use Rattle.std.specs.Prelude.{All, slice_get}
use Rattle.std.proofs.lemmas.List.Elements.{All-set, All-head, All-tail}
use Rattle.std.proofs.lemmas.Option.{slice_get_within, get_or_from_slice_get}
use Rattle.ciel_steal_ready.specs.declared.rule.Hand.{Hand}
use Rattle.ciel_steal_ready.specs.Balance.{idle, has_put, has_taken, weigh, total}
use Rattle.ciel_steal_ready.specs.Found.{EndsSeen, Got, popped, fetched, robbed}
use Rattle.ciel_steal_ready.specs.Seats.{Tallies}
use Rattle.ciel_steal_ready.specs.Balancing.{weigh-append}

module _ {T : Type 0} where
  total-at : (f : Hand T → ℕ) (views : List (Hand T)) (k : ℕ) (v w : Hand T) → slice_get views k ≡ Some v
      → total f (set views k w) + f v ≡ total f views + f w
  total-at f [] k v w e = absurd cc
  total-at f (x ∷ xs) zero v w e = let same : x ≡ v = cc in let n = ap f same in omega arith
  total-at f (x ∷ xs) (suc k) v w e = let i = total-at f xs k v w e in omega arith

  none_put : (views : List (Hand T)) (k : ℕ) (v : Hand T) → slice_get views k ≡ Some v → All (λ u. u.put ≡ []) views → v.put ≡ []
  none_put views k v e all = subst (λ (u : Hand T). u.put ≡ []) (get_or_from_slice_get views k v v e) (all k v (slice_get_within views k v e))

  total_idle : (f : Hand T → ℕ) (views : List (Hand T)) → f idle ≡ 0 → All (λ u. u ≡ idle) views → total f views ≡ 0
  total_idle f [] z all = refl
  total_idle f (v ∷ vs) z all =
      let i = total_idle f vs z (All-tail (λ (u : Hand T). u ≡ idle) v vs all) in
      let n = ap f (All-head (λ (u : Hand T). u ≡ idle) v vs all) in
      omega arith

  pub fresh : (e : EndsSeen (Hand T)) (taken : List T) → e.own ≡ idle → e.shared ≡ idle → All (λ u. u ≡ idle) e.others → taken ≡ []
      → Tallies e taken
  fresh e taken own shared others none = record {
    adds = λ h.
        let o = ap (λ (v : Hand T). weigh h v.put) own in
        let p = ap (λ (v : Hand T). weigh h v.taken) own in
        let s = ap (λ (v : Hand T). weigh h v.taken) shared in
        let t = ap (λ (xs : List T). weigh h xs) none in
        let r = total_idle (λ v. weigh h v.taken) e.others refl others in
        omega arith;
    shared = ap (λ (v : Hand T). v.put) shared;
    others = λ k d lt. ap (λ (v : Hand T). v.put) (others k d lt);
  }

  abbrev Took : Hand T → List T → Hand T → Type 0
  Took v xs w = w ≡ has_taken v xs

  abbrev Put : Hand T → List T → Hand T → Type 0
  Put v xs w = w ≡ has_put v xs

  pub after : (x : T) (s s' : EndsSeen (Hand T)) (t t' : List T) → t' ≡ t ++ x ∷ [] → Got Took Put x s s' → Tallies s t → Tallies s' t'
  after x s s' t t' more (popped p) b = record {
    adds = λ h.
        let o = ap (λ (v : Hand T). weigh h v.put) p.own in
        let q = ap (λ (v : Hand T). weigh h v.taken) p.own in
        let u = ap (λ (v : Hand T). weigh h v.taken) p.shared in
        let r = ap (λ (vs : List (Hand T)). total (λ v. weigh h v.taken) vs) p.others in
        let m = ap (λ (xs : List T). weigh h xs) more in
        let was = b.adds h in
        omega (arith, weigh-append h t (x ∷ []), weigh-append h s.own.taken (x ∷ []));
    shared = ap (λ (v : Hand T). v.put) p.shared ∙ b.shared;
    others = subst (λ (vs : List (Hand T)). All (λ v. v.put ≡ []) vs) (sym p.others) b.others;
  }
  after x s s' t t' more (fetched p) b = record {
    adds = λ h.
        let o = ap (λ (v : Hand T). weigh h v.put) p.own in
        let q = ap (λ (v : Hand T). weigh h v.taken) p.own in
        let u = ap (λ (v : Hand T). weigh h v.taken) p.shared in
        let r = ap (λ (vs : List (Hand T)). total (λ v. weigh h v.taken) vs) p.others in
        let m = ap (λ (xs : List T). weigh h xs) more in
        let was = b.adds h in
        omega (arith, weigh-append h t (x ∷ []), weigh-append h s.own.put p.rest, weigh-append h s.shared.taken (x ∷ p.rest));
    shared = ap (λ (v : Hand T). v.put) p.shared ∙ b.shared;
    others = subst (λ (vs : List (Hand T)). All (λ v. v.put ≡ []) vs) (sym p.others) b.others;
  }
  after x s s' t t' more (robbed p) b =
      let one = p.others in
      let was_none = none_put s.others one.at one.was one.there b.others in record {
        adds = λ h.
            let o = ap (λ (v : Hand T). weigh h v.put) p.own in
            let q = ap (λ (v : Hand T). weigh h v.taken) p.own in
            let u = ap (λ (v : Hand T). weigh h v.taken) p.shared in
            let r = ap (λ (vs : List (Hand T)). total (λ v. weigh h v.taken) vs) one.after in
            let n = total-at (λ v. weigh h v.taken) s.others one.at one.was one.is one.there in
            let k = ap (λ (v : Hand T). weigh h v.taken) one.took_one in
            let m = ap (λ (xs : List T). weigh h xs) more in
            let was = b.adds h in
            omega (arith, weigh-append h t (x ∷ []), weigh-append h one.was.taken (x ∷ []));
        shared = ap (λ (v : Hand T). v.put) p.shared ∙ b.shared;
        others = subst (λ (vs : List (Hand T)). All (λ v. v.put ≡ []) vs) (sym one.after)
            (All-set (λ (v : Hand T). v.put ≡ []) s.others one.at one.is (ap (λ (v : Hand T). v.put) one.took_one ∙ was_none) b.others);
      }
