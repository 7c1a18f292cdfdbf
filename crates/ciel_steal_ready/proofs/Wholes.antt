-- What was put is what was taken and what the queues hold.
use Rattle.std.proofs.Common.{◌≡◌, ℕ, ◌+◌, List, [], ◌∷◌, map, sym, refl, ap, ◌∙◌, arith}
use Rattle.std.specs.Prelude.{All}
use Rattle.std.proofs.lemmas.List.Elements.{All-head, All-tail}
use Rattle.ciel_steal_ready.specs.declared.rule.Hand.{Hand}
use Rattle.ciel_steal_ready.specs.Balance.{weigh, total}
use Rattle.ciel_steal_ready.specs.Found.{EndsSeen}
use Rattle.ciel_steal_ready.specs.Seats.{Tallies}
use Rattle.ciel_steal_ready.specs.Whole.{Bench, BenchKept, EachKept, sum_of, JobsAreKept}

module _ {T : Type 0} (h : T → ℕ) where
  none_put : (views : List (Hand T)) → All (λ v. v.put ≡ []) views → total (λ v. weigh h v.put) views ≡ 0
  none_put [] all = refl
  none_put (v ∷ vs) all =
      let i = none_put vs (All-tail (λ (u : Hand T). u.put ≡ []) v vs all) in
      let n = ap (λ (xs : List T). weigh h xs) (All-head (λ (u : Hand T). u.put ≡ []) v vs all) in
      omega arith

  none_put_by : (bs : List (Bench T)) → EachKept bs → sum_of (λ b. total (λ v. weigh h v.put) b.ends.others) bs ≡ 0
  none_put_by [] each = refl
  none_put_by (b ∷ bs) each = let i = none_put_by bs each.1 in let n = none_put b.ends.others each.0.tallies.others in omega arith

  shared_put : (bs : List (Bench T)) → EachKept bs → total (λ v. weigh h v.put) (map (λ b. b.ends.shared) bs) ≡ 0
  shared_put [] each = refl
  shared_put (b ∷ bs) each =
      let i = shared_put bs each.1 in
      let n = ap (λ (xs : List T). weigh h xs) each.0.tallies.shared in
      omega arith

  -- the rules of all own queues, added up
  rules : (bs : List (Bench T)) → EachKept bs → sum_of (λ b. weigh h b.ends.own.put) bs + sum_of (λ b. total (λ v. weigh h v.put) b.thieves) bs
      ≡ sum_of (λ b. weigh h b.ends.own.taken) bs + sum_of (λ b. total (λ v. weigh h v.taken) b.thieves) bs + sum_of (λ b. weigh h b.items) bs
  rules [] each = refl
  rules (b ∷ bs) each = let i = rules bs each.1 in let n = each.0.rule h in omega arith

  -- what all seats have taken, added up
  tallies : (bs : List (Bench T)) → EachKept bs → sum_of (λ b. weigh h b.taken) bs + sum_of (λ b. weigh h b.ends.own.put) bs
      ≡ sum_of (λ b. weigh h b.ends.own.taken) bs + total (λ v. weigh h v.taken) (map (λ b. b.ends.shared) bs)
      + sum_of (λ b. total (λ v. weigh h v.taken) b.ends.others) bs
  tallies [] each = refl
  tallies (b ∷ bs) each = let i = tallies bs each.1 in let n = each.0.tallies.adds h in omega arith

pub jobs_are_kept : (T : Type 0) → JobsAreKept T
jobs_are_kept T master items bs none rule each same h =
    let r = rules h bs each in
    let t = tallies h bs each in
    let p = same (λ v. weigh h v.put) in
    let q = same (λ v. weigh h v.taken) in
    let z = none_put_by h bs each in
    let s = shared_put h bs each in
    let m = ap (λ (xs : List T). weigh h xs) none in
    let o = rule h in
    omega arith
