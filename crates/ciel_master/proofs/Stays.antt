-- The tasks of the orders that stay where one is closed.
use Rattle.std.proofs.Common.{◌≡◌, ℕ, List, [], ◌∷◌, ◌++◌, Bool, true, false, not, cond, filter, nat_eq, eq-eqb, eqb-true, Some, None, ◌⊎◌, inl, inr}
use Rattle.std.proofs.Common.{refl, ap, sym, ◌∙◌, subst}
use Rattle.sky_base.specs.declared.object.TaskId.{TaskId}
use Rattle.ciel_master_board.specs.Board.{OrderOut, tasks_out}
use Rattle.ciel_master_board.specs.Moves.{without}
use Rattle.ciel_master_board.proofs.SoundLemmas.{same_self}
use Rattle.ciel_journal.specs.Job.{In}
use Rattle.ciel_journal.proofs.Members.{agree, bool_cases}
use Rattle.ciel_want.specs.Waited.{same_id}
use Rattle.ciel_want.proofs.Listed.{same_exact}
use Rattle.ciel_master.specs.Orders.{OneEach, worker_order}

-- where two tests, one of orders and one of their tasks, agree
tasks_kept : (p : OrderOut → Bool) (q : TaskId → Bool) (os : List OrderOut) → ((y : OrderOut) → In y os → q y.task ≡ p y)
    → filter q (tasks_out os) ≡ tasks_out (filter p os)
tasks_kept p q [] h = refl
tasks_kept p q (y ∷ ys) h =
    ap (λ b. cond b (y.task ∷ filter q (tasks_out ys)) (filter q (tasks_out ys))) (h y (inl refl))
    ∙ pick (p y) (tasks_kept p q ys (λ z i. h z (inr i)))
  where
    pick : (b : Bool) → filter q (tasks_out ys) ≡ tasks_out (filter p ys) → cond b (y.task ∷ filter q (tasks_out ys)) (filter q (tasks_out ys))
        ≡ tasks_out (cond b (y ∷ filter p ys) (filter p ys))
    pick true e = ap (λ ts. y.task ∷ ts) e
    pick false e = e

module _ (os : List OrderOut) (one : OneEach os) (x : OrderOut) (here : In x os) where
  alike : (y : OrderOut) → x ≡ y → same_id x.task y.task ≡ true
  alike y e = subst (λ (z : OrderOut). same_id x.task z.task ≡ true) e (same_self x.task)

  same_number : (y : OrderOut) → In y os → same_id x.task y.task ≡ nat_eq x.number y.number
  same_number y i =
      agree (same_id x.task y.task) (nat_eq x.number y.number)
      (λ t. eq-eqb x.number y.number (ap (λ (z : OrderOut). z.number) (one.tasks x y here i (same_exact x.task y.task t))))
      (λ t. alike y (one.numbers x y here i (eqb-true x.number y.number t)))

  same_worker : (y : OrderOut) → In y os → same_id x.task y.task ≡ nat_eq x.worker y.worker
  same_worker y i =
      agree (same_id x.task y.task) (nat_eq x.worker y.worker)
      (λ t. eq-eqb x.worker y.worker (ap (λ (z : OrderOut). z.worker) (one.tasks x y here i (same_exact x.task y.task t))))
      (λ t. alike y (one.workers x y here i (eqb-true x.worker y.worker t)))

  -- it is closed by its number
  pub closed_tasks : filter (λ z. not (same_id x.task z)) (tasks_out os) ≡ tasks_out (without x.number os)
  closed_tasks = tasks_kept (λ (y : OrderOut). not (nat_eq x.number y.number)) (λ z. not (same_id x.task z)) os (λ y i. ap not (same_number y i))

  -- by its worker
  pub lost_tasks : (w : ℕ) → w ≡ x.worker → filter (λ z. not (same_id x.task z)) (tasks_out os)
      ≡ tasks_out (filter (λ (y : OrderOut). not (nat_eq w y.worker)) os)
  lost_tasks w e =
      tasks_kept (λ (y : OrderOut). not (nat_eq w y.worker)) (λ z. not (same_id x.task z)) os
      (λ y i. ap not (same_worker y i ∙ ap (λ v. nat_eq v y.worker) (sym e)))

-- the order of a worker is one of them
pub worker_in : (w : ℕ) (os : List OrderOut) (x : OrderOut) → worker_order w os ≡ Some x → In x os × (w ≡ x.worker)
worker_in w [] x e = cc
worker_in w (y ∷ ys) x e = pick (bool_cases (nat_eq w y.worker)) (worker_in w ys x)
  where
    pick : ((nat_eq w y.worker ≡ true) ⊎ (nat_eq w y.worker ≡ false)) → (worker_order w ys ≡ Some x → In x ys × (w ≡ x.worker)) → In x (y ∷ ys)
        × (w ≡ x.worker)
    pick (inl t) r =
        let h : Some y ≡ Some x = sym (ap (λ b. cond b (Some y) (worker_order w ys)) t) ∙ e in
        let q : y ≡ x = cc in
        (inl (sym q), eqb-true w y.worker t ∙ ap (λ (z : OrderOut). z.worker) q)
    pick (inr t) r =
        let k = r (sym (ap (λ b. cond b (Some y) (worker_order w ys)) t) ∙ e) in (inr k.0, k.1)

abbrev elsewhere : ℕ → List OrderOut → List OrderOut
elsewhere w os = filter (λ (y : OrderOut). not (nat_eq w y.worker)) os

-- where it has none, all stay
pub none_lost : (w : ℕ) (os : List OrderOut) → worker_order w os ≡ None → elsewhere w os ≡ os
none_lost w [] e = refl
none_lost w (y ∷ ys) e = pick (nat_eq w y.worker) (elsewhere w ys) e (none_lost w ys)
  where
    pick : (b : Bool) (rest : List OrderOut) → cond b (Some y) (worker_order w ys) ≡ None → (worker_order w ys ≡ None → rest ≡ ys)
        → cond (not b) (y ∷ rest) rest ≡ y ∷ ys
    pick true rest k r = let bad : Some y ≡ None = k in cc
    pick false rest k r = ap (λ zs. y ∷ zs) (r k)

-- an order more
pub tasks_join : (os : List OrderOut) (x : OrderOut) → tasks_out (os ++ x ∷ []) ≡ tasks_out os ++ x.task ∷ []
tasks_join [] x = refl
tasks_join (y ∷ ys) x = ap (λ ts. y.task ∷ ts) (tasks_join ys x)
