-- Orders by worker: those of the board, those that workers have, and those that are to be sent.
use Rattle.std.proofs.Common.{◌≡◌, ◌<◌, ◌∙◌, ℕ, zero, suc, List, [], ◌∷◌, ◌++◌, Bool, true, false, ◌||◌, cond, not, filter, length, map, nat_eq}
use Rattle.std.proofs.Common.{is_some, slice_set, Option, Some, None, eqb-true, eq-eqb, inl, inr, refl, sym, ap, subst, arith}
use Rattle.std.proofs.lemmas.List.{append-nil}
use Rattle.std.specs.List.{list_any}
use Rattle.ciel_journal.proofs.Numbers.{filter_in, in_filter}
use Rattle.ciel_journal.specs.Job.{Digest, In, Task}
use Rattle.ciel_log_file.specs.Sending.{CanSend, nobody, sent_to}
use Rattle.ciel_master_board.specs.Board.{OrderOut, find_order, task_key, workers_out}
use Rattle.ciel_master_board.specs.Moves.{without}
use Rattle.ciel_run_onward.specs.Gates.{tasks_at}
use Rattle.ciel_run_onward.specs.Open.{Begun, begun_of}
use Rattle.ciel_task_crew.specs.Crews.{order_at}
use Rattle.ciel_task_order.specs.Views.{out_view}
use Rattle.ciel_task_order.specs.declared.order.Order.{Order}

pub unequal : (k n : ℕ) → (k ≡ n → ⊥) → nat_eq k n ≡ false
unequal k n d = pick (nat_eq k n) refl
  where
    pick : (b : Bool) → nat_eq k n ≡ b → nat_eq k n ≡ false
    pick true e = absurd (d (eqb-true k n e))
    pick false e = e

-- ---- filters

pub filter_more : {A : Type 0} (p : A → Bool) (xs ys : List A) → filter p (xs ++ ys) ≡ filter p xs ++ filter p ys
filter_more p [] ys = refl
filter_more {A} p (x ∷ xs) ys = pick (p x) (filter_more p xs ys)
  where
    pick : (b : Bool) → filter p (xs ++ ys) ≡ filter p xs ++ filter p ys
        → cond b (x ∷ filter p (xs ++ ys)) (filter p (xs ++ ys)) ≡ cond b (x ∷ filter p xs) (filter p xs) ++ filter p ys
    pick true h = ap (λ (zs : List A). x ∷ zs) h
    pick false h = h

pub filter_swap : {A : Type 0} (p q : A → Bool) (xs : List A) → filter p (filter q xs) ≡ filter q (filter p xs)
filter_swap p q [] = refl
filter_swap {A} p q (x ∷ xs) = pick (p x) (q x) refl refl (filter_swap p q xs)
  where
    pick : (b c : Bool) → p x ≡ b → q x ≡ c → filter p (filter q xs) ≡ filter q (filter p xs)
        → filter p (cond c (x ∷ filter q xs) (filter q xs)) ≡ filter q (cond b (x ∷ filter p xs) (filter p xs))
    pick true true pb qc h =
        ap (λ (z : Bool). cond z (x ∷ filter p (filter q xs)) (filter p (filter q xs))) pb ∙ ap (λ (zs : List A). x ∷ zs) h
        ∙ sym (ap (λ (z : Bool). cond z (x ∷ filter q (filter p xs)) (filter q (filter p xs))) qc)
    pick true false pb qc h = h ∙ sym (ap (λ (z : Bool). cond z (x ∷ filter q (filter p xs)) (filter q (filter p xs))) qc)
    pick false true pb qc h = ap (λ (z : Bool). cond z (x ∷ filter p (filter q xs)) (filter p (filter q xs))) pb ∙ h
    pick false false pb qc h = h

-- ---- of the board's orders those at a worker

abbrev pub at_worker : ℕ → List OrderOut → List OrderOut
at_worker w xs = filter (λ (x : OrderOut). nat_eq w x.worker) xs

-- all but those at a worker
abbrev pub but_at : ℕ → List OrderOut → List OrderOut
but_at w xs = filter (λ (x : OrderOut). not (nat_eq w x.worker)) xs

pub none_at_it : (w : ℕ) (xs : List OrderOut) → at_worker w (but_at w xs) ≡ []
none_at_it w [] = refl
none_at_it w (x ∷ xs) = pick (nat_eq w x.worker) refl (none_at_it w xs)
  where
    pick : (b : Bool) → nat_eq w x.worker ≡ b → at_worker w (but_at w xs) ≡ []
        → at_worker w (cond (not b) (x ∷ but_at w xs) (but_at w xs)) ≡ []
    pick true t h = h
    pick false t h = ap (λ (z : Bool). cond z (x ∷ at_worker w (but_at w xs)) (at_worker w (but_at w xs))) t ∙ h

pub same_at_others : (w u : ℕ) → (u ≡ w → ⊥) → (xs : List OrderOut) → at_worker u (but_at w xs) ≡ at_worker u xs
same_at_others w u d [] = refl
same_at_others w u d (x ∷ xs) = pick (nat_eq w x.worker) refl (same_at_others w u d xs)
  where
    pick : (b : Bool) → nat_eq w x.worker ≡ b → at_worker u (but_at w xs) ≡ at_worker u xs
        → at_worker u (cond (not b) (x ∷ but_at w xs) (but_at w xs)) ≡ at_worker u (x ∷ xs)
    pick true t h =
        h ∙ sym (ap (λ (z : Bool). cond z (x ∷ at_worker u xs) (at_worker u xs))
        (unequal u x.worker (λ e. d (e ∙ sym (eqb-true w x.worker t)))))
    pick false t h = ap (λ (ys : List OrderOut). cond (nat_eq u x.worker) (x ∷ ys) ys) h

-- a worker that isn't busy has none
pub idle_has_none : (w : ℕ) (xs : List OrderOut) → list_any (nat_eq w) (workers_out xs) ≡ false → at_worker w xs ≡ []
idle_has_none w [] e = refl
idle_has_none w (x ∷ xs) e = pick (nat_eq w x.worker) e (idle_has_none w xs)
  where
    pick : (b : Bool) → b || list_any (nat_eq w) (workers_out xs) ≡ false
        → (list_any (nat_eq w) (workers_out xs) ≡ false → at_worker w xs ≡ []) → cond b (x ∷ at_worker w xs) (at_worker w xs) ≡ []
    pick true h r = cc
    pick false h r = r h

pub in_at : (u : ℕ) (y : OrderOut) (xs : List OrderOut) → In y xs → y.worker ≡ u → In y (at_worker u xs)
in_at u y xs i e = filter_in (λ (x : OrderOut). nat_eq u x.worker) y xs i (eq-eqb u y.worker (sym e))

pub at_in : (u : ℕ) (y : OrderOut) (xs : List OrderOut) → In y (at_worker u xs) → In y xs
at_in u y xs i = in_filter (λ (x : OrderOut). nat_eq u x.worker) y xs i

-- ---- by number

pub found : (xs : List OrderOut) (y : OrderOut) → In y xs → is_some (find_order y.number xs) ≡ true
found [] y i = absurd i
found (x ∷ xs) y (inl s) =
    ap (λ (z : Bool). is_some (cond z (Some x) (find_order y.number xs))) (eq-eqb y.number x.number (ap (λ (z : OrderOut). z.number) s))
found (x ∷ xs) y (inr i) = pick (nat_eq y.number x.number) (found xs y i)
  where
    pick : (b : Bool) → is_some (find_order y.number xs) ≡ true → is_some (cond b (Some x) (find_order y.number xs)) ≡ true
    pick true h = refl
    pick false h = h

pub found_number : (k : ℕ) (xs : List OrderOut) (y : OrderOut) → find_order k xs ≡ Some y → y.number ≡ k
found_number k [] y e = cc
found_number k (x ∷ xs) y e = pick (nat_eq k x.number) refl e (found_number k xs y)
  where
    pick : (b : Bool) → nat_eq k x.number ≡ b → cond b (Some x) (find_order k xs) ≡ Some y → (find_order k xs ≡ Some y → y.number ≡ k) → y.number ≡ k
    pick true t h r = let q : x ≡ y = cc in sym (eqb-true k x.number t ∙ ap (λ (z : OrderOut). z.number) q)
    pick false t h r = r h

-- ---- what workers have

-- as a list of the board's
abbrev pub has : Option Order → List OrderOut
has None = []
has (Some x) = out_view x ∷ []

-- an order with another number stays
pub other_stays : (n : ℕ) (o : Option Order) → ((y : Order) → o ≡ Some y → y.number ≡ n → ⊥) → without n (has o) ≡ has o
other_stays n None d = refl
other_stays n (Some y) d = ap (λ (z : Bool). cond (not z) (out_view y ∷ []) []) (unequal n y.number (λ e. d y refl (sym e)))

pub it_goes : (n : ℕ) (y : Order) → y.number ≡ n → without n (has (Some y)) ≡ []
it_goes n y e = ap (λ (z : Bool). cond (not z) (out_view y ∷ []) []) (eq-eqb n y.number (sym e))

pub at_below : (out : List (Option Order)) (w : ℕ) (x : Order) → order_at out w ≡ Some x → w < length out
at_below [] w x e = cc
at_below (o ∷ os) zero x e = omega arith
at_below (o ∷ os) (suc w) x e = let l = at_below os w x e in omega (arith, l)

pub at_set : (out : List (Option Order)) (w : ℕ) (o : Option Order) → w < length out → order_at (slice_set out w o) w ≡ o
at_set [] w o l = absurd (omega (arith, l))
at_set (x ∷ xs) zero o l = refl
at_set (x ∷ xs) (suc w) o l = at_set xs w o (omega (arith, l))

pub at_other : (out : List (Option Order)) (w u : ℕ) (o : Option Order) → (u ≡ w → ⊥) → order_at (slice_set out w o) u ≡ order_at out u
at_other [] w u o d = refl
at_other (x ∷ xs) zero zero o d = absurd (d refl)
at_other (x ∷ xs) zero (suc u) o d = refl
at_other (x ∷ xs) (suc w) zero o d = refl
at_other (x ∷ xs) (suc w) (suc u) o d = at_other xs w u o (λ e. d (ap suc e))

pub set_long : (out : List (Option Order)) (w : ℕ) (o : Option Order) → length (slice_set out w o) ≡ length out
set_long [] w o = refl
set_long (x ∷ xs) zero o = refl
set_long (x ∷ xs) (suc w) o = ap suc (set_long xs w o)

pub nobody_has : (n w : ℕ) → order_at (nobody n) w ≡ None
nobody_has zero w = refl
nobody_has (suc n) zero = refl
nobody_has (suc n) (suc w) = nobody_has n w

pub nobody_many : (n : ℕ) → length (nobody n) ≡ n
nobody_many zero = refl
nobody_many (suc n) = ap suc (nobody_many n)

-- ---- the tasks of orders

abbrev pub tasks_of : List OrderOut → List (Task Digest)
tasks_of xs = map (λ (x : OrderOut). task_key x.task) xs

abbrev pub begun_out : OrderOut → Begun
begun_out x = (x.number, x.worker, task_key x.task)

pub tasks_are : (w : ℕ) (xs : List OrderOut) → tasks_at w (map begun_out xs) ≡ tasks_of (at_worker w xs)
tasks_are w [] = refl
tasks_are w (x ∷ xs) = pick (nat_eq w x.worker) (tasks_are w xs)
  where
    pick : (b : Bool) → tasks_at w (map begun_out xs) ≡ tasks_of (at_worker w xs)
        → cond b (task_key x.task ∷ tasks_at w (map begun_out xs)) (tasks_at w (map begun_out xs))
        ≡ tasks_of (cond b (x ∷ at_worker w xs) (at_worker w xs))
    pick true h = ap (λ (ts : List (Task Digest)). task_key x.task ∷ ts) h
    pick false h = h

-- a worker that is sent orders then has its own
pub sent_tasks : (out : List (Option Order)) (xs : List Order) → CanSend out xs → (w : ℕ) → tasks_of (has (order_at (sent_to out xs) w))
    ≡ tasks_of (has (order_at out w)) ++ tasks_at w (map begun_of xs)
sent_tasks out [] s w = sym (append-nil (tasks_of (has (order_at out w))))
sent_tasks out (x ∷ xs) s w = pick (nat_eq w x.worker) refl (sent_tasks (slice_set out x.worker (Some x)) xs s.2 w)
  where
    no_both : true ≡ false → ⊥
    no_both e = cc

    pick : (b : Bool) → nat_eq w x.worker ≡ b
        → tasks_of (has (order_at (sent_to (slice_set out x.worker (Some x)) xs) w))
        ≡ tasks_of (has (order_at (slice_set out x.worker (Some x)) w)) ++ tasks_at w (map begun_of xs)
        → tasks_of (has (order_at (sent_to (slice_set out x.worker (Some x)) xs) w))
        ≡ tasks_of (has (order_at out w)) ++ cond b (task_key x.task ∷ tasks_at w (map begun_of xs)) (tasks_at w (map begun_of xs))
    pick true t rest =
        let e : x.worker ≡ w = sym (eqb-true w x.worker t) in
        let now : order_at (slice_set out x.worker (Some x)) w ≡ Some x =
        subst (λ (u : ℕ). order_at (slice_set out x.worker (Some x)) u ≡ Some x) e (at_set out x.worker (Some x) s.0) in
        let was : order_at out w ≡ None = subst (λ (u : ℕ). order_at out u ≡ None) e s.1 in
        rest ∙ ap (λ (o : Option Order). tasks_of (has o) ++ tasks_at w (map begun_of xs)) now
        ∙ sym (ap (λ (o : Option Order). tasks_of (has o) ++ (task_key x.task ∷ tasks_at w (map begun_of xs))) was)
    pick false t rest =
        let d : w ≡ x.worker → ⊥ = (λ e. let bad : true ≡ false = sym (eq-eqb w x.worker e) ∙ t in no_both bad) in
        rest ∙ ap (λ (o : Option Order). tasks_of (has o) ++ tasks_at w (map begun_of xs)) (at_other out x.worker w (Some x) d)
