-- What workers have, as the run goes on, and of what history.
use Rattle.std.proofs.Common.{◌≡◌, ℕ, ◌+◌, ◌<◌, List, [], ◌∷◌, ◌++◌, replicate, Bool, true, false, not, cond, ◌&&◌, nat_eq, eqb-true, eq-eqb, filter}
use Rattle.std.proofs.Common.{slice_get, slice_set, Option, Some, None, ◌⊎◌, inl, inr, refl, ap, sym, ◌∙◌, subst, arith}
use Rattle.std.specs.List.{list_any}
use Rattle.sky_base.specs.declared.object.TaskId.{TaskId}
use Rattle.ciel_journal.specs.History.{Event, OpenStart, Plan, find_open, standing}
use Rattle.ciel_journal.specs.Job.{In}
use Rattle.ciel_journal.proofs.Booked.{any_join_last, any_join_left}
use Rattle.ciel_journal.proofs.Members.{bool_cases, in_any}
use Rattle.ciel_journal.proofs.Numbers.{filter_in, in_filter, in_last, in_left, last_in}
use Rattle.ciel_master_board.specs.Board.{Board, Order, OrderOut, find_order, idle_of, workers_out}
use Rattle.ciel_master_board.specs.Follows.{OneByOne, OrderIs, OutIs}
use Rattle.ciel_master_board.specs.Moves.{order_for, started, without}
use Rattle.ciel_master_board.specs.Setting.{Setting}
use Rattle.ciel_master_board.proofs.EventsFollowed.{found_number}
use Rattle.ciel_master_board.proofs.SoundLemmas.{idle_in, order_in}
use Rattle.ciel_master_board.specs.Handed.{Handed, IsLost, OrdersOf}
use Rattle.ciel_master_board.specs.Left.{Has, Slots, busy}
use Rattle.ciel_master_board.proofs.SlotCounts.{differ_nat, got_at, got_same, long_replicate, none_busy, set_cases, set_has, set_keeps, set_long}

-- orders without one: what is left has another number
filter_kept : {A : Type 0} (p : A → Bool) (x : A) (xs : List A) → In x (filter p xs) → p x ≡ true
filter_kept p x [] i = absurd i
filter_kept p x (y ∷ ys) i = pick (p y) refl i (filter_kept p x ys)
  where
    pick : (b : Bool) → p y ≡ b → In x (cond b (y ∷ filter p ys) (filter p ys)) → (In x (filter p ys) → p x ≡ true) → p x ≡ true
    pick true e (inl s) r = subst (λ z. p z ≡ true) (sym s) e
    pick true e (inr j) r = r j
    pick false e j r = r j

differs : (k n : ℕ) → not (nat_eq k n) ≡ true → k ≡ n → ⊥
differs k n h e = clash (eq-eqb k n e)
  where
    clash : nat_eq k n ≡ true → ⊥
    clash t = let bad : false ≡ true = sym (ap not t) ∙ h in cc

differ_test : (k n : ℕ) → (k ≡ n → ⊥) → not (nat_eq k n) ≡ true
differ_test k n d = pick (bool_cases (nat_eq k n))
  where
    pick : ((nat_eq k n ≡ true) ⊎ (nat_eq k n ≡ false)) → not (nat_eq k n) ≡ true
    pick (inl t) = absurd (d (eqb-true k n t))
    pick (inr f) = ap not f

not_found : (k : ℕ) (xs : List OrderOut) → find_order k xs ≡ None → (x : OrderOut) → In x xs → k ≡ x.number → ⊥
not_found k [] e x i s = absurd i
not_found k (y ∷ ys) e x i s = pick (bool_cases (nat_eq k y.number)) i (λ f j. not_found k ys f x j s)
  where
    pick : ((nat_eq k y.number ≡ true) ⊎ (nat_eq k y.number ≡ false)) → In x (y ∷ ys) → (find_order k ys ≡ None → In x ys → ⊥) → ⊥
    pick (inl t) j r =
        let bad : Some y ≡ None = sym (ap (λ b. cond b (Some y) (find_order k ys)) t) ∙ e in cc
    pick (inr f) (inl j) r =
        let t : nat_eq k y.number ≡ true = eq-eqb k y.number (s ∙ ap (λ (z : OrderOut). z.number) j) in
        let bad : true ≡ false = sym t ∙ f in
        cc
    pick (inr f) (inr j) r = r (sym (ap (λ b. cond b (Some y) (find_order k ys)) f) ∙ e) j

module _ {P : Type 0} where
  -- at the beginning nobody has an order
  pub opened_handed : (b : Board P) → b.orders ≡ [] → Handed b (replicate b.plan.workers None)
  opened_handed b none =
      record {
        each = long_replicate b.plan.workers None;
        own = λ w x i. absurd (nobody w x i);
        still = λ w x i. absurd (nobody w x i);
        sent = λ y i. absurd (subst (In y) none i);
        given = λ w x i. absurd (nobody w x i);
        apart = λ w u x y i j e. absurd (nobody w x i);
      }
    where
      nobody : (w : ℕ) (x : Order P) → Has (replicate b.plan.workers None) w x → ⊥
      nobody w x i =
          let q : None ≡ Some x = got_same b.plan.workers None w (Some x) i in cc

  module _ (b : Board P) (slots : Slots P) (k : Handed b slots) where
    -- where no worker has an order, none is out
    pub none_out : busy slots ≡ 0 → b.orders ≡ []
    none_out e = pick b.orders refl
      where
        pick : (os : List OrderOut) → b.orders ≡ os → b.orders ≡ []
        pick [] q = q
        pick (y ∷ ys) q =
            let x = k.sent y (subst (In y) (sym q) (inl refl)) in absurd (none_busy slots e y.worker x.0 x.1)

    -- an order whose number is out is out itself
    pub had_out : (w : ℕ) (x : Order P) (y : OrderOut) → Has slots w x → find_order x.out.number b.orders ≡ Some y → x.out ≡ y
    had_out w x y i e =
        let z = k.sent y (order_in x.out.number b.orders y e) in
        let n : x.out.number ≡ z.0.out.number = found_number x.out.number b.orders y e ∙ sym (ap (λ (q : OrderOut). q.number) z.2) in
        let same : w ≡ y.worker = k.apart w y.worker x z.0 i z.1 n in
        let j : Some (Some x) ≡ Some (Some z.0) = sym i ∙ (ap (slice_get slots) same ∙ z.1) in
        let one : x ≡ z.0 = cc in
        ap (λ (q : Order P). q.out) one ∙ z.2

    -- ---- a loss

    module _ (c : Board P) (w : ℕ) (plan : c.plan ≡ b.plan) (starts : c.starts ≡ b.starts)
        (gone : c.table.gone ≡ b.table.gone ++ w ∷ []) (orders : c.orders ≡ filter (λ (x : OrderOut). not (nat_eq w x.worker)) b.orders) where
      pub lost_handed : Handed c slots
      lost_handed =
          record {
            each = k.each ∙ ap (λ (p : Plan). p.workers) (sym plan);
            own = k.own;
            still = still;
            sent = λ y i. k.sent y (in_filter (λ (x : OrderOut). not (nat_eq w x.worker)) y b.orders (subst (In y) orders i));
            given = λ u x i. subst (λ n. x.out.number < n) (sym starts) (k.given u x i);
            apart = k.apart;
          }
        where
          still : (u : ℕ) (x : Order P) → Has slots u x → In x.out c.orders ⊎ IsLost c.table.gone u
          still u x i = pick (k.still u x i) (differ_nat w x.out.worker)
            where
              pick : (In x.out b.orders ⊎ IsLost b.table.gone u) → ((w ≡ x.out.worker) ⊎ (w ≡ x.out.worker → ⊥)) → In x.out c.orders
                  ⊎ IsLost c.table.gone u
              pick (inr l) q =
                  inr (subst (λ gs. IsLost gs u) (sym gone) (any_join_left (nat_eq u) b.table.gone (w ∷ []) l))
              pick (inl j) (inl e) =
                  inr (subst (λ gs. IsLost gs u) (sym gone) (any_join_last (nat_eq u) b.table.gone w (eq-eqb u w (sym (k.own u x i) ∙ sym e))))
              pick (inl j) (inr d) =
                  inl (subst (In x.out) (sym orders) (filter_in (λ (y : OrderOut). not (nat_eq w y.worker)) x.out b.orders j
                  (differ_test w x.out.worker d)))

    -- ---- an order that comes back

    module _ (w : ℕ) (x : Order P) (has : Has slots w x) where
      -- what another worker has is another order
      other : (u : ℕ) (y : Order P) → (u ≡ w → ⊥) → Has slots u y → x.out.number ≡ y.out.number → ⊥
      other u y d i e = d (k.apart u w y x i has (sym e))

      abbrev taken : Slots P
      taken = slice_set slots w None

      left : (u : ℕ) (y : Order P) → Has taken u y → (u ≡ w → ⊥) × Has slots u y
      left u y i = pick (set_cases slots w u None (Some y) i)
        where
          pick : ((u ≡ w) × (Some y ≡ None)) ⊎ ((u ≡ w → ⊥) × (slice_get slots u ≡ Some (Some y))) → (u ≡ w → ⊥) × Has slots u y
          pick (inl q) = let bad : Some y ≡ None = q.1 in cc
          pick (inr q) = q

      -- it is closed
      pub closed_handed : (c : Board P) → c.plan ≡ b.plan → c.starts ≡ b.starts → c.table.gone ≡ b.table.gone → In x.out b.orders
          → c.orders ≡ without x.out.number b.orders → Handed c taken
      closed_handed c plan starts gone there orders =
          record {
            each = set_long slots w None ∙ (k.each ∙ ap (λ (p : Plan). p.workers) (sym plan));
            own = λ u y i. k.own u y (left u y i).1;
            still = λ u y i. still u y (left u y i).0 (left u y i).1;
            sent = sent;
            given = λ u y i. subst (λ n. y.out.number < n) (sym starts) (k.given u y (left u y i).1);
            apart = λ u v y z i j e. k.apart u v y z (left u y i).1 (left v z j).1 e;
          }
        where
          still : (u : ℕ) (y : Order P) → (u ≡ w → ⊥) → Has slots u y → In y.out c.orders ⊎ IsLost c.table.gone u
          still u y d i = pick (k.still u y i)
            where
              pick : (In y.out b.orders ⊎ IsLost b.table.gone u) → In y.out c.orders ⊎ IsLost c.table.gone u
              pick (inr l) = inr (subst (λ gs. IsLost gs u) (sym gone) l)
              pick (inl j) =
                  inl (subst (In y.out) (sym orders) (filter_in (λ (z : OrderOut). not (nat_eq x.out.number z.number)) y.out b.orders j
                  (differ_test x.out.number y.out.number (other u y d i))))

          sent : (y : OrderOut) → In y c.orders → (z : Order P) × Has taken y.worker z × (z.out ≡ y)
          sent y i =
              let j = subst (In y) orders i in
              let z = k.sent y (in_filter (λ (q : OrderOut). not (nat_eq x.out.number q.number)) y b.orders j) in (
                z.0,
                set_keeps slots w y.worker None (Some z.0)
                    (λ e. elsewhere y z.0 z.1 z.2 e (filter_kept (λ (q : OrderOut). not (nat_eq x.out.number q.number)) y b.orders j)) z.1,
                z.2,
              )
            where
              elsewhere : (y : OrderOut) (z : Order P) → Has slots y.worker z → z.out ≡ y → y.worker ≡ w → not (nat_eq x.out.number y.number)
                  ≡ true → ⊥
              elsewhere y z i q e t =
                  let f : Some (Some z) ≡ Some (Some x) = sym i ∙ (ap (slice_get slots) e ∙ has) in
                  let one : z ≡ x = cc in
                  differs x.out.number y.number t (ap (λ (o : Order P). o.out.number) (sym one) ∙ ap (λ (o : OrderOut). o.number) q)

      -- or its number isn't out any more
      pub thrown_handed : find_order x.out.number b.orders ≡ None → Handed b taken
      thrown_handed none =
          record {
            each = set_long slots w None ∙ k.each;
            own = λ u y i. k.own u y (left u y i).1;
            still = λ u y i. k.still u y (left u y i).1;
            sent = sent;
            given = λ u y i. k.given u y (left u y i).1;
            apart = λ u v y z i j e. k.apart u v y z (left u y i).1 (left v z j).1 e;
          }
        where
          sent : (y : OrderOut) → In y b.orders → (z : Order P) × Has taken y.worker z × (z.out ≡ y)
          sent y i =
              let z = k.sent y i in
              (z.0, set_keeps slots w y.worker None (Some z.0) (λ e. elsewhere z.0 z.1 z.2 e) z.1, z.2)
            where
              elsewhere : (z : Order P) → Has slots y.worker z → z.out ≡ y → y.worker ≡ w → ⊥
              elsewhere z j q e =
                  let f : Some (Some z) ≡ Some (Some x) = sym j ∙ (ap (slice_get slots) e ∙ has) in
                  let one : z ≡ x = cc in
                  not_found x.out.number b.orders none y i (ap (λ (o : Order P). o.out.number) (sym one) ∙ ap (λ (o : OrderOut). o.number) q)

    -- ---- a start

    module _ (at : P → ℕ) (x : TaskId) (w : ℕ) (idle : In w (idle_of b)) where
      is_free : (w < b.plan.workers) × (list_any (nat_eq w) b.table.gone ≡ false) × (list_any (nat_eq w) (workers_out b.orders) ≡ false)
      is_free =
          let q = idle_in b.table.gone (workers_out b.orders) 0 b.plan.workers w idle in
          let l = q.0 in
          let m = parts (list_any (nat_eq w) b.table.gone) (list_any (nat_eq w) (workers_out b.orders)) q.1 in
          (omega (arith, l), m.0, m.1)
        where
          parts : (a c : Bool) → not a && not c ≡ true → (a ≡ false) × (c ≡ false)
          parts true c e = cc
          parts false true e = cc
          parts false false e = (refl, refl)

      worker_there : (xs : List OrderOut) (y : OrderOut) → In y xs → In y.worker (workers_out xs)
      worker_there [] y i = absurd i
      worker_there (z ∷ zs) y (inl e) = inl (ap (λ (q : OrderOut). q.worker) e)
      worker_there (z ∷ zs) y (inr i) = inr (worker_there zs y i)

      not_with : (y : Order P) → Has slots w y → ⊥
      not_with y i = pick (k.still w y i)
        where
          pick : (In y.out b.orders ⊎ IsLost b.table.gone w) → ⊥
          pick (inr l) = let bad : true ≡ false = sym l ∙ is_free.1 in cc
          pick (inl j) =
              let t : list_any (nat_eq w) (workers_out b.orders) ≡ true =
              in_any nat_eq (λ a. eq-eqb a a refl) w (workers_out b.orders)
              (subst (λ n. In n (workers_out b.orders)) (k.own w y i) (worker_there b.orders y.out j)) in
              let bad : true ≡ false = sym t ∙ is_free.2 in
              cc

      -- an idle worker has no order
      pub free : slice_get slots w ≡ Some None
      free =
          let l = is_free.0 in
          let e = k.each in
          pick (got_at slots w (omega (arith, l, e)))
        where
          pick : ((o : Option (Order P)) × (slice_get slots w ≡ Some o)) → slice_get slots w ≡ Some None
          pick (None, e) = e
          pick (Some y, e) = absurd (not_with y e)

      abbrev new : Order P
      new = order_for at b x w

      abbrev sending : Slots P
      sending = slice_set slots w (Some new)

      pub which : (u : ℕ) (y : Order P) → Has sending u y → ((u ≡ w) × (y ≡ new)) ⊎ ((u ≡ w → ⊥) × Has slots u y)
      which u y i = pick (set_cases slots w u (Some new) (Some y) i)
        where
          pick : ((u ≡ w) × (Some y ≡ Some new)) ⊎ ((u ≡ w → ⊥) × (slice_get slots u ≡ Some (Some y))) → ((u ≡ w) × (y ≡ new))
              ⊎ ((u ≡ w → ⊥) × Has slots u y)
          pick (inl q) =
              let e : Some y ≡ Some new = q.1 in
              let z : y ≡ new = cc in inl (q.0, z)
          pick (inr q) = inr q

      pub start_handed : Handed (started at b x w) sending
      start_handed =
          record {
            each = set_long slots w (Some new) ∙ k.each;
            own = own;
            still = still;
            sent = sent;
            given = given;
            apart = apart;
          }
        where
          own : (u : ℕ) (y : Order P) → Has sending u y → y.out.worker ≡ u
          own u y i = pick (which u y i)
            where
              pick : ((u ≡ w) × (y ≡ new)) ⊎ ((u ≡ w → ⊥) × Has slots u y) → y.out.worker ≡ u
              pick (inl q) = ap (λ (o : Order P). o.out.worker) q.1 ∙ sym q.0
              pick (inr q) = k.own u y q.1

          still : (u : ℕ) (y : Order P) → Has sending u y → In y.out (started at b x w).orders ⊎ IsLost b.table.gone u
          still u y i = pick (which u y i)
            where
              more : (In y.out b.orders ⊎ IsLost b.table.gone u) → In y.out (started at b x w).orders ⊎ IsLost b.table.gone u
              more (inl j) = inl (in_left y.out b.orders (new.out ∷ []) j)
              more (inr l) = inr l

              pick : ((u ≡ w) × (y ≡ new)) ⊎ ((u ≡ w → ⊥) × Has slots u y) → In y.out (started at b x w).orders ⊎ IsLost b.table.gone u
              pick (inl q) =
                  inl (subst (λ (o : Order P). In o.out (started at b x w).orders) (sym q.1) (last_in b.orders new.out))
              pick (inr q) = more (k.still u y q.1)

          sent : (y : OrderOut) → In y (started at b x w).orders → (z : Order P) × Has sending y.worker z × (z.out ≡ y)
          sent y i = pick (in_last y b.orders new.out i)
            where
              pick : (In y b.orders ⊎ (y ≡ new.out)) → (z : Order P) × Has sending y.worker z × (z.out ≡ y)
              pick (inr e) =
                  (new, subst (λ (o : OrderOut). Has sending o.worker new) (sym e) (set_has slots w (Some new) None free), sym e)
              pick (inl j) =
                  let z = k.sent y j in
                  (z.0, set_keeps slots w y.worker (Some new) (Some z.0) (λ e. not_with z.0 (subst (λ n. Has slots n z.0) e z.1)) z.1, z.2)

          given : (u : ℕ) (y : Order P) → Has sending u y → y.out.number < b.starts + 1
          given u y i = pick (which u y i)
            where
              pick : ((u ≡ w) × (y ≡ new)) ⊎ ((u ≡ w → ⊥) × Has slots u y) → y.out.number < b.starts + 1
              pick (inl q) =
                  let e : y.out.number ≡ b.starts = ap (λ (o : Order P). o.out.number) q.1 in omega (arith, e)
              pick (inr q) = let l = k.given u y q.1 in omega (arith, l)

          apart : (u v : ℕ) (y z : Order P) → Has sending u y → Has sending v z → y.out.number ≡ z.out.number → u ≡ v
          apart u v y z i j e = pick (which u y i) (which v z j)
            where
              older : (a : ℕ) (o : Order P) → Has slots a o → o.out.number ≡ b.starts → ⊥
              older a o l q = let m = k.given a o l in absurd (omega (arith, m, q))

              pick : ((u ≡ w) × (y ≡ new)) ⊎ ((u ≡ w → ⊥) × Has slots u y) → ((v ≡ w) × (z ≡ new)) ⊎ ((v ≡ w → ⊥) × Has slots v z) → u ≡ v
              pick (inl p) (inl q) = p.0 ∙ sym q.0
              pick (inl p) (inr q) =
                  absurd (older v z q.1 (sym e ∙ ap (λ (o : Order P). o.out.number) p.1))
              pick (inr p) (inl q) = absurd (older u y p.1 (e ∙ ap (λ (o : Order P). o.out.number) q.1))
              pick (inr p) (inr q) = k.apart u v y z p.1 q.1 e

-- ---- of what history

module _ {D P B : Type 0} (s : Setting D P B) where
  -- the open Start of an order
  pub open_of : (k : ℕ) (os : List (OpenStart D)) (xs : List OrderOut) → OneByOne (OutIs s) os xs → (x : OrderOut) → find_order k xs ≡ Some x
      → (o : OpenStart D) × (find_open s.job k os ≡ Some o) × OutIs s o x
  open_of k [] [] h x e = cc
  open_of k [] (y ∷ ys) h x e = absurd h
  open_of k (q ∷ qs) [] h x e = absurd h
  open_of k (q ∷ qs) (y ∷ ys) h x e = pick (bool_cases (nat_eq k q.number)) (open_of k qs ys h.1 x)
    where
      Out : List (OpenStart D) → Type 0
      Out zs = (o : OpenStart D) × (find_open s.job k zs ≡ Some o) × OutIs s o x

      pick : ((nat_eq k q.number ≡ true) ⊎ (nat_eq k q.number ≡ false)) → (find_order k ys ≡ Some x → Out qs) → Out (q ∷ qs)
      pick (inl t) r =
          let u : nat_eq k y.number ≡ true = ap (nat_eq k) h.0.number ∙ t in
          let c : Some y ≡ Some x = sym (ap (λ b. cond b (Some y) (find_order k ys)) u) ∙ e in
          let same : y ≡ x = cc in
          (q, ap (λ b. cond b (Some q) (find_open s.job k qs)) t, subst (OutIs s q) same h.0)
      pick (inr f) r =
          let u : nat_eq k y.number ≡ false = ap (nat_eq k) h.0.number ∙ f in
          let z = r (sym (ap (λ b. cond b (Some y) (find_order k ys)) u) ∙ e) in
          (z.0, ap (λ b. cond b (Some q) (find_open s.job k qs)) f ∙ z.1, z.2)

  module _ (h g : List (Event D)) (slots : Slots P) (k : OrdersOf s h slots)
      (opens : (o : OpenStart D) → In o (standing s.job g).orders → In o (standing s.job h).orders) where
    pub orders_of : OrdersOf s g slots
    orders_of u y o i j e = k u y o i (opens o j) e

    -- with a slot less
    pub fewer_orders : (w : ℕ) → OrdersOf s g (slice_set slots w None)
    fewer_orders w u y o i j e = pick (set_cases slots w u None (Some y) i)
      where
        pick : ((u ≡ w) × (Some y ≡ None)) ⊎ ((u ≡ w → ⊥) × Has slots u y) → OrderIs s o y
        pick (inl q) = let bad : Some y ≡ None = q.1 in cc
        pick (inr q) = k u y o q.1 (opens o j) e

  -- and a new one
  module _ (h g : List (Event D)) (b : Board P) (slots : Slots P) (a : Handed b slots) (k : OrdersOf s h slots) (x : TaskId) (w : ℕ)
      (idle : In w (idle_of b)) (below : (o : OpenStart D) → In o (standing s.job h).orders → o.number < b.starts)
      (opens : (o : OpenStart D) → In o (standing s.job g).orders → In o (standing s.job h).orders
      ⊎ ((o.number ≡ b.starts) × OrderIs s o (order_for s.at b x w))) where
    pub more_orders : OrdersOf s g (slice_set slots w (Some (order_for s.at b x w)))
    more_orders u y o i j e = pick (which b slots a s.at x w idle u y i) (opens o j)
      where
        older : y ≡ order_for s.at b x w → In o (standing s.job h).orders → ⊥
        older r m =
            let n : o.number ≡ b.starts = e ∙ ap (λ (z : Order P). z.out.number) r in
            let l = below o m in
            absurd (omega (arith, l, n))

        pick : ((u ≡ w) × (y ≡ order_for s.at b x w)) ⊎ ((u ≡ w → ⊥) × Has slots u y)
            → (In o (standing s.job h).orders ⊎ ((o.number ≡ b.starts) × OrderIs s o (order_for s.at b x w))) → OrderIs s o y
        pick (inl p) (inr q) = subst (OrderIs s o) (sym p.1) q.1
        pick (inr p) (inl q) = k u y o p.1 q e
        pick (inr p) (inr q) =
            let l = a.given u y p.1 in
            let n = q.0 in absurd (omega (arith, l, n, e))
        pick (inl p) (inl q) = absurd (older p.1 q)
