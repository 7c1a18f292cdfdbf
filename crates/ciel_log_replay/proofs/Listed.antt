-- The list of the orders that are out, as losses and Starts change it.
use Rattle.std.proofs.Common.{◌≡◌, ℕ, zero, suc, ◌<◌, List, [], ◌∷◌, ◌++◌, map, Bool, true, false, cond, Option, Some, None, is_some, ◌⊎◌}
use Rattle.std.proofs.Common.{inl, inr, refl, ap, sym, ◌∙◌, subst, arith, nat_eq, eq-eqb, eqb-true, slice_set}
use Rattle.std.proofs.lemmas.List.{length-map}
use Rattle.std.specs.Option.{option_map}
use Rattle.sky_base.specs.KitView.{Gives}
use Rattle.sky_base.specs.declared.object.TaskId.{TaskId}
use Rattle.ciel_journal.specs.Job.{In}
use Rattle.ciel_journal.proofs.Members.{bool_cases, each_of}
use Rattle.ciel_log_replay.specs.Between.{AllOut}
use Rattle.ciel_log_replay.specs.Steps.{while_out}
use Rattle.ciel_master.specs.Seen.{MasterSeen}
use Rattle.ciel_master_board.specs.Board as board
use Rattle.ciel_master_board.specs.Board.{Board, OrderOut, find_order}
use Rattle.ciel_master_board.specs.Handed.{Handed}
use Rattle.ciel_master_board.specs.Left.{Has}
use Rattle.ciel_master_board.specs.Moves.{order_for, started}
use Rattle.ciel_master_board.specs.Sound.{OrderSound, Sound}
use Rattle.ciel_master_board.proofs.HandedLemmas.{had_out}
use Rattle.ciel_master_law.specs.Ends.{worker_of}
use Rattle.ciel_run_drive.specs.Kept.{Kept, slots_of}
use Rattle.ciel_run_drive.specs.Working.{Working}
use Rattle.ciel_run_drive.proofs.Slots.{at_slots, set_at, slots_at}
use Rattle.ciel_task_crew.specs.Crews.{order_at}
use Rattle.ciel_task_order.specs.Views.{P, order_view, out_view}
use Rattle.ciel_task_order.specs.declared.order.Order.{Order}
use Rattle.ciel_task_order.specs.declared.shop.Shop.{Shop}

some_same : {A : Type 0} (x y : A) → Some x ≡ Some y → x ≡ y
some_same x y e = cc

-- ---- orders by number

-- what is out is found
found_there : (xs : List OrderOut) (y : OrderOut) → In y xs → is_some (find_order y.number xs) ≡ true
found_there [] y i = absurd i
found_there (x ∷ xs) y i = pick (bool_cases (nat_eq y.number x.number)) i (found_there xs y)
  where
    pick : ((nat_eq y.number x.number ≡ true) ⊎ (nat_eq y.number x.number ≡ false)) → In y (x ∷ xs)
        → (In y xs → is_some (find_order y.number xs) ≡ true) → is_some (find_order y.number (x ∷ xs)) ≡ true
    pick (inl t) j r = ap (λ c. is_some (cond c (Some x) (find_order y.number xs))) t
    pick (inr n) (inl e) r =
        let t : nat_eq y.number x.number ≡ true = eq-eqb y.number x.number (ap (λ (z : OrderOut). z.number) e) in
        let bad : true ≡ false = sym t ∙ n in cc
    pick (inr n) (inr j) r = ap (λ c. is_some (cond c (Some x) (find_order y.number xs))) n ∙ r j

find_more : (k : ℕ) (xs : List OrderOut) (y z : OrderOut) → find_order k xs ≡ Some z → find_order k (xs ++ y ∷ []) ≡ Some z
find_more k [] y z e = cc
find_more k (x ∷ xs) y z e = pick (nat_eq k x.number) e (find_more k xs y z)
  where
    pick : (c : Bool) → cond c (Some x) (find_order k xs) ≡ Some z → (find_order k xs ≡ Some z → find_order k (xs ++ y ∷ []) ≡ Some z)
        → cond c (Some x) (find_order k (xs ++ y ∷ [])) ≡ Some z
    pick true e r = e
    pick false e r = r e

find_new : (xs : List OrderOut) (y : OrderOut) → ((x : OrderOut) → In x xs → x.number < y.number) → find_order y.number (xs ++ y ∷ []) ≡ Some y
find_new [] y below = ap (λ c. cond c (Some y) None) (eq-eqb y.number y.number refl)
find_new (x ∷ xs) y below = pick (bool_cases (nat_eq y.number x.number)) (find_new xs y (λ z i. below z (inr i)))
  where
    pick : ((nat_eq y.number x.number ≡ true) ⊎ (nat_eq y.number x.number ≡ false)) → find_order y.number (xs ++ y ∷ []) ≡ Some y
        → find_order y.number ((x ∷ xs) ++ y ∷ []) ≡ Some y
    pick (inl t) r =
        let e = eqb-true y.number x.number t in
        let l = below x (inl refl) in absurd (omega (arith, e, l))
    pick (inr n) r = ap (λ c. cond c (Some x) (find_order y.number (xs ++ y ∷ []))) n ∙ r

-- ---- what is out no longer goes

while_one : (b : Board P) (o : Option Order) (order : Order) → while_out b o ≡ Some order → (o ≡ Some order)
    × (is_some (find_order order.number b.orders) ≡ true)
while_one b None order e = cc
while_one b (Some x) order e = pick (is_some (find_order x.number b.orders)) refl e
  where
    pick : (c : Bool) → is_some (find_order x.number b.orders) ≡ c → cond c (Some x) None ≡ Some order → (Some x ≡ Some order)
        × (is_some (find_order order.number b.orders) ≡ true)
    pick true t e =
        let same : x ≡ order = cc in
        (e, subst (λ (z : Order). is_some (find_order z.number b.orders) ≡ true) same t)
    pick false t e = let bad : None ≡ Some order = e in cc

pub while_at : (b : Board P) (out : List (Option Order)) (w : ℕ) (order : Order) → order_at (map (while_out b) out) w ≡ Some order
    → (order_at out w ≡ Some order) × (is_some (find_order order.number b.orders) ≡ true)
while_at b [] w order e = cc
while_at b (o ∷ os) zero order e = while_one b o order e
while_at b (o ∷ os) (suc w) order e = while_at b os w order e

while_still : (b : Board P) (out : List (Option Order)) (w : ℕ) (order : Order) → order_at out w ≡ Some order
    → is_some (find_order order.number b.orders) ≡ true → order_at (map (while_out b) out) w ≡ Some order
while_still b [] w order e t = cc
while_still b (o ∷ os) zero order e t = ap (while_out b) e ∙ ap (λ c. cond c (Some order) None) t
while_still b (o ∷ os) (suc w) order e t = while_still b os w order e t

-- where each is out, all stay
pub all_stay : (b : Board P) (out : List (Option Order)) → AllOut b out → map (while_out b) out ≡ out
all_stay b [] all = refl
all_stay b (o ∷ os) all = ap (λ z. z ∷ map (while_out b) os) (first o (all 0)) ∙ ap (λ z. o ∷ z) (all_stay b os (λ w. all (suc w)))
  where
    first : (o : Option Order) → ((order : Order) → o ≡ Some order → find_order order.number b.orders ≡ Some (out_view order)) → while_out b o ≡ o
    first None f = refl
    first (Some x) f = ap (λ z. cond (is_some z) (Some x) None) (f x refl)

module _ (b : Board P) (out : List (Option Order)) where
  back : (w : ℕ) (x : board.Order P) → Has (slots_of (map (while_out b) out)) w x → Has (slots_of out) w x
  back w x i =
      let o = at_slots (map (while_out b) out) w x i in
      subst (Has (slots_of out) w) o.2 (slots_at out w o.0 (while_at b out w o.0 o.1).0)

  module _ (k : Handed b (slots_of out)) where
    left_handed : Handed b (slots_of (map (while_out b) out))
    left_handed =
        record {
          each = length-map (map (while_out b) out) (option_map order_view) ∙ (length-map out (while_out b)
              ∙ (sym (length-map out (option_map order_view)) ∙ k.each));
          own = λ w x i. k.own w x (back w x i);
          still = λ w x i. k.still w x (back w x i);
          sent = sent;
          given = λ w x i. k.given w x (back w x i);
          apart = λ w u x y i j e. k.apart w u x y (back w x i) (back u y j) e;
        }
      where
        sent : (y : OrderOut) → In y b.orders → (x : board.Order P) × Has (slots_of (map (while_out b) out)) y.worker x × (x.out ≡ y)
        sent y i =
            let z = k.sent y i in
            let o = at_slots out y.worker z.0 z.1 in
            let number : o.0.number ≡ y.number = ap (λ (q : board.Order P). q.out.number) o.2 ∙ ap (λ (q : OrderOut). q.number) z.2 in
            let there : is_some (find_order o.0.number b.orders) ≡ true =
            subst (λ n. is_some (find_order n b.orders) ≡ true) (sym number) (found_there b.orders y i) in (
              z.0,
              subst (Has (slots_of (map (while_out b) out)) y.worker) o.2
                  (slots_at (map (while_out b) out) y.worker o.0 (while_still b out y.worker o.0 o.1 there)),
              z.2,
            )

    pub left_out : AllOut b (map (while_out b) out)
    left_out w order e = pick (find_order order.number b.orders) refl q.1
      where
        q : (order_at out w ≡ Some order) × (is_some (find_order order.number b.orders) ≡ true)
        q = while_at b out w order e

        pick : (o : Option OrderOut) → find_order order.number b.orders ≡ o → is_some o ≡ true → find_order order.number b.orders ≡ Some (out_view order)
        pick None f t = cc
        pick (Some y) f t = f ∙ ap (λ z. Some z) (sym (had_out b (slots_of out) k w (order_view order) y (slots_at out w order q.0) f))

module _ {K N : Type 0} {gives : K → Gives} {digest : N → List ℕ → List ℕ} {shop_ : Shop K N} {unbroken : Bool} {m : MasterSeen N}
    {out : List (Option Order)} where
  pub left_working : Working gives digest shop_ unbroken m out → Working gives digest shop_ unbroken m (map (while_out m.board) out)
  left_working k =
      record {
        namer = k.namer;
        shelves = k.shelves;
        script = k.script;
        sound = k.sound;
        work = record { going = k.work.going; safe = k.work.safe; handed = left_handed m.board out k.work.handed };
        rows = λ w order e. k.rows w order (while_at m.board out w order e).0;
        mains = λ w order e. k.mains w order (while_at m.board out w order e).0;
        goes = λ w order e. k.goes w order (while_at m.board out w order e).0;
      }

  pub left_kept : {state : ℕ} → Kept gives digest shop_ unbroken m out state → Kept gives digest shop_ unbroken m (map (while_out m.board) out) state
  left_kept k =
      record {
        orderly = k.orderly;
        bare = k.bare;
        history = k.history;
        runs = k.runs;
        orders = λ w x o i. k.orders w x o (back m.board out w x i);
        draws = k.draws;
      }

-- ---- a Start

pub more_out : (digest : List ℕ → List ℕ) (b : Board P) → Sound digest worker_of b → (out : List (Option Order)) → AllOut b out → (x : TaskId)
    (w : ℕ) (order : Order) → order_view order ≡ order_for worker_of b x w → (then : List (Option Order))
    → then ≡ slice_set out order.worker (Some order) → AllOut (started worker_of b x w) then
more_out digest b sound out all x w order view then sent u o e =
    pick (set_at out order.worker u (Some order) o (subst (λ z. order_at z u ≡ Some o) sent e))
  where
    is : out_view order ≡ (order_for worker_of b x w).out
    is = ap (λ (z : board.Order P). z.out) view

    new : find_order order.number (b.orders ++ (order_for worker_of b x w).out ∷ []) ≡ Some (out_view order)
    new =
        subst (λ z. find_order order.number (b.orders ++ z ∷ []) ≡ Some (out_view order)) is
        (find_new b.orders (out_view order) (λ y i.
        subst (λ n. y.number < n) (sym (ap (λ (z : OrderOut). z.number) is)) (each_of (OrderSound b) y b.orders i sound.orders).number))

    pick : ((u ≡ order.worker) × (Some order ≡ Some o)) ⊎ (order_at out u ≡ Some o)
        → find_order o.number (b.orders ++ (order_for worker_of b x w).out ∷ []) ≡ Some (out_view o)
    pick (inl q) =
        subst (λ (z : Order). find_order z.number (b.orders ++ (order_for worker_of b x w).out ∷ []) ≡ Some (out_view z)) (some_same order o q.1) new
    pick (inr q) = find_more o.number b.orders (order_for worker_of b x w).out (out_view o) (all u o q)
