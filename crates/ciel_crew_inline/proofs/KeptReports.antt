-- What a crew keeps where an order is performed, and where a report is handed out.
use Rattle.std.proofs.Common.{◌≡◌, ◌≢◌, ℕ, zero, suc, ◌<◌, List, [], ◌∷◌, length, map, get_or, set, replicate, Option, Some, None, ◌⊎◌, inl}
use Rattle.std.proofs.Common.{inr, refl, sym, ap, subst, ◌∙◌, arith}
use Rattle.std.proofs.lemmas.Bool.{cases_eq}
use Rattle.std.proofs.lemmas.List.{get_or_default, get_or-map, get_or-set_other, get_or-set_same, length-map, length-set, map-set}
use Rattle.sky_base.specs.KitView.{Gives}
use Rattle.sky_base.specs.declared.object.TaskId.{TaskId}
use Rattle.ciel_gate.specs.Entered.{IsEntered}
use Rattle.ciel_task_order.specs.declared.order.Order.{Order}
use Rattle.ciel_task_order.specs.declared.shop.Shop.{Shop}
use Rattle.ciel_store.specs.Seen.{SeatSeen}
use Rattle.ciel_task.specs.Crews.{Answers, Fades, FadesEach, IsOut, Reports, extended, order_at, told_at}
use Rattle.ciel_task.specs.Seen.{AllLook}
use Rattle.ciel_task.proofs.ToldTasks.{fades_one, seen_as}
use Rattle.ciel_crew_inline.specs.Kept.{KeptAt, KeptSo, Stands, order_of}
use Rattle.ciel_crew_inline.specs.declared.seats.Kept.{Kept}

-- ---- orders

pub out_at : (kept : List (Option Kept)) (k : ℕ) → order_at (map order_of kept) k ≡ order_of (get_or kept k None)
out_at [] zero = refl
out_at [] (suc k) = refl
out_at (x ∷ kept) zero = refl
out_at (x ∷ kept) (suc k) = out_at kept k

pub out_set : (kept : List (Option Kept)) (w : ℕ) (x : Option Kept) (o : Option Order) → order_of x ≡ o → map order_of (set kept w x)
    ≡ set (map order_of kept) w o
out_set kept w x o e = map-set order_of kept w x ∙ ap (set (map order_of kept) w) e

-- at the opening nothing is out
pub nothing_out : (n : ℕ) → map order_of (replicate n None) ≡ replicate n None
nothing_out zero = refl
nothing_out (suc n) = ap (λ os. None ∷ os) (nothing_out n)

pub opened_as : {K N : Type 0} (shop : Shop K N) (told : List (Option (List TaskId))) (kept : List (Option Kept)) (workers many : ℕ) → kept
    ≡ replicate workers None → workers ≡ many → seen_as shop told (map order_of kept) ≡ seen_as shop told (replicate many None)
opened_as shop told kept workers many e is =
    ap (seen_as shop told) (ap (map order_of) e ∙ nothing_out workers ∙ ap (λ n. replicate n None) is)

-- ---- what is kept

module _ {K N : Type 0} (gives : K → Gives) (digest : N → List ℕ → List ℕ) (shop : Shop K N) where
  pub kept_set : (kept : List (Option Kept)) (w : ℕ) (x : Option Kept) → w < length kept → KeptSo gives digest shop kept
      → KeptAt gives digest shop w x → KeptSo gives digest shop (set kept w x)
  kept_set kept w x lt so at k = go (cases_eq k w)
    where
      go : (k ≡ w) ⊎ (k ≢ w) → KeptAt gives digest shop k (get_or (set kept w x) k None)
      go (inl e) =
          subst (λ y. KeptAt gives digest shop y (get_or (set kept w x) y None)) (sym e)
          (subst (KeptAt gives digest shop w) (sym (get_or-set_same kept w x None lt)) at)
      go (inr n) = subst (KeptAt gives digest shop k) (sym (get_or-set_other kept w k x None n)) (so k)

  look_set : (eyes : List SeatSeen) (w : ℕ) (eye : SeatSeen) → AllLook shop eyes → w < length eyes → eye.of ≡ shop.shelves.of
      → AllLook shop (set eyes w eye)
  look_set eyes w eye look lt of k d under = go (cases_eq k w)
    where
      go : (k ≡ w) ⊎ (k ≢ w) → (get_or (set eyes w eye) k d).of ≡ shop.shelves.of
      go (inl e) =
          ap (λ y. (get_or (set eyes w eye) y d).of) e ∙ ap (λ (y : SeatSeen). y.of) (get_or-set_same eyes w eye d lt) ∙ of
      go (inr n) =
          ap (λ (y : SeatSeen). y.of) (get_or-set_other eyes w k eye d n) ∙ look k d (omega (arith, under, length-set eyes w eye))

  -- where an order was performed
  pub stands_after : {G : Type 0} (gates : List G) (w : ℕ) (gate : G) (eyes : List SeatSeen) (eye : SeatSeen) (kept after : List (Option Kept))
      → Stands gives digest shop (length gates) eyes kept → w < length eyes → eye.of ≡ shop.shelves.of → length after ≡ length kept
      → KeptSo gives digest shop after → Stands gives digest shop (length (set gates w gate)) (set eyes w eye) after
  stands_after gates w gate eyes eye kept after s lt of many so =
      record {
        read = s.read;
        inputs = s.inputs;
        many = length-set eyes w eye ∙ s.many ∙ sym (length-set gates w gate);
        all = many ∙ s.all ∙ sym (length-set gates w gate);
        look = look_set eyes w eye s.look lt of;
        so = so;
      }

  -- where a report was handed out
  pub stands_handed : (workers : ℕ) (eyes : List SeatSeen) (kept : List (Option Kept)) (w : ℕ) (x : Option Kept)
      → Stands gives digest shop workers eyes kept → w < length kept → x ≡ None → Stands gives digest shop workers eyes (set kept w x)
  stands_handed workers eyes kept w x s lt e =
      record {
        read = s.read;
        inputs = s.inputs;
        many = s.many;
        all = length-set kept w x ∙ s.all;
        look = s.look;
        so = kept_set kept w x lt s.so (subst (KeptAt gives digest shop w) (sym e) tt);
      }

  pub handed : (kept : List (Option Kept)) (w : ℕ) (k : Kept) (x : Option Kept) → KeptSo gives digest shop kept → get_or kept w None ≡ Some k → x
      ≡ None → Reports gives digest shop (map order_of kept) (map order_of (set kept w x)) k.report
  handed kept w k x so e none_left = go (subst (KeptAt gives digest shop w) e (so w))
    where
      go : (k.of.value.worker ≡ w) × Answers gives digest shop k.of.value k.report
          → Reports gives digest shop (map order_of kept) (map order_of (set kept w x)) k.report
      go (at, answers) =
          let here : k.report.worker ≡ w = answers.performs.worker ∙ at in (
            k.of.value,
            ap (order_at (map order_of kept)) here ∙ out_at kept w ∙ ap order_of e,
            out_set kept w x None (ap order_of none_left)
                ∙ ap (λ y. set (map order_of kept) y None) (sym here),
            answers,
          )

-- a worker that the crew has
pub within : (kept : List (Option Kept)) {out : List (Option Order)} {w : ℕ} → map order_of kept ≡ out → w < length out → w < length kept
within kept {out} {w} e lt =
    let same : length out ≡ length kept = ap length (sym e) ∙ length-map kept order_of in
    omega (arith, lt, same)

pub looks_there : {K N : Type 0} (shop : Shop K N) (eyes : List SeatSeen) (w : ℕ) (eye : SeatSeen) → AllLook shop eyes → w < length eyes → eye
    ≡ get_or eyes w eye → eye.of ≡ shop.shelves.of
looks_there shop eyes w eye look lt is = ap (λ (y : SeatSeen). y.of) is ∙ look w eye lt

pub kept_at : {K N : Type 0} (gives : K → Gives) (digest : N → List ℕ → List ℕ) (shop : Shop K N) (order : Order) (k : Kept) → k.of.value ≡ order
    → Answers gives digest shop order k.report → KeptAt gives digest shop order.worker (Some k)
kept_at gives digest shop order k e a =
    (ap (λ (x : Order). x.worker) e, subst (λ x. Answers gives digest shop x k.report) (sym e) a)

-- what was taken from the place
pub taken_is : (kept : List (Option Kept)) (w : ℕ) (was got : Option Kept) (k : Kept) → w < length kept → was ≡ get_or kept w was → got ≡ was
    → got ≡ Some k → get_or kept w None ≡ Some k
taken_is kept w was got k lt is same e = get_or_default kept w None was lt ∙ sym is ∙ sym same ∙ e

-- where no report is kept, no order is out
pub none_out : (kept seen : List (Option Kept)) (out : List (Option Order)) → map order_of kept ≡ out → seen ≡ kept
    → ((k : ℕ) → get_or seen k None ≡ None) → IsOut out → ⊥
none_out kept seen out e same none_kept (w, order, is) =
    absurd (some_none (sym (ap (λ o. order_at o w) (sym e) ∙ out_at kept w ∙ ap (λ l. order_of (get_or l w None)) (sym same)
    ∙ ap order_of (none_kept w)) ∙ is))
  where
    some_none : None ≡ Some order → ⊥
    some_none q = cc

-- ---- gates

module _ {G : Type 0} (entered : G → Option (List TaskId)) where
  told_one : (gates : List G) (k : ℕ) (d : G) → k < length gates → told_at (map entered gates) k ≡ entered (get_or gates k d)
  told_one gates k d lt = get_or-map entered gates k d None lt

  -- one gate entered a task
  pub enters : (gates : List G) (w : ℕ) (old new : G) (task : TaskId) → w < length gates → get_or gates w old ≡ old
      → IsEntered (entered old) task (entered new)
      → FadesEach (set (map entered gates) w (extended (told_at (map entered gates) w) task)) (map entered (set gates w new))
  enters gates w old new task lt is e =
      (length-map (set gates w new) entered ∙ length-set gates w new ∙ sym (length-set (map entered gates) w _ ∙ length-map gates entered), each)
    where
      after : ℕ → Option (List TaskId)
      after k = get_or (map entered (set gates w new)) k None

      longer_list : Option (List TaskId)
      longer_list = extended (told_at (map entered gates) w) task

      was : told_at (map entered gates) w ≡ entered old
      was = told_one gates w old lt ∙ ap entered is

      each : (k : ℕ) → k < length (set (map entered gates) w (extended (told_at (map entered gates) w) task))
          → Fades (get_or (set (map entered gates) w (extended (told_at (map entered gates) w) task)) k None) (after k)
      each k under = go (cases_eq k w)
        where
          less : k < length gates
          less = omega (arith, under, length-set (map entered gates) w (extended (told_at (map entered gates) w) task), length-map gates entered)

          longer : w < length (map entered gates)
          longer = omega (arith, lt, length-map gates entered)

          mapped : after k ≡ get_or (set (map entered gates) w (entered new)) k None
          mapped = ap (λ l. get_or l k None) (map-set entered gates w new)

          go : (k ≡ w) ⊎ (k ≢ w) → Fades (get_or (set (map entered gates) w (extended (told_at (map entered gates) w) task)) k None) (after k)
          go (inl q) =
              subst (λ y. Fades y (after k)) (sym left)
              (subst (Fades longer_list) (sym right) (subst (λ y. Fades (extended y task) (entered new)) (sym was)
              (fades_one task (entered old) (entered new) e)))
            where
              left : get_or (set (map entered gates) w longer_list) k None ≡ longer_list
              left =
                  ap (λ y. get_or (set (map entered gates) w longer_list) y None) q ∙ get_or-set_same (map entered gates) w longer_list None longer

              right : after k ≡ entered new
              right =
                  mapped ∙ ap (λ y. get_or (set (map entered gates) w (entered new)) y None) q
                  ∙ get_or-set_same (map entered gates) w (entered new) None longer
          go (inr n) = inr (mapped ∙ get_or-set_other (map entered gates) w k (entered new) None n
              ∙ sym (get_or-set_other (map entered gates) w k (extended (told_at (map entered gates) w) task) None n))
