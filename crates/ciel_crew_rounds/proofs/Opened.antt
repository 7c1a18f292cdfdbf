-- The crew at the opening.
use Rattle.std.proofs.Common.{◌≡◌, ℕ, zero, suc, ◌<◌, ◌≤◌, ◌^◌, List, [], ◌∷◌, length, map, replicate, Option, Some, None, refl, sym, ap}
use Rattle.std.proofs.Common.{subst, ◌∙◌, arith}
use Rattle.std.specs.Prelude.{All}
use Rattle.sky_base.specs.JobView.{job_view}
use Rattle.sky_base.specs.KitView.{Gives}
use Rattle.sky_base.specs.declared.object.TaskId.{TaskId}
use Rattle.ciel_crew_work.specs.Onward.{IsRead}
use Rattle.ciel_store.specs.Seen.{SeatSeen}
use Rattle.ciel_crew_lanes.specs.Seen.{LaneSeen}
use Rattle.ciel_task_order.specs.Shop.{InputsInOrder}
use Rattle.ciel_task_order.specs.declared.order.Order.{Order}
use Rattle.ciel_task_order.specs.declared.shop.Shop.{Shop}
use Rattle.ciel_task_crew.specs.Seen.{AllLook}
use Rattle.ciel_task_crew.proofs.ToldTasks.{seen_as}
use Rattle.ciel_crew_work.specs.declared.performing.Job.{Job}
use Rattle.ciel_crew_rounds.specs.Seats.{IsSeatOf, Stands, away_of, order_of, outs_of, seat_at, seats_of, told_of}
use Rattle.ciel_crew_rounds.specs.declared.seat.Seat.{Seat}

module _ (K N G R : Type 0) where
  -- a lane on which nothing was put
  abbrev IsFresh : LaneSeen (Job K N G R) → Type 0
  IsFresh l = l ≡ record { put = []; out = None }

  abbrev at_first : List G → List SeatSeen → List (Seat K N G R)
  at_first gates eyes = seats_of gates eyes

  seats_many : (gates : List G) (eyes : List SeatSeen) → length eyes ≡ length gates → length (at_first gates eyes) ≡ length gates
  seats_many [] eyes e = refl
  seats_many (g ∷ gates) [] e = absurd (omega (arith, e))
  seats_many (g ∷ gates) (x ∷ eyes) e =
      let rest : length eyes ≡ length gates = omega (arith, e) in
      ap suc (seats_many gates eyes rest)

  no_orders : (gates : List G) (eyes : List SeatSeen) → length eyes ≡ length gates → map order_of (at_first gates eyes)
      ≡ replicate (length gates) None
  no_orders [] eyes e = refl
  no_orders (g ∷ gates) [] e = absurd (omega (arith, e))
  no_orders (g ∷ gates) (x ∷ eyes) e =
      let rest : length eyes ≡ length gates = omega (arith, e) in
      ap (λ (os : List (Option Order)). None ∷ os) (no_orders gates eyes rest)

  none_away : (gates : List G) (eyes : List SeatSeen) → length eyes ≡ length gates → map away_of (at_first gates eyes)
      ≡ replicate (length gates) None
  none_away [] eyes e = refl
  none_away (g ∷ gates) [] e = absurd (omega (arith, e))
  none_away (g ∷ gates) (x ∷ eyes) e =
      let rest : length eyes ≡ length gates = omega (arith, e) in
      ap (λ (os : List (Option (Job K N G R))). None ∷ os) (none_away gates eyes rest)

  gates_tell : (entered : G → Option (List TaskId)) (gates : List G) (eyes : List SeatSeen) → length eyes ≡ length gates
      → map (told_of entered) (at_first gates eyes) ≡ map entered gates
  gates_tell entered [] eyes e = refl
  gates_tell entered (g ∷ gates) [] e = absurd (omega (arith, e))
  gates_tell entered (g ∷ gates) (x ∷ eyes) e =
      let rest : length eyes ≡ length gates = omega (arith, e) in
      ap (λ (ts : List (Option (List TaskId))). entered g ∷ ts) (gates_tell entered gates eyes rest)

  lanes_free : (ls : List (LaneSeen (Job K N G R))) → All IsFresh ls → outs_of ls ≡ replicate (length ls) None
  lanes_free [] all = refl
  lanes_free (l ∷ ls) all =
      let rest : outs_of ls ≡ replicate (length ls) None = lanes_free ls (λ k d lt. all (suc k) d (omega (arith, lt))) in
      subst (λ (x : LaneSeen (Job K N G R)). outs_of (x ∷ ls) ≡ replicate (length (l ∷ ls)) None) (sym (all zero l (omega arith)))
      (ap (λ (os : List (Option (Job K N G R))). None ∷ os) rest)

  pub opened_as : (shop : Shop K N) (entered : G → Option (List TaskId)) (gates : List G) (eyes : List SeatSeen) (seats : List (Seat K N G R))
      → length eyes ≡ length gates → seats ≡ at_first gates eyes
      → seen_as shop (map (told_of entered) seats) (map order_of seats) ≡ seen_as shop (map entered gates) (replicate (length gates) None)
  opened_as shop entered gates eyes seats e is =
      ap (seen_as shop (map (told_of entered) seats)) (ap (map order_of) is ∙ no_orders gates eyes e)
      ∙ ap (λ t. seen_as shop t (replicate (length gates) None)) (ap (map (told_of entered)) is ∙ gates_tell entered gates eyes e)

  module _ (gives : K → Gives) (digest : N → List ℕ → List ℕ) (shop : Shop K N) where
    own_at : (gates : List G) (eyes : List SeatSeen) → length eyes ≡ length gates → AllLook shop eyes → (k j : ℕ) → k < length gates
        → IsSeatOf gives digest shop j (seat_at (at_first gates eyes) k)
    own_at [] eyes e look k j lt = absurd (omega (arith, lt))
    own_at (g ∷ gates) [] e look k j lt = absurd (omega (arith, e))
    own_at (g ∷ gates) (x ∷ eyes) e look zero j lt = look zero x (omega arith)
    own_at (g ∷ gates) (x ∷ eyes) e look (suc k) j lt =
        let rest : length eyes ≡ length gates = omega (arith, e) in
        own_at gates eyes rest (λ i y under. look (suc i) y (omega (arith, under))) k j (omega (arith, lt))

    pub opened_stands : (ls : List (LaneSeen (Job K N G R))) (gates : List G) (eyes : List SeatSeen) (seats : List (Seat K N G R))
        (room : List G) (capacity : ℕ) → IsRead (job_view shop.job).script → InputsInOrder (job_view shop.job) → All IsFresh ls
        → length ls ≡ length gates → length eyes ≡ length gates → length gates < 2 ^ 32 → AllLook shop eyes → seats ≡ at_first gates eyes
        → room ≡ [] → length gates ≤ capacity → Stands gives digest shop ls seats room capacity
    opened_stands ls gates eyes seats room capacity read inputs all many e few look is empty enough =
        let long : length seats ≡ length gates = ap length is ∙ seats_many gates eyes e in
        record {
          read = read;
          inputs = inputs;
          few = omega (arith, few, long);
          outs = lanes_free ls all ∙ (ap (λ (n : ℕ). replicate n None) many ∙ (sym (none_away gates eyes e) ∙ ap (map away_of) (sym is)));
          each = λ k lt. subst (λ (ss : List (Seat K N G R)). IsSeatOf gives digest shop k (seat_at ss k)) (sym is)
              (own_at gates eyes e look k k (omega (arith, lt, long)));
          empty = empty;
          enough = omega (arith, enough, long);
        }
