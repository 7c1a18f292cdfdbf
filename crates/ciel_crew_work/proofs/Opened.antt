-- The crew at the opening.
use Rattle.std.proofs.Common.{◌≡◌, ℕ, zero, suc, ◌<◌, ◌≤◌, List, [], ◌∷◌, length, get_or, map, replicate, Option, Some, None, refl, sym, ap}
use Rattle.std.proofs.Common.{subst, ◌∙◌, arith}
use Rattle.std.specs.Prelude.{All}
use Rattle.sky_base.specs.JobView.{job_view}
use Rattle.sky_base.specs.declared.object.TaskId.{TaskId}
use Rattle.ciel_task.specs.Onward.{IsRead}
use Rattle.ciel_crew_lanes.specs.Seen.{LaneSeen, lane_at}
use Rattle.ciel_store.specs.Seen.{SeatSeen}
use Rattle.ciel_task_order.specs.Shop.{InputsInOrder}
use Rattle.ciel_task_order.specs.declared.shop.Shop.{Shop}
use Rattle.ciel_task.specs.Seen.{AllLook}
use Rattle.ciel_task.proofs.ToldTasks.{seen_as}
use Rattle.ciel_crew_work.specs.Crewed.{Keeps, KeepsAt, Stands, lanes_told, orders_of, tools_of}
use Rattle.ciel_crew_work.specs.declared.performing.Job.{Job}
use Rattle.ciel_crew_work.specs.declared.performing.Tools.{Tools}

pub tools_many : {G : Type 0} (gates : List G) (eyes : List SeatSeen) → length eyes ≡ length gates → length (tools_of gates eyes) ≡ length gates
tools_many [] eyes e = refl
tools_many (g ∷ gates) [] e = absurd (omega (arith, e))
tools_many (g ∷ gates) (x ∷ eyes) e =
    let rest : length eyes ≡ length gates = omega (arith, e) in
    ap suc (tools_many gates eyes rest)

module _ {K N G R : Type 0} where
  -- a lane that nothing was put on
  abbrev IsFresh : LaneSeen (Job K N G R) → Type 0
  IsFresh l = l ≡ record { put = []; out = None }

  rest_fresh : (l : LaneSeen (Job K N G R)) (ls : List (LaneSeen (Job K N G R))) → All IsFresh (l ∷ ls) → All IsFresh ls
  rest_fresh l ls all k d lt = all (suc k) d (omega (arith, lt))

  no_orders : (ls : List (LaneSeen (Job K N G R))) → All IsFresh ls → orders_of ls ≡ replicate (length ls) None
  no_orders [] all = refl
  no_orders (l ∷ ls) all =
      let rest : orders_of ls ≡ replicate (length ls) None = no_orders ls (rest_fresh l ls all) in
      subst (λ (x : LaneSeen (Job K N G R)). orders_of (x ∷ ls) ≡ replicate (length (l ∷ ls)) None) (sym (all zero l (omega arith)))
      (ap (λ os. None ∷ os) rest)

  all_told : (entered : G → Option (List TaskId)) (ls : List (LaneSeen (Job K N G R))) (gates : List G) (eyes : List SeatSeen) → All IsFresh ls
      → length ls ≡ length gates → length eyes ≡ length gates
      → lanes_told entered ls (tools_of gates eyes) ≡ map entered gates
  all_told entered [] [] eyes all many e = refl
  all_told entered [] (g ∷ gates) eyes all many e = absurd (omega (arith, many))
  all_told entered (l ∷ ls) [] eyes all many e = absurd (omega (arith, many))
  all_told entered (l ∷ ls) (g ∷ gates) [] all many e = absurd (omega (arith, e))
  all_told entered (l ∷ ls) (g ∷ gates) (x ∷ eyes) all many e =
      let more : length ls ≡ length gates = omega (arith, many) in
      let fewer : length eyes ≡ length gates = omega (arith, e) in
      let rest : lanes_told entered ls (tools_of gates eyes) ≡ map entered gates = all_told entered ls gates eyes (rest_fresh l ls all) more fewer in
      subst (λ (y : LaneSeen (Job K N G R)). lanes_told entered (y ∷ ls) (tools_of (g ∷ gates) (x ∷ eyes)) ≡ map entered (g ∷ gates))
      (sym (all zero l (omega arith))) (ap (λ ts. entered g ∷ ts) rest)

  module _ (shop : Shop K N) where
    keeps_at : (gates : List G) (eyes : List SeatSeen) → length eyes ≡ length gates → AllLook shop eyes → (k j : ℕ) → k < length gates
        → KeepsAt {R = R} shop j None (get_or (tools_of gates eyes) k None)
    keeps_at [] eyes e look k j lt = absurd (omega (arith, lt))
    keeps_at (g ∷ gates) [] e look k j lt = absurd (omega (arith, e))
    keeps_at (g ∷ gates) (x ∷ eyes) e look zero j lt = record { one = refl; order = tt; look = look zero x (omega arith) }
    keeps_at (g ∷ gates) (x ∷ eyes) e look (suc k) j lt =
        let rest : length eyes ≡ length gates = omega (arith, e) in
        keeps_at gates eyes rest (λ i y under. look (suc i) y (omega (arith, under))) k j (omega (arith, lt))

    pub opens : (ls : List (LaneSeen (Job K N G R))) (gates : List G) (eyes : List SeatSeen) → All IsFresh ls → length ls ≡ length gates
        → length eyes ≡ length gates → AllLook shop eyes → Keeps shop ls (tools_of gates eyes)
    opens ls gates eyes all many e look = record {
      same = tools_many gates eyes e ∙ sym many;
      each = λ k lt.
          let f : lane_at ls k ≡ record { put = []; out = None } = all k record { put = []; out = None } lt in
          subst (λ (x : LaneSeen (Job K N G R)). KeepsAt shop k x.out (get_or (tools_of gates eyes) k None)) (sym f)
          (keeps_at gates eyes e look k k (omega (arith, lt, many)));
    }

  pub opened_as : (shop : Shop K N) (entered : G → Option (List TaskId)) (ls : List (LaneSeen (Job K N G R))) (gates : List G)
      (eyes : List SeatSeen) (idle : List (Option (Tools G))) → All IsFresh ls → length ls ≡ length gates → length eyes ≡ length gates → idle
      ≡ tools_of gates eyes
      → seen_as shop (lanes_told entered ls idle) (orders_of ls) ≡ seen_as shop (map entered gates) (replicate (length gates) None)
  opened_as shop entered ls gates eyes idle all many e is =
      ap (seen_as shop (lanes_told entered ls idle)) (no_orders ls all ∙ ap (λ (n : ℕ). replicate n None) many)
      ∙ ap (λ t. seen_as shop t (replicate (length gates) None)) (ap (lanes_told entered ls) is ∙ all_told entered ls gates eyes all many e)

  pub opened_stands : (shop : Shop K N) (ls : List (LaneSeen (Job K N G R))) (gates : List G) (eyes : List SeatSeen)
      (idle : List (Option (Tools G))) (room : List G) (capacity : ℕ) → IsRead (job_view shop.job).script → InputsInOrder (job_view shop.job)
      → All IsFresh ls → length ls ≡ length gates → length eyes ≡ length gates → AllLook shop eyes → idle ≡ tools_of gates eyes → room ≡ []
      → length gates ≤ capacity → Stands shop ls idle room capacity
  opened_stands shop ls gates eyes idle room capacity read inputs all many e look is empty enough =
      let long : length idle ≡ length gates = ap length is ∙ tools_many gates eyes e in
      record {
        read = read;
        inputs = inputs;
        keeps = subst (λ (x : List (Option (Tools G))). Keeps shop ls x) (sym is) (opens shop ls gates eyes all many e look);
        empty = empty;
        enough = omega (arith, enough, long);
      }
