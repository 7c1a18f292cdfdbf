-- What is seen of the crew after each of its calls.
use Rattle.std.proofs.Common.{◌≡◌, ◌≢◌, ℕ, zero, suc, ◌+◌, ◌<◌, ◌≤◌, List, [], ◌∷◌, length, map, get_or, set, replicate, Option, Some, None}
use Rattle.std.proofs.Common.{Result, Ok, inl, inr, refl, sym, ap, subst, ◌∙◌, arith, length-set}
use Rattle.std.proofs.Math.Decide.{dec_lt}
use Rattle.std.proofs.lemmas.List.{ext_get_or, get_or_past, length-map, map-set, set-get_or}
use Rattle.std.specs.Arc.{arc_value}
use Rattle.std.specs.Prelude.{All, IfOk, IfSome, IsSome}
use Rattle.sky_base.specs.JobView.{job_view}
use Rattle.sky_base.specs.KitView.{Gives}
use Rattle.sky_base.specs.declared.object.TaskId.{TaskId}
use Rattle.sky_base.specs.declared.text.Memory.{Memory}
use Rattle.ciel_crew_work.specs.Onward.{IsRead}
use Rattle.ciel_store.specs.Seen.{SeatSeen}
use Rattle.ciel_task_order.specs.Shop.{InputsInOrder}
use Rattle.ciel_task_order.specs.declared.order.Order.{Order}
use Rattle.ciel_task_order.specs.declared.report.Report.{Report}
use Rattle.ciel_task_order.specs.declared.shop.Shop.{Shop}
use Rattle.ciel_crew_lanes.specs.Seen.{LaneSeen, lane_at}
use Rattle.ciel_task_crew.specs.Crews.{Answers, Fades, FadesEach, Reports, TellsTask, extended, order_at, told_at}
use Rattle.ciel_crew_work.specs.Crewed.{CanBeDone}
use Rattle.ciel_crew_work.specs.declared.performing.Done.{Done}
use Rattle.ciel_crew_work.specs.declared.performing.Job.{Job}
use Rattle.ciel_crew_work.specs.declared.performing.Tools.{Tools}
use Rattle.ciel_crew_rounds.specs.Seats.{CanPlay, GoEach, IsHome, IsReportOf, IsSeatOf, Stands, away_of, gate_in, gates_in, idle_of, kept_of, order_of}
use Rattle.ciel_crew_rounds.specs.Seats.{outs_of, seat_at, sent_of, told_of}
use Rattle.ciel_crew_rounds.specs.declared.seat.Seat.{Seat}
use Rattle.ciel_crew_rounds.specs.declared.seat.Seat.TheVariants.{Idle, Sent, Away, Kept, Vacant}
use Rattle.ciel_crew_rounds.proofs.SeatSteps.{away_here, order_here, seat_here, set_each, told_here}

-- ---- lists that gates tell

pub fades_same : (a b : List (Option (List TaskId))) → b ≡ a → FadesEach a b
fades_same a b e = (ap length e, λ k lt. inr (ap (λ (l : List (Option (List TaskId))). get_or l k None) e))

pub fades_by : (a b c : List (Option (List TaskId))) → FadesEach a b → c ≡ b → FadesEach a c
fades_by a b c f e = subst (λ (l : List (Option (List TaskId))). FadesEach a l) (sym e) f

module _ {K N G R : Type 0} where
  -- a seat of which a report is kept
  pub kept_is : (s : Seat K N G R) → IsSome (kept_of s) → (done : Done G) × (s ≡ Kept done)
  kept_is (Idle tools) e = absurd cc
  kept_is (Sent job) e = absurd cc
  kept_is (Away job) e = absurd cc
  kept_is (Kept done) e = (done, refl)
  kept_is Vacant e = absurd cc

  -- where an idle worker was given an order, it has the job with its gate and its eye
  pub given : (job : Tools G → Job K N G R) (s after : Seat K N G R) → IsSome (idle_of s)
      → IfSome (idle_of s) (λ (tools : Tools G). after ≡ Sent (job tools)) → (tools : Tools G) × (s ≡ Idle tools) × (after ≡ Sent (job tools))
  given job (Idle tools) after some e = (tools, refl, e)
  given job (Sent x) after some e = absurd cc
  given job (Away x) after some e = absurd cc
  given job (Kept done) after some e = absurd cc
  given job Vacant after some e = absurd cc

  -- a seat that is set in place of one with the same order, and of one whose gate tells the same
  told_set : (entered : G → Option (List TaskId)) (ss : List (Seat K N G R)) (w : ℕ) (s : Seat K N G R) → told_of entered s
      ≡ told_of entered (seat_at ss w) → map (told_of entered) (set ss w s) ≡ map (told_of entered) ss
  told_set entered ss w s e = map-set (told_of entered) ss w s
      ∙ (ap (λ (x : Option (List TaskId)). set (map (told_of entered) ss) w x) (e ∙ sym (told_here entered ss w))
      ∙ set-get_or (map (told_of entered) ss) w None)

  away_set : (ss : List (Seat K N G R)) (w : ℕ) (s : Seat K N G R) → away_of s ≡ None → away_of (seat_at ss w) ≡ None
      → map away_of (set ss w s) ≡ map away_of ss
  away_set ss w s e was = map-set away_of ss w s
      ∙ (ap (λ (x : Option (Job K N G R)). set (map away_of ss) w x) (e ∙ (sym was ∙ sym (away_here ss w)))
      ∙ set-get_or (map away_of ss) w None)

  -- the gates of seats at which nothing is still to be performed
  pub gates_told : (entered : G → Option (List TaskId)) (ss : List (Seat K N G R)) → ((k : ℕ) → k < length ss → IsSome (gate_in (seat_at ss k)))
      → map entered (gates_in ss) ≡ map (told_of entered) ss
  gates_told entered [] all = refl
  gates_told entered (Idle tools ∷ ss) all = ap (λ l. entered tools.gate ∷ l) (gates_told entered ss (λ k lt. all (suc k) (omega (arith, lt))))
  gates_told entered (Kept done ∷ ss) all =
      ap (λ l. entered done.tools.gate ∷ l) (gates_told entered ss (λ k lt. all (suc k) (omega (arith, lt))))
  gates_told entered (Sent job ∷ ss) all = let none = all zero (omega arith) in absurd cc
  gates_told entered (Away job ∷ ss) all = let none = all zero (omega arith) in absurd cc
  gates_told entered (Vacant ∷ ss) all = let none = all zero (omega arith) in absurd cc

module _ {K N G R : Type 0} (gives : K → Gives) (digest : N → List ℕ → List ℕ) where
  has_gate : (shop : Shop K N) (k : ℕ) (s : Seat K N G R) → IsSeatOf gives digest shop k s → sent_of s ≡ None → away_of s ≡ None
      → IsSome (gate_in s)
  has_gate shop k (Idle tools) own sent away = refl
  has_gate shop k (Sent job) own sent away = absurd cc
  has_gate shop k (Away job) own sent away = absurd cc
  has_gate shop k (Kept done) own sent away = refl
  has_gate shop k Vacant own sent away = absurd own

  can_of : (shop : Shop K N) (k : ℕ) (s : Seat K N G R) → IsSeatOf gives digest shop k s → IfSome (sent_of s) (CanBeDone gives digest)
  can_of shop k (Idle tools) own = tt
  can_of shop k (Sent job) own = own.can
  can_of shop k (Away job) own = tt
  can_of shop k (Kept done) own = tt
  can_of shop k Vacant own = tt

  module _ (shop : Shop K N) (ls : List (LaneSeen (Job K N G R))) (ss : List (Seat K N G R)) (gates : List G) (room : ℕ)
      (stands : Stands gives digest shop ls ss gates room) where
    -- what stands is enough for a round
    pub stands_play : CanPlay gives digest ls ss
    stands_play = record { few = stands.few; outs = stands.outs; can = λ k. go k (dec_lt k (length ss)) }
      where
        go : (k : ℕ) → Dec (k < length ss) → IfSome (sent_of (seat_at ss k)) (CanBeDone gives digest)
        go k (yes lt) = can_of shop k (seat_at ss k) (stands.each k lt)
        go k (no more) =
            subst (λ (s : Seat K N G R). IfSome (sent_of s) (CanBeDone gives digest)) (sym (get_or_past ss k Vacant (omega (arith, more)))) tt

    -- what stands after a round
    pub stands_on : (entered : G → Option (List TaskId)) (after : List (LaneSeen (Job K N G R))) (seats : List (Seat K N G R))
        → CanPlay gives digest after seats → GoEach gives digest entered ss seats → Stands gives digest shop after seats gates room
    stands_on entered after seats can each = record {
      read = stands.read;
      inputs = stands.inputs;
      few = can.few;
      outs = can.outs;
      each = λ k lt. (each.1 k).own shop k (stands.each k (omega (arith, lt, each.0)));
      empty = stands.empty;
      enough = omega (arith, stands.enough, each.0);
    }

    -- and where a seat is set of which nothing is away
    pub stands_set : (w : ℕ) (s : Seat K N G R) → w < length ss → IsSeatOf gives digest shop w s → away_of s ≡ None → away_of (seat_at ss w) ≡ None
        → Stands gives digest shop ls (set ss w s) gates room
    stands_set w s lt own away was = record {
      read = stands.read;
      inputs = stands.inputs;
      few = omega (arith, stands.few, length-set ss w s);
      outs = stands.outs ∙ sym (away_set ss w s away was);
      each = λ k under. set_each (λ j y. IsSeatOf gives digest shop j y) ss w s lt own k
          (λ n. stands.each k (omega (arith, under, length-set ss w s)));
      empty = stands.empty;
      enough = omega (arith, stands.enough, length-set ss w s);
    }

    -- all gates at the end, after a round
    pub all_gates : (entered : G → Option (List TaskId)) (seats : List (Seat K N G R)) → GoEach gives digest entered ss seats → IsHome seats
        → map entered (gates_in seats) ≡ map (told_of entered) seats
    all_gates entered seats each home = gates_told entered seats
        (λ k lt. has_gate shop k (seat_at seats k) ((each.1 k).own shop k (stands.each k (omega (arith, lt, each.0)))) (home k).0 (home k).1)

  -- a round changes no order, and what gates tell stays or is told no longer
  pub orders_same : (entered : G → Option (List TaskId)) (a b : List (Seat K N G R)) → GoEach gives digest entered a b → map order_of b
      ≡ map order_of a
  orders_same entered a b each = ext_get_or None (map order_of b) (map order_of a)
      (length-map b order_of ∙ (each.0 ∙ sym (length-map a order_of)))
      (λ k lt. order_here b k ∙ ((each.1 k).order ∙ sym (order_here a k)))

  pub told_fades : (entered : G → Option (List TaskId)) (a b : List (Seat K N G R)) → GoEach gives digest entered a b
      → FadesEach (map (told_of entered) a) (map (told_of entered) b)
  told_fades entered a b each = (
    length-map b (told_of entered) ∙ (each.0 ∙ sym (length-map a (told_of entered))),
    λ k lt. subst (λ (x : Option (List TaskId) × Option (List TaskId)). Fades x.0 x.1)
        (λ i. (sym (told_here entered a k) i, sym (told_here entered b k) i)) (each.1 k).told,
  )

  -- ---- where an order is sent

  module _ (entered : G → Option (List TaskId)) (shop : Shop K N) (ls : List (LaneSeen (Job K N G R))) (ss : List (Seat K N G R))
      (gates : List G) (room w : ℕ) (seen after : Seat K N G R) (stands : Stands gives digest shop ls ss gates room) (lt : w < length ss)
      (here : seen ≡ get_or ss w seen) where
    -- the worker has no order, so it is idle
    pub idle_there : order_of (seat_at ss w) ≡ None → IsSome (idle_of seen)
    idle_there none = subst (λ (s : Seat K N G R). IsSome (idle_of s)) (seat_here ss w seen lt here) (go (seat_at ss w) none (stands.each w lt))
      where
        go : (s : Seat K N G R) → order_of s ≡ None → IsSeatOf gives digest shop w s → IsSome (idle_of s)
        go (Idle tools) e own = refl
        go (Sent job) e own = absurd cc
        go (Away job) e own = absurd cc
        go (Kept done) e own = absurd cc
        go Vacant e own = absurd own

    module _ (job : Job K N G R) (was : seen ≡ Idle job.tools) (now : after ≡ Sent job) where
      there : seat_at ss w ≡ Idle job.tools
      there = seat_here ss w seen lt here ∙ was

      pub look_there : job.tools.eye.of ≡ shop.shelves.of
      look_there = subst (λ (s : Seat K N G R). IsSeatOf gives digest shop w s) there (stands.each w lt)

      pub sent_stands : CanBeDone gives digest job → arc_value job.shop ≡ shop → job.order.worker ≡ w
          → Stands gives digest shop ls (set ss w after) gates room
      sent_stands can own for = stands_set shop ls ss gates room stands w after lt
          (subst (λ (s : Seat K N G R). IsSeatOf gives digest shop w s) (sym now) record { can = can; own = own; for = for })
          (ap away_of now) (ap away_of there)

      pub sent_out : (out : List (Option Order)) → map order_of ss ≡ out → map order_of (set ss w after) ≡ set out w (Some job.order)
      sent_out out e = map-set order_of ss w after ∙ (λ i. set (e i) w (order_of (now i)))

      pub sent_told : (told : List (Option (List TaskId))) → map (told_of entered) ss ≡ told
          → FadesEach (set told w (extended (get_or told w None) job.order.task)) (map (told_of entered) (set ss w after))
      sent_told told e =
          let was_told : get_or told w None ≡ entered job.tools.gate =
          ap (λ (t : List (Option (List TaskId))). get_or t w None) (sym e) ∙ (told_here entered ss w ∙ ap (told_of entered) there) in
          fades_same (set told w (extended (get_or told w None) job.order.task)) (map (told_of entered) (set ss w after))
          (map-set (told_of entered) ss w after
          ∙ (λ i. set (e i) w ((ap (told_of entered) now ∙ sym (ap (λ (x : Option (List TaskId)). extended x job.order.task) was_told)) i)))

  -- ---- where a report is handed out

  module _ (entered : G → Option (List TaskId)) (shop : Shop K N) (ls lanes : List (LaneSeen (Job K N G R))) (ss seats : List (Seat K N G R))
      (gates : List G) (room w : ℕ) (seen after : Seat K N G R) (stands : Stands gives digest shop ls ss gates room)
      (can : CanPlay gives digest lanes seats) (each : GoEach gives digest entered ss seats) (lt : w < length seats)
      (kept : IsSome (kept_of (seat_at seats w))) (here : seen ≡ get_or seats w seen)
      (idle : IfSome (kept_of seen) (λ (done : Done G). after ≡ Idle done.tools)) where
    at : seat_at seats w ≡ seen
    at = seat_here seats w seen lt here

    found : (done : Done G) × (seen ≡ Kept done)
    found = kept_is seen (subst (λ (s : Seat K N G R). IsSome (kept_of s)) at kept)

    now : after ≡ Idle found.0.tools
    now = subst (λ (s : Seat K N G R). IfSome (kept_of s) (λ (done : Done G). after ≡ Idle done.tools)) found.1 idle

    round : Stands gives digest shop lanes seats gates room
    round = stands_on shop ls ss gates room stands entered lanes seats can each

    own : IsReportOf gives digest shop w found.0
    own = subst (λ (s : Seat K N G R). IsSeatOf gives digest shop w s) (at ∙ found.1) (round.each w lt)

    pub handed_stands : Stands gives digest shop lanes (set seats w after) gates room
    handed_stands = stands_set shop lanes seats gates room round w after lt
        (subst (λ (s : Seat K N G R). IsSeatOf gives digest shop w s) (sym now) own.look) (ap away_of now) (ap away_of (at ∙ found.1))

    pub handed_told : (told : List (Option (List TaskId))) → map (told_of entered) ss ≡ told
        → FadesEach told (map (told_of entered) (set seats w after))
    handed_told told e = subst (λ (t : List (Option (List TaskId))). FadesEach t (map (told_of entered) (set seats w after))) e
        (fades_by (map (told_of entered) ss) (map (told_of entered) seats) (map (told_of entered) (set seats w after))
        (told_fades entered ss seats each)
        (told_set entered seats w after (ap (told_of entered) now ∙ sym (ap (told_of entered) (at ∙ found.1)))))

    pub handed_report : (out : List (Option Order)) (result : Result Report Memory) (report : Report) → map order_of ss ≡ out
        → IfSome (kept_of seen) (λ (done : Done G). result ≡ done.report) → result ≡ Ok report
        → Reports gives digest shop out (map order_of (set seats w after)) report
    handed_report out result report e is ok =
        let given : found.0.report ≡ Ok report =
        sym (subst (λ (s : Seat K N G R). IfSome (kept_of s) (λ (done : Done G). result ≡ done.report)) found.1 is) ∙ ok in
        let answers : Answers gives digest shop found.0.order report =
        subst (λ (r : Result Report Memory). IfOk r (Answers gives digest shop found.0.order)) given own.report in
        let here_is : report.worker ≡ w = answers.performs.worker ∙ own.for in
        let same : map order_of seats ≡ out = orders_same entered ss seats each ∙ e in (
          found.0.order,
          ap (λ (k : ℕ). order_at out k) here_is
              ∙ (ap (λ (o : List (Option Order)). order_at o w) (sym same) ∙ (order_here seats w ∙ ap order_of (at ∙ found.1))),
          map-set order_of seats w after ∙ (λ i. set (same i) (sym here_is i) (order_of (now i))),
          answers,
        )
