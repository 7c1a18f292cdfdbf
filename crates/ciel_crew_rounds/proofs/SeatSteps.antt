-- What becomes of a worker's seat in a round, and of all seats.
use Rattle.std.proofs.Common.{◌≡◌, ◌≢◌, ℕ, zero, suc, ◌+◌, ◌<◌, ◌≤◌, ◌^◌, List, [], ◌∷◌, length, map, get_or, set, Option, Some, None, ◌⊎◌}
use Rattle.std.proofs.Common.{inl, inr, refl, sym, ap, subst, ◌∙◌, arith, length-set}
use Rattle.std.proofs.Math.ListN.{get_or-map}
use Rattle.std.proofs.lemmas.Bool.{cases_eq}
use Rattle.std.proofs.lemmas.List.{get_or_default, get_or_past, get_or-set_other, get_or-set_same, length-map, map-set, set-get_or}
use Rattle.std.proofs.Math.Decide.{dec_lt}
use Rattle.std.specs.Prelude.{IfSome, IsSome}
use Rattle.sky_base.specs.KitView.{Gives}
use Rattle.sky_base.specs.declared.object.TaskId.{TaskId}
use Rattle.ciel_task_order.specs.declared.order.Order.{Order}
use Rattle.ciel_task_order.specs.declared.shop.Shop.{Shop}
use Rattle.ciel_crew_lanes.specs.Seen.{LaneSeen, lane_at}
use Rattle.ciel_task_crew.specs.Crews.{Fades, IsOut, order_at}
use Rattle.ciel_crew_work.specs.Crewed.{CanBeDone}
use Rattle.ciel_crew_work.specs.declared.performing.Job.{Job}
use Rattle.ciel_crew_rounds.specs.Seats.{CanPlay, GoEach, Goes, IsHome, IsSeatOf, away_of, kept_of, order_of, outs_of, seat_at, sent_of, told_of}
use Rattle.ciel_crew_rounds.specs.declared.seat.Seat.{Seat}
use Rattle.ciel_crew_rounds.specs.declared.seat.Seat.TheVariants.{Idle, Sent, Away, Kept, Vacant}

pub fades_on : (a b c : Option (List TaskId)) → Fades a b → Fades b c → Fades a c
fades_on a b c f (inl n) = inl n
fades_on a b c (inl n) (inr e) = inl (e ∙ n)
fades_on a b c (inr m) (inr e) = inr (e ∙ m)

-- ---- lanes and seats

module _ {K N G R : Type 0} where
  -- the seat that is looked at
  pub seat_here : (ss : List (Seat K N G R)) (w : ℕ) (s : Seat K N G R) → w < length ss → s ≡ get_or ss w s → seat_at ss w ≡ s
  seat_here ss w s lt e = get_or_default ss w Vacant s lt ∙ sym e

  pub order_here : (ss : List (Seat K N G R)) (w : ℕ) → order_at (map order_of ss) w ≡ order_of (seat_at ss w)
  order_here ss w = get_or-map order_of ss w Vacant

  pub told_here : (entered : G → Option (List TaskId)) (ss : List (Seat K N G R)) (w : ℕ) → get_or (map (told_of entered) ss) w None
      ≡ told_of entered (seat_at ss w)
  told_here entered ss w = get_or-map (told_of entered) ss w Vacant

  out_here : (ls : List (LaneSeen (Job K N G R))) (w : ℕ) → get_or (outs_of ls) w None ≡ (lane_at ls w).out
  out_here ls w = get_or-map (λ (l : LaneSeen (Job K N G R)). l.out) ls w record { put = []; out = None }

  pub away_here : (ss : List (Seat K N G R)) (w : ℕ) → get_or (map away_of ss) w None ≡ away_of (seat_at ss w)
  away_here ss w = get_or-map away_of ss w Vacant

  -- a lane with which nothing was done
  pub out_stays : (ls : List (LaneSeen (Job K N G R))) (w : ℕ) (x : Option (Job K N G R)) → (lane_at ls w).out ≡ x → outs_of ls
      ≡ set (outs_of ls) w x
  out_stays ls w x e = sym (ap (λ (y : Option (Job K N G R)). set (outs_of ls) w y) (sym (out_here ls w ∙ e)) ∙ set-get_or (outs_of ls) w None)

  -- a lane whose job changed
  pub out_set : (ls after : List (LaneSeen (Job K N G R))) (w : ℕ) (put : List (Job K N G R)) (out x : Option (Job K N G R)) → after
      ≡ set ls w record { put = put; out = out } → out ≡ x → outs_of after ≡ set (outs_of ls) w x
  out_set ls after w put out x e f =
      ap (λ (z : List (LaneSeen (Job K N G R))). outs_of z) e
      ∙ (map-set (λ (l : LaneSeen (Job K N G R)). l.out) ls w record { put = put; out = out }
      ∙ ap (λ (y : Option (Job K N G R)). set (outs_of ls) w y) f)

  -- seats that aren't the one that was matched
  pub not_sent : (s : Seat K N G R) → ((job : Job K N G R) → s ≡ Sent job → ⊥) → sent_of s ≡ None
  not_sent (Idle tools) n = refl
  not_sent (Sent job) n = absurd (n job refl)
  not_sent (Away job) n = refl
  not_sent (Kept done) n = refl
  not_sent Vacant n = refl

  pub not_away : (s : Seat K N G R) → ((job : _) → s ≡ Away job → ⊥) → away_of s ≡ None
  not_away (Idle tools) n = refl
  not_away (Sent job) n = refl
  not_away (Away job) n = absurd (n job refl)
  not_away (Kept done) n = refl
  not_away Vacant n = refl

  -- where each lane that is out is away, and a seat is set with its lane
  pub lane_there : (ls : List (LaneSeen (Job K N G R))) (ss : List (Seat K N G R)) (w : ℕ) → outs_of ls ≡ map away_of ss → w < length ss → w
      < length ls
  lane_there ls ss w e lt =
      let a = length-map ls (λ (l : LaneSeen (Job K N G R)). l.out) in
      let b = length-map ss (away_of {K = K} {N = N} {G = G} {R = R}) in
      let c = ap length e in
      omega (arith, a, b, c, lt)

  pub out_there : (ls : List (LaneSeen (Job K N G R))) (ss : List (Seat K N G R)) (w : ℕ) (s : Seat K N G R) → outs_of ls ≡ map away_of ss
      → seat_at ss w ≡ s → (lane_at ls w).out ≡ away_of s
  out_there ls ss w s e h = sym (out_here ls w) ∙ (ap (λ (o : List (Option (Job K N G R))). get_or o w None) e ∙ (away_here ss w ∙ ap away_of h))

  -- ---- a fact of each seat, where one is set

  pub set_each : (P : ℕ → Seat K N G R → Type 0) (ss : List (Seat K N G R)) (w : ℕ) (s : Seat K N G R) → w < length ss → P w s
      → (k : ℕ) → (k ≢ w → P k (seat_at ss k)) → P k (seat_at (set ss w s) k)
  set_each P ss w s lt here k there = go (cases_eq k w)
    where
      go : (k ≡ w) ⊎ (k ≢ w) → P k (seat_at (set ss w s) k)
      go (inl e) =
          subst (λ (y : ℕ). P y (seat_at (set ss w s) y)) (sym e) (subst (P w) (sym (get_or-set_same ss w s Vacant lt)) here)
      go (inr n) = subst (P k) (sym (get_or-set_other ss w k s Vacant n)) (there n)

  -- a fact of the seats before the next one, of which it was shown
  pub set_below : (P : Seat K N G R → Type 0) (ss : List (Seat K N G R)) (w : ℕ) (s : Seat K N G R) → w < length ss → P s
      → ((k : ℕ) → k < w → P (seat_at ss k)) → (k : ℕ) → k < w + 1 → P (seat_at (set ss w s) k)
  set_below P ss w s lt here below k under = set_each (λ j y. P y) ss w s lt here k (λ n. below k (omega (arith, under, n)))

  -- a fact of all seats, where the last was reached
  pub all_below : (P : Seat K N G R → Type 0) (ss : List (Seat K N G R)) (n : ℕ) → length ss ≤ n → P Vacant
      → ((k : ℕ) → k < n → P (seat_at ss k)) → (k : ℕ) → P (seat_at ss k)
  all_below P ss n long past below k = go (dec_lt k n)
    where
      go : Dec (k < n) → P (seat_at ss k)
      go (yes lt) = below k lt
      go (no more) = subst P (sym (get_or_past ss k Vacant (omega (arith, long, more)))) past

  -- where an order is at home and no report of it is kept, there is none
  nothing_there : (s : Seat K N G R) (o : Order) → order_of s ≡ Some o → sent_of s ≡ None → away_of s ≡ None → kept_of s ≡ None → ⊥
  nothing_there (Idle tools) o e sent away kept = absurd cc
  nothing_there (Sent job) o e sent away kept = absurd cc
  nothing_there (Away job) o e sent away kept = absurd cc
  nothing_there (Kept done) o e sent away kept = absurd cc
  nothing_there Vacant o e sent away kept = absurd cc

module _ {K N G R : Type 0} (gives : K → Gives) (digest : N → List ℕ → List ℕ) where
  module _ (entered : G → Option (List TaskId)) where
    pub goes_same : (s : Seat K N G R) → Goes gives digest entered s s
    goes_same s = record { order = refl; told = inr refl; own = λ shop worker h. h }

    pub goes_on : (a b c : Seat K N G R) → Goes gives digest entered a b → Goes gives digest entered b c → Goes gives digest entered a c
    goes_on a b c f g = record {
      order = g.order ∙ f.order;
      told = fades_on (told_of entered a) (told_of entered b) (told_of entered c) f.told g.told;
      own = λ shop worker h. g.own shop worker (f.own shop worker h);
    }

    -- each went so from the beginning, and one goes on
    pub each_goes : (first ss : List (Seat K N G R)) (w : ℕ) (s : Seat K N G R) → GoEach gives digest entered first ss → w < length ss
        → Goes gives digest entered (seat_at ss w) s → GoEach gives digest entered first (set ss w s)
    each_goes first ss w s each lt g = (
      length-set ss w s ∙ each.0,
      λ k. set_each (λ j y. Goes gives digest entered (seat_at first j) y) ss w s lt
          (goes_on (seat_at first w) (seat_at ss w) s (each.1 w) g) k (λ n. each.1 k),
    )

    pub each_same : (ss : List (Seat K N G R)) → GoEach gives digest entered ss ss
    each_same ss = (refl, λ k. goes_same (seat_at ss k))

    pub each_on : (a b c : List (Seat K N G R)) → GoEach gives digest entered a b → GoEach gives digest entered b c
        → GoEach gives digest entered a c
    each_on a b c f g = (g.0 ∙ f.0, λ k. goes_on (seat_at a k) (seat_at b k) (seat_at c k) (f.1 k) (g.1 k))

    -- after a round in which an order was out a report is kept
    pub some_kept : (before after seen : List (Seat K N G R)) → IsOut (map order_of before) → GoEach gives digest entered before after
        → IsHome after → seen ≡ after → ((k : ℕ) → kept_of (seat_at seen k) ≡ None) → ⊥
    some_kept before after seen (w, o, e) each home same none =
        nothing_there (seat_at after w) o ((each.1 w).order ∙ (sym (order_here before w) ∙ e)) (home w).0 (home w).1
        (ap (λ (ss : List (Seat K N G R)). kept_of (seat_at ss w)) (sym same) ∙ none w)

  -- where a seat is set with its lane, a round can still be played
  pub can_set : (ls after : List (LaneSeen (Job K N G R))) (ss : List (Seat K N G R)) (w : ℕ) (s : Seat K N G R) (x : Option (Job K N G R))
      → CanPlay gives digest ls ss → w < length ss → sent_of s ≡ None → x ≡ away_of s → outs_of after ≡ set (outs_of ls) w x
      → CanPlay gives digest after (set ss w s)
  can_set ls after ss w s x can lt none is e = record {
    few = omega (arith, can.few, length-set ss w s);
    outs = e ∙ ((λ i. set (can.outs i) w (is i)) ∙ sym (map-set away_of ss w s));
    can = λ k. set_each (λ j y. IfSome (sent_of y) (CanBeDone gives digest)) ss w s lt
        (subst (λ (y : Option (Job K N G R)). IfSome y (CanBeDone gives digest)) (sym none) tt) k (λ n. can.can k);
  }

  pub can_here : (ls : List (LaneSeen (Job K N G R))) (ss : List (Seat K N G R)) (w : ℕ) (s : Seat K N G R) → CanPlay gives digest ls ss
      → seat_at ss w ≡ s → IfSome (sent_of s) (CanBeDone gives digest)
  can_here ls ss w s can h = subst (λ (y : Seat K N G R). IfSome (sent_of y) (CanBeDone gives digest)) h (can.can w)
