-- What is seen of lanes with streams after a step.
use Rattle.std.proofs.Common.{◌≡◌, ℕ, zero, suc, ◌+◌, ◌<◌, ◌≤◌, Bool, true, false, List, [], ◌∷◌, ◌++◌, length, set, get_or, sym, refl, ap, ap₂, ◌∙◌}
use Rattle.std.proofs.Common.{subst, arith, Option, Some, None, length-set, append_assoc}
use Rattle.std.specs.Prelude.{IsSome, IfSome, is_some, not}
use Rattle.std.proofs.lemmas.List.{map-set, get_or-map, length-map, get_or-set_same, get_or-set_other, set-get_or}
use Rattle.std.proofs.lemmas.Bool.{true≢false}
use native.Mathlib.Decide.{ℕ_discrete}
use Rattle.sky_base.specs.declared.object.TaskId.{TaskId}
use Rattle.sky_base.specs.KitView.{Gives}
use Rattle.ciel_crew_lanes.specs.Seen.{Closes, HasTaken, IsOut as HasOut, LaneSeen, lane_at}
use Rattle.ciel_crew_work.specs.Crewed.{IsDoneOf, orders_of}
use Rattle.ciel_crew_work.specs.declared.performing.Done.{Done}
use Rattle.ciel_crew_work.specs.declared.performing.Job.{Job}
use Rattle.ciel_crew_work.specs.declared.performing.Tools.{Tools}
use Rattle.ciel_crew_work.proofs.CrewSteps.{out_at}
use Rattle.ciel_flow_work.specs.Crews.{IsOut}
use Rattle.ciel_flow_work.specs.Flowing.{FitsFlow, IsLeftOf, as_crew, as_worker, done_of, follows, jobs_of, performing}
use Rattle.ciel_flow_work.specs.declared.job.FlowDone.{FlowDone}
use Rattle.ciel_flow_work.specs.declared.job.FlowJob.{FlowJob}
use Rattle.ciel_flow_work.specs.declared.job.Follow.{Follow}
use Rattle.ciel_flow_work.specs.declared.job.Perform.{Perform}
use Rattle.ciel_flow_work.specs.declared.job.Performed.{Performed}
use Rattle.ciel_flow_pieces.specs.declared.follow.Left.{Left}
use Rattle.ciel_master_safe.specs.Shop.{Shop}
use Rattle.sky_base.specs.declared.value.Value.{Value}
use Rattle.ciel_flow.specs.Streaming.{AllAhead, HasGates, IsBegun, IsFree, Match, ReadsAhead, StreamAt, follows_in, kept_left}
use Rattle.ciel_flow.specs.declared.begin.Begun.{Begun}
use Rattle.ciel_flow.specs.declared.lanes.Stream.{Stream}

any_default : {A : Type 0} (l : List A) (i : ℕ) (a b : A) → i < length l → get_or l i a ≡ get_or l i b
any_default [] i a b lt = absurd (omega arith)
any_default (x ∷ xs) zero a b lt = refl
any_default (x ∷ xs) (suc i) a b lt = any_default xs i a b (omega arith)

-- none isn't found where there is one
pub one_is_there : {A : Type 0} (xs : List (Option A)) (w : ℕ) (found : Option A) → w < length xs → found ≡ get_or xs w found → found ≡ None
    → is_some (get_or xs w None) ≡ true → ⊥
one_is_there xs w found lt at none some =
    let same : get_or xs w None ≡ None = sym (at ∙ any_default xs w found None lt) ∙ none in true≢false (sym some ∙ ap is_some same)

-- the stream that was found at its place
pub here : (ss : List (Option Stream)) (w : ℕ) (found : Option Stream) → w < length ss → found ≡ get_or ss w found → found ≡ get_or ss w None
here ss w found lt at = at ∙ any_default ss w found None lt

module _ {K N : Type 0} (G R : Type 0) (digest : N → List ℕ → List ℕ) (shop : Shop K N) where
  -- what a lane has left that followed is computed ahead
  left_ahead : (s : Option Stream) (f : Follow R) (left : Option Left) → StreamAt {K = K} {N = N} {G = G} {R = R} digest shop s (Some (FlowJob.Follow f))
      → IfSome left (IsLeftOf f) → (follows_in (kept_left s left) ≡ false) × StreamAt {K = K} {N = N} {G = G} {R = R} digest shop (kept_left s left) None
  left_ahead None f left h so = (refl, tt)
  left_ahead (Some (Stream.Follows d)) f None h so = (refl, tt)
  left_ahead (Some (Stream.Follows d)) f (Some left) h so = (
    refl,
    record {
      source = f.follower.source;
      reads = subst (λ (x : List ℕ). ReadsAhead digest shop d x left.args left.outputs f.follower.source) (sym so.executor)
          (subst (λ (a : Value). ReadsAhead digest shop d f.executor a left.outputs f.follower.source) (sym so.args)
          (subst (λ (n : ℕ). ReadsAhead digest shop d f.executor f.args n f.follower.source) (sym so.outputs) h));
      whole = so.whole;
    },
  )
  left_ahead (Some (Stream.Has d l)) f left h so = (refl, tt)

module _ {K N G R : Type 0} where
  abbrev fresh : LaneSeen (FlowJob K N G R)
  fresh = record { put = []; out = None }

  abbrev idle_worker : LaneSeen (Job K N G R)
  idle_worker = record { put = []; out = None }

  -- ---- jobs

  pub jobs_more : (js : List (FlowJob K N G R)) (p : Perform K N G R) → jobs_of (js ++ FlowJob.Perform p ∷ []) ≡ jobs_of js ++ p.job ∷ []
  jobs_more [] p = refl
  jobs_more (FlowJob.Perform q ∷ js) p = ap (λ xs. q.job ∷ xs) (jobs_more js p)
  jobs_more (FlowJob.Follow f ∷ js) p = jobs_more js p

  pub jobs_same : (js : List (FlowJob K N G R)) (f : Follow R) → jobs_of (js ++ FlowJob.Follow f ∷ []) ≡ jobs_of js
  jobs_same [] f = refl
  jobs_same (FlowJob.Perform q ∷ js) f = ap (λ xs. q.job ∷ xs) (jobs_same js f)
  jobs_same (FlowJob.Follow g ∷ js) f = jobs_same js f

  -- a lane that neither performs nor follows has no job
  pub no_job : (out : Option (FlowJob K N G R)) → performing out ≡ None → follows out ≡ false → out ≡ None
  no_job None p f = refl
  no_job (Some (FlowJob.Perform q)) p f = absurd cc
  no_job (Some (FlowJob.Follow g)) p f = absurd (true≢false f)

  pub follows_one : (out : Option (FlowJob K N G R)) → follows out ≡ true → IsSome out
  follows_one None f = absurd (true≢false (sym f))
  follows_one (Some x) f = refl

  performs_one : (out : Option (FlowJob K N G R)) → IsSome (performing out) → IsSome out
  performs_one None h = absurd cc
  performs_one (Some x) h = refl

  -- ---- lanes as a crew

  pub crew_long : (ls : List (LaneSeen (FlowJob K N G R))) → length (as_crew ls) ≡ length ls
  crew_long ls = length-map ls as_worker

  pub crew_at : (ls : List (LaneSeen (FlowJob K N G R))) (k : ℕ) → k < length ls → lane_at (as_crew ls) k ≡ as_worker (lane_at ls k)
  crew_at ls k lt = get_or-map as_worker ls k fresh idle_worker lt

  -- a step at one lane that isn't seen
  crew_stays : (ls : List (LaneSeen (FlowJob K N G R))) (w : ℕ) (l : LaneSeen (FlowJob K N G R)) → w < length ls → as_worker l ≡ as_worker (lane_at ls w)
      → as_crew (set ls w l) ≡ as_crew ls
  crew_stays ls w l lt e =
      map-set as_worker ls w l ∙ ap (λ x. set (as_crew ls) w x) (e ∙ sym (crew_at ls w lt)) ∙ set-get_or (as_crew ls) w idle_worker

  pub crew_followed : (ls : List (LaneSeen (FlowJob K N G R))) (w : ℕ) (f : Follow R) → w < length ls → (lane_at ls w).out ≡ Some (FlowJob.Follow f)
      → as_crew (set ls w record { put = (lane_at ls w).put; out = None }) ≡ as_crew ls
  crew_followed ls w f lt e =
      crew_stays ls w record { put = (lane_at ls w).put; out = None } lt
      (ap (λ o. record { put = jobs_of (lane_at ls w).put; out = performing o }) (sym e))

  pub crew_follows : (ls : List (LaneSeen (FlowJob K N G R))) (w : ℕ) (f : Follow R) → w < length ls → (lane_at ls w).out ≡ None
      → as_crew (set ls w record { put = (lane_at ls w).put ++ FlowJob.Follow f ∷ []; out = Some (FlowJob.Follow f) }) ≡ as_crew ls
  crew_follows ls w f lt e =
      crew_stays ls w record { put = (lane_at ls w).put ++ FlowJob.Follow f ∷ []; out = Some (FlowJob.Follow f) } lt
      (ap₂ (λ js o. record { put = js; out = o }) (jobs_same (lane_at ls w).put f) (ap performing (sym e)))

  pub crew_laid : (ls : List (LaneSeen (FlowJob K N G R))) (w : ℕ) (p : Perform K N G R) → w < length ls
      → as_crew (set ls w record { put = (lane_at ls w).put ++ FlowJob.Perform p ∷ []; out = Some (FlowJob.Perform p) })
      ≡ set (as_crew ls) w record { put = (lane_at (as_crew ls) w).put ++ p.job ∷ []; out = Some p.job }
  crew_laid ls w p lt =
      map-set as_worker ls w record { put = (lane_at ls w).put ++ FlowJob.Perform p ∷ []; out = Some (FlowJob.Perform p) }
      ∙ ap (λ js. set (as_crew ls) w record { put = js; out = Some p.job })
      (jobs_more (lane_at ls w).put p ∙ ap (λ (l : LaneSeen (Job K N G R)). l.put ++ p.job ∷ []) (sym (crew_at ls w lt)))

  pub crew_done : (ls : List (LaneSeen (FlowJob K N G R))) (w : ℕ) (p : Perform K N G R) → w < length ls
      → as_crew (set ls w record { put = (lane_at ls w).put; out = None })
      ≡ set (as_crew ls) w record { put = (lane_at (as_crew ls) w).put; out = None }
  crew_done ls w p lt =
      map-set as_worker ls w record { put = (lane_at ls w).put; out = None }
      ∙ ap (λ (l : LaneSeen (Job K N G R)). set (as_crew ls) w record { put = l.put; out = None }) (sym (crew_at ls w lt))

  pub crew_out : (ls : List (LaneSeen (FlowJob K N G R))) → IsOut (orders_of (as_crew ls)) → HasOut ls
  crew_out ls (k, o, e) = (k, by_bound ls k (out_at (as_crew ls) k o e) (in_range ls k (out_at (as_crew ls) k o e)))
    where
      in_range : (ls : List (LaneSeen (FlowJob K N G R))) (k : ℕ) → IsSome (lane_at (as_crew ls) k).out → k < length ls
      in_range [] k h = absurd cc
      in_range (l ∷ ls) zero h = omega arith
      in_range (l ∷ ls) (suc k) h = let r = in_range ls k h in omega (arith, r)

      by_bound : (ls : List (LaneSeen (FlowJob K N G R))) (k : ℕ) → IsSome (lane_at (as_crew ls) k).out → k < length ls → IsSome (lane_at ls k).out
      by_bound ls k h lt = performs_one (lane_at ls k).out (subst (λ (l : LaneSeen (Job K N G R)). IsSome l.out) (crew_at ls k lt) h)

  -- ---- streams beside lanes

  -- at one lane both change
  match_set : (ls : List (LaneSeen (FlowJob K N G R))) (ss : List (Option Stream)) (w : ℕ) (l : LaneSeen (FlowJob K N G R)) (s : Option Stream)
      (P : Option Stream → Option (FlowJob K N G R) → Type 0) → w < length ls → length ss ≡ length ls
      → ((k : ℕ) → P (get_or ss k None) (lane_at ls k).out) → P s l.out → (k : ℕ) → Dec (k ≡ w)
      → P (get_or (set ss w s) k None) (lane_at (set ls w l) k).out
  match_set ls ss w l s P lt many each now k (yes is) =
      let at_l : lane_at (set ls w l) k ≡ l = subst (λ (j : ℕ). lane_at (set ls w l) j ≡ l) (sym is) (get_or-set_same ls w l fresh lt) in
      let at_s : get_or (set ss w s) k None ≡ s =
      subst (λ (j : ℕ). get_or (set ss w s) j None ≡ s) (sym is) (get_or-set_same ss w s None (omega (arith, lt, many))) in
      subst (λ (x : Option Stream × LaneSeen (FlowJob K N G R)). P x.0 x.1.out) (λ i. (sym at_s i, sym at_l i)) now
  match_set ls ss w l s P lt many each now k (no isnt) =
      let at_l : lane_at (set ls w l) k ≡ lane_at ls k = get_or-set_other ls w k l fresh isnt in
      let at_s : get_or (set ss w s) k None ≡ get_or ss k None = get_or-set_other ss w k s None isnt in
      subst (λ (x : Option Stream × LaneSeen (FlowJob K N G R)). P x.0 x.1.out) (λ i. (sym at_s i, sym at_l i)) (each k)

  module _ (digest : N → List ℕ → List ℕ) (shop : Shop K N) where
    pub match_both : (ls : List (LaneSeen (FlowJob K N G R))) (ss : List (Option Stream)) (w : ℕ) (l : LaneSeen (FlowJob K N G R)) (s : Option Stream)
        → w < length ls → Match digest shop ls ss → follows_in s ≡ follows l.out → StreamAt digest shop s l.out
        → Match digest shop (set ls w l) (set ss w s)
    match_both ls ss w l s lt m e ahead = record {
      many = length-set ss w s ∙ m.many ∙ sym (length-set ls w l);
      each = λ k. match_set ls ss w l s (λ x o. follows_in x ≡ follows o) lt m.many m.each e k (ℕ_discrete k w);
      ahead = λ k. match_set ls ss w l s (λ x o. StreamAt digest shop x o) lt m.many m.ahead ahead k (ℕ_discrete k w);
    }

    -- a stream that no lane follows goes by itself
    stays_ahead : (s : Option Stream) (o p : Option (FlowJob K N G R)) → follows_in s ≡ false → StreamAt digest shop s o → StreamAt digest shop s p
    stays_ahead None o p f h = tt
    stays_ahead (Some (Stream.Follows d)) o p f h = absurd (true≢false f)
    stays_ahead (Some (Stream.Has d left)) o p f h = h

    -- the lane alone changes, and doesn't follow before or afterwards
    pub match_lane : (ls : List (LaneSeen (FlowJob K N G R))) (ss : List (Option Stream)) (w : ℕ) (l : LaneSeen (FlowJob K N G R)) → w < length ls
        → Match digest shop ls ss → follows (lane_at ls w).out ≡ false → follows l.out ≡ false → Match digest shop (set ls w l) ss
    match_lane ls ss w l lt m before after =
        let none : follows_in (get_or ss w None) ≡ false = m.each w ∙ before in
        subst (λ xs. Match digest shop (set ls w l) xs) (set-get_or ss w None)
        (match_both ls ss w l (get_or ss w None) lt m (none ∙ sym after)
        (stays_ahead (get_or ss w None) (lane_at ls w).out l.out none (m.ahead w)))

    -- the stream alone does, and nothing is kept any more
    pub match_none : (ls : List (LaneSeen (FlowJob K N G R))) (ss : List (Option Stream)) (w : ℕ) (s : Option Stream) → w < length ls
        → Match digest shop ls ss → follows (lane_at ls w).out ≡ false → s ≡ None → Match digest shop ls (set ss w s)
    match_none ls ss w s lt m before is =
        subst (λ x. Match digest shop ls (set ss w x)) (sym is)
        (subst (λ xs. Match digest shop xs (set ss w None)) (set-get_or ls w fresh)
        (match_both ls ss w (lane_at ls w) None lt m (sym before) tt))

    -- a lane that followed has ended, and what it has left is kept
    pub match_left : (ls : List (LaneSeen (FlowJob K N G R))) (ss : List (Option Stream)) (w : ℕ) (put : List (FlowJob K N G R)) (f : Follow R) (left : Option Left)
        (s : Option Stream) → w < length ls → Match digest shop ls ss → (lane_at ls w).out ≡ Some (FlowJob.Follow f) → IfSome left (IsLeftOf f)
        → s ≡ kept_left (get_or ss w None) left → Match digest shop (set ls w record { put = put; out = None }) (set ss w s)
    match_left ls ss w put f left s lt m out so is =
        let ahead = left_ahead G R digest shop (get_or ss w None) f left
        (subst (λ (o : Option (FlowJob K N G R)). StreamAt digest shop (get_or ss w None) o) out (m.ahead w)) so in
        subst (λ x. Match digest shop (set ls w record { put = put; out = None }) (set ss w x)) (sym is)
        (match_both ls ss w record { put = put; out = None } (kept_left (get_or ss w None) left) lt m ahead.0 ahead.1)

    -- so all that is kept is computed ahead
    pub all_ahead : (ls : List (LaneSeen (FlowJob K N G R))) (ss : List (Option Stream)) → Match digest shop ls ss → AllAhead digest shop ss
    all_ahead ls ss m = λ k consumer left is. subst (λ (s : Option Stream). StreamAt digest shop s (lane_at ls k).out) is (m.ahead k)

    -- what a lane is to follow is laid beside an order's job
    pub match_begun : (ls : List (LaneSeen (FlowJob K N G R))) (ss : List (Option Stream)) (w : ℕ) (put : List (FlowJob K N G R)) (order : _) (b : Begun R) (s : Option Stream)
        → w < length ls → Match digest shop ls ss → IsBegun digest shop order b → s ≡ Some (Stream.Follows b.consumer)
        → Match digest shop (set ls w record { put = put; out = Some (FlowJob.Follow b.follow) }) (set ss w s)
    match_begun ls ss w put order b s lt m begun is =
        subst (λ x. Match digest shop (set ls w record { put = put; out = Some (FlowJob.Follow b.follow) }) (set ss w x)) (sym is)
        (match_both ls ss w record { put = put; out = Some (FlowJob.Follow b.follow) } (Some (Stream.Follows b.consumer)) lt m refl begun.reads)

  module _ (digest : N → List ℕ → List ℕ) (shop : Shop K N) (ls : List (LaneSeen (FlowJob K N G R))) (ss : List (Option Stream)) (w : ℕ)
      (found : Option Stream) (b : Bool) (m : Match digest shop ls ss) (lt : w < length ls) (at : found ≡ get_or ss w found)
      (is : b ≡ follows_in found) where
    there : found ≡ get_or ss w None
    there = here ss w found (omega (arith, lt, m.many)) at

    pub follows_here : b ≡ true → follows (lane_at ls w).out ≡ true
    follows_here so = sym (m.each w) ∙ ap follows_in (sym there) ∙ sym is ∙ so

    pub none_here : b ≡ false → follows (lane_at ls w).out ≡ false
    none_here so = sym (m.each w) ∙ ap follows_in (sym there) ∙ sym is ∙ so

  -- a lane that ends goes on to follow nothing, and others are as they were
  still_at : (ls : List (LaneSeen (FlowJob K N G R))) (w : ℕ) (l : LaneSeen (FlowJob K N G R)) → w < length ls → follows l.out ≡ false → (k : ℕ) → Dec (k ≡ w)
      → follows (lane_at ls k).out ≡ false → follows (lane_at (set ls w l) k).out ≡ false
  still_at ls w l lt e k (yes is) before =
      let at_l : lane_at (set ls w l) k ≡ l = subst (λ (j : ℕ). lane_at (set ls w l) j ≡ l) (sym is) (get_or-set_same ls w l fresh lt) in
      ap (λ (x : LaneSeen (FlowJob K N G R)). follows x.out) at_l ∙ e
  still_at ls w l lt e k (no isnt) before =
      ap (λ (x : LaneSeen (FlowJob K N G R)). follows x.out) (get_or-set_other ls w k l fresh isnt) ∙ before

  pub still : (ls : List (LaneSeen (FlowJob K N G R))) (w : ℕ) (l : LaneSeen (FlowJob K N G R)) → w < length ls → follows l.out ≡ false → (k : ℕ)
      → follows (lane_at ls k).out ≡ false → follows (lane_at (set ls w l) k).out ≡ false
  still ls w l lt e k before = still_at ls w l lt e k (ℕ_discrete k w) before

  pub at_once : (ls : List (LaneSeen (FlowJob K N G R))) (w : ℕ) (l : LaneSeen (FlowJob K N G R)) → w < length ls → lane_at (set ls w l) w ≡ l
  at_once ls w l lt = get_or-set_same ls w l fresh lt

  pub at_other : (ls : List (LaneSeen (FlowJob K N G R))) (w k : ℕ) (l : LaneSeen (FlowJob K N G R)) → (k ≡ w → ⊥) → lane_at (set ls w l) k ≡ lane_at ls k
  at_other ls w k l isnt = get_or-set_other ls w k l fresh isnt
  -- ---- an output that was taken

module _ {K N G R : Type 0} (kit_gives : K → Gives) (digest : N → List ℕ → List ℕ) (entered : G → Option (List TaskId)) where
  -- of a lane that followed: what it has left
  pub is_stream : (job : FlowJob K N G R) (left : Option Left) → FitsFlow kit_gives digest entered job (FlowDone.Followed left)
      → (f : Follow R) × (job ≡ FlowJob.Follow f) × IfSome left (IsLeftOf f)
  is_stream (FlowJob.Perform p) left fits = absurd fits
  is_stream (FlowJob.Follow g) left fits = (g, refl, fits)

  -- a lane that follows has no report
  pub no_order : (job : FlowJob K N G R) (d : Performed G) → follows (Some job) ≡ true → FitsFlow kit_gives digest entered job (FlowDone.Performed d) → ⊥
  no_order (FlowJob.Perform p) d f fits = true≢false (sym f)
  no_order (FlowJob.Follow g) d f fits = fits

  pub is_order : (job : FlowJob K N G R) (d : Performed G) → FitsFlow kit_gives digest entered job (FlowDone.Performed d)
      → (p : Perform K N G R) × (job ≡ FlowJob.Perform p) × IsDoneOf kit_gives digest entered p.job d.done
  is_order (FlowJob.Perform p) d fits = (p, refl, fits.done)
  is_order (FlowJob.Follow g) d fits = absurd fits

  -- an output of a lane that followed was taken, and what it has left is kept
  pub record Settled (shop : Shop K N) (ls after : List (LaneSeen (FlowJob K N G R))) (streams : List (Option Stream)) (w : ℕ) : Type 0 where
    pub agree : Match digest shop after streams
    pub same : as_crew after ≡ as_crew ls
    pub none : follows (lane_at after w).out ≡ false
    pub still : (k : ℕ) → follows (lane_at ls k).out ≡ false → follows (lane_at after k).out ≡ false

  pub settled : (shop : Shop K N) (ls after : List (LaneSeen (FlowJob K N G R))) (ss streams : List (Option Stream)) (w : ℕ) (left : Option Left)
      (s : Option Stream) → Match digest shop ls ss → HasTaken (FitsFlow kit_gives digest entered) ls w (FlowDone.Followed left) after
      → s ≡ kept_left (get_or ss w None) left → streams ≡ set ss w s → Settled shop ls after streams w
  settled shop ls after ss streams w left s m t is at =
      let f = is_stream t.0 left t.3 in
      let out : (lane_at ls w).out ≡ Some (FlowJob.Follow f.0) = t.2 ∙ ap (λ (j : FlowJob K N G R). Some j) f.1 in
      let ended : LaneSeen (FlowJob K N G R) = record { put = (lane_at ls w).put; out = None } in
      subst (λ (x : List (LaneSeen (FlowJob K N G R)) × List (Option Stream)). Settled shop ls x.0 x.1 w) (λ i. (sym t.4 i, sym at i))
      record {
        agree = match_left digest shop ls ss w (lane_at ls w).put f.0 left s t.1 m out f.2 is;
        same = crew_followed ls w f.0 t.1 out;
        none = ap (λ (l : LaneSeen (FlowJob K N G R)). follows l.out) (at_once ls w ended t.1);
        still = λ k before. still ls w ended t.1 refl k before;
      }

  -- an output of a lane that performed was taken
  performed : (ls after : List (LaneSeen (FlowJob K N G R))) (w : ℕ) (d : Performed G)
      → HasTaken (FitsFlow kit_gives digest entered) ls w (FlowDone.Performed d) after
      → HasTaken (IsDoneOf kit_gives digest entered) (as_crew ls) w d.done (as_crew after)
  performed ls after w d t =
      let p = is_order t.0 d t.3 in (
        p.0.job,
        omega (arith, t.1, crew_long ls),
        ap (λ (l : LaneSeen (Job K N G R)). l.out) (crew_at ls w t.1)
            ∙ ap performing (t.2 ∙ ap (λ (j : FlowJob K N G R). Some j) p.1),
        p.2,
        ap as_crew t.4 ∙ crew_done ls w p.0 t.1,
      )

  pub performed_as : (ls after : List (LaneSeen (FlowJob K N G R))) (was : List (LaneSeen (Job K N G R))) (w : ℕ) (d : Performed G)
      → as_crew ls ≡ was → HasTaken (FitsFlow kit_gives digest entered) ls w (FlowDone.Performed d) after
      → HasTaken (IsDoneOf kit_gives digest entered) was w d.done (as_crew after)
  performed_as ls after was w d same t =
      subst (λ (x : List (LaneSeen (Job K N G R))). HasTaken (IsDoneOf kit_gives digest entered) x w d.done (as_crew after)) same
      (performed ls after w d t)

  pub performed_match : (shop : Shop K N) (ls after : List (LaneSeen (FlowJob K N G R))) (ss : List (Option Stream)) (w : ℕ) (d : Performed G)
      → Match digest shop ls ss → HasTaken (FitsFlow kit_gives digest entered) ls w (FlowDone.Performed d) after → Match digest shop after ss
  performed_match shop ls after ss w d m t =
      let p = is_order t.0 d t.3 in
      let out : (lane_at ls w).out ≡ Some (FlowJob.Perform p.0) = t.2 ∙ ap (λ (j : FlowJob K N G R). Some j) p.1 in
      subst (λ (x : List (LaneSeen (FlowJob K N G R))). Match digest shop x ss) (sym t.4)
      (match_lane digest shop ls ss w record { put = (lane_at ls w).put; out = None } t.1 m (ap follows out) refl)

  -- ---- at the end

  -- one lane more, by what there is on it
  one_done : (k : ℕ) (put : List (FlowJob K N G R)) (job : FlowJob K N G R) (ls : List (LaneSeen (FlowJob K N G R))) (output : FlowDone G)
      (outs rest : List (ℕ × FlowDone G)) → outs ≡ (k, output) ∷ rest → FitsFlow kit_gives digest entered job output
      → Closes (IsDoneOf kit_gives digest entered) (k + 1) (as_crew ls) (done_of rest)
      → Closes (IsDoneOf kit_gives digest entered) k (as_worker record { put = put; out = Some job } ∷ as_crew ls) (done_of outs)
  one_done k put (FlowJob.Perform p) ls (FlowDone.Performed d) outs rest e fits c = (d.done, done_of rest, ap done_of e, fits.done, c)
  one_done k put (FlowJob.Perform p) ls (FlowDone.Followed l) outs rest e fits c = absurd fits
  one_done k put (FlowJob.Follow f) ls (FlowDone.Performed d) outs rest e fits c = absurd fits
  one_done k put (FlowJob.Follow f) ls (FlowDone.Followed l) outs rest e fits c =
      subst (λ xs. Closes (IsDoneOf kit_gives digest entered) (k + 1) (as_crew ls) xs) (ap done_of (sym e)) c

  more_done : (k : ℕ) (put : List (FlowJob K N G R)) (out : Option (FlowJob K N G R)) (ls : List (LaneSeen (FlowJob K N G R)))
      (outs : List (ℕ × FlowDone G))
      → ((outs : List (ℕ × FlowDone G)) → Closes (FitsFlow kit_gives digest entered) (k + 1) ls outs
      → Closes (IsDoneOf kit_gives digest entered) (k + 1) (as_crew ls) (done_of outs))
      → Closes (FitsFlow kit_gives digest entered) k (record { put = put; out = out } ∷ ls) outs
      → Closes (IsDoneOf kit_gives digest entered) k (as_worker record { put = put; out = out } ∷ as_crew ls) (done_of outs)
  more_done k put None ls outs on c = on outs c
  more_done k put (Some job) ls outs on (output, rest, e, fits, c) = one_done k put job ls output outs rest e fits (on rest c)

  pub closes_done : (k : ℕ) (ls : List (LaneSeen (FlowJob K N G R))) (outs : List (ℕ × FlowDone G)) → Closes (FitsFlow kit_gives digest entered) k ls outs
      → Closes (IsDoneOf kit_gives digest entered) k (as_crew ls) (done_of outs)
  closes_done k [] outs c = ap done_of c
  closes_done k (l ∷ ls) outs c = more_done k l.put l.out ls outs (λ xs. closes_done (k + 1) ls xs) c

  more_few : (k : ℕ) (put : List (FlowJob K N G R)) (out : Option (FlowJob K N G R)) (ls : List (LaneSeen (FlowJob K N G R)))
      (outs : List (ℕ × FlowDone G))
      → ((outs : List (ℕ × FlowDone G)) → Closes (FitsFlow kit_gives digest entered) (k + 1) ls outs → length outs ≤ length ls)
      → Closes (FitsFlow kit_gives digest entered) k (record { put = put; out = out } ∷ ls) outs → length outs ≤ suc (length ls)
  more_few k put None ls outs on c = let n = on outs c in omega (arith, n)
  more_few k put (Some job) ls outs on (output, rest, e, fits, c) = let n = on rest c in let l = ap length e in omega (arith, n, l)

  pub closes_few : (k : ℕ) (ls : List (LaneSeen (FlowJob K N G R))) (outs : List (ℕ × FlowDone G)) → Closes (FitsFlow kit_gives digest entered) k ls outs
      → length outs ≤ length ls
  closes_few k [] outs c = let n = ap length c in omega (arith, n)
  closes_few k (l ∷ ls) outs c = more_few k l.put l.out ls outs (λ xs. closes_few (k + 1) ls xs) c

-- ---- an order's job is laid

module _ {K N G R : Type 0} (digest : N → List ℕ → List ℕ) (shop : Shop K N) (ls : List (LaneSeen (FlowJob K N G R))) (ss : List (Option Stream)) (w : ℕ)
    (p : Perform K N G R) (lt : w < length ls) (m : Match digest shop ls ss) (none : (lane_at ls w).out ≡ None) where
  -- with the order's job on its lane
  abbrev pub laid : List (LaneSeen (FlowJob K N G R))
  laid = set ls w record { put = (lane_at ls w).put ++ FlowJob.Perform p ∷ []; out = Some (FlowJob.Perform p) }

  pub laid_match : Match digest shop laid ss
  laid_match =
      match_lane digest shop ls ss w record { put = (lane_at ls w).put ++ FlowJob.Perform p ∷ []; out = Some (FlowJob.Perform p) } lt m
      (ap follows none) refl

  module _ (b : Begun R) (free : IsFree ls w b.lane) where
    pub free_there : b.lane < length laid
    free_there =
        omega (arith, free.there, length-set ls w record { put = (lane_at ls w).put ++ FlowJob.Perform p ∷ []; out = Some (FlowJob.Perform p) })

    pub free_none : (lane_at laid b.lane).out ≡ None
    free_none =
        ap (λ (l : LaneSeen (FlowJob K N G R)). l.out)
        (at_other ls w b.lane record { put = (lane_at ls w).put ++ FlowJob.Perform p ∷ []; out = Some (FlowJob.Perform p) } free.other) ∙ free.none

    -- and what is to be followed on another one
    abbrev pub laid_both : List (LaneSeen (FlowJob K N G R))
    laid_both = set laid b.lane record { put = (lane_at laid b.lane).put ++ FlowJob.Follow b.follow ∷ []; out = Some (FlowJob.Follow b.follow) }

    pub both_match : (order : _) (s : Option Stream) → IsBegun digest shop order b → s ≡ Some (Stream.Follows b.consumer)
        → Match digest shop laid_both (set ss b.lane s)
    both_match order s begun is =
        match_begun digest shop laid ss b.lane ((lane_at laid b.lane).put ++ FlowJob.Follow b.follow ∷ []) order b s free_there laid_match begun is

    pub both_laid : as_crew laid_both
        ≡ set (as_crew ls) w record { put = (lane_at (as_crew ls) w).put ++ p.job ∷ []; out = Some p.job }
    both_laid = crew_follows laid b.lane b.follow free_there free_none ∙ crew_laid ls w p lt

-- ---- what came back from orders

one_back : {G : Type 0} (k : ℕ) (out : FlowDone G) (rest : List (ℕ × FlowDone G)) → done_of ((k, out) ∷ rest) ≡ done_of ((k, out) ∷ []) ++ done_of rest
one_back k (FlowDone.Performed d) rest = refl
one_back k (FlowDone.Followed l) rest = refl

pub one_long : {G : Type 0} (k : ℕ) (out : FlowDone G) → length (done_of ((k, out) ∷ [])) ≤ 1
one_long k (FlowDone.Performed d) = omega arith
one_long k (FlowDone.Followed l) = omega arith

-- with the first of those that are left
pub back_next : {G : Type 0} (all more : List (ℕ × Done G)) (k : ℕ) (out : FlowDone G) (rest : List (ℕ × FlowDone G)) (whole : List (ℕ × Done G))
    → all ++ done_of ((k, out) ∷ rest) ≡ whole → more ≡ all ++ done_of ((k, out) ∷ []) → more ++ done_of rest ≡ whole
back_next all more k out rest whole e is =
    ap (λ (xs : List (ℕ × Done _)). xs ++ done_of rest) is ∙ append_assoc all (done_of ((k, out) ∷ [])) (done_of rest)
    ∙ ap (λ (xs : List (ℕ × Done _)). all ++ xs) (sym (one_back k out rest)) ∙ e

-- ---- a lane that is free

module _ {K N G R : Type 0} where
  idle_none : (out : Option (Job K N G R)) → true ≡ not (is_some out) → out ≡ None
  idle_none None e = refl
  idle_none (Some j) e = absurd (true≢false e)

  pub is_free : (ls : List (LaneSeen (FlowJob K N G R))) (idle : List (Option (Tools G))) (ss : List (Option Stream)) (w k : ℕ) → k < length ls
      → ((j : ℕ) → follows_in (get_or ss j None) ≡ follows (lane_at ls j).out) → HasGates (as_crew ls) idle → (k ≡ w → ⊥) → is_some (get_or idle k None) ≡ true → follows_in (get_or ss k None) ≡ false
      → IsFree ls w k
  is_free ls idle ss w k lt each gates other here isnt = record {
    there = lt;
    other = other;
    none =
        let none : (lane_at (as_crew ls) k).out ≡ None = idle_none (lane_at (as_crew ls) k).out (sym here ∙ gates.1 k (omega (arith, lt, crew_long ls))) in
        no_job (lane_at ls k).out (sym (ap (λ (l : LaneSeen (Job K N G R)). l.out) (crew_at ls k lt)) ∙ none) (sym (each k) ∙ isnt);
  }
