-- The crew with streams at the opening.
use Rattle.std.proofs.Common.{◌≡◌, ◌<◌, ℕ, zero, suc, List, [], ◌∷◌, length, replicate, get_or, Option, None, refl, sym, ap, subst, ◌∙◌, arith}
use Rattle.std.specs.Prelude.{All}
use Rattle.std.proofs.lemmas.List.{get_or-map, length-replicate}
use Rattle.ciel_crew_lanes.specs.Seen.{LaneSeen, lane_at}
use Rattle.ciel_crew_work.specs.declared.performing.Job.{Job}
use Rattle.ciel_flow_work.specs.Flowing.{as_crew, as_worker, follows}
use Rattle.ciel_flow_work.specs.declared.job.FlowJob.{FlowJob}
use Rattle.ciel_master_safe.specs.Shop.{Shop}
use Rattle.ciel_flow.specs.Streaming.{Match, StreamAt, follows_in}
use Rattle.ciel_flow.specs.declared.lanes.Stream.{Stream}
use Rattle.ciel_flow.proofs.LaneSteps.{crew_long}

none_at : (n k : ℕ) → get_or (replicate {A = Option Stream} n None) k None ≡ None
none_at zero k = refl
none_at (suc n) zero = refl
none_at (suc n) (suc k) = none_at n k

module _ {K N G R : Type 0} where
  abbrev fresh : LaneSeen (FlowJob K N G R)
  fresh = record { put = []; out = None }

  -- nothing was put on any lane
  abbrev pub AllFresh : List (LaneSeen (FlowJob K N G R)) → Type 0
  AllFresh ls = All (λ l. l ≡ record { put = []; out = None }) ls

  pub crew_fresh : (ls : List (LaneSeen (FlowJob K N G R))) → AllFresh ls
      → All (λ (l : LaneSeen (Job K N G R)). l ≡ record { put = []; out = None }) (as_crew ls)
  crew_fresh ls all k d lt =
      let short : k < length ls = omega (arith, lt, crew_long ls) in
      get_or-map as_worker ls k fresh d short ∙ ap as_worker (all k fresh short)

  rest_fresh : (l : LaneSeen (FlowJob K N G R)) (ls : List (LaneSeen (FlowJob K N G R))) → AllFresh (l ∷ ls) → AllFresh ls
  rest_fresh l ls all k d lt = all (suc k) d (omega (arith, lt))

  fresh_at : (ls : List (LaneSeen (FlowJob K N G R))) → AllFresh ls → (k : ℕ) → lane_at ls k ≡ fresh
  fresh_at [] all k = refl
  fresh_at (l ∷ ls) all zero = all zero l (omega arith)
  fresh_at (l ∷ ls) all (suc k) = fresh_at ls (rest_fresh l ls all) k

  pub match_fresh : (digest : N → List ℕ → List ℕ) (shop : Shop K N) (ls : List (LaneSeen (FlowJob K N G R))) (n : ℕ) (ss : List (Option Stream))
      → AllFresh ls → length ls ≡ n → ss ≡ replicate n None → Match digest shop ls ss
  match_fresh digest shop ls n ss all many is =
      subst (λ (x : List (Option Stream)). Match digest shop ls x) (sym is)
      record {
        many = length-replicate n None ∙ sym many;
        each = λ k. ap follows_in (none_at n k) ∙ sym (ap (λ (l : LaneSeen (FlowJob K N G R)). follows l.out) (fresh_at ls all k));
        ahead = λ k. subst (λ (s : Option Stream). StreamAt digest shop s (lane_at ls k).out) (sym (none_at n k)) tt;
      }
