-- What stands after a step of the crew.
use Rattle.std.proofs.Common.{◌≡◌, ◌<◌, ℕ, List, length, set, Option, Some, None, sym, ap, subst, ◌∙◌, arith, length-set}
use Rattle.std.specs.Prelude.{IfSome}
use Rattle.std.specs.Arc.{arc_value}
use Rattle.sky_base.specs.KitView.{Gives}
use Rattle.sky_base.specs.declared.object.TaskId.{TaskId}
use Rattle.ciel_crew_lanes.specs.Seen.{HasTaken, LaneSeen, lane_at}
use Rattle.ciel_crew_work.specs.Crewed.{IsDoneOf, Stands}
use Rattle.ciel_crew_work.specs.declared.performing.Done.{Done}
use Rattle.ciel_crew_work.specs.declared.performing.Job.{Job}
use Rattle.ciel_crew_work.specs.declared.performing.Tools.{Tools}
use Rattle.ciel_crew_work.proofs.CrewSteps.{stands_put, stands_taken}
use Rattle.ciel_flow_work.specs.Flowing.{as_crew}
use Rattle.ciel_flow_work.specs.declared.job.FlowJob.{FlowJob}
use Rattle.ciel_master_safe.specs.Shop.{Shop}
use Rattle.ciel_flow.specs.Streaming.{IsSaid, Match, StandsSo}
use Rattle.ciel_flow.specs.declared.begin.Hint.{Hint}
use Rattle.ciel_flow.specs.declared.lanes.Stream.{Stream}
use Rattle.ciel_flow.proofs.LaneSteps.{crew_long}

module _ {K N G R : Type 0} (kit_gives : K → Gives) (digest : N → List ℕ → List ℕ) (shop : Shop K N) (ls after : List (LaneSeen (FlowJob K N G R)))
    (idle : List (Option (Tools G))) (gates : List G) (room : ℕ) (ss streams : List (Option Stream)) (hinted later : Option Hint)
    (back : List (ℕ × Done G)) (places : ℕ) (s : StandsSo kit_gives digest shop ls idle gates room ss hinted back places)
    (agree : Match digest shop after streams) (said : IfSome later (IsSaid digest shop)) where
  -- what is seen of the crew is as before
  pub stays : as_crew after ≡ as_crew ls → StandsSo kit_gives digest shop after idle gates room streams later back places
  stays same =
      let long : length after ≡ length ls = sym (crew_long after) ∙ ap length same ∙ crew_long ls in
      record {
        crew = subst (λ (x : List (LaneSeen (Job K N G R))). Stands shop x idle gates room) (sym same) s.crew;
        flow = s.flow;
        agree = agree;
        said = said;
        empty = s.empty;
        enough = omega (arith, long, s.enough);
        few = omega (arith, long, s.few);
      }

  -- an order was laid
  pub laid_stands : (w : ℕ) (put : List (Job K N G R)) (job : Job K N G R) (left : Option (Tools G)) → w < length ls → arc_value job.shop ≡ shop
      → job.order.worker ≡ w → job.tools.eye.of ≡ shop.shelves.of
      → as_crew after ≡ set (as_crew ls) w record { put = put; out = Some job } → left ≡ None
      → StandsSo kit_gives digest shop after (set idle w left) gates room streams later back places
  laid_stands w put job left lt own at look is none =
      let long : length after ≡ length ls = sym (crew_long after) ∙ ap length is
      ∙ length-set (as_crew ls) w record { put = put; out = Some job } ∙ crew_long ls in
      record {
        crew = stands_put shop (as_crew ls) (as_crew after) idle gates room w put job left s.crew (omega (arith, lt, crew_long ls)) own at look is none;
        flow = s.flow;
        agree = agree;
        said = said;
        empty = s.empty;
        enough = omega (arith, long, s.enough);
        few = omega (arith, long, s.few);
      }

  -- a report was taken
  pub taken_stands : (entered : G → Option (List TaskId)) (w : ℕ) (done : Done G)
      → HasTaken (IsDoneOf kit_gives digest entered) (as_crew ls) w done (as_crew after)
      → StandsSo kit_gives digest shop after (set idle w (Some done.tools)) gates room streams later back places
  taken_stands entered w done t =
      let long : length after ≡ length ls = sym (crew_long after) ∙ ap length t.4
      ∙ length-set (as_crew ls) w record { put = (lane_at (as_crew ls) w).put; out = None } ∙ crew_long ls in
      record {
        crew = stands_taken shop (as_crew ls) (as_crew after) idle gates room w t.0 done.tools s.crew t.1 t.2 t.3.look t.4;
        flow = s.flow;
        agree = agree;
        said = said;
        empty = s.empty;
        enough = omega (arith, long, s.enough);
        few = omega (arith, long, s.few);
      }
