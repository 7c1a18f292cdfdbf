-- What is opened is at work: a master that has started nothing, and a crew with no order.
use Rattle.std.proofs.Common.{◌≡◌, ℕ, zero, suc, List, [], ◌∷◌, length, replicate, true, Option, Some, None, refl, sym, ap}
use Rattle.std.proofs.Common.{subst, ◌∙◌, arith}
use Rattle.sky_base.specs.JobView.{job_view}
use Rattle.sky_base.specs.KitView.{Gives}
use Rattle.sky_base.specs.See as s
use Rattle.sky_base.specs.declared.object.TaskId.{TaskId}
use Rattle.sky_base.specs.ObjectView.{desc_view}
use Rattle.ciel_crew_channels.specs.Onward.{IsRead}
use Rattle.sky_parse_law.specs.Orderly.{FunctionsAreOrderly}
use Rattle.ciel_master_board.specs.Board.{Board}
use Rattle.ciel_master_board.specs.Moves.{opened}
use Rattle.ciel_run_drive.specs.Crews.{order_at}
use Rattle.ciel_run_drive.specs.Kept.{Kept, slots_of}
use Rattle.ciel_run_drive.specs.Ends.{IsOrderly}
use Rattle.ciel_run_drive.proofs.ShopLaws.{shop_is}
use Rattle.ciel_run_drive.specs.TaskCrewSeen.{CrewSeen}
use Rattle.ciel_run_drive.specs.Seen.{MasterSeen, plan_view}
use Rattle.ciel_run_drive.specs.RunPlan.{RunPlan}
use Rattle.ciel_store.specs.Seen.{SeatSeen}
use Rattle.ciel_task_order.specs.Performs.{the_shop}
use Rattle.ciel_task_order.specs.Shop.{InputsInOrder}
use Rattle.ciel_task_order.specs.Views.{P}
use Rattle.ciel_task_order.specs.declared.order.Order.{Order}
use Rattle.ciel_task_order.specs.declared.shop.Shop.{Shop}
use Rattle.ciel_master_board.specs.Left.{Slots}
use Rattle.ciel_master_board.proofs.TurnEvents.{opened_runs}
use Rattle.ciel_run_job.specs.Opened.{IsOpened}
use Rattle.std.proofs.lemmas.List.{length-map}
use Rattle.ciel_run_drive.specs.Working.{Working}
use Rattle.ciel_run_drive.specs.Turns.{AtWork}
use Rattle.ciel_run_drive.proofs.TurnsLemmas.{opened_works}
use Rattle.sky_base.specs.Tree.{Script}
use Rattle.ciel_name_law.specs.Typed.{NamedUseNothing}
use Rattle.ciel_name_law.proofs.Made.{script_uses}

-- workers without an order, as the turns see them
pub none_out : (n : ℕ) → slots_of (replicate n None) ≡ replicate n None
none_out zero = refl
none_out (suc n) = ap (λ (xs : Slots P). None ∷ xs) (none_out n)

pub none_at : (n w : ℕ) (order : Order) → order_at (replicate n None) w ≡ Some order → ⊥
none_at zero w order e = absurd cc
none_at (suc n) zero order e = absurd cc
none_at (suc n) (suc w) order e = none_at n w order e

module _ {K N : Type 0} (gives : K → Gives) (digest : N → List ℕ → List ℕ) (shop : Shop K N) (plan : RunPlan) (m : MasterSeen N)
    (eyes : List SeatSeen) where
  abbrev D : List ℕ → List ℕ
  D = digest shop.namer

  abbrev J : s.Job
  J = job_view shop.job

  abbrev G : Gives
  G = gives shop.kit

  -- the functions of a script that was read are orderly
  orderly : FunctionsAreOrderly → IsRead J.script → IsOrderly D J G
  orderly f r = f r.0 r.1 J.script r.2

  -- and named ones use nothing
  bare : IsRead J.script → NamedUseNothing J.script.funs
  bare (source, keys, (ts, tops, found, valid, is), few) = subst (λ (sc : Script). NamedUseNothing sc.funs) (sym is) (script_uses keys tops)

  module _ (o : IsOpened digest plan shop m eyes) (read : IsRead J.script) (inputs : InputsInOrder J) (functions : FunctionsAreOrderly) where
    abbrev first : Board P
    first = opened D (plan_view plan) shop.job.script.keys o.main

    pub kept_at_first : Kept gives digest shop true m (replicate plan.workers None) plan.seed
    kept_at_first =
        let lower : (the_shop D J G).lower (the_shop D J G).job.main ≡ desc_view o.main.desc = sym (ap desc_view o.is_main) in
        subst (λ z. Kept gives digest shop true z (replicate plan.workers None) plan.seed) (sym o.master) (record {
          orderly = orderly functions read;
          bare = bare read;
          history = [];
          runs = opened_runs (the_shop D J G) (shop_is D J G (orderly functions read)) (plan_view plan) o.main o.named lower;
          orders = λ w x o i j e. absurd j;
          draws = refl;
        })

    -- whatever is reported
    work : AtWork D shop.shelves J.script (length J.inputs) first (slots_of (replicate plan.workers None))
    work =
        let l : length J.script.keys ≡ length J.inputs = sym (ap length inputs) ∙ length-map J.inputs (λ (i : List ℕ × List ℕ). i.0) in
        subst (AtWork D shop.shelves J.script (length J.inputs) first) (sym (none_out plan.workers))
        (subst (λ n. AtWork D shop.shelves J.script n first (replicate plan.workers None)) l
        (opened_works D shop.shelves J.script (plan_view plan) o.main (omega arith) o.named o.is_main (let w = o.wide in omega (arith, w))))

    pub working_at_first : Working gives digest shop true m (replicate plan.workers None)
    working_at_first = subst (λ z. Working gives digest shop true z (replicate plan.workers None)) (sym o.master) (record {
      namer = refl;
      shelves = refl;
      script = refl;
      sound = refl;
      work = work;
      rows = λ w order e. absurd (none_at plan.workers w order e);
      mains = λ w order e. absurd (none_at plan.workers w order e);
      goes = λ w order e. absurd (none_at plan.workers w order e);
    })

    pub working_of : (workers : ℕ) (told : List (Option (List TaskId))) (crew : CrewSeen K N) → crew
        ≡ record { shop = shop; out = replicate workers None; told = told; sound = true }
        → workers ≡ plan.workers → Working gives digest crew.shop crew.sound m crew.out
    working_of workers told crew is many =
        subst (λ (c : CrewSeen K N). Working gives digest c.shop c.sound m c.out) (sym is)
        (subst (λ (x : List (Option Order)). Working gives digest shop true m x) (ap (λ n. replicate n None) (sym many)) working_at_first)

    -- a crew of this shop that has no order
    pub kept_of : (workers seed : ℕ) (told : List (Option (List TaskId))) (crew : CrewSeen K N) → crew
        ≡ record { shop = shop; out = replicate workers None; told = told; sound = true }
        → workers ≡ plan.workers → seed ≡ plan.seed → Kept gives digest crew.shop crew.sound m crew.out seed
    kept_of workers seed told crew is many same =
        let e : replicate {A = Option Order} plan.workers None ≡ replicate workers None = ap (λ n. replicate n None) (sym many) in
        subst (λ (c : CrewSeen K N). Kept gives digest c.shop c.sound m c.out seed) (sym is)
        (subst (λ (x : List (Option Order) × ℕ). Kept gives digest shop true m x.0 x.1) (λ i. (e i, sym same i)) kept_at_first)
