-- What an order of the job gives: places of what was fetched, and of what was missing.
use Rattle.std.proofs.Common.{◌≡◌, ℕ, List, true, false, cond, nat_eq, Option, Some, None, ◌⊎◌, inl, inr}
use Rattle.std.proofs.Common.{refl, sym, ap, ◌∙◌, subst}
use Rattle.std.specs.List.{list_any}
use Rattle.std.specs.Option.{option_map}
use Rattle.sky_base.specs.KitView.{Gives}
use Rattle.sky_base.specs.See as s
use Rattle.ciel_journal.specs.History.{Event, OpenStart, Standing, find_open, missed, standing}
use Rattle.ciel_journal.specs.Job.{In, IsJob, Job, Task, of, show}
use Rattle.ciel_journal.specs.Lawful as lawful
use Rattle.ciel_journal.specs.Lawful.{FetchedFrom, HeldAt, Step, least}
use Rattle.ciel_journal.proofs.Numbers.{found_in}
use Rattle.ciel_journal.proofs.Shelved.{least_has}
use Rattle.ciel_master.specs.Marked.{IsPlanned}
use Rattle.ciel_master_board.specs.Board.{Board, shelf, spot_of}
use Rattle.ciel_master_board.specs.Driving.{Runs}
use Rattle.ciel_master_board.specs.Follows.{BroughtFor, FetchedAt, OrderIs, worker_for}
use Rattle.ciel_master_board.specs.Sound.{own_name}
use Rattle.ciel_master_law.specs.Ends.{IsOrderly, worker_of}
use Rattle.ciel_task_order.specs.Views.{P, order_view}
use Rattle.ciel_task_order.specs.declared.order.Order.{Order}
use Rattle.ciel_want.specs.History.{task_id}
use Rattle.ciel_log_fits.specs.Given.{IsElsewhere, IsGivenAt}
use Rattle.ciel_log_model.proofs.Books.{J, S, is}
use Rattle.ciel_log_model.proofs.Had.{MadeAt, all_made}

module _ (digest : List ℕ → List ℕ) (job : s.Job) (gives : Gives) (orderly : IsOrderly digest job gives) (h : List (Event s.Desc)) (b : Board P)
    (runs : Runs (S digest job gives orderly) h b) (order : Order) (o : OpenStart s.Desc)
    (found : find_open (J digest job gives orderly) order.number (standing (J digest job gives orderly) h).orders ≡ Some o)
    (order_is : OrderIs (S digest job gives orderly) o (order_view order)) where
  abbrev the : Job s.Desc
  the = J digest job gives orderly

  abbrev laws : IsJob the
  laws = (is digest job gives orderly).laws

  abbrev v : Standing s.Desc
  v = standing the h

  open_there : In o v.orders
  open_there = (found_in the laws order.number v.orders o found).0

  -- what some worker had when the order was made was made by a task
  pub had_made : (d : s.Desc) (w : ℕ) → FetchedFrom the o d w → MadeAt the laws h d
  had_made d w f = (all_made the laws b.plan h runs.follows.lawful).had o open_there d w (least_has the laws (o.had d) w f.0)

  -- the place from which the order fetches it
  pub fetched_place : (d : s.Desc) → HeldAt the o.task o.from d → (w : ℕ) → FetchedFrom the o d w
      → (p : P) × (spot_of (the.name d) (order_view order).inputs ≡ Some (shelf p)) × (p.worker ≡ w)
  fetched_place d held w f = pick (the.task_of d) refl (order_is.inputs d held)
    where
      from_there : worker_for the o.worker (o.had d) ≡ Some w
      from_there = ap (λ c. cond c (Some o.worker) (least the (o.had d))) f.1 ∙ f.0

      at : FetchedAt (S digest job gives orderly) d (Some w) (spot_of (the.name d) (order_view order).inputs)
          → (p : P) × (spot_of (the.name d) (order_view order).inputs ≡ Some (shelf p)) × (p.worker ≡ w)
      at x = (x.0, x.1, x.2)

      pick : (u : Option (Task s.Desc)) → the.task_of d ≡ u
          → BroughtFor (S digest job gives orderly) o d u (spot_of (the.name d) (order_view order).inputs)
          → (p : P) × (spot_of (the.name d) (order_view order).inputs ≡ Some (shelf p)) × (p.worker ≡ w)
      pick None e x =
          let made = had_made d w f in
          let bad : None ≡ Some made.by.0 = sym e ∙ made.by.1 in
          absurd cc
      pick (Some u) e x =
          at (subst (λ z. FetchedAt (S digest job gives orderly) d z (spot_of (the.name d) (order_view order).inputs)) from_there x)

  -- it is at another worker
  pub fetched_elsewhere : (d : s.Desc) → HeldAt the o.task o.from d → (w : ℕ) → FetchedFrom the o d w → IsElsewhere order (the.name d)
  fetched_elsewhere d held w f =
      let p = fetched_place d held w f in (p.0, p.1, λ same. bad (sym p.2 ∙ (same ∙ order_is.out.worker)))
    where
      own : w ≡ o.worker → list_any (nat_eq o.worker) (o.had d) ≡ true
      own e = subst (λ z. list_any (nat_eq z) (o.had d) ≡ true) e (least_has the laws (o.had d) w f.0)

      bad : w ≡ o.worker → ⊥
      bad e = let no : true ≡ false = sym (own e) ∙ f.1 in cc

  -- ---- something that was missing

  module _ (d : s.Desc) (loss : ℕ) (step : Step the b.plan v (missed order.number d loss)) where
    same : (a c : OpenStart s.Desc) → Some a ≡ Some c → a ≡ c
    same a c e = cc

    is_o : step.allowed.0 ≡ o
    is_o = same step.allowed.0 o (sym step.allowed.1 ∙ found)

    abbrev ok : lawful.MissedAllowed the b.plan v o d loss
    ok = subst (λ z. lawful.MissedAllowed the b.plan v z d loss) is_o step.allowed.2

    pub missed_worker : ℕ
    missed_worker = ok.worker

    stack_at : (q : Option P) → order.saved ≡ q → option_map worker_of q ≡ o.stack → o.stack ≡ Some ok.worker
        → (p : P) × (order.saved ≡ Some p) × (p.worker ≡ ok.worker)
    stack_at None e m x = let bad : None ≡ Some ok.worker = m ∙ x in absurd cc
    stack_at (Some p) e m x = let w : Some p.worker ≡ Some ok.worker = m ∙ x in let q : p.worker ≡ ok.worker = cc in (p, e, q)

    own_is : (t : Task s.Desc) → order.task ≡ task_id the t → the.name (lawful.own_name the t) ≡ own_name digest worker_of order.main order.task
    own_is show e = sym order_is.main ∙ ap (own_name digest worker_of order.main) (sym e)
    own_is (of x) e = ap (own_name digest worker_of order.main) (sym e)

    given : (HeldAt the o.task o.from d × FetchedFrom the o d ok.worker) ⊎ ((d ≡ lawful.own_name the o.task) × (o.stack ≡ Some ok.worker))
        → IsGivenAt digest order (the.name d) ok.worker
    given (inl x) = let p = fetched_place d x.0 ok.worker x.1 in (p.0, inl p.1, p.2)
    given (inr x) =
        let p = stack_at order.saved refl order_is.stack x.1 in
        (p.0, inr (p.1, ap the.name x.0 ∙ own_is o.task order_is.out.task), p.2)

    -- the order gives it at the worker of a loss of the plan that was carried out
    pub missed_passes : (w : ℕ) × IsGivenAt digest order (the.name d) w × IsPlanned b.plan.losses (record { number = loss; worker = w })
        × (list_any (nat_eq w) b.table.gone ≡ true)
    missed_passes = (
      ok.worker,
      given ok.reason,
      ok.planned,
      subst (λ z. list_any (nat_eq ok.worker) z ≡ true) (sym runs.follows.stands.gone) ok.since,
    )
