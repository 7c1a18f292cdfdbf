-- What was opened is the job's and the plan's; and a run stays as it ended, or wants memory for its gates.
use Rattle.std.proofs.Common.{◌≡◌, ◌⊎◌, ℕ, List, [], true, inl, inr, sym, ap, subst}
use Rattle.sky_base.specs.JobView.{job_view}
use Rattle.sky_base.specs.KitView.{Gives}
use Rattle.sky_base.specs.See as s
use Rattle.sky_base.specs.declared.job.Job.{Job}
use Rattle.sky_parse_law.specs.Orderly.{FunctionsAreOrderly}
use Rattle.ciel_journal.specs.Entries.{Entry}
use Rattle.ciel_journal.specs.History.{Plan}
use Rattle.ciel_log_file.specs.Sending.{nobody}
use Rattle.ciel_log_law.specs.Ended.{EndsSo}
use Rattle.ciel_log_law.specs.Kept.{Kept}
use Rattle.ciel_log_law.specs.RunEnd.{RunEnd}
use Rattle.ciel_log_law.specs.Seen.{MasterSeen, plan_view}
use Rattle.ciel_log_law.specs.Working.{Working}
use Rattle.ciel_master.specs.declared.plan.RunPlan.{RunPlan}
use Rattle.ciel_run_job.proofs.Began.{kept_at_first, working_at_first}
use Rattle.ciel_run_job.specs.Onward.{IsRead}
use Rattle.ciel_run_job.specs.Opened.{IsOpened, ShopOf}
use Rattle.ciel_run_logged.specs.Keeping.{IfOver}
use Rattle.ciel_store.specs.Seen.{SeatSeen}
use Rattle.ciel_task_order.specs.Shop.{InputsInOrder}
use Rattle.ciel_task_order.specs.declared.shop.Shop.{Shop}

-- ---- the master

module _ {K N : Type 0} (gives : K → Gives) (digest : N → List ℕ → List ℕ) (shop : Shop K N) (plan : RunPlan) (m : MasterSeen N)
    (eyes : List SeatSeen) (o : IsOpened digest plan shop m eyes) where
  pub plan_is : m.board.plan ≡ plan_view plan
  plan_is = ap (λ (x : MasterSeen N). x.board.plan) o.master

  pub nothing_yet : (m.board.starts ≡ 0) × (m.board.journal ≡ []) × (m.board.orders ≡ [])
  nothing_yet = (
    ap (λ (x : MasterSeen N). x.board.starts) o.master,
    ap (λ (x : MasterSeen N). x.board.journal) o.master,
    ap (λ (x : MasterSeen N). x.board.orders) o.master,
  )

  module _ (read : IsRead (job_view shop.job).script) (inputs : InputsInOrder (job_view shop.job)) (functions : FunctionsAreOrderly) where
    pub works_first : Working gives digest shop true m (nobody m.board.plan.workers)
    works_first =
        subst (λ (p : Plan). Working gives digest shop true m (nobody p.workers)) (sym plan_is)
        (working_at_first gives digest shop plan m eyes o read inputs functions)

    pub kept_first : Kept gives digest shop true m (nobody m.board.plan.workers) m.board.plan.seed
    kept_first =
        subst (λ (p : Plan). Kept gives digest shop true m (nobody p.workers) p.seed) (sym plan_is)
        (kept_at_first gives digest shop plan m eyes o read inputs functions)

-- ---- the job

module _ {K N : Type 0} (gives : K → Gives) (digest : N → List ℕ → List ℕ) (job : Job) (kit : K) (namer : N) (shop : Shop K N)
    (of : ShopOf job kit namer shop) where
  -- what is so of the shop's job is so of the one that was given
  pub as_given : (P : (List ℕ → List ℕ) → s.Job → Gives → Type 0) → P (digest shop.namer) (job_view shop.job) (gives shop.kit)
      → P (digest namer) (job_view job) (gives kit)
  as_given P p =
      subst (λ (n : N). P (digest n) (job_view job) (gives kit)) of.namer_is
      (subst (λ (k : K). P (digest shop.namer) (job_view job) (gives k)) of.kit_is
      (subst (λ (j : Job). P (digest shop.namer) (job_view j) (gives shop.kit)) of.job_is p))

  pub as_opened : (P : (List ℕ → List ℕ) → s.Job → Gives → Type 0) → P (digest namer) (job_view job) (gives kit)
      → P (digest shop.namer) (job_view shop.job) (gives shop.kit)
  as_opened P p =
      subst (λ (n : N). P (digest n) (job_view shop.job) (gives shop.kit)) (sym of.namer_is)
      (subst (λ (k : K). P (digest namer) (job_view shop.job) (gives k)) (sym of.kit_is)
      (subst (λ (j : Job). P (digest namer) (job_view j) (gives kit)) (sym of.job_is) p))

-- and so is what is so of its plan
module _ {K N : Type 0} (gives : K → Gives) (digest : N → List ℕ → List ℕ) (shop : Shop K N) (plan : RunPlan) (m : MasterSeen N)
    (eyes : List SeatSeen) (o : IsOpened digest plan shop m eyes) (job : Job) (kit : K) (namer : N) (of : ShopOf job kit namer shop) where
  pub at_first : (P : (List ℕ → List ℕ) → s.Job → Gives → Plan → Type 0) → P (digest namer) (job_view job) (gives kit) (plan_view plan)
      → P (digest shop.namer) (job_view shop.job) (gives shop.kit) m.board.plan
  at_first P p =
      subst (P (digest shop.namer) (job_view shop.job) (gives shop.kit)) (sym (plan_is gives digest shop plan m eyes o))
      (as_opened gives digest job kit namer shop of (λ d j g. P d j g (plan_view plan)) p)

  pub from_first : (P : (List ℕ → List ℕ) → s.Job → Gives → Plan → Type 0) → P (digest shop.namer) (job_view shop.job) (gives shop.kit) m.board.plan
      → P (digest namer) (job_view job) (gives kit) (plan_view plan)
  from_first P p =
      as_given gives digest job kit namer shop of (λ d j g. P d j g (plan_view plan))
      (subst (P (digest shop.namer) (job_view shop.job) (gives shop.kit)) (plan_is gives digest shop plan m eyes o) p)

-- ---- the end, once the other gates were put behind those of the workers

module _ (ran after : RunEnd) (end : (after ≡ ran) ⊎ (after ≡ RunEnd.Memory)) where
  pub ends_still : (digest : List ℕ → List ℕ) (job : s.Job) (gives : Gives) (p : Plan) (J : List Entry) → EndsSo digest job gives p J ran
      → EndsSo digest job gives p J after
  ends_still digest job gives p J e = pick end
    where
      pick : (after ≡ ran) ⊎ (after ≡ RunEnd.Memory) → EndsSo digest job gives p J after
      pick (inl same) = subst (EndsSo digest job gives p J) (sym same) e
      pick (inr none) = subst (EndsSo digest job gives p J) (sym none) (record { driven = e.driven; cause = tt })

  pub over_still : (P : Type 0) → IfOver ran P → IfOver after P
  over_still P x = pick end
    where
      pick : (after ≡ ran) ⊎ (after ≡ RunEnd.Memory) → IfOver after P
      pick (inl same) = subst (λ (e : RunEnd). IfOver e P) (sym same) x
      pick (inr none) = subst (λ (e : RunEnd). IfOver e P) (sym none) tt
