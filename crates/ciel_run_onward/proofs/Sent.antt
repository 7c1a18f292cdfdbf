-- Where a run goes on from, once its orders were sent; where it ended with its log; and where it stops for want of memory.
use Rattle.std.proofs.Common.{◌≡◌, ℕ, List, Option, Some, None, Bool, true, sym, subst}
use Rattle.sky_base.specs.JobView.{job_view}
use Rattle.sky_base.specs.KitView.{Gives}
use Rattle.ciel_journal.specs.Entries.{Entry}
use Rattle.ciel_log_law.specs.Ended.{EndsSo}
use Rattle.ciel_log_law.specs.RunEnd.{RunEnd}
use Rattle.ciel_log_law.specs.Seen.{MasterSeen}
use Rattle.ciel_run_onward.specs.Onward.{Stood, WorksOn}
use Rattle.ciel_task_order.specs.declared.order.Order.{Order}
use Rattle.ciel_task_order.specs.declared.shop.Shop.{Shop}

-- a crew of the shop that has these orders, where no call has failed
module _ {K N : Type 0} (shop now : Shop K N) (sound : Bool) (out then : List (Option Order)) (same : now ≡ shop) (is : sound ≡ true)
    (has : then ≡ out) where
  -- what is so of the shop and the orders is so of the crew
  pub of_sent : (P : Shop K N → Bool → List (Option Order) → Type 0) → P shop true out → P now sound then
  of_sent P p =
      subst (λ (s : Shop K N). P s sound then) (sym same)
      (subst (λ (b : Bool). P shop b then) (sym is) (subst (λ (o : List (Option Order)). P shop true o) (sym has) p))

module _ {K N : Type 0} (gives : K → Gives) (digest : N → List ℕ → List ℕ) (shop : Shop K N) (m : MasterSeen N) (out : List (Option Order)) where
  -- the log had no end, or it had this one
  pub works_none : (end : Option RunEnd) → end ≡ None → WorksOn gives digest shop m out end → WorksOn gives digest shop m out None
  works_none end e w = subst (WorksOn gives digest shop m out) e w

  pub stood_at : (end other : Option RunEnd) (draws : ℕ) → end ≡ other → Stood gives digest shop m out end draws
      → Stood gives digest shop m out other draws
  stood_at end other draws e s = subst (λ (o : Option RunEnd). Stood gives digest shop m out o draws) e s

-- the same end and the same journal
pub ends_as : {K N : Type 0} (gives : K → Gives) (digest : N → List ℕ → List ℕ) (shop : Shop K N) (m : MasterSeen N) (J : List Entry)
    (end result : RunEnd) → J ≡ m.board.journal → result ≡ end
    → EndsSo (digest shop.namer) (job_view shop.job) (gives shop.kit) m.board.plan m.board.journal end
    → EndsSo (digest shop.namer) (job_view shop.job) (gives shop.kit) m.board.plan J result
ends_as gives digest shop m J end result journal same e =
    subst (λ (x : List Entry × RunEnd). EndsSo (digest shop.namer) (job_view shop.job) (gives shop.kit) m.board.plan x.0 x.1)
    (λ i. (sym journal i, sym same i)) e

-- where a run goes on from, its journal is driven: so is what comes of it that ends there for want of memory
pub stood_memory : {K N : Type 0} (gives : K → Gives) (digest : N → List ℕ → List ℕ) (shop : Shop K N) (m : MasterSeen N) (out : List (Option Order))
    (end : Option RunEnd) (draws : ℕ) → Stood gives digest shop m out end draws
    → EndsSo (digest shop.namer) (job_view shop.job) (gives shop.kit) m.board.plan m.board.journal RunEnd.Memory
stood_memory gives digest shop m out None draws k = record {
  driven = (k.history, k.runs.driven, sym k.runs.follows.journal);
  cause = tt;
}
stood_memory gives digest shop m out (Some end) draws e = record { driven = e.driven; cause = tt }
