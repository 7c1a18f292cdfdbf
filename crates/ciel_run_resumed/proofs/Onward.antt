-- Where a replay came to is where a run goes on from.
use Rattle.std.proofs.Common.{◌≡◌, ◌*◌, ℕ, List, Option, Some, None, Result, Ok, Err, true, sym, subst, ◌∙◌}
use Rattle.std.specs.Prelude.{IfNone, IfSome, IsErrAnd}
use Rattle.sky_base.specs.KitView.{Gives}
use Rattle.ciel_journal.specs.History.{Plan}
use Rattle.ciel_journal.specs.Turns.{state_after}
use Rattle.ciel_log_law.specs.Ended.{Ended}
use Rattle.ciel_log_law.specs.Kept.{Kept}
use Rattle.ciel_log_law.specs.RunEnd.{RunEnd}
use Rattle.ciel_log_law.specs.Seen.{MasterSeen}
use Rattle.ciel_log_replay.specs.Between.{Between}
use Rattle.ciel_run_onward.specs.Onward.{Stood, WorksOn}
use Rattle.ciel_run_resumed.specs.declared.run.NotResumed.{NotResumed}
use Rattle.ciel_task_order.specs.declared.order.Order.{Order}
use Rattle.ciel_task_order.specs.declared.shop.Shop.{Shop}

-- ---- a bad place

-- the place that is told, if one is
abbrev pub place_of : {A : Type 0} → Result A NotResumed → ℕ
place_of (Err (NotResumed.BadLog at)) = at
place_of r = 0

-- what is handed on as it was
pub handed_on : {A : Type 0} (r : Result A NotResumed) (e : NotResumed) (at : ℕ) → IsErrAnd r (λ y. y ≡ e) → r ≡ Err (NotResumed.BadLog at)
    → e ≡ NotResumed.BadLog at
handed_on (Ok x) e at h q = absurd h
handed_on (Err y) e at h q = let same : y ≡ NotResumed.BadLog at = cc in sym h ∙ same

-- ---- where it goes on

-- the master with these orders, the end of the log, and the state of the generator of draws
module _ {K N : Type 0} (gives : K → Gives) (digest : N → List ℕ → List ℕ) (shop : Shop K N) (m : MasterSeen N) (out : List (Option Order))
    (draws : ℕ) where
  pub works_on : (end : Option RunEnd) → IfNone end (Between gives digest shop m out draws) → WorksOn gives digest shop m out end
  works_on None b = b.working
  works_on (Some end) b = tt

  pub stood_on : (plan : Plan) → m.board.plan ≡ plan → (end : Option RunEnd) → IfNone end (Between gives digest shop m out draws)
      → ((state : ℕ) → state ≡ state_after m.board.plan.seed (2 * m.board.starts) → IfNone end (Kept gives digest shop true m out state))
      → IfSome end (Ended gives digest shop plan m.board.journal) → Stood gives digest shop m out end draws
  stood_on plan same None b k e = k draws b.draws
  stood_on plan same (Some end) b k e = subst (λ (p : Plan). Ended gives digest shop p m.board.journal end) (sym same) e
