-- What a run over a crew with a log, which had a log of its journal at first, made of the log's file, by how it ended.
use Rattle.std.proofs.Common.{◌≡◌, ℕ, List, Bool, Option, sym, subst}
use Rattle.sky_base.specs.JobView.{job_view}
use Rattle.sky_base.specs.KitView.{Gives}
use Rattle.ciel_io.specs.Kept.{Files}
use Rattle.ciel_journal.specs.Entries.{Entry}
use Rattle.ciel_journal.specs.History.{Plan}
use Rattle.ciel_journal.specs.Journals.{DrivenJournal}
use Rattle.ciel_log_law.specs.Logging.{CrewLog, GoesOn, LogSeen}
use Rattle.ciel_log_law.specs.LogState.{LogState}
use Rattle.ciel_log_law.specs.Told.{LogContinued, LogContinues}
use Rattle.ciel_log_law.specs.Seen.{MasterSeen}
use Rattle.ciel_log_law.specs.RunEnd.{RunEnd}
use Rattle.ciel_log_law.specs.Kept.{Kept}
use Rattle.ciel_log_law.specs.Moved.{DoesAll, Ends}
use Rattle.ciel_run_logged.specs.Keeping.{IfOver}
use Rattle.ciel_task_crew.specs.Calls.{Call}
use Rattle.ciel_task_order.specs.Performs.{the_shop}
use Rattle.ciel_task_order.specs.declared.order.Order.{Order}
use Rattle.ciel_task_order.specs.declared.shop.Shop.{Shop}

module _ {K N R : Type 0} (gives : K → Gives) (digest : N → List ℕ → List ℕ) (goes : R → Call → R → Type 0) (law : LogContinues gives digest goes)
    (shop : Shop K N) (unbroken : Bool) (m : MasterSeen N) (out : List (Option Order)) (draw : ℕ) (kept : Kept gives digest shop unbroken m out draw)
    (before after : CrewLog R) (whole : before.log.state ≡ LogState.Whole) (J : List Entry)
    (driven : DrivenJournal (the_shop (digest shop.namer) (job_view shop.job) (gives shop.kit)).job m.board.plan J) where
  abbrev Goes : Type 0
  Goes =
      LogContinued (digest shop.namer) (job_view shop.job) (gives shop.kit) m.board.plan before.log.path before.log.held before.log.files after.log.files
      m.board.journal J after.log.state

  abbrev Followed : Type 0
  Followed = Kept gives digest shop unbroken m out draw

  all : DoesAll gives digest shop Followed (GoesOn goes) before m.board after J → Goes
  all d = law shop unbroken m out draw kept before after whole J driven d

  pub continued : (end : RunEnd) → Ends gives digest shop Followed (GoesOn goes) before m.board after J end → IfOver end Goes
  continued (RunEnd.Answer text) d = all d
  continued (RunEnd.Fault fault) d = all d
  continued (RunEnd.Endless names) d = all d
  continued RunEnd.AllLost d = all d
  continued (RunEnd.TooMany held more) d = tt
  continued (RunEnd.NameClash kept other) d = tt
  continued RunEnd.Memory d = tt

-- so it does, told from what was opened
module _ {K N X : Type 0} (gives : K → Gives) (digest : N → List ℕ → List ℕ) (shop : X → Shop K N) (p : Plan) (told : List Entry) (end : RunEnd) where
  abbrev Is : X → LogSeen → Option Files → List Entry → LogState → Type 0
  Is x v now J state =
      IfOver end (LogContinued (digest (shop x).namer) (job_view (shop x).job) (gives (shop x).kit) p v.path v.held v.files now told J state)

  pub continued_so : (x a : X) (first v l : LogSeen) (now : Option Files) (J whole : List Entry) (state : LogState) → x ≡ a → first ≡ v → now ≡ l.files
      → whole ≡ J → state ≡ l.state → Is x first l.files J l.state → Is a v now whole state
  continued_so x a first v l now J whole state inner opened files journal stands w =
      let w1 : Is a first l.files J l.state = subst (λ (y : X). Is y first l.files J l.state) inner w in
      let w2 : Is a v l.files J l.state = subst (λ (y : LogSeen). Is a y l.files J l.state) opened w1 in
      let w3 : Is a v now J l.state = subst (λ (y : Option Files). Is a v y J l.state) (sym files) w2 in
      let w4 : Is a v now whole l.state = subst (λ (y : List Entry). Is a v now y l.state) (sym journal) w3 in
      subst (λ (y : LogState). Is a v now whole y) (sym stands) w4
