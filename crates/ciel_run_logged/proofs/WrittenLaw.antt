-- What a run over a crew with a log wrote, by how it ended.
use Rattle.std.proofs.Common.{◌≡◌, ℕ, List, [], Bool, Option, sym, subst}
use Rattle.sky_base.specs.JobView.{job_view}
use Rattle.sky_base.specs.KitView.{Gives}
use Rattle.ciel_io.specs.Kept.{Files}
use Rattle.ciel_journal.specs.Entries.{Entry}
use Rattle.ciel_journal.specs.History.{Plan}
use Rattle.ciel_journal.specs.Journals.{DrivenJournal}
use Rattle.ciel_log_law.specs.Logging.{CrewLog, GoesOn, LogSeen}
use Rattle.ciel_log_law.specs.Logs.{LogWritten}
use Rattle.ciel_log_law.specs.LogState.{LogState}
use Rattle.ciel_log_law.specs.Told.{LogTellsJournal}
use Rattle.ciel_log_law.specs.Seen.{MasterSeen}
use Rattle.ciel_log_law.specs.RunEnd.{RunEnd}
use Rattle.ciel_log_law.specs.Kept.{Kept}
use Rattle.ciel_log_law.specs.Moved.{DoesAll, Ends}
use Rattle.ciel_run_logged.specs.Keeping.{IfOver}
use Rattle.ciel_task_crew.specs.Calls.{Call}
use Rattle.ciel_task_order.specs.Performs.{the_shop}
use Rattle.ciel_task_order.specs.declared.order.Order.{Order}
use Rattle.ciel_task_order.specs.declared.shop.Shop.{Shop}

module _ {K N R : Type 0} (gives : K → Gives) (digest : N → List ℕ → List ℕ) (goes : R → Call → R → Type 0) (law : LogTellsJournal gives digest goes)
    (shop : Shop K N) (unbroken : Bool) (m : MasterSeen N) (out : List (Option Order)) (draw : ℕ) (kept : Kept gives digest shop unbroken m out draw)
    (none : m.board.journal ≡ []) (before after : CrewLog R) (whole : before.log.state ≡ LogState.Whole) (J : List Entry)
    (driven : DrivenJournal (the_shop (digest shop.namer) (job_view shop.job) (gives shop.kit)).job m.board.plan J) where
  abbrev Written : Type 0
  Written =
      LogWritten (digest shop.namer) (job_view shop.job) (gives shop.kit) m.board.plan before.log.path before.log.held before.log.files after.log.files J
      after.log.state

  abbrev Followed : Type 0
  Followed = Kept gives digest shop unbroken m out draw

  all : DoesAll gives digest shop Followed (GoesOn goes) before m.board after J → Written
  all d = law shop unbroken m out draw kept none before after whole J driven d

  pub written : (end : RunEnd) → Ends gives digest shop Followed (GoesOn goes) before m.board after J end → IfOver end Written
  written (RunEnd.Answer text) d = all d
  written (RunEnd.Fault fault) d = all d
  written (RunEnd.Endless names) d = all d
  written RunEnd.AllLost d = all d
  written (RunEnd.TooMany held more) d = tt
  written (RunEnd.NameClash kept other) d = tt
  written RunEnd.Memory d = tt

-- so it does, told from what was opened
module _ {K N X : Type 0} (gives : K → Gives) (digest : N → List ℕ → List ℕ) (shop : X → Shop K N) (p : Plan) (end : RunEnd) where
  abbrev Is : X → LogSeen → Option Files → List Entry → LogState → Type 0
  Is x v now J state =
      IfOver end (LogWritten (digest (shop x).namer) (job_view (shop x).job) (gives (shop x).kit) p v.path v.held v.files now J state)

  pub written_so : (x a : X) (first v l : LogSeen) (now : Option Files) (J whole : List Entry) (state : LogState) → x ≡ a → first ≡ v → now ≡ l.files
      → whole ≡ J → state ≡ l.state → Is x first l.files J l.state → Is a v now whole state
  written_so x a first v l now J whole state inner opened files journal stands w =
      let w1 : Is a first l.files J l.state = subst (λ (y : X). Is y first l.files J l.state) inner w in
      let w2 : Is a v l.files J l.state = subst (λ (y : LogSeen). Is a y l.files J l.state) opened w1 in
      let w3 : Is a v now J l.state = subst (λ (y : Option Files). Is a v y J l.state) (sym files) w2 in
      let w4 : Is a v now whole l.state = subst (λ (y : List Entry). Is a v now y l.state) (sym journal) w3 in
      subst (λ (y : LogState). Is a v now whole y) (sym stands) w4

-- of the shop that it is, and by the plan that it is
pub written_at : {K N : Type 0} (gives : K → Gives) (digest : N → List ℕ → List ℕ) (end : RunEnd) (path : List ℕ) (held : ℕ)
    (before after : Option Files) (J : List Entry) (state : LogState) (s t : Shop K N) (p q : Plan) → s ≡ t → p ≡ q
    → IfOver end (LogWritten (digest s.namer) (job_view s.job) (gives s.kit) p path held before after J state)
    → IfOver end (LogWritten (digest t.namer) (job_view t.job) (gives t.kit) q path held before after J state)
written_at {K} {N} gives digest end path held before after J state s t p q same plan w =
    let a : IfOver end (LogWritten (digest t.namer) (job_view t.job) (gives t.kit) p path held before after J state) =
    subst (λ (x : Shop K N). IfOver end (LogWritten (digest x.namer) (job_view x.job) (gives x.kit) p path held before after J state)) same w in
    subst (λ (x : Plan). IfOver end (LogWritten (digest t.namer) (job_view t.job) (gives t.kit) x path held before after J state)) plan a
