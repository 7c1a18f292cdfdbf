-- How a run ends where no report is taken.
use Rattle.std.proofs.Common.{◌≡◌, ℕ, ◌<◌, List, [], Option, Bool, true, nat_eq, sym, subst}
use Rattle.std.specs.List.{IsDistinct, list_any}
use Rattle.sky_base.specs.JobView.{job_view}
use Rattle.sky_base.specs.KitView.{Gives}
use Rattle.sky_base.specs.See as s
use Rattle.sky_base.specs.Val.{same_text}
use Rattle.ciel_master_board.specs.Board.{Board, board_graph}
use Rattle.ciel_master_board.specs.Setting.{Setting}
use Rattle.ciel_master_board.proofs.SearchResults.{circle_follows}
use Rattle.ciel_master_law.proofs.ShopLaws.{circle_never, shop_is}
use Rattle.ciel_journal.specs.Entries.{Entry}
use Rattle.ciel_journal.specs.Graph.{Circle}
use Rattle.ciel_journal.specs.History.{Plan}
use Rattle.ciel_journal.specs.Job.{Digest}
use Rattle.ciel_journal.specs.Journals.{DrivenJournal}
use Rattle.ciel_master.specs.Seen.{MasterSeen}
use Rattle.ciel_master.specs.declared.stop.RunEnd.{RunEnd}
use Rattle.ciel_task_order.specs.Performs.{the_shop}
use Rattle.ciel_task_order.specs.Shop as shop
use Rattle.ciel_task_order.specs.Views.{P}
use Rattle.ciel_task_order.specs.declared.order.Order.{Order}
use Rattle.ciel_task_order.specs.declared.shop.Shop.{Shop}
use Rattle.ciel_master_board.proofs.EndsLemmas.{lost_ends}
use Rattle.ciel_run_drive.specs.Ended.{Ended}
use Rattle.ciel_run_drive.specs.Kept.{Kept}
use Rattle.ciel_run_drive.specs.Working.{Working}

module _ {K N : Type 0} {gives : K → Gives} {digest : N → List ℕ → List ℕ} {shop_ : Shop K N} {unbroken : Bool} {m : MasterSeen N}
    {out : List (Option Order)} {draw : ℕ} (k : Kept gives digest shop_ unbroken m out draw) where
  abbrev D : List ℕ → List ℕ
  D = digest shop_.namer

  abbrev J : s.Job
  J = job_view shop_.job

  abbrev G : Gives
  G = gives shop_.kit

  abbrev S : Setting s.Desc P shop.Block
  S = the_shop D J G

  abbrev b : Board P
  b = m.board

  driven : DrivenJournal S.job b.plan b.journal
  driven = (k.history, k.runs.driven, sym k.runs.follows.journal)

  -- for want of memory
  pub stops : Ended gives digest shop_ b.plan b.journal RunEnd.Memory
  stops = record { driven = driven; cause = tt }

  -- where each worker is lost
  pub all_lost : ((w : ℕ) → w < b.plan.workers → list_any (nat_eq w) b.table.gone ≡ true) → Ended gives digest shop_ b.plan b.journal RunEnd.AllLost
  all_lost all =
      record { driven = driven; cause = lost_ends S (shop_is D J G k.orderly) k.history b k.runs all }

  -- where tasks wait for each other
  pub comes_round : Working gives digest shop_ unbroken m out → b.orders ≡ [] → (names : List Digest) → Circle (board_graph b) names
      → IsDistinct same_text names → Ended gives digest shop_ b.plan b.journal (RunEnd.Endless names)
  comes_round at none names circle distinct =
      let c = (circle_follows S (shop_is D J G k.orderly) k.history b at.work.safe.sound k.runs.follows none names circle).0 in
      record { driven = driven; cause = (c, circle_never D J G k.orderly b.plan b.journal names c, distinct) }

-- an end later in the run is one of the run
pub ended_on : {K N : Type 0} (gives : K → Gives) (digest : N → List ℕ → List ℕ) {shop shop_ : Shop K N} {p q : Plan} (journal : List Entry)
    (end : RunEnd) → shop ≡ shop_ → p ≡ q → Ended gives digest shop p journal end → Ended gives digest shop_ q journal end
ended_on gives digest {shop} {shop_} {p} {q} journal end same plan e =
    subst (λ z. Ended gives digest z q journal end) same (subst (λ z. Ended gives digest shop z journal end) plan e)
