-- A file is refused only where its records begin no log of a journal.
use Rattle.std.proofs.Common.{◌≤◌, ℕ, List, take, inl, inr, subst, arith}
use Rattle.sky_base.specs.JobView.{job_view}
use Rattle.sky_base.specs.KitView.{Gives}
use Rattle.sky_base.specs.See as s
use Rattle.ciel_journal.specs.Entries.{Entry}
use Rattle.ciel_journal.specs.History.{Plan}
use Rattle.ciel_journal.specs.Job.{In}
use Rattle.ciel_log_file.specs.Refused.{IsRefused, RefusedAfter}
use Rattle.ciel_log_file.specs.Replays.{At}
use Rattle.ciel_log_file.specs.Sending.{nobody}
use Rattle.ciel_log_file.specs.Whole.{RecordsTo}
use Rattle.ciel_log_file.proofs.Places.{records_on}
use Rattle.ciel_log_follows.specs.Begins.{BeginsLog}
use Rattle.ciel_log_follows.specs.Follows.{IsAtFirst}
use Rattle.ciel_log_follows.proofs.Replayed.{here_first, replay_all}
use Rattle.ciel_log_follows.proofs.Steps.{Stands, losses}
use Rattle.ciel_log_read.specs.File.{RecordAt}
use Rattle.ciel_log_refuses.specs.Refusals.{LogsAreReplayed, LogsHaveNoBadPlace, RefusedAreBad, RefusedForCause}
use Rattle.ciel_log_refuses.proofs.Cut.{cut_prefix, record_cut, records_cut}
use Rattle.ciel_log_refuses.proofs.Kept.{AllKept, losses_kept, replays_kept}
use Rattle.ciel_log_refuses.proofs.Never.{never_refused}
use Rattle.ciel_log_refuses.proofs.Whole.{none_after_end}
use Rattle.ciel_master.specs.Seen.{MasterSeen}
use Rattle.ciel_task_order.specs.declared.shop.Shop.{Shop}

module _ {K N : Type 0} (gives : K → Gives) (digest : N → List ℕ → List ℕ) (shop_ : Shop K N) (log header : List ℕ) (m : MasterSeen N) (at : ℕ)
    (first : IsAtFirst gives digest shop_ m)
    (r : IsRefused (digest shop_.namer) (job_view shop_.job).script shop_.shelves log header at m.board (nobody m.board.plan.workers))
    (begins : BeginsLog (digest shop_.namer) (job_view shop_.job) (gives shop_.kit) m.board.plan header (take r.next log)) where
  abbrev D : List ℕ → List ℕ
  D = digest shop_.namer

  abbrev J : s.Job
  J = job_view shop_.job

  abbrev G : Gives
  G = gives shop_.kit

  abbrev cut : List ℕ
  cut = take r.next log

  -- ---- the file, cut behind the record

  at_before : at ≤ r.next
  at_before = let b = r.here.behind in omega (arith, b)

  first_there : RecordAt cut 0 header r.stand.0
  first_there =
      let on = records_on log r.stand.0 r.records at r.stand.2 in
      let b = at_before in
      record_cut log 0 header r.stand.0 r.next r.stand.1 (omega (arith, on, b))

  stand_there : RecordsTo cut r.stand.0 r.records at
  stand_there = records_cut log r.stand.0 r.records at r.next r.stand.2 at_before

  refused_there : RecordAt cut at r.bytes r.next
  refused_there = record_cut log at r.bytes r.next r.next r.here (omega arith)

  -- ---- the replay of it

  abbrev starting : At
  starting = record { board = m.board; out = nobody m.board.plan.workers; kept = r.first }

  here : Stands gives digest shop_ m header cut starting r.stand.0
  here = here_first gives digest shop_ m header cut first.kept.orderly first begins r.first r.empty r.stand.0 first_there

  nothing_made : AllKept m.board.journal r.first
  nothing_made k made copied i = absurd (subst (In (Entry.Done k made copied)) first.journal i)

  pub no_log : ⊥
  no_log = pick r.cause
    where
      pick : RefusedAfter D J.script shop_.shelves starting r.records r.bytes → ⊥
      pick (inl ended) =
          none_after_end gives digest shop_ m header cut first.kept.orderly starting ended.1 r.records ended.0 ended.2 r.stand.0 at stand_there here
          r.bytes r.next refused_there
      pick (inr goes) =
          let behind = replay_all gives digest shop_ m header cut first.kept.orderly goes.1 r.stand.0 at stand_there here in
          let then = losses gives digest shop_ m header cut first.kept.orderly goes.0 goes.2.then at goes.2.losses behind in
          let kept = losses_kept D shop_.shelves J.script goes.0 goes.2.then goes.2.losses
          (replays_kept D shop_.shelves J.script goes.1 nothing_made) in
          never_refused gives digest shop_ m header cut first.kept.orderly goes.2.then at then r.bytes r.next refused_there goes.2.losses.quiet kept
          goes.2.refused

-- a file that is cut begins the same log
cut_begins : (digest : List ℕ → List ℕ) (job : s.Job) (gives : Gives) (p : Plan) (header log : List ℕ) (n : ℕ)
    → BeginsLog digest job gives p header log → BeginsLog digest job gives p header (take n log)
cut_begins digest job gives p header log n b =
    record { journal = b.journal; all = b.all; log = b.log; short = b.short; read = b.read; prefix = cut_prefix log b.all n b.prefix }

pub logs_have_no_bad_place : LogsHaveNoBadPlace
logs_have_no_bad_place digest job gives p header log at r begins = r.cause (cut_begins digest job gives p header log r.next begins)

module _ {K N : Type 0} (gives : K → Gives) (digest : N → List ℕ → List ℕ) where
  pub refused_for_cause : RefusedForCause gives digest
  refused_for_cause shop log header m at first r begins = no_log gives digest shop log header m at first r begins

  pub refused_are_bad : RefusedAreBad gives digest
  refused_are_bad shop log header m at first r =
      record {
        records = r.records;
        stand = r.stand;
        bytes = r.bytes;
        next = r.next;
        here = r.here;
        cause = λ begins. no_log gives digest shop log header m at first r begins;
      }

  pub logs_are_replayed : LogsAreReplayed gives digest
  logs_are_replayed shop log header m at first r begins =
      logs_have_no_bad_place (digest shop.namer) (job_view shop.job) (gives shop.kit) m.board.plan header log at
      (refused_are_bad shop log header m at first r) begins
