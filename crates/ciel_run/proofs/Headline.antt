-- What each driven history is: tasks are needed, none is started whose outputs are live, they are few, and names and waits have one value.
use Rattle.std.proofs.Common.{◌≡◌, ◌≤◌, ◌+◌, ◌*◌, ℕ, List, [], ◌∷◌, ◌++◌, sym, subst}
use Rattle.sky_base.specs.KitView.{Gives}
use Rattle.sky_base.specs.See as s
use Rattle.sky_base.specs.Needed as n
use Rattle.ciel_journal.specs.Entries.{Entry, journal_of}
use Rattle.ciel_journal.specs.History.{Event, Standing, after, before_all, start}
use Rattle.ciel_journal.specs.Job.{IsJob}
use Rattle.ciel_journal.specs.Lawful.{Lawful, LawfulFrom}
use Rattle.ciel_journal.specs.Turns.{Driven, DrivenFrom}
use Rattle.ciel_journal.proofs.Published.{one_state, publishes}
use Rattle.ciel_journal.proofs.Started.{started}
use Rattle.ciel_json.proofs.ReadLaw.{json_reads_sound}
use Rattle.ciel_run_load.specs.Line.{Input}
use Rattle.ciel_journal_job.proofs.HistoriesLaw.{starts_few, starts_needed}
use Rattle.ciel_journal_job.proofs.RealLaw.{real_laws}
use Rattle.ciel_task_order.specs.Named.{frozen_mark, mark_of, name_of}
use Rattle.ciel_words.specs.declared.words.Words.{Words}
use Rattle.ciel_run_line.specs.Runs.{NamesHaveOne, StartsFew, StartsMissing, StartsNeeded, WaitsHaveOne, digest_of, plan_of, told_of}
use Rattle.ciel_run_line.specs.Source.{job_of, around}

module _ (g : Gives) (w : Words) (source : List ℕ) (inputs : List Input) (J : List Entry) where
  abbrev D : List ℕ → List ℕ
  D = digest_of w.names

  laws : (job : s.Job) → IsJob (told_of g w job)
  laws job = real_laws job (around g) (name_of D) (mark_of D) (frozen_mark D)

  lawful : (job : s.Job) (h : List (Event s.Desc)) → Driven (told_of g w job) (plan_of w) h → Lawful (told_of g w job) (plan_of w) h
  lawful job h d = from (before_all (told_of g w job)) h d
    where
      from : (v : Standing s.Desc) (es : List (Event s.Desc)) → DrivenFrom (told_of g w job) (plan_of w) v es
          → LawfulFrom (told_of g w job) (plan_of w) v es
      from v [] d = tt
      from v (e ∷ es) d = (d.0, from (after (told_of g w job) v e) es d.2)

  pub needed : StartsNeeded g w source inputs J
  needed script is h d e k worker t from i =
      let job = job_of script inputs in
      starts_needed job (around g) (name_of D) (mark_of D) (frozen_mark D) (plan_of w) h (lawful job h d) k worker t from i

  pub few : StartsFew g w source inputs J
  few script is h d e a means =
      let job = job_of script inputs in
      starts_few job (around g) (name_of D) (mark_of D) (frozen_mark D) (plan_of w) h (lawful job h d) (json_reads_sound job.script g) a means

  pub missing : StartsMissing g w source inputs J
  missing script is h d e before rest k worker t from whole =
      let job = job_of script inputs in
      let l = subst (Lawful (told_of g w job) (plan_of w)) whole (lawful job h d) in
      (started (told_of g w job) (laws job) (plan_of w) before rest k worker t from l).1

  pub one_value : NamesHaveOne g w source inputs J
  one_value script is h d e k made copied spawned x mark i j =
      let job = job_of script inputs in
      publishes (told_of g w job) (laws job) (plan_of w) h (lawful job h d) k made copied spawned x mark i j

  pub one_wait : WaitsHaveOne g w source inputs J
  one_wait script is h d e k l worker other t from since i u j a b refs holds spawned more keeps makes x y =
      let job = job_of script inputs in
      one_state (told_of g w job) (laws job) (plan_of w) h (lawful job h d) k l worker other t from since i u j a b refs holds spawned more keeps makes x y
