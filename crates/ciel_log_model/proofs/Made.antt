-- What was made in a history of the job is allowed by the job.
use Rattle.std.proofs.Common.{ℕ, List, subst}
use Rattle.sky_base.specs.KitView.{Gives}
use Rattle.sky_base.specs.See as s
use Rattle.sky_base_law.specs.Sound.{SoundDesc}
use Rattle.ciel_journal.specs.History.{Event, OpenStart, Plan, done, standing}
use Rattle.ciel_journal.specs.Job.{In, IsJob, Job, Needed}
use Rattle.ciel_journal.specs.Lawful.{Lawful}
use Rattle.ciel_journal.proofs.Begins.{began}
use Rattle.ciel_journal.proofs.Numbers.{found_in}
use Rattle.ciel_journal.proofs.Published.{in_split, lawful_step}
use Rattle.ciel_journal.proofs.Started.{started}
use Rattle.ciel_master_law.specs.Ends.{IsOrderly}
use Rattle.ciel_log_follows.proofs.Told.{marked_names}
use Rattle.ciel_log_model.proofs.Books.{J, is}
use Rattle.ciel_log_model.proofs.Had.{MadeAt}
use Rattle.ciel_log_model.proofs.Outputs.{outputs_sound}

module _ (digest : List ℕ → List ℕ) (job : s.Job) (gives : Gives) (orderly : IsOrderly digest job gives) (p : Plan) where
  abbrev the : Job s.Desc
  the = J digest job gives orderly

  abbrev laws : IsJob the
  laws = (is digest job gives orderly).laws

  -- the task of an open Start is needed
  pub open_needed : (g : List (Event s.Desc)) → Lawful the p g → (o : OpenStart s.Desc) → In o (standing the g).orders → Needed the o.task
  open_needed g lawful o i =
      let m = began the g o i in
      (started the laws p m.before m.rest o.number o.worker o.task o.from (subst (Lawful the p) m.whole lawful)).0

  pub made_allowed : (h : List (Event s.Desc)) → Lawful the p h → (d : s.Desc) → MadeAt the laws h d → SoundDesc job.script d
  made_allowed h lawful d m =
      let at = in_split (done m.number m.made m.copied m.spawned) h m.ended in
      let q = lawful_step the laws p h at.0 at.1 (done m.number m.made m.copied m.spawned) at.2 lawful in
      let o = q.1.allowed.0 in
      outputs_sound digest job gives orderly o.task
      (open_needed at.0 q.0 o (found_in the laws m.number (standing the at.0).orders o q.1.allowed.1).0) d
      (subst (In d) (marked_names the (the.outputs o.task) m.made q.1.allowed.2.marked) m.has)
