-- What comes next where the master's state follows a history.
use Rattle.std.proofs.Common.{◌≡◌, ℕ, ◌≤◌, ◌<◌, nat_eq, List, [], ◌∷◌, ◌++◌, length, map, false, ◌⊎◌, inl, inr, refl, ap, sym, ◌∙◌, subst, arith}
use Rattle.std.specs.List.{list_any}
use Rattle.std.proofs.lemmas.List.{append_cancel_left}
use Rattle.sky_base.specs.declared.object.TaskId.{TaskId}
use Rattle.ciel_journal.specs.Entries.{Entry, journal_of, low}
use Rattle.ciel_journal.specs.History.{Event, Standing, done, lost, missed, saved, standing, start}
use Rattle.ciel_journal.specs.Job.{Task}
use Rattle.ciel_journal.specs.Turns.{Driven, FirstDue, IsReadyList, Ready, Rests, Turn, Undue, idle, tasks_of}
use Rattle.ciel_journal.proofs.Append.{journal_last}
use Rattle.ciel_journal.proofs.OneWorker.{not_rests}
use Rattle.ciel_journal.proofs.Picked.{picks_unique}
use Rattle.ciel_log_replay.specs.Next.{CanBeNext, IsClose, OnlyNext}
use Rattle.ciel_log_replay.proofs.Alone.{goes_on, only}
use Rattle.ciel_master_board.specs.Board.{Board, idle_of, task_key, wait_number}
use Rattle.ciel_master_board.specs.Driving.{CanRun, Picked, Quiet, RestsNow, Runs, RunsOn}
use Rattle.ciel_master_board.specs.Follows.{Follows}
use Rattle.ciel_master_board.specs.Moves.{lost_at, started}
use Rattle.ciel_master_board.specs.Setting.{IsSetting, Setting}
use Rattle.ciel_master_board.specs.Sound.{Sound}
use Rattle.ciel_master_board.proofs.DueEvents.{loss_runs, start_runs}
use Rattle.ciel_master_board.proofs.FollowsLemmas.{apart, informed, known, made, rises, traced}
use Rattle.ciel_master_board.proofs.SearchResults.{runnable_ready}
use Rattle.ciel_master_board.proofs.StartsByName.{idle_same}
use Rattle.ciel_table.specs.Seen.{last_wait}
use Rattle.ciel_want.specs.History.{task_id}

module _ {D P B : Type 0} (s : Setting D P B) (is : IsSetting s) (h : List (Event D)) (b : Board P) (sound : Sound s.digest s.at b)
    (runs : Runs s h b) where
  abbrev v : Standing D
  v = standing s.job h

  abbrev f : Follows s h b
  f = runs.follows

  abbrev Next : Entry → Type 0
  Next e = CanBeNext s.job b.plan b.journal e

  -- ---- a Start or a loss

  -- with which the state goes on
  next_only : (c : Board P) (e : Entry) → (IsClose e → ⊥) → c.plan ≡ b.plan → c.journal ≡ b.journal ++ e ∷ [] → RunsOn s h c
      → OnlyNext s.job b.plan b.journal e
  next_only c e none plan journal on =
      let both : journal_of s.job h ++ low s.job on.event ∷ [] ≡ journal_of s.job h ++ e ∷ [] =
      sym (journal_last s.job h on.event) ∙ (sym on.runs.follows.journal ∙ (journal ∙ ap (λ z. z ++ e ∷ []) f.journal)) in
      let one : low s.job on.event ∷ [] ≡ e ∷ [] =
      append_cancel_left (journal_of s.job h) (low s.job on.event ∷ []) (e ∷ []) both in
      let same : low s.job on.event ≡ e = cc in
      only s.job is.laws b.plan h runs.driven b.journal f.journal e none on.event
      (subst (λ q. Driven s.job q (h ++ on.event ∷ [])) plan on.runs.driven) same

  pub loss_only : b.stopped ≡ false → (w loss : ℕ) → FirstDue b.plan.losses b.closes b.table.gone loss w
      → OnlyNext s.job b.plan b.journal (Entry.Lost w b.closes)
  loss_only going w loss due =
      next_only (lost_at s.at w b) (Entry.Lost w b.closes) (λ x. x) refl refl (loss_runs s is h b sound runs going w loss due)

  pub start_only : b.stopped ≡ false → (x : TaskId) (w : ℕ) → Picked b x w
      → OnlyNext s.job b.plan b.journal (Entry.Start b.starts w (task_key x) (wait_number (last_wait x b.table)))
  start_only going x w p =
      next_only (started s.at b x w) (Entry.Start b.starts w (task_key x) (wait_number (last_wait x b.table))) (λ x. x) refl refl
      (start_runs s is h b sound runs going x w p)

  -- ---- closing a Start

  idle_are : idle_of b ≡ idle s.job b.plan v
  idle_are =
      idle_same s is v (informed s is h b sound f) (apart s is h b sound f) (made s is h b sound f) (traced s is h b sound f) (rises s is h b sound f) b sound f.stands
      (known s is h b sound f)

  undue : Quiet b → Undue s.job b.plan v
  undue q loss count w d =
      q loss count w (record {
        planned = d.planned;
        reached = subst (λ n. count ≤ n) (sym f.stands.closes) d.reached;
        here = subst (λ gs. list_any (nat_eq w) gs ≡ false) (sym f.stands.gone) d.here;
      })

  unique : (us ts : List (Task D)) → IsReadyList s.job v us → IsReadyList s.job v ts → us ≡ ts
  unique us ts x y = picks_unique (Ready s.job v) (tasks_of s.job v.book) us ts x y

  rests : RestsNow b → Rests s.job b.plan v
  rests r = (undue r.0, pick r.1)
    where
      pick : (CanRun b [] ⊎ (idle_of b ≡ [])) → IsReadyList s.job v [] ⊎ (idle s.job b.plan v ≡ [])
      pick (inr e) = inr (sym idle_are ∙ e)
      pick (inl c) =
          let k = runnable_ready s is h b sound f [] c in inl (subst (IsReadyList s.job v) (none k.0 k.2) k.1)
        where
          none : (us : List (Task D)) → [] ≡ map (task_id s.job) us → us ≡ []
          none [] e = refl
          none (u ∷ us) e = cc

  -- where nothing is due and nothing can be started
  pub rests_closes : RestsNow b → (e : Entry) → Next e → IsClose e
  rests_closes r e n =
      let g = goes_on s.job is.laws b.plan h runs.driven b.journal f.journal e n in
      subst IsClose g.entry (pick g.event g.turn)
    where
      pick : (x : Event D) → Turn s.job b.plan v x → IsClose (low s.job x)
      pick (lost w c) t = absurd ((rests r).0 t.0 t.1.count w t.1.due)
      pick (start k w z from) t = absurd (not_rests s.job is.laws b.plan v w z t (rests r))
      pick (done k m c d) t = tt
      pick (saved k j m r h d) t = tt
      pick (missed k d i) t = tt

  -- else none does
  closes_rest : (e : Entry) → Next e → IsClose e → Rests s.job b.plan v
  closes_rest e n c =
      let g = goes_on s.job is.laws b.plan h runs.driven b.journal f.journal e n in pick g.event g.turn (subst IsClose (sym g.entry) c)
    where
      pick : (x : Event D) → Turn s.job b.plan v x → IsClose (low s.job x) → Rests s.job b.plan v
      pick (lost w n) t i = absurd i
      pick (start k w z from) t i = absurd i
      pick (done k m c d) t i = t
      pick (saved k j m r h d) t i = t
      pick (missed k d l) t i = t

  pub due_closes_none : (loss w : ℕ) → FirstDue b.plan.losses b.closes b.table.gone loss w → (e : Entry) → Next e → IsClose e → ⊥
  due_closes_none loss w due e n c =
      (closes_rest e n c).0 loss due.count w (record {
        planned = due.due.planned;
        reached = subst (λ n. due.count ≤ n) f.stands.closes due.due.reached;
        here = subst (λ gs. list_any (nat_eq w) gs ≡ false) f.stands.gone due.due.here;
      })

  pub start_closes_none : (ts : List TaskId) → CanRun b ts → 0 < length ts → 0 < length (idle_of b) → (e : Entry) → Next e → IsClose e → ⊥
  start_closes_none ts can some idlers e n c = pick (closes_rest e n c).1
    where
      pick : (IsReadyList s.job v [] ⊎ (idle s.job b.plan v ≡ [])) → ⊥
      pick (inl r) =
          let k = runnable_ready s is h b sound f ts can in
          let none : ts ≡ [] = k.2 ∙ ap (map (task_id s.job)) (unique k.0 [] k.1 r) in
          let l : length ts ≡ 0 = ap length none in
          omega (arith, some, l)
      pick (inr r) =
          let l : length (idle_of b) ≡ 0 = ap length (idle_are ∙ r) in
          omega (arith, idlers, l)
