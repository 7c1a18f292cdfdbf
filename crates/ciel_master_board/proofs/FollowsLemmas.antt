-- A state that follows a history, and a start.
use Rattle.std.proofs.Common.{◌≡◌, ℕ, List, [], ◌∷◌, ◌++◌, false, inl, inr, refl, ap, sym, ◌∙◌, subst}
use Rattle.sky_base.specs.declared.object.TaskId.{TaskId}
use Rattle.ciel_journal.specs.Entries.{Entry, low}
use Rattle.ciel_journal.specs.Graph.{Runnable}
use Rattle.ciel_journal.specs.History.{Event, Save, after, before_all, needs as needs_after, standing, start}
use Rattle.ciel_journal.specs.Job.{Each, In, Task}
use Rattle.ciel_journal.specs.Lawful.{Lawful, NoClash, Step}
use Rattle.ciel_journal.specs.Turns.{Reached}
use Rattle.ciel_journal.proofs.Append.{after_append, journal_last, lawful_append}
use Rattle.ciel_journal.proofs.BookKnown.{Informed}
use Rattle.ciel_journal.proofs.Published.{book_apart}
use Rattle.ciel_journal.proofs.SavesRise.{EachRises, rising}
use Rattle.ciel_journal.proofs.Startable as startable
use Rattle.ciel_journal.proofs.Traced as t
use Rattle.ciel_table.specs.Seen.{last_wait}
use Rattle.ciel_want.specs.History.{Agree, Holds, task_id}
use Rattle.ciel_want.proofs.HistoryTables.{lawful_agrees}
use Rattle.ciel_master_board.specs.Board.{Board, board_graph, idle_of, tasks_out, wait_number}
use Rattle.ciel_master_board.specs.Follows.{Follows, StandsFor}
use Rattle.ciel_master_board.specs.Laws.{StartedAs}
use Rattle.ciel_master_board.specs.Moves.{started}
use Rattle.ciel_master_board.specs.Setting.{IsMade, IsSetting, Setting}
use Rattle.ciel_master_board.specs.Sound.{Sound}
use Rattle.ciel_master_board.proofs.TableContents as holding
use Rattle.ciel_master_board.proofs.StartsByName.{key_is, start_order, start_stands, start_step}

module _ {D P B : Type 0} (s : Setting D P B) (is : IsSetting s) (h : List (Event D)) (b : Board P) (sound : Sound s.digest s.at b)
    (f : Follows s h b) where
  pub informed : Informed s.job is.laws s.inner is.knows (standing s.job h)
  informed = startable.informed s.job is.laws s.inner is.knows b.plan h f.lawful

  pub apart : NoClash s.job (standing s.job h).book
  apart = book_apart s.job is.laws b.plan h f.lawful

  pub made : (d : D) → In d (standing s.job h).book → IsMade s d
  made d i = pick ((t.traced s.job is.laws b.plan h f.lawful).book d i)
    where
      pick : t.Made s.job is.laws d → IsMade s d
      pick (inl e) = inl e
      pick (inr m) = inr m

  pub traced : (q : Save D) → In q (standing s.job h).saves → t.SaveTraced s.job is.laws (standing s.job h).book q
  traced q i = (t.traced s.job is.laws b.plan h f.lawful).saves q i

  pub rises : EachRises (standing s.job h).saves
  rises = (rising s.job is.laws b.plan h f.lawful).saves

  pub known : (u : Task D) → Reached s.job (standing s.job h) u → Each (λ d. In d (standing s.job h).book) (needs_after s.job (standing s.job h) u)
  known u r = startable.reached_needs s.job is.laws s.inner is.knows b.plan h f.lawful u r

  pub table_holds : Holds s.job (standing s.job h) b.main b.table (tasks_out b.orders)
  table_holds = holding.table_holds s is (standing s.job h) informed apart made b sound f.stands rises known

  pub agrees : Agree s.job (standing s.job h) b.main b.table (tasks_out b.orders)
  agrees =
      lawful_agrees s.job is.laws s.inner is.knows b.plan h f.lawful b.main b.table (tasks_out b.orders) table_holds

  -- a lawful event after which that stands
  pub goes_on : (e : Event D) (c : Board P) → c.plan ≡ b.plan → c.journal ≡ b.journal ++ low s.job e ∷ []
      → Step s.job b.plan (standing s.job h) e → StandsFor s (after s.job (standing s.job h) e) c → Follows s (h ++ e ∷ []) c
  goes_on e c plan journal step stands =
      record {
        lawful = subst (λ p. Lawful s.job p (h ++ e ∷ [])) (sym plan) (lawful_append s.job b.plan (before_all s.job) h e f.lawful step);
        journal = journal ∙ (ap (λ es. es ++ low s.job e ∷ []) f.journal ∙ sym (journal_last s.job h e));
        stands = subst (λ u. StandsFor s u c) (sym (after_append s.job (before_all s.job) h e)) stands;
      }

  pub start_follows : b.stopped ≡ false → (x : TaskId) (w : ℕ) → Runnable (board_graph b) x → In w (idle_of b) → StartedAs s h b x w
  start_follows going x w r i = pick (agrees.only x r.reached)
    where
      pick : ((u : Task D) × (task_id s.job u ≡ x) × Reached s.job (standing s.job h) u) → StartedAs s h b x w
      pick q =
          subst (λ y. StartedAs s h b y w) q.1 (record {
            task = q.0;
            is = refl;
            reached = q.2;
            order = start_order s is (standing s.job h) informed apart made traced rises b sound f.stands known q.0 q.2 w;
            follows = goes_on (start b.starts w q.0 (wait_number (last_wait (task_id s.job q.0) b.table))) (started s.at b (task_id s.job q.0) w)
                refl (ap (λ k. b.journal ++ Entry.Start b.starts w k (wait_number (last_wait (task_id s.job q.0) b.table)) ∷ [])
                (key_is s.job q.0)) (start_step s is (standing s.job h) informed apart made traced rises b sound f.stands known q.0 q.2
                (subst (Runnable (board_graph b)) (sym q.1) r) w i going)
                (start_stands s is (standing s.job h) informed apart made traced rises b sound f.stands known q.0 q.2 w);
          })
