-- A table that holds what stands after a lawful history is that of the history.
use Rattle.std.proofs.Common.{◌≡◌, ℕ, List, [], ◌∷◌, Option, Some, None, ◌⊎◌, inl, inr, refl, sym, subst}
use Rattle.sky_base.specs.declared.object.TaskId.{TaskId}
use Rattle.ciel_journal.specs.History.{Event, Plan, standing}
use Rattle.ciel_journal.specs.Job.{In, IsJob, Job, Once, Task, of, show}
use Rattle.ciel_journal.specs.Known.{HeadsFirst, Inner, Knows}
use Rattle.ciel_journal.specs.Lawful.{Lawful}
use Rattle.ciel_journal.specs.Live.{spawned_of}
use Rattle.ciel_journal.proofs.OnceLaw.{once_learned}
use Rattle.ciel_journal.proofs.Published.{book_apart}
use Rattle.ciel_journal.proofs.Startable.{informed, reached_needs}
use Rattle.ciel_journal.proofs.Told.{book_told}
use Rattle.ciel_table.specs.Seen.{TableSeen}
use Rattle.ciel_want.specs.History.{Agree, Holds, IsHistory, Listed, own, own_if}
use Rattle.ciel_want.proofs.HistoryAgreement.{history_agrees}

module _ {D : Type 0} (job : Job D) where
  own_first : (past : List D) (d : D) → ((e : D) → job.task_of d ≡ Some (of e) → In e (d ∷ past)) → (own job d ≡ d) ⊎ In (own job d) past
  own_first past d h = pick (job.task_of d) refl
    where
      which : (e : D) → In e (d ∷ past) → (e ≡ d) ⊎ In e past
      which e (inl s) = inl s
      which e (inr i) = inr i

      pick : (o : Option (Task D)) → job.task_of d ≡ o → (own_if job d o ≡ d) ⊎ In (own_if job d o) past
      pick None e = inl refl
      pick (Some show) e = inl refl
      pick (Some (of x)) e = which x (h x e)

  listed : (past ds : List D) → Once past ds → HeadsFirst job past ds → Listed job past ds
  listed past [] o h = tt
  listed past (d ∷ ds) o h = (o.0, own_first past d h.0, listed (d ∷ past) ds o.1 h.1)

module _ {D : Type 0} (job : Job D) (laws : IsJob job) (p : Plan) (h : List (Event D)) (l : Lawful job p h) where
  once_book : Once [] (standing job h).book
  once_book =
      subst (Once []) (sym (book_told job laws p h l)) (once_learned job laws (job.main ∷ []) (spawned_of h) (λ i. i, tt))

module _ {D P : Type 0} (job : Job D) (laws : IsJob job) (inner : Inner D) (knows : Knows job inner) (p : Plan) (h : List (Event D))
    (l : Lawful job p h) where
  is_history : (main : List ℕ) (t : TableSeen P) (out : List TaskId) → Holds job (standing job h) main t out
      → IsHistory job (standing job h) main t out
  is_history main t out k =
      record {
        rows = k.rows;
        apart = book_apart job laws p h l;
        listed = listed job [] (standing job h).book (once_book job laws p h l) (informed job laws inner knows p h l).heads;
        known = λ u r. reached_needs job laws inner knows p h l u r;
        lives = k.lives;
        waits = k.waits;
        outs = k.outs;
      }

  pub lawful_agrees : (main : List ℕ) (t : TableSeen P) (out : List TaskId) → Holds job (standing job h) main t out
      → Agree job (standing job h) main t out
  lawful_agrees main t out k = history_agrees job laws (standing job h) main t out (is_history main t out k)
