-- What an event of the job copied: the order gives each a place elsewhere, and no name stands twice.
use Rattle.std.proofs.Common.{◌≡◌, ◌≤◌, ◌<◌, ℕ, List, [], ◌∷◌, true, false, Some, ◌⊎◌, inl, inr, arith}
use Rattle.std.proofs.Common.{refl, sym, ◌∙◌, subst}
use Rattle.std.specs.List.{AllByRecursion, IsDistinct}
use Rattle.sky_base.specs.KitView.{Gives}
use Rattle.sky_base.specs.See as s
use Rattle.sky_base.specs.Val.{same_text}
use Rattle.sky_base.proofs.Exact.{exact_text}
use Rattle.ciel_journal.specs.Entries.{low_names}
use Rattle.ciel_journal.specs.History.{Event, OpenStart, find_open, standing}
use Rattle.ciel_journal.specs.Job.{Digest, Each, In, IsJob, Job, Needed}
use Rattle.ciel_journal.specs.Lawful.{Copied, DoneAllowed, Given, HeldAt}
use Rattle.ciel_journal.proofs.Members.{bool_cases, each_of}
use Rattle.ciel_journal.proofs.Numbers.{found_in}
use Rattle.ciel_journal.proofs.Published.{book_apart}
use Rattle.ciel_journal.proofs.Shelved.{Shelved, fetched_in}
use Rattle.ciel_journal.proofs.Traced.{traced}
use Rattle.ciel_master_board.specs.Board.{Board}
use Rattle.ciel_master_board.specs.Driving.{Runs}
use Rattle.ciel_master_board.specs.Follows.{OrderIs}
use Rattle.ciel_master_law.specs.Ends.{IsOrderly}
use Rattle.ciel_task_order.specs.Views.{P, order_view}
use Rattle.ciel_task_order.specs.declared.order.Order.{Order}
use Rattle.ciel_log_fits.specs.Given.{IsElsewhere}
use Rattle.ciel_log_model.proofs.Books.{J, S, is}
use Rattle.ciel_log_model.proofs.Given.{fetched_elsewhere, had_made}
use Rattle.ciel_log_model.proofs.Had.{MadeAt}
use Rattle.ciel_log_model.proofs.Waits.{waited_held}

-- distinct descriptions of distinct names have distinct names
module _ {D : Type 0} (job : Job D) (laws : IsJob job) where
  other_names : (d : D) (ds : List D) → ((e : D) → In e ds → job.name d ≡ job.name e → d ≡ e) → AllByRecursion (λ e. job.same d e ≡ false) ds
      → AllByRecursion (λ n. same_text (job.name d) n ≡ false) (low_names job ds)
  other_names d [] apart h = tt
  other_names d (e ∷ es) apart h = (one (bool_cases (same_text (job.name d) (job.name e))), other_names d es (λ x i. apart x (inr i)) h.1)
    where
      one : ((same_text (job.name d) (job.name e) ≡ true) ⊎ (same_text (job.name d) (job.name e) ≡ false)) → same_text (job.name d) (job.name e) ≡ false
      one (inr f) = f
      one (inl t) =
          let same = apart e (inl refl) (exact_text (job.name d) (job.name e) t) in
          let bad : true ≡ false = sym (subst (λ z. job.same d z ≡ true) same (laws.same_refl d)) ∙ h.0 in
          absurd cc

  pub names_distinct : (ds : List D) → IsDistinct job.same ds → ((a b : D) → In a ds → In b ds → job.name a ≡ job.name b → a ≡ b)
      → IsDistinct same_text (low_names job ds)
  unfolding IsDistinct
  names_distinct [] k apart = tt
  names_distinct (d ∷ ds) k apart =
      (other_names d ds (λ e i. apart d e (inl refl) (inr i)) k.0, names_distinct ds k.1 (λ a c i j. apart a c (inr i) (inr j)))

module _ (digest : List ℕ → List ℕ) (job : s.Job) (gives : Gives) (orderly : IsOrderly digest job gives) (h : List (Event s.Desc)) (b : Board P)
    (runs : Runs (S digest job gives orderly) h b) (order : Order) (o : OpenStart s.Desc)
    (found : find_open (J digest job gives orderly) order.number (standing (J digest job gives orderly) h).orders ≡ Some o)
    (order_is : OrderIs (S digest job gives orderly) o (order_view order)) (need : Needed (J digest job gives orderly) o.task)
    (made : List (s.Desc × Digest)) (copied spawned : List s.Desc)
    (ok : DoneAllowed (J digest job gives orderly) o made copied spawned) where
  abbrev the : Job s.Desc
  the = J digest job gives orderly

  abbrev laws : IsJob the
  laws = (is digest job gives orderly).laws

  -- what was copied was held at the order's wait
  copied_held : (d : s.Desc) → Copied the o d → HeldAt the o.task o.from d
  copied_held d ((j, ds, l, w, i), f) = pick (cases o.from j l)
    where
      cases : (a c : ℕ) → a ≤ c → (a ≡ c) ⊎ (a < c)
      cases a c k = grind (arith, k)

      pick : ((o.from ≡ j) ⊎ (o.from < j)) → HeldAt the o.task o.from d
      pick (inl same) = subst (λ k. HeldAt the o.task k d) (sym same) (waited_held digest job gives o.task need j ds d w i)
      pick (inr less) = (each_of (Given the o) d ds i (ok.next.met j ds less w)).0

  each_elsewhere : (ds : List s.Desc) → Each (Copied the o) ds → Each (IsElsewhere order) (low_names the ds)
  each_elsewhere [] k = tt
  each_elsewhere (d ∷ ds) k =
      (fetched_elsewhere digest job gives orderly h b runs order o found order_is d (copied_held d k.0) k.0.1.0 k.0.1.1, each_elsewhere ds k.1)

  pub copies_elsewhere : Each (IsElsewhere order) (low_names the copied)
  copies_elsewhere = each_elsewhere copied ok.fetched

  shelved : Shelved the laws (standing the h)
  shelved = (traced the laws b.plan h runs.follows.lawful).shelved

  pub copied_booked : (d : s.Desc) → In d copied → In d (standing the h).book
  copied_booked d i =
      let c = each_of (Copied the o) d copied i ok.fetched in
      fetched_in the laws (standing the h) shelved o (found_in the laws order.number (standing the h).orders o found).0 d c.1.0 c.1.1

  pub copies_distinct : IsDistinct same_text (low_names the copied)
  copies_distinct =
      names_distinct the laws copied ok.distinct (λ a c i j e.
      book_apart the laws b.plan h runs.follows.lawful a c (copied_booked a i) (copied_booked c j) e)

  -- each was made by a task that came to its end before
  pub copies_made : (d : s.Desc) → In d copied → MadeAt the laws h d
  copies_made d i =
      let c = each_of (Copied the o) d copied i ok.fetched in had_made digest job gives orderly h b runs order o found order_is d c.1.0 c.1.1
