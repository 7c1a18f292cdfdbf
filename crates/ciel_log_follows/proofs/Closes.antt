-- What a report makes of a run where its record tells the run's next event.
use Rattle.std.proofs.Common.{◌≡◌, ℕ, nat_eq, not, List, [], ◌∷◌, ◌++◌, map, refl, ap, sym, ◌∙◌, subst}
use Rattle.std.specs.BTreeMap.{BTreeMap}
use Rattle.sky_base.specs.KitView.{Gives}
use Rattle.sky_base.specs.ObjectView.{desc_view}
use Rattle.sky_base.specs.See as s
use Rattle.sky_base.specs.Val.{Desc}
use Rattle.sky_base.specs.declared.object.Named.{Named}
use Rattle.sky_base.specs.declared.object.Object.{Object}
use Rattle.sky_machine_show.specs.Shows.{shown_view}
use Rattle.sky_state.specs.declared.shown.Shown.{Shown}
use Rattle.ciel_journal.specs.History.{Event, OpenStart, Standing, after, before_all, closed, standing}
use Rattle.ciel_journal.specs.Job.{Digest, In}
use Rattle.ciel_journal.specs.Laws.{ShowDone}
use Rattle.ciel_journal.proofs.Append.{after_append}
use Rattle.ciel_journal.proofs.Numbers.{in_filter}
use Rattle.ciel_journal_job.specs.Report as report
use Rattle.ciel_json.specs.Around.{json_around}
use Rattle.ciel_log_fits.specs.Named.{desc_of}
use Rattle.ciel_log_follows.specs.Keeping.{KeepsObjects}
use Rattle.ciel_log_read.specs.declared.record.LoggedEnd.{LoggedEnd}
use Rattle.ciel_log_report.specs.Comes.{KeepsOutputs}
use Rattle.ciel_master_board.specs.Board.{Board}
use Rattle.ciel_master_board.specs.Follows.{Follows}
use Rattle.ciel_master_board.specs.Moves.{accepted}
use Rattle.ciel_master_board.specs.Reports as rep
use Rattle.ciel_master_board.specs.Reports.{AllLearned, named_view}
use Rattle.ciel_master_board.specs.Setting.{Setting}
use Rattle.ciel_master_law.specs.Ends.{worker_of}
use Rattle.ciel_task_order.specs.Performs.{IsMissing, the_shop}
use Rattle.ciel_task_order.specs.Shop.{Block}
use Rattle.ciel_task_order.specs.Views.{P, out_view, report_end}
use Rattle.ciel_task_order.specs.declared.order.Order.{Order}
use Rattle.ciel_task_order.specs.declared.report.End.{End}
use Rattle.ciel_task_order.specs.declared.report.Report.{Report}

-- descriptions by their names, and the same without
pub views_of : (ns : List Named) (ds : List (Desc (List ℕ))) → map desc_view (map desc_of ns) ≡ ds → map named_view ns ≡ ds
views_of ns ds e = go ns ∙ e
  where
    go : (ms : List Named) → map named_view ms ≡ map desc_view (map desc_of ms)
    go [] = refl
    go (m ∷ ms) = ap (λ z. named_view m ∷ z) (go ms)

module _ (digest : List ℕ → List ℕ) (job : s.Job) (gives : Gives) where
  abbrev S : Setting s.Desc P Block
  S = the_shop digest job gives

  -- ---- what was spawned is told whole

  pub all_told : (met : s.Desc → Type 0) (ds : List s.Desc) → report.Tells S.job S.inner S.lower met ds (map S.lower ds)
  all_told met [] = refl
  all_told met (d ∷ ds) = (map S.lower ds, refl, λ clear. all_told (report.Or S.job S.inner S.lower met d) ds)

  module _ (h : List (Event s.Desc)) where
    abbrev v : Standing s.Desc
    v = standing S.job h

    -- ---- what an event changes

    -- an order that is closed
    pub fewer : (e : Event s.Desc) (k : ℕ) → (after S.job v e).orders ≡ (closed S.job v k).orders → (q : OpenStart s.Desc)
        → In q (standing S.job (h ++ e ∷ [])).orders → In q v.orders
    fewer e k same q i =
        in_filter (λ (z : OpenStart s.Desc). not (nat_eq k z.number)) q v.orders
        (subst (In q) same (subst (λ (u : Standing s.Desc). In q u.orders) (after_append S.job (before_all S.job) h e) i))

    -- a book that has more
    pub grown : (e : Event s.Desc) (book : List s.Desc) → (after S.job v e).book ≡ book → ((d : s.Desc) → In d v.book → In d book) → (d : s.Desc)
        → In d v.book → In d (standing S.job (h ++ e ∷ [])).book
    grown e book same g d i =
        subst (λ (u : Standing s.Desc). In d u.book) (sym (after_append S.job (before_all S.job) h e)) (subst (In d) (sym same) (g d i))

    module _ (b : Board P) (order : Order) (kept : BTreeMap Digest Object) (r : Report) where
      -- the state once the report was taken
      abbrev pub next : rep.End P → Board P
      next e = accepted digest worker_of b (out_view order) r.spawned.items e

      -- It follows the event, what was spawned is learned, what is kept then is the model's, and the order is closed. What the root task shows
      -- is the job's answer
      pub record Closes (e : Event s.Desc) (end : LoggedEnd) : Type 0 where
        pub follows : Follows S (h ++ e ∷ []) (next (report_end r))
        pub learned : (IsMissing r.end → ⊥) → AllLearned digest r.spawned.items b.table
        pub keeping : (more : BTreeMap Digest Object) → KeepsOutputs digest order end kept more
            → KeepsObjects digest job gives (h ++ e ∷ []) more
        pub opens : (q : OpenStart s.Desc) → In q (standing S.job (h ++ e ∷ [])).orders → In q v.orders
        pub shows : (shown : Shown) → r.end ≡ End.Shown shown → s.Means job (json_around gives) (shown_view shown)
            × ShowDone S.job (h ++ e ∷ [])
