-- A report whose record tells a saved wait of the model, or that something was missing there.
use Rattle.std.proofs.Common.{◌≡◌, ℕ, List, [], ◌∷◌, ◌++◌, length, map, Some, None, refl, ap, sym, ◌∙◌, subst, false}
use Rattle.std.specs.BTreeMap.{BTreeMap}
use Rattle.sha1.specs.Sha1.{sha1}
use Rattle.sky_base.specs.KitView.{Gives}
use Rattle.sky_base.specs.Names.{known_of}
use Rattle.sky_base.specs.Needed as n
use Rattle.sky_base.specs.See as s
use Rattle.sky_base.specs.Val.{same_text}
use Rattle.sky_base.specs.declared.object.Named.{Named}
use Rattle.sky_base.specs.declared.object.Object.{Object}
use Rattle.sky_frozen_bytes.specs.Bytes.{frozen_bytes}
use Rattle.sky_frozen_bytes.specs.Spelled.{StandSpelled}
use Rattle.sky_state.specs.Pending.{held_in, pending_in}
use Rattle.sky_state.specs.Stand.{Stand}
use Rattle.ciel_journal.specs.Entries.{Entry, journal_of, low, low_names}
use Rattle.ciel_journal.specs.History.{Event, OpenStart, Standing, after, before_all, closed, find_open, learned as known_after, missed, saved, standing}
use Rattle.ciel_journal.specs.Job.{Digest, Each, In}
use Rattle.ciel_journal.specs.Lawful.{NoClash, SavedAllowed, Step}
use Rattle.ciel_journal.proofs.Append.{journal_last, lawful_append}
use Rattle.ciel_journal.proofs.Good.{after_missed, after_saved}
use Rattle.ciel_journal.proofs.Shelved.{learned_in}
use Rattle.ciel_journal.proofs.Unique.{names_determine, same_found}
use Rattle.ciel_journal_job.specs.Real.{back}
use Rattle.ciel_journal_job.specs.Report as report
use Rattle.ciel_json.specs.Around.{json_around}
use Rattle.ciel_log_fits.specs.Known.{AfterSeen}
use Rattle.ciel_log_follows.specs.Keeping.{KeepsObjects}
use Rattle.ciel_log_follows.proofs.Closes.{Closes, all_told, fewer, grown, next}
use Rattle.ciel_log_follows.proofs.Learned.{Learns, saved_learned}
use Rattle.ciel_log_follows.proofs.Objects.{keeps_on}
use Rattle.ciel_log_follows.proofs.Waits as waits
use Rattle.ciel_log_read.specs.declared.record.LoggedEnd.{LoggedEnd}
use Rattle.ciel_log_report.specs.Ends.{IsMissedOf, IsSavedOf}
use Rattle.ciel_master.proofs.MarkedLosses.{miss_fits}
use Rattle.ciel_master.specs.Fitting as fitting
use Rattle.ciel_master.specs.Marked.{IsCarriedOut}
use Rattle.ciel_master_board.specs.Board.{Board}
use Rattle.ciel_master_board.specs.Driving.{Runs}
use Rattle.ciel_master_board.specs.Follows.{Follows}
use Rattle.ciel_master_board.specs.Laws.{MissedAs, Taken}
use Rattle.ciel_master_board.specs.Moves.{missed_at}
use Rattle.ciel_master_board.specs.Reports as rep
use Rattle.ciel_master_board.specs.Reports.{IsNamed, named_view, report_view}
use Rattle.ciel_master_board.specs.Setting.{HasState, IsSetting, Setting}
use Rattle.ciel_master_board.specs.Sound as board
use Rattle.ciel_master_board.specs.Sound.{MissFits, Sound}
use Rattle.ciel_master_board.specs.TurnsLaws.{IsOut}
use Rattle.ciel_master_board.proofs.EventsFollowed.{saved_follows}
use Rattle.ciel_master_board.proofs.MissesFollowed.{missed_follows}
use Rattle.ciel_master_law.specs.Ends.{IsOrderly, worker_of}
use Rattle.ciel_master_law.proofs.ShopLaws.{shop_is}
use Rattle.ciel_master_safe.specs.Safe.{IsStackOf}
use Rattle.ciel_store.specs.Seen.{ShelvesSeen}
use Rattle.ciel_task_order.specs.Named.{state_by_names}
use Rattle.ciel_task_order.specs.Orders.{HasStack}
use Rattle.ciel_task_order.specs.Performs.{IsMissing, the_shop}
use Rattle.ciel_task_order.specs.Shop as shop
use Rattle.ciel_task_order.specs.Shop.{block_view}
use Rattle.ciel_task_order.specs.Views.{P, how_view, order_view, out_view, report_end}
use Rattle.ciel_task_order.specs.declared.block.Block.{Block}
use Rattle.ciel_task_order.specs.declared.block.Held.{Held}
use Rattle.ciel_task_order.specs.declared.order.Order.{Order}
use Rattle.ciel_task_order.specs.declared.report.End.{End}
use Rattle.ciel_task_order.specs.declared.report.Report.{Report}

-- what lies there is this stack
stack_there : (Q : Stand (List ℕ) → Type 0) (v : Block) → HasStack Q v → (a : Stand (List ℕ)) × (block_view v ≡ shop.Block.stack a) × Q a
stack_there Q (Block.Object o) h = absurd h
stack_there Q (Block.Frozen a) h = (a, refl, h)

module _ (digest : List ℕ → List ℕ) (job : s.Job) (gives : Gives) (orderly : IsOrderly digest job gives) (shelves : ShelvesSeen)
    (h : List (Event s.Desc)) (b : Board P) (sound : Sound digest worker_of b) (runs : Runs (the_shop digest job gives) h b)
    (going : b.stopped ≡ false) (order : Order) (out : IsOut (the_shop digest job gives) h b (order_view order))
    (kept : BTreeMap Digest Object) (keeps : KeepsObjects digest job gives h kept) (names : List Digest) (r : Report) where
  abbrev S : Setting s.Desc P shop.Block
  S = the_shop digest job gives

  is : IsSetting S
  is = shop_is digest job gives orderly

  abbrev f : Follows S h b
  f = runs.follows

  abbrev v : Standing s.Desc
  v = standing S.job h

  abbrev o : OpenStart s.Desc
  o = out.start

  abbrev ns : List Named
  ns = r.spawned.items

  abbrev hs : List Held
  hs = r.copied.items

  abbrev then : AfterSeen P
  then = record { table = b.table; spawned = ns }

  abbrev Next : rep.End P → Board P
  Next = next digest job gives h b order kept r

  -- ---- a saved wait

  module _ (named : Each (IsNamed digest) ns) (k j : ℕ) (mark : Digest) (refs holds spawned : List s.Desc)
      (step : Step S.job b.plan v (saved k j mark refs holds spawned)) (at : k ≡ order.number)
      (views : map named_view ns ≡ map S.lower spawned)
      (fit : (IsMissing r.end → ⊥) → board.Fits digest worker_of b (order_view order) ns (report_end r)) (a : n.State)
      (stands : n.StandsAt job (json_around gives) (back step.allowed.0.task) j a) (spelled : StandSpelled (state_by_names digest a)) where
    abbrev e : Event s.Desc
    e = saved k j mark refs holds spawned

    same : step.allowed.0 ≡ o
    same =
        same_found S.job is.laws v k step.allowed.0 o step.allowed.1 (subst (λ i. find_open S.job i v.orders ≡ Some o) (sym at) out.is_open)

    allowed : SavedAllowed S.job o j mark refs holds spawned
    allowed = subst (λ z. SavedAllowed S.job z j mark refs holds spawned) same step.allowed.2

    learns : Learns S is ns spawned v.book b.table
    learns = saved_learned S is h b sound f k j mark refs holds spawned step ns named views

    now : (after S.job v e).book ≡ known_after S.job v.book spawned
    now = ap (λ (u : Standing s.Desc). u.book) (after_saved S.job is.laws v k j mark refs holds spawned step.allowed.0 step.allowed.1)

    more : (d : s.Desc) → In d v.book → In d (standing S.job (h ++ e ∷ [])).book
    more = grown digest job gives h e (known_after S.job v.book spawned) now (λ d i. learned_in S.job is.laws v.book spawned d i)

    module _ (j2 : ℕ) (bytes : List ℕ) (x : IsSavedOf order shelves job.script then j2 bytes names hs r.end) (wait : j2 ≡ j)
        (stack : bytes ≡ frozen_bytes (state_by_names digest a)) where
      abbrev Lies : Stand (List ℕ) → Type 0
      Lies q = IsStackOf job.script order.task j2 x.refs x.holds q × (frozen_bytes q ≡ bytes) × StandSpelled q

      there : (q : Stand (List ℕ)) × (block_view x.place.at.value ≡ shop.Block.stack q) × Lies q
      there = stack_there Lies x.place.at.value x.saved.stack

      is_it : there.0 ≡ state_by_names digest a
      is_it =
          waits.stack_is digest job gives orderly h b sound f k j mark refs holds spawned step a stands there.0 there.2.2 spelled (there.2.1 ∙ stack)

      mark_is : sha1 bytes ≡ mark
      mark_is = ap sha1 stack ∙ sym (waits.mark_is digest job gives orderly h b sound f k j mark refs holds spawned step a stands)

      refs_are : x.refs ≡ low_names S.job refs
      refs_are =
          waits.refs_are digest job gives orderly h b sound f k j mark refs holds spawned step a stands x.refs
          (subst (λ q. known_of x.refs ≡ pending_in same_text q) is_it there.2.0.3)

      holds_are : x.holds ≡ low_names S.job holds
      holds_are =
          waits.holds_are digest job gives orderly h b sound f k j mark refs holds spawned step a stands x.holds
          (subst (λ q. known_of x.holds ≡ held_in same_text q) is_it there.2.0.4)

      lies : HasState S x.place o.task j
      lies =
          subst (λ (z : OpenStart s.Desc). HasState S x.place z.task j) same
          (waits.has_state digest job gives orderly h b sound f k j mark refs holds spawned step a stands x.place
          (there.1 ∙ ap shop.Block.stack is_it))

      abbrev q : rep.Stack P
      q = record { place = x.place; j = j; mark = mark; refs = x.refs; holds = x.holds }

      end_is : report_end r ≡ rep.saved q
      end_is =
          ap (how_view hs) x.is
          ∙ (ap (λ i. rep.saved (record { place = x.place; j = i; mark = sha1 bytes; refs = x.refs; holds = x.holds })) wait
          ∙ ap (λ m. rep.saved (record { place = x.place; j = j; mark = m; refs = x.refs; holds = x.holds })) mark_is)

      says : report.Says S.job S.inner S.lower o (report_view order.number ns (rep.saved q))
      says =
          report.at_wait j refs spawned allowed.next allowed.spawns
          (subst (report.Tells S.job S.inner S.lower (report.Met S.job S.inner S.lower o) spawned) (sym views)
          (all_told digest job gives (report.Met S.job S.inner S.lower o) spawned))
          (λ c. (refl, (record { names = holds; mark = mark }, allowed.frozen, refl, holds_are), refs_are))

      saved_is : Follows S (h ++ e ∷ []) (Next (report_end r))
      saved_is =
          let fits = subst (board.Fits digest worker_of b (order_view order) ns) end_is (fit (λ i. subst IsMissing x.is i)) in
          let taken : Taken S h b (order_view order) o order.number ns (rep.saved q) =
          record { is_out = out.found; is_open = out.is_open; fits = fits; says = says } in
          subst (λ z. Follows S (h ++ e ∷ []) (Next z)) (sym end_is)
          (subst (λ i. Follows S (h ++ saved i j mark refs holds spawned ∷ []) (Next (rep.saved q))) (sym at)
          (saved_follows S is h b sound f (order_view order) o order.number ns (rep.saved q) taken learns.all q refl refs holds spawned (sym refs_are)
          (sym holds_are) allowed (subst (NoClash S.job) now step.apart) learns.rows lies (fits.learned learns.all).end.here going))

      pub saved_closes : Closes digest job gives h b order kept r e (LoggedEnd.Saved j2 bytes)
      saved_closes =
          record {
            follows = saved_is;
            learned = λ none. learns.all;
            keeping = λ m i. subst (KeepsObjects digest job gives (h ++ e ∷ [])) (sym i)
                (keeps_on digest job gives h (h ++ e ∷ []) kept more keeps);
            opens = fewer digest job gives h e k (ap (λ (u : Standing s.Desc). u.orders)
                (after_saved S.job is.laws v k j mark refs holds spawned step.allowed.0 step.allowed.1));
            shows = λ shown i. let bad : End.Saved x.place j2 x.refs x.holds (sha1 bytes) ≡ End.Shown shown = sym x.is ∙ i in cc;
          }

  -- ---- something that was missing

  module _ (k : ℕ) (d : s.Desc) (loss : ℕ) (step : Step S.job b.plan v (missed k d loss)) (at : k ≡ order.number)
      (fit : fitting.IsMissedOf digest b (order_view order) r.end) (name : Digest) (number : ℕ)
      (x : IsMissedOf order digest b (length ns) name number names hs r.end) (name_is : name ≡ S.job.name d) (loss_is : number ≡ loss) where
    abbrev e_missed : Event s.Desc
    e_missed = missed k d loss

    missed_end : report_end r ≡ rep.missing name x.loss.number
    missed_end = ap (how_view hs) x.is

    carried : IsCarriedOut b r.end
    carried = subst (IsCarriedOut b) (sym x.is) (λ i. absurd i)

    got : MissedAs S h b (out_view order) name x.loss.number
    got =
        missed_follows S is h b sound f (order_view order) o order.number out.found out.is_open out.order going name x.loss.number
        (subst (MissFits digest worker_of b (order_view order)) missed_end (miss_fits digest b (order_view order) hs r.end carried fit))

    -- it is this event
    entries : low S.job (missed order.number got.what x.loss.number) ≡ low S.job e_missed
    entries =
        ap (λ i. Entry.Missed i (S.job.name got.what) x.loss.number) (sym at)
        ∙ (ap (λ i. Entry.Missed k i x.loss.number) (got.is ∙ name_is) ∙ ap (Entry.Missed k (S.job.name d)) (x.is_loss ∙ loss_is))

    events : h ++ missed order.number got.what x.loss.number ∷ [] ≡ h ++ e_missed ∷ []
    events =
        names_determine S.job is.laws b.plan b.plan (h ++ missed order.number got.what x.loss.number ∷ []) (h ++ e_missed ∷ []) got.follows.lawful
        (lawful_append S.job b.plan (before_all S.job) h e_missed f.lawful step)
        (journal_last S.job h (missed order.number got.what x.loss.number)
        ∙ (ap (λ i. journal_of S.job h ++ i ∷ []) entries ∙ sym (journal_last S.job h e_missed)))

    gone : after S.job v e_missed ≡ closed S.job v k
    gone = after_missed S.job is.laws v k d loss step.allowed.0 step.allowed.1

    pub missed_closes : Closes digest job gives h b order kept r e_missed (LoggedEnd.Missing name number)
    missed_closes =
        record {
          follows = subst (λ i. Follows S (h ++ e_missed ∷ []) (Next i)) (sym missed_end)
              (subst (λ g. Follows S g (missed_at digest b (out_view order) name x.loss.number)) events got.follows);
          learned = λ none. absurd (none (subst IsMissing (sym x.is) tt));
          keeping = λ m i. subst (KeepsObjects digest job gives (h ++ e_missed ∷ [])) (sym i)
              (keeps_on digest job gives h (h ++ e_missed ∷ []) kept
              (grown digest job gives h e_missed v.book (ap (λ (u : Standing s.Desc). u.book) gone) (λ c w. w)) keeps);
          opens = fewer digest job gives h e_missed k (ap (λ (u : Standing s.Desc). u.orders) gone);
          shows = λ shown i. let bad : End.Missing name x.loss None ≡ End.Shown shown = sym x.is ∙ i in cc;
        }
