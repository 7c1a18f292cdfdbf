-- A report whose record tells the end of a task in the model.
use Rattle.std.proofs.Common.{◌≡◌, ℕ, List, [], ◌∷◌, ◌++◌, length, map, Some, refl, ap, sym, ◌∙◌, subst, false}
use Rattle.std.proofs.lemmas.List.{length-map}
use Rattle.std.specs.BTreeMap.{BTreeMap}
use Rattle.sha1.specs.Sha1.{sha1}
use Rattle.sky_base.specs.KitView.{Gives}
use Rattle.sky_base.specs.ObjectView.{object_view}
use Rattle.sky_base.specs.Res as res
use Rattle.sky_base.specs.See as s
use Rattle.sky_base.specs.declared.fault.Fault.{Fault}
use Rattle.sky_base.specs.declared.object.Named.{Named}
use Rattle.sky_base.specs.declared.object.Object.{Object}
use Rattle.sky_machine_show.specs.Shows.{shown_view}
use Rattle.sky_state.specs.declared.shown.Shown.{Shown}
use Rattle.ciel_journal.specs.Entries.{low_made, low_names}
use Rattle.ciel_journal.specs.History.{Event, OpenStart, Standing, after, done, find_open, learned as known_after, names_of, standing}
use Rattle.ciel_journal.specs.Job.{Digest, Each, In, Task, of, show}
use Rattle.ciel_journal.specs.Laws.{ShowDone}
use Rattle.ciel_journal.specs.Lawful.{DoneAllowed, NoClash, Step}
use Rattle.ciel_journal.proofs.Good.{after_done}
use Rattle.ciel_journal.proofs.Shelved.{learned_in}
use Rattle.ciel_journal.proofs.Unique.{same_found}
use Rattle.ciel_journal_job.specs.Report as report
use Rattle.ciel_json.specs.Around.{json_around}
use Rattle.ciel_log.specs.Logs.{IsDone, IsObjectOf, IsShown}
use Rattle.ciel_log_fits.specs.Known.{AfterSeen}
use Rattle.ciel_log_follows.specs.Keeping.{KeepsObjects}
use Rattle.ciel_log_follows.proofs.Closes.{Closes, all_told, fewer, grown, next}
use Rattle.ciel_log_follows.proofs.Learned.{Learns, done_learned}
use Rattle.ciel_log_follows.proofs.Objects.{keeps_more, keeps_on}
use Rattle.ciel_log_follows.proofs.Told.{booked, copied_names, copies_lie, keys_are, marked_names, names_are, outputs_lie}
use Rattle.ciel_log_read.specs.View.{end_view}
use Rattle.ciel_log_read.specs.declared.record.LoggedEnd.{LoggedEnd}
use Rattle.ciel_log_records.specs.Records.{HowEnded}
use Rattle.ciel_log_report.specs.Comes.{KeepsOutputs}
use Rattle.ciel_log_report.specs.Ends.{CopiedSo, IsEndOf, IsMadeOf, IsShownOf}
use Rattle.ciel_master_board.specs.Board.{Board}
use Rattle.ciel_master_board.specs.Driving.{Runs}
use Rattle.ciel_master_board.specs.Follows.{Follows, OneByOne}
use Rattle.ciel_master_board.specs.Laws.{CopyLies, OutputLies, Taken}
use Rattle.ciel_master_board.specs.Reports as rep
use Rattle.ciel_master_board.specs.Reports.{IsNamed, copy_names, made_keys, named_view, report_view}
use Rattle.ciel_master_board.specs.Setting.{IsSetting, Setting}
use Rattle.ciel_master_board.specs.Sound as board
use Rattle.ciel_master_board.specs.Sound.{Sound}
use Rattle.ciel_master_board.specs.TurnsLaws.{IsOut}
use Rattle.ciel_master_board.proofs.EventsFollowed.{done_follows}
use Rattle.ciel_master_board.proofs.FollowsLemmas.{apart}
use Rattle.ciel_master_board.proofs.Pairs.{long}
use Rattle.ciel_master_law.specs.Ends.{IsOrderly, worker_of}
use Rattle.ciel_master_law.proofs.ShopLaws.{shop_is}
use Rattle.ciel_name.specs.Object.{object_bytes}
use Rattle.ciel_store.specs.Seen.{ShelvesSeen}
use Rattle.ciel_task_order.specs.Performs.{IsMissing, the_shop}
use Rattle.ciel_task_order.specs.Shop as shop
use Rattle.ciel_task_order.specs.Shop.{block_view}
use Rattle.ciel_task_order.specs.Views.{P, copies_view, how_view, order_view, output_view, report_end}
use Rattle.ciel_task_order.specs.declared.block.Held.{Held}
use Rattle.ciel_task_order.specs.declared.order.Order.{Order}
use Rattle.ciel_task_order.specs.declared.report.End.{End}
use Rattle.ciel_task_order.specs.declared.report.Made.{Made}
use Rattle.ciel_task_order.specs.declared.report.Report.{Report}

-- ---- what a record's end says of the task

module _ (digest : List ℕ → List ℕ) (job : s.Job) (gives : Gives) where
  abbrev Done : Task s.Desc → List s.Desc → HowEnded → Type 0
  Done = IsDone digest job gives

  -- with objects these are the outputs'
  made_objects : (t : Task s.Desc) (ds : List s.Desc) (how : HowEnded) (os : List (res.Object (List ℕ))) → HowEnded.made os ≡ how → Done t ds how
      → OneByOne (IsObjectOf digest job gives) ds os
  made_objects show ds how os e d = absurd (subst (IsShown digest job gives) (sym e) d)
  made_objects (of x) ds how os e d =
      let both : HowEnded.made d.0 ≡ HowEnded.made os = sym d.2 ∙ sym e in
      let same : d.0 ≡ os = cc in subst (OneByOne (IsObjectOf digest job gives) ds) same d.1

  -- with an answer or a fault it is the root task, and the job means that
  answered : (t : Task s.Desc) (ds : List s.Desc) (how : HowEnded) (bytes : List ℕ) → HowEnded.answered bytes ≡ how → Done t ds how
      → (t ≡ show) × s.Means job (json_around gives) (s.Answered.bytes bytes)
  answered show ds how bytes e d = (refl, subst (IsShown digest job gives) (sym e) d)
  answered (of x) ds how bytes e d = let bad : HowEnded.answered bytes ≡ HowEnded.made d.0 = e ∙ d.2 in cc

  failed : (t : Task s.Desc) (ds : List s.Desc) (how : HowEnded) (fault : Fault) → HowEnded.failed fault ≡ how → Done t ds how
      → (t ≡ show) × s.Means job (json_around gives) (s.Answered.fault fault)
  failed show ds how fault e d = (refl, subst (IsShown digest job gives) (sym e) d)
  failed (of x) ds how fault e d = let bad : HowEnded.failed fault ≡ HowEnded.made d.0 = e ∙ d.2 in cc

  -- it is no stack, and nothing that is missing
  not_saved : (t : Task s.Desc) (ds : List s.Desc) (how : HowEnded) (j : ℕ) (bytes : List ℕ) → HowEnded.saved j bytes ≡ how → Done t ds how → ⊥
  not_saved show ds how j bytes e d = subst (IsShown digest job gives) (sym e) d
  not_saved (of x) ds how j bytes e d = let bad : HowEnded.saved j bytes ≡ HowEnded.made d.0 = e ∙ d.2 in cc

  not_missing : (t : Task s.Desc) (ds : List s.Desc) (how : HowEnded) (n : List ℕ) (l : ℕ) → HowEnded.missing n l ≡ how → Done t ds how → ⊥
  not_missing show ds how n l e d = subst (IsShown digest job gives) (sym e) d
  not_missing (of x) ds how n l e d = let bad : HowEnded.missing n l ≡ HowEnded.made d.0 = e ∙ d.2 in cc

none_made : {D : Type 0} (made : List (D × Digest)) → names_of made ≡ [] → made ≡ []
none_made [] e = refl
none_made (m ∷ ms) e = cc

mapped : {A B C : Type 0} (g : B → C) (f : A → B) (xs : List A) → map (λ x. g (f x)) xs ≡ map g (map f xs)
mapped g f [] = refl
mapped g f (x ∷ xs) = ap (λ t. g (f x) ∷ t) (mapped g f xs)

module _ (digest : List ℕ → List ℕ) (job : s.Job) (gives : Gives) (orderly : IsOrderly digest job gives) (shelves : ShelvesSeen)
    (h : List (Event s.Desc)) (b : Board P) (sound : Sound digest worker_of b) (runs : Runs (the_shop digest job gives) h b)
    (going : b.stopped ≡ false) (order : Order) (out : IsOut (the_shop digest job gives) h b (order_view order))
    (kept : BTreeMap Digest Object) (keeps : KeepsObjects digest job gives h kept) (names : List Digest) (r : Report)
    (named : Each (IsNamed digest) r.spawned.items) (k : ℕ) (made : List (s.Desc × Digest)) (copied spawned : List s.Desc)
    (step : Step (the_shop digest job gives).job b.plan (standing (the_shop digest job gives).job h) (done k made copied spawned))
    (at : k ≡ order.number) (views : map named_view r.spawned.items ≡ map (the_shop digest job gives).lower spawned)
    (copies : names ≡ low_names (the_shop digest job gives).job copied)
    (fit : (IsMissing r.end → ⊥) → board.Fits digest worker_of b (order_view order) r.spawned.items (report_end r)) where
  abbrev S : Setting s.Desc P shop.Block
  S = the_shop digest job gives

  is : IsSetting S
  is = shop_is digest job gives orderly

  abbrev f : Follows S h b
  f = runs.follows

  abbrev v : Standing s.Desc
  v = standing S.job h

  abbrev o : OpenStart s.Desc
  o = out.start

  abbrev ns : List Named
  ns = r.spawned.items

  abbrev hs : List Held
  hs = r.copied.items

  abbrev then : AfterSeen P
  then = record { table = b.table; spawned = ns }

  abbrev e : Event s.Desc
  e = done k made copied spawned

  abbrev Next : rep.End P → Board P
  Next = next digest job gives h b order kept r

  -- ---- what the model says of it

  same : step.allowed.0 ≡ o
  same =
      same_found S.job is.laws v k step.allowed.0 o step.allowed.1 (subst (λ n. find_open S.job n v.orders ≡ Some o) (sym at) out.is_open)

  allowed : DoneAllowed S.job o made copied spawned
  allowed = subst (λ z. DoneAllowed S.job z made copied spawned) same step.allowed.2

  outs : names_of made ≡ S.job.outputs o.task
  outs = marked_names S.job (S.job.outputs o.task) made allowed.marked

  one : NoClash S.job v.book
  one = apart S is h b sound f

  learns : Learns S is ns spawned v.book b.table
  learns = done_learned S is h b sound f k made copied spawned step ns named views

  now : (after S.job v e).book ≡ known_after S.job v.book spawned
  now = ap (λ (u : Standing s.Desc). u.book) (after_done S.job is.laws v k made copied spawned step.allowed.0 step.allowed.1)

  more : (d : s.Desc) → In d v.book → In d (standing S.job (h ++ e ∷ [])).book
  more = grown digest job gives h e (known_after S.job v.book spawned) now (λ d i. learned_in S.job is.laws v.book spawned d i)

  opens : (q : OpenStart s.Desc) → In q (standing S.job (h ++ e ∷ [])).orders → In q v.orders
  opens =
      fewer digest job gives h e k (ap (λ (u : Standing s.Desc). u.orders)
      (after_done S.job is.laws v k made copied spawned step.allowed.0 step.allowed.1))

  -- ---- the state follows

  says : (ms : List (rep.Output P)) (cs : List (rep.Copy P)) → made_keys ms ≡ low_made S.job made → copy_names cs ≡ low_names S.job copied
      → report.Says S.job S.inner S.lower o (report_view order.number ns (rep.made ms cs))
  says ms cs keys copy =
      report.at_end spawned allowed.next allowed.spawns
      (subst (report.Tells S.job S.inner S.lower (report.Met S.job S.inner S.lower o) spawned) (sym views)
      (all_told digest job gives (report.Met S.job S.inner S.lower o) spawned))
      (λ c. (made, copied, allowed.marked, allowed.fetched, allowed.distinct, keys, copy))

  done_is : (ms : List (rep.Output P)) (cs : List (rep.Copy P)) → report_end r ≡ rep.made ms cs → made_keys ms ≡ low_made S.job made
      → copy_names cs ≡ low_names S.job copied → Each (OutputLies S o) ms → Each (CopyLies S o) cs
      → board.Fits digest worker_of b (order_view order) ns (report_end r) → Follows S (h ++ e ∷ []) (Next (report_end r))
  done_is ms cs q keys copy lies lie fits =
      let fit2 = subst (board.Fits digest worker_of b (order_view order) ns) q fits in
      let taken : Taken S h b (order_view order) o order.number ns (rep.made ms cs) =
      record { is_out = out.found; is_open = out.is_open; fits = fit2; says = says ms cs keys copy } in
      let end = (fit2.learned learns.all).end in
      subst (λ z. Follows S (h ++ e ∷ []) (Next z)) (sym q)
      (subst (λ n. Follows S (h ++ done n made copied spawned ∷ []) (Next (rep.made ms cs))) (sym at)
      (done_follows S is h b sound f (order_view order) o order.number ns (rep.made ms cs) taken learns.all ms cs made copied spawned keys copy
      allowed (subst (NoClash S.job) now step.apart) learns.rows lies lie end.0 end.1 going))

  module _ (c : CopiedSo order shelves job.script then kept names hs) where
    copied_are : copy_names (copies_view hs) ≡ low_names S.job copied
    copied_are = copied_names shelves order.worker job.script then kept hs c.copies.each ∙ (c.copies.named ∙ copies)

    copies_there : Each (CopyLies S o) (copies_view hs)
    copies_there =
        copies_lie digest job gives orderly h b f order.number o out.is_open one shelves order.worker job.script then kept keeps hs c.copies.each

  -- ---- of a task that makes objects

  module _ (objects : List Object) (x : IsMadeOf order shelves job.script then kept digest objects names hs r.end)
      (all : OneByOne (IsObjectOf digest job gives) (names_of made) (map object_view objects)) where
    abbrev ms : List Made
    ms = x.outputs.items

    many : length ms ≡ length (S.job.outputs o.task)
    many =
        sym (length-map ms (λ (m : Made). block_view m.place.at.value))
        ∙ (ap length x.made.blocks ∙ (length-map objects (λ (z : Object). shop.Block.object (object_view z))
        ∙ (sym (length-map objects object_view)
        ∙ (sym (long (IsObjectOf digest job gives) (names_of made) (map object_view objects) all) ∙ ap length outs))))

    titles : map (λ (m : Made). m.name) ms ≡ map S.job.name (names_of made)
    titles = names_are digest job gives orderly o.task order.desc out.order.desc ms x.made.named many ∙ ap (map S.job.name) (sym outs)

    made_follows : Follows S (h ++ e ∷ []) (Next (report_end r))
    made_follows =
        done_is (map output_view ms) (copies_view hs) (ap (how_view hs) x.is)
        (keys_are digest job gives orderly h b f order.number o out.is_open made (S.job.outputs o.task) (map object_view objects) ms allowed.marked
        all titles (x.made.marked ∙ mapped (λ z. sha1 (object_bytes z)) object_view objects))
        (copied_are x.copied)
        (outputs_lie digest job gives orderly h b f order.number o out.is_open one made (map object_view objects) ms (λ d i. subst (In d) outs i)
        all titles (x.made.blocks ∙ mapped shop.Block.object object_view objects))
        (copies_there x.copied) (fit (λ i. subst IsMissing x.is i))

  -- ---- of the root task

  module _ (shown : Shown) (x : IsShownOf order shelves job.script then kept shown names hs r.end) (root : o.task ≡ show)
      (means : s.Means job (json_around gives) (shown_view shown)) where
    nothing : made ≡ []
    nothing = none_made made (outs ∙ (ap S.job.outputs root ∙ is.laws.outputs_show))

    shown_follows : Follows S (h ++ e ∷ []) (Next (report_end r))
    shown_follows =
        done_is [] (copies_view hs) (ap (how_view hs) x.is) (sym (ap (low_made S.job) nothing)) (copied_are x.copied) tt (copies_there x.copied)
        (fit (λ i. subst IsMissing x.is i))

    done_last : ShowDone S.job (h ++ e ∷ [])
    done_last =
        record {
          before = h;
          number = k;
          made = made;
          copied = copied;
          spawned = spawned;
          last = refl;
          order = o;
          is_open = subst (λ n. find_open S.job n v.orders ≡ Some o) (sym at) out.is_open;
          root = root;
        }

    shown_closes : (end : LoggedEnd)
        → ((m : BTreeMap Digest Object) → KeepsOutputs digest order end kept m → KeepsObjects digest job gives (h ++ e ∷ []) m)
        → Closes digest job gives h b order kept r e end
    shown_closes end keeping =
        record {
          follows = shown_follows;
          learned = λ none. learns.all;
          keeping = keeping;
          opens = opens;
          shows = λ other q.
              let both : End.Shown shown ≡ End.Shown other = sym x.is ∙ q in
              let same_ : shown ≡ other = cc in
              (subst (λ z. s.Means job (json_around gives) (shown_view z)) same_ means, done_last);
        }

  -- ---- by the record's end

  -- what is kept stays the model's
  kept_on : (m : BTreeMap Digest Object) → m ≡ kept → KeepsObjects digest job gives (h ++ e ∷ []) m
  kept_on m q = subst (KeepsObjects digest job gives (h ++ e ∷ [])) (sym q) (keeps_on digest job gives h (h ++ e ∷ []) kept more keeps)

  pub ends : (end : LoggedEnd) → IsEndOf order shelves job.script then kept digest b end names hs r.end → (how : HowEnded) → end_view end ≡ how
      → IsDone digest job gives o.task (names_of made) how → Closes digest job gives h b order kept r e end
  ends (LoggedEnd.Made items) x how q d =
      let all = made_objects digest job gives o.task (names_of made) how (map object_view items.items) q d in
      record {
        follows = made_follows items.items x all;
        learned = λ none. learns.all;
        keeping = λ m puts. keeps_more digest job gives (standing S.job (h ++ e ∷ [])).book puts (names_of made)
            (λ c i. more c (booked digest job gives orderly h b f order.number o out.is_open c (subst (In c) outs i)))
            (sym x.made.named ∙ titles items.items x all) all (keeps_on digest job gives h (h ++ e ∷ []) kept more keeps);
        opens = opens;
        shows = λ shown i. let bad : End.Made x.outputs ≡ End.Shown shown = sym x.is ∙ i in cc;
      }
  ends (LoggedEnd.Answer bytes) x how q d =
      let a = answered digest job gives o.task (names_of made) how bytes q d in shown_closes (Shown.Text bytes) x a.0 a.1 (LoggedEnd.Answer bytes) kept_on
  ends (LoggedEnd.Fault fault) x how q d =
      let a = failed digest job gives o.task (names_of made) how fault q d in shown_closes (Shown.Fault fault) x a.0 a.1 (LoggedEnd.Fault fault) kept_on
  ends (LoggedEnd.Saved j bytes) x how q d = absurd (not_saved digest job gives o.task (names_of made) how j bytes q d)
  ends (LoggedEnd.Missing name loss) x how q d = absurd (not_missing digest job gives o.task (names_of made) how name loss q d)
