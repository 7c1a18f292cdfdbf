-- A task of the job that came to its end: what it copied and made, as its record tells it, passes the tests.
use Rattle.std.proofs.Common.{◌≡◌, ℕ, suc, List, [], ◌∷◌, length, map, Some, inl, inr}
use Rattle.std.proofs.Common.{refl, sym, ap, ◌∙◌, subst}
use Rattle.std.proofs.lemmas.List.{length-map}
use Rattle.std.specs.BTreeMap.{BTreeMap}
use Rattle.sky_base.specs.KitView.{Gives}
use Rattle.sky_base.specs.Name.{held_name}
use Rattle.sky_base.specs.ObjectView.{object_view}
use Rattle.sky_base.specs.Res as res
use Rattle.sky_base.specs.Res.{object_refs}
use Rattle.sky_base.specs.See as s
use Rattle.sky_base.specs.declared.object.Named.{Named}
use Rattle.sky_base.specs.declared.object.Object.{Object}
use Rattle.ciel_journal.specs.Entries.{low_names}
use Rattle.ciel_journal.specs.History.{Event, OpenStart, Standing, done, find_open, names_of, standing}
use Rattle.ciel_journal.specs.Job.{Digest, Each, In, IsJob, Job, Needed, Task, of, show}
use Rattle.ciel_journal.specs.Lawful.{DoneAllowed, Step}
use Rattle.ciel_journal.proofs.Published.{book_apart}
use Rattle.ciel_log.specs.Logs.{IsDone, IsObjectOf}
use Rattle.ciel_log_fits.specs.Known.{AfterSeen}
use Rattle.ciel_log_fits.proofs.Learned.{known_is}
use Rattle.ciel_log_follows.specs.Keeping.{KeepsObjects}
use Rattle.ciel_log_follows.proofs.Told.{marked_names}
use Rattle.ciel_log_read.specs.View.{end_view}
use Rattle.ciel_log_read.specs.declared.record.LoggedEnd.{LoggedEnd}
use Rattle.ciel_log_records.specs.Records.{HowEnded}
use Rattle.ciel_log_objects.specs.Objects as objects
use Rattle.ciel_log_objects.specs.Objects.{IsKept}
use Rattle.ciel_log_report.specs.Tests.{CopiesPass, EndPasses}
use Rattle.ciel_master_board.specs.Board.{Board}
use Rattle.ciel_master_board.specs.Driving.{Runs}
use Rattle.ciel_master_board.specs.Follows.{OneByOne, OrderIs}
use Rattle.ciel_master_board.specs.Reports.{learned_all}
use Rattle.ciel_master_board.specs.Sound.{Sound}
use Rattle.ciel_master_law.specs.Ends.{IsOrderly, worker_of}
use Rattle.ciel_master_safe.specs.Reports.{outputs_of}
use Rattle.ciel_table.specs.Seen.{TableSeen}
use Rattle.ciel_task_order.specs.Views.{P, order_view}
use Rattle.ciel_task_order.specs.declared.order.Order.{Order}
use Rattle.ciel_want.specs.History.{task_id}
use Rattle.ciel_want.specs.Waited.{AllKnown}
use Rattle.ciel_log_model.specs.Laws.{KeepsMade}
use Rattle.ciel_log_model.specs.Passes.{ObjectPasses}
use Rattle.ciel_log_model.proofs.Books.{J, S, Tells, is}
use Rattle.ciel_log_model.proofs.Closed.{copy_passes, open_needed, output_passes}
use Rattle.ciel_log_model.proofs.Copies.{copied_booked, copies_distinct, copies_elsewhere, copies_made}
use Rattle.ciel_log_model.proofs.Made as made_there
use Rattle.ciel_log_model.proofs.Outputs.{outputs_count, outputs_sound}

-- what has a row once some are learned has one whatever gives the names
pub any_names : (digest other : List ℕ → List ℕ) (ns : List Named) (t : TableSeen P) (xs : List Digest) → AllKnown (learned_all digest ns t) xs
    → AllKnown (learned_all other ns t) xs
any_names digest other ns t [] k = tt
any_names digest other ns t (x ∷ xs) k =
    (known_is other x ns t ∙ (sym (known_is digest x ns t) ∙ k.0), any_names digest other ns t xs k.1)

module _ (digest : List ℕ → List ℕ) (job : s.Job) (gives : Gives) (orderly : IsOrderly digest job gives) (h : List (Event s.Desc)) (b : Board P)
    (runs : Runs (S digest job gives orderly) h b) (sound : Sound digest worker_of b) (order : Order) (kept : BTreeMap Digest Object)
    (keeps : KeepsObjects digest job gives h kept) (keeps_made : KeepsMade digest job gives h kept) (number : ℕ)
    (made : List (s.Desc × Digest)) (copied spawned : List s.Desc)
    (step : Step (J digest job gives orderly) b.plan (standing (J digest job gives orderly) h) (done number made copied spawned))
    (at : number ≡ order.number) (order_is : OrderIs (S digest job gives orderly) step.allowed.0 (order_view order))
    (ns : List Named) (tells : Tells digest job gives orderly ns spawned) where
  abbrev the : Job s.Desc
  the = J digest job gives orderly

  abbrev laws : IsJob the
  laws = (is digest job gives orderly).laws

  abbrev v : Standing s.Desc
  v = standing the h

  abbrev o : OpenStart s.Desc
  o = step.allowed.0

  abbrev ok : DoneAllowed the o made copied spawned
  ok = step.allowed.2

  abbrev after_ : AfterSeen P
  after_ = record { table = b.table; spawned = ns }

  found : find_open the order.number v.orders ≡ Some o
  found = subst (λ i. find_open the i v.orders ≡ Some o) at step.allowed.1

  need : Needed the o.task
  need = open_needed digest job gives orderly h b runs sound number o step.allowed.1

  -- an object that passes by names passes
  object_passes : (x : Object) (y : s.Obj) (z : res.Object (List ℕ)) → object_view x ≡ z → ObjectPasses digest job.script b.table ns z
      → objects.Passes job.script after_ (object_view x)
  object_passes x y z e p =
      subst (objects.Passes job.script after_) (sym e) (record {
        sound = p.allowed;
        known = λ other. any_names digest other ns b.table (map held_name (object_refs z)) p.known;
      })

  -- ---- what it copied

  kept_each : (ds : List s.Desc) → ((d : s.Desc) → In d ds → In d copied) → Each (IsKept job.script after_ kept) (low_names the ds)
  kept_each [] f = tt
  kept_each (d ∷ ds) f = (one, kept_each ds (λ e i. f e (inr i)))
    where
      one : IsKept job.script after_ kept (the.name d)
      one =
          let i = f d (inl refl) in
          let m = copies_made digest job gives orderly h b runs order o found order_is need made copied spawned ok d i in
          let x = keeps_made m.number m.made m.copied m.spawned m.ended d m.has in
          let known = keeps (the.name d) x.0 x.1 in
          let same : d ≡ known.0 =
          book_apart the laws b.plan h runs.follows.lawful d known.0
          (copied_booked digest job gives orderly h b runs order o found order_is need made copied spawned ok d i) known.1 known.2 in
          let object = subst (λ z. IsObjectOf digest job gives z (object_view x.0)) (sym same) known.3 in (
            x.0,
            x.1,
            object_passes x.0 object.1 _ object.3
                (copy_passes digest job gives orderly h b runs sound number made copied spawned step ns tells d i
                (made_there.made_allowed digest job gives orderly b.plan h runs.follows.lawful d m) object.0 object.1 object.2),
          )

  copies_pass : (names : List Digest) → names ≡ low_names the copied → CopiesPass order job.script after_ kept names
  copies_pass names e =
      subst (CopiesPass order job.script after_ kept) (sym e) (record {
        elsewhere = copies_elsewhere digest job gives orderly h b runs order o found order_is need made copied spawned ok;
        distinct = copies_distinct digest job gives orderly h b runs order o found order_is need made copied spawned ok;
        all_kept = kept_each copied (λ d i. i);
      })

  -- ---- what it made

  made_each : (ds : List s.Desc) (os : List Object) (xs : List (res.Object (List ℕ))) → ((d : s.Desc) → In d ds → In d (names_of made))
      → OneByOne (IsObjectOf digest job gives) ds xs → map object_view os ≡ xs
      → Each (λ (x : Object). objects.Passes job.script after_ (object_view x)) os
  made_each [] [] [] f a e = tt
  made_each [] (x ∷ os) [] f a e = cc
  made_each [] os (y ∷ xs) f a e = absurd a
  made_each (d ∷ ds) os [] f a e = absurd a
  made_each (d ∷ ds) [] (y ∷ xs) f a e = cc
  made_each (d ∷ ds) (x ∷ os) (y ∷ xs) f a e =
      let one : object_view x ≡ y = cc in
      let rest : map object_view os ≡ xs = cc in
      let i = f d (inl refl) in (
        object_passes x a.0.1 _ (one ∙ a.0.3)
            (output_passes digest job gives orderly h b runs sound number made copied spawned step ns tells d i
            (outputs_sound digest job gives orderly o.task need d (subst (In d) (marked_names the (the.outputs o.task) made ok.marked) i))
            a.0.0 a.0.1 a.0.2),
        made_each ds os xs (λ c j. f c (inr j)) a.1 rest,
      )

  one_long : (ds : List s.Desc) (xs : List (res.Object (List ℕ))) → OneByOne (IsObjectOf digest job gives) ds xs → length xs ≡ length ds
  one_long [] [] a = refl
  one_long [] (x ∷ xs) a = absurd a
  one_long (d ∷ ds) [] a = absurd a
  one_long (d ∷ ds) (x ∷ xs) a = ap suc (one_long ds xs a.1)

  as_many : (os : List Object) (xs : List (res.Object (List ℕ))) → OneByOne (IsObjectOf digest job gives) (names_of made) xs → map object_view os ≡ xs
      → length os ≡ length (outputs_of digest order.desc)
  as_many os xs a e =
      sym (length-map os object_view) ∙ (ap length e ∙ (one_long (names_of made) xs a
      ∙ (ap length (marked_names the (the.outputs o.task) made ok.marked) ∙ outputs_count digest job gives orderly o.task need order.desc order_is.desc)))

  -- ---- its end

  abbrev Ends : List Digest → LoggedEnd → Type 0
  Ends names end = EndPasses order job.script after_ kept digest b names end

  same_made : (xs ys : List (res.Object (List ℕ))) → HowEnded.made xs ≡ HowEnded.made ys → xs ≡ ys
  same_made xs ys e = cc

  ends_of : (names : List Digest) → names ≡ low_names the copied → (u : Task s.Desc) → o.task ≡ u → (how : HowEnded)
      → IsDone digest job gives u (names_of made) how → (end : LoggedEnd) → end_view end ≡ how → Ends names end
  ends_of names e show t how d (LoggedEnd.Answer bytes) q = record { task = order_is.out.task ∙ ap (task_id the) t; copies = copies_pass names e }
  ends_of names e show t how d (LoggedEnd.Fault fault) q = record { task = order_is.out.task ∙ ap (task_id the) t; copies = copies_pass names e }
  ends_of names e show t how d (LoggedEnd.Made items) q = absurd (subst (IsDone digest job gives show (names_of made)) (sym q) d)
  ends_of names e show t how d (LoggedEnd.Saved j bytes) q = absurd (subst (IsDone digest job gives show (names_of made)) (sym q) d)
  ends_of names e show t how d (LoggedEnd.Missing name loss) q = absurd (subst (IsDone digest job gives show (names_of made)) (sym q) d)
  ends_of names e (of x) t how d (LoggedEnd.Made items) q =
      let same = same_made (map object_view items.items) d.0 (q ∙ d.2) in
      record {
        task = (the.name x, order_is.out.task ∙ ap (task_id the) t);
        many = as_many items.items d.0 d.1 same;
        copies = copies_pass names e;
        each = made_each (names_of made) items.items d.0 (λ c i. i) d.1 same;
      }
  ends_of names e (of x) t how d (LoggedEnd.Answer bytes) q = let bad = q ∙ d.2 in cc
  ends_of names e (of x) t how d (LoggedEnd.Fault fault) q = let bad = q ∙ d.2 in cc
  ends_of names e (of x) t how d (LoggedEnd.Saved j bytes) q = let bad = q ∙ d.2 in cc
  ends_of names e (of x) t how d (LoggedEnd.Missing name loss) q = let bad = q ∙ d.2 in cc

  pub done_ends : (names : List Digest) → names ≡ low_names the copied → (how : HowEnded) → IsDone digest job gives o.task (names_of made) how
      → (end : LoggedEnd) → end_view end ≡ how → Ends names end
  done_ends names e how d end q = ends_of names e o.task refl how d end q
