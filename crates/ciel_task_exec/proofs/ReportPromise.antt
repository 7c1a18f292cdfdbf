-- The report of an executor's order is what a worker promises.
use Rattle.std.proofs.Common.{◌≡◌, ℕ, zero, suc, ◌+◌, ◌<◌, List, [], ◌∷◌, ◌++◌, length, map, Option, Some, None, Ok, Err, Result, Vec, Global, inl}
use Rattle.std.proofs.Common.{inr, refl, sym, ap, ap₂, subst, ◌∙◌, arith}
use Rattle.std.specs.List.{IsDistinct}
use Rattle.std.specs.Option.{option_map}
use Rattle.sky_base.specs.KitView.{Gives}
use Rattle.sky_base.specs.Name.{digested}
use Rattle.sky_base.specs.Res as logic
use Rattle.sky_base.specs.See as s
use Rattle.sky_base.specs.Tree.{Script}
use Rattle.sky_base.specs.Val.{distinct, out, refs, same_text}
use Rattle.sky_base.specs.View.{view}
use Rattle.sky_base.specs.declared.fault.Fault.{Fault}
use Rattle.sky_base.specs.declared.object.Desc1.{Desc1}
use Rattle.sky_base.specs.declared.object.Named.{Named}
use Rattle.sky_base.specs.declared.object.TaskId.{TaskId}
use Rattle.sky_base.specs.declared.value.Value.{Value}
use Rattle.sky_base_law.specs.Sound.{SoundObject}
use Rattle.sky_base_law.specs.Tasks as t
use Rattle.sky_base_exec.specs.Perform.{made as made_by, output_at, output_of}
use Rattle.ciel_json.specs.Text.{text_of as writes}
use Rattle.ciel_master_board.specs.Board.{Board}
use Rattle.ciel_master_board.specs.Laws.{LiesUnlessClash}
use Rattle.ciel_master_board.specs.Reports.{End, copy_names, made, missing, report_view}
use Rattle.ciel_master_board.specs.Setting.{Setting}
use Rattle.ciel_master_board.specs.Sound.{Fits, OutputFits}
use Rattle.ciel_journal.specs.Job as j
use Rattle.ciel_journal.specs.Job.{Digest}
use Rattle.ciel_journal_job.specs.Report.{Says}
use Rattle.ciel_store.specs.Seen.{SeatSeen, ShelvesSeen}
use Rattle.ciel_store.specs.declared.loss.Loss.{Loss}
use Rattle.ciel_table.specs.Named.{found}
use Rattle.ciel_table.specs.Seen.{Known, TableSeen}
use Rattle.ciel_task_inputs.specs.Lies.{LostAt, held_name}
use Rattle.ciel_task_order.specs.Orders.{Describes, OrderSound, names_in}
use Rattle.ciel_task_order.specs.Performs.{AnswerIs, HasRows, IsMissed, IsMissing, Missed, OfTask, OutputsKnown, Performs}
use Rattle.ciel_task_order.specs.Places.{CopyAt, EndAt, ObjectAt, PlacesSound}
use Rattle.ciel_task_order.specs.Shop as shop
use Rattle.ciel_task_order.specs.Shop.{InputsInOrder, shop_setting}
use Rattle.ciel_task_order.specs.Views.{P, copies_view, how_view, order_view, output_view, report_end, spot_view}
use Rattle.ciel_task_order.specs.declared.block.Held.{Held}
use Rattle.ciel_task_order.specs.declared.block.Spot.{Spot}
use Rattle.ciel_task_order.specs.declared.order.Order.{Order}
use Rattle.ciel_task_order.specs.declared.report.End as rust
use Rattle.ciel_task_order.specs.declared.report.Made.{Made}
use Rattle.ciel_task_order.specs.declared.report.Report.{Report}
use Rattle.ciel_task_inputs.specs.Brought.{lies_known}
use Rattle.ciel_task_inputs.specs.Copies.{Copies}
use Rattle.ciel_task_inputs.specs.Fetched.{fetched}
use Rattle.ciel_task_inputs.proofs.CopiedObjects.{copies_fit, copies_named, copies_sound, sound_there}
use Rattle.ciel_task_inputs.proofs.NameSpots.{spot_at, spot_found}
use Rattle.ciel_task_exec.specs.Outputs.{AreOutputs, OutputsFrom}
use Rattle.ciel_task_exec.proofs.ReportTruth.{says_made, says_missing}
use Rattle.ciel_task_exec.proofs.ReportPlaces.{made_lies}

pub output_sound : (sc : Script) (r : Result (List (List ℕ)) Fault) (i : ℕ) → SoundObject sc (output_of r i)
output_sound sc (Err f) i = tt
output_sound sc (Ok bs) i = at bs i
  where
    at : (bs : List (List ℕ)) (i : ℕ) → SoundObject {N = List ℕ} sc (output_at bs i)
    at [] i = tt
    at (b ∷ bs) zero = tt
    at (b ∷ bs) (suc i) = at bs i

in_last : {A : Type 0} (l : A) (ls : List A) → j.In l (ls ++ l ∷ [])
in_last l [] = inl refl
in_last l (k ∷ ls) = inr (in_last l ls)

module _ (digest : List ℕ → List ℕ) (shelves : ShelvesSeen) (job : s.Job) (gives : Gives) (order : Order)
    (sound : OrderSound digest shelves job.script (length job.inputs) order) (keyed : InputsInOrder job) (x : List ℕ) (args : Value) (n : ℕ)
    (by : order.desc ≡ Some (Desc1.Exec x args n 0)) where
  abbrev held : List Held
  held = order.inputs.items

  abbrev made_here : Result (List (List ℕ)) Fault
  made_here = made_by gives (λ u. writes u) (lies_known job.inputs held) x (view args) n

  abbrev W : P → ℕ
  W p = p.worker

  abbrev S : Setting s.Desc P shop.Block
  S = shop_setting digest job gives

  -- ---- it fits

  outputs_fit : (tb : TableSeen P) → ((k : ℕ) → k < n → Known tb (digested digest (out x (view args) n k))) → (i : ℕ) (ms : List Made)
      → i + length ms ≡ n → OutputsFrom digest shelves order.worker x (view args) n made_here i ms
      → j.Each (OutputFits digest W tb (order_view order)) (map output_view ms)
  outputs_fit tb rows i [] e h = tt
  outputs_fit tb rows i (m ∷ ms) e h = (
    record { known = subst (Known tb) (sym h.0.name) (rows i (omega (arith, e))); here = h.0.worker },
    outputs_fit tb rows (suc i) ms (omega (arith, e)) h.1,
  )

  made_fits : (ms : List Made) (cs : List Held) → AreOutputs digest shelves order.worker x (view args) n made_here ms
      → Copies shelves order.worker job.inputs held cs → (b : Board P) → HasRows digest b.table order
      → Fits digest W b (order_view order) [] (made (map output_view ms) (copies_view cs))
  made_fits ms cs are copies b rows =
      record {
        named = tt;
        missed = tt;
        learned = λ all. record {
          inside = tt;
          tasks = tt;
          end = (
            outputs_fit b.table (subst (OutputsKnown digest b.table) by rows.outputs) 0 ms (omega (arith, are.0)) are.1,
            copies_fit digest shelves job.inputs order b.table cs copies.0 rows.brought,
            subst (IsDistinct same_text) (sym (copies_named digest shelves job.inputs order cs copies.0)) copies.1,
          );
        };
      }

  -- ---- its kind

  -- the root task has no description, so this is another one
  made_kind : (tk : TaskId) (d : Option Desc1) → d ≡ Some (Desc1.Exec x args n 0) → Describes digest job.script (names_in held) tk d
      → (ms : Vec Made Global) → OfTask tk (rust.End.Made ms)
  made_kind TaskId.Show None e h ms = absurd cc
  made_kind TaskId.Show (Some d) e h ms = absurd h
  made_kind (TaskId.Of m) d e h ms = tt

  missing_kind : (tk : TaskId) (nm : Digest) (l : Loss) (seen : SeatSeen) → OfTask tk (rust.End.Missing nm l (Some seen))
  missing_kind TaskId.Show nm l seen = tt
  missing_kind (TaskId.Of m) nm l seen = tt

  -- ---- the promise

  module _ (r : Report) (number : r.number ≡ order.number) (worker : r.worker ≡ order.worker) (task : r.task ≡ order.task)
      (spawned : r.spawned.items ≡ []) where
    -- with nothing spawned and this end
    moved : (Q : List Named → End P → Type 0) (e : End P) → report_end r ≡ e → Q [] e → Q r.spawned.items (report_end r)
    moved Q e is q = subst (Q r.spawned.items) (sym is) (subst (λ sp. Q sp e) (sym spawned) q)

    pub performs_made : (ms : Vec Made Global) (cs : Vec Held Global) → r.copied ≡ cs → r.end ≡ rust.End.Made ms
        → AreOutputs digest shelves order.worker x (view args) n made_here ms.items → Copies shelves order.worker job.inputs held cs.items
        → names_in cs.items ≡ fetched order.worker held (distinct same_text (refs (view args))) → Performs digest job gives order r
    performs_made ms cs copied end are copies tells =
        record {
          number = number;
          worker = worker;
          task = task;
          kind = subst (OfTask order.task) (sym end) (made_kind order.task order.desc by sound.describes ms);
          fits = λ b sd out rows not. moved (Fits digest W b (order_view order)) the_end end_is (made_fits ms.items cs.items are copies b rows);
          missed = subst (Missed digest order) (sym end) tt;
          says = λ o is apart. moved (λ sp e. Says S.job S.inner S.lower o (report_view order.number sp e)) the_end end_is
              (says_made digest shelves job.script (length job.inputs) order sound x args n by job gives keyed o is ms.items cs.items are copies
              tells);
          lies = λ h p o lawful is_open is. moved (λ sp e. LiesUnlessClash S h p o order.number sp e) the_end end_is
              (made_lies digest shelves job.script (length job.inputs) order sound x args n by job gives keyed o is ms.items cs.items are
              copies.0 h p lawful is_open);
          answers = λ h p o lawful is_open is e tells allowed apart. subst (AnswerIs digest job gives) (sym end) tt;
        }
      where
        the_end : End P
        the_end = made (map output_view ms.items) (copies_view cs.items)

        end_is : report_end r ≡ the_end
        end_is = ap₂ (λ (c : Vec Held Global) e. how_view c.items e) copied end

    pub performs_missing : (nm : Digest) (l : Loss) (seen : SeatSeen) (old : List Loss) (h : Held) → r.end ≡ rust.End.Missing nm l (Some seen)
        → found held_name nm held ≡ Some h → LostAt l h.at → seen.losses ≡ old ++ l ∷ [] → Performs digest job gives order r
    performs_missing nm l seen old h end f lost saw =
        record {
          number = number;
          worker = worker;
          task = task;
          kind = subst (OfTask order.task) (sym end) (missing_kind order.task nm l seen);
          fits = λ b sd out rows not. absurd (not (subst IsMissing (sym end) tt));
          missed = subst (Missed digest order) (sym end) (is_missed h.at refl lost);
          says = λ o is apart. moved (λ sp e. Says S.job S.inner S.lower o (report_view order.number sp e)) the_end end_is
              (says_missing digest shelves job.script (length job.inputs) order sound x args n by job gives keyed o is nm l.number);
          lies = λ hs p o lawful is_open is. moved (λ sp e. LiesUnlessClash S hs p o order.number sp e) the_end end_is (λ e tells allowed apart. tt);
          answers = λ hs p o lawful is_open is e tells allowed apart. subst (AnswerIs digest job gives) (sym end) tt;
        }
      where
        the_end : End P
        the_end = missing nm l.number

        end_is : report_end r ≡ the_end
        end_is = ap (how_view r.copied.items) end

        is_missed : (sp : Spot) → h.at ≡ sp → LostAt l sp → IsMissed digest order nm l (Some seen)
        is_missed (Spot.Input i) e z = absurd z
        is_missed (Spot.Shelf p) e z =
            record {
              place = p;
              given = inl (spot_found nm held ∙ ap (option_map spot_at) f ∙ ap (λ sp. Some (spot_view sp)) e);
              worker = sym z;
              seen = subst (j.In l) (sym saw) (in_last l old);
            }

  -- ---- its places

  objects_at : (i : ℕ) (ms : List Made) → OutputsFrom digest shelves order.worker x (view args) n made_here i ms
      → t.Each (λ (m : Made). ObjectAt shelves order.worker job.script m.place) ms
  objects_at i [] h = tt
  objects_at i (m ∷ ms) h = (
    record {
      here = h.0.place;
      worker = h.0.worker;
      object =
          sound_there job.script m.place.at.value (output_of made_here i) h.0.object (output_sound job.script made_here i);
    },
    objects_at (suc i) ms h.1,
  )

  pub places_made : (r : Report) (ms : Vec Made Global) (cs : Vec Held Global) → r.copied ≡ cs → r.end ≡ rust.End.Made ms
      → AreOutputs digest shelves order.worker x (view args) n made_here ms.items → Copies shelves order.worker job.inputs held cs.items
      → PlacesSound shelves order.worker job.script r
  places_made r ms cs copied end are copies =
      record {
        end = subst (EndAt shelves order.worker job.script r.task) (sym end) (objects_at 0 ms.items are.1);
        copied = subst (λ (c : Vec Held Global). t.Each (λ (h : Held). CopyAt shelves order.worker job.script h.at) c.items) (sym copied)
            (copies_sound shelves order.worker job.inputs held job.script (length job.inputs) sound.spots cs.items copies.0);
      }

  pub places_missing : (r : Report) (nm : Digest) (l : Loss) (seen : SeatSeen) → r.copied.items ≡ [] → r.end ≡ rust.End.Missing nm l (Some seen)
      → seen.of ≡ shelves.of → PlacesSound shelves order.worker job.script r
  places_missing r nm l seen copied end of =
      record {
        end = subst (EndAt shelves order.worker job.script r.task) (sym end) of;
        copied = subst (t.Each (λ (h : Held). CopyAt shelves order.worker job.script h.at)) (sym copied) tt;
      }
