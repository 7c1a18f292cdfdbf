-- The record of a report that is taken is that of the event that it tells.
use Rattle.std.proofs.Common.{◌≡◌, ℕ, List, [], ◌∷◌, map, Option, Some, None, inl, inr, refl, ap, sym, ◌∙◌, subst}
use Rattle.std.specs.Option.{option_map}
use Rattle.sky_base.specs.JobView.{job_view}
use Rattle.sky_base.specs.KitView.{Gives}
use Rattle.sky_base.specs.Needed as n
use Rattle.sky_base.specs.ObjectView.{desc_view, object_view}
use Rattle.sky_base.specs.Res.{Object}
use Rattle.sky_base.specs.See as s
use Rattle.sky_base.specs.Tree.{Script}
use Rattle.sky_base.specs.Val.{Desc}
use Rattle.sky_base.specs.declared.object.Named.{Named}
use Rattle.sky_base.specs.declared.object.TaskId.{TaskId}
use Rattle.sky_base_law.specs.Tasks as tasks
use Rattle.sky_frozen_bytes.specs.Bytes.{frozen_bytes}
use Rattle.sky_state.specs.Stand.{Stand}
use Rattle.sky_state.specs.declared.shown.Shown.{Shown}
use Rattle.ciel_journal.specs.Entries.{low_made, low_names}
use Rattle.ciel_journal.specs.History.{Event, OpenStart, before_all, done, find_open, lost, missed, names_of, saved, standing, start}
use Rattle.ciel_journal.specs.Job.{Digest, Each, In, Task, of, show}
use Rattle.ciel_journal.specs.Lawful.{Allowed, Marked}
use Rattle.ciel_journal.proofs.Append.{lawful_split}
use Rattle.ciel_journal_job.specs.Real.{back}
use Rattle.ciel_journal_job.specs.Report as report
use Rattle.ciel_journal_job.specs.Report.{report_of}
use Rattle.ciel_json.specs.Around.{json_around}
use Rattle.ciel_master_board.specs.Board.{Board}
use Rattle.ciel_master_board.specs.Follows.{OneByOne}
use Rattle.ciel_master_board.specs.Laws.{Lies, OutputLies}
use Rattle.ciel_master_board.specs.Reports as rep
use Rattle.ciel_master_board.specs.Reports.{copy_names, made_keys, named_view, report_view}
use Rattle.ciel_master_board.specs.Setting.{HasObject, HasState, Setting}
use Rattle.ciel_task_order.specs.Named.{by_names, object_by_names, state_by_names}
use Rattle.ciel_task_order.specs.Orders as orders
use Rattle.ciel_task_order.specs.Orders.{names_in}
use Rattle.ciel_task_order.specs.Performs.{AnswerIs, OfTask, the_shop}
use Rattle.ciel_task_order.specs.Places.{CopyAt, EndAt, ObjectAt}
use Rattle.ciel_task_order.specs.Shop.{Block, block_view}
use Rattle.ciel_task_order.specs.Views.{P, copies_view, copy_at, how_view, output_view}
use Rattle.ciel_task_order.specs.declared.block.Block as rust
use Rattle.ciel_task_order.specs.declared.block.Held.{Held}
use Rattle.ciel_task_order.specs.declared.block.Spot.{Spot}
use Rattle.ciel_task_order.specs.declared.report.End.{End}
use Rattle.ciel_task_order.specs.declared.report.Made.{Made}
use Rattle.ciel_task_order.specs.declared.report.Report.{Report}
use Rattle.ciel_task_order.specs.declared.shop.Shop.{Shop}
use Rattle.ciel_store.specs.Seen.{ShelvesSeen}
use Rattle.ciel_want.specs.History.{task_id}
use Rattle.ciel_log.specs.Logging.{EndedSo, told_copies}
use Rattle.ciel_log.specs.Logs.{IsDone, IsObjectOf, IsStackOf, RecordOf}
use Rattle.ciel_log_records.specs.Records.{HowEnded, report_record}
use Rattle.ciel_run_drive.specs.Telling.{TakenAs}

-- ---- lists that begin so

heads : {A : Type 0} {x y : A} {xs ys : List A} → x ∷ xs ≡ y ∷ ys → x ≡ y
heads e = cc

tails : {A : Type 0} {x y : A} {xs ys : List A} → x ∷ xs ≡ y ∷ ys → xs ≡ ys
tails e = cc

-- ---- parts of a report by names

abbrev R : Type 0
R = report.Report (Desc (List ℕ))

abbrev numbered : R → Option R → ℕ
numbered d None = d.number
numbered d (Some x) = x.number

abbrev spawned_of : R → Option R → List (Desc (List ℕ))
spawned_of d None = d.spawned
spawned_of d (Some x) = x.spawned

abbrev end_of : R → Option R → report.End
end_of d None = d.end
end_of d (Some x) = x.end

-- ---- what was copied lies at places

copied_one : (shelves : ShelvesSeen) (w : ℕ) (sc : Script) (name : Digest) (at : Spot) (rest : List (rep.Copy P)) → CopyAt shelves w sc at
    → copy_names (copy_at name at rest) ≡ name ∷ copy_names rest
copied_one shelves w sc name (Spot.Shelf p) rest c = refl
copied_one shelves w sc name (Spot.Input i) rest c = absurd c

copied_names : (shelves : ShelvesSeen) (w : ℕ) (sc : Script) (hs : List Held) → tasks.Each (λ (h : Held). CopyAt shelves w sc h.at) hs
    → copy_names (copies_view hs) ≡ names_in hs
copied_names shelves w sc [] c = refl
copied_names shelves w sc (h ∷ hs) c =
    copied_one shelves w sc h.name h.at (copies_view hs) c.0 ∙ ap (λ z. h.name ∷ z) (copied_names shelves w sc hs c.1)

-- ---- there is such an end

object_lies : (sc : Script) (v : rust.Block) → orders.HasObject sc v → (o : Object (List ℕ)) × (block_view v ≡ Block.object o)
object_lies sc (rust.Block.Object o) h = (object_view o, refl)
object_lies sc (rust.Block.Frozen a) h = absurd h

objects_lie : (shelves : ShelvesSeen) (w : ℕ) (sc : Script) (ms : List Made) → tasks.Each (λ (m : Made). ObjectAt shelves w sc m.place) ms
    → (os : List (Object (List ℕ))) × (map (λ (m : Made). block_view m.place.at.value) ms ≡ map Block.object os)
objects_lie shelves w sc [] h = ([], refl)
objects_lie shelves w sc (m ∷ ms) h =
    let a = object_lies sc m.place.at.value h.0.object in
    let b = objects_lie shelves w sc ms h.1 in
    (a.0 ∷ b.0, ap (λ z. z ∷ map (λ (x : Made). block_view x.place.at.value) ms) a.1 ∙ ap (λ zs. Block.object a.0 ∷ zs) b.1)

stack_lies : (Q : Stand (List ℕ) → Type 0) (v : rust.Block) → orders.HasStack Q v → (a : Stand (List ℕ)) × (block_view v ≡ Block.stack a)
stack_lies Q (rust.Block.Object o) h = absurd h
stack_lies Q (rust.Block.Frozen a) h = (a, refl)

pub ended_somehow : (shelves : ShelvesSeen) (w : ℕ) (sc : Script) (task : TaskId) (e : End) → EndAt shelves w sc task e
    → (how : HowEnded) × EndedSo e how
ended_somehow shelves w sc task (End.Made ms) h =
    let o = objects_lie shelves w sc ms.items h in
    (HowEnded.made o.0, (o.0, o.1, refl))
ended_somehow shelves w sc task (End.Saved p j refs holds mark) h =
    let a = stack_lies _ p.at.value h.stack in
    (HowEnded.saved j (frozen_bytes a.0), (a.0, a.1, refl))
ended_somehow shelves w sc task (End.Shown (Shown.Text text)) h = (HowEnded.answered text, refl)
ended_somehow shelves w sc task (End.Shown (Shown.Fault fault)) h = (HowEnded.failed fault, refl)
ended_somehow shelves w sc task (End.Missing name loss seen) h = (HowEnded.missing name loss.number, refl)

-- ---- the model's blocks

object_is : (g : s.Obj → Object (List ℕ)) (seen : Option s.Obj) (b : Block) (o : Object (List ℕ)) → b ≡ Block.object o
    → option_map (λ x. Block.object (g x)) seen ≡ Some b → (x : s.Obj) × (seen ≡ Some x) × (o ≡ g x)
object_is g None b o e q = cc
object_is g (Some x) b o e q =
    let t : Some (Block.object (g x)) ≡ Some (Block.object o) = q ∙ ap (λ z. Some z) e in
    let same : o ≡ g x = cc in
    (x, refl, same)

stack_is : (g : n.State → Stand (List ℕ)) (seen : Option n.State) (b : Block) (a : Stand (List ℕ)) → b ≡ Block.stack a
    → option_map (λ x. Block.stack (g x)) seen ≡ Some b → (x : n.State) × (seen ≡ Some x) × (a ≡ g x)
stack_is g None b a e q = cc
stack_is g (Some x) b a e q =
    let t : Some (Block.stack (g x)) ≡ Some (Block.stack a) = q ∙ ap (λ z. Some z) e in
    let same : a ≡ g x = cc in
    (x, refl, same)

module _ (digest : List ℕ → List ℕ) (job : s.Job) (gives : Gives) where
  abbrev S : Setting s.Desc P Block
  S = the_shop digest job gives

  -- each output in order has its mark
  marked_names : (ds : List s.Desc) (ms : List (s.Desc × Digest)) → Marked S.job ds ms → names_of ms ≡ ds
  marked_names [] [] k = refl
  marked_names [] (m ∷ ms) k = absurd k
  marked_names (d ∷ ds) [] k = absurd k
  marked_names (d ∷ ds) (m ∷ ms) k = ap (λ z. z ∷ names_of ms) k.0 ∙ ap (λ zs. d ∷ zs) (marked_names ds ms k.2)

  objects_are : (o : OpenStart s.Desc) (made : List (s.Desc × Digest)) (ms : List Made) (os : List (Object (List ℕ)))
      → ((d : s.Desc) → In d (names_of made) → In d (S.job.outputs o.task)) → low_made S.job made ≡ made_keys (map output_view ms)
      → Each (OutputLies S o) (map output_view ms) → map (λ (m : Made). block_view m.place.at.value) ms ≡ map Block.object os
      → OneByOne (IsObjectOf digest job gives) (names_of made) os
  objects_are o [] [] [] i e l b = tt
  objects_are o [] [] (x ∷ os) i e l b = cc
  objects_are o [] (m ∷ ms) os i e l b = cc
  objects_are o (d ∷ made) [] os i e l b = cc
  objects_are o (d ∷ made) (m ∷ ms) [] i e l b = cc
  objects_are o (d ∷ made) (m ∷ ms) (x ∷ os) i e l b =
      let key : (S.job.name d.0, d.1) ≡ (m.name, m.mark) = heads e in
      let name : S.job.name d.0 ≡ m.name = ap (λ (z : Digest × Digest). z.0) key in
      let keys : low_made S.job made ≡ made_keys (map output_view ms) = tails e in
      let block : block_view m.place.at.value ≡ Block.object x = heads b in
      let blocks : map (λ (z : Made). block_view z.place.at.value) ms ≡ map Block.object os = tails b in
      let has : HasObject S m.place d.0 = l.0 d.0 (i d.0 (inl refl)) (sym name) in
      let got = object_is (object_by_names digest) (s.see job (json_around gives) has.0 d.0) (block_view m.place.at.value) x block has.1 in
      ((has.0, got.0, got.1, got.2), objects_are o made ms os (λ z j. i z (inr j)) keys l.1 blocks)

  -- ---- by the task

  done_made : (t : Task s.Desc) (ms : _) → OfTask (task_id S.job t) (End.Made ms) → (outputs : List s.Desc) (how : HowEnded)
      (os : List (Object (List ℕ))) → OneByOne (IsObjectOf digest job gives) outputs os → how ≡ HowEnded.made os
      → IsDone digest job gives t outputs how
  done_made show ms k outputs how os all e = absurd k
  done_made (of d) ms k outputs how os all e = (os, all, e)

  done_shown : (t : Task s.Desc) (shown : Shown) → OfTask (task_id S.job t) (End.Shown shown) → AnswerIs digest job gives (End.Shown shown)
      → (outputs : List s.Desc) (how : HowEnded) → EndedSo (End.Shown shown) how → IsDone digest job gives t outputs how
  done_shown (of d) shown k a outputs how e = absurd k
  done_shown show (Shown.Text text) k a outputs how e = subst (λ z. IsDone digest job gives show outputs z) (sym e) a
  done_shown show (Shown.Fault fault) k a outputs how e = subst (λ z. IsDone digest job gives show outputs z) (sym e) a

module _ {K N : Type 0} {gives : K → Gives} {digest : N → List ℕ → List ℕ} {shop_ : Shop K N} {b c : Board P} {r : Report}
    (x : TakenAs gives digest shop_ b c r) where
  abbrev D : List ℕ → List ℕ
  D = digest shop_.namer

  abbrev J : s.Job
  J = job_view shop_.job

  abbrev G : Gives
  G = gives shop_.kit

  abbrev T : Setting s.Desc P Block
  T = the_shop D J G

  abbrev items : List (Desc (List ℕ))
  items = map (λ (m : Named). desc_view m.desc) r.spawned.items

  abbrev Copies : End → List (List ℕ)
  Copies (End.Made ms) = names_in r.copied.items
  Copies (End.Shown shown) = names_in r.copied.items
  Copies (End.Saved p j refs holds mark) = []
  Copies (End.Missing name loss seen) = []

  copies_are : copy_names (copies_view r.copied.items) ≡ names_in r.copied.items
  copies_are = copied_names shop_.shelves r.worker J.script r.copied.items x.places.copied

  allowed : Allowed T.job b.plan (standing T.job x.history) x.event
  allowed = (lawful_split T.job b.plan (before_all T.job) x.history (x.event ∷ []) x.lawful).1.0.allowed

  -- the record of an end that is told so, by the event
  abbrev Told : Event s.Desc → End → HowEnded → Type 0
  Told e q how = RecordOf D J G x.history e (report_record r.number items (Copies q) how)

  abbrev Tells : Event s.Desc → End → Type 0
  Tells e q = report_of T.job T.inner T.lower e ≡ Some (report_view r.number r.spawned.items (how_view r.copied.items q))

  abbrev d : R
  d = record { number = 0; spawned = []; end = report.made [] [] }

  module _ (k : ℕ) (made : List (s.Desc × Digest)) (copied spawned : List s.Desc) (q : End) (t : Tells (done k made copied spawned) q)
      (ok : Allowed T.job b.plan (standing T.job x.history) (done k made copied spawned)) where
    number : k ≡ r.number
    number = ap (numbered d) t

    spawns : map (by_names D) spawned ≡ items
    spawns = ap (spawned_of d) t

    end_is : report.made (low_made T.job made) (low_names T.job copied) ≡ rep.end_view (how_view r.copied.items q)
    end_is = ap (end_of d) t

    is_open : find_open T.job k (standing T.job x.history).orders ≡ Some x.start
    is_open = subst (λ z. find_open T.job z (standing T.job x.history).orders ≡ Some x.start) (sym number) x.is_open

    same : ok.0 ≡ x.start
    same = let e : Some ok.0 ≡ Some x.start = sym ok.1 ∙ is_open in cc

    outputs_are : names_of made ≡ T.job.outputs x.start.task
    outputs_are =
        marked_names D J G (T.job.outputs x.start.task) made
        (subst (λ (o : OpenStart s.Desc). Marked T.job (T.job.outputs o.task) made) same ok.2.marked)

    record_is : (how : HowEnded) → IsDone D J G x.start.task (names_of made) how → low_names T.job copied ≡ Copies q
        → Told (done k made copied spawned) q how
    record_is how is copies = (
      x.start,
      is_open,
      (
        how,
        is,
        ap (λ z. report_record z items (Copies q) how) (sym number)
            ∙ (ap (λ z. report_record k z (Copies q) how) (sym spawns) ∙ ap (λ z. report_record k (map (by_names D) spawned) z how) (sym copies)),
      ),
    )

  done_record : (k : ℕ) (made : List (s.Desc × Digest)) (copied spawned : List s.Desc) (q : End) → r.end ≡ q → Tells (done k made copied spawned) q
      → Allowed T.job b.plan (standing T.job x.history) (done k made copied spawned) → (how : HowEnded) → EndedSo q how
      → Told (done k made copied spawned) q how
  done_record k made copied spawned (End.Made ms) e t ok how so =
      let ends = end_is k made copied spawned (End.Made ms) t ok in
      let keys : low_made T.job made ≡ made_keys (map output_view ms.items) = cc in
      let copies : low_names T.job copied ≡ copy_names (copies_view r.copied.items) = cc in
      let outs = outputs_are k made copied spawned (End.Made ms) t ok in
      let lies : Lies T x.start (how_view r.copied.items (End.Made ms)) = subst (λ z. Lies T x.start (how_view r.copied.items z)) e x.lies in
      let all = objects_are D J G x.start made ms.items so.0 (λ z. subst (In z) outs) keys lies.0 so.1 in
      let kind = subst (λ z. OfTask z (End.Made ms)) x.task (subst (OfTask r.task) e x.kind) in
      record_is k made copied spawned (End.Made ms) t ok how (done_made D J G x.start.task ms kind (names_of made) how so.0 all so.2)
      (copies ∙ copies_are)
  done_record k made copied spawned (End.Shown shown) e t ok how so =
      let ends = end_is k made copied spawned (End.Shown shown) t ok in
      let copies : low_names T.job copied ≡ copy_names (copies_view r.copied.items) = cc in
      let kind = subst (λ z. OfTask z (End.Shown shown)) x.task (subst (OfTask r.task) e x.kind) in
      record_is k made copied spawned (End.Shown shown) t ok how
      (done_shown D J G x.start.task shown kind (subst (AnswerIs D J G) e x.shows) (names_of made) how so) (copies ∙ copies_are)
  done_record k made copied spawned (End.Saved p j refs holds mark) e t ok how so =
      let ends = end_is k made copied spawned (End.Saved p j refs holds mark) t ok in cc
  done_record k made copied spawned (End.Missing name loss seen) e t ok how so =
      let ends = end_is k made copied spawned (End.Missing name loss seen) t ok in cc

  saved_record : (k j : ℕ) (mark : Digest) (refs holds spawned : List s.Desc) (q : End) → r.end ≡ q → Tells (saved k j mark refs holds spawned) q
      → (how : HowEnded) → EndedSo q how → Told (saved k j mark refs holds spawned) q how
  saved_record k j mark refs holds spawned (End.Saved p i rs hs m) e t how so =
      let number : k ≡ r.number = ap (numbered d) t in
      let spawns : map (by_names D) spawned ≡ items = ap (spawned_of d) t in
      let ends : report.stopped j mark (low_names T.job refs) (low_names T.job holds) ≡ report.stopped i m rs hs = ap (end_of d) t in
      let wait : j ≡ i = cc in
      let has : HasState T p x.start.task i = subst (λ z. Lies T x.start (how_view r.copied.items z)) e x.lies in
      let got = stack_is (state_by_names D) (n.stands_at J (json_around G) has.0 (back x.start.task) i) (block_view p.at.value) so.0 so.1 has.1 in (
        x.start,
        subst (λ z. find_open T.job z (standing T.job x.history).orders ≡ Some x.start) (sym number) x.is_open,
        (
          frozen_bytes so.0,
          subst (λ z. IsStackOf D J G x.start.task z (frozen_bytes so.0)) (sym wait) (has.0, got.0, got.1, ap frozen_bytes got.2),
          ap (λ z. report_record z items [] how) (sym number)
              ∙ (ap (λ z. report_record k z [] how) (sym spawns)
              ∙ ap (report_record k (map (by_names D) spawned) []) (so.2 ∙ ap (λ z. HowEnded.saved z (frozen_bytes so.0)) (sym wait))),
        ),
      )
  saved_record k j mark refs holds spawned (End.Made ms) e t how so =
      let ends : report.stopped j mark (low_names T.job refs) (low_names T.job holds) ≡ rep.end_view (how_view r.copied.items (End.Made ms)) =
      ap (end_of d) t in cc
  saved_record k j mark refs holds spawned (End.Shown shown) e t how so =
      let ends : report.stopped j mark (low_names T.job refs) (low_names T.job holds) ≡ rep.end_view (how_view r.copied.items (End.Shown shown)) =
      ap (end_of d) t in cc
  saved_record k j mark refs holds spawned (End.Missing name loss seen) e t how so =
      let ends : report.stopped j mark (low_names T.job refs) (low_names T.job holds)
      ≡ rep.end_view (how_view r.copied.items (End.Missing name loss seen)) = ap (end_of d) t in cc

  missed_record : (k : ℕ) (what : s.Desc) (at : ℕ) (q : End) → Tells (missed k what at) q → (how : HowEnded) → EndedSo q how
      → Told (missed k what at) q how
  missed_record k what at (End.Missing name loss seen) t how so =
      let number : k ≡ r.number = ap (numbered d) t in
      let spawns : [] ≡ items = ap (spawned_of d) t in
      let ends : report.missing (T.job.name what) at ≡ report.missing name loss.number = ap (end_of d) t in
      let named : T.job.name what ≡ name = cc in
      let where_ : at ≡ loss.number = cc in
      ap (λ z. report_record z items [] how) (sym number)
      ∙ (ap (λ z. report_record k z [] how) (sym spawns)
      ∙ ap (report_record k [] []) (so ∙ (ap (λ z. HowEnded.missing z loss.number) (sym named)
      ∙ ap (HowEnded.missing (T.job.name what)) (sym where_))))
  missed_record k what at (End.Made ms) t how so =
      let ends : report.missing (T.job.name what) at ≡ rep.end_view (how_view r.copied.items (End.Made ms)) = ap (end_of d) t in cc
  missed_record k what at (End.Shown shown) t how so =
      let ends : report.missing (T.job.name what) at ≡ rep.end_view (how_view r.copied.items (End.Shown shown)) = ap (end_of d) t in cc
  missed_record k what at (End.Saved p j refs holds mark) t how so =
      let ends : report.missing (T.job.name what) at ≡ rep.end_view (how_view r.copied.items (End.Saved p j refs holds mark)) = ap (end_of d) t in
      cc

  by_event : (e : Event s.Desc) (q : End) → r.end ≡ q → Tells e q → Allowed T.job b.plan (standing T.job x.history) e → (how : HowEnded)
      → EndedSo q how → Told e q how
  by_event (start k w u from) q e t ok how so = cc
  by_event (done k made copied spawned) q e t ok how so = done_record k made copied spawned q e t ok how so
  by_event (saved k j mark refs holds spawned) q e t ok how so = saved_record k j mark refs holds spawned q e t how so
  by_event (missed k what at) q e t ok how so = missed_record k what at q t how so
  by_event (lost w closes) q e t ok how so = cc

  copies_told : (q : End) → told_copies (record r { end = q }) ≡ Copies q
  copies_told (End.Made ms) = refl
  copies_told (End.Shown shown) = refl
  copies_told (End.Saved p j refs holds mark) = refl
  copies_told (End.Missing name loss seen) = refl

  -- what a log has of it is the event's record
  pub record_told : (how : HowEnded) → EndedSo r.end how → RecordOf D J G x.history x.event (report_record r.number items (told_copies r) how)
  record_told how so =
      subst (λ z. RecordOf D J G x.history x.event (report_record r.number items z how)) (sym (copies_told r.end))
      (by_event x.event r.end refl x.tells allowed how so)

  pub somehow : (how : HowEnded) × EndedSo r.end how
  somehow = ended_somehow shop_.shelves r.worker J.script r.task r.end x.places.end
