-- What lies at the places of the report of an executor's order is the job's.
use Rattle.std.proofs.Common.{◌≡◌, ℕ, zero, suc, ◌+◌, ◌<◌, ◌≤◌, List, [], ◌∷◌, ◌++◌, length, map, Some, Result, ◌⊎◌, inl, inr, refl, sym, ap, ap₂}
use Rattle.std.proofs.Common.{subst, ◌∙◌, arith}
use Rattle.std.specs.Option.{option_map}
use Rattle.sky_base.specs.Eval.{outputs}
use Rattle.sky_base.specs.KitView.{Gives}
use Rattle.sky_base.specs.Name.{digested}
use Rattle.sky_base.specs.Needed.{distinct_refs}
use Rattle.sky_base.specs.See as s
use Rattle.sky_base.specs.Tree.{Script}
use Rattle.sky_base.specs.Val.{known, out, refs}
use Rattle.sky_base.specs.View.{view}
use Rattle.sky_base.specs.declared.fault.Fault.{Fault}
use Rattle.sky_base.specs.declared.object.Desc1.{Desc1}
use Rattle.sky_base.specs.declared.value.Value.{Value}
use Rattle.sky_base_law.specs.Tasks as t
use Rattle.sky_base_law.proofs.TaskOutputs.{distinct_refs_in}
use Rattle.sky_base_exec.specs.Perform.{output_of}
use Rattle.sky_base_waves.specs.Seen.{Sees}
use Rattle.ciel_master_board.specs.Follows.{OrderIs}
use Rattle.ciel_master_board.specs.Laws.{CopyLies, Lies, LiesUnlessClash, OutputLies}
use Rattle.ciel_master_board.specs.Reports as board
use Rattle.ciel_master_board.specs.Setting.{HasObject, Setting}
use Rattle.ciel_journal.specs.History.{Event, OpenStart, Plan, Standing, after, before_all, done, find_open, lost, missed, saved, standing, start}
use Rattle.ciel_journal.specs.Job as j
use Rattle.ciel_journal.specs.Job.{IsJob, WaitOf, of}
use Rattle.ciel_journal.specs.Lawful.{Allowed, Copied, Lawful, NoClash}
use Rattle.ciel_journal.proofs.Good.{after_done, after_missed, after_saved}
use Rattle.ciel_journal.proofs.Members.{each_of}
use Rattle.ciel_journal.proofs.Numbers.{found_in}
use Rattle.ciel_journal.proofs.Shelved.{learned_in, shelved_all, shelved_start}
use Rattle.sky_base_law.proofs.Lists.{below_or_same}
use Rattle.ciel_journal_job.proofs.RealLaw.{in_from, real_laws}
use Rattle.ciel_store.specs.Seen.{ShelvesSeen}
use Rattle.ciel_task_order.specs.Orders.{OrderSound}
use Rattle.ciel_task_order.specs.Named.{frozen_mark, mark_of, name_of, object_by_names}
use Rattle.ciel_task_order.specs.Shop as shop
use Rattle.ciel_task_order.specs.Shop.{InputsInOrder, shop_setting}
use Rattle.ciel_task_order.specs.Views.{P, copies_view, order_view, output_view}
use Rattle.ciel_task_order.specs.declared.block.Held.{Held}
use Rattle.ciel_task_order.specs.declared.order.Order.{Order}
use Rattle.ciel_task_order.specs.declared.report.Made.{Made}
use Rattle.ciel_task_inputs.specs.Copies.{IsCopy}
use Rattle.ciel_task_inputs.proofs.CopiedObjects.{copy_fetched, copy_seen}
use Rattle.ciel_task_inputs.proofs.NameSpots.{is_object}
use Rattle.ciel_task_exec.specs.Outputs.{AreOutputs, IsMade, OutputsFrom}
use Rattle.ciel_task_exec.proofs.OrderTask as going

module _ (digest : List ℕ → List ℕ) (shelves : ShelvesSeen) (sc : Script) (count : ℕ) (order : Order)
    (sound : OrderSound digest shelves sc count order) (x : List ℕ) (args : Value) (n : ℕ) (by : order.desc ≡ Some (Desc1.Exec x args n 0))
    (job : s.Job) (gives : Gives) (keyed : InputsInOrder job) (o : OpenStart s.Desc)
    (is : OrderIs (shop_setting digest job gives) o (order_view order)) where
  abbrev S : Setting s.Desc P shop.Block
  S = shop_setting digest job gives

  abbrev b : s.Val
  b = going.b digest shelves sc count order sound x args n by job gives keyed o is

  abbrev fuel : ℕ
  fuel = going.fuel digest shelves sc count order sound x args n by job gives keyed o is

  abbrev task_is : o.task ≡ of (out x b n 0)
  task_is = going.task_is digest shelves sc count order sound x args n by job gives keyed o is

  abbrev result : Result (List (List ℕ)) Fault
  result = going.made_here digest shelves sc count order sound x args n by job gives keyed o is

  laws : IsJob S.job
  laws = real_laws job (going.around digest shelves sc count order sound x args n by job gives keyed o is) (name_of digest) (mark_of digest)
      (frozen_mark digest)

  -- ---- the outputs

  -- the object of an output lies where it was put
  has_object : (i : ℕ) (m : Made) → IsMade digest shelves order.worker (out x (view args) n i) (output_of result i) m
      → HasObject S m.place (out x b n i)
  has_object i m h = go (going.sees digest shelves sc count order sound x args n by job gives keyed o is i)
    where
      go : Sees job (going.around digest shelves sc count order sound x args n by job gives keyed o is) (digested digest) (suc fuel)
          (out x b n i) (output_of result i) → HasObject S m.place (out x b n i)
      go (p, e, q) = (
        suc fuel,
        ap (option_map (λ y. shop.Block.object (object_by_names digest y))) e ∙ ap (λ y. Some (shop.Block.object y)) q
            ∙ ap Some (sym (is_object m.place.at.value (output_of result i) h.object)),
      )

  output_in : (c i k : ℕ) → i ≤ k → k < i + c → j.In (out x b n k) (outputs x b n i c)
  output_in zero i k up down = absurd (omega (arith, up, down))
  output_in (suc c) i k up down =
      on (below_or_same i k up) (λ l. output_in c (suc i) k (omega (arith, l)) (omega (arith, down)))
    where
      on : (i < k) ⊎ (i ≡ k) → (i < k → j.In (out x b n k) (outputs x b n (suc i) c)) → j.In (out x b n k) (outputs x b n i (suc c))
      on (inr e) rest = inl (ap (out x b n) (sym e))
      on (inl l) rest = inr (rest l)

  -- an output is in the book
  booked : (p : Plan) (h : List (Event s.Desc)) → Lawful S.job p h → find_open S.job order.number (standing S.job h).orders ≡ Some o
      → (d : s.Desc) → j.In d (S.job.outputs o.task) → j.In d (standing S.job h).book
  booked p h lawful is_open d i =
      let sh = shelved_all S.job laws p (before_all S.job) h (shelved_start S.job laws) lawful in
      let at = found_in S.job laws order.number (standing S.job h).orders o is_open in
      each_of (λ e. j.In e (standing S.job h).book) d (S.job.outputs o.task) i
      (each_of (λ (q : OpenStart s.Desc). j.Each (λ e. j.In e (standing S.job h).book) (S.job.outputs q.task)) o (standing S.job h).orders
      at.0 sh.outputs)

  book_grows : (p : Plan) (v : Standing s.Desc) (e : Event s.Desc) → Allowed S.job p v e → (d : s.Desc) → j.In d v.book
      → j.In d (after S.job v e).book
  book_grows p v (start k w tk from) a d i = i
  book_grows p v (done k made copied spawned) a d i =
      subst (λ (u : Standing s.Desc). j.In d u.book) (sym (after_done S.job laws v k made copied spawned a.0 a.1))
      (learned_in S.job laws v.book spawned d i)
  book_grows p v (saved k c mark refs holds spawned) a d i =
      subst (λ (u : Standing s.Desc). j.In d u.book) (sym (after_saved S.job laws v k c mark refs holds spawned a.0 a.1))
      (learned_in S.job laws v.book spawned d i)
  book_grows p v (missed k e loss) a d i =
      subst (λ (u : Standing s.Desc). j.In d u.book) (sym (after_missed S.job laws v k e loss a.0 a.1)) i
  book_grows p v (lost w closes) a d i = i

  -- no two outputs share a name
  module _ (apart : (d e : s.Desc) → j.In d (S.job.outputs o.task) → j.In e (S.job.outputs o.task) → S.job.name d ≡ S.job.name e → d ≡ e) where
    output_lies : (i : ℕ) (m : Made) → i < n → IsMade digest shelves order.worker (out x (view args) n i) (output_of result i) m
        → OutputLies S o (output_view m)
    output_lies i m under h d k e = subst (HasObject S m.place) (sym same) (has_object i m h)
      where
        name_is : m.name ≡ S.job.name (out x b n i)
        name_is = h.name ∙ ap (λ v. digested digest (out x v n i))
            (sym (going.args_are digest shelves sc count order sound x args n by job gives keyed o is))

        same : d ≡ out x b n i
        same =
            apart d (out x b n i) k (subst (j.In (out x b n i)) (sym (ap S.job.outputs task_is))
            (output_in n 0 i (omega arith) (omega (arith, under)))) (sym e ∙ name_is)

    outputs_lie : (i : ℕ) (ms : List Made) → i + length ms ≡ n → OutputsFrom digest shelves order.worker x (view args) n result i ms
        → j.Each (OutputLies S o) (map output_view ms)
    outputs_lie i [] e h = tt
    outputs_lie i (m ∷ ms) e h =
        (output_lies i m (omega (arith, e)) h.0, outputs_lie (suc i) ms (omega (arith, e)) h.1)

  -- ---- the copies

  held_waited : (d : s.Desc) → Copied S.job o d → t.In d (refs b)
  held_waited d c = go c.0
    where
      at : (k : ℕ) (es : List s.Desc) → WaitOf S.job (of (out x b n 0)) k es → j.In d es → t.In d (refs b)
      at zero es w i = distinct_refs_in b d (in_from d (distinct_refs b) (subst (j.In d) w i))
      at (suc k) es w i = absurd (going.no_wait digest shelves sc count order sound x args n by job gives keyed o is (suc k) es (omega arith) w)

      go : (k : ℕ) × (es : List s.Desc) × (o.from ≤ k) × WaitOf S.job o.task k es × j.In d es → t.In d (refs b)
      go (k, es, l, w, i) = at k es (subst (λ tk. WaitOf S.job tk k es) task_is w) i

  copies_lie : (cs : List Held) → t.Each (IsCopy shelves order.worker job.inputs order.inputs.items) cs → j.Each (CopyLies S o) (copies_view cs)
  copies_lie [] h = tt
  copies_lie (c ∷ cs) h =
      subst (j.Each (CopyLies S o)) (sym (copy_seen digest shelves job.inputs order c h.0 cs)) (one, copies_lie cs h.1)
    where
      one : CopyLies S o (record { name = c.name; place = h.0.place })
      one d w e =
          (copy_fetched digest job gives o order is shelves c h.0 d
          (going.held_there digest shelves sc count order sound x args n by job gives keyed o is d (held_waited d w)) e).1

  -- ---- the report

  pub made_lies : (ms : List Made) (cs : List Held) → AreOutputs digest shelves order.worker x (view args) n result ms
      → t.Each (IsCopy shelves order.worker job.inputs order.inputs.items) cs → (h : List (Event s.Desc)) (p : Plan) → Lawful S.job p h
      → find_open S.job order.number (standing S.job h).orders ≡ Some o
      → LiesUnlessClash S h p o order.number [] (board.made (map output_view ms) (copies_view cs))
  made_lies ms cs are copies h p lawful is_open e tells allowed apart =
      (outputs_lie no_two 0 ms (omega (arith, are.0)) are.1, copies_lie cs copies)
    where
      no_two : (d c : s.Desc) → j.In d (S.job.outputs o.task) → j.In c (S.job.outputs o.task) → S.job.name d ≡ S.job.name c → d ≡ c
      no_two d c i k q =
          apart d c (book_grows p (standing S.job h) e allowed d (booked p h lawful is_open d i))
          (book_grows p (standing S.job h) e allowed c (booked p h lawful is_open c k)) q
