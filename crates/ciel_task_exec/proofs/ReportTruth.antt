-- The report of an executor's order says what the job does.
use Rattle.std.proofs.Common.{◌≡◌, ℕ, zero, suc, ◌+◌, ◌≤◌, List, [], ◌∷◌, length, map, Bool, true, false, Some, Result, inl, inr, refl, sym, ap, ap₂}
use Rattle.std.proofs.Common.{subst, ◌∙◌, arith}
use Rattle.std.specs.List.{AllByRecursion, IsDistinct}
use Rattle.sky_base.specs.Eval.{outputs}
use Rattle.sky_base.specs.KitView.{Gives}
use Rattle.sky_base.specs.Name.{digested, held_name}
use Rattle.sky_base.specs.Needed.{distinct_refs}
use Rattle.sky_base.specs.See as s
use Rattle.sky_base.specs.Tree.{Script}
use Rattle.sky_base.specs.Val as v
use Rattle.sky_base.specs.Val.{distinct, out, refs, same_text}
use Rattle.sky_base.specs.View.{view}
use Rattle.sky_base.specs.declared.fault.Fault.{Fault}
use Rattle.sky_base.specs.declared.object.Desc1.{Desc1}
use Rattle.sky_base.specs.declared.value.Value.{Value}
use Rattle.sky_base.proofs.Exact.{exact_text, self_text}
use Rattle.sky_base_law.specs.Tasks as t
use Rattle.sky_base_law.proofs.TaskOutputs.{distinct_in, in_distinct_refs, same_exact}
use Rattle.sky_base_exec.specs.Perform.{output_of}
use Rattle.sky_base_waves.specs.Seen.{Sees}
use Rattle.ciel_master_board.specs.Follows.{OrderIs}
use Rattle.ciel_master_board.specs.Reports.{copy_names, end_view, made, made_keys}
use Rattle.ciel_master_board.specs.Setting.{Setting}
use Rattle.ciel_journal.specs.Entries.{low_made, low_names}
use Rattle.ciel_journal.specs.History.{OpenStart}
use Rattle.ciel_journal.specs.Job as j
use Rattle.ciel_journal.specs.Job.{Digest, ObjectOf, of}
use Rattle.ciel_journal.specs.Lawful.{Copied, Marked}
use Rattle.ciel_journal_job.specs.Real.{mark_if}
use Rattle.ciel_journal_job.proofs.RealLaw.{in_to}
use Rattle.ciel_name.specs.Object.{object_bytes}
use Rattle.ciel_journal_job.specs.Report.{End, MadeIs, Report, Says, at_end, missing}
use Rattle.ciel_journal_job.specs.Report as report
use Rattle.ciel_store.specs.Seen.{ShelvesSeen}
use Rattle.ciel_task_order.specs.Named.{mark_of}
use Rattle.ciel_task_order.specs.Orders.{OrderSound, names_in}
use Rattle.ciel_task_order.specs.Shop as shop
use Rattle.ciel_task_order.specs.Shop.{InputsInOrder, shop_setting}
use Rattle.ciel_task_order.specs.Views.{P, copies_view, order_view, output_view}
use Rattle.ciel_task_order.specs.declared.block.Held.{Held}
use Rattle.ciel_task_order.specs.declared.order.Order.{Order}
use Rattle.ciel_task_order.specs.declared.report.Made.{Made}
use Rattle.ciel_task_inputs.specs.Copies.{Copies, IsCopy}
use Rattle.ciel_task_inputs.specs.Fetched.{fetched}
use Rattle.ciel_task_inputs.proofs.CopiedObjects.{copies_named, copy_fetched}
use Rattle.ciel_task_inputs.proofs.FetchedNames.{fetched_of}
use Rattle.ciel_task_exec.specs.Outputs.{AreOutputs, OutputsFrom}
use Rattle.ciel_task_exec.proofs.OrderTask as going
use Rattle.sha1.specs.Sha1.{sha1}

module _ (digest : List ℕ → List ℕ) (shelves : ShelvesSeen) (sc : Script) (count : ℕ) (order : Order)
    (sound : OrderSound digest shelves sc count order) (x : List ℕ) (args : Value) (n : ℕ) (by : order.desc ≡ Some (Desc1.Exec x args n 0))
    (job : s.Job) (gives : Gives) (keyed : InputsInOrder job) (o : OpenStart s.Desc)
    (is : OrderIs (shop_setting digest job gives) o (order_view order)) where
  abbrev S : Setting s.Desc P shop.Block
  S = shop_setting digest job gives

  abbrev b : s.Val
  b = going.b digest shelves sc count order sound x args n by job gives keyed o is

  abbrev fuel : ℕ
  fuel = going.fuel digest shelves sc count order sound x args n by job gives keyed o is

  abbrev task_is : o.task ≡ of (out x b n 0)
  task_is = going.task_is digest shelves sc count order sound x args n by job gives keyed o is

  abbrev from_is : o.from ≡ 0
  from_is = going.from_is digest shelves sc count order sound x args n by job gives keyed o is

  abbrev result : Result (List (List ℕ)) Fault
  result = going.made_here digest shelves sc count order sound x args n by job gives keyed o is

  -- ---- the outputs with their marks

  pub object_seen : (i : ℕ) → ObjectOf S.job (out x b n i) (sha1 (object_bytes (output_of result i)))
  object_seen i = go (going.sees digest shelves sc count order sound x args n by job gives keyed o is i)
    where
      go : Sees job (going.around digest shelves sc count order sound x args n by job gives keyed o is) (digested digest) (suc fuel)
          (out x b n i) (output_of result i) → ObjectOf S.job (out x b n i) (sha1 (object_bytes (output_of result i)))
      go (p, e, q) = (
        suc fuel,
        ap (mark_if job (going.around digest shelves sc count order sound x args n by job gives keyed o is) S.job.name
            (mark_of digest) (λ a. [])) e ∙ ap (λ y. Some (sha1 (object_bytes y))) q,
      )

  paired : ℕ → List Made → List (s.Desc × Digest)
  paired i [] = []
  paired i (m ∷ ms) = (out x b n i, m.mark) ∷ paired (suc i) ms

  marked_from : (c i : ℕ) (ms : List Made) → length ms ≡ c → OutputsFrom digest shelves order.worker x (view args) n result i ms
      → Marked S.job (outputs x b n i c) (paired i ms)
  unfolding paired
  marked_from zero i [] e h = tt
  marked_from zero i (m ∷ ms) e h = absurd (omega (arith, e))
  marked_from (suc c) i [] e h = absurd (omega (arith, e))
  marked_from (suc c) i (m ∷ ms) e h =
      (refl, subst (ObjectOf S.job (out x b n i)) (sym h.0.mark) (object_seen i), marked_from c (suc i) ms (omega (arith, e)) h.1)

  keys_from : (i : ℕ) (ms : List Made) → OutputsFrom digest shelves order.worker x (view args) n result i ms → made_keys (map output_view ms)
      ≡ low_made S.job (paired i ms)
  unfolding paired
  keys_from i [] h = refl
  keys_from i (m ∷ ms) h =
      ap₂ (λ k ks. k ∷ ks) (ap (λ y. (y, m.mark))
      (h.0.name ∙ ap (λ v. digested digest (out x v n i))
      (sym (going.args_are digest shelves sc count order sound x args n by job gives keyed o is)))) (keys_from (suc i) ms h.1)

  -- ---- what was copied

  distinct_descs : (ds : List s.Desc) → IsDistinct same_text (low_names S.job ds) → IsDistinct S.job.same ds
  unfolding IsDistinct
  distinct_descs [] h = tt
  distinct_descs (d ∷ ds) h = (others ds h.0, distinct_descs ds h.1)
    where
      true_false : true ≡ false → ⊥
      true_false e = cc

      others : (es : List s.Desc) → AllByRecursion (λ y. same_text (S.job.name d) y ≡ false) (low_names S.job es)
          → AllByRecursion (λ e. t.same d e ≡ false) es
      others [] g = tt
      others (e ∷ es) g = (no (t.same d e) refl, others es g.1)
        where
          no : (c : Bool) → t.same d e ≡ c → t.same d e ≡ false
          no false q = q
          no true q =
              absurd (true_false (sym (self_text (S.job.name d)) ∙ ap (λ y. same_text (S.job.name d) (S.job.name y)) (same_exact d e q) ∙ g.0))

  -- what was fetched of the references of the arguments
  abbrev fetches : List (List ℕ)
  fetches = fetched order.worker order.inputs.items (distinct same_text (refs (view args)))

  -- what a copy is of
  copy_of : (c : Held) → IsCopy shelves order.worker job.inputs order.inputs.items c → t.In c.name fetches → (d : s.Desc)
      × Copied S.job o d × (S.job.name d ≡ c.name)
  copy_of c copy i = (
    back.0,
    (
      (0, distinct_refs b, omega (arith, from_is), sym (ap S.job.first task_is), in_to back.0 (distinct_refs b) (in_distinct_refs b back.0 back.1)),
      (copy_fetched digest job gives o order is shelves c copy back.0
          (going.held_there digest shelves sc count order sound x args n by job gives keyed o is back.0 back.1) named).0,
    ),
    sym named,
  )
    where
      asked : (r : v.Desc (List ℕ)) × t.In r (distinct same_text (refs (view args))) × (c.name ≡ held_name r)
      asked = fetched_of order.worker order.inputs.items (distinct same_text (refs (view args))) c.name i

      back : (d : s.Desc) × t.In d (refs b) × (held_name asked.0 ≡ S.job.name d)
      back = going.of_ref digest shelves sc count order sound x args n by job gives keyed o is asked.0
          (distinct_in same_text exact_text self_text (refs (view args)) asked.0 asked.1)

      named : c.name ≡ S.job.name back.0
      named = asked.2 ∙ back.2

  copies_of : (cs : List Held) → t.Each (IsCopy shelves order.worker job.inputs order.inputs.items) cs
      → ((m : List ℕ) → t.In m (names_in cs) → t.In m fetches) → (ds : List s.Desc) × j.Each (Copied S.job o) ds
      × (low_names S.job ds ≡ names_in cs)
  copies_of [] h f = ([], tt, refl)
  copies_of (c ∷ cs) h f = join (copy_of c h.0 (f c.name (inl refl))) (copies_of cs h.1 (λ m i. f m (inr i)))
    where
      join : (d : s.Desc) × Copied S.job o d × (S.job.name d ≡ c.name) → (ds : List s.Desc) × j.Each (Copied S.job o) ds
          × (low_names S.job ds ≡ names_in cs) → (ds : List s.Desc) × j.Each (Copied S.job o) ds × (low_names S.job ds ≡ names_in (c ∷ cs))
      join (d, w, e) (ds, ws, es) = (d ∷ ds, (w, ws), ap₂ (λ y ys. y ∷ ys) e es)

  -- ---- the report

  abbrev Said : End → Type 0
  Said e = Says S.job S.inner S.lower o (record { number = order.number; spawned = []; end = e })

  pub says_missing : (name : Digest) (loss : ℕ) → Said (missing name loss)
  says_missing name loss =
      at_end [] (going.next_end digest shelves sc count order sound x args n by job gives keyed o is)
      (going.spawned digest shelves sc count order sound x args n by job gives keyed o is) refl (λ c. tt)

  pub says_made : (ms : List Made) (cs : List Held) → AreOutputs digest shelves order.worker x (view args) n result ms
      → Copies shelves order.worker job.inputs order.inputs.items cs → names_in cs ≡ fetches
      → Said (end_view (made (map output_view ms) (copies_view cs)))
  says_made ms cs are copies tells =
      at_end [] (going.next_end digest shelves sc count order sound x args n by job gives keyed o is)
      (going.spawned digest shelves sc count order sound x args n by job gives keyed o is) refl (λ c. is_made (copies_of cs copies.0 (λ m i. subst (t.In m) tells i)))
    where
      is_made : (ds : List s.Desc) × j.Each (Copied S.job o) ds × (low_names S.job ds ≡ names_in cs)
          → MadeIs S.job S.inner S.lower o (end_view (made (map output_view ms) (copies_view cs)))
      is_made (ds, from, names) = (
        paired 0 ms,
        ds,
        subst (λ es. Marked S.job es (paired 0 ms)) (sym (ap S.job.outputs task_is)) (marked_from n 0 ms are.0 are.1),
        from,
        distinct_descs ds (subst (IsDistinct same_text) (sym names) copies.1),
        keys_from 0 ms are.1,
        copies_named digest shelves job.inputs order cs copies.0 ∙ sym names,
      )
