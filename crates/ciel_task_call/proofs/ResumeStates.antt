-- The state from which the task of an order goes on is the task's at the order's wait, where the order is that of an open Start.
use Rattle.std.proofs.Common.{◌≡◌, ◌≤◌, ◌<◌, ℕ, zero, suc, List, [], ◌∷◌, length, map, Bool, true, false, Option, Some, None, nat_le, leb-false, inl}
use Rattle.std.proofs.Common.{refl, sym, ap, subst, ◌∙◌, arith}
use Rattle.std.specs.Option.{option_map}
use Rattle.sha1.specs.Sha1.{sha1}
use Rattle.sky_base.specs.KitView.{Gives}
use Rattle.sky_base.specs.Name.{digested, low, low_desc, low_pairs, low_vals}
use Rattle.sky_base.specs.Needed as n
use Rattle.sky_base.specs.Needed.{WaitOf, distinct_refs, halt_refs, halt_state, only_if, stands_at, unless_none, wait_at, wave_refs, wave_state}
use Rattle.sky_base.specs.Read.{Halt, halt, refs_of}
use Rattle.sky_base.specs.See as s
use Rattle.sky_base.specs.See.{main_call, most_waves, run_of, see, wave}
use Rattle.sky_base.specs.Tree.{Script}
use Rattle.sky_base.specs.Val as v
use Rattle.sky_base.specs.Val.{call, distinct, input, known, out, refs}
use Rattle.sky_base.specs.declared.object.Desc1.{Desc1}
use Rattle.sky_base_law.specs.NamesLaws.{Tag, no_name}
use Rattle.sky_base_law.specs.Lower.{low_ref}
use Rattle.sky_base_law.specs.Tasks.{In}
use Rattle.sky_base_law.proofs.Lists.{some_is}
use Rattle.sky_base_law.proofs.RefsLow.{refs_low}
use Rattle.sky_base_law.proofs.TaskOutputs.{in_distinct}
use Rattle.sky_state.specs.Fits.{Fits, FitsShow}
use Rattle.sky_state.specs.Stand.{Stand, low_state}
use Rattle.sky_state.specs.Stands.{StandsForCall, Stands}
use Rattle.sky_state.proofs.WaitLaw.{stands_wait_is}
use Rattle.ciel_master_board.specs.Follows.{GoesBy, OrderIs}
use Rattle.ciel_master_board.specs.Setting.{HasState, Setting}
use Rattle.ciel_journal.specs.History.{OpenStart}
use Rattle.ciel_journal.specs.Job.{Task, of, show}
use Rattle.ciel_json.specs.Around.{json_around}
use Rattle.ciel_journal_job.specs.Real.{back}
use Rattle.ciel_name.specs.Object.{object_bytes}
use Rattle.ciel_journal_job.specs.Report.{FirstApart}
use Rattle.ciel_task_order.specs.Named.{state_by_names}
use Rattle.ciel_task_order.specs.Shop as shop
use Rattle.ciel_task_order.specs.Shop.{InputsInOrder, block_view, shop_setting}
use Rattle.ciel_task_order.specs.Views.{P, order_view}
use Rattle.ciel_task_order.specs.declared.block.Block.{Block}
use Rattle.ciel_task_order.specs.declared.order.Order.{Order}
use Rattle.ciel_task_inputs.specs.JournalWalksLaws.{Begins}
use Rattle.ciel_task_inputs.specs.Brought.{lies_known}
use Rattle.ciel_task_inputs.proofs.BroughtInputs.{order_brings}
use Rattle.ciel_task_call.specs.Begins.{BeginsAt, IsFrom, IsStartOf}
use Rattle.sky_frozen_bytes.specs.Bytes.{frozen_bytes}

none_not : {A : Type 0} {a : A} → None ≡ Some a → ⊥
none_not e = cc

-- ---- a task that stands somewhere with a state that fits waits for something there

some_first : (tag : Tag) (u : s.Val) → 0 < length (refs (low no_name tag u)) → (d : s.Desc) × In d (refs u)
some_first tag u h = go (refs u) refl
  where
    go : (ds : List s.Desc) → refs u ≡ ds → (d : s.Desc) × In d (refs u)
    go [] e =
        let none : length (refs (low no_name tag u)) ≡ 0 = ap length (refs_low no_name tag u ∙ ap (map (low_ref no_name tag)) e) in
        absurd (omega (arith, h, none))
    go (d ∷ ds) e = (d, subst (In d) (sym e) (inl refl))

listed : (ds : List s.Desc) (d : s.Desc) → In d ds → (es : List s.Desc) × (unless_none ds ≡ Some es)
listed [] d i = absurd i
listed (x ∷ ds) d i = (x ∷ ds, refl)

few_waves : (k : ℕ) → k ≤ most_waves → nat_le k most_waves ≡ true
few_waves k h = go (nat_le k most_waves) refl
  where
    go : (b : Bool) → nat_le k most_waves ≡ b → nat_le k most_waves ≡ true
    go true e = e
    go false e = absurd (omega (arith, h, leb-false k most_waves e))

module _ (job : s.Job) (around : s.Around) (tag : Tag) (sc : Script) where
  wave_waits : (k i : ℕ) (a : n.State) (x : Stand (List ℕ)) (o : Option s.Val) → wave job around k (suc i) ≡ o → wave_state (suc i) o ≡ Some a
      → x ≡ low_state tag a → Fits sc x → (ds : List s.Desc) × WaitOf job around n.Task.show (suc i) ds
  wave_waits k i a x None w e is fits = absurd (none_not e)
  wave_waits k i a x (Some u) w e is fits =
      let at : x ≡ Stand.show_at (low no_name tag u) (suc i) = is ∙ ap (low_state tag) (sym (some_is (n.State.show_at u (suc i)) a e)) in
      let f : FitsShow sc (low no_name tag u) (suc i) = subst (Fits sc) at fits in
      let first = some_first tag u f.refers in
      let all = listed (distinct_refs u) first.0 (in_distinct (λ (y z : ⊥). true) (λ y z q. absurd y) (λ y. absurd y) (refs u) first.0 first.1) in
      (all.0, (k, ap (λ b. only_if b (wave_refs (wave job around k (suc i)))) (few_waves (suc i) f.wave) ∙ ap wave_refs w ∙ all.1))

  halt_waits : (k i : ℕ) (f : List ℕ) (c : s.Pairs) (vs : s.Vals) (a : n.State) (o : Option (Halt ⊥))
      → halt (see job around k) i (run_of job around f c vs) ≡ o → halt_state f (suc i) o ≡ Some a → (ds : List s.Desc)
      × WaitOf job around (n.Task.of (call f c vs)) (suc i) ds
  halt_waits k i f c vs a None w e = absurd (none_not e)
  halt_waits k i f c vs a (Some h) w e = (refs_of h.wait, (k, ap halt_refs w))

  pub stands_waiting : (u : n.Task) (i k : ℕ) (a : n.State) (x : Stand (List ℕ)) → stands_at job around k u i ≡ Some a → x ≡ low_state tag a
      → Fits sc x → (ds : List s.Desc) × WaitOf job around u i ds
  stands_waiting n.Task.show zero k a x e is fits = (main_call ∷ [], (0, refl))
  stands_waiting n.Task.show (suc i) k a x e is fits = wave_waits k i a x (wave job around k (suc i)) refl e is fits
  stands_waiting (n.Task.of (call f c vs)) zero k a x e is fits = ([], (0, refl))
  stands_waiting (n.Task.of (call f c vs)) (suc i) k a x e is fits =
      halt_waits k i f c vs a (halt (see job around k) i (run_of job around f c vs)) refl e
  stands_waiting (n.Task.of (out y z m l)) i k a x e is fits = absurd (none_not e)
  stands_waiting (n.Task.of (input y)) i k a x e is fits = absurd (none_not e)
  stands_waiting (n.Task.of (known y)) i k a x e is fits = absurd y

-- ---- the order's wait

module _ (digest : List ℕ → List ℕ) (job : s.Job) (gives : Gives) (o : OpenStart s.Desc) (order : Order)
    (is : OrderIs (shop_setting digest job gives) o (order_view order)) (x : Stand (List ℕ)) (b : BeginsAt job.script order x) where
  abbrev S : Setting s.Desc P shop.Block
  S = shop_setting digest job gives

  abbrev tag : Tag
  tag = digested digest

  abbrev around : s.Around
  around = json_around gives

  stack_is : (y z : Stand (List ℕ)) → shop.Block.stack y ≡ shop.Block.stack z → y ≡ z
  stack_is y z e = cc

  -- from the stack at its place
  from_stack : (p : P) → order.saved ≡ Some p → p.at.value ≡ Block.Frozen x → Stands job around tag x (back o.task) o.from
  from_stack p saved at = go (stands_at job around h.0 (back o.task) o.from) refl h.1
    where
      h : HasState S p o.task o.from
      h = is.state p saved

      go : (y : Option n.State) → stands_at job around h.0 (back o.task) o.from ≡ y
          → option_map (λ a. shop.Block.stack (state_by_names digest a)) y ≡ Some (block_view p.at.value)
          → Stands job around tag x (back o.task) o.from
      go None e q = absurd (none_not q)
      go (Some a) e q =
          let there : shop.Block.stack (low_state tag a) ≡ shop.Block.stack x =
          some_is (shop.Block.stack (low_state tag a)) (block_view p.at.value) q ∙ ap block_view at in
          (a, (h.0, e), sym (stack_is (low_state tag a) x there))

  -- from its start
  call_is : (f g : List ℕ) (c : v.Pairs (List ℕ)) (vs : v.Vals (List ℕ)) (d : s.Pairs) (us : s.Vals) → call f c vs
      ≡ call g (low_pairs no_name tag d) (low_vals no_name tag us) → (f ≡ g) × (c ≡ low_pairs no_name tag d) × (vs ≡ low_vals no_name tag us)
  call_is f g c vs d us e = (cc, cc, cc)

  called : (f : List ℕ) (c : v.Pairs (List ℕ)) (vs : v.Vals (List ℕ)) (d : s.Desc) → call f c vs ≡ low_desc no_name tag d
      → StandsForCall job.script f c vs x → Stands job around tag x (n.Task.of d) 0
  called f c vs (call g e us) q st =
      let same = call_is f g c vs e us q in
      subst (λ h. Stands job around tag x (n.Task.of (call h e us)) 0) same.0 (st tag job around e us refl same.1 same.2)
  called f c vs (out y z m i) q st = absurd (no q)
    where
      no : call f c vs ≡ out y (low no_name tag z) m i → ⊥
      no e = cc
  called f c vs (input k) q st = absurd (no q)
    where
      no : call f c vs ≡ input k → ⊥
      no e = cc
  called f c vs (known y) q st = absurd y

  at_start : (t : Task s.Desc) (e : Option Desc1) → GoesBy S t e → IsStartOf job.script order.main e x → Stands job around tag x (back t) 0
  at_start show None g h = h.1 tag job around is.main
  at_start show (Some e) g h = absurd g
  at_start (of d) None g h = absurd g
  at_start (of d) (Some (Desc1.Call f c vs)) g h = called f c vs d g h.1
  at_start (of d) (Some (Desc1.Exec y z m i)) g h = absurd h
  at_start (of d) (Some (Desc1.Input k)) g h = absurd h

  from_start : Stands job around tag x (back o.task) 0 → Stands job around tag x (back o.task) o.from
  from_start st =
      let here : 0 ≡ o.from = sym (stands_wait_is job around tag x (back o.task) 0 st) ∙ b.wait ∙ is.out.from in
      subst (Stands job around tag x (back o.task)) here st

  pub stands : Stands job around tag x (back o.task) o.from
  stands = go order.saved refl b.from
    where
      go : (p : Option P) → order.saved ≡ p → IsFrom job.script order p x → Stands job around tag x (back o.task) o.from
      go None e h = from_start (at_start o.task order.desc is.desc h)
      go (Some p) e h = from_stack p e h

  -- a run of the order may begin from there
  pub begins : InputsInOrder job → FirstApart S.job S.inner o
      → Begins tag (λ y. sha1 (object_bytes y)) (λ a. sha1 (frozen_bytes a)) job around o (lies_known job.inputs order.inputs.items) x
  begins keyed apart = record {
    brings = order_brings digest job gives keyed o order is;
    stands = stands;
    waits = stands_waiting job around tag job.script (back o.task) o.from stands.1.0 stands.0 x stands.1.1 stands.2 b.fits;
    apart = apart;
  }
