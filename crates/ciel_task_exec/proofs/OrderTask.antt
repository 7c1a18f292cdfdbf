-- An executor's order, and the task that it is of: where it begins, what it waits for, and that it comes to its end there.
use Rattle.std.proofs.Common.{◌≡◌, ℕ, zero, suc, ◌+◌, ◌<◌, ◌≤◌, List, [], ◌∷◌, map, Bool, true, false, Option, Some, None, Result, is_some, slice_get}
use Rattle.std.proofs.Common.{inl, inr, refl, sym, ap, ap₂, subst, ◌∙◌, arith}
use Rattle.std.specs.Option.{option_map}
use Rattle.sky_base.specs.Kept.{Kept}
use Rattle.sky_base.specs.KitView.{Gives}
use Rattle.sky_base.specs.Name.{digested, held_name, low, low_desc, name}
use Rattle.sky_base.specs.Needed as needed
use Rattle.sky_base.specs.Needed.{distinct_refs}
use Rattle.sky_base.specs.ObjectView.{desc_view}
use Rattle.sky_base.specs.Res.{Object}
use Rattle.sky_base.specs.See as s
use Rattle.sky_base.specs.See.{see}
use Rattle.sky_base.specs.Tree.{Script}
use Rattle.sky_base.specs.Val as v
use Rattle.sky_base.specs.Val.{call, out, input, known, refs}
use Rattle.sky_base.specs.View.{view}
use Rattle.sky_base.specs.declared.fault.Fault.{Fault}
use Rattle.sky_base.specs.declared.object.Desc1.{Desc1}
use Rattle.sky_base.specs.declared.object.TaskId.{TaskId}
use Rattle.sky_base.specs.declared.value.Value.{Value}
use Rattle.sky_base_law.specs.Lower.{low_obj, low_ref}
use Rattle.sky_base_law.specs.NamesLaws.{Tag, no_name}
use Rattle.sky_base_law.specs.Tasks as t
use Rattle.sky_base_law.proofs.Lists.{some_is}
use Rattle.sky_base_law.proofs.RefsLow.{refs_low}
use Rattle.sky_base_law.proofs.TaskOutputs.{in_each, in_distinct_refs}
use Rattle.sky_state_law.specs.Moves.{SeenAs}
use Rattle.sky_state_law.proofs.MadeSegments.{see_to}
use Rattle.sky_base_exec.specs.Perform.{made, output_of}
use Rattle.sky_base_exec.proofs.Lowered.{sees_out}
use Rattle.sky_base_waves.specs.Seen.{Sees, SeenAsKnown}
use Rattle.ciel_master_board.specs.Follows.{GoesBy, OrderIs}
use Rattle.ciel_master_board.specs.Setting.{HasState, Setting}
use Rattle.ciel_journal.specs.History.{OpenStart}
use Rattle.ciel_journal.specs.Job as j
use Rattle.ciel_journal.specs.Job.{Held, Task, WaitOf, after_wait, made_in, of, show}
use Rattle.ciel_journal.specs.Lawful.{Given, HeldAt, NextEnd, SpawnedToEnd}
use Rattle.ciel_json.specs.Around.{json_around}
use Rattle.ciel_json.specs.Text.{text_of as writes}
use Rattle.ciel_json.proofs.LowLaw.{text_named}
use Rattle.ciel_journal_job.specs.Real.{back}
use Rattle.ciel_journal_job.proofs.RealLaw.{in_to}
use Rattle.ciel_store.specs.Seen.{ShelvesSeen}
use Rattle.ciel_task_order.specs.Orders.{CanBegin, Describes, OrderSound, Saved, names_in}
use Rattle.ciel_task_order.specs.Shop as shop
use Rattle.ciel_task_order.specs.Shop.{InputsInOrder, shop_setting}
use Rattle.ciel_task_order.specs.Views.{P, order_view}
use Rattle.ciel_task_order.specs.declared.block.Held as rust
use Rattle.ciel_task_order.specs.declared.order.Order.{Order}
use Rattle.ciel_task_inputs.specs.JournalWalksLaws.{Brings}
use Rattle.ciel_task_inputs.specs.Brought.{lies_known}
use Rattle.ciel_task_inputs.proofs.BroughtInputs.{named_given, order_brings}

module _ {A B : Type 0} (g : A → B) where
  mapped : (xs : List A) (x : A) → t.In x xs → t.In (g x) (map g xs)
  mapped [] x i = absurd i
  mapped (y ∷ xs) x (inl e) = inl (ap g e)
  mapped (y ∷ xs) x (inr i) = inr (mapped xs x i)

  pub from_map : (xs : List A) (y : B) → t.In y (map g xs) → (x : A) × t.In x xs × (y ≡ g x)
  from_map [] y i = absurd i
  from_map (z ∷ xs) y (inl e) = (z, inl refl, e)
  from_map (z ∷ xs) y (inr i) = later (from_map xs y i)
    where
      later : (x : A) × t.In x xs × (y ≡ g x) → (x : A) × t.In x (z ∷ xs) × (y ≡ g x)
      later (x, k, e) = (x, inr k, e)

-- an executor's order is sound, whose arguments have these references
module _ (digest : List ℕ → List ℕ) (shelves : ShelvesSeen) (sc : Script) (count : ℕ) (order : Order)
    (sound : OrderSound digest shelves sc count order) (x : List ℕ) (args : Value) (n : ℕ) (by : order.desc ≡ Some (Desc1.Exec x args n 0)) where
  begins : (tk : TaskId) (e : Option Desc1) → e ≡ Some (Desc1.Exec x args n 0) → Describes digest sc (names_in order.inputs.items) tk e
      → CanBegin sc (names_in order.inputs.items) (Desc1.Exec x args n 0)
  begins TaskId.Show None e h = absurd cc
  begins TaskId.Show (Some d) e h = absurd h
  begins (TaskId.Of m) None e h = absurd h
  begins (TaskId.Of m) (Some d) e h = subst (CanBegin sc (names_in order.inputs.items)) (some_is d (Desc1.Exec x args n 0) e) h.1

  can_begin : CanBegin sc (names_in order.inputs.items) (Desc1.Exec x args n 0)
  can_begin = begins order.task order.desc by sound.describes

  pub args_kept : Kept (view args)
  args_kept = can_begin.1

  -- each reference of the arguments is brought along
  pub refs_there : t.Each (λ d. t.In (held_name d) (names_in order.inputs.items)) (refs (view args))
  refs_there = can_begin.2

  module _ (job : s.Job) (gives : Gives) (keyed : InputsInOrder job) (o : OpenStart s.Desc)
      (is : OrderIs (shop_setting digest job gives) o (order_view order)) where
    abbrev pub S : Setting s.Desc P shop.Block
    S = shop_setting digest job gives

    abbrev pub tag : Tag
    tag = digested digest

    abbrev pub around : s.Around
    around = json_around gives

    abbrev pub held : List rust.Held
    held = order.inputs.items

    -- ---- the task

    shape : (d : s.Desc) → out x (view args) n 0 ≡ low_desc no_name tag d → (b : s.Val) × (d ≡ out x b n 0) × (low no_name tag b ≡ view args)
    shape (call f c vs) e = absurd cc
    shape (input k) e = absurd cc
    shape (known b) e = absurd b
    shape (out y b m i) e =
        let one : y ≡ x = cc in
        let two : m ≡ n = cc in
        let three : i ≡ 0 = cc in
        let args_are : low no_name tag b ≡ view args = cc in
        (b, ap₂ (λ z k. out z b k i) one two ∙ ap (out x b n) three, args_are)

    goes : (tk : Task s.Desc) (e : Option Desc1) → e ≡ Some (Desc1.Exec x args n 0) → GoesBy S tk e → (b : s.Val) × (tk ≡ of (out x b n 0))
        × (low no_name tag b ≡ view args)
    goes show None e g = absurd cc
    goes show (Some d) e g = absurd g
    goes (of d) None e g = absurd g
    goes (of d) (Some c) e g = go (shape d (sym (ap desc_view (some_is c (Desc1.Exec x args n 0) e)) ∙ g))
      where
        go : (b : s.Val) × (d ≡ out x b n 0) × (low no_name tag b ≡ view args) → (b : s.Val) × (of d ≡ of (out x b n 0))
            × (low no_name tag b ≡ view args)
        go (b, e, l) = (b, ap of e, l)

    task : (b : s.Val) × (o.task ≡ of (out x b n 0)) × (low no_name tag b ≡ view args)
    task = goes o.task order.desc by is.desc

    -- its arguments
    pub b : s.Val
    b = task.0

    pub task_is : o.task ≡ of (out x b n 0)
    unfolding b task
    task_is = task.1

    pub args_are : low no_name tag b ≡ view args
    unfolding b task
    args_are = task.2

    -- ---- where it begins

    no_state : (k i : ℕ) (p : P) → S.state k (of (out x b n 0)) i ≡ Some (S.block p) → ⊥
    no_state k i p e = cc

    from_zero : (p : Option P) → order.saved ≡ p → Saved shelves sc order p → order.from ≡ 0
    from_zero None e h = h.0
    from_zero (Some p) e h =
        let st : HasState S p o.task o.from = is.state p e in
        absurd (no_state st.0 o.from p (subst (λ tk. S.state st.0 tk o.from ≡ Some (S.block p)) task_is st.1))

    pub from_is : o.from ≡ 0
    from_is = sym is.out.from ∙ from_zero order.saved refl sound.saved

    -- ---- what it holds there

    pub held_there : (d : s.Desc) → t.In d (refs b) → HeldAt S.job o.task o.from d
    held_there d i = (
      0,
      record { names = distinct_refs b; mark = [] },
      ap₂ (λ tk k. S.job.at 0 tk k) task_is from_is,
      in_to d (distinct_refs b) (in_distinct_refs b d i),
    )

    low_refs : refs (view args) ≡ map (low_ref no_name tag) (refs b)
    low_refs = ap refs (sym args_are) ∙ refs_low no_name tag b

    there : (d : s.Desc) → t.In d (refs b) → t.In (S.job.name d) (names_in held)
    there d i =
        in_each (λ e. t.In (held_name e) (names_in held)) (map (low_ref no_name tag) (refs b)) (low_ref no_name tag d)
        (subst (t.Each (λ e. t.In (held_name e) (names_in held))) low_refs refs_there) (mapped (low_ref no_name tag) (refs b) d i)

    pub given : (d : s.Desc) → t.In d (refs b) → Given S.job o d
    given d i = named_given digest job gives keyed o order is d (held_there d i) (there d i)

    -- a reference of the arguments has the name of one of them
    pub of_ref : (r : v.Desc (List ℕ)) → t.In r (refs (view args)) → (d : s.Desc) × t.In d (refs b) × (held_name r ≡ S.job.name d)
    of_ref r i = let back = from_map (low_ref no_name tag) (refs b) r (subst (t.In r) low_refs i) in
        (back.0, back.1, ap held_name back.2)

    -- ---- what it sees

    abbrev finds : v.Desc (List ℕ) → Option (Object (List ℕ))
    finds = lies_known job.inputs held

    seen_one : (d : s.Desc) → t.In d (refs b) → (y : Object (List ℕ)) × SeenAs tag job around d y × (finds (low_ref no_name tag d) ≡ Some y)
    seen_one d i = (order_brings digest job gives keyed o order is).given d (given d i)

    seen_all : (ds : List s.Desc) → ((d : s.Desc) → t.In d ds → (y : Object (List ℕ)) × SeenAs tag job around d y
        × (finds (low_ref no_name tag d) ≡ Some y)) → (k : ℕ) × SeenAsKnown job around tag k finds ds
    seen_all [] f = (0, λ d i. absurd i)
    seen_all (d ∷ ds) f = join (f d (inl refl)) (seen_all ds (λ e i. f e (inr i)))
      where
        join : (y : Object (List ℕ)) × SeenAs tag job around d y × (finds (low_ref no_name tag d) ≡ Some y) → (k : ℕ)
            × SeenAsKnown job around tag k finds ds → (k : ℕ) × SeenAsKnown job around tag k finds (d ∷ ds)
        join (y, (h, z, e, q), l) (k, g) = (h + k, all)
          where
            later : (c : s.Desc) → (u : Object (List ℕ)) × (finds (low_ref no_name tag c) ≡ Some u) × Sees job around tag k c u
                → (u : Object (List ℕ)) × (finds (low_ref no_name tag c) ≡ Some u) × Sees job around tag (h + k) c u
            later c (u, l, (p, a, w)) = (u, l, (p, see_to job around k (h + k) c p (omega arith) a, w))

            all : (c : s.Desc) → t.In c (d ∷ ds) → (u : Object (List ℕ)) × (finds (low_ref no_name tag c) ≡ Some u) × Sees job around tag (h + k) c u
            all c (inl r) = (
              y,
              ap (λ w. finds (low_ref no_name tag w)) r ∙ l,
              (z, ap (see job around (h + k)) r ∙ see_to job around h (h + k) d z (omega arith) e, sym q),
            )
            all c (inr i) = later c (g c i)

    all_seen : (k : ℕ) × SeenAsKnown job around tag k finds (refs b)
    all_seen = seen_all (refs b) seen_one

    pub fuel : ℕ
    fuel = all_seen.0

    -- what the kit makes of what lies there
    abbrev pub made_here : Result (List (List ℕ)) Fault
    made_here = made gives (λ u. writes u) finds x (view args) n

    pub sees : (i : ℕ) → Sees job around tag (suc fuel) (out x b n i) (output_of made_here i)
    unfolding fuel all_seen
    sees i =
        subst (λ w. Sees job around tag (suc fuel) (out x b n i) (output_of (made gives (λ u. writes u) finds x w n) i)) args_are
        (sees_out job around (λ u. writes u) tag (λ u. text_named tag u) fuel finds x b n i all_seen.1)

    -- ---- its end

    ends_there : t.ended job around fuel (needed.Task.of (out x b n 0)) ≡ true
    ends_there = ap is_some (sees 0).1

    pub no_wait : (k : ℕ) (es : List s.Desc) → 0 < k → WaitOf S.job (of (out x b n 0)) k es → ⊥
    no_wait zero es l w = omega (arith, l)
    no_wait (suc k) es l (m, e) = cc

    pub next_end : NextEnd S.job (Given S.job o) o.task o.from
    next_end =
        record {
          ends = (fuel, ap (λ tk. S.job.ended fuel tk) task_is ∙ ends_there);
          met = λ k es later w. absurd (no_wait k es (omega (arith, later)) (subst (λ tk. WaitOf S.job tk k es) task_is w));
        }

    pub spawned : SpawnedToEnd S.job o []
    spawned =
        (fuel, ap (λ tk. S.job.ended fuel tk) task_is ∙ ends_there, sym (ap₂ (λ tk k. made_in (after_wait k (S.job.acts fuel tk))) task_is from_is))
