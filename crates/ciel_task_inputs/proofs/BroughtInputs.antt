-- What an order brings along is what the task holds at the order's wait and was live.
use Rattle.std.proofs.Common.{◌≡◌, ℕ, suc, List, [], ◌∷◌, map, Bool, true, false, cond, Option, Some, None, nat_eq, nat_lt, slice_get, refl, sym, ap}
use Rattle.std.proofs.Common.{subst, ◌∙◌}
use Rattle.std.specs.List.{list_any}
use Rattle.std.specs.Option.{option_map, option_and_then}
use Rattle.sky_base.specs.KitView.{Gives}
use Rattle.sky_base.specs.Name.{digested, low_desc, name}
use Rattle.sky_base.specs.Res.{Object}
use Rattle.sky_base.specs.See as s
use Rattle.sky_base.specs.See.{see, input_bytes}
use Rattle.sky_base.specs.Val as v
use Rattle.sky_base.specs.Val.{call, out, input, known}
use Rattle.sky_base_law.specs.Lower.{low_obj, low_ref}
use Rattle.sky_base_law.specs.NamesLaws.{Tag, no_name}
use Rattle.sky_base_law.specs.Tasks as t
use Rattle.sky_base_law.proofs.Lists.{some_is}
use Rattle.sky_state_law.specs.Moves.{SeenAs}
use Rattle.ciel_task_order.specs.Board as board
use Rattle.ciel_task_order.specs.Board.{brought_names, key_number, spot_of}
use Rattle.ciel_task_order.specs.Follows.{BroughtFor, FetchedAt, OrderIs, worker_for}
use Rattle.ciel_task_order.specs.Setting.{HasObject, Setting}
use Rattle.ciel_journal.specs.History.{OpenStart, live_if}
use Rattle.ciel_journal.specs.Job.{Digest, In, Job, Task}
use Rattle.ciel_journal.specs.Lawful.{Given, HeldAt, least, least_with}
use Rattle.ciel_json.specs.Around.{json_around}
use Rattle.ciel_journal_job.specs.Real.{forth_if}
use Rattle.ciel_name.specs.Object.{object_bytes}
use Rattle.ciel_table.specs.Named.{found, place_of}
use Rattle.ciel_task_inputs.specs.Gathers.{lies_of}
use Rattle.ciel_task_inputs.specs.Lies.{held_name, lies_at, object_in}
use Rattle.ciel_task_inputs.proofs.GatheredInputs.{found_some}
use Rattle.ciel_task_order.specs.Named.{name_of, object_by_names}
use Rattle.ciel_task_order.specs.Orders.{names_in}
use Rattle.ciel_task_order.specs.Shop as shop
use Rattle.ciel_task_order.specs.Shop.{InputsInOrder, block_view, shop_setting}
use Rattle.ciel_task_order.specs.Views.{P, brought_view, order_view, spot_view}
use Rattle.ciel_task_order.specs.declared.block.Held.{Held}
use Rattle.ciel_task_order.specs.declared.block.Spot.{Spot}
use Rattle.ciel_task_order.specs.declared.order.Order.{Order}
use Rattle.ciel_journal_walks.specs.Laws.{Brings}
use Rattle.ciel_task_inputs.specs.Brought.{lies_known}
use Rattle.ciel_task_inputs.proofs.NameSpots.{found_named, found_stands, input_view, names_brought, numbered, object_is, shelf_view, spot_at, spot_found}
use Rattle.ciel_task_inputs.proofs.NameSpots.{spot_has}
use Rattle.sha1.specs.Sha1.{sha1}
use Rattle.sky_frozen_bytes.specs.Bytes.{frozen_bytes}

abbrev as_object : List ℕ → Object (List ℕ)
as_object w = Object.bytes w

-- the bytes of an input, as an object
abbrev bytes_at : Option (List ℕ × List ℕ) → Option (Object (List ℕ))
bytes_at y = option_map (λ (x : List ℕ × List ℕ). Object.bytes x.1) y

-- there is a worker for what some worker has
least_some : {D : Type 0} (job : Job D) (w : ℕ) (ws : List ℕ) → least job (w ∷ ws) ≡ None → ⊥
least_some job w ws e = go (least job ws) e
  where
    two : (b : Bool) (u : ℕ) → cond b (Some u) (Some w) ≡ None → ⊥
    two true u q = cc
    two false u q = cc

    go : (x : Option ℕ) → least_with job w x ≡ None → ⊥
    go None q = cc
    go (Some u) q = two (nat_lt u w) u q

worker_some : {D : Type 0} (job : Job D) (w : ℕ) (ws : List ℕ) (tk : Option (Task D)) (u : Task D) → tk ≡ Some u → live_if job tk ws ≡ true
    → worker_for job w ws ≡ None → ⊥
worker_some job w [] tk u is l e = absurd (false_true (sym (ap (λ x. live_if job x []) is) ∙ l))
  where
    false_true : false ≡ true → ⊥
    false_true q = cc
worker_some job w (x ∷ ws) tk u is l e = go (list_any (nat_eq w) (x ∷ ws)) e
  where
    go : (b : Bool) → cond b (Some w) (least job (x ∷ ws)) ≡ None → ⊥
    go true q = cc
    go false q = least_some job x ws q

module _ (digest : List ℕ → List ℕ) (job : s.Job) (gives : Gives) (keyed : InputsInOrder job) (o : OpenStart s.Desc) (order : Order) where
  abbrev S : Setting s.Desc P shop.Block
  S = shop_setting digest job gives

  abbrev tag : Tag
  tag = digested digest

  abbrev around : s.Around
  around = json_around gives

  abbrev held : List Held
  held = order.inputs.items

  -- where the object of d lies, it is what d is seen as
  pub has_seen : (p : P) (d : s.Desc) → HasObject S p d → (x : Object (List ℕ)) × SeenAs tag job around d x × (object_in p.at.value ≡ Some x)
  has_seen p d h = go (see job around h.0 d) refl h.1
    where
      go : (y : Option s.Obj) → see job around h.0 d ≡ y → option_map (λ x. shop.Block.object (object_by_names digest x)) y
          ≡ Some (block_view p.at.value) → (x : Object (List ℕ)) × SeenAs tag job around d x × (object_in p.at.value ≡ Some x)
      go None q e = absurd cc
      go (Some y) q e = (
        low_obj no_name tag y,
        (h.0, y, q, refl),
        object_is p.at.value (low_obj no_name tag y)
            (sym (some_is (shop.Block.object (object_by_names digest y)) (block_view p.at.value) e)),
      )

  input_seen : (k : List ℕ) → see job around 1 (input k) ≡ Some (Object.bytes (input_bytes k job.inputs))
  unfolding see
  input_seen k = refl

  -- of an input, its bytes
  input_is : (d : s.Desc) (k : List ℕ) (i : ℕ) → low_desc no_name tag d ≡ input k → key_number job.script.keys k ≡ Some i → (x : Object (List ℕ))
      × SeenAs tag job around d x × (lies_at job.inputs (Spot.Input i) ≡ Some x)
  input_is (call f c vs) k i l e = absurd cc
  input_is (out x a n j) k i l e = absurd cc
  input_is (known b) k i l e = absurd b
  input_is (input m) k i l e =
      let same : m ≡ k = cc in (
        Object.bytes (input_bytes k job.inputs),
        (
          1,
          Object.bytes (input_bytes k job.inputs),
          ap (λ y. see job around 1 (input y)) same
              ∙ input_seen k,
          refl,
        ),
        lies (slice_get job.inputs i) (numbered job.inputs k i (ap (place_of (λ (n : List ℕ). n) k) keyed ∙ e)),
      )
    where
      lies : (y : Option (List ℕ × List ℕ)) → option_map (λ (x : List ℕ × List ℕ). x.1) y ≡ Some (input_bytes k job.inputs) → bytes_at y
          ≡ Some (as_object (input_bytes k job.inputs))
      lies None q = absurd cc
      lies (Some y) q = ap (λ w. Some (as_object w)) (some_is y.1 (input_bytes k job.inputs) q)

  lies_is : (n : List ℕ) (h : Held) (sp : Spot) (x : Object (List ℕ)) → found held_name n held ≡ Some h → h.at ≡ sp → lies_at job.inputs sp
      ≡ Some x → lies_of job.inputs held n ≡ Some x
  lies_is n h sp x f at e =
      ap (λ y. option_and_then (λ (g : Held). lies_at job.inputs g.at) y) f ∙ ap (lies_at job.inputs) at ∙ e

  -- what is brought for d, where d was live
  brought_is : (d : s.Desc) (tk : Option (Task s.Desc)) → S.job.task_of d ≡ tk
      → BroughtFor S o d tk (spot_of (S.job.name d) (map brought_view held)) → live_if S.job (S.job.task_of d) (o.had d) ≡ true
      → (x : Object (List ℕ)) × SeenAs tag job around d x × (lies_of job.inputs held (S.job.name d) ≡ Some x)
  brought_is d None is b l = (seen.0, seen.1, lies_is (S.job.name d) f.0 (Spot.Input b.1) seen.0 f.1 (input_view f.0.at b.1 f.2) seen.2)
    where
      seen : (x : Object (List ℕ)) × SeenAs tag job around d x × (lies_at job.inputs (Spot.Input b.1) ≡ Some x)
      seen = input_is d b.0 b.1 b.2 b.3

      f : (h : Held) × (found held_name (S.job.name d) held ≡ Some h) × (spot_view h.at ≡ board.Spot.input b.1)
      f = spot_has (S.job.name d) held (board.Spot.input b.1) b.4
  brought_is d (Some u) is b l = go (worker_for S.job o.worker (o.had d)) refl b
    where
      go : (w : Option ℕ) → worker_for S.job o.worker (o.had d) ≡ w → FetchedAt S d w (spot_of (S.job.name d) (map brought_view held))
          → (x : Object (List ℕ)) × SeenAs tag job around d x × (lies_of job.inputs held (S.job.name d) ≡ Some x)
      go None q a = absurd (worker_some S.job o.worker (o.had d) (S.job.task_of d) u is l q)
      go (Some w) q a = (seen.0, seen.1, lies_is (S.job.name d) f.0 (Spot.Shelf a.0) seen.0 f.1 (shelf_view f.0.at a.0 f.2) seen.2)
        where
          seen : (x : Object (List ℕ)) × SeenAs tag job around d x × (object_in a.0.at.value ≡ Some x)
          seen = has_seen a.0 d a.3

          f : (h : Held) × (found held_name (S.job.name d) held ≡ Some h) × (spot_view h.at ≡ board.Spot.shelf a.0)
          f = spot_has (S.job.name d) held (board.Spot.shelf a.0) a.1

  -- what has a place was live
  brought_live : (d : s.Desc) (h : Held) (tk : Option (Task s.Desc)) → S.job.task_of d ≡ tk → found held_name (S.job.name d) held ≡ Some h
      → BroughtFor S o d tk (spot_of (S.job.name d) (map brought_view held)) → live_if S.job tk (o.had d) ≡ true
  brought_live d h None is f b = refl
  brought_live d h (Some u) is f b = go (o.had d) b
    where
      go : (ws : List ℕ) → FetchedAt S d (worker_for S.job o.worker ws) (spot_of (S.job.name d) (map brought_view held))
          → live_if S.job (Some u) ws ≡ true
      go [] a = let e : Some (spot_at h) ≡ None = ap (option_map spot_at) (sym f) ∙ sym (spot_found (S.job.name d) held) ∙ a in absurd cc
      go (w ∷ ws) a = refl

  module _ (is : OrderIs S o (order_view order)) where
    found_given : (d : s.Desc) (h : Held) → HeldAt S.job o.task o.from d → found held_name (S.job.name d) held ≡ Some h → Given S.job o d
    found_given d h a f =
        (a, brought_live d h (S.job.task_of d) refl f (is.inputs d a))

    -- what the task holds there and the order has a place for
    pub named_given : (d : s.Desc) → HeldAt S.job o.task o.from d → t.In (S.job.name d) (names_in held) → Given S.job o d
    named_given d a i = go (found held_name (S.job.name d) held) refl
      where
        go : (x : Option Held) → found held_name (S.job.name d) held ≡ x → Given S.job o d
        go None q = absurd (found_some held_name (S.job.name d) held i q)
        go (Some h) q = found_given d h a q

    lies_found : (n : List ℕ) (x : Object (List ℕ)) → lies_of job.inputs held n ≡ Some x → (h : Held) × (found held_name n held ≡ Some h)
    lies_found n x e = go (found held_name n held) refl e
      where
        go : (y : Option Held) → found held_name n held ≡ y → option_and_then (λ (g : Held). lies_at job.inputs g.at) y ≡ Some x → (h : Held)
            × (found held_name n held ≡ Some h)
        go None q f = absurd cc
        go (Some h) q f = (h, q)

    pub order_brings : Brings tag (λ x. sha1 (object_bytes x)) (λ a. sha1 (frozen_bytes a)) job around o (lies_known job.inputs held)
    order_brings =
        record {
          given = λ d g. brought_is d (S.job.task_of d) refl (is.inputs d g.0) g.1;
          only = λ d x e. whose d (lies_found (S.job.name d) x e);
        }
      where
        whose : (d : s.Desc) → (h : Held) × (found held_name (S.job.name d) held ≡ Some h) → (e : s.Desc) × Given S.job o e
            × (S.job.name e ≡ S.job.name d)
        whose d (h, f) = of_only (is.only (S.job.name d)
            (subst (In (S.job.name d)) (sym (names_brought held)) (found_stands (S.job.name d) held h f)))
          where
            of_only : (e : s.Desc) × HeldAt S.job o.task o.from e × (S.job.name d ≡ S.job.name e) → (e : s.Desc) × Given S.job o e
                × (S.job.name e ≡ S.job.name d)
            of_only (e, a, n) = (e, found_given e h a (ap (λ m. found held_name m held) (sym n) ∙ f), sym n)
