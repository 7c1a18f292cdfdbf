-- What was copied is the job's, and fits the order.
use Rattle.std.proofs.Common.{◌≡◌, ℕ, List, [], ◌∷◌, ◌++◌, map, Bool, true, false, not, cond, Option, Some, None, nat_eq, ◌==◌, inl, inr, refl, sym}
use Rattle.std.proofs.Common.{ap, subst, ◌∙◌, eq-eqb}
use Rattle.std.specs.List.{AllByRecursion, IsDistinct, list_any}
use Rattle.std.specs.Option.{option_map}
use Rattle.sky_base.specs.KitView.{Gives}
use Rattle.sky_base.specs.Name.{digested}
use Rattle.sky_base.specs.Res.{Object}
use Rattle.sky_base.specs.See as s
use Rattle.sky_base.specs.See.{see}
use Rattle.sky_base.specs.ObjectView.{object_view}
use Rattle.sky_base.specs.Tree.{Script}
use Rattle.sky_base.specs.Val.{same_text}
use Rattle.sky_base.proofs.Exact.{exact_text}
use Rattle.sky_base_law.specs.Sound.{SoundObject}
use Rattle.sky_base_law.specs.Tasks.{Each, In}
use Rattle.sky_base_law.proofs.Lists.{each_both, some_is}
use Rattle.ciel_task_order.specs.Board as board
use Rattle.ciel_task_order.specs.Board.{spot_of}
use Rattle.ciel_task_order.specs.Follows.{BroughtFor, FetchedAt, OrderIs, worker_for}
use Rattle.ciel_task_order.specs.Reports.{copy_names}
use Rattle.ciel_task_order.specs.Setting.{HasObject, Setting}
use Rattle.ciel_task_order.specs.Sound.{CopyFits}
use Rattle.ciel_journal.specs.History.{OpenStart}
use Rattle.ciel_journal.specs.Job as j
use Rattle.ciel_journal.specs.Job.{Job, Task}
use Rattle.ciel_journal.specs.Lawful.{FetchedFrom, HeldAt, least}
use Rattle.ciel_json.specs.Around.{json_around}
use Rattle.ciel_store.specs.Seen.{PlaceSeen, ShelvesSeen}
use Rattle.ciel_table.specs.Named.{found}
use Rattle.ciel_table.specs.Seen.{Known, TableSeen}
use Rattle.ciel_want.specs.Waited.{AllKnown}
use Rattle.ciel_task_inputs.specs.Lies.{CopiedIf, CopiedSo, held_name, is_elsewhere, lies_at, object_in}
use Rattle.ciel_task_inputs.proofs.GatheredInputs.{each_found}
use Rattle.ciel_task_order.specs.Named.{object_by_names}
use Rattle.ciel_task_order.specs.Orders.{HasObject as HasObjectIn, SpotSound, names_in}
use Rattle.ciel_task_order.specs.Places.{CopyAt}
use Rattle.ciel_task_order.specs.Shop as shop
use Rattle.ciel_task_order.specs.Shop.{block_view, shop_setting}
use Rattle.ciel_task_order.specs.Views.{P, brought_view, copies_view, copy_at, order_view, spot_view}
use Rattle.ciel_task_order.specs.declared.block.Block.{Block}
use Rattle.ciel_task_order.specs.declared.block.Held.{Held}
use Rattle.ciel_task_order.specs.declared.block.Spot.{Spot}
use Rattle.ciel_task_order.specs.declared.order.Order.{Order}
use Rattle.ciel_task_inputs.specs.Copies.{Copies, IsCopy}
use Rattle.ciel_task_inputs.proofs.NameSpots.{found_named, found_stands, is_object, object_is, shelf_view, spot_at, spot_found}

-- ---- on another worker's shelf

-- what lies elsewhere is at a place of another worker
pub elsewhere_at : (w : ℕ) (sp : Spot) → is_elsewhere w sp ≡ true → (p : P) × (sp ≡ Spot.Shelf p) × (p.worker ≡ w → ⊥)
elsewhere_at w (Spot.Input i) e = absurd cc
elsewhere_at w (Spot.Shelf p) e = (p, refl, λ q. no (p.worker == w) (eq-eqb p.worker w q) e)
  where
    no : (b : Bool) → b ≡ true → not b ≡ true → ⊥
    no true t f = cc
    no false t f = cc

module _ (digest : List ℕ → List ℕ) (job : s.Job) (gives : Gives) (o : OpenStart s.Desc) (order : Order)
    (is : OrderIs (shop_setting digest job gives) o (order_view order)) where
  abbrev S : Setting s.Desc P shop.Block
  S = shop_setting digest job gives

  abbrev held : List Held
  held = order.inputs.items

  module _ (shelves : ShelvesSeen) (c : Held) (copy : IsCopy shelves order.worker job.inputs held c) (d : s.Desc)
      (a : HeldAt S.job o.task o.from d) (n : c.name ≡ S.job.name d) where
    source : (p : P) × (copy.from.at ≡ Spot.Shelf p) × (p.worker ≡ order.worker → ⊥)
    source = elsewhere_at order.worker copy.from.at copy.elsewhere

    abbrev spot : Option (board.Spot P)
    spot = spot_of (S.job.name d) (map brought_view held)

    spot_is : spot ≡ Some (board.Spot.shelf source.0)
    spot_is =
        spot_found (S.job.name d) held
        ∙ ap (option_map spot_at) (ap (λ m. found held_name m held) (sym n) ∙ copy.found)
        ∙ ap (λ sp. Some (spot_view sp)) source.1

    -- the same object lies there
    lies_too : (p : P) → HasObject S p d → p ≡ source.0 → HasObject S copy.place d
    lies_too p h q = (h.0, go (see job (json_around gives) h.0 d) h.1)
      where
        go : (y : Option s.Obj) → option_map (λ x. shop.Block.object (object_by_names digest x)) y ≡ Some (block_view p.at.value)
            → option_map (λ x. shop.Block.object (object_by_names digest x)) y ≡ Some (block_view copy.place.at.value)
        go None e = absurd cc
        go (Some y) e =
            let x : Object (List ℕ) = object_by_names digest y in
            let there : object_in p.at.value ≡ Some x = object_is p.at.value x (sym (some_is (shop.Block.object x) (block_view p.at.value) e)) in
            let here : object_in copy.place.at.value ≡ Some x = copy.same ∙ ap (lies_at job.inputs) source.1
            ∙ ap (λ (r : P). object_in r.at.value) (sym q) ∙ there in
            ap Some (sym (is_object copy.place.at.value x here))

    shelf_same : (p q : P) → Some (board.Spot.shelf p) ≡ Some (board.Spot.shelf q) → p ≡ q
    shelf_same p q e = cc

    -- it was fetched from there, and lies at the copy's place
    pub copy_fetched : ((w : ℕ) × FetchedFrom S.job o d w) × HasObject S copy.place d
    copy_fetched = go (S.job.task_of d) (is.inputs d a)
      where
        here : o.worker ≡ order.worker
        here = sym is.out.worker

        from : (w : ℕ) (p : P) (b : Bool) → list_any (nat_eq o.worker) (o.had d) ≡ b → cond b (Some o.worker) (least S.job (o.had d)) ≡ Some w
            → p.worker ≡ w → p ≡ source.0 → (u : ℕ) × FetchedFrom S.job o d u
        from w p true t e at q =
            absurd (source.2 (ap (λ (r : P). r.worker) (sym q) ∙ at ∙ sym (some_is o.worker w e) ∙ here))
        from w p false t e at q = (w, (e, t))

        fetch : (w : Option ℕ) → worker_for S.job o.worker (o.had d) ≡ w → FetchedAt S d w spot → ((u : ℕ) × FetchedFrom S.job o d u)
            × HasObject S copy.place d
        fetch None q f = let e : Some (board.Spot.shelf source.0) ≡ None = sym spot_is ∙ f in absurd cc
        fetch (Some w) q (p, e, at, has) =
            let same : p ≡ source.0 = shelf_same p source.0 (sym e ∙ spot_is) in
            (from w p (list_any (nat_eq o.worker) (o.had d)) refl q at same, lies_too p has same)

        go : (tk : Option (Task s.Desc)) → BroughtFor S o d tk spot → ((u : ℕ) × FetchedFrom S.job o d u) × HasObject S copy.place d
        go None b = let e : Some (board.Spot.shelf source.0) ≡ Some (board.Spot.input b.1) = sym spot_is ∙ b.4 in absurd cc
        go (Some u) b = fetch (worker_for S.job o.worker (o.had d)) refl b

-- ---- fitting the order

module _ (digest : List ℕ → List ℕ) (shelves : ShelvesSeen) (inputs : List (List ℕ × List ℕ)) (order : Order) where
  abbrev held' : List Held
  held' = order.inputs.items

  abbrev W : P → ℕ
  W p = p.worker

  in_known : (t : TableSeen P) (ns : List (List ℕ)) (n : List ℕ) → j.In n ns → AllKnown t ns → Known t n
  in_known t [] n i a = absurd i
  in_known t (m ∷ ns) n (inl e) a = subst (Known t) (sym e) a.0
  in_known t (m ∷ ns) n (inr i) a = in_known t ns n i a.1

  copy_fits : (t : TableSeen P) (c : Held) (copy : IsCopy shelves order.worker inputs held' c) → AllKnown t (names_in held')
      → CopyFits digest W t (order_view order) (record { name = c.name; place = copy.place })
  copy_fits t c copy a = of_source (elsewhere_at order.worker copy.from.at copy.elsewhere)
    where
      of_source : (p : P) × (copy.from.at ≡ Spot.Shelf p) × (p.worker ≡ order.worker → ⊥)
          → CopyFits digest W t (order_view order) (record { name = c.name; place = copy.place })
      of_source (p, at, other) =
          record {
            known = in_known t (names_in held') c.name (found_stands c.name held' copy.from copy.found) a;
            here = copy.worker;
            from = p;
            given = spot_found c.name held' ∙ ap (option_map spot_at) copy.found ∙ ap (λ sp. Some (spot_view sp)) at;
            other = other;
          }

  pub copy_seen : (c : Held) (copy : IsCopy shelves order.worker inputs held' c) (cs : List Held) → copies_view (c ∷ cs)
      ≡ record { name = c.name; place = copy.place } ∷ copies_view cs
  copy_seen c copy cs = ap (λ sp. copy_at c.name sp (copies_view cs)) copy.at

  -- they are seen with their names
  pub copies_named : (cs : List Held) → Each (IsCopy shelves order.worker inputs held') cs → copy_names (copies_view cs) ≡ names_in cs
  copies_named [] e = refl
  copies_named (c ∷ cs) e =
      ap copy_names (copy_seen c e.0 cs) ∙ ap (λ ns. c.name ∷ ns) (copies_named cs e.1)

  pub copies_fit : (t : TableSeen P) (cs : List Held) → Each (IsCopy shelves order.worker inputs held') cs → AllKnown t (names_in held')
      → j.Each (CopyFits digest W t (order_view order)) (copies_view cs)
  copies_fit t [] e a = tt
  copies_fit t (c ∷ cs) e a =
      subst (j.Each (CopyFits digest W t (order_view order))) (sym (copy_seen c e.0 cs)) (copy_fits t c e.0 a, copies_fit t cs e.1 a)

-- ---- what lies there

-- an object that is sound for the script
pub sound_there : (sc : Script) (v : Block) (x : Object (List ℕ)) → object_in v ≡ Some x → SoundObject sc x → HasObjectIn sc v
sound_there sc (Block.Frozen a) x e h = absurd cc
sound_there sc (Block.Object y) x e h = subst (SoundObject sc) (sym (some_is (object_view y) x e)) h

module _ (shelves : ShelvesSeen) (w : ℕ) (inputs : List (List ℕ × List ℕ)) (held : List Held) (sc : Script) (count : ℕ)
    (spots : Each (λ (h : Held). SpotSound shelves sc count h.at) held) where
  alike : (u v : Block) → object_in u ≡ object_in v → HasObjectIn sc v → HasObjectIn sc u
  alike u (Block.Frozen a) e h = absurd h
  alike u (Block.Object y) e h = sound_there sc u (object_view y) e h

  copy_sound : (c : Held) → IsCopy shelves w inputs held c → CopyAt shelves w sc c.at
  copy_sound c copy = go (elsewhere_at w copy.from.at copy.elsewhere)
      (each_found held_name (λ (h : Held). SpotSound shelves sc count h.at) c.name held copy.from spots copy.found)
    where
      go : (p : P) × (copy.from.at ≡ Spot.Shelf p) × (p.worker ≡ w → ⊥) → SpotSound shelves sc count copy.from.at → CopyAt shelves w sc c.at
      go (p, at, other) spot =
          let there : SpotSound shelves sc count (Spot.Shelf p) = subst (SpotSound shelves sc count) at spot in
          subst (CopyAt shelves w sc) (sym copy.at)
          (record {
            here = copy.here;
            worker = copy.worker;
            object =
                alike copy.place.at.value p.at.value (copy.same ∙ ap (lies_at inputs) at) there.1;
          })

  pub copies_sound : (cs : List Held) → Each (IsCopy shelves w inputs held) cs → Each (λ (c : Held). CopyAt shelves w sc c.at) cs
  copies_sound [] h = tt
  copies_sound (c ∷ cs) h = (copy_sound c h.0, copies_sound cs h.1)

-- ---- one more

module _ (shelves : ShelvesSeen) (w : ℕ) (inputs : List (List ℕ × List ℕ)) (held : List Held) where
  last_apart : (n m : List ℕ) (ns : List (List ℕ)) → (In m (n ∷ ns) → ⊥) → AllByRecursion (λ y. same_text n y ≡ false) ns
      → AllByRecursion (λ y. same_text n y ≡ false) (ns ++ m ∷ [])
  last_apart n m [] new h = (apart (same_text n m) refl, tt)
    where
      apart : (b : Bool) → same_text n m ≡ b → same_text n m ≡ false
      apart true t = absurd (new (inl (sym (exact_text n m t))))
      apart false t = t
  last_apart n m (k ∷ ns) new h = (h.0, last_apart n m ns (λ i. new (skip i)) h.1)
    where
      skip : In m (n ∷ ns) → In m (n ∷ k ∷ ns)
      skip (inl e) = inl e
      skip (inr i) = inr (inr i)

  pub distinct_last : (ns : List (List ℕ)) (m : List ℕ) → (In m ns → ⊥) → IsDistinct same_text ns → IsDistinct same_text (ns ++ m ∷ [])
  unfolding IsDistinct
  distinct_last [] m new d = (tt, tt)
  distinct_last (n ∷ ns) m new d = (last_apart n m ns new d.0, distinct_last ns m (λ i. new (inr i)) d.1)

  names_last : (cs : List Held) (c : Held) → names_in (cs ++ c ∷ []) ≡ names_in cs ++ c.name ∷ []
  names_last [] c = refl
  names_last (x ∷ cs) c = ap (λ ns. x.name ∷ ns) (names_last cs c)

  -- what was brought of a name that is new
  pub copies_more : (n : List ℕ) (h : Held) (o : Object (List ℕ)) (old new : List Held) → Copies shelves w inputs held old
      → found held_name n held ≡ Some h → lies_at inputs h.at ≡ Some o → CopiedSo shelves w h o old new → (In n (names_in old) → ⊥)
      → Copies shelves w inputs held new
  copies_more n h o old new c f at so fresh = go (is_elsewhere w h.at) refl so
    where
      is_name : n ≡ h.name
      is_name = found_named n held h f

      go : (b : Bool) → is_elsewhere w h.at ≡ b → CopiedIf b shelves w h.name o old new → Copies shelves w inputs held new
      go false e same = subst (Copies shelves w inputs held) (sym same) c
      go true e (p, grew, here, worker, same) =
          subst (Copies shelves w inputs held) (sym grew) (
            each_both (IsCopy shelves w inputs held) old (one ∷ []) c.0 (copy, tt),
            subst (IsDistinct same_text) (sym (names_last old one))
                (distinct_last (names_in old) h.name (λ i. fresh (subst (λ m. In m (names_in old)) (sym is_name) i)) c.1),
          )
        where
          one : Held
          one = record { name = h.name; at = Spot.Shelf p }

          copy : IsCopy shelves w inputs held one
          copy =
              record {
                from = h;
                found = ap (λ m. found held_name m held) (sym is_name) ∙ f;
                elsewhere = e;
                place = p;
                at = refl;
                here = here;
                worker = worker;
                same = same ∙ sym at;
              }
