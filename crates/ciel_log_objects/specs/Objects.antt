-- Objects of a log that are put on a shelf again.
use Rattle.std.specs.Prelude.{◌≡◌, ℕ, List, [], ◌∷◌, map, Some}
use Rattle.std.specs.BTreeMap.{BTreeMap, Updates, get}
use Rattle.sha1.specs.Sha1.{sha1}
use Rattle.sky_base.specs.Name.{held_name}
use Rattle.sky_base.specs.NameOrder.{name_cmp}
use Rattle.sky_base.specs.ObjectView.{object_view}
use Rattle.sky_base.specs.Res as res
use Rattle.sky_base.specs.Res.{object_refs}
use Rattle.sky_base.specs.Tree.{Script}
use Rattle.sky_base.specs.declared.object.Object.{Object}
use Rattle.sky_base_law.specs.Sound.{SoundObject}
use Rattle.ciel_journal.specs.Job.{Digest, Each}
use Rattle.ciel_master_board.specs.Reports.{learned_all}
use Rattle.ciel_name.specs.Object.{object_bytes}
use Rattle.ciel_store.specs.Seen.{IsPlaceOf, ShelvesSeen}
use Rattle.ciel_task_order.specs.Orders.{names_in}
use Rattle.ciel_task_order.specs.Shop.{Block, block_view}
use Rattle.ciel_task_order.specs.Views.{P}
use Rattle.ciel_task_order.specs.declared.block.Held.{Held}
use Rattle.ciel_task_order.specs.declared.block.Spot.{Spot}
use Rattle.ciel_task_order.specs.declared.report.Made.{Made}
use Rattle.ciel_want.specs.Waited.{AllKnown}
use Rattle.ciel_log_fits.specs.Known.{AfterSeen}

-- the job allows the object, and what it refers to has rows once all is learned
pub record Passes (sc : Script) (after : AfterSeen P) (o : res.Object (List ℕ)) : Type 0 where
  pub sound : SoundObject sc o
  pub known : (digest : List ℕ → List ℕ) → AllKnown (learned_all digest after.spawned after.table) (map held_name (object_refs o))

-- an object is kept under the name, and it passes
abbrev pub IsKept : Script → AfterSeen P → BTreeMap Digest Object → Digest → Type 0
IsKept sc after kept name = (o : Object) × (get name_cmp kept name ≡ Some o) × Passes sc after (object_view o)

module _ (shelves : ShelvesSeen) (worker : ℕ) where
  -- the object lies at this place of the worker's shelf
  pub record LiesThere (o : res.Object (List ℕ)) (p : P) : Type 0 where
    pub place : IsPlaceOf shelves p
    pub here : p.worker ≡ worker
    pub block : block_view p.at.value ≡ Block.object o

  module _ (sc : Script) (after : AfterSeen P) where
    -- an object that passes lies there
    abbrev pub PassedThere : P → Type 0
    PassedThere p = (o : res.Object (List ℕ)) × Passes sc after o × LiesThere o p

    -- these are outputs with these names and these objects, in order, each with its mark, and each object passes
    pub record AreMade (names : List Digest) (objects : List Object) (ms : List Made) : Type 0 where
      pub named : map (λ (m : Made). m.name) ms ≡ names
      pub blocks : map (λ (m : Made). block_view m.place.at.value) ms ≡ map (λ (o : Object). Block.object (object_view o)) objects
      pub marked : map (λ (m : Made). m.mark) ms ≡ map (λ (o : Object). sha1 (object_bytes (object_view o))) objects
      pub passed : Each (λ (m : Made). PassedThere m.place) ms

    -- a copy of the object that is kept under its name, which passes
    abbrev pub IsCopyOf : BTreeMap Digest Object → Held → Type 0
    IsCopyOf kept h =
        (p : P) × (h.at ≡ Spot.Shelf p) × (o : Object) × (get name_cmp kept h.name ≡ Some o) × Passes sc after (object_view o)
        × LiesThere (object_view o) p

    pub record AreCopies (kept : BTreeMap Digest Object) (names : List Digest) (hs : List Held) : Type 0 where
      pub named : names_in hs ≡ names
      pub each : Each (IsCopyOf kept) hs

-- these are kept besides, in order, each by its name
pub data KeepsEach : List Digest → List Object → BTreeMap Digest Object → BTreeMap Digest Object → Type 0 where
  none : {kept : BTreeMap Digest Object} → KeepsEach [] [] kept kept
  one : {n : Digest} {ns : List Digest} {o : Object} {os : List Object} {a b c : BTreeMap Digest Object} → Updates name_cmp a b n (Some o)
      → KeepsEach ns os b c → KeepsEach (n ∷ ns) (o ∷ os) a c
