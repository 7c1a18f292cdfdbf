-- What is gathered of some names.
use Rattle.std.specs.Prelude.{◌≡◌, ℕ, List, [], ◌∷◌, ◌++◌, Option, Some, map}
use Rattle.std.specs.Option.{option_and_then}
use Rattle.sky_base.specs.ObjectView.{object_view}
use Rattle.sky_base.specs.Res.{Object}
use Rattle.sky_base.specs.Tree.{Script}
use Rattle.sky_base_law.specs.Sound.{SoundObject}
use Rattle.sky_base_law.specs.Tasks.{Each, In}
use Rattle.ciel_table.specs.Named.{found}
use Rattle.ciel_task_order.specs.declared.block.Held.{Held}
use Rattle.ciel_store.specs.Seen.{SeatSeen, ShelvesSeen}
use Rattle.ciel_task_inputs.specs.Lies.{CopiedSo, LostAt, held_name, lies_at}
use Rattle.ciel_task_inputs.specs.declared.gather.Gathered.{Gathered}

-- what lies there of the name
abbrev pub lies_of : List (List ℕ × List ℕ) → List Held → List ℕ → Option (Object (List ℕ))
lies_of inputs held n = option_and_then (λ h. lies_at inputs h.at) (found held_name n held)

-- all of them, in order; or one of the names lies at a worker that is lost
abbrev pub GatheredSo : List (List ℕ × List ℕ) → List Held → List (List ℕ) → Gathered → Type 0
GatheredSo inputs held ns (Gathered.All os) = map (λ n. lies_of inputs held n) ns ≡ map (λ o. Some (object_view o)) os.items
GatheredSo inputs held ns (Gathered.Lost n l) = In n ns × (h : Held) × (found held_name n held ≡ Some h) × LostAt l h.at

abbrev pub AllSound : Script → Gathered → Type 0
AllSound sc (Gathered.All os) = Each (λ o. SoundObject sc (object_view o)) os.items
AllSound sc (Gathered.Lost n l) = Unit {0}

-- one name after another, in order: its object lies where it is found, and what lay on another worker's shelf was copied to the own one
pub data CopiedFor (shelves : ShelvesSeen) (w : ℕ) (inputs : List (List ℕ × List ℕ)) (held old : List Held) : List (List ℕ) → List Held → Type 0 where
  none : CopiedFor shelves w inputs held old [] old
  one : {ns : List (List ℕ)} {mid new : List Held} (n : List ℕ) (h : Held) (o : Object (List ℕ))
      → CopiedFor shelves w inputs held old ns mid → found held_name n held ≡ Some h → lies_at inputs h.at ≡ Some o
      → CopiedSo shelves w h o mid new → CopiedFor shelves w inputs held old (ns ++ n ∷ []) new

-- so it is of all names, or of those before the one that is lost
abbrev pub CopiedUpTo : ShelvesSeen → (w : ℕ) → List (List ℕ × List ℕ) → List Held → List (List ℕ) → Gathered → (old new : List Held) → Type 0
CopiedUpTo shelves w inputs held ns (Gathered.All os) old new = CopiedFor shelves w inputs held old ns new
CopiedUpTo shelves w inputs held ns (Gathered.Lost n l) old new =
    (before : List (List ℕ)) × (after : List (List ℕ)) × (ns ≡ before ++ n ∷ after) × CopiedFor shelves w inputs held old before new

-- the eye saw that loss, and nothing else
abbrev pub Saw : Gathered → (old new : SeatSeen) → Type 0
Saw (Gathered.All os) old new = new ≡ old
Saw (Gathered.Lost n l) old new = new.losses ≡ old.losses ++ l ∷ []
