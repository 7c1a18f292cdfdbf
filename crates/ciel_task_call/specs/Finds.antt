-- What was copied so far, and what is lost.
use Rattle.std.specs.Prelude.{◌≡◌, ◌<◌, ℕ, List, length, Bool, true, false, Some, nat_lt}
use Rattle.std.specs.BTreeMap.{BTreeMap, Updates}
use Rattle.sky_base.specs.NameOrder.{name_cmp}
use Rattle.sky_base.specs.Tree.{Script}
use Rattle.sky_base_law.specs.Tasks.{Each, In}
use Rattle.ciel_store.specs.Seen.{SeatSeen, ShelvesSeen}
use Rattle.ciel_store.specs.declared.loss.Loss.{Loss}
use Rattle.ciel_table.specs.Inside.{IsIndex}
use Rattle.ciel_table.specs.Named.{found}
use Rattle.ciel_task_order.specs.Orders.{SpotSound}
use Rattle.ciel_task_order.specs.declared.block.Held.{Held}
use Rattle.ciel_task_inputs.specs.Lies.{LostAt, held_name}
use Rattle.ciel_task_inputs.specs.Copies.{Copies}
use Rattle.ciel_task_call.specs.declared.copied.Copied.{Copied}

-- what the order has of this name lay at a worker whose loss the eye has seen
pub record IsLost (held : List Held) (name : List ℕ) (loss : Loss) (eye : SeatSeen) : Type 0 where
  pub one : Held
  pub found : found held_name name held ≡ Some one
  pub at : LostAt loss one.at
  pub seen : In loss eye.losses

-- what was copied for worker w, with the place of each name
pub record CopiesStand (shelves : ShelvesSeen) (w : ℕ) (inputs : List (List ℕ × List ℕ)) (held : List Held) (c : Copied) : Type 0 where
  pub copies : Copies shelves w inputs held c.items.items
  pub places : IsIndex held_name c.places c.items.items

abbrev pub NotedIf : Bool → (name : List ℕ) → ℕ → BTreeMap (List ℕ) ℕ → BTreeMap (List ℕ) ℕ → Type 0
NotedIf true name k old new = Updates name_cmp old new name (Some k)
NotedIf false name k old new = new ≡ old

-- where there is one more than so many, the name has the last place; else nothing is noted
abbrev pub Noted : (name : List ℕ) → ℕ → List Held → BTreeMap (List ℕ) ℕ → BTreeMap (List ℕ) ℕ → Type 0
Noted name k items old new = NotedIf (nat_lt k (length items)) name k old new

-- what an order brings along for worker w, with an eye of the shelves, and what was copied
pub record CanBring (shelves : ShelvesSeen) (w : ℕ) (sc : Script) (inputs : List (List ℕ × List ℕ)) (held : List Held) (e : SeatSeen)
    (c : Copied) : Type 0 where
  pub spots : Each (λ (h : Held). SpotSound shelves sc (length inputs) h.at) held
  pub eye : e.of ≡ shelves.of
  pub worker : w < length shelves.rows
  pub copied : CopiesStand shelves w inputs held c
