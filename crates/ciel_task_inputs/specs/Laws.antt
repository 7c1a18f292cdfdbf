-- What an order brings along, and what is copied of it, is the job's.
use Rattle.std.specs.Prelude.{◌≡◌, ℕ, List}
use Rattle.sky_base.specs.KitView.{Gives}
use Rattle.sky_base.specs.Name.{digested}
use Rattle.sky_base.specs.See as s
use Rattle.sky_base.specs.Tree.{Script}
use Rattle.sky_base_law.specs.Tasks.{Each, In}
use Rattle.ciel_task_order.specs.Follows.{OrderIs}
use Rattle.ciel_task_order.specs.Reports.{copy_names}
use Rattle.ciel_task_order.specs.Setting.{HasObject}
use Rattle.ciel_task_order.specs.Sound.{CopyFits}
use Rattle.ciel_journal.specs.History.{OpenStart}
use Rattle.ciel_journal.specs.Job as j
use Rattle.ciel_journal.specs.Lawful.{FetchedFrom, Given, HeldAt}
use Rattle.ciel_json.specs.Around.{json_around}
use Rattle.ciel_store.specs.Seen.{ShelvesSeen}
use Rattle.ciel_table.specs.Seen.{TableSeen}
use Rattle.ciel_task_order.specs.Orders.{SpotSound, names_in}
use Rattle.ciel_task_order.specs.Places.{CopyAt}
use Rattle.ciel_task_order.specs.Shop.{InputsInOrder, shop_setting}
use Rattle.ciel_task_order.specs.Views.{P, copies_view, order_view}
use Rattle.ciel_task_order.specs.declared.block.Held.{Held}
use Rattle.ciel_task_order.specs.declared.order.Order.{Order}
use Rattle.ciel_journal_walks.specs.Laws.{Brings}
use Rattle.ciel_want.specs.Waited.{AllKnown}
use Rattle.ciel_task_inputs.specs.Brought.{lies_known}
use Rattle.ciel_task_inputs.specs.Copies.{Copies, IsCopy}
use Rattle.sha1.specs.Sha1.{sha1}
use Rattle.ciel_name.specs.Object.{object_bytes}
use Rattle.sky_frozen_bytes.specs.Bytes.{frozen_bytes}

-- said of each shop whose job has its inputs in order, and of each order with the open Start that it is of
abbrev pub OfOrders : ((digest : List ℕ → List ℕ) → s.Job → Gives → OpenStart s.Desc → Order → Type 0) → Type 0
OfOrders Q =
    (digest : List ℕ → List ℕ) (job : s.Job) (gives : Gives) → InputsInOrder job → (o : OpenStart s.Desc) (order : Order)
    → OrderIs (shop_setting digest job gives) o (order_view order) → Q digest job gives o order

-- by its name it brings the object of each description that the task holds there and that was live, and nothing else
abbrev pub OrdersBring : Type 0
OrdersBring =
    OfOrders (λ digest job gives o order. Brings (digested digest) (λ x. sha1 (object_bytes x)) (λ a. sha1 (frozen_bytes a))
    job (json_around gives) o (lies_known job.inputs order.inputs.items))

-- what the task holds there and the order has a place for was live
abbrev pub NamedIsGiven : Type 0
NamedIsGiven =
    OfOrders (λ digest job gives o order. (d : s.Desc) → HeldAt (shop_setting digest job gives).job o.task o.from d
    → In ((shop_setting digest job gives).job.name d) (names_in order.inputs.items) → Given (shop_setting digest job gives).job o d)

-- a copy of what the task holds there is of what was fetched from another worker, and its object lies at the copy's place
abbrev pub CopiesAreFetched : Type 0
CopiesAreFetched =
    OfOrders (λ digest job gives o order. (shelves : ShelvesSeen) (c : Held)
    → (is : IsCopy shelves order.worker job.inputs order.inputs.items c)
    → (d : s.Desc) → HeldAt (shop_setting digest job gives).job o.task o.from d → c.name ≡ (shop_setting digest job gives).job.name d
    → ((w : ℕ) × FetchedFrom (shop_setting digest job gives).job o d w) × HasObject (shop_setting digest job gives) is.place d)

-- and copies fit the order, where all that it brings along has rows; they are seen with their names
abbrev pub CopiesFit : Type 0
CopiesFit =
    (digest : List ℕ → List ℕ) (shelves : ShelvesSeen) (inputs : List (List ℕ × List ℕ)) (order : Order) (cs : List Held)
    → Copies shelves order.worker inputs order.inputs.items cs → (t : TableSeen P) → AllKnown t (names_in order.inputs.items)
    → j.Each (CopyFits digest (λ (p : P). p.worker) t (order_view order)) (copies_view cs) × (copy_names (copies_view cs) ≡ names_in cs)

-- what lies there is sound for the script, where what the order brings along is
abbrev pub CopiesAreSound : Type 0
CopiesAreSound =
    (shelves : ShelvesSeen) (w : ℕ) (inputs : List (List ℕ × List ℕ)) (held cs : List Held) → Copies shelves w inputs held cs
    → (sc : Script) (count : ℕ) → Each (λ (h : Held). SpotSound shelves sc count h.at) held → Each (λ (c : Held). CopyAt shelves w sc c.at) cs
