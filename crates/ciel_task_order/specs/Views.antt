-- Orders and reports as the master's laws see them.
use Rattle.std.specs.Prelude.{List, [], ◌∷◌, map}
use Rattle.ciel_master_board.specs.Board as board
use Rattle.ciel_master_board.specs.Reports as reports
use Rattle.ciel_master_board.specs.Job.{Digest}
use Rattle.ciel_store.specs.Seen.{PlaceSeen}
use Rattle.ciel_task_order.specs.declared.block.Block.{Block}
use Rattle.ciel_task_order.specs.declared.block.Held.{Held}
use Rattle.ciel_task_order.specs.declared.block.Spot.{Spot}
use Rattle.ciel_task_order.specs.declared.order.Order.{Order}
use Rattle.ciel_task_order.specs.declared.report.End.{End}
use Rattle.ciel_task_order.specs.declared.report.Made.{Made}
use Rattle.ciel_task_order.specs.declared.report.Report.{Report}

abbrev pub P : Type 0
P = PlaceSeen Block

-- ---- orders

abbrev pub spot_view : Spot → board.Spot P
spot_view (Spot.Shelf p) = board.Spot.shelf p
spot_view (Spot.Input i) = board.Spot.input i

abbrev pub brought_view : Held → board.Brought P
brought_view h = record { name = h.name; spot = spot_view h.at }

abbrev pub out_view : Order → board.OrderOut
out_view x = record { number = x.number; worker = x.worker; task = x.task; from = x.from }

abbrev pub order_view : Order → board.Order P
order_view x =
    record {
      out = out_view x;
      main = x.main;
      desc = x.desc;
      stack = x.saved;
      inputs = map brought_view x.inputs.items;
    }

-- ---- reports

abbrev pub output_view : Made → reports.Output P
output_view m = record { name = m.name; place = m.place; mark = m.mark }

-- a copy is at a place
abbrev pub copy_at : Digest → Spot → List (reports.Copy P) → List (reports.Copy P)
copy_at n (Spot.Shelf p) rest = record { name = n; place = p } ∷ rest
copy_at n (Spot.Input i) rest = rest

abbrev pub copies_view : List Held → List (reports.Copy P)
copies_view [] = []
copies_view (h ∷ hs) = copy_at h.name h.at (copies_view hs)

-- the root task's end has no outputs
abbrev pub how_view : List Held → End → reports.End P
how_view copied (End.Made ms) = reports.made (map output_view ms.items) (copies_view copied)
how_view copied (End.Saved p j refs holds mark) =
    reports.saved (record { place = p; j = j; mark = mark; refs = refs; holds = holds })
how_view copied (End.Shown s) = reports.made [] (copies_view copied)
how_view copied (End.Missing name loss seen) = reports.missing name loss.number

abbrev pub report_end : Report → reports.End P
report_end r = how_view r.copied.items r.end
