-- What the calls of a crew make of a master's state in a run.
use Rattle.std.specs.Prelude.{◌≡◌, ℕ, List, [], ◌∷◌, Some, None}
use Rattle.sky_base.specs.KitView.{Gives}
use Rattle.sky_base.specs.declared.object.TaskId.{TaskId}
use Rattle.ciel_master_board.specs.Board.{Board, OrderOut, find_order}
use Rattle.ciel_master_board.specs.Moves.{accepted, lost_at, order_for, started}
use Rattle.ciel_task_crew.specs.Calls.{Call, Went, given, sent}
use Rattle.ciel_master_law.specs.Ends.{worker_of}
use Rattle.ciel_master.specs.declared.stop.RunEnd.{RunEnd}
use Rattle.ciel_journal.specs.Entries.{Entry}
use Rattle.ciel_task_order.specs.Views.{P, order_view, report_end}
use Rattle.ciel_task_order.specs.declared.order.Order.{Order}
use Rattle.ciel_task_order.specs.declared.report.Report.{Report}
use Rattle.ciel_task_order.specs.declared.shop.Shop.{Shop}
use Rattle.ciel_run_drive.specs.Telling.{TakenAs, ThrownAs}

-- for each kit what it gives, and for each namer its digest; and a premise, as that a history was followed at the beginning
module _ {K N : Type 0} (gives : K → Gives) (digest : N → List ℕ → List ℕ) (shop : Shop K N) (Q : Type 0) where
  -- by these calls, in order, with losses between them: an order that is sent is that of a start; a report that is given is taken where
  -- its order is out, and else nothing comes of it. What reports tell is said under the premise
  pub data Moved : Board P → List Call → Board P → Type 0 where
    stays : {b : Board P} → Moved b [] b
    loses : {b c : Board P} {calls : List Call} (w : ℕ) → Moved (lost_at worker_of w b) calls c → Moved b calls c
    starts : {b c : Board P} {calls : List Call} (x : TaskId) (w : ℕ) (order : Order) → order_view order ≡ order_for worker_of b x w
        → Moved (started worker_of b x w) calls c → Moved b (sent order ∷ calls) c
    takes : {b c : Board P} {calls : List Call} (r : Report) (x : OrderOut) → find_order r.number b.orders ≡ Some x
        → (Q → TakenAs gives digest shop b (accepted (digest shop.namer) worker_of b x r.spawned.items (report_end r)) r)
        → Moved (accepted (digest shop.namer) worker_of b x r.spawned.items (report_end r)) calls c → Moved b (given r ∷ calls) c
    throws : {b c : Board P} {calls : List Call} (r : Report) → find_order r.number b.orders ≡ None → (Q → ThrownAs gives digest shop b r)
        → Moved b calls c → Moved b (given r ∷ calls) c

  module _ {S : Type 0} (goes : S → Call → S → Type 0) where
    -- a crew's record went by some calls from one to another, and by the same calls a master's state did
    pub record Does (s : S) (b : Board P) (t : S) (c : Board P) : Type 0 where
      pub calls : List Call
      pub went : Went goes s calls t
      pub moved : Moved b calls c

    -- so they did, and this is the journal then
    pub record DoesAll (s : S) (b : Board P) (t : S) (J : List Entry) : Type 0 where
      pub board : Board P
      pub does : Does s b t board
      pub journal : J ≡ board.journal

    -- so they did up to the last call, which gave the report of an order that is out, and nothing of that was written
    pub record DoesAllButLast (s : S) (b : Board P) (t : S) (J : List Entry) : Type 0 where
      pub last : S
      pub board : Board P
      pub does : Does s b last board
      pub report : Report
      pub order : OrderOut
      pub is_out : find_order report.number board.orders ≡ Some order
      pub came : goes last (given report) t
      pub journal : J ≡ board.journal

    -- by how the run ends
    abbrev pub Ends : S → Board P → S → List Entry → RunEnd → Type 0
    Ends s b t es (RunEnd.Answer text) = DoesAll s b t es
    Ends s b t es (RunEnd.Fault fault) = DoesAll s b t es
    Ends s b t es (RunEnd.Endless names) = DoesAll s b t es
    Ends s b t es RunEnd.AllLost = DoesAll s b t es
    Ends s b t es (RunEnd.TooMany held more) = DoesAllButLast s b t es
    Ends s b t es (RunEnd.NameClash kept other) = DoesAllButLast s b t es
    Ends s b t es RunEnd.Memory = Unit {0}
