-- What workers have between two turns of a run, and what its history says of that.
use Rattle.std.specs.Prelude.{◌≡◌, ℕ, ◌<◌, List, [], ◌∷◌, ◌++◌, length, true, nat_eq, ◌⊎◌}
use Rattle.std.specs.List.{list_any}
use Rattle.ciel_journal.specs.History.{Event, OpenStart, standing}
use Rattle.ciel_journal.specs.Job.{In}
use Rattle.ciel_master_board.specs.Board.{Board, Order, OrderOut}
use Rattle.ciel_master_board.specs.Driving.{Runs}
use Rattle.ciel_master_board.specs.Follows.{OrderIs}
use Rattle.ciel_master_board.specs.Setting.{Setting}
use Rattle.ciel_master_board.specs.Left.{Has, Slots}

-- the worker is lost
abbrev pub IsLost : List ℕ → ℕ → Type 0
IsLost gone w = list_any (nat_eq w) gone ≡ true

-- what workers have
pub record Handed {P : Type 0} (b : Board P) (slots : Slots P) : Type 0 where
  pub each : length slots ≡ b.plan.workers
  -- what a worker has is its own order, which is out, unless the worker is lost
  pub own : (w : ℕ) (x : Order P) → Has slots w x → x.out.worker ≡ w
  pub still : (w : ℕ) (x : Order P) → Has slots w x → In x.out b.orders ⊎ IsLost b.table.gone w
  -- what is out is with its worker
  pub sent : (y : OrderOut) → In y b.orders → (x : Order P) × Has slots y.worker x × (x.out ≡ y)
  -- no two have one number, and each number was given
  pub given : (w : ℕ) (x : Order P) → Has slots w x → x.out.number < b.starts
  pub apart : (w u : ℕ) (x y : Order P) → Has slots w x → Has slots u y → x.out.number ≡ y.out.number → w ≡ u

module _ {D P B : Type 0} (s : Setting D P B) where
  -- what workers have are orders of this history: each is that of the open Start of its number
  abbrev pub OrdersOf : List (Event D) → Slots P → Type 0
  OrdersOf h slots =
      (w : ℕ) (x : Order P) (o : OpenStart D) → Has slots w x → In o (standing s.job h).orders → o.number ≡ x.out.number → OrderIs s o x

  -- an event more: a run with this history came to this state, and what workers have are orders of it
  pub record OneEventMore (h : List (Event D)) (c : Board P) (then : Slots P) : Type 0 where
    pub event : Event D
    pub runs : Runs s (h ++ event ∷ []) c
    pub orders : OrdersOf (h ++ event ∷ []) then
