-- Orders that are out, and what is kept of the tasks that can run, beside the state by names.
use Rattle.std.specs.Prelude.{◌≡◌, ℕ, List, [], ◌∷◌, cond, Option, Some, None, nat_eq}
use Rattle.ciel_master_board.specs.Board as b
use Rattle.ciel_master_board.specs.Board.{Board, tasks_out}
use Rattle.ciel_journal.specs.Job.{In}
use Rattle.ciel_want_ready.specs.Seen.{ReadySeen}

-- the table of a state, its main call's name, and the tasks of its orders as out
abbrev pub ready_of : {P : Type 0} → Board P → ReadySeen P
ready_of b = record { table = b.table; main = b.main; out = tasks_out b.orders }

-- the order of a worker
abbrev pub worker_order : ℕ → List b.OrderOut → Option b.OrderOut
worker_order w [] = None
worker_order w (x ∷ xs) = cond (nat_eq w x.worker) (Some x) (worker_order w xs)

-- a number, a task and a worker have one order
pub record OneEach (orders : List b.OrderOut) : Type 0 where
  pub numbers : (x y : b.OrderOut) → In x orders → In y orders → x.number ≡ y.number → x ≡ y
  pub tasks : (x y : b.OrderOut) → In x orders → In y orders → x.task ≡ y.task → x ≡ y
  pub workers : (x y : b.OrderOut) → In x orders → In y orders → x.worker ≡ y.worker → x ≡ y
