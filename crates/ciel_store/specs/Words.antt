-- The rule of the words: a worker's word is 0, or 1 more than the number of its loss.
use Rattle.std.specs.Prelude.{◌≡◌, ◌≢◌, ℕ, ◌+◌, ◌-◌, ◌<◌, ◌≤◌, ◌^◌, true, false, List, [], ◌∷◌, ◌++◌, length, slice_index}
use mathlib.Core.Option.{some}
use lib.ListN.{get_elem?}
use Rattle.atomic_table.specs.Table.{State}
use Rattle.ciel_store.specs.declared.loss.Loss.{Loss}
use Rattle.ciel_store.specs.declared.loss.View.{View}

abbrev pub loss : ℕ → ℕ → Loss
loss number worker = record { number = number; worker = worker }

abbrev pub marker : List Loss → List Loss → View
marker own beside = record { marks = true; own = own; beside = beside }

abbrev pub eye : List Loss → View
eye own = record { marks = false; own = own; beside = [] }

abbrev pub Has : List Loss → Loss → Type 0
Has xs x = (k : ℕ) × (get_elem? xs k ≡ some x)

abbrev pub AllIn : List Loss → List Loss → Type 0
AllIn xs ys = (l : Loss) → Has xs l → Has ys l

-- the marker's seat has all losses, and the others have seen some of them
pub record Fits (seat : ℕ) (losses : List Loss) (j : ℕ) (v : View) : Type 0 where
  pub one : v.marks ≡ true → (j ≡ seat) × (v.own ≡ losses)
  pub own : AllIn v.own losses
  pub beside : AllIn v.beside losses

pub record Kept {S : Type 0} (n : ℕ) (s : State S View) : Type 0 where
  pub seat : ℕ
  pub losses : List Loss
  pub wide : length s.words ≡ n
  pub each : (j : ℕ) (v : View) → get_elem? s.views j ≡ some v → Fits seat losses j v
  pub said : (l : Loss) → Has losses l → (slice_index s.words l.worker ≡ l.number + 1) × (l.number < 2 ^ 32)
  pub meant : (w : ℕ) → 0 < slice_index s.words w → Has losses (loss (slice_index s.words w - 1) w)

-- the marker's list has grown by the loss of the worker, if it had none of it
pub record HasMarked (word second : ℕ) (v : View) (n : ℕ) (w : View) : Type 0 where
  pub fresh : n ≡ 0 → (w ≡ record v { own = v.own ++ loss (second - 1) word ∷ [] }) × ((l : Loss) → Has v.own l → l.worker ≢ word)
  pub stale : 0 < n → (w ≡ v) × Has v.own (loss (n - 1) word)

-- the list has grown by the loss that the word holds, and a loss of this worker that was seen before is that one
pub record HasLooked (word : ℕ) (v : View) (n : ℕ) (w : View) : Type 0 where
  pub none : n ≡ 0 → w ≡ v
  pub some_loss : 0 < n → w ≡ record v { own = v.own ++ loss (n - 1) word ∷ [] }
  pub small : n ≤ 2 ^ 32
  pub before : (l : Loss) → Has v.own l → l.worker ≡ word → n ≡ l.number + 1
