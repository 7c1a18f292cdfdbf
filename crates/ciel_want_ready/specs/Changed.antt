-- What comes of the marks where the table, or what is out, has changed, if they still tell all.
use Rattle.std.specs.Prelude.{◌≡◌, ◌<◌, ℕ, List, Bool, true, false, Option, Some, slice_get, slice_set, ◌⊎◌}
use Rattle.sky_base.specs.declared.object.TaskId.{TaskId}
use Rattle.ciel_want_marks.specs.Lists.{flag}
use Rattle.ciel_want_marks.specs.Marks.{MarksSeen}
use Rattle.ciel_want_marks.specs.Moves.{AddsRight, KeepsRight, Placed, PlacesRight}
use Rattle.ciel_want_ready.specs.Fits.{Fits, maker_of}
use Rattle.ciel_table.specs.Seen.{TableSeen, is_live_row}
use Rattle.ciel_table.specs.declared.row.Row.{Row}
use Rattle.ciel_want.specs.Waited.{is_in}

-- a row became live, unless it was so before
abbrev pub PlacedFrom : Option MarksSeen → Bool → Option ℕ → MarksSeen → Type 0
PlacedFrom marks was row n =
    (m : MarksSeen) × (marks ≡ Some m) × (((was ≡ true) × (n ≡ m)) ⊎ ((was ≡ false) × (e : ℕ) × (row ≡ Some e) × Placed e m n × PlacesRight e m n))

-- the marks with one row more
abbrev pub LearnedWith : {P : Type 0} → TableSeen P → List TaskId → Row P → MarksSeen → MarksSeen → Type 0
LearnedWith t out r m n =
    (is_in out (TaskId.Of r.name) ≡ false) × AddsRight (is_live_row r) (maker_of t r) m n

-- a row is learned, unless it was held before
abbrev pub LearnedFrom : {P : Type 0} → TableSeen P → List TaskId → Option MarksSeen → ℕ → ℕ → MarksSeen → Type 0
LearnedFrom {P} t out marks held row n =
    (m : MarksSeen) × (marks ≡ Some m) × (((row < held) × (n ≡ m))
    ⊎ ((row < held → ⊥) × (r : Row P) × (slice_get t.rows row ≡ Some r) × LearnedWith t out r m n))

-- a node is out
abbrev pub StartedFrom : Option MarksSeen → Option ℕ → MarksSeen → Type 0
StartedFrom marks node n =
    (m : MarksSeen) × (u : ℕ) × (marks ≡ Some m) × (node ≡ Some u) × (n.out ≡ slice_set m.out u true) × (n.live ≡ m.live) × (n.makers ≡ m.makers)
    × KeepsRight m n

-- it is out no longer
abbrev pub ClosedFrom : {P : Type 0} → List ℕ → TableSeen P → Option MarksSeen → Option ℕ → MarksSeen → Type 0
ClosedFrom main t marks node n =
    (m : MarksSeen) × (u : ℕ) × (marks ≡ Some m) × (node ≡ Some u) × (n.out ≡ slice_set m.out u false) × Fits main t n

-- it has a later wait, and is out
abbrev pub SavedFrom : Option MarksSeen → Option ℕ → MarksSeen → Type 0
SavedFrom marks node m = (u : ℕ) × (marks ≡ Some m) × (node ≡ Some u) × (flag m.out u ≡ true)
