-- The executor's task that reads what another task makes, once and nothing else: it can begin on it while that task still runs.
use Rattle.std.specs.Prelude.{◌≡◌, ◌<◌, ℕ, List, [], ◌∷◌, false, Option, Some, None, slice_get}
use Rattle.sky_base.specs.Name.{held_name}
use Rattle.sky_base.specs.Val.{Desc, refs}
use Rattle.sky_base.specs.View.{view}
use Rattle.sky_base.specs.declared.object.Desc1.{Desc1}
use Rattle.sky_base.specs.declared.object.TaskId.{TaskId}
use Rattle.ciel_journal.specs.Graph.{Led}
use Rattle.ciel_table.specs.Seen.{TableSeen, row_named}
use Rattle.ciel_table.specs.declared.row.Row.{Row}
use Rattle.ciel_want.specs.Waited.{graph, is_in, maker}

module _ {P : Type 0} (t : TableSeen P) (task : TaskId) where
  -- one reference occurs, and the task makes what it names
  abbrev pub IsOneOf : List (Desc (List ℕ)) → Type 0
  IsOneOf [] = ⊥
  IsOneOf (d ∷ []) = maker t (held_name d) ≡ Some task
  IsOneOf (d ∷ e ∷ ds) = ⊥

  -- an executor's arguments have it
  abbrev pub ReadsOne : Desc1 → Type 0
  ReadsOne (Desc1.Call f c vs) = ⊥
  ReadsOne (Desc1.Exec x a n i) = IsOneOf (refs (view a))
  ReadsOne (Desc1.Input k) = ⊥

module _ {P : Type 0} (main : List ℕ) (t : TableSeen P) (out : List TaskId) (task : TaskId) where
  -- A task follows another one: it is reached, where a task that is out isn't searched through, so something that it makes isn't live; it
  -- isn't out; it is an executor's, and what it reads is one thing, once, which the other one makes
  pub record Follows (x : TaskId) (d : Desc1) : Type 0 where
    pub reached : Led (graph main t out) x
    pub waits : is_in out x ≡ false
    pub name : List ℕ
    pub is : x ≡ TaskId.Of name
    pub row : Row P
    pub found : row_named name t ≡ Some row
    pub desc : row.desc ≡ d
    pub reads : ReadsOne t task d

  -- the task of this row does, and that of no row before it
  pub record FollowsFirst (at : ℕ) (d : Desc1) : Type 0 where
    pub row : Row P
    pub there : slice_get t.rows at ≡ Some row
    pub follows : Follows row.task d
    pub least : (k : ℕ) (r : Row P) (e : Desc1) → k < at → slice_get t.rows k ≡ Some r → Follows r.task e → ⊥

  -- the first that follows, in the order of their least rows, by its first output; none where none does
  abbrev pub FollowerIs : Option Desc1 → Type 0
  FollowerIs None = (x : TaskId) (d : Desc1) → Follows x d → ⊥
  FollowerIs (Some d) = (at : ℕ) × FollowsFirst at d
