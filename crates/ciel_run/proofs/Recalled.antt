-- With a memo whose entries are right executors give what they give without.
use Rattle.std.proofs.Common.{◌≡◌, ◌∙◌, ℕ, List, Option, Some, None, refl}
use Rattle.sky_base.specs.KitView.{Gives}
use Rattle.sky_base_law.specs.Tasks.{Each}
use Rattle.line_kit.specs.Gives.{gives}
use Rattle.ciel_memo.proofs.Plain.{right_is_plain}
use Rattle.ciel_memo.specs.Right.{IsRight}
use Rattle.ciel_memo_file.specs.Entries.{Entry}
use Rattle.ciel_memo_file.specs.File.{IsMemo}
use Rattle.ciel_run.specs.Laws.{RightMemoChangesNothing}
use Rattle.ciel_run_line.specs.Given.{GivesAt}

module _ (content : List ℕ → Option (List ℕ)) (g : Gives) where
  plain_at : (memo : Option (List ℕ)) → GivesAt content memo g
      → ((path bytes : List ℕ) (es : List Entry) → memo ≡ Some path → content path ≡ Some bytes → IsMemo bytes es → Each (IsRight gives) es) → g ≡ gives
  plain_at None given right = given
  plain_at (Some path) given right = given.4 ∙ right_is_plain gives given.1 (right path given.0 given.1 refl given.2 given.3)

pub right_memo_changes_nothing : RightMemoChangesNothing
right_memo_changes_nothing content w g given right = plain_at content g w.memo given right
