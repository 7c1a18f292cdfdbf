-- What is asked of the answers to a wait.
use Rattle.std.specs.Prelude.{◌≡◌, ℕ, List}
use Rattle.sky_base.specs.Val.{list, refs_to}
use Rattle.sky_base.specs.Names.{known_of}
use Rattle.sky_base.specs.Kept.{Kept}
use Rattle.sky_base.specs.Eval.{World}
use Rattle.sky_base.specs.ObjectView.{object_view}
use Rattle.sky_base.specs.declared.object.Object.{Object}
use Rattle.sky_base_law.specs.Tasks.{Each}
use Rattle.sky_base_known.specs.Data.{data_of}
use Rattle.sky_base_known.specs.Known.{KeptObject}
use Rattle.sky_machine_entries.specs.declared.control.Wait.{Wait}

-- bytes are read as JSON
abbrev pub ReadsData : World (List ℕ) → Type 0
ReadsData w = (b : List ℕ) → w.reads b ≡ data_of b

-- the value of each of these objects, if it has one, keeps the limits
abbrev pub AnswersKept : List Object → Type 0
AnswersKept os = Each (λ o. KeptObject (object_view o)) os

-- where all outputs of an `exec` are waited for, the list of their references keeps the limits
abbrev pub ListKept : Wait → Type 0
ListKept (Wait.One l c n) = Unit {0}
ListKept (Wait.All ns) = Kept (list (refs_to (known_of ns)))
