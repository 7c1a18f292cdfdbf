-- Objects that are kept by their names, where a history is followed.
use Rattle.std.specs.Prelude.{◌≡◌, List, ℕ, Some}
use Rattle.std.specs.BTreeMap.{BTreeMap, get}
use Rattle.sky_base.specs.KitView.{Gives}
use Rattle.sky_base.specs.NameOrder.{name_cmp}
use Rattle.sky_base.specs.ObjectView.{object_view}
use Rattle.sky_base.specs.See as s
use Rattle.sky_base.specs.declared.object.Object.{Object}
use Rattle.ciel_journal.specs.History.{Event, standing}
use Rattle.ciel_journal.specs.Job.{Digest, In}
use Rattle.ciel_log.specs.Logs.{IsObjectOf}
use Rattle.ciel_task_order.specs.Named.{shop_job}

-- each is the object of a description that is known and has its name
abbrev pub KeepsObjects : (digest : List ℕ → List ℕ) (job : s.Job) (gives : Gives) → List (Event s.Desc) → BTreeMap Digest Object → Type 0
KeepsObjects digest job gives h kept =
    (n : Digest) (x : Object) → get name_cmp kept n ≡ Some x
    → (d : s.Desc) × In d (standing (shop_job digest job gives) h).book × (n ≡ (shop_job digest job gives).name d)
    × IsObjectOf digest job gives d (object_view x)
