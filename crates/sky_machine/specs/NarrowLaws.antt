-- The laws, each said of every script.
use Rattle.std.specs.Prelude.{◌<◌, ◌≤◌, ◌+◌, ◌^◌, ℕ, List, length, Some}
use Rattle.sky_base.specs.Tree.{Script}
use Rattle.sky_base_law.specs.Opened.{Node}
use Rattle.sky_base_law.specs.Nodes.{node_at}
use Rattle.sky_state.specs.Table.{row, IsStep}
use Rattle.sky_state.specs.Chained.{AllOpened, Chained}
use Rattle.sky_machine_entries.specs.Entries.{Form}
use Rattle.sky_machine_entries.specs.Ready.{AreReady}
use Rattle.sky_machine_save.specs.Saving.{AllCanSave}
use Rattle.sky_parse.specs.Source.{IsScript}
use Rattle.sky_machine.specs.Width.{width, Narrow}

-- a step that there is is at most two further than its node is wide
abbrev pub StepsAreWithin : Type 0
StepsAreWithin = (t : Node) (n k : ℕ) → IsStep (row (Some t) n k) → k ≤ width t + 2

-- forms under way that follow each other in a script with narrow nodes, each opened by what is saved of it, can be saved
abbrev pub ChainedCanBeSaved : Type 0
ChainedCanBeSaved =
    (sc : Script) → Narrow sc → (ps : List ℕ) (fr : List Form) → Chained sc (λ i. node_at sc i) ps fr → AllOpened (λ i. node_at sc i) fr
    → AreReady (λ i. node_at sc i) fr → AllCanSave fr

-- a script that bytes are has narrow nodes
abbrev pub ScriptsAreNarrow : Type 0
ScriptsAreNarrow =
    (source : List ℕ) (keys : List (List ℕ)) (script : Script) → IsScript source keys script → length source < 2 ^ 31 → Narrow script
