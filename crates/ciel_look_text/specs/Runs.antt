-- The code's orders, as they are said.
use Rattle.std.specs.Prelude.{ℕ, List, decimal}
use Rattle.ciel_look_tasks.specs.Known.{Named}
use Rattle.ciel_look_tasks.specs.SceneView.{order_view}
use Rattle.ciel_look_tasks.specs.declared.scene.Run.{Run}
use Rattle.ciel_look_text.specs.Text.{order_said}

abbrev pub number_said : Run → List ℕ
number_said r = decimal r.number

abbrev pub run_said : List Named → Run → List ℕ
run_said known r = order_said known (order_view r)
