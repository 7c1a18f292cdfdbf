-- What a description and an object of the code stand for.
use Rattle.std.specs.Prelude.{ℕ, List}
use Rattle.sky_base.specs.Val.{Desc, call, out, input}
use Rattle.sky_base.specs.View.{view}
use Rattle.sky_base.specs.Res as logic
use Rattle.sky_base.specs.declared.object.Desc1.{Desc1}
use Rattle.sky_base.specs.declared.object.Object.{Object}

abbrev pub desc_view : Desc1 → Desc (List ℕ)
desc_view (Desc1.Call f c vs) = call f c vs
desc_view (Desc1.Exec x v n i) = out x (view v) n i
desc_view (Desc1.Input k) = input k

abbrev pub object_view : Object → logic.Object (List ℕ)
object_view (Object.Bytes b) = logic.Object.bytes b
object_view (Object.Data v) = logic.Object.data_of (view v)
object_view (Object.Fault f) = logic.Object.fault f
