-- What a state of the code stands for.
use Rattle.std.specs.Prelude.{ℕ, List, map}
use Rattle.sky_base.specs.Val.{Val, Desc}
use Rattle.sky_base.specs.View.{view}
use Rattle.sky_base.specs.ObjectView.{desc_view}
use Rattle.sky_base.specs.Read as logic
use Rattle.sky_base.specs.declared.value.Value.{Value}
use Rattle.sky_base.specs.declared.object.Named.{Named}
use Rattle.sky_state.specs.declared.frame.Todo.{Todo}
use Rattle.sky_state.specs.declared.frame.Frame.{Frame}

abbrev pub todo_view : Todo → logic.Todo
todo_view t = record { node = t.node; step = t.step }

abbrev pub todos_view : List Todo → List logic.Todo
todos_view ts = map todo_view ts

abbrev pub stack_view : List Value → List (Val (List ℕ))
stack_view vs = map view vs

abbrev pub frame_view : Frame → logic.Frame (List ℕ)
frame_view f = record { fun = f.fun; vars = f.vars; stack = f.stack; todo = f.todo }

abbrev pub frames_view : List Frame → List (logic.Frame (List ℕ))
frames_view fs = map frame_view fs

-- a description with its name
abbrev pub named_view : Named → List ℕ × Desc (List ℕ)
named_view n = (n.name, desc_view n.desc)

abbrev pub spawned_view : List Named → List (List ℕ × Desc (List ℕ))
spawned_view ns = map named_view ns
