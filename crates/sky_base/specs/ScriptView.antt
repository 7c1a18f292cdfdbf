-- What the functions of a script in the code stand for.
use Rattle.std.specs.Prelude.{List, [], ◌∷◌}
use Rattle.sky_base.specs.Tree as logic
use Rattle.sky_base.specs.TreeView.{at}
use Rattle.sky_base.specs.declared.script.FunDef.{FunDef}

abbrev pub fun_view : FunDef → logic.FunDef
fun_view f = record { name = f.name; params = f.params; body = f.body; place = at f.line f.col; uses = f.uses }

abbrev pub funs_view : List FunDef → List logic.FunDef
funs_view [] = []
funs_view (f ∷ fs) = fun_view f ∷ funs_view fs
