-- Parameters as they are read.
use Rattle.std.specs.Prelude.{List, [], ◌∷◌}
use Rattle.sky_base.specs.TreeView.{at}
use Rattle.sky_parse_grammar.specs.Source.{Param}
use Rattle.sky_parse_held.specs.declared.made.Parameter.{Parameter}

abbrev pub params_view : List Parameter → List Param
params_view [] = []
params_view (x ∷ xs) = record { name = x.name; place = at x.line x.col } ∷ params_view xs
