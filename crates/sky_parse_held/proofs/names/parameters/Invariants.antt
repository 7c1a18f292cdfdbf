use Rattle.std.proofs.Common.{◌≡◌, ℕ, List, [], ◌++◌, drop}
use Rattle.sky_base.specs.Eval.{is_one_of}
use Rattle.sky_parse_grammar.specs.Nesting.{place_of}
use Rattle.sky_parse_grammar.specs.Lifted.{param_names}
use Rattle.sky_parse_grammar.specs.Names.{first_of, same_params}
use Rattle.sky_parse_held.specs.Params.{params_view}
use Rattle.sky_parse_held.proofs.names.parameters.Given as goal

abbrev pub invariant-loop-param : goal.invariant-loop-param
invariant-loop-param l = record {
  names : l.items.items ++ param_names (params_view (drop l.param-index l.params)) ≡ param_names (params_view l.params);
  known : (x : List ℕ) → is_one_of x l.known ≡ is_one_of x l.items.items;
  same : first_of (place_of l.same) (same_params l.items.items (params_view (drop l.param-index l.params))) ≡ same_params [] (params_view l.params);
}
