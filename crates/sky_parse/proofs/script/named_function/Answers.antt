use Rattle.std.proofs.Common.{List, ap, ◌∙◌, []}
use Rattle.sky_base.specs.TreeView.{at}
use Rattle.sky_parse_grammar.specs.Lifted.{param_names}
use Rattle.sky_parse_grammar.specs.Names.{at_twice, same_params}
use Rattle.sky_parse_grammar.specs.Nesting.{place_of}
use Rattle.sky_parse_held.specs.declared.made.Parameter.{Parameter}
use Rattle.sky_parse_held.specs.Params.{params_view}
use Rattle.sky_parse.proofs.ScriptLaw.{read_fun}
use Rattle.sky_parse.proofs.script.named_function.Goals as goal

pub returns-clause-tree : goal.returns-clause-tree
returns-clause-tree c =
    let p = at c.in_ok-name.line c.in_ok-name.col in
    let ps = c.in_ok-params.params.items in
    let items = c.deref.ensures.value in
    read_fun c.in_ok-name.name p (params_view ps) c.in-Ok-parameters.params c.in_ok-body.body c.of.result c.args.known.now c.args.made.now
    c.twice.new.self c.twice-2.new.self c.whole_block.new.made c.args.ts.now c.in_ok-name.rest.now c.in_ok-rest.rest.now
    c.in_ok-params.rest.now c.in_ok-body.rest.now
    (place_of c.noted.result) (place_of c.in-Ok-parameters.same)
    (c.in-Ok-parameters.ensures.names ∙ ap (λ (xs : List Parameter). param_names (params_view xs)) items)
    (c.of.ensures ∙ c.new.ensures.items) (c.noted.ensures ∙ ap (λ b. at_twice b p) c.in-Ok.ensures.was)
    (c.in-Ok-parameters.ensures.same ∙ ap (λ (xs : List Parameter). same_params [] (params_view xs)) items) c.twice.ensures c.twice-2.ensures
    c.in_ok-name.ensures.spelled c.in_ok-rest.ensures.spelled c.in_ok-params.ensures.tree c.in_ok-body.ensures.tree
