use Rattle.std.proofs.Common.{◌<◌, ◌∙◌, ap, sym, subst, []}
use Rattle.sky_base.specs.Tree.{script_nodes}
use Rattle.sky_parse_grammar.specs.Names.{same_names}
use Rattle.sky_parse_grammar.specs.Nesting.{place_of}
use Rattle.sky_parse.proofs.ParsedLaw.{whole_script, made_script}
use Rattle.sky_parse.proofs.script.script.Goals as goal

pub new-requires : goal.new-requires
new-requires c =
    let t = c.requires in
    subst (λ s. script_nodes s < 4294967296)
    (sym (whole_script c.args.read t.0 c.args.keys c.append.new.self.items c.into_parts-anonymous.result.0.items c.of.result c.of-in-Ok.result
    t.1 c.into_parts-anonymous.ensures.funs c.in-Ok.ensures.items c.of.ensures c.of-in-Ok.ensures)) t.2

pub returns-in-Ok : goal.returns-in-Ok
returns-in-Ok c = λ tops h.
    made_script (same_names [] tops) c.args.keys tops c.new.result (sym h.3 ∙ sym c.into_parts-anonymous.ensures.same ∙ ap place_of c.in_default.is)
    (c.new.ensures ∙ whole_script c.args.read tops c.args.keys c.append.new.self.items c.into_parts-anonymous.result.0.items c.of.result
    c.of-in-Ok.result h c.into_parts-anonymous.ensures.funs c.in-Ok.ensures.items c.of.ensures c.of-in-Ok.ensures)
