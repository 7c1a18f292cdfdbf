use Rattle.std.proofs.Common.{[]}
use Rattle.sky_base.specs.TreeView.{at}
use Rattle.sky_parse_grammar.proofs.Counts.{script_fits}
use Rattle.sky_parse_grammar.proofs.Exact.{exact}
use Rattle.sky_parse.proofs.ParsedLaw.{is_valid, is_twice, refused_at}
use Rattle.sky_parse.proofs.script.parse.Goals as goal

pub script-requires : goal.script-requires
script-requires c =
    let r = c.in-Ok.ensures.tree in
    (r.0, r.1, script_fits r.0 c.args.tokens.now c.args.keys r.2 c.requires)

pub returns-in-Ok-clause-valid : goal.returns-in-Ok-clause-valid
returns-in-Ok-clause-valid c =
    let r = c.in-Ok.ensures.tree in
    λ tops v. is_valid c.args.keys c.args.tokens.now r.0 r.2 c.script.result (c.script.ensures r.0 r.1) tops v

pub returns-in-Ok-clause-twice : goal.returns-in-Ok-clause-twice
returns-in-Ok-clause-twice c =
    let r = c.in-Ok.ensures.tree in
    λ tops p s n e. is_twice c.args.keys c.args.tokens.now r.0 r.2 c.script.result (c.script.ensures r.0 r.1) tops p s e

pub returns-clause-valid : goal.returns-clause-valid
returns-clause-valid c =
    let read = rw c.in-Err-Stuck.field-0-is at c.in-Err-Stuck.ensures.read in
    λ tops v. (exact c.args.tokens.now c.in-Err-Stuck.left (read [])).none tops v.0

pub returns-clause-twice : goal.returns-clause-twice
returns-clause-twice c =
    let read = rw c.in-Err-Stuck.field-0-is at c.in-Err-Stuck.ensures.read in
    λ tops p s n e. (exact c.args.tokens.now c.in-Err-Stuck.left (read [])).none tops s

pub returns-clause-refused : goal.returns-clause-refused
returns-clause-refused c =
    let read = rw c.in-Err-Stuck.field-0-is at c.in-Err-Stuck.ensures.read in
    refused_at c.args.tokens.now (at c.args.end.0 c.args.end.1) (at c.place-line.result.0 c.place-line.result.1) c.in-Err-Stuck.left (read [])
    c.place-line.ensures
