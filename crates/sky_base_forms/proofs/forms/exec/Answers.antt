use Rattle.sky_base.specs.Val.{list, refs_to}
use Rattle.sky_base.specs.Names.{known_of}
use Rattle.sky_base.specs.View.{view}
use Rattle.sky_base.specs.TreeView.{at}
use Rattle.sky_base.specs.Res.{counted}
use Rattle.sky_base_scope.specs.Plain.{Out}
use Rattle.sky_base_scope.specs.RunView.{cut_of}
use Rattle.sky_base_forms.specs.GroundView.{ground_of}
use Rattle.sky_base_forms.proofs.FormLaw.{exec_is}
use Rattle.sky_base_forms.proofs.forms.exec.Goals as goal

pub returns-in-Ok-clause-answer : goal.returns-in-Ok-clause-answer
returns-in-Ok-clause-answer c =
    let more = c.outputs.new.rows in
    let st = c.args.state.now in
    let names = c.in_ok-names.names in
    rw (c.in_ok-visit.ensures.ok.1, c.in_ok-references-in-Ok.ensures.value)
    (exec_is (ground_of c.args.ground.now) (at c.args.line c.args.col) c.args.rows.now more st (view c.args.executor.now)
    (view c.args.args.now) (view c.args.count.now) c.in_ok-visit.ensures.ok.0 names
    (Out.got (list (refs_to (known_of names))) more (counted st)) c.in_ok-names.ensures.answer (c.in-Ok.ensures more (counted st)))

pub returns-clause-answer : goal.returns-clause-answer
returns-clause-answer c = λ ne.
    let more = c.outputs.new.rows in
    let st = c.args.state.now in
    exec_is (ground_of c.args.ground.now) (at c.args.line c.args.col) c.args.rows.now more st (view c.args.executor.now) (view c.args.args.now)
    (view c.args.count.now) c.in_ok-visit.ensures.ok.0 c.in_ok-names.names (Out.cut (cut_of c.in-Err.cut) more) c.in_ok-names.ensures.answer
    (c.in-Err.ensures more (counted st))
