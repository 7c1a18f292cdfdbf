use Rattle.std.proofs.Common.{◌∙◌}
use Rattle.sky_base.specs.TreeView.{at}
use Rattle.sky_base.specs.Res.{Fin}
use Rattle.sky_base_scope.specs.Plain.{items}
use Rattle.sky_machine_code.specs.declared.shape.PartForm.{PartForm}
use Rattle.sky_machine_entries.specs.Entries.{end_of}
use Rattle.sky_machine_parts.proofs.Forms.{as_form, as_end}
use Rattle.sky_machine_parts.proofs.formed.formed.Goals as goal

pub returns-in-Spawn-clause-same : goal.returns-in-Spawn-clause-same
returns-in-Spawn-clause-same g c = λ w st h.
    let digest = g.N.Namer.digest c.args.ground.now.namer.now in
    let es = c.args.entries.now.items in
    let p = at c.args.line c.args.col in
    c.in_ok-spawn_of-in-Spawn.ensures.same w es c.args.node st h
    ∙ as_form digest c.args.made.now.items w es (items c.args.values) c.args.node p st c.args.form PartForm.Spawn c.in-Spawn.is

pub returns-in-Ref-clause-same : goal.returns-in-Ref-clause-same
returns-in-Ref-clause-same g c = λ w st h.
    let digest = g.N.Namer.digest c.args.ground.now.namer.now in
    let es = c.args.entries.now.items in
    let p = at c.args.line c.args.col in
    c.in_ok-ref_of-in-Ref.ensures.same w es c.args.node st h
    ∙ as_form digest c.args.made.now.items w es (items c.args.values) c.args.node p st c.args.form PartForm.Ref c.in-Ref.is

pub returns-in-SpawnExec-clause-same : goal.returns-in-SpawnExec-clause-same
returns-in-SpawnExec-clause-same g c = λ w st h.
    let digest = g.N.Namer.digest c.args.ground.now.namer.now in
    let es = c.args.entries.now.items in
    let p = at c.args.line c.args.col in
    c.in_ok-spawn_exec_of-in-SpawnExec.ensures.same w es c.args.node st h
    ∙ as_form digest c.args.made.now.items w es (items c.args.values) c.args.node p st c.args.form PartForm.SpawnExec c.in-SpawnExec.is

pub returns-in-List-clause-same : goal.returns-in-List-clause-same
returns-in-List-clause-same g c = λ w st h.
    let digest = g.N.Namer.digest c.args.ground.now.namer.now in
    let es = c.args.entries.now.items in
    let p = at c.args.line c.args.col in
    as_end digest c.args.made.now.items w es (items c.args.values) c.args.node p st c.args.form PartForm.List (Fin (end_of c.list_of.result) st)
    c.in-List.is (c.list_of.ensures.same w c.args.node st)

pub returns-in-Dict-clause-same : goal.returns-in-Dict-clause-same
returns-in-Dict-clause-same g c = λ w st h.
    let digest = g.N.Namer.digest c.args.ground.now.namer.now in
    let es = c.args.entries.now.items in
    let p = at c.args.line c.args.col in
    as_end digest c.args.made.now.items w es (items c.args.values) c.args.node p st c.args.form PartForm.Dict
    (Fin (end_of c.in_ok-dict_of-in-Dict.field-0) st) c.in-Dict.is (c.in_ok-dict_of-in-Dict.ensures.same w c.args.node st)

pub returns-in-Len-clause-same : goal.returns-in-Len-clause-same
returns-in-Len-clause-same g c = λ w st h.
    let digest = g.N.Namer.digest c.args.ground.now.namer.now in
    let es = c.args.entries.now.items in
    let p = at c.args.line c.args.col in
    as_end digest c.args.made.now.items w es (items c.args.values) c.args.node p st c.args.form PartForm.Len
    (Fin (end_of c.in_ok-len_of-in-Len.field-0) st) c.in-Len.is (c.in_ok-len_of-in-Len.ensures.same w c.args.node st)

pub returns-in-Keys-clause-same : goal.returns-in-Keys-clause-same
returns-in-Keys-clause-same g c = λ w st h.
    let digest = g.N.Namer.digest c.args.ground.now.namer.now in
    let es = c.args.entries.now.items in
    let p = at c.args.line c.args.col in
    as_end digest c.args.made.now.items w es (items c.args.values) c.args.node p st c.args.form PartForm.Keys
    (Fin (end_of c.in_ok-keys_of-in-Keys.field-0) st) c.in-Keys.is (c.in_ok-keys_of-in-Keys.ensures.same w c.args.node st)

pub returns-in-Has-clause-same : goal.returns-in-Has-clause-same
returns-in-Has-clause-same g c = λ w st h.
    let digest = g.N.Namer.digest c.args.ground.now.namer.now in
    let es = c.args.entries.now.items in
    let p = at c.args.line c.args.col in
    as_end digest c.args.made.now.items w es (items c.args.values) c.args.node p st c.args.form PartForm.Has
    (Fin (end_of c.in_ok-has_of-in-Has.field-0) st) c.in-Has.is (c.in_ok-has_of-in-Has.ensures.same w c.args.node st)

pub returns-clause-same : goal.returns-clause-same
returns-clause-same g c = λ w st h.
    let digest = g.N.Namer.digest c.args.ground.now.namer.now in
    let es = c.args.entries.now.items in
    let p = at c.args.line c.args.col in
    as_end digest c.args.made.now.items w es (items c.args.values) c.args.node p st c.args.form PartForm.Range
    (Fin (end_of c.in_ok-range_of-in-Range.field-0) st) c.in-Range.is (c.in_ok-range_of-in-Range.ensures.same w c.args.node st)
