use Rattle.std.proofs.Common.{◌+◌, arith, subst, sym}
use Rattle.ciel_log_objects.proofs.Built.{MadeTo, all_kept, cut_there, made_all, made_more, made_none}
use Rattle.ciel_log_objects.proofs.Fails.{each_there}
use Rattle.ciel_log_objects.specs.Objects.{Passes}
use Rattle.sky_base.specs.ObjectView.{object_view}
use Rattle.sky_base.specs.declared.object.Object.{Object}
use Rattle.ciel_log_objects.proofs.objects.put_outputs.Goals as goal

pub loop-index-init : goal.loop-index-init
loop-index-init g c =
    rw c.new-made.ensures.items (made_none c.args.shelves.now c.args.worker c.args.script.now c.args.known.now c.args.names.now c.args.objects.now
    c.args.kept.now)

pub loop-index-preserved : goal.loop-index-preserved
loop-index-preserved g c =
    let l = c.loop-index in
    let ns = c.args.names.now in
    let os = c.args.objects.now in
    let one = c.in-Some.one in
    let n = c.in_ok-put.ensures in
    let name = rw c.in-Some.is at n.name in
    let mark = rw c.in-Some.is at n.mark in
    let passes = rw c.in-Some.is at n.passes in
    let lies = rw c.in-Some.is at n.lies in
    let kept = rw c.in-Some.is at n.kept in
    let n_there = cut_there ns l.index c.index-names-index.result (omega arith) c.index-names-index.is in
    let o_there = cut_there os l.index c.index-objects-index.result (omega arith) c.index-objects-index.is in
    subst (λ ms. MadeTo c.args.shelves.now c.args.worker c.args.script.now c.args.known.now ns os c.args.kept.now (l.index + 1) ms c.put_output.new.kept)
    (sym c.in-Ok.ensures.items)
    (made_more c.args.shelves.now c.args.worker c.args.script.now c.args.known.now ns os c.args.kept.now l.index l.made.items one
    c.index-names-index.result c.index-objects-index.result l.kept c.put_output.new.kept l.invariant n_there o_there name mark passes lies kept)

pub returns-clause-made : goal.returns-clause-made
returns-clause-made g c =
    let l = c.loop-index in
    made_all c.args.shelves.now c.args.worker c.args.script.now c.args.known.now c.args.names.now c.args.objects.now c.args.kept.now l.index l.made.items
    l.kept l.invariant (omega arith) (omega arith)

pub returns-clause-kept : goal.returns-clause-kept
returns-clause-kept g c =
    let l = c.loop-index in
    all_kept c.args.shelves.now c.args.worker c.args.script.now c.args.known.now c.args.names.now c.args.objects.now c.args.kept.now l.index l.made.items
    l.kept l.invariant (omega arith) (omega arith)

pub returns-in_default-clause-refused : goal.returns-in_default-clause-refused
returns-in_default-clause-refused g c all =
    let l = c.loop-index in
    let os = c.args.objects.now in
    let no = rw c.in_default.is at c.in_ok-put.ensures.refused in
    let there = cut_there os l.index c.index-objects-index.result (omega arith) c.index-objects-index.is in
    no (each_there (λ (o : Object). Passes c.args.script.now c.args.known.now (object_view o)) os l.index c.index-objects-index.result _ there all)
