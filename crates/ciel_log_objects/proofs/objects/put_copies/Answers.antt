use Rattle.std.proofs.Common.{◌+◌, arith, subst, sym}
use Rattle.ciel_log_objects.proofs.Built.{CopiesTo, copies_all, copies_more, copies_none, cut_there}
use Rattle.ciel_log_objects.proofs.Fails.{each_there}
use Rattle.ciel_log_objects.specs.Objects.{IsKept}
use Rattle.ciel_log_objects.proofs.objects.put_copies.Goals as goal

pub loop-name-init : goal.loop-name-init
loop-name-init g c =
    rw c.new-copies.ensures.items (copies_none c.args.shelves.now c.args.worker c.args.script.now c.args.known.now c.args.kept.now c.args.names.now)

pub loop-name-preserved : goal.loop-name-preserved
loop-name-preserved g c =
    let l = c.loop-name in
    let ns = c.args.names.now in
    let n = c.in_ok-put.ensures in
    let name = rw c.in-Some.is at n.name in
    let copy = rw c.in-Some.is at n.copy in
    let there = cut_there ns l.name-index c.name-item.result (omega arith) c.name-item.is in
    subst (λ hs. CopiesTo c.args.shelves.now c.args.worker c.args.script.now c.args.known.now c.args.kept.now ns (l.name-index + 1) hs)
    (sym c.in-Ok.ensures.items)
    (copies_more c.args.shelves.now c.args.worker c.args.script.now c.args.known.now c.args.kept.now ns l.name-index l.copies.items c.in-Some.copy
    c.name-item.result l.invariant there name copy)

pub returns-in_default-clause-refused : goal.returns-in_default-clause-refused
returns-in_default-clause-refused g c all =
    let l = c.loop-name in
    let ns = c.args.names.now in
    let no = rw c.in_default.is at c.in_ok-put.ensures.refused in
    let there = cut_there ns l.name-index c.name-item.result (omega arith) c.name-item.is in
    no (each_there (IsKept c.args.script.now c.args.known.now c.args.kept.now) ns l.name-index c.name-item.result _ there all)

pub returns-clause-copies : goal.returns-clause-copies
returns-clause-copies g c =
    let l = c.loop-name in
    copies_all c.args.shelves.now c.args.worker c.args.script.now c.args.known.now c.args.kept.now c.args.names.now l.name-index l.copies.items
    l.invariant (omega arith)
