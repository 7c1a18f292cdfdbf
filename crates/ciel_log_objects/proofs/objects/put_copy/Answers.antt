use Rattle.std.proofs.Common.{refl, sym}
use Rattle.ciel_task_order.specs.declared.block.Spot.{Spot}
use Rattle.ciel_log_objects.proofs.Built.{copy_of}
use Rattle.ciel_log_objects.proofs.Fails.{kept_fails, not_kept}
use Rattle.ciel_log_objects.proofs.objects.put_copy.Goals as goal

pub returns-clause-copy : goal.returns-clause-copy
returns-clause-copy g c =
    let n = c.in_ok-put.ensures in
    let passes = rw c.in-Some-put.is at n.passes in
    let lies = rw c.in-Some-put.is at n.lies in
    copy_of c.args.shelves.now c.args.worker c.args.script.now c.args.known.now c.args.kept.now
    (record { name = c.args.name.now; at = Spot.Shelf c.in-Some-put.place }) c.in-Some.object.now c.in-Some-put.place refl
    (sym c.in-Some.ensures.value) passes lies

pub returns-in_default-clause-refused : goal.returns-in_default-clause-refused
returns-in_default-clause-refused g c k =
    not_kept c.args.script.now c.args.known.now c.args.kept.now c.args.name.now (sym c.in_default.ensures.value) k

pub returns-in_default-put-clause-refused : goal.returns-in_default-put-clause-refused
returns-in_default-put-clause-refused g c k =
    let no = rw c.in_default-put.is at c.in_ok-put.ensures.refused in
    kept_fails c.args.script.now c.args.known.now c.args.kept.now c.args.name.now c.in-Some.object.now (sym c.in-Some.ensures.value) no k
