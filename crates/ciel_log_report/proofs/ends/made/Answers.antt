use Rattle.std.proofs.Common.{ap, arith, length, ◌∙◌}
use Rattle.ciel_log_report.proofs.Parts.{made_is}
use Rattle.ciel_log_report.proofs.ends.made.Goals as goal

pub returns-clause-made : goal.returns-clause-made
returns-clause-made g c =
    let copied = rw c.in-Some.is at c.in_ok-copies.ensures.copied in
    let made = rw c.in-Some-put.is at c.in_ok-put.ensures.made in
    made_is c.args.order.now c.args.shelves.now c.args.script.now c.args.known.now c.args.kept.now (g.N.Namer.digest c.args.namer.now)
    c.args.objects.now c.args.copied.now c.as_slice-listed.result.now c.in-Some.copied.items c.in-Some-put.outputs _ c.in-Of.is
    (c.as_slice-listed.ensures ∙ c.in_ok-names.ensures) copied made

pub returns-clause-kept : goal.returns-clause-kept
returns-clause-kept g c =
    let kept = rw c.in-Some-put.is at c.in_ok-put.ensures.kept in
    rw (c.as_slice-listed.ensures ∙ c.in_ok-names.ensures) at kept

pub returns-in_default-clause-refused : goal.returns-in_default-clause-refused
returns-in_default-clause-refused g c p = c.in_default.not-Of p.task.0 p.task.1

pub returns-then-listed-objects-clause-refused : goal.returns-then-listed-objects-clause-refused
returns-then-listed-objects-clause-refused g c p =
    absurd (omega (arith, c.if-listed-objects.true, p.many, ap length (c.as_slice-listed.ensures ∙ c.in_ok-names.ensures)))

pub returns-in_default-copies-clause-refused : goal.returns-in_default-copies-clause-refused
returns-in_default-copies-clause-refused g c p =
    let no = rw c.in_default-copies.is at c.in_ok-copies.ensures.refused in no p.copies

pub returns-in_default-put-clause-refused : goal.returns-in_default-put-clause-refused
returns-in_default-put-clause-refused g c p =
    let no = rw c.in_default-put.is at c.in_ok-put.ensures.refused in no p.each
