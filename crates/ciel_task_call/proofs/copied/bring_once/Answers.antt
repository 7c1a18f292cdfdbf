use Rattle.std.proofs.Common.{◌≡◌, IfOk, length, subst, sym, ap, ◌∙◌, arith}
use Rattle.sky_base.specs.JobView.{job_view}
use Rattle.ciel_task_call.specs.Finds.{Noted}
use Rattle.ciel_task_call.proofs.CopySteps.{fresh_place, names_after, stands_after, told_place}
use Rattle.ciel_task_call.proofs.FoundInputs.{fetched_so, spot_of}
use Rattle.ciel_task_call.proofs.copied.bring_once.Goals as goal

pub fetch-requires-clause-spot : goal.fetch-requires-clause-spot
fetch-requires-clause-spot g c =
    spot_of c.args.shelves.now (job_view c.args.job.now).script (job_view c.args.job.now).inputs c.args.held.now c.requires.spots c.args.name.now
    c.in-Some.one.now c.in-Some.ensures.found

pub bring-requires-clause-spot : goal.bring-requires-clause-spot
bring-requires-clause-spot g c =
    spot_of c.args.shelves.now (job_view c.args.job.now).script (job_view c.args.job.now).inputs c.args.held.now c.requires.spots c.args.name.now
    c.in-Some.one.now c.in-Some.ensures.found

pub returns-then-contains_key-clause-object : goal.returns-then-contains_key-clause-object
returns-then-contains_key-clause-object g c =
    fetched_so c.args.shelves.now (job_view c.args.job.now).script (job_view c.args.job.now).inputs c.args.held.now c.requires.spots
    c.args.name.now c.in-Some.one.now c.in_ok-fetched.fetched c.args.eye.now c.fetch.new.eye c.in-Some.ensures.found
    c.in_ok-fetched.ensures.object c.in_ok-fetched.ensures.seen

pub returns-clause-object : goal.returns-clause-object
returns-clause-object g c =
    fetched_so c.args.shelves.now (job_view c.args.job.now).script (job_view c.args.job.now).inputs c.args.held.now c.requires.spots
    c.args.name.now c.in-Some.one.now c.in_ok-brought.brought c.args.eye.now c.bring.new.eye c.in-Some.ensures.found
    c.in_ok-brought.ensures.object c.in_ok-brought.ensures.seen

pub returns-clause-copied : goal.returns-clause-copied
returns-clause-copied g c =
    let old = c.args.copied.now in
    let count : c.len-count.result ≡ length old.items.items = omega (arith, c.len-count.ensures, old.items.ok.0) in
    let noted = subst (λ k. Noted c.args.name.now k c.bring.new.copied.items old.places c.note.new.copied.places) count c.in_ok-note.ensures.places in
    stands_after c.args.shelves.now c.args.worker (job_view c.args.job.now).inputs c.args.held.now c.args.name.now c.in-Some.one.now
    c.in_ok-brought.brought old c.note.new.copied c.bring.new.copied.items c.requires.copied
    (fresh_place old.places old.items.items c.args.name.now c.requires.copied.places (sym c.contains_key.ensures ∙ c.if-contains_key.false))
    c.in-Some.ensures.found c.in_ok-brought.ensures.object c.in_ok-brought.ensures.copied noted
    (ap (λ z. z.items) c.in_ok-note.ensures.items)

pub returns-then-contains_key-clause-told : goal.returns-then-contains_key-clause-told
returns-then-contains_key-clause-told g c =
    told_place c.args.worker c.args.held.now c.args.copied.now.places c.args.copied.now.items.items c.args.name.now c.requires.copied.places
    (sym c.contains_key.ensures ∙ c.if-contains_key.true) c.in_ok-fetched.fetched

pub returns-clause-told : goal.returns-clause-told
returns-clause-told g c =
    names_after c.args.shelves.now c.args.worker (job_view c.args.job.now).inputs c.args.held.now c.args.name.now c.in-Some.one.now
    c.in_ok-brought.brought c.args.copied.now c.note.new.copied c.bring.new.copied.items
    (fresh_place c.args.copied.now.places c.args.copied.now.items.items c.args.name.now c.requires.copied.places
    (sym c.contains_key.ensures ∙ c.if-contains_key.false))
    c.in-Some.ensures.found c.in_ok-brought.ensures.copied (ap (λ z. z.items) c.in_ok-note.ensures.items)
