-- The tasks and starts stay, or there is a start more.
use Rattle.std.proofs.Common.{◌≡◌, ◌++◌, append-nil, ap, length, map, refl, subst, sym, ◌∙◌}
use Rattle.std.specs.List.{AllZip}
use Rattle.ciel_look_told.specs.View.{told_view}
use Rattle.ciel_look_tasks.specs.CutPlaces.{cut_by, cuts_view}
use Rattle.ciel_look_tasks.specs.Happened.{happened_by}
use Rattle.ciel_look_tasks.specs.Learned.{AreMade, spawned}
use Rattle.ciel_look_tasks.specs.ObjectPlaces.{objects_view, placed}
use Rattle.ciel_look_tasks.specs.Objects.{IsTaken, lost_worker, taking_by, workers_of}
use Rattle.ciel_look_tasks.specs.ReportView.{TellsOutputs, makes_view, said_after, takes_view}
use Rattle.ciel_look_tasks.specs.Reports.{report_by, report_copied, report_made}
use Rattle.ciel_look_tasks.specs.StackPlaces.{stacks_view}
use Rattle.ciel_look_tasks.specs.Stacks.{stacked_by}
use Rattle.ciel_look_tasks.specs.Tasks.{loss_of}
use Rattle.ciel_look_tasks.specs.View.{happened_view, ids, losses_view, numbers, orders_view, starts_view}
use Rattle.ciel_look_tasks.proofs.AgainSteps.{origins_same}
use Rattle.ciel_look_tasks.proofs.CutSteps.{cuts_same, cuts_started, kept_same, kept_started}
use Rattle.ciel_look_tasks.proofs.ObjectSteps.{objects_same, placed_same}
use Rattle.ciel_look_tasks.proofs.ReportSteps.{same_outputs}
use Rattle.ciel_look_tasks.proofs.RollSteps.{rows_same}
use Rattle.ciel_look_tasks.proofs.StackSteps.{have_entered, have_same, stacks_entered, stacks_same}
use Rattle.ciel_look_tasks.proofs.make.Maker.take.Goals as goal

pub returns-in_ok-end-in-Ended-clause-rows : goal.returns-in_ok-end-in-Ended-clause-rows
returns-in_ok-end-in-Ended-clause-rows c =
    rows_same _ _ _ _ c.in_ok-end-in-Ended.ensures.rows c.in_ok-end-in-Ended.ensures.starts

pub returns-in_ok-lose-in-Lost-clause-rows : goal.returns-in_ok-lose-in-Lost-clause-rows
returns-in_ok-lose-in-Lost-clause-rows c =
    rows_same _ _ _ _ c.in_ok-lose-in-Lost.ensures.rows c.in_ok-lose-in-Lost.ensures.starts

pub returns-in_ok-end-in-Ended-clause-origins : goal.returns-in_ok-end-in-Ended-clause-origins
returns-in_ok-end-in-Ended-clause-origins c =
    origins_same _ _ _ _ c.end.ensures.origins c.in_ok-end-in-Ended.ensures.starts

pub returns-in_ok-lose-in-Lost-clause-origins : goal.returns-in_ok-lose-in-Lost-clause-origins
returns-in_ok-lose-in-Lost-clause-origins c =
    origins_same _ _ _ _ c.lose.ensures.origins c.in_ok-lose-in-Lost.ensures.starts

pub returns-in_ok-begin-in-Start-clause-cuts : goal.returns-in_ok-begin-in-Start-clause-cuts
returns-in_ok-begin-in-Start-clause-cuts c =
    let m = c.args.self.now in
    let n = c.begin.new.self in
    λ h. subst (λ t. cuts_view (numbers n.starts.runs.items) n.losses.items
    ≡ cuts_view (numbers m.starts.runs.items) m.losses.items ++ cut_by (orders_view m.starts.runs.items) (told_view t)) (sym c.in-Start.is)
    (cuts_started _ _ _ _ _ (ap (λ ls. ls.items) c.begin.ensures.losses) c.in_ok-begin-in-Start.ensures.starts h)

pub returns-in_ok-begin-in-Start-clause-kept : goal.returns-in_ok-begin-in-Start-clause-kept
returns-in_ok-begin-in-Start-clause-kept c =
    λ h. kept_started _ _ _ _ _ (ap (λ ls. ls.items) c.begin.ensures.losses) c.in_ok-begin-in-Start.ensures.starts h

pub returns-in_ok-end-in-Ended-clause-cuts : goal.returns-in_ok-end-in-Ended-clause-cuts
returns-in_ok-end-in-Ended-clause-cuts c =
    let m = c.args.self.now in
    let n = c.end.new.self in
    λ h. subst (λ t. cuts_view (numbers n.starts.runs.items) n.losses.items
    ≡ cuts_view (numbers m.starts.runs.items) m.losses.items ++ cut_by (orders_view m.starts.runs.items) (told_view t)) (sym c.in-Ended.is)
    (cuts_same _ _ _ _ (ap (λ ls. ls.items) c.end.ensures.losses) c.in_ok-end-in-Ended.ensures.starts)

pub returns-in_ok-end-in-Ended-clause-kept : goal.returns-in_ok-end-in-Ended-clause-kept
returns-in_ok-end-in-Ended-clause-kept c =
    λ h. kept_same _ _ _ _ (ap (λ ls. ls.items) c.end.ensures.losses) c.in_ok-end-in-Ended.ensures.starts h

pub returns-in_ok-lose-in-Lost-clause-cuts : goal.returns-in_ok-lose-in-Lost-clause-cuts
returns-in_ok-lose-in-Lost-clause-cuts c =
    let m = c.args.self.now in
    let n = c.lose.new.self in
    λ h. subst (λ t. cuts_view (numbers n.starts.runs.items) n.losses.items
    ≡ cuts_view (numbers m.starts.runs.items) m.losses.items ++ cut_by (orders_view m.starts.runs.items) (told_view t)) (sym c.in-Lost.is)
    c.in_ok-lose-in-Lost.ensures.cuts

pub returns-in-Late-clause-cuts : goal.returns-in-Late-clause-cuts
returns-in-Late-clause-cuts c =
    let m = c.args.self.now in
    let cut = cuts_view (numbers m.starts.runs.items) m.losses.items in
    λ h. subst (λ t. cut ≡ cut ++ cut_by (orders_view m.starts.runs.items) (told_view t)) (sym c.in-Late.is) (sym (append-nil cut))

pub returns-in_ok-begin-in-Start-clause-made : goal.returns-in_ok-begin-in-Start-clause-made
returns-in_ok-begin-in-Start-clause-made c =
    λ h. subst (λ b. AreMade c.args.self.now.book.short b.known.all.items) (sym c.begin.ensures.book) h

pub returns-in_ok-end-in-Ended-clause-made : goal.returns-in_ok-end-in-Ended-clause-made
returns-in_ok-end-in-Ended-clause-made c = c.in_ok-end-in-Ended.ensures.made

pub returns-in_ok-lose-in-Lost-clause-made : goal.returns-in_ok-lose-in-Lost-clause-made
returns-in_ok-lose-in-Lost-clause-made c =
    λ h. subst (λ b. AreMade c.args.self.now.book.short b.known.all.items) (sym c.lose.ensures.book) h

pub returns-in_ok-begin-in-Start-clause-happened : goal.returns-in_ok-begin-in-Start-clause-happened
returns-in_ok-begin-in-Start-clause-happened c =
    let m = c.args.self.now in
    let old = happened_view m.happened.items in
    subst (λ t. happened_view c.begin.new.self.happened.items
    ≡ old ++ happened_by (length (starts_view m.starts.runs.items)) (orders_view m.starts.runs.items) (length (losses_view m.losses.items)) (told_view t))
    (sym c.in-Start.is) c.in_ok-begin-in-Start.ensures.happened

pub returns-in_ok-end-in-Ended-clause-happened : goal.returns-in_ok-end-in-Ended-clause-happened
returns-in_ok-end-in-Ended-clause-happened c =
    let m = c.args.self.now in
    let old = happened_view m.happened.items in
    subst (λ t. happened_view c.end.new.self.happened.items
    ≡ old ++ happened_by (length (starts_view m.starts.runs.items)) (orders_view m.starts.runs.items) (length (losses_view m.losses.items)) (told_view t))
    (sym c.in-Ended.is) c.in_ok-end-in-Ended.ensures.happened

pub returns-in_ok-lose-in-Lost-clause-happened : goal.returns-in_ok-lose-in-Lost-clause-happened
returns-in_ok-lose-in-Lost-clause-happened c =
    let m = c.args.self.now in
    let old = happened_view m.happened.items in
    subst (λ t. happened_view c.lose.new.self.happened.items
    ≡ old ++ happened_by (length (starts_view m.starts.runs.items)) (orders_view m.starts.runs.items) (length (losses_view m.losses.items)) (told_view t))
    (sym c.in-Lost.is) c.in_ok-lose-in-Lost.ensures.happened

pub returns-in-Late-clause-happened : goal.returns-in-Late-clause-happened
returns-in-Late-clause-happened c =
    let m = c.args.self.now in
    let old = happened_view m.happened.items in
    subst (λ t. old
    ≡ old ++ happened_by (length (starts_view m.starts.runs.items)) (orders_view m.starts.runs.items) (length (losses_view m.losses.items)) (told_view t))
    (sym c.in-Late.is) (sym (append-nil old))

pub returns-in_ok-begin-in-Start-clause-took : goal.returns-in_ok-begin-in-Start-clause-took
returns-in_ok-begin-in-Start-clause-took c =
    let m = c.args.self.now in
    let old = takes_view m.starts.runs.items in
    λ ds. subst (λ t. takes_view c.begin.new.self.starts.runs.items
    ≡ said_after report_copied (told_view t) (report_by m.book.short ds (orders_view m.starts.runs.items) (told_view t)) old)
    (sym c.in-Start.is) c.in_ok-begin-in-Start.ensures.took

pub returns-in_ok-begin-in-Start-clause-outputs : goal.returns-in_ok-begin-in-Start-clause-outputs
returns-in_ok-begin-in-Start-clause-outputs c =
    let m = c.args.self.now in
    let old = makes_view m.starts.runs.items in
    λ ds h. subst (λ t. makes_view c.begin.new.self.starts.runs.items
    ≡ said_after report_made (told_view t) (report_by m.book.short (ds ++ spawned (told_view t)) (orders_view m.starts.runs.items) (told_view t)) old)
    (sym c.in-Start.is) c.in_ok-begin-in-Start.ensures.outputs

pub returns-in_ok-begin-in-Start-clause-names : goal.returns-in_ok-begin-in-Start-clause-names
returns-in_ok-begin-in-Start-clause-names c =
    let m = c.args.self.now in
    λ ds h. subst (λ t. TellsOutputs m.book.short c.begin.new.self.book.outputs (ds ++ spawned (told_view t)))
    (sym c.in-Start.is) (same_outputs m.book c.begin.new.self.book ds c.begin.ensures.book h)

pub returns-in_ok-end-in-Ended-clause-took : goal.returns-in_ok-end-in-Ended-clause-took
returns-in_ok-end-in-Ended-clause-took c =
    let m = c.args.self.now in
    let old = takes_view m.starts.runs.items in
    λ ds. subst (λ t. takes_view c.end.new.self.starts.runs.items
    ≡ said_after report_copied (told_view t) (report_by m.book.short ds (orders_view m.starts.runs.items) (told_view t)) old)
    (sym c.in-Ended.is) (c.in_ok-end-in-Ended.ensures.took ds)

pub returns-in_ok-end-in-Ended-clause-outputs : goal.returns-in_ok-end-in-Ended-clause-outputs
returns-in_ok-end-in-Ended-clause-outputs c =
    let m = c.args.self.now in
    let old = makes_view m.starts.runs.items in
    λ ds h. subst (λ t. makes_view c.end.new.self.starts.runs.items
    ≡ said_after report_made (told_view t) (report_by m.book.short (ds ++ spawned (told_view t)) (orders_view m.starts.runs.items) (told_view t)) old)
    (sym c.in-Ended.is) (c.in_ok-end-in-Ended.ensures.outputs ds h)

pub returns-in_ok-end-in-Ended-clause-names : goal.returns-in_ok-end-in-Ended-clause-names
returns-in_ok-end-in-Ended-clause-names c =
    let m = c.args.self.now in
    λ ds h. subst (λ t. TellsOutputs m.book.short c.end.new.self.book.outputs (ds ++ spawned (told_view t)))
    (sym c.in-Ended.is) (c.in_ok-end-in-Ended.ensures.names ds h)

pub returns-in_ok-lose-in-Lost-clause-took : goal.returns-in_ok-lose-in-Lost-clause-took
returns-in_ok-lose-in-Lost-clause-took c =
    let m = c.args.self.now in
    let old = takes_view m.starts.runs.items in
    λ ds. subst (λ t. takes_view c.lose.new.self.starts.runs.items
    ≡ said_after report_copied (told_view t) (report_by m.book.short ds (orders_view m.starts.runs.items) (told_view t)) old)
    (sym c.in-Lost.is) c.in_ok-lose-in-Lost.ensures.took

pub returns-in_ok-lose-in-Lost-clause-outputs : goal.returns-in_ok-lose-in-Lost-clause-outputs
returns-in_ok-lose-in-Lost-clause-outputs c =
    let m = c.args.self.now in
    let old = makes_view m.starts.runs.items in
    λ ds h. subst (λ t. makes_view c.lose.new.self.starts.runs.items
    ≡ said_after report_made (told_view t) (report_by m.book.short (ds ++ spawned (told_view t)) (orders_view m.starts.runs.items) (told_view t)) old)
    (sym c.in-Lost.is) c.in_ok-lose-in-Lost.ensures.outputs

pub returns-in_ok-lose-in-Lost-clause-names : goal.returns-in_ok-lose-in-Lost-clause-names
returns-in_ok-lose-in-Lost-clause-names c =
    let m = c.args.self.now in
    λ ds h. subst (λ t. TellsOutputs m.book.short c.lose.new.self.book.outputs (ds ++ spawned (told_view t)))
    (sym c.in-Lost.is) (same_outputs m.book c.lose.new.self.book ds c.lose.ensures.book h)

pub returns-in-Late-clause-took : goal.returns-in-Late-clause-took
returns-in-Late-clause-took c =
    let m = c.args.self.now in
    let old = takes_view m.starts.runs.items in
    λ ds. subst (λ t. old ≡ said_after report_copied (told_view t) (report_by m.book.short ds (orders_view m.starts.runs.items) (told_view t)) old)
    (sym c.in-Late.is) refl

pub returns-in-Late-clause-outputs : goal.returns-in-Late-clause-outputs
returns-in-Late-clause-outputs c =
    let m = c.args.self.now in
    let old = makes_view m.starts.runs.items in
    λ ds h. subst (λ t. old ≡ said_after report_made (told_view t)
    (report_by m.book.short (ds ++ spawned (told_view t)) (orders_view m.starts.runs.items) (told_view t)) old) (sym c.in-Late.is) refl

pub returns-in-Late-clause-names : goal.returns-in-Late-clause-names
returns-in-Late-clause-names c =
    let m = c.args.self.now in
    λ ds h. subst (λ t. TellsOutputs m.book.short m.book.outputs (ds ++ spawned (told_view t))) (sym c.in-Late.is)
    (subst (TellsOutputs m.book.short m.book.outputs) (sym (append-nil ds)) h)

pub returns-in_ok-begin-in-Start-clause-stacked : goal.returns-in_ok-begin-in-Start-clause-stacked
returns-in_ok-begin-in-Start-clause-stacked c =
    let m = c.args.self.now in
    let n = c.begin.new.self in
    let old = stacks_view (ids m.roll.tasks.items) m.losses.items in
    λ f h. subst (λ t. stacks_view (ids n.roll.tasks.items) n.losses.items
    ≡ old ++ stacked_by (ids m.roll.tasks.items) (orders_view m.starts.runs.items) (told_view t)) (sym c.in-Start.is)
    (stacks_entered (ids m.roll.tasks.items) (ids n.roll.tasks.items) _ m.losses.items n.losses.items c.in_ok-begin-in-Start.ensures.tasks
    (ap (λ ls. ls.items) c.begin.ensures.losses) h)

pub returns-in_ok-begin-in-Start-clause-have : goal.returns-in_ok-begin-in-Start-clause-have
returns-in_ok-begin-in-Start-clause-have c =
    let m = c.args.self.now in
    let n = c.begin.new.self in
    λ f h. have_entered (ids m.roll.tasks.items) (ids n.roll.tasks.items) _ m.losses.items n.losses.items c.in_ok-begin-in-Start.ensures.tasks
    (ap (λ ls. ls.items) c.begin.ensures.losses) h

pub returns-in_ok-end-in-Ended-clause-stacked : goal.returns-in_ok-end-in-Ended-clause-stacked
returns-in_ok-end-in-Ended-clause-stacked c =
    let m = c.args.self.now in
    let n = c.end.new.self in
    let old = stacks_view (ids m.roll.tasks.items) m.losses.items in
    λ f h. subst (λ t. stacks_view (ids n.roll.tasks.items) n.losses.items
    ≡ old ++ stacked_by (ids m.roll.tasks.items) (orders_view m.starts.runs.items) (told_view t)) (sym c.in-Ended.is)
    (stacks_same (ids m.roll.tasks.items) (ids n.roll.tasks.items) m.losses.items n.losses.items c.in_ok-end-in-Ended.ensures.tasks
    (ap (λ ls. ls.items) c.end.ensures.losses))

pub returns-in_ok-end-in-Ended-clause-have : goal.returns-in_ok-end-in-Ended-clause-have
returns-in_ok-end-in-Ended-clause-have c =
    let m = c.args.self.now in
    let n = c.end.new.self in
    λ f h. have_same (ids m.roll.tasks.items) (ids n.roll.tasks.items) m.losses.items n.losses.items c.in_ok-end-in-Ended.ensures.tasks
    (ap (λ ls. ls.items) c.end.ensures.losses) h

pub returns-in_ok-lose-in-Lost-clause-stacked : goal.returns-in_ok-lose-in-Lost-clause-stacked
returns-in_ok-lose-in-Lost-clause-stacked c =
    let m = c.args.self.now in
    let n = c.lose.new.self in
    let old = stacks_view (ids m.roll.tasks.items) m.losses.items in
    λ f h. subst (λ t. stacks_view (ids n.roll.tasks.items) n.losses.items
    ≡ old ++ stacked_by (ids m.roll.tasks.items) (orders_view m.starts.runs.items) (told_view t)) (sym c.in-Lost.is)
    (c.in_ok-lose-in-Lost.ensures.stacked f)

pub returns-in_ok-lose-in-Lost-clause-have : goal.returns-in_ok-lose-in-Lost-clause-have
returns-in_ok-lose-in-Lost-clause-have c = c.in_ok-lose-in-Lost.ensures.have

pub returns-in-Late-clause-stacked : goal.returns-in-Late-clause-stacked
returns-in-Late-clause-stacked c =
    let m = c.args.self.now in
    let old = stacks_view (ids m.roll.tasks.items) m.losses.items in
    λ f h. subst (λ t. old ≡ old ++ stacked_by (ids m.roll.tasks.items) (orders_view m.starts.runs.items) (told_view t)) (sym c.in-Late.is)
    (sym (append-nil old))

pub returns-in_ok-begin-in-Start-clause-places : goal.returns-in_ok-begin-in-Start-clause-places
returns-in_ok-begin-in-Start-clause-places c =
    let m = c.args.self.now in
    let n' = c.begin.new.self in
    λ ds h n. subst (λ t. placed n'.places.at n ≡ placed m.places.at n ++ workers_of (report_by m.book.short (ds ++ spawned (told_view t))
    (orders_view m.starts.runs.items) (told_view t)) n) (sym c.in-Start.is) (placed_same m.places.at n'.places.at (ap (λ p. p.at) c.begin.ensures.places) n)

pub returns-in_ok-begin-in-Start-clause-gone : goal.returns-in_ok-begin-in-Start-clause-gone
returns-in_ok-begin-in-Start-clause-gone c =
    let m = c.args.self.now in
    subst (λ t. c.begin.new.self.places.gone.items ≡ m.places.gone.items ++ map lost_worker (loss_of (told_view t))) (sym c.in-Start.is)
    (ap (λ p. p.gone.items) c.begin.ensures.places ∙ sym (append-nil m.places.gone.items))

pub returns-in_ok-begin-in-Start-clause-objects : goal.returns-in_ok-begin-in-Start-clause-objects
returns-in_ok-begin-in-Start-clause-objects c =
    let m = c.args.self.now in
    λ us z. subst (λ t. AllZip IsTaken (us ++ taking_by m.places.gone.items (placed m.places.at) (told_view t)) (objects_view c.begin.new.self.losses.items))
    (sym c.in-Start.is) (objects_same m.losses.items c.begin.new.self.losses.items (ap (λ ls. ls.items) c.begin.ensures.losses) us z)

pub returns-in_ok-end-in-Ended-clause-places : goal.returns-in_ok-end-in-Ended-clause-places
returns-in_ok-end-in-Ended-clause-places c =
    let m = c.args.self.now in
    let n' = c.end.new.self in
    λ ds h n. subst (λ t. placed n'.places.at n ≡ placed m.places.at n ++ workers_of (report_by m.book.short (ds ++ spawned (told_view t))
    (orders_view m.starts.runs.items) (told_view t)) n) (sym c.in-Ended.is) (c.in_ok-end-in-Ended.ensures.places ds h n)

pub returns-in_ok-end-in-Ended-clause-gone : goal.returns-in_ok-end-in-Ended-clause-gone
returns-in_ok-end-in-Ended-clause-gone c =
    let m = c.args.self.now in
    subst (λ t. c.end.new.self.places.gone.items ≡ m.places.gone.items ++ map lost_worker (loss_of (told_view t))) (sym c.in-Ended.is)
    (ap (λ g. g.items) c.end.ensures.gone ∙ sym (append-nil m.places.gone.items))

pub returns-in_ok-end-in-Ended-clause-objects : goal.returns-in_ok-end-in-Ended-clause-objects
returns-in_ok-end-in-Ended-clause-objects c =
    let m = c.args.self.now in
    λ us z. subst (λ t. AllZip IsTaken (us ++ taking_by m.places.gone.items (placed m.places.at) (told_view t)) (objects_view c.end.new.self.losses.items))
    (sym c.in-Ended.is) (objects_same m.losses.items c.end.new.self.losses.items (ap (λ ls. ls.items) c.end.ensures.losses) us z)

pub returns-in_ok-lose-in-Lost-clause-places : goal.returns-in_ok-lose-in-Lost-clause-places
returns-in_ok-lose-in-Lost-clause-places c =
    let m = c.args.self.now in
    let n' = c.lose.new.self in
    λ ds h n. subst (λ t. placed n'.places.at n ≡ placed m.places.at n ++ workers_of (report_by m.book.short (ds ++ spawned (told_view t))
    (orders_view m.starts.runs.items) (told_view t)) n) (sym c.in-Lost.is) (placed_same m.places.at n'.places.at c.lose.ensures.places n)

pub returns-in_ok-lose-in-Lost-clause-gone : goal.returns-in_ok-lose-in-Lost-clause-gone
returns-in_ok-lose-in-Lost-clause-gone c =
    let m = c.args.self.now in
    subst (λ t. c.lose.new.self.places.gone.items ≡ m.places.gone.items ++ map lost_worker (loss_of (told_view t))) (sym c.in-Lost.is)
    c.in_ok-lose-in-Lost.ensures.gone

pub returns-in_ok-lose-in-Lost-clause-objects : goal.returns-in_ok-lose-in-Lost-clause-objects
returns-in_ok-lose-in-Lost-clause-objects c =
    let m = c.args.self.now in
    λ us z. subst (λ t. AllZip IsTaken (us ++ taking_by m.places.gone.items (placed m.places.at) (told_view t)) (objects_view c.lose.new.self.losses.items))
    (sym c.in-Lost.is) (c.in_ok-lose-in-Lost.ensures.objects us z)

pub returns-in-Late-clause-places : goal.returns-in-Late-clause-places
returns-in-Late-clause-places c =
    let m = c.args.self.now in
    λ ds h n. subst (λ t. placed m.places.at n ≡ placed m.places.at n ++ workers_of (report_by m.book.short (ds ++ spawned (told_view t))
    (orders_view m.starts.runs.items) (told_view t)) n) (sym c.in-Late.is) (sym (append-nil (placed m.places.at n)))

pub returns-in-Late-clause-gone : goal.returns-in-Late-clause-gone
returns-in-Late-clause-gone c =
    let m = c.args.self.now in
    subst (λ t. m.places.gone.items ≡ m.places.gone.items ++ map lost_worker (loss_of (told_view t))) (sym c.in-Late.is)
    (sym (append-nil m.places.gone.items))

pub returns-in-Late-clause-objects : goal.returns-in-Late-clause-objects
returns-in-Late-clause-objects c =
    let m = c.args.self.now in
    λ us z. subst (λ t. AllZip IsTaken (us ++ taking_by m.places.gone.items (placed m.places.at) (told_view t)) (objects_view m.losses.items))
    (sym c.in-Late.is) (objects_same m.losses.items m.losses.items refl us z)
