-- A crew by rounds that was opened is at work, and tells at first what its gates tell.
use Rattle.std.proofs.Common.{map, ap}
use Rattle.std.specs.Arc.{arc_value}
use Rattle.ciel_run_drive.specs.Views.{entry_view}
use Rattle.ciel_run_job.proofs.Began.{kept_of, working_of}
use Rattle.ciel_run_job.proofs.Lent.{many_after, told_first}
use Rattle.ciel_run_rounds.proofs.run.by_rounds.Goals as goal

pub run_over-requires-clause-kept : goal.run_over-requires-clause-kept
run_over-requires-clause-kept g c =
    kept_of g.K.Kit.gives g.N.Namer.digest (arc_value c.args.opened.shop) c.args.plan.value c.args.opened.master
    c.args.opened.eyes.items c.requires.opened c.requires.read c.requires.inputs
    c.functions_are_orderly.ensures.orderly _ c.args.seed _ c.in-Ok.crew c.in-Ok.ensures.opened c.requires.gates c.requires.seed

pub run_over-requires-clause-working : goal.run_over-requires-clause-working
run_over-requires-clause-working g c =
    working_of g.K.Kit.gives g.N.Namer.digest (arc_value c.args.opened.shop) c.args.plan.value c.args.opened.master
    c.args.opened.eyes.items c.requires.opened c.requires.read c.requires.inputs
    c.functions_are_orderly.ensures.orderly _ _ c.in-Ok.crew c.in-Ok.ensures.opened c.requires.gates

pub run_over-requires-clause-first : goal.run_over-requires-clause-first
run_over-requires-clause-first g c = ap (λ m. m.board.journal) c.requires.opened.master

pub returns-in-Ok-clause-told : goal.returns-in-Ok-clause-told
returns-in-Ok-clause-told g c = λ ends.
    told_first (map entry_view c.run_over.result.0.journal.items) c.in-Ok.crew.told (map g.G.Gate.entered c.args.gates.items)
    (map g.G.Gate.entered c.run_over.result.1.items) (ap (λ w. w.told) c.in-Ok.ensures.opened) (c.run_over.ensures.told ends)

pub returns-in-Ok-clause-all : goal.returns-in-Ok-clause-all
returns-in-Ok-clause-all g c = λ ends.
    many_after g.G.Gate.entered (map entry_view c.run_over.result.0.journal.items) c.args.gates.items c.run_over.result.1.items
    (told_first (map entry_view c.run_over.result.0.journal.items) c.in-Ok.crew.told (map g.G.Gate.entered c.args.gates.items)
    (map g.G.Gate.entered c.run_over.result.1.items) (ap (λ w. w.told) c.in-Ok.ensures.opened) (c.run_over.ensures.told ends))
