use Rattle.std.proofs.Common.{◌≡◌, [], sym, ◌∙◌, arith, eqb-true}
use Rattle.std.proofs.lemmas.List.{nil_from_length}
use Rattle.sky_machine_entries.specs.Entries.{forms, wait_of}
use Rattle.sky_machine_loop.proofs.Ends.{waits_so, makes_none, over_so, over_makes_none}
use Rattle.sky_machine_loop.proofs.Stopped.{ends_so, halts_so, grew_so}
use Rattle.sky_machine_loop.proofs.run.run_on.Goals as goal

pub returns-in-Wait-clause-reaches : goal.returns-in-Wait-clause-reaches
returns-in-Wait-clause-reaches g c = λ w h.
    halts_so (g.N.Namer.digest c.args.ground.now.namer.now) c.args.made.now.items c.steps.made.items _ _
    (rw c.in-Wait.is at (c.steps.invariant.same w h)) _ (waits_so w (forms c.steps.entries.items) (wait_of c.in-Wait.wait) c.steps.state)

pub returns-in-Wait-clause-made : goal.returns-in-Wait-clause-made
returns-in-Wait-clause-made g c = λ w h.
    grew_so (g.N.Namer.digest c.args.ground.now.namer.now) c.args.made.now.items c.steps.made.items _ _
    (rw c.in-Wait.is at (c.steps.invariant.same w h)) (makes_none w (forms c.steps.entries.items) (wait_of c.in-Wait.wait) c.steps.state)

pub returns-then-is_empty-clause-reaches : goal.returns-then-is_empty-clause-reaches
returns-then-is_empty-clause-reaches g c = λ w h.
    let none : c.steps.entries.items ≡ [] = nil_from_length c.steps.entries.items
    (omega (arith, c.steps.entries.ok.0, eqb-true _ 0 (sym c.is_empty.ensures ∙ c.if-is_empty.true))) in
    ends_so (g.N.Namer.digest c.args.ground.now.namer.now) c.args.made.now.items c.steps.made.items _ _
    (rw c.in-End.is at (c.steps.invariant.same w h)) _ _ (over_so w c.steps.entries.items c.in-End.end c.steps.state none)

pub returns-then-is_empty-clause-made : goal.returns-then-is_empty-clause-made
returns-then-is_empty-clause-made g c = λ w h.
    let none : c.steps.entries.items ≡ [] = nil_from_length c.steps.entries.items
    (omega (arith, c.steps.entries.ok.0, eqb-true _ 0 (sym c.is_empty.ensures ∙ c.if-is_empty.true))) in
    grew_so (g.N.Namer.digest c.args.ground.now.namer.now) c.args.made.now.items c.steps.made.items _ _
    (rw c.in-End.is at (c.steps.invariant.same w h)) (over_makes_none w c.steps.entries.items c.in-End.end c.steps.state none)
