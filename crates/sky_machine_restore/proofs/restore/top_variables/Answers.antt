use Rattle.std.proofs.Common.{Some, sym, ap, ◌∙◌}
use Rattle.sky_machine_restore.proofs.Walk.{top_at, top_kept}
use Rattle.sky_machine_restore.proofs.restore.top_variables.Goals as goal

pub returns-clause-vars : goal.returns-clause-vars
returns-clause-vars c = top_at c.args.frames.now c.in-Some.top.now c.in-Some.ensures.value ∙ ap Some (sym c.in_ok-vars.ensures)

pub returns-clause-kept : goal.returns-clause-kept
returns-clause-kept c =
    top_kept c.args.code.now c.args.frames.now c.in_ok-vars.vars c.requires.fits
    (top_at c.args.frames.now c.in-Some.top.now c.in-Some.ensures.value ∙ ap Some (sym c.in_ok-vars.ensures))
