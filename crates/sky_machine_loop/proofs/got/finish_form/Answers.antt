use Rattle.std.proofs.Common.{sym, ap}
use Rattle.sky_machine_entries.specs.Config.{body_in, rest_in}
use Rattle.sky_machine_entries.specs.Entries.{forms}
use Rattle.sky_machine_parts.specs.Made.{whole}
use Rattle.sky_machine_loop.proofs.Passes.{form_passes, same_out}
use Rattle.sky_machine_loop.proofs.got.finish_form.Goals as goal

pub returns-in-Got-clause-same : goal.returns-in-Got-clause-same
returns-in-Got-clause-same g c = λ w h. rw c.in-Got.is (c.in_ok-control-in-Got.ensures.same w h)

pub returns-clause-same : goal.returns-clause-same
returns-clause-same g c = λ w h.
    ap (λ r. whole (g.N.Namer.digest c.args.ground.now.namer.now) c.args.made.now.items (rest_in w c.args.entries.now.items r))
    (sym (form_passes w (body_in w (forms c.args.entries.now.items)) c.args.form c.args.end c.args.state.now c.in_default.not-Got))

pub returns-clause-falls : goal.returns-clause-falls
returns-clause-falls g c = same_out c.args.end _ c.args.entries.now.items c.requires.within
