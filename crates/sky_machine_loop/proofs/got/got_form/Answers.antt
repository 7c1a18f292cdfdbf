use Rattle.std.proofs.Common.{refl, ap, arith}
use Rattle.sky_machine_exprs.proofs.LastSigns.{signs_length}
use Rattle.sky_machine_parts.specs.Made.{whole}
use Rattle.sky_machine_loop.proofs.got.got_form.Goals as goal

pub returns-in-Parens-clause-same : goal.returns-in-Parens-clause-same
returns-in-Parens-clause-same g c = λ w h. rw c.in-Parens.is refl

pub returns-in-ExecWait-clause-same : goal.returns-in-ExecWait-clause-same
returns-in-ExecWait-clause-same g c = λ w h. rw c.in-ExecWait.is refl

pub got_part-requires-clause-entry : goal.got_part-requires-clause-entry
got_part-requires-clause-entry g c = rw c.in-Part.is at c.requires.entry

pub returns-in-Part-clause-same : goal.returns-in-Part-clause-same
returns-in-Part-clause-same g c = λ w h. rw c.in-Part.is (c.in_ok-control-in-Part.ensures.same w h)

pub next_link-requires-clause-links : goal.next_link-requires-clause-links
next_link-requires-clause-links g c = (rw c.in-ChainFirst.is at c.requires.entry).1

pub returns-in-ChainFirst-clause-same : goal.returns-in-ChainFirst-clause-same
returns-in-ChainFirst-clause-same g c = λ w h.
    rw c.in-ChainFirst.is (ap (whole (g.N.Namer.digest c.args.ground.now.namer.now) c.args.made.now.items)
    (c.in_ok-control-in-ChainFirst.ensures.same w c.args.state.now))

pub got_link-requires-clause-entry : goal.got_link-requires-clause-entry
got_link-requires-clause-entry g c = rw c.in-ChainMore.is at c.requires.entry

pub returns-in-ChainMore-clause-same : goal.returns-in-ChainMore-clause-same
returns-in-ChainMore-clause-same g c = λ w h.
    rw c.in-ChainMore.is (ap (whole (g.N.Namer.digest c.args.ground.now.namer.now) c.args.made.now.items)
    (c.in_ok-control-in-ChainMore.ensures.same w))

pub got_and-requires-clause-entry : goal.got_and-requires-clause-entry
got_and-requires-clause-entry g c = rw c.in-Logic.is at c.requires.entry

pub returns-in-Logic-clause-same : goal.returns-in-Logic-clause-same
returns-in-Logic-clause-same g c = λ w h.
    rw c.in-Logic.is (ap (whole (g.N.Namer.digest c.args.ground.now.namer.now) c.args.made.now.items) (c.in_ok-control-in-Logic.ensures.same w))

pub returns-in-Prefix-clause-same : goal.returns-in-Prefix-clause-same
returns-in-Prefix-clause-same g c = λ w h.
    rw c.in-Prefix.is (ap (whole (g.N.Namer.digest c.args.ground.now.namer.now) c.args.made.now.items) (c.in_ok-control-in-Prefix.ensures.same w))

pub returns-clause-same : goal.returns-clause-same
returns-clause-same g c = λ w h.
    rw c.in-Star.is (ap (whole (g.N.Namer.digest c.args.ground.now.namer.now) c.args.made.now.items) (c.in_ok-control-in-Star.ensures.same w))

pub next_signs-requires-clause-fits : goal.next_signs-requires-clause-fits
next_signs-requires-clause-fits g c = omega (arith, c.how_many-signs.type_inv, c.how_many-signs.ensures)

pub next_signs-requires-in-Star-clause-fits : goal.next_signs-requires-in-Star-clause-fits
next_signs-requires-in-Star-clause-fits g c =
    let fits = rw c.in-Star.is at c.requires.entry in omega (arith, fits, signs_length c.in-Star.star.signs.now)
