use Rattle.std.proofs.Common.{refl, sym, ap}
use Rattle.sky_machine_entries.specs.Config.{body_in, rest_in}
use Rattle.sky_machine_entries.specs.Entries.{forms}
use Rattle.sky_machine_loop.proofs.Passes.{value_out}
use Rattle.sky_machine_loop.proofs.got.got_stmt.Goals as goal

pub returns-in_ok-set-in-Set-clause-same : goal.returns-in_ok-set-in-Set-clause-same
returns-in_ok-set-in-Set-clause-same g c = λ w h.
    rw c.in-Set.is (ap (rest_in w c.args.entries.now.items) (sym (c.in_ok-set-in-Set.ensures.same w (body_in w (forms c.args.entries.now.items)))))

pub returns-in_ok-set-in-Set-clause-falls : goal.returns-in_ok-set-in-Set-clause-falls
returns-in_ok-set-in-Set-clause-falls g c = value_out c.args.v _ _ c.args.entries.now.items _ c.in_ok-set-in-Set.ensures.count c.requires.within

pub returns-in_ok-add-in-Add-clause-same : goal.returns-in_ok-add-in-Add-clause-same
returns-in_ok-add-in-Add-clause-same g c = λ w h.
    rw c.in-Add.is (ap (rest_in w c.args.entries.now.items) (sym (c.in_ok-add-in-Add.ensures.same w (body_in w (forms c.args.entries.now.items)))))

pub returns-in_ok-add-in-Add-clause-falls : goal.returns-in_ok-add-in-Add-clause-falls
returns-in_ok-add-in-Add-clause-falls g c = value_out c.args.v _ _ c.args.entries.now.items _ c.in_ok-add-in-Add.ensures.count c.requires.within

pub put_index-requires-clause-entry : goal.put_index-requires-clause-entry
put_index-requires-clause-entry g c = rw c.in-PutIndex.is at c.requires.entry

pub returns-in_ok-control-in-PutIndex-clause-same : goal.returns-in_ok-control-in-PutIndex-clause-same
returns-in_ok-control-in-PutIndex-clause-same g c = λ w h. rw c.in-PutIndex.is (c.in_ok-control-in-PutIndex.ensures.same w c.args.state.now)

pub put_value-requires-clause-at : goal.put_value-requires-clause-at
put_value-requires-clause-at g c = rw c.in-PutValue.is at c.requires.entry

pub returns-in_ok-put_value-in-PutValue-clause-same : goal.returns-in_ok-put_value-in-PutValue-clause-same
returns-in_ok-put_value-in-PutValue-clause-same g c = λ w h.
    rw c.in-PutValue.is (ap (rest_in w c.args.entries.now.items)
    (sym (c.in_ok-put_value-in-PutValue.ensures.same w (body_in w (forms c.args.entries.now.items)))))

pub returns-in_ok-put_value-in-PutValue-clause-falls : goal.returns-in_ok-put_value-in-PutValue-clause-falls
returns-in_ok-put_value-in-PutValue-clause-falls g c =
    value_out c.args.v _ _ c.args.entries.now.items _ c.in_ok-put_value-in-PutValue.ensures.count c.requires.within

pub returns-in-Return-clause-same : goal.returns-in-Return-clause-same
returns-in-Return-clause-same g c = λ w h. rw c.in-Return.is refl

pub returns-in-Just-clause-same : goal.returns-in-Just-clause-same
returns-in-Just-clause-same g c = λ w h. rw c.in-Just.is refl
