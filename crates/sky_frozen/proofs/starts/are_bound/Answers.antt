use Rattle.sky_base.specs.Eval.{find_fun}
use Rattle.sky_state.specs.Fits.{uses_of}
use Rattle.sky_frozen.proofs.KeysLaw.{keys_from, from_keys, used_names, no_names}
use Rattle.sky_frozen.proofs.starts.are_bound.Goals as goal

pub returns-in-Some-clause-keys : goal.returns-in-Some-clause-keys
returns-in-Some-clause-keys c = λ t.
    let o = find_fun c.args.fun.now c.args.captures.now.funs in
    keys_from c.args.params.now (uses_of o) c.in_ok-own.own c.in-Some.uses.now c.in_ok-own.ensures
    (used_names o c.in-Some.uses.now c.in-Some.ensures) c.args.vars.now (c.are_set.ensures.keys t)

pub returns-in-Some-clause-no : goal.returns-in-Some-clause-no
returns-in-Some-clause-no c = λ t h g.
    let o = find_fun c.args.fun.now c.args.captures.now.funs in
    c.are_set.ensures.no t (from_keys c.args.params.now (uses_of o) c.in_ok-own.own c.in-Some.uses.now c.in_ok-own.ensures
    (used_names o c.in-Some.uses.now c.in-Some.ensures) c.args.vars.now h) g

pub returns-clause-keys : goal.returns-clause-keys
returns-clause-keys c = λ t.
    let o = find_fun c.args.fun.now c.args.captures.now.funs in
    keys_from c.args.params.now (uses_of o) c.in_ok-own.own c.new-none.result c.in_ok-own.ensures
    (no_names o c.new-none.result c.in-None.ensures c.new-none.ensures) c.args.vars.now (c.are_set-in-None.ensures.keys t)

pub returns-clause-no : goal.returns-clause-no
returns-clause-no c = λ t h g.
    let o = find_fun c.args.fun.now c.args.captures.now.funs in
    c.are_set-in-None.ensures.no t (from_keys c.args.params.now (uses_of o) c.in_ok-own.own c.new-none.result c.in_ok-own.ensures
    (no_names o c.new-none.result c.in-None.ensures c.new-none.ensures) c.args.vars.now h) g
