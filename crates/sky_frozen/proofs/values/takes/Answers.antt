use Rattle.std.proofs.Common.{sym, subst}
use Rattle.sky_base.specs.Eval.{find_fun}
use Rattle.sky_frozen.specs.Keys.{AllIn}
use Rattle.sky_frozen.proofs.KeysLaw.{all_taken, taken_all}
use Rattle.sky_frozen.proofs.values.takes.Goals as goal

pub returns-in-Some-clause-yes : goal.returns-in-Some-clause-yes
returns-in-Some-clause-yes c = λ t.
    let keys = c.in-Some.keys.now in
    all_taken (find_fun c.args.fun.now c.args.captures.now.funs) keys c.args.caught.now c.in-Some.ensures
    (subst (AllIn keys) c.as_slice.ensures.pairs (c.all_in.ensures.yes t))

pub returns-in-Some-clause-no : goal.returns-in-Some-clause-no
returns-in-Some-clause-no c = λ t h.
    let keys = c.in-Some.keys.now in
    c.all_in.ensures.no t (subst (AllIn keys) (sym c.as_slice.ensures.pairs)
    (taken_all (find_fun c.args.fun.now c.args.captures.now.funs) keys c.args.caught.now c.in-Some.ensures h))
