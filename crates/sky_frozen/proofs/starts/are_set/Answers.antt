use Rattle.sky_frozen.proofs.KeysLaw.{all_keys, keys_all}
use Rattle.sky_frozen.proofs.starts.are_set.Goals as goal

pub returns-clause-params : goal.returns-clause-params
returns-clause-params c = λ t. all_keys c.args.vars.now c.args.params.now (c.all_found.ensures.yes t)

pub returns-clause-no : goal.returns-clause-no
returns-clause-no c = λ t h g. c.all_found.ensures.no t (keys_all c.args.vars.now c.as_slice.ensures.rising c.args.params.now g)
