use Rattle.ciel_name.proofs.Canon.{apart_in_set, apart_by_inner}
use Rattle.ciel_name.proofs.law.canonical_bytes_tell_apart.Goals as goal

pub returns-clause-set : goal.returns-clause-set
returns-clause-set c = apart_in_set

pub returns-clause-inside : goal.returns-clause-inside
returns-clause-inside c = apart_by_inner
