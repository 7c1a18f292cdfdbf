use Rattle.sky_parse.proofs.StmLaw.{read_ended}
use Rattle.sky_parse.proofs.stmt.ended.Goals as goal

pub returns-clause-tree : goal.returns-clause-tree
returns-clause-tree g c = read_ended c.in_ok-e.ensures.tree c.in_ok-rest.ensures.spelled
