use Rattle.sky_parse.proofs.StmLaw.{read_test}
use Rattle.sky_parse.proofs.stmt.test.Goals as goal

pub returns-clause-tree : goal.returns-clause-tree
returns-clause-tree g c = read_test c.in_ok-rest.ensures.spelled c.in_ok-e.ensures.tree c.in_ok-rest-2.ensures.spelled
