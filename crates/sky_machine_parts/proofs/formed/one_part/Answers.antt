use Rattle.sky_base.specs.View.{view}
use Rattle.sky_base_scope.proofs.Vars.{kept_at}
use Rattle.sky_machine_parts.proofs.formed.one_part.Goals as goal

pub returns-in-Some-clause-kept : goal.returns-in-Some-clause-kept
returns-in-Some-clause-kept c = kept_at c.args.values.now 0 (view c.in-Some.only.now) c.in-Some.ensures c.requires
