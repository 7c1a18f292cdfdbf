use Rattle.sky_base.specs.View.{view}
use Rattle.sky_base_scope.proofs.Vars.{kept_at}
use Rattle.sky_machine_parts.proofs.formed.two_parts.Goals as goal

pub returns-clause-kept : goal.returns-clause-kept
returns-clause-kept c =
    let vs = c.args.values.now in (
      kept_at vs 0 (view c.in-Some.first.now) c.in-Some.ensures c.requires,
      kept_at vs 1 (view c.in-Some-get.second.now) c.in-Some-get.ensures c.requires,
    )
