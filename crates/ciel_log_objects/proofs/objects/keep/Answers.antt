use Rattle.std.proofs.Common.{Some, subst}
use Rattle.std.specs.BTreeMap.{Updates}
use Rattle.sky_base.specs.NameOrder.{name_cmp}
use Rattle.ciel_log_objects.proofs.objects.keep.Goals as goal

pub returns-in-Ok : goal.returns-in-Ok
returns-in-Ok c =
    subst (λ o. Updates name_cmp c.args.kept.now c.insert.new.self c.args.name.now (Some o)) c.in_ok-copy.ensures c.in-Ok.ensures.updates
