use Rattle.std.proofs.Common.{rules, not}
use Rattle.std.proofs.lemmas.Fn.{filter_same}
use Rattle.ciel_want.specs.Waited.{same_id}
use Rattle.ciel_want_ready.proofs.ready.take_off.Goals as goal

pub returns : goal.returns
returns c =
    filter_same _ (λ x. not (same_id c.args.task.now x)) _ (λ x b f' k. search rules) _ _ c.retain.ensures.filtered
