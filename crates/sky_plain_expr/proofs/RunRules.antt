-- What the proofs of the interpreter's cycles go by.
use Rattle.sky_plain_expr.proofs.Weights.{exp_in, link_in, join_in, step_in, stm_in, arm_in, exps_at, links_at, ands_at, kept_add, kept_item, body_opens}
use Rattle.sky_plain_expr.proofs.Weights.{code_runs, code_missing}
use Rattle.sky_base_scope.proofs.Vars.{kept_parts}
use Rattle.sky_plain_expr.proofs.Flow.{links_first, steps_first, steps_at}

pub ruleset exp_rules = (
  exp_in,
  link_in,
  join_in,
  step_in,
  exps_at,
  links_at,
  ands_at,
  kept_add,
  kept_parts,
  kept_item,
  links_first,
  steps_first,
  steps_at,
)

pub ruleset stm_rules = (stm_in, arm_in, kept_parts, kept_item)

pub ruleset body_rules = (body_opens, code_runs, code_missing)
